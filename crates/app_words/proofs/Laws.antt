-- What `FormOf` gives at words that hold any names.
use Rattle.std.proofs.Common.{◌≡◌, refl, codes, false, [], ◌∷◌, ◌++◌, Some, None, option_map}
use Rattle.clap.specs.Words.{Text}
use Rattle.clap.proofs.OnLiterals.{clap_on_literals}
use Rattle.app_words.specs.Command.{command}
use Rattle.app_words.specs.Forms.{FormOf, run, check, size_of}

-- after `--` any two words are the names
pub any_names : (p app script : Text) → FormOf (p ∷ codes "--" ∷ app ∷ script ∷ []) ≡ Some (run (record { w = 80; h = 24 }) (record { trace = false; state = false; layout = false; prefs = false }) app script)
unfolding clap_on_literals command FormOf
any_names p app script = refl

pub any_check : (p app : Text) → FormOf (p ∷ (codes "--check=" ++ app) ∷ []) ≡ Some (check app)
unfolding clap_on_literals command FormOf
any_check p app = refl

any_size : (p size app script : Text) → FormOf (p ∷ (codes "--size=" ++ size) ∷ codes "--" ∷ app ∷ script ∷ [])
    ≡ option_map (λ s. run s (record { trace = false; state = false; layout = false; prefs = false }) app script) (size_of size)
unfolding clap_on_literals command FormOf
any_size p size app script = refl
