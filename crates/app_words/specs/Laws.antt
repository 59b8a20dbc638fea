-- What a reader may rely on, whatever the names are.
use Rattle.std.specs.Prelude.{◌≡◌, ◌==◌, Bool, true, false, List, [], ◌∷◌, ◌++◌, Option, Some, None, codes, if◌then◌else◌}
use Rattle.clap.specs.Words.{Text}
use Rattle.app_words.specs.Forms.{Form, run, check}

-- the word does not begin with `-` (45)
abbrev pub is_plain_word : Text → Bool
is_plain_word [] = true
is_plain_word (x ∷ xs) = if x == 45 then false else true

-- 80x24 and no listings
abbrev pub plain_run : Text → Text → Form
plain_run app script = run (record { w = 80; h = 24 }) (record { trace = false; state = false; layout = false; prefs = false }) app script

pub record ReadsNames (words : List Text) (form : Option Form) : Type 0 where
  -- two words that do not begin with `-` are the names
  pub plain : (program app script : Text) → words ≡ program ∷ app ∷ script ∷ [] → is_plain_word app ≡ true → is_plain_word script ≡ true
      → form ≡ Some (plain_run app script)
  -- after `--` any two words are
  pub escaped : (program app script : Text) → words ≡ program ∷ codes "--" ∷ app ∷ script ∷ [] → form ≡ Some (plain_run app script)
  pub checked : (program app : Text) → words ≡ program ∷ (codes "--check=" ++ app) ∷ [] → form ≡ Some (check app)
