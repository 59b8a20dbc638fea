-- What `FormOf` gives at words that are written out.
use Rattle.std.proofs.Common.{◌≡◌, refl, codes, true, false, [], ◌∷◌, Some, None}
use Rattle.clap.proofs.OnLiterals.{clap_on_literals}
use Rattle.app_words.specs.Command.{command}
use Rattle.app_words.specs.Forms.{FormOf, run, workload}

two_files : FormOf (codes "swiftview" ∷ codes "a" ∷ codes "b" ∷ []) ≡ Some (run (record { w = 80; h = 24 }) (record { trace = false; state = false; layout = false; prefs = false }) (codes "a") (codes "b"))
unfolding clap_on_literals command FormOf
two_files = refl

sized : FormOf (codes "swiftview" ∷ codes "--size=9x3" ∷ codes "--trace" ∷ codes "a" ∷ codes "b" ∷ []) ≡ Some (run (record { w = 9; h = 3 }) (record { trace = true; state = false; layout = false; prefs = false }) (codes "a") (codes "b"))
unfolding clap_on_literals command FormOf
sized = refl

repeated : FormOf (codes "swiftview" ∷ codes "--trace" ∷ codes "--trace" ∷ codes "a" ∷ codes "b" ∷ []) ≡ None
unfolding clap_on_literals command FormOf
repeated = refl

escaped : FormOf (codes "swiftview" ∷ codes "a" ∷ codes "--" ∷ codes "-b" ∷ []) ≡ Some (run (record { w = 80; h = 24 }) (record { trace = false; state = false; layout = false; prefs = false }) (codes "a") (codes "-b"))
unfolding clap_on_literals command FormOf
escaped = refl

counted : FormOf (codes "swiftview" ∷ codes "--workload" ∷ codes "3000" ∷ []) ≡ Some (workload 3000)
unfolding clap_on_literals command FormOf
counted = refl

too_many : FormOf (codes "swiftview" ∷ codes "--check" ∷ codes "a" ∷ codes "b" ∷ []) ≡ None
unfolding clap_on_literals command FormOf
too_many = refl
