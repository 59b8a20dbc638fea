-- The text of a path, as its bytes.
use Rattle.std.specs.Prelude.{ℕ, Bool, true, List, [], ◌∷◌, ◌++◌, codes, if◌then◌else◌, ◌==◌, length, nat_lt, slice_index_or}
use Rattle.std.specs.List.{join_by, list_all}
use Rattle.std.specs.Fmt.{decimal}
use Rattle.sv_value.specs.declared.names.Names.{Names}
use Rattle.sv_value.specs.Names.{is_named}
use Rattle.sv_value.specs.Print.{print}
use Rattle.identity_path.specs.declared.step.Step.{Step}
use Rattle.identity_path.specs.declared.step.Step.TheVariants as step

-- how many earlier items have an equal id, where there are any
abbrev pub again_text : ℕ → List ℕ
again_text again = if again == 0 then [] else codes ";" ++ decimal again

-- the text of one step
abbrev pub step_text : Names → Step → List ℕ
step_text names (step.Child i) = decimal i
step_text names (step.Branch k) = codes "?" ++ decimal k
step_text names (step.Item id again) = codes "[" ++ print names id ++ again_text again ++ codes "]"
step_text names (step.Id id) = codes "=" ++ print names id
step_text names (step.View view) = slice_index_or names.views view []
step_text names (step.Overlay n) = codes "+" ++ decimal n
step_text names (step.Background n) = codes "-" ++ decimal n
step_text names (step.Pref n) = codes "^" ++ decimal n

-- the text of a path: its steps, joined by `/`
abbrev pub path_text : Names → List Step → List ℕ
path_text names [] = codes "/"
path_text names (s ∷ steps) = join_by (step_text names) (codes "/") (s ∷ steps)

-- whether the views and values in a step have names
abbrev pub is_named_step : Names → Step → Bool
is_named_step names (step.Item id again) = is_named names id
is_named_step names (step.Id id) = is_named names id
is_named_step names (step.View view) = nat_lt view (length names.views)
is_named_step names other = true

-- whether those in all steps have
abbrev pub is_named_path : Names → List Step → Bool
is_named_path names = list_all (is_named_step names)
