-- How often ids stood before, as a table of paths of one step counts them.
use Rattle.std.specs.Prelude.{ℕ, List, [], ◌∷◌, unwrap_or}
use Rattle.std.specs.Map.{lookup}
use Rattle.identity_path.specs.Order.{same_path}
use Rattle.identity_path.specs.declared.step.Step.{Step}
use Rattle.identity_path.specs.declared.step.Step.TheVariants as step
use Rattle.sv_value.specs.declared.value.Value.{Value}

-- the key of an id
abbrev pub key_of : Value → List Step
key_of id = step.Id id ∷ []

-- the number at a key; what has none stood 0 times
abbrev pub counted_at : List (List Step × ℕ) → List Step → ℕ
counted_at entries key = unwrap_or (lookup (same_path key) entries) 0
