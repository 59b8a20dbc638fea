-- The cases of an enum, one after the other.
use Rattle.std.proofs.Common.{◌≡◌, ℕ, ◌+◌, [], ◌∷◌, ◌++◌, add-one}
use Rattle.sv_value.specs.declared.value.Value.TheVariants as value
use Rattle.post_rules.specs.Members.{cases}

pub cases_turn : (d n : ℕ) → cases d (n + 1) ≡ cases d n ++ value.Case d n ∷ []
cases_turn d n = rw add-one
