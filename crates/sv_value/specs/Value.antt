-- The weight of a value: 1 for a number, a truth value, nil and a case, 1 and its bytes for a string, and 1 and the weights
-- of its parts for a list, a struct and a filled optional.
use Rattle.std.specs.Prelude.{ℕ, ◌+◌, Option, Some, None, sum, length}
use Rattle.sv_value.specs.declared.value.Value.{Value}
use Rattle.sv_value.specs.declared.value.Value.TheOpen as one
use Rattle.sv_value.specs.declared.value.Value.TheOpen.{Value-F}
use Rattle.sv_value.specs.declared.value.Value.TheFolds.{fold-Value}

-- nil, or a filled optional with the weight of its value
abbrev pub some_weight : Option ℕ → ℕ
some_weight None = 1
some_weight (Some w) = 1 + w

-- one level, with the weight of each part in its place
abbrev pub weight_step : Value-F ℕ → ℕ
weight_step (one.Int n) = 1
weight_step (one.Bool b) = 1
weight_step (one.Str text) = 1 + length text
weight_step (one.List parts) = 1 + sum parts
weight_step (one.Opt part) = some_weight part
weight_step (one.Struct kind parts) = 1 + sum parts
weight_step (one.Case kind place) = 1

-- the weight of a value
abbrev pub weight : Value → ℕ
weight = fold-Value ℕ weight_step
