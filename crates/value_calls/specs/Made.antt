-- Values as they are made: none weighs more than 65,536.
use Rattle.std.specs.Prelude.{nat_le, Some, Ok, Err, if◌then◌else◌}
use Rattle.sv_value.specs.declared.value.Value.{Value}
use Rattle.sv_value.specs.Value.{weight}
use Rattle.value_calls.specs.declared.traps.TrapKind.TheVariants.{Weight}
use Rattle.value_calls.specs.Traps.{Outcome}

-- the value, unless it weighs more than a value may
unfoldable pub made : Value → Outcome Value
made value = if nat_le (weight value) 65536 then Some (Ok value) else Some (Err Weight)
