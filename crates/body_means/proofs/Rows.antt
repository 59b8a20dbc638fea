-- Worked rows: repeated ids, and the count of a description.
use Rattle.std.specs.Prelude.{◌≡◌, [], ◌∷◌}
use Rattle.std.proofs.Common.{refl}
use Rattle.sv_value.specs.declared.value.Value.{Value}
use Rattle.value_calls.specs.declared.traps.TrapKind.TheVariants.{Nodes}
use Rattle.value_calls.specs.Same.{same_decides}
use Rattle.core_means.specs.Asks.{World, Done, Trapped}
use Rattle.body_means.specs.Each.{again}
use Rattle.body_means.specs.Elements.{tally}

-- The second item of an id has the number 1.
pub second_is_one : (id : Value) → again id (id ∷ []) ≡ 1
unfolding again
second_is_one id = rw ((same_decides id id).1 refl) refl

-- The node that makes 20,000 is made, and the next one is the trap.
pub node_20000 : (w : World) → tally 1 (record w { nodes = 19999 }) ≡ Done tt (record w { nodes = 20000 })
unfolding tally
node_20000 w = refl

pub node_20001 : (w : World) → tally 1 (record w { nodes = 20000 }) ≡ Trapped Nodes (record w { nodes = 20000 })
unfolding tally
node_20001 w = refl
