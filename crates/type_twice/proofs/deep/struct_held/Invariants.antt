use Rattle.std.proofs.Common.{◌≡◌, ◌++◌, drop}
use Rattle.std.specs.Option.{option_copied}
use Rattle.type_twice.specs.Deep.{held_from, members_of}
use Rattle.type_twice.proofs.deep.struct_held.Given as goal

abbrev pub invariant-loop-at : goal.invariant-loop-at
invariant-loop-at l = held_from l.table (members_of (option_copied l.declaration)) 0 l.members ≡ l.out ++ held_from l.table (members_of (option_copied l.declaration)) l.at (drop l.at l.members)
