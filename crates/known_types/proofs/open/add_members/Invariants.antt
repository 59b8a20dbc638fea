use Rattle.std.proofs.Common.{◌≡◌, ◌++◌, map, drop}
use Rattle.known_rules.specs.Known.{member_opens}
use Rattle.known_types.specs.Rows.{open_of}
use Rattle.known_types.proofs.open.add_members.Given as goal

abbrev pub invariant-loop-at : goal.invariant-loop-at
invariant-loop-at l = map open_of l.initial.out ++ member_opens l.declaration 0 l.members ≡ map open_of l.out ++ member_opens l.declaration l.at (drop l.at l.members)
