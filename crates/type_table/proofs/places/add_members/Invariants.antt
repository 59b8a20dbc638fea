use Rattle.std.proofs.Common.{◌≡◌, ◌++◌, take}
use Rattle.type_table.specs.Tables.{member_places}
use Rattle.type_table.proofs.places.add_members.Given as goal

abbrev pub invariant-loop-at : goal.invariant-loop-at
invariant-loop-at l = l.out ≡ l.initial.out ++ member_places l.declaration (take l.at l.starts)
