use Rattle.std.proofs.Common.{◌≡◌, take, map}
use Rattle.type_table.specs.Tables.{member_start}
use Rattle.type_table.proofs.places.member_starts.Given as goal

abbrev pub invariant-loop-member : goal.invariant-loop-member
invariant-loop-member l = l.out ≡ map member_start (take l.member-index l.members)
