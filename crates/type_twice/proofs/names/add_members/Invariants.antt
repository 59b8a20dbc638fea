use Rattle.std.proofs.Common.{◌≡◌, ◌++◌, take, map}
use Rattle.type_twice.specs.Twice.{named_member}
use Rattle.type_twice.proofs.names.add_members.Given as goal

abbrev pub invariant-loop-member : goal.invariant-loop-member
invariant-loop-member l = l.out ≡ l.initial.out ++ map named_member (take l.member-index l.members)
