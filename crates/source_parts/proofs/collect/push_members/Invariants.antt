use Rattle.std.proofs.Common.{◌≡◌, ◌++◌, take}
use Rattle.std.specs.List.{flat_map}
use Rattle.source_parts.specs.Parts.{member_part, parts_at}
use Rattle.source_parts.proofs.collect.push_members.Given as goal

abbrev pub invariant-loop-member : goal.invariant-loop-member
invariant-loop-member l = parts_at l.out.items ≡ parts_at l.initial.out.items ++ flat_map member_part (take l.member-index l.members)
