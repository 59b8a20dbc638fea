use Rattle.std.proofs.Common.{◌≡◌, take}
use Rattle.std.specs.List.{count_by}
use Rattle.type_table.specs.Along.{narrow}
use Rattle.type_table.specs.Signatures.{signatures, struct_drafts, is_input, is_slot}
use Rattle.type_table.proofs.signatures.struct_signatures.Given as goal

abbrev pub invariant-loop-member : goal.invariant-loop-member
invariant-loop-member l = record {
  made : l.out ≡ signatures l.first (struct_drafts l.heads l.sort (take l.member-index l.members));
  counted : l.inputs ≡ narrow (count_by (is_input l.sort) (take l.member-index l.members));
  slotted : l.slots ≡ narrow (count_by (is_slot l.sort) (take l.member-index l.members));
}
