use Rattle.std.proofs.Common.{◌≡◌, take}
use Rattle.type_table.specs.Signatures.{signatures, enum_drafts, case_count}
use Rattle.type_table.proofs.signatures.enum_signatures.Given as goal

abbrev pub invariant-loop-item : goal.invariant-loop-item
invariant-loop-item l = record {
  made : l.out ≡ signatures l.first (enum_drafts l.heads (take l.item-index l.items));
  counted : l.cases ≡ case_count (take l.item-index l.items);
}
