use Rattle.std.proofs.Common.{◌≡◌, take}
use Rattle.type_table.specs.Signatures.{case_count}
use Rattle.type_table.proofs.signatures.case_count.Given as goal

abbrev pub invariant-loop-item : goal.invariant-loop-item
invariant-loop-item l = l.count ≡ case_count (take l.item-index l.items)
