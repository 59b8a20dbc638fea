use Rattle.std.proofs.Common.{◌≡◌, take}
use Rattle.type_table.specs.Tables.{enum_starts}
use Rattle.type_table.proofs.places.enum_starts.Given as goal

abbrev pub invariant-loop-item : goal.invariant-loop-item
invariant-loop-item l = l.out ≡ enum_starts (take l.item-index l.items)
