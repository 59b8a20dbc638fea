use Rattle.std.proofs.Common.{◌≡◌, take}
use Rattle.std.specs.List.{sum_by}
use Rattle.type_table.specs.Along.{wide}
use Rattle.type_table.specs.Tables.{item_size}
use Rattle.type_table.proofs.sizes.items_size.Given as goal

abbrev pub invariant-loop-item : goal.invariant-loop-item
invariant-loop-item l = l.size ≡ wide (sum_by item_size (take l.item-index l.items))
