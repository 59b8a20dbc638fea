use Rattle.std.proofs.Common.{◌≡◌, ◌++◌, take}
use Rattle.std.specs.List.{flat_map}
use Rattle.source_parts.specs.Parts.{item_parts, parts_at}
use Rattle.source_parts.proofs.collect.push_items.Given as goal

abbrev pub invariant-loop-item : goal.invariant-loop-item
invariant-loop-item l = parts_at l.out.items ≡ parts_at l.initial.out.items ++ flat_map item_parts (take l.item-index l.items)
