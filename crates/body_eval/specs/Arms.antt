-- What the forms inside give to an item, where that item is told by one of its variants.
use Rattle.std.specs.Prelude.{ℕ, List}
use Rattle.swift_core.specs.declared.item.CoreItem.{CoreItem}
use Rattle.core_means.specs.Asks.{Doing, ◌>>=◌, give}
use Rattle.view_nodes.specs.declared.node.Element.{Element}
use Rattle.body_means.specs.Building.{Building, content}
use Rattle.body_means.specs.Items.{branch}

-- the views of a branch, whose locals end with it, under its step
abbrev pub branch_views : Building → ℕ → List CoreItem → Doing (List Element)
branch_views b k xs = content b xs >>= λ views. give (branch b k views)
