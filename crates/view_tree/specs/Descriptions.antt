-- The description that a node is built from: without what the bodies below gave, and what was found as it was built.
use Rattle.view_nodes.specs.declared.node.Element.{Element}
use Rattle.view_nodes.specs.declared.node.Element.TheVariants as element
use Rattle.view_tree.specs.declared.built.Built.{Built}
use Rattle.view_tree.specs.declared.built.Built.TheOpen as one
use Rattle.view_tree.specs.declared.built.Built.TheOpen.{Built-F}
use Rattle.view_tree.specs.declared.built.Built.TheFolds.{fold-Built}

abbrev pub described : Built-F Element → Element
described (one.Plain steps label found parts) = element.Plain steps label parts
described (one.Custom steps custom last body) = element.Custom steps custom
described (one.Reader steps reader content run body) = element.Reader steps reader content

abbrev pub description : Built → Element
description = fold-Built Element described
