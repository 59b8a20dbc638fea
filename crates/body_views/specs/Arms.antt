-- What the forms inside give to the view around them, where that view is told by one of its variants.
use Rattle.std.specs.Prelude.{ℤ, List, Option, Some}
use Rattle.swift_core.specs.declared.item.CoreItem.{CoreItem}
use Rattle.swift_core.specs.declared.term.Core.{Core}
use Rattle.swift_core.specs.declared.term.Target.{Target}
use Rattle.core_means.specs.Asks.{Doing, ◌>>=◌, give, given}
use Rattle.view_nodes.specs.declared.node.Element.{Element}
use Rattle.body_means.specs.Building.{Building, bound, content}
use Rattle.body_means.specs.Views.{number, text_label, toggle_node}

-- a number that is given
abbrev pub number_given : Building → Core → Doing (Option ℤ)
number_given b e = b.inside.eval e >>= λ v. given (number v) >>= λ n. give (Some n)

-- a toggle that is told by a string: the string first
abbrev pub text_toggle : Building → Target → Core → Doing Element
text_toggle b t e = text_label b e >>= λ views. bound b t >>= λ x. toggle_node b views x

-- a toggle that is told by views: its place first
abbrev pub view_toggle : Building → Target → List CoreItem → Doing Element
view_toggle b t xs = bound b t >>= λ x. content b xs >>= λ views. toggle_node b views x
