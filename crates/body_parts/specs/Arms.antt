-- What a form gives to the form around it, where that form is told by one of its variants.
use Rattle.std.specs.Prelude.{ℕ, List, [], ◌∷◌, Option, Some}
use Rattle.identity_path.specs.declared.input.Input.{Input}
use Rattle.identity_path.specs.declared.input.Input.TheVariants as input
use Rattle.identity_path.specs.declared.place.Place.{Place}
use Rattle.swift_core.specs.declared.table.Declaration.{Declaration}
use Rattle.swift_core.specs.declared.term.Core.{Core}
use Rattle.swift_core.specs.declared.term.CoreHop.{CoreHop}
use Rattle.swift_core.specs.declared.term.Root.{Root}
use Rattle.swift_core.specs.declared.term.Target.{Target}
use Rattle.swift_core.specs.Codes.{Parts as Program}
use Rattle.core_means.specs.Asks.{Doing, ◌>>=◌, give, found}
use Rattle.core_means.specs.Means.{initial, inner}
use Rattle.view_nodes.specs.declared.node.Element.{Element}
use Rattle.body_means.specs.Building.{Building, links, link, root_place}
use Rattle.body_means.specs.Customs.{custom_of}
use Rattle.body_means.specs.Elements.{custom}

-- the value of an expression, as an argument
abbrev pub value_given : Building → Core → Doing (Option Input)
value_given b e = b.inside.eval e >>= λ v. give (Some (input.Value v))

-- the place that a binding is, as an argument
abbrev pub place_given : Building → Target → Doing (Option Input)
place_given b t = b.place t >>= λ p. give (Some (input.Place p))

-- an initial value, as what fills a property
abbrev pub initial_input : Building → ℕ → Doing Input
initial_input b id = initial b.inside id >>= λ v. give (input.Value v)

-- the node of a use of this view
abbrev pub custom_by : ℕ → Declaration → List Input → Doing Element
custom_by d declaration vs = found (custom_of declaration vs) (λ c. custom d c)

-- What a binding is, once its form is entered: its root, or what its last link makes of what is before it. The links stand from
-- the last to the first.
abbrev pub linked : Program → ℕ → Root → List CoreHop → Doing Place
linked p room r [] = root_place r
linked p room r (h ∷ hs) = links p room r hs >>= λ place. link (inner p room) h place
