-- What the forms inside an item of a builder mean, which the meaning of each item is told by.
use Rattle.std.specs.Prelude.{ℕ, zero, suc, List, [], ◌∷◌, ◌++◌, Option, Some, None, reverse}
use Rattle.identity_path.specs.declared.input.Input.{Input}
use Rattle.identity_path.specs.declared.place.Place.{Place}
use Rattle.sv_value.specs.declared.hop.Hop.{Hop}
use Rattle.sv_value.specs.declared.value.Value.{Value}
use Rattle.swift_core.specs.declared.item.CoreItem.{CoreItem}
use Rattle.swift_core.specs.declared.term.CoreHop.{CoreHop}
use Rattle.swift_core.specs.declared.term.Root.{Root}
use Rattle.swift_core.specs.declared.term.Target.{Target}
use Rattle.swift_core.specs.Codes.{Parts as Program}
use Rattle.value_calls.specs.declared.traps.TrapKind.TheVariants.{Calls}
use Rattle.core_means.specs.declared.origin.Origin.TheVariants as origin
use Rattle.core_means.specs.declared.parts.Local.TheVariants as local
use Rattle.core_means.specs.declared.parts.Spot.{Spot}
use Rattle.core_means.specs.declared.parts.Spot.TheVariants as spot
use Rattle.core_means.specs.Asks.{Done, Doing, ◌>>=◌, ◌>>◌, give, trap, spend, given}
use Rattle.core_means.specs.Means.{Inside, framed, inner, hop_of}
use Rattle.core_means.specs.Places.{plain_of, spot_of}
use Rattle.view_nodes.specs.declared.node.Element.{Element}
use Rattle.body_means.specs.Elements.{with_child}

-- ---- bindings

abbrev pub place_at : Spot → Option Place
place_at (spot.Local i hops) = None
place_at (spot.Itself hops) = None
place_at (spot.Cell place) = Some place

-- The place that `$x` is. Of a state slot it is its own, which looks up nothing; of a binding it is the one that it holds,
-- which is looked up.
unfoldable pub root_place : Root → Doing Place
root_place r = spot_of r [] >>= λ s. given (place_at s)

abbrev pub with_hop : Place → Hop → Place
with_hop place hop = record place { hops = place.hops ++ hop ∷ [] }

-- one link further: a field, or an index, which is evaluated and not tested
unfoldable pub link : Inside → CoreHop → Place → Doing Place
link i h place = hop_of i h >>= λ hop. give (with_hop place hop)

-- `$x` is a form, and so is each link behind it: of `$x.f[i]` first that of `[i]` is entered, then that of `.f`, and then `$x`.
-- The links stand here from the last to the first.
unfoldable pub links : Program → ℕ → Root → List CoreHop → Doing Place
links p zero r hs = spend >> trap Calls
links p (suc room) r [] = spend >> root_place r
links p (suc room) r (h ∷ hs) = spend >> (links p room r hs >>= λ place. link (inner p room) h place)

-- the place that a binding is, as an argument
unfoldable pub place_of : Program → ℕ → Target → Doing Place
place_of p room t = links p room t.root (reverse t.hops)

-- ---- the forms inside

pub record Building : Type 0 where
  -- what expressions and statements mean
  pub inside : Inside
  -- the number of the piece of code whose items these are: a body, the builder of a reader, or a property or a function that gives views
  pub code : ℕ
  -- the place that a binding is
  pub place : Target → Doing Place
  -- the view that an item of a piece of code gives; a `let` gives none
  pub item : ℕ → CoreItem → Doing (Option Element)

module _ (item : CoreItem → Doing (Option Element)) where
  -- the views of a builder's items, from the first to the last, behind those that are done
  unfoldable pub views_from : List Element → List CoreItem → Doing (List Element)
  views_from done [] = give done
  views_from done (x ∷ xs) = item x >>= λ o. views_from (with_child done o) xs

-- the views of a closure of views, whose locals end with it
unfoldable pub content : Building → List CoreItem → Doing (List Element)
content b xs = framed (views_from (b.item b.code) [] xs)

-- a further local
abbrev pub push_input : Input → Doing (Unit {0})
push_input v = λ w. Done tt (record w { locals = w.locals ++ local.Holds v ∷ [] })

-- ---- what a binding is bound to

pub record Bound : Type 0 where
  pub place : Place
  pub value : Value

abbrev pub bound_with : Place → Value → Bound
bound_with place v = record { place = place; value = v }

-- The place that a binding is, and the value there, which is looked up.
unfoldable pub bound : Building → Target → Doing Bound
bound b t = b.place t >>= λ place. plain_of (origin.Place place) >>= λ v. give (bound_with place v)
