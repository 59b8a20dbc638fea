-- What a `ForEach` goes over, and the items that it gives.
use Rattle.std.specs.Prelude.{ℕ, zero, suc, ◌+◌, ℤ, pos, ◌+ℤ◌, List, [], ◌∷◌, ◌++◌, Some, if◌then◌else◌}
use Rattle.identity_path.specs.declared.input.Input.{Input}
use Rattle.identity_path.specs.declared.input.Input.TheVariants as input
use Rattle.identity_path.specs.declared.place.Place.{Place}
use Rattle.identity_path.specs.declared.step.Step.TheVariants as step
use Rattle.sv_value.specs.declared.hop.Hop.TheVariants as hop
use Rattle.sv_value.specs.declared.value.Value.{Value}
use Rattle.sv_value.specs.declared.value.Value.TheVariants as whole
use Rattle.swift_core.specs.declared.ids.CodeId.{CodeId}
use Rattle.swift_core.specs.declared.item.CoreItem.{CoreItem}
use Rattle.swift_core.specs.declared.item.ForEachOver.{ForEachOver}
use Rattle.swift_core.specs.declared.item.ForEachOver.TheVariants as over
use Rattle.swift_core.specs.declared.item.IdRule.{IdRule}
use Rattle.swift_core.specs.declared.item.IdRule.TheVariants as rule
use Rattle.swift_core.specs.declared.stmt.Over.{Over}
use Rattle.swift_core.specs.declared.term.Core.{Core}
use Rattle.swift_core.specs.declared.term.Target.{Target}
use Rattle.value_calls.specs.Calls as call
use Rattle.value_calls.specs.Same.{same}
use Rattle.core_means.specs.Asks.{Doing, ◌>>=◌, ◌>>◌, give, spend, given, found, answered}
use Rattle.core_means.specs.Means.{entered, framed, parts}
use Rattle.core_means.specs.Places.{field}
use Rattle.view_nodes.specs.declared.kind.NodeKind.TheVariants as node
use Rattle.view_nodes.specs.declared.node.Element.{Element}
use Rattle.body_means.specs.Building.{Building, bound, views_from, push_input, with_hop}
use Rattle.body_means.specs.Elements.{narrow, view, led}

-- ---- what is gone over

-- an element, and what the local of its item holds: the element, or its place
pub record Offered : Type 0 where
  pub element : Value
  pub holds : Input

abbrev pub offered : Value → Offered
offered v = record { element = v; holds = input.Value v }

-- n numbers from k on
unfoldable pub offered_numbers : ℕ → ℤ → List Offered
offered_numbers zero k = []
offered_numbers (suc n) k = offered (whole.Int k) ∷ offered_numbers n (k +ℤ pos 1)

unfoldable pub offered_values : List Value → List Offered
offered_values [] = []
offered_values (v ∷ vs) = offered v ∷ offered_values vs

-- the elements of the list at a place, from the i-th on, each with the place of its index
unfoldable pub offered_places : Place → ℕ → List Value → List Offered
offered_places place i [] = []
offered_places place i (v ∷ vs) = record { element = v; holds = input.Place (with_hop place (hop.Index (pos i))) } ∷ offered_places place (i + 1) vs

-- how many earlier items have an equal id
unfoldable pub again : Value → List Value → ℕ
again id [] = 0
again id (v ∷ ids) = if same id v then again id ids + 1 else again id ids

-- an item's id and its node
pub record Item : Type 0 where
  pub id : Value
  pub made : Element

-- An item stands under its id and the number of earlier items with an equal one.
abbrev pub item_with : List Value → Value → Element → Item
item_with ids id e = record { id = id; made = led (step.Item id (narrow (again id ids)) ∷ []) e }

-- ---- what is made of it

module _ (b : Building) where
  -- A computed property runs with the element as `self`.
  unfoldable pub computed : CodeId → Value → Doing Value
  computed code v = entered b.inside code.number [] (Some v) >>= λ o. given o

  abbrev pub id_at : IdRule → Value → Doing Value
  id_at rule.Itself v = give v
  id_at (rule.Field i) v = given (field i v)
  id_at (rule.Computed code) v = computed code v
  id_at (rule.Look property) v = answered (call.property property v)

  -- the id of an element
  unfoldable pub id_of : IdRule → Value → Doing Value
  id_of r v = id_at r v

  -- The views of an item, with its local, which ends with them.
  unfoldable pub item_content : Input → List CoreItem → Doing (List Element)
  item_content v xs = framed (push_input v >> views_from (b.item b.code) [] xs)

  -- The node of an item holds its id.
  unfoldable pub item_node : List Value → List CoreItem → Input → Value → Doing Item
  item_node ids xs v id = do
    views ← item_content v xs
    e ← view node.Item (input.Value id ∷ []) [] [] views
    give (item_with ids id e)

  -- For each item a unit of fuel is spent, and then come its id, its views and its node.
  unfoldable pub item_of : IdRule → List CoreItem → List Value → Offered → Doing Item
  item_of r xs ids o = spend >> (id_of r o.element >>= λ id. item_node ids xs o.holds id)

  unfoldable pub items_from : IdRule → List CoreItem → List Value → List Element → List Offered → Doing (List Element)
  items_from r xs ids done [] = give done
  items_from r xs ids done (o ∷ os) = item_of r xs ids o >>= λ item. items_from r xs (ids ++ item.id ∷ []) (done ++ item.made ∷ []) os

  unfoldable pub all_items : IdRule → List CoreItem → List Offered → Doing (List Element)
  all_items r xs os = items_from r xs [] [] os

  -- A range. The ids are the numbers.
  unfoldable pub over_numbers : Over → List CoreItem → Doing (List Element)
  over_numbers o xs = b.inside.span o >>= λ numbers. all_items rule.Itself xs (offered_numbers numbers.count numbers.first)

  -- A list, which is evaluated once.
  unfoldable pub over_values : Core → IdRule → List CoreItem → Doing (List Element)
  over_values e r xs = b.inside.eval e >>= λ v. found (parts v) (λ vs. all_items r xs (offered_values vs))

  -- The list at a place. The place and then the value there are looked up once; each item gets the place of its index.
  unfoldable pub over_places : Target → IdRule → List CoreItem → Doing (List Element)
  over_places t r xs = bound b t >>= λ x. found (parts x.value) (λ vs. all_items r xs (offered_places x.place 0 vs))

  abbrev pub over_at : ForEachOver → List CoreItem → Doing (List Element)
  over_at (over.Numbers o) xs = over_numbers o xs
  over_at (over.Values e r) xs = over_values e r xs
  over_at (over.Places t r) xs = over_places t r xs

  -- The node of a `ForEach` holds its items and nothing else.
  unfoldable pub for_each : ForEachOver → List CoreItem → Doing Element
  for_each o xs = over_at o xs >>= λ views. view node.ForEach [] [] [] views
