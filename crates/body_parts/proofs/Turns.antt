-- Loops, turn by turn.
use Rattle.std.proofs.Common.{◌≡◌, ℕ, suc, ◌+◌, ◌-◌, ◌<◌, ◌≤◌, ℤ, pos, ◌+ℤ◌, List, [], ◌∷◌, ◌++◌, length, get_or, take, drop, Option, Result, Err, ap, sym, subst, ◌∙◌, arith, refl}
use Rattle.std.specs.Result.{IsErrAnd}
use Rattle.std.proofs.lemmas.List.{take_rest}
use Rattle.identity_path.specs.declared.input.Input.{Input}
use Rattle.identity_path.specs.declared.input.Input.TheVariants as input
use Rattle.identity_path.specs.declared.place.Place.{Place}
use Rattle.sv_value.specs.declared.hop.Hop.TheVariants as hop
use Rattle.sv_value.specs.declared.value.Value.{Value}
use Rattle.sv_value.specs.declared.value.Value.TheVariants as whole
use Rattle.swift_core.specs.declared.item.CoreItem.{CoreItem}
use Rattle.swift_core.specs.declared.item.IdRule.{IdRule}
use Rattle.swift_core.specs.declared.term.Filling.{Filling}
use Rattle.value_calls.specs.declared.traps.Stop.{Stop}
use Rattle.core_means.specs.Asks.{World, Doing, and_then, Look, Reads, Answer, Gave, IsRight, Leaves, under}
use Rattle.view_nodes.specs.declared.node.Element.{Element}
use Rattle.body_means.specs.Building.{Building, views_from, with_hop}
use Rattle.body_means.specs.Customs.{argument, arguments_from, filled, filled_from}
use Rattle.body_means.specs.Each.{Offered, offered, offered_numbers, offered_values, offered_places, Item, item_of, items_from}
use Rattle.body_means.specs.Elements.{with_child}
use Rattle.eval_terms.proofs.Steps.{goes_on, first_and_rest}
use Rattle.body_nodes.proofs.Runs.{right_first, leaves_stop}

pub views_unroll : (item : CoreItem → Doing (Option Element)) (done : List Element) (x : CoreItem) (xs : List CoreItem) (w : World)
    → views_from item done (x ∷ xs) w ≡ and_then (item x w) (λ o. views_from item (with_child done o) xs)
unfolding views_from
views_unroll item done x xs w = refl

pub arguments_unroll : (b : Building) (done : List (Option Input)) (f : Filling) (fs : List Filling) (w : World)
    → arguments_from b done (f ∷ fs) w ≡ and_then (argument b f w) (λ o. arguments_from b (done ++ o ∷ []) fs)
unfolding arguments_from
arguments_unroll b done f fs w = refl

-- what fills a property, and then the rest, which are two lists
pub filled_turn : (b : Building) (look : Look) (reads reads' : Reads) (done done' : List Input) (fs : List Filling) (f : Filling) (os : List (Option Input)) (o : Option Input)
    (w w' : World) (v : Input) (all : Answer (List Input))
    → 1 ≤ length fs → f ≡ get_or fs 0 f → 1 ≤ length os → o ≡ get_or os 0 o → under look reads (filled b f o w) ≡ Gave v w' reads' → done' ≡ done ++ v ∷ []
    → under look reads (filled_from b done fs os w) ≡ all
    → under look reads' (filled_from b done' (take (length fs - 1) (drop 1 fs)) (take (length os - 1) (drop 1 os)) w') ≡ all
unfolding filled_from
filled_turn b look reads reads' done done' fs f os o w w' v all some first other given h pushed e =
    let rest = take (length fs - 1) (drop 1 fs) in
    let others = take (length os - 1) (drop 1 os) in
    ap (λ vs. under look reads' (filled_from b vs rest others w')) pushed
    ∙ goes_on look reads reads' (filled b f o w) (λ u. filled_from b (done ++ u ∷ []) rest others) v w' all h
    (ap (λ l. under look reads (filled_from b done (f ∷ rest) l w)) (sym (first_and_rest os o other given))
    ∙ ap (λ l. under look reads (filled_from b done l os w)) (sym (first_and_rest fs f some first)) ∙ e)

-- ---- the items of a `ForEach`

module _ (b : Building) (r : IdRule) (xs : List CoreItem) (look : Look) where
  -- an item, and then those of the rest
  next_item : (reads reads' : Reads) (ids ids' : List Value) (done done' : List Element) (o : Offered) (os : List Offered) (w w' : World) (x : Item) (all : Answer (List Element))
      → under look reads (item_of b r xs ids o w) ≡ Gave x w' reads' → ids' ≡ ids ++ x.id ∷ [] → done' ≡ done ++ x.made ∷ []
      → under look reads (items_from b r xs ids done (o ∷ os) w) ≡ all → under look reads' (items_from b r xs ids' done' os w') ≡ all
  unfolding items_from
  next_item reads reads' ids ids' done done' o os w w' x all h noted pushed e =
      ap (λ l. under look reads' (items_from b r xs l done' os w')) noted
      ∙ ap (λ l. under look reads' (items_from b r xs (ids ++ x.id ∷ []) l os w')) pushed
      ∙ goes_on look reads reads' (item_of b r xs ids o w) (λ y. items_from b r xs (ids ++ y.id ∷ []) (done ++ y.made ∷ []) os) x w' all h e

  -- where the whole is not wrong, its first item is not
  item_right : (reads : Reads) (ids : List Value) (done : List Element) (o : Offered) (os : List Offered) (w : World) (all : Answer (List Element))
      → under look reads (items_from b r xs ids done (o ∷ os) w) ≡ all → IsRight all → IsRight (under look reads (item_of b r xs ids o w))
  unfolding items_from
  item_right reads ids done o os w all e right =
      right_first look reads (item_of b r xs ids o w) (λ y. items_from b r xs (ids ++ y.id ∷ []) (done ++ y.made ∷ []) os) (subst IsRight (sym e) right)

  -- and where it stops, the whole does
  item_stops : (reads reads' : Reads) (ids : List Value) (done : List Element) (o : Offered) (os : List Offered) (w w' : World) (stop : Stop) (res : Result (List Element) Stop) (all : Answer (List Element))
      → under look reads (items_from b r xs ids done (o ∷ os) w) ≡ all → IsErrAnd res (λ s. s ≡ stop)
      → Leaves {A = Item} (Err stop) w' reads' (under look reads (item_of b r xs ids o w)) → Leaves res w' reads' all
  unfolding items_from
  item_stops reads reads' ids done o os w w' stop res all e err h =
      subst (λ (a : Answer (List Element)). Leaves res w' reads' a) e
      (leaves_stop look reads reads' (item_of b r xs ids o w) (λ y. items_from b r xs (ids ++ y.id ∷ []) (done ++ y.made ∷ []) os) w' stop res err h)

  -- the items of a list that is at its end
  no_item : (reads : Reads) (ids : List Value) (done : List Element) (os : List Offered) (w : World) (all : Answer (List Element))
      → os ≡ [] → under look reads (items_from b r xs ids done os w) ≡ all → all ≡ Gave done w reads
  unfolding items_from under
  no_item reads ids done os w all none e = sym e ∙ ap (λ l. under look reads (items_from b r xs ids done l w)) none

values_more : (vs : List Value) (v : Value) → 1 ≤ length vs → v ≡ get_or vs 0 v → offered_values vs ≡ offered v ∷ offered_values (take (length vs - 1) (drop 1 vs))
unfolding offered_values
values_more vs v some first = ap offered_values (first_and_rest vs v some first)

places_more : (place : Place) (i : ℕ) (vs : List Value) (v : Value) → 1 ≤ length vs → v ≡ get_or vs 0 v
    → offered_places place i vs ≡ record { element = v; holds = input.Place (with_hop place (hop.Index (pos i))) } ∷ offered_places place (i + 1) (take (length vs - 1) (drop 1 vs))
unfolding offered_places
places_more place i vs v some first = ap (offered_places place i) (first_and_rest vs v some first)

numbers_more : (n : ℕ) (k : ℤ) → 0 < n → offered_numbers n k ≡ offered (whole.Int k) ∷ offered_numbers (n - 1) (k +ℤ pos 1)
unfolding offered_numbers
numbers_more n k some = let e : n ≡ suc (n - 1) = omega arith in ap (λ m. offered_numbers m k) e

-- a place further, and one element less
pub place_left : {X : Type 0} (xs : List X) (at n : ℕ) → 1 ≤ length xs → at + length xs ≡ n → (at + 1) + length (take (length xs - 1) (drop 1 xs)) ≡ n
place_left [] at n some e = absurd (omega arith)
place_left (y ∷ ys) at n some e = omega (arith, ap length (take_rest (y ∷ ys) 1))

-- a number that is offered
number_offered : (k : ℤ) (v u : Value) → v ≡ whole.Int k → u ≡ whole.Int k → record { element = v; holds = input.Value u } ≡ offered (whole.Int k)
number_offered k v u is also = λ i. record { element = is i; holds = input.Value (also i) }

numbers_none : (n : ℕ) (k : ℤ) → n ≡ 0 → offered_numbers n k ≡ []
unfolding offered_numbers
numbers_none n k e = ap (λ m. offered_numbers m k) e

values_none : (vs : List Value) → length vs < 1 → offered_values vs ≡ []
unfolding offered_values
values_none [] none = refl
values_none (v ∷ vs) none = absurd (omega arith)

places_none : (place : Place) (i : ℕ) (vs : List Value) → length vs < 1 → offered_places place i vs ≡ []
unfolding offered_places
places_none place i [] none = refl
places_none place i (v ∷ vs) none = absurd (omega arith)

module _ (b : Building) (r : IdRule) (xs : List CoreItem) (look : Look) where
  -- where the whole is not wrong, the next item is not
  pub value_right : (reads : Reads) (ids : List Value) (done : List Element) (vs : List Value) (v copy : Value) (w : World) (all : Answer (List Element))
      → 1 ≤ length vs → v ≡ get_or vs 0 v → copy ≡ v → under look reads (items_from b r xs ids done (offered_values vs) w) ≡ all → IsRight all
      → IsRight (under look reads (item_of b r xs ids (record { element = v; holds = input.Value copy }) w))
  value_right reads ids done vs v copy w all some first copied e right =
      subst (λ (u : Value). IsRight (under look reads (item_of b r xs ids (record { element = v; holds = input.Value u }) w))) (sym copied)
      (item_right b r xs look reads ids done (offered v) (offered_values (take (length vs - 1) (drop 1 vs))) w all
      (ap (λ os. under look reads (items_from b r xs ids done os w)) (sym (values_more vs v some first)) ∙ e) right)

  pub place_right : (reads : Reads) (ids : List Value) (done : List Element) (place inner : Place) (i : ℕ) (vs : List Value) (v : Value) (w : World) (all : Answer (List Element))
      → 1 ≤ length vs → v ≡ get_or vs 0 v → inner ≡ with_hop place (hop.Index (pos i)) → under look reads (items_from b r xs ids done (offered_places place i vs) w) ≡ all → IsRight all
      → IsRight (under look reads (item_of b r xs ids (record { element = v; holds = input.Place inner }) w))
  place_right reads ids done place inner i vs v w all some first is e right =
      subst (λ (u : Place). IsRight (under look reads (item_of b r xs ids (record { element = v; holds = input.Place u }) w))) (sym is)
      (item_right b r xs look reads ids done (record { element = v; holds = input.Place (with_hop place (hop.Index (pos i))) })
      (offered_places place (i + 1) (take (length vs - 1) (drop 1 vs))) w all
      (ap (λ os. under look reads (items_from b r xs ids done os w)) (sym (places_more place i vs v some first)) ∙ e) right)

  pub number_right : (reads : Reads) (ids : List Value) (done : List Element) (n : ℕ) (k : ℤ) (v u : Value) (w : World) (all : Answer (List Element))
      → 0 < n → v ≡ whole.Int k → u ≡ whole.Int k → under look reads (items_from b r xs ids done (offered_numbers n k) w) ≡ all → IsRight all
      → IsRight (under look reads (item_of b r xs ids (record { element = v; holds = input.Value u }) w))
  number_right reads ids done n k v u w all some is also e right =
      subst (λ (o : Offered). IsRight (under look reads (item_of b r xs ids o w))) (sym (number_offered k v u is also))
      (item_right b r xs look reads ids done (offered (whole.Int k)) (offered_numbers (n - 1) (k +ℤ pos 1)) w all
      (ap (λ os. under look reads (items_from b r xs ids done os w)) (sym (numbers_more n k some)) ∙ e) right)

  -- and where it stops, the whole does
  pub number_stops : (reads reads' : Reads) (ids : List Value) (done : List Element) (n : ℕ) (k : ℤ) (v u : Value) (w w' : World) (stop : Stop) (res : Result (List Element) Stop) (all : Answer (List Element))
      → 0 < n → v ≡ whole.Int k → u ≡ whole.Int k → under look reads (items_from b r xs ids done (offered_numbers n k) w) ≡ all
      → IsErrAnd res (λ s. s ≡ stop) → Leaves {A = Item} (Err stop) w' reads' (under look reads (item_of b r xs ids (record { element = v; holds = input.Value u }) w))
      → Leaves res w' reads' all
  number_stops reads reads' ids done n k v u w w' stop res all some is also e err h =
      item_stops b r xs look reads reads' ids done (offered (whole.Int k)) (offered_numbers (n - 1) (k +ℤ pos 1)) w w' stop res all
      (ap (λ os. under look reads (items_from b r xs ids done os w)) (sym (numbers_more n k some)) ∙ e) err
      (subst (λ (o : Offered). Leaves {A = Item} (Err stop) w' reads' (under look reads (item_of b r xs ids o w))) (number_offered k v u is also) h)

  -- nothing is left
  pub no_value : (reads : Reads) (ids : List Value) (done : List Element) (vs : List Value) (w : World) (all : Answer (List Element))
      → length vs < 1 → under look reads (items_from b r xs ids done (offered_values vs) w) ≡ all → all ≡ Gave done w reads
  no_value reads ids done vs w all none e = no_item b r xs look reads ids done (offered_values vs) w all (values_none vs none) e

  pub no_place : (reads : Reads) (ids : List Value) (done : List Element) (place : Place) (i : ℕ) (vs : List Value) (w : World) (all : Answer (List Element))
      → length vs < 1 → under look reads (items_from b r xs ids done (offered_places place i vs) w) ≡ all → all ≡ Gave done w reads
  no_place reads ids done place i vs w all none e = no_item b r xs look reads ids done (offered_places place i vs) w all (places_none place i vs none) e

  pub no_number : (reads : Reads) (ids : List Value) (done : List Element) (n : ℕ) (k : ℤ) (w : World) (all : Answer (List Element))
      → n ≤ 0 → under look reads (items_from b r xs ids done (offered_numbers n k) w) ≡ all → all ≡ Gave done w reads
  no_number reads ids done n k w all none e = no_item b r xs look reads ids done (offered_numbers n k) w all (numbers_none n k (omega arith)) e

  pub next_value : (reads reads' : Reads) (ids ids' : List Value) (done done' : List Element) (vs : List Value) (v copy : Value) (w w' : World) (x : Item) (all : Answer (List Element))
      → 1 ≤ length vs → v ≡ get_or vs 0 v → copy ≡ v
      → under look reads (item_of b r xs ids (record { element = v; holds = input.Value copy }) w) ≡ Gave x w' reads'
      → ids' ≡ ids ++ x.id ∷ [] → done' ≡ done ++ x.made ∷ []
      → under look reads (items_from b r xs ids done (offered_values vs) w) ≡ all
      → under look reads' (items_from b r xs ids' done' (offered_values (take (length vs - 1) (drop 1 vs))) w') ≡ all
  next_value reads reads' ids ids' done done' vs v copy w w' x all some first copied h noted pushed e =
      next_item b r xs look reads reads' ids ids' done done' (offered v) (offered_values (take (length vs - 1) (drop 1 vs))) w w' x all
      (ap (λ u. under look reads (item_of b r xs ids (record { element = v; holds = input.Value u }) w)) (sym copied) ∙ h) noted pushed
      (ap (λ os. under look reads (items_from b r xs ids done os w)) (sym (values_more vs v some first)) ∙ e)

  pub next_place : (reads reads' : Reads) (ids ids' : List Value) (done done' : List Element) (place inner : Place) (i : ℕ) (vs : List Value) (v : Value) (w w' : World) (x : Item) (all : Answer (List Element))
      → 1 ≤ length vs → v ≡ get_or vs 0 v → inner ≡ with_hop place (hop.Index (pos i))
      → under look reads (item_of b r xs ids (record { element = v; holds = input.Place inner }) w) ≡ Gave x w' reads'
      → ids' ≡ ids ++ x.id ∷ [] → done' ≡ done ++ x.made ∷ []
      → under look reads (items_from b r xs ids done (offered_places place i vs) w) ≡ all
      → under look reads' (items_from b r xs ids' done' (offered_places place (i + 1) (take (length vs - 1) (drop 1 vs))) w') ≡ all
  next_place reads reads' ids ids' done done' place inner i vs v w w' x all some first is h noted pushed e =
      next_item b r xs look reads reads' ids ids' done done' (record { element = v; holds = input.Place (with_hop place (hop.Index (pos i))) })
      (offered_places place (i + 1) (take (length vs - 1) (drop 1 vs))) w w' x all
      (ap (λ u. under look reads (item_of b r xs ids (record { element = v; holds = input.Place u }) w)) (sym is) ∙ h) noted pushed
      (ap (λ os. under look reads (items_from b r xs ids done os w)) (sym (places_more place i vs v some first)) ∙ e)

  pub next_number : (reads reads' : Reads) (ids ids' : List Value) (done done' : List Element) (n n' : ℕ) (k k' : ℤ) (v u : Value) (w w' : World) (x : Item) (all : Answer (List Element))
      → 0 < n → v ≡ whole.Int k → u ≡ whole.Int k → under look reads (item_of b r xs ids (record { element = v; holds = input.Value u }) w) ≡ Gave x w' reads'
      → ids' ≡ ids ++ x.id ∷ [] → done' ≡ done ++ x.made ∷ [] → n' ≡ n - 1 → k' ≡ k +ℤ pos 1
      → under look reads (items_from b r xs ids done (offered_numbers n k) w) ≡ all
      → under look reads' (items_from b r xs ids' done' (offered_numbers n' k') w') ≡ all
  next_number reads reads' ids ids' done done' n n' k k' v u w w' x all some is also h noted pushed less more e =
      ap (λ m. under look reads' (items_from b r xs ids' done' (offered_numbers m k') w')) less
      ∙ ap (λ z. under look reads' (items_from b r xs ids' done' (offered_numbers (n - 1) z) w')) more
      ∙ next_item b r xs look reads reads' ids ids' done done' (offered (whole.Int k)) (offered_numbers (n - 1) (k +ℤ pos 1)) w w' x all
      (ap (λ o. under look reads (item_of b r xs ids o w)) (sym (number_offered k v u is also)) ∙ h) noted pushed
      (ap (λ os. under look reads (items_from b r xs ids done os w)) (sym (numbers_more n k some)) ∙ e)

  -- after the last number
  pub last_number : (reads reads' : Reads) (ids : List Value) (done done' : List Element) (n : ℕ) (k : ℤ) (v u : Value) (w w' : World) (x : Item) (all : Answer (List Element))
      → n ≡ 1 → v ≡ whole.Int k → u ≡ whole.Int k → under look reads (item_of b r xs ids (record { element = v; holds = input.Value u }) w) ≡ Gave x w' reads'
      → done' ≡ done ++ x.made ∷ []
      → under look reads (items_from b r xs ids done (offered_numbers n k) w) ≡ all → all ≡ Gave done' w' reads'
  last_number reads reads' ids done done' n k v u w w' x all last is also h pushed e =
      no_item b r xs look reads' (ids ++ x.id ∷ []) done' (offered_numbers 0 (k +ℤ pos 1)) w' all (numbers_none 0 (k +ℤ pos 1) refl)
      (next_number reads reads' ids (ids ++ x.id ∷ []) done done' n 0 k (k +ℤ pos 1) v u w w' x all (omega arith) is also h refl pushed (omega arith) refl e)
