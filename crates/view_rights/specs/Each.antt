-- `ForEach`: what it goes over, its ids and its items.
use Rattle.std.specs.Prelude.{◌≡◌, ℕ, zero, suc, ◌+◌, ℤ, pos, ◌+ℤ◌, true, false, List, [], ◌∷◌, ◌++◌, map, Option, Some, None, slice_get, ◌⊎◌, ⊤}
use Rattle.std.proofs.Common.{refl, sym, ap, subst, ◌∙◌, inl, inr}
use Rattle.identity_path.specs.declared.input.Input.{Input}
use Rattle.identity_path.specs.declared.input.Input.TheVariants as input
use Rattle.identity_path.specs.declared.place.Place.{Place}
use Rattle.sv_value.specs.declared.hop.Hop.TheVariants as hop
use Rattle.sv_value.specs.declared.value.Value.{Value}
use Rattle.swift_core.specs.Context.{Local, Itself, HasMember}
use Rattle.swift_core.specs.Mentions.{joined, core_mentions, id_mentions, over_items_mentions, item_mentions, target_mentions, form_mentions, is_among_cells}
use Rattle.swift_core.specs.Types.{element_at, named_at}
use Rattle.swift_core.specs.Typing.{Begins, Places, Binds, IsRange, IsId, Repeats, Items, Uses, GivesResult, itself_in}
use Rattle.swift_core.specs.Values.{AllHaveValue}
use Rattle.swift_core.specs.declared.code.Code.{Code}
use Rattle.swift_core.specs.declared.code.CoreMember.{CoreMember}
use Rattle.swift_core.specs.declared.ids.CodeId.{CodeId}
use Rattle.swift_core.specs.declared.item.CoreItem.{CoreItem}
use Rattle.swift_core.specs.declared.item.ForEachOver.{ForEachOver}
use Rattle.swift_core.specs.declared.item.ForEachOver.TheVariants as over_items
use Rattle.swift_core.specs.declared.item.IdRule.{IdRule}
use Rattle.swift_core.specs.declared.item.IdRule.TheVariants as rule
use Rattle.swift_core.specs.declared.stmt.Over.{Over}
use Rattle.swift_core.specs.declared.table.Signature.{Signature}
use Rattle.swift_core.specs.declared.table.SignatureForm.TheVariants as form
use Rattle.swift_core.specs.declared.term.Core.{Core}
use Rattle.swift_core.specs.declared.term.Root.{Root}
use Rattle.swift_core.specs.declared.term.Target.{Target}
use Rattle.swift_core.specs.declared.ty.Ty.{Ty, out-Ty}
use Rattle.swift_core.specs.declared.ty.Ty.TheVariants as ty
use Rattle.value_calls.specs.Calls as called_on
use Rattle.core_means.specs.Asks.{World, ◌>>=◌, ◌>>◌, give, given, found, answered}
use Rattle.core_means.specs.Means.{inner, code_of, entered, parts, means, spans}
use Rattle.core_means.specs.Places.{field}
use Rattle.view_nodes.specs.declared.kind.NodeKind.TheVariants as node
use Rattle.view_nodes.specs.declared.node.Element.{Element}
use Rattle.body_means.specs.Building.{views_from, push_input, bound}
use Rattle.body_means.specs.Each.{Offered, offered, offered_numbers, offered_values, offered_places, item_with, computed, id_of, item_content, item_node, item_of, items_from, all_items, over_numbers, over_values, over_places, for_each}
use Rattle.body_means.specs.Elements.{view}
use Rattle.body_means.specs.Items.{building, item_means}
use Rattle.value_fits.specs.Changes.{HasResult}
use Rattle.value_fits.specs.Fields.{IsField}
use Rattle.value_fits.specs.Reached.{HopFits}
use Rattle.world_fits.specs.Cells.{standing}
use Rattle.world_fits.specs.Codes.{member_of, main_code, all_allowed}
use Rattle.world_fits.specs.Laws.{Known}
use Rattle.world_fits.specs.Lists.{Each, each_front}
use Rattle.world_fits.specs.Locals.{held_values, no_places}
use Rattle.world_fits.specs.Right.{GivesSome}
use Rattle.world_fits.specs.Sites.{Site, Scope, context, ValueHas, Holds, LocalsFit, ItselfFits, LiveFits, is_view}
use Rattle.form_rights.specs.Callees.{function_of, named_is, value_kind}
use Rattle.form_rights.specs.Calls.{same_types, member_scope, entered_good}
use Rattle.form_rights.specs.Good.{Good}
use Rattle.meaning_rights.specs.Laws.{terms_have_meanings}
use Rattle.swift_core.specs.Alters.{all_of, over_items_alters, item_alters, target_alters}
use Rattle.reader_locals.specs.AlterLayers.{Beyond}
use Rattle.reader_locals.specs.Statements.{runs_calm, terms_calm}
use Rattle.reader_locals.specs.Terms.{entered_calm}
use Rattle.body_terms.specs.Homes.{Home, Permitted, Permits}
use Rattle.body_terms.specs.Nodes.{Makes, view_safe, ItemsRight, views_right, AllFine, Fine}
use Rattle.body_terms.specs.Safe.{Fitting, grown_more, MayStand, safe_of, safe_then, safe_give, safe_given, safe_found, safe_answered, safe_weaker, safe_spend, safe_framed, push_input_sound}
use Rattle.body_terms.specs.Sound.{sound_weaker}
use Rattle.body_terms.specs.Terms.{Term, eval_safe, span_safe, PlaceHas, place_with, bound_safe}
use Rattle.body_terms.specs.Gives.{PartsFit, led_fits, parts_pushed}

some_value : (site : Site) (u : Ty) (o : Option Value) → HasResult site.program.table (Some u) o → GivesSome site (ValueHas site u) o
some_value site u None h = h
some_value site u (Some v) h = h

pub code_there : (site : Site) (n : ℕ) (m : CoreMember) (c : Code) → slice_get site.program.members n ≡ Some m → m.code ≡ Some c → code_of site.program n ≡ Some c
unfolding code_of
code_there site n m c there has = main_code site.program.members n m c there has

module _ (site : Site) (known : Known site) (inputs : List Input) (whole limit : ℕ) (sc : Scope) (locals : List Local) where
  -- ---- ids

  -- A computed property of a data struct or an enum runs with the value as `self`.
  computed_good : (room : ℕ) (c : CodeId) (d : ℕ) (s : Signature) (t u : Ty) (v : Value) → named_at (out-Ty t) ≡ Some d → HasMember site.program.table d s → s.code ≡ c → s.form ≡ form.Computed (Some u) → ValueHas site t v
      → Good site sc locals (HasResult site.program.table (Some u)) (entered (inner site.program room) c.number [] (Some v))
  computed_good room c d s t u v named has code is h =
      let m = member_of site.program.table site.program.members known.program d s has in
      let f = function_of site.program.table d m.declaration.kind m.member s false [] (Some u) m.fits (Uses.computed is) in
      let none : [] ≡ f.types = same_types [] f.types f.typed in
      let typed : ValueHas site (ty.Named d) v = subst (λ (x : Ty). ValueHas site x v) (named_is t d named) h in
      let value = value_kind site.program.table d v m.declaration typed m.declared in
      let own = member_scope d (itself_in m.declaration.kind) m.member in
      entered_good site (inner site.program room) (terms_have_meanings site known room) sc locals own (map Local.valued f.types) [] (Some v) f.main.code (Some u)
      (subst (λ (ts : List Ty). LocalsFit site own.shows (map Local.valued ts) []) none (held_values site own.shows [] [] tt)) (no_places site (itself_in m.declaration.kind) f.types)
      (subst (λ (it : Itself). ItselfFits site it (Some d) (Some v)) (sym value) (d, refl, (v, refl, typed)))
      (subst (λ g. GivesResult (context site own) (map Local.valued f.types) g (Some u)) (sym f.main.is) f.gives)
      (all_allowed site own (form_mentions f.main.code.form) (λ j. refl) (λ view b. absurd (cc (view, ap is_view value))))
      c.number (ap (λ (x : CodeId). code_of site.program x.number) (sym code) ∙ code_there site s.code.number m.member f.main.code m.there f.main.has)

  id_safe : (room code : ℕ) (r : IdRule) (t : Ty) (v : Value) → IsId (context site sc) t r → ValueHas site t v → Makes site inputs whole limit sc locals (λ x. ⊤) (id_of (building site.program room code) r v)
  unfolding id_of computed
  id_safe room code r t v (IsId.by_itself) h = safe_give site inputs limit sc locals _ v tt
  id_safe room code r t v (IsId.by_field {u = u} {n = n} named stands is) h =
      let x = known.laws.fields site.program.table (standing site known) t u n v (IsField.is_field named stands is) h in
      safe_given site inputs limit sc locals _ (field n v) (subst (GivesSome site (λ (y : Value). ⊤)) (sym x.1) tt)
  id_safe room code r t v (IsId.by_computed {u = u} {d = d} {c = c} {s = s} named has is_code is) h =
      safe_then site inputs limit sc locals _ (entered (inner site.program room) c.number [] (Some v)) (λ o. given o)
      (safe_of site inputs limit sc locals (HasResult site.program.table (Some u)) (entered (inner site.program room) c.number [] (Some v)) (computed_good room c d s t u v named has is_code is h)
      (entered_calm inputs limit (inner site.program room) (terms_calm inputs site.program limit room) (runs_calm inputs site.program room) c.number [] (Some v)))
      (λ o k. safe_weaker site inputs limit sc locals (given o) (safe_given site inputs limit sc locals (ValueHas site u) o (some_value site u o k)) (λ x y. tt))
  id_safe room code r t v (IsId.by_property {u = u} {p = p} is) h =
      safe_weaker site inputs limit sc locals (answered (called_on.property p v)) (safe_answered site inputs limit sc locals (ValueHas site u) (called_on.property p v) (known.laws.property site.program.table p t u v is h)) (λ x y. tt)

  -- ---- what is offered

  -- the element has its type, and what the local of its item holds has its own
  abbrev OfferedHas : Ty → Local → Offered → Type 0
  OfferedHas t l o = ValueHas site t o.element × Holds site l o.holds

  numbers_have : (n : ℕ) (k : ℤ) → Each (OfferedHas ty.Int (Local.valued ty.Int)) (offered_numbers n k)
  unfolding offered_numbers
  numbers_have zero k = tt
  numbers_have (suc n) k = (((known.laws.plain site.program.table).numbers k, (known.laws.plain site.program.table).numbers k), numbers_have n (k +ℤ pos 1))

  values_have : (t : Ty) (vs : List Value) → AllHaveValue site.program.table t vs → Each (OfferedHas t (Local.valued t)) (offered_values vs)
  unfolding offered_values
  values_have t vs (AllHaveValue.no_values u) = tt
  values_have t vs' (AllHaveValue.more_values {vs = vs} h more) = ((h, h), values_have t vs more)

  places_have : (l t : Ty) (p : Place) (i : ℕ) (vs : List Value) → element_at (out-Ty l) ≡ Some t → PlaceHas site known inputs limit sc locals l p → AllHaveValue site.program.table t vs
      → Each (OfferedHas t (Local.placed t)) (offered_places p i vs)
  unfolding offered_places
  places_have l t p i vs is typed (AllHaveValue.no_values u) = tt
  places_have l t p i vs' is typed (AllHaveValue.more_values {vs = vs} h more) =
      ((h, place_with site known inputs limit sc locals l t p (hop.Index (pos i)) typed (HopFits.to_element is)), places_have l t p (i + 1) vs is typed more)

  -- ---- items

  module _ (room : ℕ) (right : ItemsRight site inputs whole (item_means site.program room)) (code : ℕ) (home : Home site.program whole limit sc code) (xs : List CoreItem) (l : Local) (t : Ty) (r : IdRule)
      (h : Items (context site sc) (locals ++ l ∷ []) xs) (may : Permits site sc (joined (map item_mentions xs))) (own : Beyond limit (all_of (map item_alters xs)))
      (id : IsId (context site sc) t r) (stands : MayStand site inputs limit sc.itself l) where
    item_content_safe : (x : Input) → Holds site l x → Makes site inputs whole limit sc locals (AllFine site inputs whole limit sc locals) (item_content (building site.program room code) x xs)
    unfolding item_content
    item_content_safe x typed =
        safe_framed site inputs limit sc locals _ (push_input x >> views_from (item_means site.program room code) [] xs)
        (λ w fit. push_input_sound site inputs limit sc locals _ l x (views_from (item_means site.program room code) [] xs) w stands typed fit
        (λ u fits. sound_weaker site inputs (views_from (item_means site.program room code) [] xs u)
        (views_right site inputs whole room right limit sc code home (locals ++ l ∷ []) xs h may own [] PartsFit.no_parts u fits) (λ vs o g. (g.0, grown_more site inputs limit locals (l ∷ []) g.1))))

    item_safe : (ids : List Value) (o : Offered) → OfferedHas t l o → Makes site inputs whole limit sc locals (λ x. Fine site inputs whole limit sc locals x.made) (item_of (building site.program room code) r xs ids o)
    unfolding item_of item_node
    item_safe ids o typed =
        safe_spend site inputs limit sc locals _ (id_of (building site.program room code) r o.element >>= λ key. item_node (building site.program room code) ids xs o.holds key)
        (safe_then site inputs limit sc locals _ (id_of (building site.program room code) r o.element) (λ key. item_node (building site.program room code) ids xs o.holds key) (id_safe room code r t o.element id typed.0)
        (λ key k. safe_then site inputs limit sc locals _ (item_content (building site.program room code) o.holds xs) (λ views. view node.Item (input.Value key ∷ []) [] [] views >>= λ e. give (item_with ids key e)) (item_content_safe o.holds typed.1)
        (λ views y. safe_then site inputs limit sc locals _ (view node.Item (input.Value key ∷ []) [] [] views) (λ e. give (item_with ids key e)) (view_safe site inputs whole limit sc locals _ _ _ _ _ tt y)
        (λ e z. safe_give site inputs limit sc locals _ (item_with ids key e) (led_fits site.program site.types whole _ e z)))))

    items_safe : (os : List Offered) (ids : List Value) (so_far : List Element) → Each (OfferedHas t l) os → AllFine site inputs whole limit sc locals so_far → Makes site inputs whole limit sc locals (AllFine site inputs whole limit sc locals) (items_from (building site.program room code) r xs ids so_far os)
    unfolding items_from
    items_safe [] ids so_far typed made = safe_give site inputs limit sc locals _ so_far made
    items_safe (o ∷ os) ids so_far typed made =
        safe_then site inputs limit sc locals _ (item_of (building site.program room code) r xs ids o) (λ item. items_from (building site.program room code) r xs (ids ++ item.id ∷ []) (so_far ++ item.made ∷ []) os) (item_safe ids o typed.0)
        (λ item k. items_safe os (ids ++ item.id ∷ []) (so_far ++ item.made ∷ []) typed.1 (parts_pushed site.program site.types whole so_far item.made made k))

    all_safe : (os : List Offered) → Each (OfferedHas t l) os → Makes site inputs whole limit sc locals (AllFine site inputs whole limit sc locals) (all_items (building site.program room code) r xs os)
    unfolding all_items
    all_safe os typed = items_safe os [] [] typed PartsFit.no_parts

  -- Places that are bound stand in a view.
  binds_stand : (target : Target) (t : Ty) (w : World) → Binds (context site sc) locals target t → Fitting site inputs limit sc locals w → is_view sc.itself ≡ true
  binds_stand target t w (Binds.bound cells (Places.reached {t = from} begins leads)) fit = go target.root from cells begins
    where
      no_block : site.is_block ≡ true → ⊥
      no_block block = let body : LiveFits site None = subst (LiveFits site) fit.settled.quiet fit.fits.live in cc (body, block)

      in_view : (is_view sc.itself ≡ true) ⊎ (site.is_block ≡ true) → is_view sc.itself ≡ true
      in_view (inl h) = h
      in_view (inr h) = absurd (no_block h)

      go : (r : Root) (u : Ty) → is_among_cells r ≡ true → Begins (context site sc) locals r u → is_view sc.itself ≡ true
      go r u cells (Begins.at_local e) = cc
      go r u cells (Begins.at_bound_local {i = i} e) = in_view (fit.fits.places i u e)
      go r u cells (Begins.at_bound_input is own form) = ap is_view is
      go r u cells (Begins.at_slot is own form) = ap is_view is
      go r u cells (Begins.at_itself is has) = cc

  module _ (room : ℕ) (right : ItemsRight site inputs whole (item_means site.program room)) (code : ℕ) (home : Home site.program whole limit sc code) (xs : List CoreItem) (may : Permits site sc (joined (map item_mentions xs)))
      (own : Beyond limit (all_of (map item_alters xs))) where
    numbers_safe : (o : Over) → IsRange (context site sc) locals o → Items (context site sc) (locals ++ Local.valued ty.Int ∷ []) xs → Permits site sc (over_items_mentions (over_items.Numbers o)) → Beyond limit (over_items_alters (over_items.Numbers o))
        → Makes site inputs whole limit sc locals (AllFine site inputs whole limit sc locals) (over_numbers (building site.program room code) o xs)
    unfolding over_numbers
    numbers_safe o range h over_may over_own =
        safe_then site inputs limit sc locals _ (spans site.program room o) (λ numbers. all_items (building site.program room code) rule.Itself xs (offered_numbers numbers.count numbers.first))
        (span_safe site known inputs limit sc locals room o range over_may over_own)
        (λ numbers k. all_safe room right code home xs (Local.valued ty.Int) ty.Int rule.Itself h may own IsId.by_itself tt (offered_numbers numbers.count numbers.first) (numbers_have numbers.count numbers.first))

    list_safe : (e : Core) (r : IdRule) (l t : Ty) → Term site known inputs limit sc locals e l → element_at (out-Ty l) ≡ Some t → IsId (context site sc) t r → Items (context site sc) (locals ++ Local.valued t ∷ []) xs
        → Makes site inputs whole limit sc locals (AllFine site inputs whole limit sc locals) (over_values (building site.program room code) e r xs)
    unfolding over_values
    list_safe e r l t term is id h =
        safe_then site inputs limit sc locals _ (means site.program room e) (λ v. found (parts v) (λ vs. all_items (building site.program room code) r xs (offered_values vs))) (eval_safe site known inputs limit sc locals room e l term)
        (λ v k. let y = known.laws.lists site.program.table l t v is k in
        safe_found site inputs limit sc locals _ (parts v) y.0 (λ vs. all_items (building site.program room code) r xs (offered_values vs)) y.1
        (all_safe room right code home xs (Local.valued t) t r h may own id tt (offered_values y.0) (values_have t y.0 y.2)))

    places_safe : (target : Target) (r : IdRule) (l t : Ty) → Binds (context site sc) locals target l → element_at (out-Ty l) ≡ Some t → IsId (context site sc) t r → Items (context site sc) (locals ++ Local.placed t ∷ []) xs
        → Permits site sc (target_mentions target).mentions → Beyond limit (target_alters target).indexes → Makes site inputs whole limit sc locals (AllFine site inputs whole limit sc locals) (over_places (building site.program room code) target r xs)
    unfolding over_places
    places_safe target r l t binds is id h target_may target_own w fit =
        safe_then site inputs limit sc locals _ (bound (building site.program room code) target) (λ x. found (parts x.value) (λ vs. all_items (building site.program room code) r xs (offered_places x.place 0 vs)))
        (bound_safe site known inputs limit sc locals room code target l binds target_may target_own)
        (λ x k. let y = known.laws.lists site.program.table l t x.value is k.1 in
        safe_found site inputs limit sc locals _ (parts x.value) y.0 (λ vs. all_items (building site.program room code) r xs (offered_places x.place 0 vs)) y.1
        (all_safe room right code home xs (Local.placed t) t r h may own id (binds_stand target l w binds fit) (offered_places x.place 0 y.0) (places_have l t x.place 0 y.0 is k.0 y.2))) w fit

    over_safe : (o : ForEachOver) (l : Local) → Repeats (context site sc) locals o l → Items (context site sc) (locals ++ l ∷ []) xs → Permits site sc (over_items_mentions o) → Beyond limit (over_items_alters o)
        → Makes site inputs whole limit sc locals (Fine site inputs whole limit sc locals) (for_each (building site.program room code) o xs)
    unfolding for_each
    over_safe o l (Repeats.numbers {o = range} is) h over_may over_own =
        safe_then site inputs limit sc locals _ (over_numbers (building site.program room code) range xs) (λ views. view node.ForEach [] [] [] views) (numbers_safe range is h over_may over_own) (λ views y. view_safe site inputs whole limit sc locals _ _ _ _ _ tt y)
    over_safe o l (Repeats.values {c = c} {l = list} {t = t} {i = r} k is id) h over_may over_own =
        safe_then site inputs limit sc locals _ (over_values (building site.program room code) c r xs) (λ views. view node.ForEach [] [] [] views)
        (list_safe c r list t (k, each_front (Permitted site sc) (core_mentions c) (id_mentions r) over_may, over_own) is id h) (λ views y. view_safe site inputs whole limit sc locals _ _ _ _ _ tt y)
    over_safe o l (Repeats.places {target = target} {l = list} {t = t} {i = r} binds is id) h over_may over_own =
        safe_then site inputs limit sc locals _ (over_places (building site.program room code) target r xs) (λ views. view node.ForEach [] [] [] views)
        (places_safe target r list t binds is id h (each_front (Permitted site sc) (target_mentions target).mentions (id_mentions r) over_may) over_own) (λ views y. view_safe site inputs whole limit sc locals _ _ _ _ _ tt y)

    pub for_each_safe : (o : ForEachOver) (l : Local) → Repeats (context site sc) locals o l → Items (context site sc) (locals ++ l ∷ []) xs → Permits site sc (over_items_mentions o) → Beyond limit (over_items_alters o)
        → Makes site inputs whole limit sc locals (Fine site inputs whole limit sc locals) (for_each (building site.program room code) o xs)
    for_each_safe = over_safe
