-- The modifiers of a view expression.
use Rattle.std.specs.Prelude.{◌≡◌, ℕ, ◌+◌, ℤ, Bool, true, false, cond, List, [], ◌∷◌, ◌++◌, map, Option, Some, None, ⊤, slice_get, ◌⊎◌}
use Rattle.std.specs.List.{flat_map}
use Rattle.std.proofs.Common.{refl, sym, ap, subst, ◌∙◌, inr, inl}
use Rattle.align_guides.specs.Guides.{divides}
use Rattle.align_guides.specs.declared.GuideExpr.{GuideExpr}
use Rattle.align_guides.specs.declared.GuideKind.{GuideKind}
use Rattle.identity_path.specs.declared.input.Input.{Input}
use Rattle.identity_path.specs.declared.input.Input.TheVariants as input
use Rattle.identity_path.specs.declared.step.Step.{Step}
use Rattle.identity_path.specs.declared.step.Step.TheVariants as step
use Rattle.sv_value.specs.declared.value.Value.{Value}
use Rattle.sv_value.specs.declared.value.Value.TheVariants as value_form
use Rattle.swift_core.specs.Context.{Local, Itself, Context}
use Rattle.swift_core.specs.Mentions.{joined, optional_core_mentions, kind_mentions, item_mentions}
use Rattle.swift_core.specs.Typing.{Items, Modifiers, Content, IsModifier, Given, Wanted, needs, HasPreference, IsAction, IsReader, itself_in}
use Rattle.swift_core.specs.declared.ids.BlockId.{BlockId}
use Rattle.swift_core.specs.declared.item.CoreItem.{CoreItem}
use Rattle.swift_core.specs.declared.item.ModifierCall.{ModifierCall}
use Rattle.swift_core.specs.declared.item.ModifierKind.{ModifierKind as CallKind}
use Rattle.swift_core.specs.declared.mention.Mention.TheVariants as mention
use Rattle.swift_core.specs.declared.term.Core.{Core}
use Rattle.swift_core.specs.declared.ty.Ty.{Ty}
use Rattle.swift_core.specs.declared.ty.Ty.TheVariants as ty
use Rattle.core_means.specs.Asks.{◌>>=◌, give, World}
use Rattle.core_means.specs.Means.{means}
use Rattle.view_nodes.specs.declared.kind.ModifierKind.{ModifierKind}
use Rattle.view_nodes.specs.declared.kind.ModifierKind.TheVariants as kind
use Rattle.view_nodes.specs.declared.kind.ReaderKind.{ReaderKind}
use Rattle.view_nodes.specs.Guides.{checked}
use Rattle.body_means.specs.Building.{content}
use Rattle.body_means.specs.Elements.{led, all_led, modifier, reader}
use Rattle.body_means.specs.Items.{building, item_means}
use Rattle.body_means.specs.Kept.{block_at, captured_from, handler}
use Rattle.body_means.specs.Modified.{option_then, number_in, numbers_in, values_in, only_value, Standing, with_numbers, with_truths, with_value, with_id, with_guide, decorated, reading, with_block, on_change, modified, option_at, options_from, one_modifier, modifiers_from}
use Rattle.body_means.specs.Views.{number, number_at}
use Rattle.value_fits.specs.Forms.{number_form}
use Rattle.world_fits.specs.Laws.{Known}
use Rattle.world_fits.specs.Lists.{Each, each_front, each_back, append_none, append_twice}
use Rattle.world_fits.specs.Sites.{Site, Scope, context, ValueHas, LiveFits, is_view}
use Rattle.swift_core.specs.Alters.{all_of, optional_alters, item_alters}
use Rattle.reader_locals.specs.AlterLayers.{From, Beyond}
use Rattle.reader_locals.specs.ItemAlters as alters
use Rattle.reader_locals.specs.ItemAlters.{modifier_alters}
use Rattle.body_terms.specs.Homes.{Home, Written, action_written, reader_written, block_found, kept_below, kept_shown, Permitted, Permits, block_place, numbered_of}
use Rattle.view_rights.specs.ItemMentions as mentions
use Rattle.view_rights.specs.ItemMentions.{modifier_mentions}
use Rattle.body_terms.specs.Nodes.{Makes, modifier_safe, reader_safe, ItemsRight, content_safe, AllFine, Fine}
use Rattle.body_terms.specs.Safe.{safe_then, safe_give, safe_found, safe_weaker, Fitting}
use Rattle.body_terms.specs.Terms.{Safely, eval_safe, captured_safe, handler_safe, same_context}
use Rattle.body_terms.specs.Gives.{PartsFit, all_led_fit, led_fits}
use Rattle.world_fits.specs.Kept.{KeptHave}

-- ---- arguments, each given or left out

module _ (site : Site) where
  abbrev pub OptionHas : Wanted → Option Value → Type 0
  OptionHas w None = w.may_be_left_out ≡ true
  OptionHas w (Some v) = ValueHas site w.ty v

  abbrev pub OptionsHave : List Wanted → List (Option Value) → Type 0
  OptionsHave [] [] = ⊤
  OptionsHave (w ∷ ws) (o ∷ os) = OptionHas w o × OptionsHave ws os
  OptionsHave ws os = ⊥

  number_given : (w : Wanted) (o : Option Value) → w.ty ≡ ty.Int → OptionHas w o → (n : Option ℤ) × (number_in o ≡ Some n)
  unfolding number
  number_given w None is h = (None, refl)
  number_given w (Some v) is h = let n = number_form site.program.table v (subst (λ (t : Ty). ValueHas site t v) is h) in (Some n.0, ap (λ (m : Option ℤ). option_then m (λ k. Some (Some k))) (ap number_at n.1))

  -- numbers
  numbers_given : (ws : List Wanted) (os : List (Option Value)) → Each (λ (w : Wanted). w.ty ≡ ty.Int) ws → OptionsHave ws os → (ns : List (Option ℤ)) × (numbers_in os ≡ Some ns)
  unfolding numbers_in
  numbers_given [] [] is h = ([], refl)
  numbers_given [] (o ∷ os) is h = absurd h
  numbers_given (w ∷ ws) [] is h = absurd h
  numbers_given (w ∷ ws) (o ∷ os) is h =
      let n = number_given w o is.0 h.0 in
      let rest = numbers_given ws os is.1 h.1 in
      (n.0 ∷ rest.0, ap (λ (x : Option (Option ℤ)). option_then x (λ m. option_then (numbers_in os) (λ ms. Some (m ∷ ms)))) n.1 ∙ ap (λ (x : Option (List (Option ℤ))). option_then x (λ ms. Some (n.0 ∷ ms))) rest.1)

  -- values, of which those that are left out have one in their place
  values_filled : (default : Value) (os : List (Option Value)) → (vs : List Input) × (values_in (Some default) os ≡ Some vs)
  unfolding values_in
  values_filled default [] = ([], refl)
  values_filled default (None ∷ os) = let rest = values_filled default os in (input.Value default ∷ rest.0, ap (λ (x : Option (List Input)). option_then x (λ vs. Some (input.Value default ∷ vs))) rest.1)
  values_filled default (Some v ∷ os) = let rest = values_filled default os in (input.Value v ∷ rest.0, ap (λ (x : Option (List Input)). option_then x (λ vs. Some (input.Value v ∷ vs))) rest.1)

  -- one value
  one_has : (w : Wanted) (os : List (Option Value)) → w.may_be_left_out ≡ false → OptionsHave (w ∷ []) os → (v : Value) × (os ≡ Some v ∷ [])
  one_has w [] needed h = absurd h
  one_has w (None ∷ os) needed h = absurd (cc (needed, h.0))
  one_has w (Some v ∷ []) needed h = (v, refl)
  one_has w (Some v ∷ (o ∷ os)) needed h = absurd h.1

guide_checked : (e : GuideExpr) → divides e ≡ true → checked e ≡ Some e
guide_checked e h = ap (λ b. cond b (Some e) None) h

module _ (site : Site) (known : Known site) (inputs : List Input) (whole room : ℕ) (right : ItemsRight site inputs whole (item_means site.program room)) (limit : ℕ) (sc : Scope) (code : ℕ) (home : Home site.program whole limit sc code) (locals : List Local) where
  option_safe : (o : Option Core) (w : Wanted) (cs : List (Option Core)) (ws : List Wanted) → Given (context site sc) locals (o ∷ cs) (w ∷ ws) → Permits site sc (optional_core_mentions o) → Beyond limit (optional_alters o)
      → Safely site known inputs limit sc locals (OptionHas site w) (option_at (building site.program room code) o)
  option_safe None w cs ws (Given.left_out may_be more) may own = safe_give site inputs limit sc locals _ None may_be
  option_safe (Some c) w cs ws (Given.one_given h more) may own =
      safe_then site inputs limit sc locals _ (means site.program room c) (λ v. give (Some v)) (eval_safe site known inputs limit sc locals room c w.ty (h, may, own)) (λ v k. safe_give site inputs limit sc locals _ (Some v) k)

  given_rest : (o : Option Core) (w : Wanted) (cs : List (Option Core)) (ws : List Wanted) → Given (context site sc) locals (o ∷ cs) (w ∷ ws) → Given (context site sc) locals cs ws
  given_rest None w cs ws (Given.left_out may_be more) = more
  given_rest (Some c) w cs ws (Given.one_given h more) = more

  options_safe : (cs : List (Option Core)) (ws : List Wanted) (so_far : List (Option Value)) → Given (context site sc) locals cs ws → Permits site sc (flat_map optional_core_mentions cs) → Beyond limit (flat_map optional_alters cs)
      → Safely site known inputs limit sc locals (λ os. (more : List (Option Value)) × (os ≡ so_far ++ more) × OptionsHave site ws more) (options_from (building site.program room code) so_far cs)
  unfolding options_from
  options_safe [] [] so_far h may own = safe_give site inputs limit sc locals _ so_far ([], sym (append_none so_far), tt)
  options_safe [] (w ∷ ws) so_far h may own = elim h [ ]
  options_safe (c ∷ cs) [] so_far h may own = elim h [ ]
  options_safe (c ∷ cs) (w ∷ ws) so_far h may own =
      safe_then site inputs limit sc locals _ (option_at (building site.program room code) c) (λ o. options_from (building site.program room code) (so_far ++ o ∷ []) cs)
      (option_safe c w cs ws h (each_front (Permitted site sc) (optional_core_mentions c) (flat_map optional_core_mentions cs) may) (each_front (From limit) (optional_alters c) (flat_map optional_alters cs) own))
      (λ o k. safe_weaker site inputs limit sc locals (options_from (building site.program room code) (so_far ++ o ∷ []) cs)
      (options_safe cs ws (so_far ++ o ∷ []) (given_rest c w cs ws h) (each_back (Permitted site sc) (optional_core_mentions c) (flat_map optional_core_mentions cs) may) (each_back (From limit) (optional_alters c) (flat_map optional_alters cs) own))
      (λ os e. (o ∷ e.0, e.1 ∙ append_twice so_far (o ∷ []) e.0, (k, e.2))))

  -- ---- one modifier

  view_is : (i : Itself) → is_view i ≡ true → i ≡ Itself.a_view
  view_is Itself.no_self e = cc
  view_is Itself.a_view e = refl
  view_is Itself.a_value e = cc
  view_is Itself.a_changed_value e = cc

  -- Locals that hold places stand in a view.
  places_stand : (w : World) → Fitting site inputs limit sc locals w → (i : ℕ) (t : Ty) → slice_get locals i ≡ Some (Local.placed t) → itself_in home.declaration.kind ≡ Itself.a_view
  places_stand w fit i t e = go (fit.fits.places i t e)
    where
      go : (is_view sc.itself ≡ true) ⊎ (site.is_block ≡ true) → itself_in home.declaration.kind ≡ Itself.a_view
      go (inl h) = sym home.its ∙ view_is sc.itself h
      go (inr h) = let body : LiveFits site None = subst (LiveFits site) fit.settled.quiet fit.fits.live in absurd (cc (body, h))

  module _ (s : Standing) (wrapped : Fine site inputs whole limit sc locals s.wrapped) where
    alone : AllFine site inputs whole limit sc locals (s.wrapped ∷ [])
    alone = PartsFit.more_parts wrapped PartsFit.no_parts

    numbers_safe : (k : ModifierKind) (ws : List Wanted) (os : List (Option Value)) → Each (λ (w : Wanted). w.ty ≡ ty.Int) ws → OptionsHave site ws os → Makes site inputs whole limit sc locals (Fine site inputs whole limit sc locals) (with_numbers (building site.program room code) s k os)
    unfolding with_numbers
    numbers_safe k ws os is h =
        let ns = numbers_given site ws os is h in
        safe_found site inputs limit sc locals _ (numbers_in os) ns.0 (λ xs. modifier k s.number [] xs [] (s.wrapped ∷ [])) ns.1 (modifier_safe site inputs whole limit sc locals _ _ _ _ _ _ tt alone)

    truths_safe : (k : ModifierKind) (os : List (Option Value)) → Makes site inputs whole limit sc locals (Fine site inputs whole limit sc locals) (with_truths (building site.program room code) s k os)
    unfolding with_truths
    truths_safe k os =
        let vs = values_filled site (value_form.Bool true) os in
        safe_found site inputs limit sc locals _ (values_in (Some (value_form.Bool true)) os) vs.0 (λ xs. modifier k s.number xs [] [] (s.wrapped ∷ [])) vs.1 (modifier_safe site inputs whole limit sc locals _ _ _ _ _ _ tt alone)

    one_value : (os : List (Option Value)) (v : Value) → os ≡ Some v ∷ [] → values_in None os ≡ Some (input.Value v ∷ [])
    unfolding values_in
    one_value os v e = ap (values_in None) e

    value_safe : (k : ModifierKind) (w : Wanted) (os : List (Option Value)) → w.may_be_left_out ≡ false → OptionsHave site (w ∷ []) os → Makes site inputs whole limit sc locals (Fine site inputs whole limit sc locals) (with_value (building site.program room code) s k os)
    unfolding with_value
    value_safe k w os needed h =
        let v = one_has site w os needed h in
        safe_found site inputs limit sc locals _ (values_in None os) (input.Value v.0 ∷ []) (λ xs. modifier k s.number xs [] [] (s.wrapped ∷ [])) (one_value os v.0 v.1) (modifier_safe site inputs whole limit sc locals _ _ _ _ _ _ tt alone)

    id_safe : (w : Wanted) (os : List (Option Value)) → w.may_be_left_out ≡ false → OptionsHave site (w ∷ []) os → Makes site inputs whole limit sc locals (Fine site inputs whole limit sc locals) (with_id (building site.program room code) s os)
    unfolding with_id
    id_safe w os needed h =
        let v = one_has site w os needed h in
        safe_found site inputs limit sc locals _ (only_value os) v.0 (λ x. modifier kind.Id s.number (input.Value x ∷ []) [] [] (led (step.Id x ∷ []) s.wrapped ∷ [])) (ap only_value v.1) (modifier_safe site inputs whole limit sc locals _ _ _ _ _ _ tt (PartsFit.more_parts (led_fits site.program site.types whole _ s.wrapped wrapped) PartsFit.no_parts))

    guide_safe : (g : GuideKind) (e : GuideExpr) → divides e ≡ true → Makes site inputs whole limit sc locals (Fine site inputs whole limit sc locals) (with_guide (building site.program room code) s g e)
    unfolding with_guide
    guide_safe g e h = safe_found site inputs limit sc locals _ (checked e) e (λ x. modifier (kind.AlignmentGuide g x) s.number [] [] [] (s.wrapped ∷ [])) (guide_checked e h) (modifier_safe site inputs whole limit sc locals _ _ _ _ _ _ tt alone)

    decorated_safe : (k : ModifierKind) (at : Step) (xs : List CoreItem) → Items (context site sc) locals xs → Permits site sc (joined (map item_mentions xs)) → Beyond limit (all_of (map item_alters xs))
        → Makes site inputs whole limit sc locals (Fine site inputs whole limit sc locals) (decorated (building site.program room code) s k at xs)
    unfolding decorated
    decorated_safe k at xs h may own =
        safe_then site inputs limit sc locals _ (content (building site.program room code) xs) (λ views. modifier k s.number [] [] [] (s.wrapped ∷ all_led (at ∷ []) views)) (content_safe site inputs whole room right limit sc code home locals xs h may own)
        (λ views y. modifier_safe site inputs whole limit sc locals _ _ _ _ _ _ tt (PartsFit.more_parts wrapped (all_led_fit site.program site.types whole (at ∷ []) views y)))

    reading_safe : (k : ReaderKind) (key : ℕ) (id : BlockId) → Written sc.blocks locals id → Permitted site sc (mention.Block id) → (t : Ty) → HasPreference site.program.table key t → IsReader (context site sc) locals id t
        → Makes site inputs whole limit sc locals (Fine site inputs whole limit sc locals) (reading (building site.program room code) s k key id)
    unfolding reading
    reading_safe k key id w may t has reads world fit =
        let n = numbered_of site.program whole limit sc code home id w.code w.there in
        let place = block_place site.program whole limit sc code home id w.code w.there in
        safe_found site inputs limit sc locals _ (block_at site.program code id) (record { number = n; code = w.code })
        (λ block. captured_from [] block.code.kept >>= λ captured. reader (record { kind = k; number = s.number; decoration = s.decoration; key = key; unit = record { number = block.number }; captured = captured }) s.wrapped)
        (block_found site.program whole limit sc code home id w.code w.there)
        (safe_then site inputs limit sc locals _ (captured_from [] w.code.kept) (λ captured. reader (record { kind = k; number = s.number; decoration = s.decoration; key = key; unit = record { number = n }; captured = captured }) s.wrapped)
        (captured_safe site known inputs limit sc locals w.code.kept [] (kept_below sc.blocks locals id w) (kept_shown site sc id w.code w.there may))
        (λ captured y. reader_safe site inputs whole limit sc locals (record { kind = k; number = s.number; decoration = s.decoration; key = key; unit = record { number = n }; captured = captured }) s.wrapped (record {
          place = place;
          locals = locals;
          preference = t;
          key = has;
          reads = subst (λ (cx : Context). IsReader cx locals id t) (same_context site whole limit sc code home) reads;
          places = places_stand world fit;
          captured = subst (KeptHave site.program.table site.types locals w.code.kept []) (sym y.1) y.2;
        }) wrapped)) world fit

    block_safe : (k : ModifierKind) (xs : List Input) (id : BlockId) → Written sc.blocks locals id → Permitted site sc (mention.Block id) → (ts : List Ty) → IsAction (context site sc) locals id ts
        → Makes site inputs whole limit sc locals (Fine site inputs whole limit sc locals) (with_block (building site.program room code) s k xs id)
    unfolding with_block
    block_safe k xs id w may ts acts =
        safe_then site inputs limit sc locals _ (handler (building site.program room code) id) (λ h. modifier k s.number xs [] (h ∷ []) (s.wrapped ∷ [])) (handler_safe site known inputs limit sc locals whole room code home id w may ts acts)
        (λ h y. modifier_safe site inputs whole limit sc locals _ _ _ _ _ _ (y, tt) alone)

    change_safe : (w : Wanted) (id : BlockId) (os : List (Option Value)) → w.may_be_left_out ≡ false → OptionsHave site (w ∷ []) os → Written sc.blocks locals id → Permitted site sc (mention.Block id)
        → (ts : List Ty) → IsAction (context site sc) locals id ts → Makes site inputs whole limit sc locals (Fine site inputs whole limit sc locals) (on_change (building site.program room code) s id os)
    unfolding on_change
    change_safe w id os needed h written may ts acts =
        let v = one_has site w os needed h in
        safe_found site inputs limit sc locals _ (values_in None os) (input.Value v.0 ∷ []) (λ xs. with_block (building site.program room code) s kind.OnChange xs id) (one_value os v.0 v.1)
        (block_safe kind.OnChange (input.Value v.0 ∷ []) id written may ts acts)

    content_items : (xs : List CoreItem) → Content (context site sc) locals true xs → Items (context site sc) locals xs
    content_items xs (Content.content h) = h

    modified_safe : (k : CallKind) (ws : List Wanted) (has_content : Bool) (os : List (Option Value)) (xs : List CoreItem) → IsModifier (context site sc) locals k ws has_content → OptionsHave site ws os
        → Content (context site sc) locals has_content xs → Permits site sc (kind_mentions k) → Permits site sc (joined (map item_mentions xs)) → Beyond limit (all_of (map item_alters xs))
        → Makes site inputs whole limit sc locals (Fine site inputs whole limit sc locals) (modified (building site.program room code) s k os xs)
    unfolding modified
    modified_safe k ws b os xs (IsModifier.fixed_frame) h inner may items_may own = numbers_safe _ ws os (refl, (refl, tt)) h
    modified_safe k ws b os xs (IsModifier.flexible_frame) h inner may items_may own = numbers_safe _ ws os (refl, (refl, (refl, (refl, (refl, (refl, tt)))))) h
    modified_safe k ws b os xs (IsModifier.padding) h inner may items_may own = numbers_safe _ ws os (refl, tt) h
    modified_safe k ws b os xs (IsModifier.fixed_size) h inner may items_may own = truths_safe _ os
    modified_safe k ws b os xs (IsModifier.offset) h inner may items_may own = numbers_safe _ ws os (refl, (refl, tt)) h
    modified_safe k ws b os xs (IsModifier.layout_priority) h inner may items_may own = numbers_safe _ ws os (refl, tt) h
    modified_safe k ws b os xs (IsModifier.line_limit) h inner may items_may own = numbers_safe _ ws os (refl, tt) h
    modified_safe k ws b os xs (IsModifier.alignment_guide {g = g} {e = e} divided) h inner may items_may own = guide_safe g e divided
    modified_safe k ws b os xs (IsModifier.overlay) h inner may items_may own = decorated_safe _ _ xs (content_items xs inner) items_may own
    modified_safe k ws b os xs (IsModifier.background) h inner may items_may own = decorated_safe _ _ xs (content_items xs inner) items_may own
    modified_safe k ws b os xs (IsModifier.identity t) h inner may items_may own = id_safe (needs t) os refl h
    modified_safe k ws b os xs (IsModifier.set_environment {t = t} at typed) h inner may items_may own = value_safe _ (needs t) os refl h
    modified_safe k ws b os xs (IsModifier.disabled) h inner may items_may own = value_safe _ (needs ty.Bool) os refl h
    modified_safe k ws b os xs (IsModifier.allows_hit_testing) h inner may items_may own = value_safe _ (needs ty.Bool) os refl h
    modified_safe k ws b os xs (IsModifier.preference {t = t} has) h inner may items_may own = value_safe _ (needs t) os refl h
    modified_safe k ws b os xs (IsModifier.overlay_reader {k = key} {b = id} {t = t} has is) h inner may items_may own = reading_safe _ key id (reader_written (context site sc) locals id t is) may.0 t has is
    modified_safe k ws b os xs (IsModifier.background_reader {k = key} {b = id} {t = t} has is) h inner may items_may own = reading_safe _ key id (reader_written (context site sc) locals id t is) may.0 t has is
    modified_safe k ws b os xs (IsModifier.on_appear {b = id} is) h inner may items_may own = block_safe _ [] id (action_written (context site sc) locals id _ is) may.0 _ is
    modified_safe k ws b os xs (IsModifier.on_disappear {b = id} is) h inner may items_may own = block_safe _ [] id (action_written (context site sc) locals id _ is) may.0 _ is
    modified_safe k ws b os xs (IsModifier.on_change {b = id} t is) h inner may items_may own = change_safe (needs t) id os refl h (action_written (context site sc) locals id _ is) may.0 _ is
    modified_safe k ws b os xs (IsModifier.on_change_of {b = id} {t = t} is) h inner may items_may own = change_safe (needs t) id os refl h (action_written (context site sc) locals id _ is) may.0 _ is
    modified_safe k ws b os xs (IsModifier.on_preference_change {b = id} has is) h inner may items_may own = block_safe _ [] id (action_written (context site sc) locals id _ is) may.0 _ is
    modified_safe k ws b os xs (IsModifier.on_tap_gesture {b = id} is) h inner may items_may own = block_safe _ [] id (action_written (context site sc) locals id _ is) may.0 _ is

  -- ---- modifiers from the inside

  one_safe : (s : Standing) → Fine site inputs whole limit sc locals s.wrapped → (m : ModifierCall) (ws : List Wanted) (has_content : Bool) → IsModifier (context site sc) locals m.kind ws has_content → Given (context site sc) locals m.arguments ws
      → Content (context site sc) locals has_content m.content → Permits site sc (modifier_mentions m) → Beyond limit (modifier_alters m) → Makes site inputs whole limit sc locals (Fine site inputs whole limit sc locals) (one_modifier (building site.program room code) s m)
  unfolding one_modifier
  one_safe s wrapped m ws b is arguments inner may own =
      let may' = subst (Permits site sc) (mentions.modifier_is m) may in
      let own' = subst (Beyond limit) (alters.modifier_is m) own in
      let rest = each_back (Permitted site sc) (flat_map optional_core_mentions m.arguments) (kind_mentions m.kind ++ joined (map item_mentions m.content)) may' in
      safe_then site inputs limit sc locals _ (options_from (building site.program room code) [] m.arguments) (λ os. modified (building site.program room code) s m.kind os m.content)
      (options_safe m.arguments ws [] arguments (each_front (Permitted site sc) (flat_map optional_core_mentions m.arguments) (kind_mentions m.kind ++ joined (map item_mentions m.content)) may')
      (each_front (From limit) (flat_map optional_alters m.arguments) (all_of (map item_alters m.content)) own'))
      (λ os e. modified_safe s wrapped m.kind ws b os m.content is (subst (OptionsHave site ws) (sym e.1) e.2) inner (each_front (Permitted site sc) (kind_mentions m.kind) (joined (map item_mentions m.content)) rest)
      (each_back (Permitted site sc) (kind_mentions m.kind) (joined (map item_mentions m.content)) rest) (each_back (From limit) (flat_map optional_alters m.arguments) (all_of (map item_alters m.content)) own'))

  pub modifiers_safe : (ms : List ModifierCall) → Modifiers (context site sc) locals ms → Permits site sc (joined (map modifier_mentions ms)) → Beyond limit (all_of (map modifier_alters ms)) → (s : Standing) → Fine site inputs whole limit sc locals s.wrapped
      → Makes site inputs whole limit sc locals (Fine site inputs whole limit sc locals) (modifiers_from (building site.program room code) s ms)
  unfolding modifiers_from
  modifiers_safe ms (Modifiers.no_modifiers) may own s wrapped = safe_give site inputs limit sc locals _ s.wrapped wrapped
  modifiers_safe ms' (Modifiers.more_modifiers {m = m} {ms = ms} {ws = ws} {has_content = b} is arguments inner more) may own s wrapped =
      safe_then site inputs limit sc locals _ (one_modifier (building site.program room code) s m) _
      (one_safe s wrapped m ws b is arguments inner (each_front (Permitted site sc) (modifier_mentions m) (joined (map modifier_mentions ms)) may) (each_front (From limit) (modifier_alters m) (all_of (map modifier_alters ms)) own))
      (λ e k. modifiers_safe ms more (each_back (Permitted site sc) (modifier_mentions m) (joined (map modifier_mentions ms)) may) (each_back (From limit) (modifier_alters m) (all_of (map modifier_alters ms)) own) _ k)
