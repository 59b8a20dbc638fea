-- View expressions before their modifiers.
use Rattle.std.specs.Prelude.{◌≡◌, ℕ, zero, ℤ, true, List, [], ◌∷◌, ◌++◌, map, Option, Some, None, slice_get, ⊤}
use Rattle.std.specs.List.{flat_map}
use Rattle.std.proofs.Common.{refl, sym, ap, subst, ◌∙◌, inl}
use Rattle.align_guides.specs.declared.Axis.{Axis}
use Rattle.identity_path.specs.declared.input.Input.{Input}
use Rattle.identity_path.specs.declared.input.Input.TheVariants as input
use Rattle.identity_path.specs.declared.step.Step.TheVariants as step
use Rattle.sv_value.specs.declared.value.Value.{Value, out-Value}
use Rattle.swift_core.specs.Context.{Local, Itself, HasMember}
use Rattle.swift_core.specs.Mentions.{Mentions, LabelMentions, joined, core_mentions, optional_core_mentions, over_items_mentions, target_mentions, item_mentions, form_mentions}
use Rattle.swift_core.specs.Programs.{Reaches}
use Rattle.swift_core.specs.Typing.{Arguments, IsAction, Items, View, IsLabel, LabelForm, ViewForm, Takes, Given, GivesViews, FitsSignature, itself_in}
use Rattle.swift_core.specs.declared.code.CodeForm.{CodeForm}
use Rattle.swift_core.specs.declared.code.CodeForm.TheVariants as code_form
use Rattle.swift_core.specs.declared.code.CoreMember.{CoreMember}
use Rattle.swift_core.specs.declared.ids.BlockId.{BlockId}
use Rattle.swift_core.specs.declared.ids.CodeId.{CodeId}
use Rattle.swift_core.specs.declared.item.Alignment.{Alignment}
use Rattle.swift_core.specs.declared.item.CoreItem.{CoreItem}
use Rattle.swift_core.specs.declared.item.Label.{Label, out-Label}
use Rattle.swift_core.specs.declared.item.ViewCall.{ViewCall, out-ViewCall}
use Rattle.swift_core.specs.declared.mention.Mention.TheVariants as mention
use Rattle.swift_core.specs.declared.table.Declaration.{Declaration}
use Rattle.swift_core.specs.declared.table.Kind.{Kind}
use Rattle.swift_core.specs.declared.table.Kind.TheVariants as kind
use Rattle.swift_core.specs.declared.table.ParamSignature.{ParamSignature}
use Rattle.swift_core.specs.declared.table.Signature.{Signature}
use Rattle.swift_core.specs.declared.table.SignatureForm.TheVariants as form
use Rattle.swift_core.specs.declared.table.Table.{Table}
use Rattle.swift_core.specs.declared.term.Core.{Core}
use Rattle.swift_core.specs.declared.term.Target.{Target}
use Rattle.swift_core.specs.declared.ty.Ty.{Ty}
use Rattle.swift_core.specs.declared.ty.Ty.TheVariants as ty
use Rattle.core_means.specs.Asks.{Done, ◌>>=◌, give, given, found}
use Rattle.core_means.specs.Means.{inner, code_of, held, values_from, within, means}
use Rattle.view_nodes.specs.declared.kind.NodeKind.TheVariants as node
use Rattle.view_nodes.specs.declared.node.Element.{Element}
use Rattle.body_means.specs.Building.{Bound, bound, content, views_from}
use Rattle.body_means.specs.Elements.{led, view, text}
use Rattle.body_means.specs.Items.{building, item_means}
use Rattle.body_means.specs.Kept.{handler}
use Rattle.body_means.specs.Views.{number_at, number, spacings, items_in, items_of, items_at, number_of, text_view, image, text_label, label_at, label, button, toggle_node, toggle_at, toggle, spacer, stack, group, views_of, builder, view_at, view_form}
use Rattle.value_fits.specs.Changes.{ValuesHave}
use Rattle.value_fits.specs.Forms.{number_form}
use Rattle.world_fits.specs.Codes.{member_of, quiet_code, all_allowed}
use Rattle.world_fits.specs.Laws.{Known}
use Rattle.world_fits.specs.Lists.{Each, each_front, each_back, some_same}
use Rattle.world_fits.specs.Locals.{held_values, no_places}
use Rattle.world_fits.specs.Right.{GivesSome}
use Rattle.world_fits.specs.Sites.{Site, Scope, context, LocalsFit, ItselfFits, Allowed, is_view}
use Rattle.form_rights.specs.Blocks.{joined_map}
use Rattle.form_rights.specs.Callees.{MainCode, main_of, member_context}
use Rattle.form_rights.specs.Calls.{same_types, member_scope}
use Rattle.form_rights.specs.Inside.{MayDo}
use Rattle.swift_core.specs.Alters.{all_of, core_alters, optional_alters, over_items_alters, target_alters, item_alters}
use Rattle.reader_locals.specs.AlterLayers.{From, Beyond, beyond_none}
use Rattle.reader_locals.specs.Filled.{filled_held, settled_back, settled_held}
use Rattle.reader_locals.specs.ItemAlters as alters
use Rattle.reader_locals.specs.ItemAlters.{label_alters, view_alters}
use Rattle.view_rights.specs.Customs.{ViewsHaveBodies, custom_view_safe}
use Rattle.view_rights.specs.Each.{code_there, for_each_safe}
use Rattle.body_terms.specs.Homes.{Home, main_member, action_written, Permitted, Permits}
use Rattle.view_rights.specs.ItemMentions as mentions
use Rattle.view_rights.specs.ItemMentions.{label_mentions, view_mentions}
use Rattle.body_terms.specs.Nodes.{Makes, view_safe, text_safe, ItemsRight, views_right, content_safe, Fine, AllFine}
use Rattle.body_terms.specs.Safe.{Fitting, safe_then, safe_give, safe_given, safe_weaker}
use Rattle.body_terms.specs.Sound.{Sound, then_sound, done_sound}
use Rattle.body_terms.specs.Terms.{Safely, Term, eval_safe, values_safe, handler_safe, bound_safe}
use Rattle.body_terms.specs.Gives.{PartsFit, led_fits}

-- what is shown to all is permitted where it is allowed
pub permits_all : (site : Site) (sc : Scope) (ms : Mentions) → ((i : ℕ) → sc.shows i ≡ true) → MayDo site sc ms → Permits site sc ms
permits_all site sc [] shows h = tt
permits_all site sc (mention.Local i ∷ ms) shows h = ((h.0, tt), permits_all site sc ms shows h.1)
permits_all site sc (mention.Code c ∷ ms) shows h = ((h.0, tt), permits_all site sc ms shows h.1)
permits_all site sc (mention.Write ∷ ms) shows h = ((h.0, tt), permits_all site sc ms shows h.1)
permits_all site sc (mention.Block b ∷ ms) shows h = ((h.0, each _), permits_all site sc ms shows h.1)
  where
    each : (ks : List ℕ) → Each (λ k. sc.shows k ≡ true) ks
    each [] = tt
    each (k ∷ ks) = (shows k, each ks)

-- ---- properties and functions that give views

-- the items of such a member, with the types of its parameters
pub record Builder (table : Table) (d : ℕ) (k : Kind) (m : CoreMember) (ps : List ParamSignature) : Type 0 where
  pub types : List Ty
  pub typed : map (λ (p : ParamSignature). p.ty) ps ≡ map Some types
  pub items : List CoreItem
  pub main : MainCode m types (code_form.Builder items)
  pub fits : Items (member_context table d (itself_in k) m) (map Local.valued types) items

module _ (table : Table) (d : ℕ) (k : Kind) (m : CoreMember) where
  property_builder : FitsSignature table d k m form.BuilderProperty → Builder table d k m []
  property_builder (FitsSignature.builder_property {is = xs} begins h stand) = record { types = []; typed = refl; items = xs; main = main_of m [] _ begins; fits = h }

  function_builder : (ps : List ParamSignature) → FitsSignature table d k m (form.BuilderFunction ps) → Builder table d k m ps
  function_builder ps (FitsSignature.builder_function {ts = ts} {is = xs} typed begins h stand) = record { types = ts; typed = typed; items = xs; main = main_of m ts _ begins; fits = h }

  pub builder_of : (s : Signature) (ps : List ParamSignature) → GivesViews s ps → FitsSignature table d k m s.form → Builder table d k m ps
  builder_of s ps (GivesViews.by_builder_property e) fits = property_builder (subst (FitsSignature table d k m) e fits)
  builder_of s ps (GivesViews.by_builder_function {ps = qs} e) fits = function_builder qs (subst (FitsSignature table d k m) e fits)

module _ (site : Site) (known : Known site) (bodies : ViewsHaveBodies site.program.table) (inputs : List Input) (whole room : ℕ) (right : ItemsRight site inputs whole (item_means site.program room)) (limit : ℕ) (sc : Scope) (code : ℕ) (home : Home site.program whole limit sc code)
    (locals : List Local) where
  abbrev Terms : Core → Ty → Type 0
  Terms e t = Term site known inputs limit sc locals e t

  -- ---- numbers

  number_is : (v : Value) → (n : ℤ) → number_at (out-Value v) ≡ Some n → Safely site known inputs limit sc locals (λ (x : Option ℤ). ⊤) (given (number v) >>= λ m. give (Some m))
  unfolding number
  number_is v n e =
      safe_then site inputs limit sc locals _ (given (number_at (out-Value v))) (λ m. give (Some m))
      (safe_given site inputs limit sc locals (λ (x : ℤ). ⊤) (number_at (out-Value v)) (subst (GivesSome site (λ (x : ℤ). ⊤)) (sym e) tt)) (λ m h. safe_give site inputs limit sc locals _ (Some m) tt)

  number_safe : (o : Option Core) → Takes (context site sc) locals o ty.Int → Permits site sc (optional_core_mentions o) → Beyond limit (optional_alters o) → Makes site inputs whole limit sc locals (λ x. ⊤) (number_of (building site.program room code) o)
  unfolding number_of
  number_safe None h may own = safe_give site inputs limit sc locals _ None tt
  number_safe (Some e) (Given.one_given h more) may own =
      safe_then site inputs limit sc locals _ (means site.program room e) (λ v. given (number v) >>= λ n. give (Some n)) (eval_safe site known inputs limit sc locals room e ty.Int (h, may, own))
      (λ v k. let n = number_form site.program.table v k in number_is v n.0 (ap number_at n.1))

  -- ---- texts and labels

  text_view_safe : (e : Core) → Terms e ty.Text → Makes site inputs whole limit sc locals (Fine site inputs whole limit sc locals) (text_view (building site.program room code) e)
  unfolding text_view
  text_view_safe e h = safe_then site inputs limit sc locals _ (means site.program room e) (λ v. text v) (eval_safe site known inputs limit sc locals room e ty.Text h) (λ v k. text_safe site inputs whole limit sc locals v)

  image_safe : (e : Core) → Terms e ty.Text → Makes site inputs whole limit sc locals (Fine site inputs whole limit sc locals) (image (building site.program room code) e)
  unfolding image
  image_safe e h =
      safe_then site inputs limit sc locals _ (means site.program room e) (λ v. view node.Image (input.Value v ∷ []) [] [] []) (eval_safe site known inputs limit sc locals room e ty.Text h)
      (λ v k. view_safe site inputs whole limit sc locals _ _ _ _ _ tt PartsFit.no_parts)

  text_label_safe : (e : Core) → Terms e ty.Text → Makes site inputs whole limit sc locals (AllFine site inputs whole limit sc locals) (text_label (building site.program room code) e)
  unfolding text_label
  text_label_safe e h =
      safe_then site inputs limit sc locals _ (text_view (building site.program room code) e) (λ t. give (led (step.Child 0 ∷ []) t ∷ [])) (text_view_safe e h) (λ t k. safe_give site inputs limit sc locals _ _ (PartsFit.more_parts (led_fits site.program site.types whole _ t k) PartsFit.no_parts))

  label_safe : (l : LabelForm) → IsLabel (context site sc) locals l → Permits site sc (mentions.label_layer l).before → Permits site sc (mentions.label_layer l).after → Beyond limit (alters.label_layer l)
      → Makes site inputs whole limit sc locals (AllFine site inputs whole limit sc locals) (label_at (building site.program room code) l)
  label_safe l (IsLabel.text_label {c = c} h) before after own = text_label_safe c (h, before, own)
  label_safe l (IsLabel.content_label {is = xs} h) before after own = content_safe site inputs whole room right limit sc code home locals xs h after own

  button_safe : (id : BlockId) (l : Label) → IsAction (context site sc) locals id [] → IsLabel (context site sc) locals (out-Label l)
      → Permits site sc ((label_mentions l).before ++ (mention.Block id ∷ (label_mentions l).after)) → Beyond limit (label_alters l) → Makes site inputs whole limit sc locals (Fine site inputs whole limit sc locals) (button (building site.program room code) id l)
  unfolding button label
  button_safe id l acts h may own =
      let rest = each_back (Permitted site sc) (label_mentions l).before (mention.Block id ∷ (label_mentions l).after) may in
      safe_then site inputs limit sc locals _ (label_at (building site.program room code) (out-Label l)) (λ views. handler (building site.program room code) id >>= λ h. view node.Button [] [] (h ∷ []) views)
      (label_safe (out-Label l) h (subst (λ (x : LabelMentions). Permits site sc x.before) (mentions.label_is l) (each_front (Permitted site sc) (label_mentions l).before (mention.Block id ∷ (label_mentions l).after) may))
      (subst (λ (x : LabelMentions). Permits site sc x.after) (mentions.label_is l) rest.1) (subst (Beyond limit) (alters.label_is l) own))
      (λ views k. safe_then site inputs limit sc locals _ (handler (building site.program room code) id) (λ h. view node.Button [] [] (h ∷ []) views)
      (handler_safe site known inputs limit sc locals whole room code home id (action_written (context site sc) locals id [] acts) rest.0 [] acts) (λ h y. view_safe site inputs whole limit sc locals _ _ _ _ _ (y, tt) k))

  toggle_node_safe : (views : List Element) → AllFine site inputs whole limit sc locals views → (x : Bound) → Makes site inputs whole limit sc locals (Fine site inputs whole limit sc locals) (toggle_node (building site.program room code) views x)
  unfolding toggle_node
  toggle_node_safe views h x = view_safe site inputs whole limit sc locals _ _ _ _ _ tt h

  toggle_safe : (target : Target) (l : LabelForm) → Safely site known inputs limit sc locals (λ (x : Bound). ⊤) (bound (building site.program room code) target) → IsLabel (context site sc) locals l
      → Permits site sc (mentions.label_layer l).before → Permits site sc (mentions.label_layer l).after → Beyond limit (alters.label_layer l) → Makes site inputs whole limit sc locals (Fine site inputs whole limit sc locals) (toggle_at (building site.program room code) target l)
  toggle_safe target l binds (IsLabel.text_label {c = c} h) before after own =
      safe_then site inputs limit sc locals _ (text_label (building site.program room code) c) (λ views. bound (building site.program room code) target >>= λ x. toggle_node (building site.program room code) views x) (text_label_safe c (h, before, own))
      (λ views k. safe_then site inputs limit sc locals _ (bound (building site.program room code) target) (λ x. toggle_node (building site.program room code) views x) binds (λ x y. toggle_node_safe views k x))
  toggle_safe target l binds (IsLabel.content_label {is = xs} h) before after own =
      safe_then site inputs limit sc locals _ (bound (building site.program room code) target) (λ x. content (building site.program room code) xs >>= λ views. toggle_node (building site.program room code) views x) binds
      (λ x k. safe_then site inputs limit sc locals _ (content (building site.program room code) xs) (λ views. toggle_node (building site.program room code) views x)
      (content_safe site inputs whole room right limit sc code home locals xs h after own) (λ views y. toggle_node_safe views y x))

  -- ---- stacks and groups

  spacer_safe : (o : Option Core) → Takes (context site sc) locals o ty.Int → Permits site sc (optional_core_mentions o) → Beyond limit (optional_alters o) → Makes site inputs whole limit sc locals (Fine site inputs whole limit sc locals) (spacer (building site.program room code) o)
  unfolding spacer
  spacer_safe o h may own =
      safe_then site inputs limit sc locals _ (number_of (building site.program room code) o) (λ n. view node.Spacer [] (n ∷ []) [] []) (number_safe o h may own) (λ n k. view_safe site inputs whole limit sc locals _ _ _ _ _ tt PartsFit.no_parts)

  stack_safe : (a : Axis) (alignment : Alignment) (o : Option Core) (xs : List CoreItem) → Takes (context site sc) locals o ty.Int → Items (context site sc) locals xs
      → Permits site sc (optional_core_mentions o ++ joined (map item_mentions xs)) → Beyond limit (optional_alters o ++ all_of (map item_alters xs)) → Makes site inputs whole limit sc locals (Fine site inputs whole limit sc locals) (stack (building site.program room code) a alignment o xs)
  unfolding stack
  stack_safe a alignment o xs h items may own =
      safe_then site inputs limit sc locals _ (number_of (building site.program room code) o) (λ n. content (building site.program room code) xs >>= λ views. view (node.Stack a alignment) [] (spacings a n) [] views)
      (number_safe o h (each_front (Permitted site sc) (optional_core_mentions o) (joined (map item_mentions xs)) may) (each_front (From limit) (optional_alters o) (all_of (map item_alters xs)) own))
      (λ n k. safe_then site inputs limit sc locals _ (content (building site.program room code) xs) (λ views. view (node.Stack a alignment) [] (spacings a n) [] views)
      (content_safe site inputs whole room right limit sc code home locals xs items (each_back (Permitted site sc) (optional_core_mentions o) (joined (map item_mentions xs)) may) (each_back (From limit) (optional_alters o) (all_of (map item_alters xs)) own))
      (λ views y. view_safe site inputs whole limit sc locals _ _ _ _ _ tt y))

  group_safe : (xs : List CoreItem) → Items (context site sc) locals xs → Permits site sc (joined (map item_mentions xs)) → Beyond limit (all_of (map item_alters xs)) → Makes site inputs whole limit sc locals (Fine site inputs whole limit sc locals) (group (building site.program room code) xs)
  unfolding group
  group_safe xs h may own =
      safe_then site inputs limit sc locals _ (content (building site.program room code) xs) (λ views. view node.Group [] [] [] views) (content_safe site inputs whole room right limit sc code home locals xs h may own)
      (λ views k. view_safe site inputs whole limit sc locals _ _ _ _ _ tt k)

  -- ---- properties and functions that give views

  module _ (id : CodeId) (d : ℕ) (s : Signature) (ps : List ParamSignature) (is : sc.itself ≡ Itself.a_view) (owner : sc.owner ≡ Some d) (has : HasMember site.program.table d s) (is_code : s.code ≡ id) (gives : GivesViews s ps)
      (may : Allowed site sc (mention.Code id)) where
    -- the views of the member, whose locals are its arguments alone
    views_of_safe : (vs : List Value) (us : List Ty) → map (λ (p : ParamSignature). p.ty) ps ≡ map Some us → ValuesHave site.program.table us vs → Makes site inputs whole limit sc locals (AllFine site inputs whole limit sc locals) (views_of (building site.program room code) id vs)
    unfolding views_of within
    views_of_safe vs us typed values w fit =
        let m = member_of site.program.table site.program.members known.program d s has in
        let b = builder_of site.program.table d m.declaration.kind m.member s ps gives m.fits in
        let own : Scope = member_scope d (itself_in m.declaration.kind) m.member in
        let at : ItselfFits site Itself.a_view sc.owner w.itself = subst (λ (it : Itself). ItselfFits site it sc.owner w.itself) is fit.fits.itself in
        let same : at.0 ≡ d = some_same at.0 d (sym at.1 ∙ owner) in
        let same_declaration : at.3.0 ≡ m.declaration = some_same at.3.0 m.declaration (sym at.3.1 ∙ ap (slice_get site.program.table.declarations) same ∙ m.declared) in
        let view_kind : m.declaration.kind ≡ kind.View = ap (λ (x : Declaration). x.kind) (sym same_declaration) ∙ at.3.2 in
        let its : itself_in m.declaration.kind ≡ Itself.a_view = ap itself_in view_kind in
        let same_us : us ≡ b.types = same_types us b.types (sym typed ∙ b.typed) in
        let locals' = map Local.valued b.types in
        let home' : Home site.program whole zero own s.code.number = record {
          d = d;
          declaration = m.declaration;
          declared = m.declared;
          sign = s;
          has = has;
          parameters_of = ps;
          views = gives;
          member = m.member;
          is_of = main_member site.program.members s.code.number m.member m.there;
          there = m.there;
          owner = refl;
          its = refl;
          blocks = refl;
          is_limit = inl refl;
        } in
        let here : LocalsFit site own.shows locals' (held vs) = held_values site own.shows b.types vs (subst (λ (l : List Ty). ValuesHave site.program.table l vs) same_us values) in
        let inside : Fitting site inputs zero own locals' (record w { locals = held vs; itself = None }) = record {
          fits = record {
            here = subst (LocalsFit site own.shows locals') (sym (filled_held inputs vs)) here;
            places = no_places site (itself_in m.declaration.kind) b.types;
            itself = subst (λ (it : Itself). ItselfFits site it (Some d) None) (sym its) (d, refl, at.2 ∙ ap Some same, (m.declaration, m.declared, view_kind));
            home = fit.fits.home;
            live = fit.fits.live;
          };
          settled = settled_held inputs (record w { locals = held vs; itself = None }) vs refl fit.settled.quiet;
        } in
        let allowed = all_allowed site own (form_mentions b.main.code.form) (λ j. refl)
        (λ v body. quiet_code site.program.members s.code.number m.member b.main.code m.there b.main.has (λ reaches. may (ap is_view is) body (subst (λ (x : CodeId). Reaches site.program.members x.number) is_code reaches))) in
        let permits = subst (Permits site own) (joined_map item_mentions b.items) (permits_all site own (form_mentions (code_form.Builder b.items)) (λ j. refl) (subst (λ (f : CodeForm). MayDo site own (form_mentions f)) b.main.is allowed)) in
        let there : items_at site.program id.number ≡ Some b.items =
        ap items_of (ap (λ (x : CodeId). code_of site.program x.number) (sym is_code) ∙ code_there site s.code.number m.member b.main.code m.there b.main.has) ∙ ap items_in b.main.is in
        subst (λ (o : Option (List CoreItem)). Sound site inputs (λ x u. AllFine site inputs whole limit sc locals x × Fitting site inputs limit sc locals u) (found o (λ xs. within (held vs) None (views_from (item_means site.program room id.number) [] xs)) w)) (sym there)
        (then_sound site inputs _ (views_from (item_means site.program room id.number) [] b.items (record w { locals = held vs; itself = None })) (λ x o. Done x (record o { locals = w.locals; itself = w.itself }))
        (views_right site inputs whole room right zero own id.number (subst (λ (x : CodeId). Home site.program whole zero own x.number) is_code home') locals' b.items b.fits permits (beyond_none _) [] PartsFit.no_parts (record w { locals = held vs; itself = None }) inside)
        (λ x o e. done_sound site inputs _ x (record o { locals = w.locals; itself = w.itself }) (
          e.0,
          record {
            fits = record { here = fit.fits.here; places = fit.fits.places; itself = fit.fits.itself; home = e.1.1.fits.home; live = e.1.1.fits.live };
            settled = settled_back inputs limit w o w.itself fit.settled e.1.1.settled.quiet;
          },
        )))

    builder_safe : (es : List Core) → Arguments (context site sc) locals es ps → Permits site sc (flat_map core_mentions es) → Beyond limit (flat_map core_alters es) → Makes site inputs whole limit sc locals (Fine site inputs whole limit sc locals) (builder (building site.program room code) id es)
    unfolding builder
    builder_safe es arguments es_may own =
        safe_then site inputs limit sc locals _ (values_from (inner site.program room) [] es) (λ vs. views_of (building site.program room code) id vs >>= λ views. view node.Group [] [] [] views)
        (values_safe site known inputs limit sc locals room es ps arguments es_may own)
        (λ vs h. safe_then site inputs limit sc locals _ (views_of (building site.program room code) id vs) (λ views. view node.Group [] [] [] views) (views_of_safe vs h.0 h.1 h.2)
        (λ views k. view_safe site inputs whole limit sc locals _ _ _ _ _ tt k))

  -- ---- view expressions

  view_form_safe : (v : ViewForm) → View (context site sc) locals v → Permits site sc (mentions.view_layer v) → Beyond limit (alters.view_layer v) → Makes site inputs whole limit sc locals (Fine site inputs whole limit sc locals) (view_at (building site.program room code) v)
  unfolding toggle
  view_form_safe v (View.text_view {c = c} h) may own = text_view_safe c (h, may, own)
  view_form_safe v (View.image {c = c} h) may own = image_safe c (h, may, own)
  view_form_safe v (View.button {b = b} {l = l} acts h) may own = button_safe b l acts h may own
  view_form_safe v (View.toggle_view {target = target} {l = l} binds h) may own =
      let rest = each_back (Permitted site sc) (label_mentions l).before ((target_mentions target).mentions ++ (label_mentions l).after) may in
      let target_may = each_front (Permitted site sc) (target_mentions target).mentions (label_mentions l).after rest in
      let target_own = each_front (From limit) (target_alters target).indexes (label_alters l) own in
      toggle_safe target (out-Label l)
      (safe_weaker site inputs limit sc locals (bound (building site.program room code) target) (bound_safe site known inputs limit sc locals room code target ty.Bool binds target_may target_own) (λ x k. tt)) h
      (subst (λ (x : LabelMentions). Permits site sc x.before) (mentions.label_is l) (each_front (Permitted site sc) (label_mentions l).before ((target_mentions target).mentions ++ (label_mentions l).after) may))
      (subst (λ (x : LabelMentions). Permits site sc x.after) (mentions.label_is l) (each_back (Permitted site sc) (target_mentions target).mentions (label_mentions l).after rest))
      (subst (Beyond limit) (alters.label_is l) (each_back (From limit) (target_alters target).indexes (label_alters l) own))
  view_form_safe v (View.spacer {c = c} h) may own = spacer_safe c h may own
  view_form_safe v (View.rectangle) may own = view_safe site inputs whole limit sc locals _ _ _ _ _ tt PartsFit.no_parts
  view_form_safe v (View.empty) may own = view_safe site inputs whole limit sc locals _ _ _ _ _ tt PartsFit.no_parts
  view_form_safe v (View.stack {axis = axis} {alignment = alignment} {c = c} {is = xs} h items) may own = stack_safe axis alignment c xs h items may own
  view_form_safe v (View.group {is = xs} h) may own = group_safe xs h may own
  view_form_safe v (View.for_each_view {o = o} {l = l} {is = xs} repeats h) may own =
      for_each_safe site known inputs whole limit sc locals room right code home xs (each_back (Permitted site sc) (over_items_mentions o) (joined (map item_mentions xs)) may) (each_back (From limit) (over_items_alters o) (all_of (map item_alters xs)) own)
      o l repeats h (each_front (Permitted site sc) (over_items_mentions o) (joined (map item_mentions xs)) may) (each_front (From limit) (over_items_alters o) (all_of (map item_alters xs)) own)
  view_form_safe v (View.custom {d = d} {fs = fs} {declaration = declaration} declared is h) may own = custom_view_safe site known inputs whole limit sc locals room code bodies d declaration fs declared is h may own
  view_form_safe v (View.builder {c = c} {cs = cs} {s = s} {ps = ps} is own_member is_code gives arguments) may own =
      builder_safe c own_member.0 s ps is own_member.1 own_member.2 is_code gives may.0.0 cs arguments may.1 own

  pub view_expression_safe : (v : ViewCall) → View (context site sc) locals (out-ViewCall v) → Permits site sc (view_mentions v) → Beyond limit (view_alters v) → Makes site inputs whole limit sc locals (Fine site inputs whole limit sc locals) (view_form (building site.program room code) v)
  unfolding view_form
  view_expression_safe v h may own = view_form_safe (out-ViewCall v) h (subst (Permits site sc) (mentions.view_is v) may) (subst (Beyond limit) (alters.view_is v) own)
