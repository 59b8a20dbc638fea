-- The terms of a body, the places that bindings are, and the locals that blocks keep and readers capture.
use Rattle.std.specs.Prelude.{◌≡◌, ℕ, zero, suc, ◌<◌, true, List, [], ◌∷◌, ◌++◌, length, map, reverse, Option, Some, None, slice_get, ⊤, nat_lt, Bool, false}
use Rattle.std.specs.List.{flat_map, cons_option}
use Rattle.std.proofs.Common.{refl, sym, ap, subst, ◌∙◌}
use Rattle.std.proofs.lemmas.List.{reverse-append}
use Rattle.identity_path.specs.declared.input.Input.{Input}
use Rattle.identity_path.specs.declared.input.Input.TheVariants as input
use Rattle.identity_path.specs.declared.place.Place.{Place}
use Rattle.identity_path.specs.declared.step.Step.{Step}
use Rattle.sv_value.specs.declared.hop.Hop.{Hop}
use Rattle.sv_value.specs.declared.hop.Hop.TheVariants as hop
use Rattle.sv_value.specs.declared.value.Value.{Value}
use Rattle.swift_core.specs.Context.{Local, Itself, Context}
use Rattle.swift_core.specs.Mentions.{TargetMentions, joined, core_mentions, root_mentions, over_mentions, target_mentions, is_among_cells}
use Rattle.swift_core.specs.Typing.{Has, Begins, Leads, Steps, Places, Binds, IsRange, HopForm, Arguments, itself_in, IsAction}
use Rattle.swift_core.specs.declared.ids.BlockId.{BlockId}
use Rattle.swift_core.specs.declared.mention.Mention.TheVariants as mention
use Rattle.swift_core.specs.declared.stmt.Over.{Over}
use Rattle.swift_core.specs.declared.table.ParamSignature.{ParamSignature}
use Rattle.swift_core.specs.declared.term.Core.{Core, out-Core}
use Rattle.swift_core.specs.declared.term.CoreHop.{CoreHop, out-CoreHop}
use Rattle.swift_core.specs.declared.term.Root.{Root}
use Rattle.swift_core.specs.declared.term.Target.{Target}
use Rattle.swift_core.specs.declared.ty.Ty.{Ty}
use Rattle.swift_core.specs.declared.ty.Ty.TheVariants as ty
use Rattle.value_calls.specs.declared.traps.TrapKind.TheVariants.{Calls}
use Rattle.core_means.specs.Asks.{World, Live, Asks, Done, ◌>>=◌, ◌>>◌, give, given, trap}
use Rattle.core_means.specs.Means.{inner, index_of, values_from, hop_at, hop_of, means, spans}
use Rattle.core_means.specs.Places.{looked, value_of, local_at, local_from, plain_of, reached, spot_of}
use Rattle.core_means.specs.declared.origin.Origin.{Origin}
use Rattle.core_means.specs.declared.origin.Origin.TheVariants as origin
use Rattle.core_means.specs.declared.parts.Local.{Local as Held}
use Rattle.core_means.specs.declared.parts.Local.TheVariants as held
use Rattle.core_means.specs.declared.parts.Numbers.{Numbers}
use Rattle.core_means.specs.declared.parts.Spot.{Spot}
use Rattle.core_means.specs.declared.parts.Spot.TheVariants as spot
use Rattle.body_means.specs.Building.{place_at, root_place, with_hop, link, links, place_of, Bound, bound_with, bound}
use Rattle.body_means.specs.Items.{building}
use Rattle.body_means.specs.Kept.{own_in, own_at, with_own, kept_from, captured_from, block_at, handler_with, handler}
use Rattle.value_fits.specs.Cells.{PlaceFits}
use Rattle.value_fits.specs.Changes.{ValuesHave}
use Rattle.value_fits.specs.Fields.{IsField}
use Rattle.value_fits.specs.Reached.{HopFits, HopsFit}
use Rattle.world_fits.specs.Laws.{Known}
use Rattle.world_fits.specs.Lists.{Each, each_front, each_back, some_same, append_none, append_twice}
use Rattle.world_fits.specs.Locals.{used}
use Rattle.world_fits.specs.Places.{value_right, plain_of_right}
use Rattle.world_fits.specs.Right.{GivesSome}
use Rattle.world_fits.specs.Sites.{Site, Scope, context, ValueHas, Holds, SourceHas, ItselfFits}
use Rattle.form_rights.specs.Blocks.{joined_map}
use Rattle.form_rights.specs.Calls.{arguments_types, values_good}
use Rattle.form_rights.specs.Good.{good_still}
use Rattle.form_rights.specs.Mentions as mentions
use Rattle.form_rights.specs.Mentions.{hop_mentions}
use Rattle.meaning_rights.specs.Laws.{terms_have_meanings}
use Rattle.swift_core.specs.Alters.{all_of, core_alters, over_alters, target_alters}
use Rattle.reader_locals.specs.AlterLayers as alters
use Rattle.reader_locals.specs.AlterLayers.{From, Beyond, hop_alters, flat_all}
use Rattle.reader_locals.specs.Filled.{filled_option, held_input, known_at, filled_get, Settled, filled_local}
use Rattle.reader_locals.specs.Terms.{value_calm, plain_of_calm, values_calm}
use Rattle.reader_locals.specs.Statements.{runs_calm, terms_calm}
use Rattle.body_terms.specs.Homes.{Home, Written, block_found, kept_below, at_there, Permitted, Permits, may_of, kept_shown, block_place, numbered_of}
use Rattle.body_terms.specs.Safe.{Fitting, Safe, safe_of, safe_then, safe_give, safe_given, safe_found, safe_trap, safe_spend, safe_weaker}
use Rattle.body_terms.specs.Sound.{Sound, done_sound, known_sound}
use Rattle.body_terms.specs.Gives.{HandlerFits, OwnHas, OwnHave}
use Rattle.std.proofs.lemmas.Bool.{ltb-false, ltb-true}
use Rattle.world_fits.specs.Kept.{KeptHave}

-- the context of a scope is that of its member
pub same_context : (site : Site) (whole limit : ℕ) (sc : Scope) (code : ℕ) (home : Home site.program whole limit sc code)
    → context site sc ≡ record { table = site.program.table; owner = Some home.d; itself = itself_in home.declaration.kind; blocks = home.member.blocks }
same_context site whole limit sc code home = λ j. record { table = site.program.table; owner = home.owner j; itself = home.its j; blocks = home.blocks j }

module _ (site : Site) (known : Known site) (inputs : List Input) (limit : ℕ) (sc : Scope) (locals : List Local) where
  abbrev pub Safely : {A : Type 0} → (A → Type 0) → (World → Asks A) → Type 0
  Safely P m = Safe site inputs limit sc locals P m

  -- ---- terms

  -- a term of the type that does nothing that it may not do, and alters no captured local
  abbrev pub Term : Core → Ty → Type 0
  Term e t = Has (context site sc) locals (out-Core e) t × Permits site sc (core_mentions e) × Beyond limit (core_alters e)

  pub eval_safe : (room : ℕ) (e : Core) (t : Ty) → Term e t → Safely (ValueHas site t) (means site.program room e)
  eval_safe room e t h =
      safe_of site inputs limit sc locals (ValueHas site t) (means site.program room e)
      ((terms_have_meanings site known room).eval sc locals e t h.0 (may_of site sc (core_mentions e) h.1)) ((terms_calm inputs site.program limit room).eval e h.2)

  pub span_safe : (room : ℕ) (o : Over) → IsRange (context site sc) locals o → Permits site sc (over_mentions o) → Beyond limit (over_alters o) → Safely (λ (n : Numbers). ⊤) (spans site.program room o)
  span_safe room o h may own =
      safe_of site inputs limit sc locals (λ (n : Numbers). ⊤) (spans site.program room o)
      ((terms_have_meanings site known room).span sc locals o h (may_of site sc (over_mentions o) may)) ((terms_calm inputs site.program limit room).span o own)

  -- the arguments of a function that gives views
  pub values_safe : (room : ℕ) (es : List Core) (ps : List ParamSignature) → Arguments (context site sc) locals es ps
      → Permits site sc (flat_map core_mentions es) → Beyond limit (flat_map core_alters es)
      → Safely (λ vs. (us : List Ty) × (map (λ (p : ParamSignature). p.ty) ps ≡ map Some us) × ValuesHave site.program.table us vs) (values_from (inner site.program room) [] es)
  values_safe room es ps arguments may own =
      let i = inner site.program room in
      let r = terms_have_meanings site known room in
      let us = arguments_types site i r known sc locals es ps arguments in
      safe_weaker site inputs limit sc locals (values_from i [] es)
      (safe_of site inputs limit sc locals (ValuesHave site.program.table us.0) (values_from i [] es)
      (values_good site i r known sc locals es [] us.0 [] tt us.2 (subst (Each _) (joined_map core_mentions es) (may_of site sc (flat_map core_mentions es) may)))
      (values_calm inputs limit i (terms_calm inputs site.program limit room) (runs_calm inputs site.program room) es [] (subst (Beyond limit) (flat_all core_alters es) own)))
      (λ vs h. (us.0, us.1, h))

  -- ---- locals

  -- what is captured is known
  known_local : (P : Input → World → Type 0) (s : Origin) (x : Input) (w : World) → Settled inputs limit w → held_input inputs (known_at inputs s) ≡ held.Holds x → P x w → Sound site inputs P (value_of s w)
  unfolding value_of
  known_local P s x w settled e h = subst (λ (o : Option Live). Sound site inputs P (looked s o w)) (sym settled.quiet) (go (known_at inputs s) refl e)
    where
      go : (o : Option Input) → known_at inputs s ≡ o → held_input inputs o ≡ held.Holds x → Sound site inputs P (looked s None w)
      go None is e = cc
      go (Some v) is e = let same : x ≡ v = cc in known_sound site inputs P s w (λ y. Done y w) v is (done_sound site inputs P v w (subst (λ (y : Input). P y w) same h))

  pub local_safe : (k : ℕ) (l : Local) → slice_get locals k ≡ Some l → sc.shows k ≡ true → Safely (Holds site l) (local_at k)
  unfolding local_at
  local_safe k l at shown w fit =
      let x = used site k fit.fits.here at shown in
      go x.0 (slice_get w.locals k) (sym (filled_get inputs w.locals k) ∙ x.1) x.2
    where
      go : (x : Input) (o : Option Held) → filled_option inputs o ≡ Some (held.Holds x) → Holds site l x → Sound site inputs (λ y u. Holds site l y × Fitting site inputs limit sc locals u) (local_from o w)
      go x None e h = cc
      go x (Some (held.Holds v)) e h = let same : x ≡ v = cc in done_sound site inputs _ v w (subst (Holds site l) same h, fit)
      go x (Some (held.Captured n)) e h = let is : held_input inputs (slice_get inputs n) ≡ held.Holds x = cc in known_local _ (origin.Captured n) x w fit.settled is (h, fit)
      go x (Some held.Preference) e h = let is : held_input inputs (known_at inputs origin.Preference) ≡ held.Holds x = cc in known_local _ origin.Preference x w fit.settled is (h, fit)
      go x (Some held.Absent) e h = cc

  -- what is kept of a local
  own_safe : (k : ℕ) (l : Local) → slice_get locals k ≡ Some l → sc.shows k ≡ true → Safely (OwnHas site.program.table site.types (nat_lt k limit) l) (own_at k)
  unfolding own_at
  own_safe k l at shown w fit =
      let x = used site k fit.fits.here at shown in
      go x.0 (slice_get w.locals k) refl (sym (filled_get inputs w.locals k) ∙ x.1) x.2
    where
      of_run : (v : Input) (b : Bool) → nat_lt k limit ≡ b → slice_get w.locals k ≡ Some (held.Holds v) → Holds site l v → OwnHas site.program.table site.types b l (Some v)
      of_run v true e is h = absurd (fit.settled.veiled k v (ltb-true k limit e) is)
      of_run v false e is h = h

      of_reader : (y : Held) (x : Input) (b : Bool) → nat_lt k limit ≡ b → slice_get w.locals k ≡ Some y → (y ≡ held.Holds x → ⊥) → filled_local inputs y ≡ held.Holds x → OwnHas site.program.table site.types b l None
      of_reader y x true e is other fills = tt
      of_reader y x false e is other fills = absurd (other (sym (fit.settled.stands k y (ltb-false k limit e) is) ∙ fills))

      go : (x : Input) (o : Option Held) → slice_get w.locals k ≡ o → filled_option inputs o ≡ Some (held.Holds x) → Holds site l x
          → Sound site inputs (λ y u. OwnHas site.program.table site.types (nat_lt k limit) l y × Fitting site inputs limit sc locals u) (given (own_in o) w)
      go x None is e h = cc
      go x (Some (held.Holds v)) is e h = let same : x ≡ v = cc in done_sound site inputs _ (Some v) w (of_run v (nat_lt k limit) refl is (subst (Holds site l) same h), fit)
      go x (Some (held.Captured n)) is e h = done_sound site inputs _ None w (of_reader (held.Captured n) x (nat_lt k limit) refl is (λ f. cc) (some_same _ (held.Holds x) e), fit)
      go x (Some held.Preference) is e h = done_sound site inputs _ None w (of_reader held.Preference x (nat_lt k limit) refl is (λ f. cc) (some_same _ (held.Holds x) e), fit)
      go x (Some held.Absent) is e h = cc

  with_more : (kept : List Input) (o : Option Input) (more : List Input) → with_own kept o ++ more ≡ kept ++ cons_option o more
  with_more kept None more = refl
  with_more kept (Some v) more = append_twice kept (v ∷ []) more

  kept_safe : (ks : List ℕ) (kept : List Input) → Each (λ k. k < length locals) ks → Each (λ k. sc.shows k ≡ true) ks
      → Safely (λ xs. (more : List Input) × (xs ≡ kept ++ more) × OwnHave site.program.table site.types locals limit ks more) (kept_from kept ks)
  unfolding kept_from
  kept_safe [] kept below shown = safe_give site inputs limit sc locals _ kept ([], sym (append_none kept), refl)
  kept_safe (k ∷ ks) kept below shown =
      let l = at_there locals k below.0 in
      safe_then site inputs limit sc locals _ (own_at k) (λ o. kept_from (with_own kept o) ks) (own_safe k l.0 l.1 shown.0)
      (λ o h. safe_weaker site inputs limit sc locals (kept_from (with_own kept o) ks) (kept_safe ks (with_own kept o) below.1 shown.1)
      (λ xs e. (cons_option o e.0, e.1 ∙ with_more kept o e.0, (l.0, l.1, (o, h, (e.0, refl, e.2))))))

  pub captured_safe : (ks : List ℕ) (captured : List Input) → Each (λ k. k < length locals) ks → Each (λ k. sc.shows k ≡ true) ks
      → Safely (λ xs. (more : List Input) × (xs ≡ captured ++ more) × KeptHave site.program.table site.types locals ks [] more) (captured_from captured ks)
  unfolding captured_from
  captured_safe [] captured below shown = safe_give site inputs limit sc locals _ captured ([], sym (append_none captured), tt)
  captured_safe (k ∷ ks) captured below shown =
      let l = at_there locals k below.0 in
      safe_then site inputs limit sc locals _ (local_at k) (λ v. captured_from (captured ++ v ∷ []) ks) (local_safe k l.0 l.1 shown.0)
      (λ v h. safe_weaker site inputs limit sc locals (captured_from (captured ++ v ∷ []) ks) (captured_safe ks (captured ++ v ∷ []) below.1 shown.1)
      (λ xs e. (v ∷ e.0, e.1 ∙ append_twice captured (v ∷ []) e.0, ((l.0, l.1, h), e.2))))

  -- an action block with what it keeps
  pub handler_safe : (whole room code : ℕ) → Home site.program whole limit sc code → (b : BlockId) → Written sc.blocks locals b → Permitted site sc (mention.Block b) → (ts : List Ty) → IsAction (context site sc) locals b ts
      → Safely (HandlerFits site.program site.types whole) (handler (building site.program room code) b)
  unfolding handler
  handler_safe whole room code home b w may ts acts =
      let n = numbered_of site.program whole limit sc code home b w.code w.there in
      let place = block_place site.program whole limit sc code home b w.code w.there in
      safe_found site inputs limit sc locals _ (block_at site.program code b) (record { number = n; code = w.code }) (λ block. kept_from [] block.code.kept >>= λ kept. give (handler_with block.number kept))
      (block_found site.program whole limit sc code home b w.code w.there)
      (safe_then site inputs limit sc locals _ (kept_from [] w.code.kept) (λ kept. give (handler_with n kept)) (kept_safe w.code.kept [] (kept_below sc.blocks locals b w) (kept_shown site sc b w.code w.there may))
      (λ kept h. safe_give site inputs limit sc locals _ (handler_with n kept) (record {
        place = place;
        locals = locals;
        parameters = ts;
        action = subst (λ (cx : Context). IsAction cx locals b ts) (same_context site whole limit sc code home) acts;
        limit = limit;
        is_limit = home.is_limit;
        kept = subst (OwnHave site.program.table site.types locals limit w.code.kept) (sym h.1) h.2;
      })))

  -- ---- places

  abbrev pub PlaceHas : Ty → Place → Type 0
  PlaceHas t p = PlaceFits site.program.table site.types p t

  -- the spot is a place of a value of the type
  abbrev IsPlace : Ty → Spot → Type 0
  IsPlace t s = (p : Place) × (place_at s ≡ Some p) × PlaceHas t p

  with_none : (p : Place) (t : Ty) → PlaceHas t p → PlaceHas t (record p { hops = p.hops ++ [] })
  with_none p t (PlaceFits.place_fits {t = whole} typed to) = PlaceFits.place_fits typed (known.laws.join site.program.table whole t t p.hops [] to HopsFit.no_hops)

  reached_safe : (t : Ty) (x : Input) → Holds site (Local.placed t) x → Safely (IsPlace t) (reached [] x)
  reached_safe t (input.Value v) h = absurd h
  reached_safe t (input.Place p) h = safe_give site inputs limit sc locals _ (spot.Cell (record p { hops = p.hops ++ [] })) (record p { hops = p.hops ++ [] }, refl, with_none p t h)

  view_of_scope : {d : ℕ} (o : Option Value) → sc.itself ≡ Itself.a_view → sc.owner ≡ Some d → ItselfFits site sc.itself sc.owner o → site.view ≡ Some d
  view_of_scope {d = d} o is has fits =
      let at : ItselfFits site Itself.a_view sc.owner o = subst (λ (i : Itself). ItselfFits site i sc.owner o) is fits in
      at.2 ∙ sym at.1 ∙ has

  begin_safe : (r : Root) (t : Ty) → is_among_cells r ≡ true → Begins (context site sc) locals r t → Permits site sc (root_mentions r) → Safely (IsPlace t) (spot_of r [])
  unfolding spot_of
  begin_safe r t cells (Begins.at_local e) may = cc
  begin_safe r t cells (Begins.at_bound_local {i = i} e) may = safe_then site inputs limit sc locals _ (local_at i) (reached []) (local_safe i (Local.placed t) e may.0.0) (λ x h. reached_safe t x h)
  begin_safe r t cells (Begins.at_bound_input {n = n} is own form) may =
      safe_then site inputs limit sc locals _ (value_of (origin.Input n)) (reached [])
      (safe_of site inputs limit sc locals (Holds site (Local.placed t)) (value_of (origin.Input n))
      (good_still site sc locals _ (value_of (origin.Input n)) (λ w fit. value_right site known (origin.Input n) (Local.placed t) w fit.live (SourceHas.bound (view_of_scope w.itself is own.1 fit.itself) own.2 form)))
      (value_calm inputs limit (origin.Input n)))
      (λ x h. reached_safe t x h)
  begin_safe r t cells (Begins.at_slot {n = n} {a = a} {s = s} is own form) may = λ w fit.
      done_sound site inputs _ (spot.Cell (record { path = w.home; slot = n; hops = [] })) w (
        (
          record { path = w.home; slot = n; hops = [] },
          refl,
          PlaceFits.place_fits (ap (λ (path : List Step). site.types path n) fit.fits.home ∙ known.slots own.0 n t a s (view_of_scope w.itself is own.1 fit.fits.itself) own.2 form) HopsFit.no_hops,
        ),
        fit,
      )
  begin_safe r t cells (Begins.at_itself is has) may = cc

  root_safe : (r : Root) (t : Ty) → is_among_cells r ≡ true → Begins (context site sc) locals r t → Permits site sc (root_mentions r) → Safely (PlaceHas t) (root_place r)
  unfolding root_place
  root_safe r t cells begins may =
      safe_then site inputs limit sc locals _ (spot_of r []) (λ s. given (place_at s)) (begin_safe r t cells begins may)
      (λ s h. safe_given site inputs limit sc locals _ (place_at s) (subst (GivesSome site (PlaceHas t)) (sym h.1) h.2))

  -- a step that does nothing that it may not do, and alters no captured local
  record HopHas (t : Ty) (h : CoreHop) (u : Ty) : Type 0 where
    step : Steps (context site sc) locals t (out-CoreHop h) u
    may : Permits site sc (hop_mentions h)
    own : Beyond limit (hop_alters h)

  hop_form_safe : (room : ℕ) (layer : HopForm) (t u : Ty) → Steps (context site sc) locals t layer u → Permits site sc (mentions.hop_layer layer) → Beyond limit (alters.hop_layer layer)
      → Safely (λ h. HopFits site.program.table t h u) (hop_at (inner site.program room) layer)
  hop_form_safe room layer t u (Steps.to_field {n = n} named stands form) may own = safe_give site inputs limit sc locals _ (hop.Field n) (HopFits.to_field (IsField.is_field named stands form))
  hop_form_safe room layer t u (Steps.to_element {c = c} e h) may own =
      safe_then site inputs limit sc locals _ (means site.program room c) (λ v. given (index_of v)) (eval_safe room c ty.Int (h, may, own))
      (λ v k. let x = known.laws.indexes site.program.table v k in
      safe_given site inputs limit sc locals _ (index_of v) (subst (GivesSome site (λ h. HopFits site.program.table t h u)) (sym x.1) (HopFits.to_element e)))

  hop_safe : (room : ℕ) (h : CoreHop) (t u : Ty) → HopHas t h u → Safely (λ x. HopFits site.program.table t x u) (hop_of (inner site.program room) h)
  unfolding hop_of
  hop_safe room h t u has = hop_form_safe room (out-CoreHop h) t u has.step (subst (Permits site sc) (mentions.hop_is h) has.may) (subst (Beyond limit) (alters.hop_is h) has.own)

  -- the steps from the last to the first
  abbrev LeadsBack : Ty → List CoreHop → Ty → Type 0
  LeadsBack t [] u = t ≡ u
  LeadsBack t (h ∷ hs) u = (v : Ty) × LeadsBack t hs v × HopHas v h u

  leads_on : (t u v : Ty) (hs ks : List CoreHop) → LeadsBack u hs v → LeadsBack t ks u → LeadsBack t (hs ++ ks) v
  leads_on t u v [] ks h k = subst (LeadsBack t ks) h k
  leads_on t u v (x ∷ hs) ks h k = (h.0, leads_on t u h.0 hs ks h.1 k, h.2)

  leads_back : (t u : Ty) (hs : List CoreHop) → Leads (context site sc) locals t hs u → Permits site sc (joined (map hop_mentions hs)) → Beyond limit (all_of (map hop_alters hs)) → LeadsBack t (reverse hs) u
  leads_back t u hs (Leads.there) may own = refl
  leads_back t v hs' (Leads.step {u = u} {h = h} {hs = hs} step more) may own =
      subst (λ (ks : List CoreHop). LeadsBack t ks v) (sym (reverse-append (h ∷ []) hs))
      (leads_on t u v (reverse hs) (h ∷ [])
      (leads_back u v hs more (each_back (Permitted site sc) (hop_mentions h) (joined (map hop_mentions hs)) may) (each_back (From limit) (hop_alters h) (all_of (map hop_alters hs)) own))
      (t, refl, record { step = step; may = each_front (Permitted site sc) (hop_mentions h) (joined (map hop_mentions hs)) may; own = each_front (From limit) (hop_alters h) (all_of (map hop_alters hs)) own }))

  further : (t u : Ty) (p : Place) (h : Hop) → PlaceHas t p → HopFits site.program.table t h u → PlaceHas u (with_hop p h)
  further t u p h (PlaceFits.place_fits {t = whole} typed to) fits = PlaceFits.place_fits typed (known.laws.join site.program.table whole t u p.hops (h ∷ []) to (HopsFit.more_hops fits HopsFit.no_hops))

  pub place_with : (t u : Ty) (p : Place) (h : Hop) → PlaceHas t p → HopFits site.program.table t h u → PlaceHas u (with_hop p h)
  place_with = further

  link_safe : (room : ℕ) (h : CoreHop) (t u : Ty) (p : Place) → HopHas t h u → PlaceHas t p → Safely (PlaceHas u) (link (inner site.program room) h p)
  unfolding link
  link_safe room h t u p has typed =
      safe_then site inputs limit sc locals _ (hop_of (inner site.program room) h) (λ x. give (with_hop p x)) (hop_safe room h t u has)
      (λ x fits. safe_give site inputs limit sc locals _ (with_hop p x) (further t u p x typed fits))

  links_safe : (room : ℕ) (r : Root) (t : Ty) → is_among_cells r ≡ true → Begins (context site sc) locals r t → Permits site sc (root_mentions r) → (hs : List CoreHop) (u : Ty) → LeadsBack t hs u
      → Safely (PlaceHas u) (links site.program room r hs)
  unfolding links
  links_safe zero r t cells begins may hs u leads = safe_spend site inputs limit sc locals _ (trap Calls) (safe_trap site inputs limit sc locals _ Calls)
  links_safe (suc room) r t cells begins may [] u leads = safe_spend site inputs limit sc locals _ (root_place r) (subst (λ (v : Ty). Safely (PlaceHas v) (root_place r)) leads (root_safe r t cells begins may))
  links_safe (suc room) r t cells begins may (h ∷ hs) u leads =
      safe_spend site inputs limit sc locals _ (links site.program room r hs >>= λ place. link (inner site.program room) h place)
      (safe_then site inputs limit sc locals _ (links site.program room r hs) (λ place. link (inner site.program room) h place) (links_safe room r t cells begins may hs leads.0 leads.1)
      (λ place typed. link_safe room h leads.0 u place leads.2 typed))

  -- the place that a binding is
  pub place_safe : (room : ℕ) (target : Target) (t : Ty) → Binds (context site sc) locals target t → Permits site sc (target_mentions target).mentions → Beyond limit (target_alters target).indexes
      → Safely (PlaceHas t) (place_of site.program room target)
  unfolding place_of
  place_safe room target t (Binds.bound cells (Places.reached {t = from} begins leads)) may own =
      let root = root_mentions target.root in
      let hops = joined (map hop_mentions target.hops) in
      let may' = subst (λ (x : TargetMentions). Permits site sc x.mentions) (mentions.target_is target) may in
      links_safe room target.root from cells begins (each_front (Permitted site sc) root hops may') (reverse target.hops) t
      (leads_back from t target.hops leads (each_back (Permitted site sc) root hops may') (subst (Beyond limit) (alters.indexes_is target) own))

  -- the place, and the value there
  abbrev pub BoundHas : Ty → Bound → Type 0
  BoundHas t x = PlaceHas t x.place × ValueHas site t x.value

  pub bound_safe : (room code : ℕ) (target : Target) (t : Ty) → Binds (context site sc) locals target t → Permits site sc (target_mentions target).mentions → Beyond limit (target_alters target).indexes
      → Safely (BoundHas t) (bound (building site.program room code) target)
  unfolding bound
  bound_safe room code target t binds may own =
      safe_then site inputs limit sc locals _ (place_of site.program room target) (λ place. plain_of (origin.Place place) >>= λ v. give (bound_with place v)) (place_safe room target t binds may own)
      (λ place typed. safe_then site inputs limit sc locals _ (plain_of (origin.Place place)) (λ v. give (bound_with place v))
      (safe_of site inputs limit sc locals (ValueHas site t) (plain_of (origin.Place place))
      (good_still site sc locals _ (plain_of (origin.Place place)) (λ w fit. plain_of_right site known (origin.Place place) t w fit.live (SourceHas.place typed))) (plain_of_calm inputs limit (origin.Place place)))
      (λ v h. safe_give site inputs limit sc locals _ (bound_with place v) (typed, h)))
