-- Calls of the functions of the program.
use Rattle.std.specs.Prelude.{◌≡◌, ℕ, Bool, true, false, List, [], ◌∷◌, ◌++◌, map, Option, Some, None, slice_get}
use Rattle.std.proofs.Common.{refl, sym, ap, subst, ◌∙◌}
use Rattle.sv_value.specs.declared.value.Value.{Value}
use Rattle.swift_core.specs.Context.{Local, Itself, HasMember}
use Rattle.swift_core.specs.Mentions.{joined, core_mentions, form_mentions}
use Rattle.swift_core.specs.Programs.{Reaches}
use Rattle.swift_core.specs.Typing.{Arguments, Invokes, Receives, ReceiverForm, Uses, GivesValue, GivesResult, itself_in, is_there}
use Rattle.swift_core.specs.declared.code.Code.{Code}
use Rattle.swift_core.specs.declared.code.CoreMember.{CoreMember}
use Rattle.swift_core.specs.declared.ids.CodeId.{CodeId}
use Rattle.swift_core.specs.declared.mention.Mention.TheVariants as mention
use Rattle.swift_core.specs.declared.table.Declaration.{Declaration}
use Rattle.swift_core.specs.declared.table.Kind.{Kind}
use Rattle.swift_core.specs.declared.table.ParamSignature.{ParamSignature}
use Rattle.swift_core.specs.declared.table.Signature.{Signature}
use Rattle.swift_core.specs.declared.term.Core.{Core}
use Rattle.swift_core.specs.declared.term.Invocation.{Invocation}
use Rattle.swift_core.specs.declared.term.Receiver.{out-Receiver}
use Rattle.swift_core.specs.declared.ty.Ty.{Ty}
use Rattle.swift_core.specs.declared.ty.Ty.TheVariants as ty
use Rattle.core_means.specs.Asks.{World, Done, ◌>>=◌, give, given, found}
use Rattle.core_means.specs.Means.{Inside, code_of, held, within, on_copy, changed_to, values_from, run_code, entered, initial, receiver_at, receiver_of, invoked, mutated}
use Rattle.core_means.specs.declared.parts.Local.{Local as Held}
use Rattle.value_fits.specs.Changes.{HaveTypes, ValuesHave, HasResult, ChangedFits}
use Rattle.world_fits.specs.Codes.{Member, member_of, main_code, quiet_code, all_allowed}
use Rattle.world_fits.specs.Laws.{Known}
use Rattle.world_fits.specs.Lists.{each_front, each_back, some_same, append_none, append_twice}
use Rattle.world_fits.specs.Locals.{held_values, no_places}
use Rattle.world_fits.specs.Right.{Right, then_right, done_right, GivesSome}
use Rattle.world_fits.specs.Sites.{Site, Scope, context, ValueHas, LocalsFit, ItselfFits, MayPlace, Fits, Grown, is_view, Allowed}
use Rattle.form_rights.specs.Blocks.{run_right}
use Rattle.form_rights.specs.Callees.{Function, Constant, function_of, named_is, value_kind}
use Rattle.form_rights.specs.Good.{Good, good_then, good_give, good_given}
use Rattle.form_rights.specs.Inside.{MayDo, Rights}
use Rattle.form_rights.specs.Mentions.{receiver_layer}

-- the parameters have the types of the arguments
pub same_types : (ts us : List Ty) → map Some ts ≡ map Some us → ts ≡ us
same_types [] [] e = refl
same_types [] (u ∷ us) e = cc
same_types (t ∷ ts) [] e = cc
same_types (t ∷ ts) (u ∷ us) e =
    let head : t ≡ u = cc in
    let rest : map Some ts ≡ map Some us = cc in
    let below = same_types ts us rest in
    λ j. head j ∷ below j

-- the scope of the code of a member: its locals are all there
abbrev pub member_scope : ℕ → Itself → CoreMember → Scope
member_scope d itself m = record { owner = Some d; itself = itself; blocks = m.blocks; shows = λ j. true }

module _ (site : Site) (i : Inside) (r : Rights site i) where
  -- ---- code with locals and a `self` of its own

  module _ (sc : Scope) (locals : List Local) (inner : Scope) (types : List Local) (here : List Held) (itself : Option Value) (code : Code) (result : Option Ty)
      (fits : LocalsFit site inner.shows types here) (places : MayPlace site inner.itself types) (own : ItselfFits site inner.itself inner.owner itself)
      (gives : GivesResult (context site inner) types code.form result) (may : MayDo site inner (form_mentions code.form)) where
    inside_right : (w : World) → Fits site sc locals w → Right site (λ o u. HasResult site.program.table result o × Grown site inner types u) (run_code i code (record w { locals = here; itself = itself }))
    unfolding run_code
    inside_right w fit = run_right site i r inner types code.form result gives may (record w { locals = here; itself = itself }) (record { here = fits; places = places; itself = own; home = fit.home; live = fit.live })

    pub within_good : Good site sc locals (HasResult site.program.table result) (within here itself (run_code i code))
    unfolding within
    within_good w fit = then_right site _ (run_code i code (record w { locals = here; itself = itself })) (λ x u. Done x (record u { locals = w.locals; itself = w.itself })) (inside_right w fit)
        (λ x u e. done_right site _ x (record u { locals = w.locals; itself = w.itself })
        (e.0, record { here = fit.here; places = fit.places; itself = fit.itself; home = e.1.1.home; live = e.1.1.live }))

    pub entered_good : (id : ℕ) → code_of i.program id ≡ Some code → Good site sc locals (HasResult site.program.table result) (entered i id here itself)
    unfolding entered
    entered_good id e w fit = subst (λ (o : Option Code). Right site (λ x u. HasResult site.program.table result x × Fits site sc locals u) (found o (λ code. within here itself (run_code i code)) w)) (sym e) (within_good w fit)

  -- the code that a number names
  code_there : (n : ℕ) (m : CoreMember) (c : Code) → slice_get site.program.members n ≡ Some m → m.code ≡ Some c → code_of i.program n ≡ Some c
  unfolding code_of
  code_there n m c there has = ap (λ p. code_of p n) r.same ∙ main_code site.program.members n m c there has

  no_locals : (shows : ℕ → Bool) → LocalsFit site shows [] []
  no_locals shows = record { as_many = refl; each = λ j l e. cc }

  module _ (known : Known site) (sc : Scope) (locals : List Local) where
    -- ---- static properties and initial values

    pub constant_good : (d n : ℕ) (k : Kind) (m : CoreMember) (t : Ty) → Constant site.program.table d k m t → slice_get site.program.members n ≡ Some m → Good site sc locals (ValueHas site t) (initial i n)
    unfolding initial
    constant_good d n k m t c there =
        good_then site sc locals _ (entered i n [] None) (λ o. given o)
        (entered_good sc locals (member_scope d Itself.no_self m) [] [] None c.main.code (Some t) (no_locals _) (no_places site Itself.no_self []) tt
        (GivesResult.with_value (subst (λ f. GivesValue (context site (member_scope d Itself.no_self m)) [] f t) (sym c.main.is) c.gives))
        (all_allowed site (member_scope d Itself.no_self m) (form_mentions c.main.code.form) (λ j. refl) (λ v b. absurd (cc v))) n (code_there n m c.main.code there c.main.has))
        (λ o h. good_given site sc locals _ o (some_given o h))
      where
        some_given : (o : Option Value) → HasResult site.program.table (Some t) o → GivesSome site (ValueHas site t) o
        some_given None h = h
        some_given (Some v) h = h

    -- ---- arguments

    values_pushed : (ts : List Ty) (vs : List Value) (t : Ty) (v : Value) → ValuesHave site.program.table ts vs → ValueHas site t v → ValuesHave site.program.table (ts ++ t ∷ []) (vs ++ v ∷ [])
    values_pushed [] [] t v h k = (k, tt)
    values_pushed [] (u ∷ vs) t v h k = absurd h
    values_pushed (s ∷ ts) [] t v h k = absurd h
    values_pushed (s ∷ ts) (u ∷ vs) t v h k = (h.0, values_pushed ts vs t v h.1 k)

    pub values_good : (es : List Core) (before ts : List Ty) (so_far : List Value) → ValuesHave site.program.table before so_far → HaveTypes (context site sc) locals es ts → MayDo site sc (joined (map core_mentions es))
        → Good site sc locals (ValuesHave site.program.table (before ++ ts)) (values_from i so_far es)
    unfolding values_from
    values_good [] before [] so_far h typed may = good_give site sc locals _ so_far (subst (λ (l : List Ty). ValuesHave site.program.table l so_far) (sym (append_none before)) h)
    values_good [] before (t ∷ ts) so_far h typed may = absurd typed
    values_good (e ∷ es) before [] so_far h typed may = absurd typed
    values_good (e ∷ es) before (t ∷ ts) so_far h typed may =
        good_then site sc locals _ (i.eval e) (λ v. values_from i (so_far ++ v ∷ []) es) (r.eval sc locals e t typed.0 (each_front (Allowed site sc) (core_mentions e) (joined (map core_mentions es)) may))
        (λ v k. subst (λ (l : List Ty). Good site sc locals (ValuesHave site.program.table l) (values_from i (so_far ++ v ∷ []) es)) (append_twice before (t ∷ []) ts)
        (values_good es (before ++ t ∷ []) ts (so_far ++ v ∷ []) (values_pushed before so_far t v h k) typed.1 (each_back (Allowed site sc) (core_mentions e) (joined (map core_mentions es)) may)))

    pub arguments_types : (es : List Core) (ps : List ParamSignature) → Arguments (context site sc) locals es ps → (ts : List Ty) × (map (λ (p : ParamSignature). p.ty) ps ≡ map Some ts) × HaveTypes (context site sc) locals es ts
    arguments_types es ps (Arguments.no_arguments) = ([], refl, tt)
    arguments_types es ps (Arguments.more_arguments {c = c} {cs = cs} {p = p} {ps = rest} {t = t} typed h more) =
        let below = arguments_types cs rest more in
        (t ∷ below.0, (λ j. typed j ∷ below.1 j), (h, below.2))

    -- ---- functions

    -- what `self` is in the function
    abbrev pub ReceiverHas : ℕ → Kind → Option Value → Type 0
    ReceiverHas d k o = ItselfFits site (itself_in k) (Some d) o × (is_view (itself_in k) ≡ true → is_view sc.itself ≡ true)

    as_value : (d : ℕ) (declaration : Declaration) (v : Value) (o : Option Value) → slice_get site.program.table.declarations d ≡ Some declaration → o ≡ Some v → ValueHas site (ty.Named d) v → ReceiverHas d declaration.kind o
    as_value d declaration v o at e h =
        let is = value_kind site.program.table d v declaration h at in
        (subst (λ (it : Itself). ItselfFits site it (Some d) o) (sym is) (d, refl, (v, e, h)), λ view. absurd (cc (is, view, ap is_view is)))

    same_self : (d : ℕ) (declaration : Declaration) (itself : Itself) (owner : Option ℕ) (o : Option Value) → slice_get site.program.table.declarations d ≡ Some declaration → is_there itself ≡ true → owner ≡ Some d
        → ItselfFits site itself owner o → ItselfFits site (itself_in declaration.kind) (Some d) o × (is_view (itself_in declaration.kind) ≡ true → is_view itself ≡ true)
    same_self d declaration Itself.no_self owner o at there has fits = absurd (cc there)
    same_self d declaration Itself.a_view owner o at there has fits =
        let same : fits.0 ≡ d = some_same fits.0 d (sym fits.1 ∙ has) in
        let declared : fits.3.0 ≡ declaration = some_same fits.3.0 declaration (sym fits.3.1 ∙ ap (slice_get site.program.table.declarations) same ∙ at) in
        let is : itself_in declaration.kind ≡ Itself.a_view = ap (λ (x : Declaration). itself_in x.kind) (sym declared) ∙ ap itself_in fits.3.2 in
        (subst (λ (it : Itself). ItselfFits site it (Some d) o) (sym is) (d, refl, (fits.2 ∙ ap Some same), (declaration, at, ap (λ (x : Declaration). x.kind) (sym declared) ∙ fits.3.2)), λ view. refl)
    same_self d declaration Itself.a_value owner o at there has fits =
        let v = as_value d declaration fits.2.0 o at fits.2.1 (subst (λ (e : ℕ). ValueHas site (ty.Named e) fits.2.0) (some_same fits.0 d (sym fits.1 ∙ has)) fits.2.2) in
        let is = value_kind site.program.table d fits.2.0 declaration (subst (λ (e : ℕ). ValueHas site (ty.Named e) fits.2.0) (some_same fits.0 d (sym fits.1 ∙ has)) fits.2.2) at in
        (v.0, λ view. absurd (cc (is, view, ap is_view is)))
    same_self d declaration Itself.a_changed_value owner o at there has fits =
        let v = as_value d declaration fits.2.0 o at fits.2.1 (subst (λ (e : ℕ). ValueHas site (ty.Named e) fits.2.0) (some_same fits.0 d (sym fits.1 ∙ has)) fits.2.2) in
        let is = value_kind site.program.table d fits.2.0 declaration (subst (λ (e : ℕ). ValueHas site (ty.Named e) fits.2.0) (some_same fits.0 d (sym fits.1 ∙ has)) fits.2.2) at in
        (v.0, λ view. absurd (cc (is, view, ap is_view is)))

    receiver_good : (d : ℕ) (declaration : Declaration) (layer : ReceiverForm) → slice_get site.program.table.declarations d ≡ Some declaration → Receives (context site sc) locals layer d → MayDo site sc (receiver_layer layer)
        → Good site sc locals (ReceiverHas d declaration.kind) (receiver_at i layer)
    receiver_good d declaration layer at (Receives.same there has) may = λ w fit. done_right site _ w.itself w (same_self d declaration sc.itself sc.owner w.itself at there has fit.itself, fit)
    receiver_good d declaration layer at (Receives.value {c = c} {t = t} h named) may =
        good_then site sc locals _ (i.eval c) (λ v. give (Some v)) (r.eval sc locals c t h may)
        (λ v k. good_give site sc locals _ (Some v) (as_value d declaration v (Some v) at refl (subst (λ (u : Ty). ValueHas site u v) (named_is t d named) k)))

    pub invoked_good : (c : Invocation) (result : Option Ty) → Invokes (context site sc) locals c result
        → MayDo site sc (mention.Code c.code ∷ (receiver_layer (out-Receiver c.receiver) ++ joined (map core_mentions c.arguments))) → Good site sc locals (HasResult site.program.table result) (invoked i c)
    unfolding invoked receiver_of
    invoked_good c result (Invokes.uses {d = d} {s = s} {ps = ps} has code uses receives arguments) may =
        let m = member_of site.program.table site.program.members known.program d s has in
        let f = function_of site.program.table d m.declaration.kind m.member s false ps result m.fits uses in
        let ts = arguments_types c.arguments ps arguments in
        let front = receiver_layer (out-Receiver c.receiver) in
        let back = joined (map core_mentions c.arguments) in
        good_then site sc locals _ (receiver_at i (out-Receiver c.receiver)) (λ itself. values_from i [] c.arguments >>= λ vs. entered i c.code.number (held vs) itself)
        (receiver_good d m.declaration (out-Receiver c.receiver) m.declared receives (each_front (Allowed site sc) front back may.1))
        (λ itself own. good_then site sc locals _ (values_from i [] c.arguments) (λ vs. entered i c.code.number (held vs) itself)
        (values_good c.arguments [] ts.0 [] tt ts.2 (each_back (Allowed site sc) front back may.1))
        (λ vs h. enter m f itself own vs (subst (λ (l : List Ty). ValuesHave site.program.table l vs) (same_types ts.0 f.types (sym ts.1 ∙ f.typed)) h)))
      where
        enter : (m : Member site.program.table site.program.members d s) (f : Function site.program.table d m.declaration.kind m.member false ps result) (itself : Option Value) → ReceiverHas d m.declaration.kind itself
            → (vs : List Value) → ValuesHave site.program.table f.types vs → Good site sc locals (HasResult site.program.table result) (entered i c.code.number (held vs) itself)
        enter m f itself own vs h =
            let inner = member_scope d (itself_in m.declaration.kind) m.member in
            entered_good sc locals inner (map Local.valued f.types) (held vs) itself f.main.code result (held_values site _ f.types vs h) (no_places site (itself_in m.declaration.kind) f.types) own.0
            (subst (λ g. GivesResult (context site inner) (map Local.valued f.types) g result) (sym f.main.is) f.gives)
            (all_allowed site inner (form_mentions f.main.code.form) (λ j. refl)
            (λ v b. quiet_code site.program.members s.code.number m.member f.main.code m.there f.main.has (λ reaches. may.0 (own.1 v) b (subst (λ (x : CodeId). Reaches site.program.members x.number) code reaches))))
            c.code.number (ap (λ (x : CodeId). code_of i.program x.number) (sym code) ∙ code_there s.code.number m.member f.main.code m.there f.main.has)

    -- ---- functions that change the value they stand on

    on_copy_good : (inner : Scope) (types : List Local) (here : List Held) (code : Code) (result : Option Ty) (d : ℕ) (v : Value) → LocalsFit site inner.shows types here → MayPlace site inner.itself types
        → inner.itself ≡ Itself.a_changed_value → inner.owner ≡ Some d → ValueHas site (ty.Named d) v → GivesResult (context site inner) types code.form result → MayDo site inner (form_mentions code.form)
        → Good site sc locals (ChangedFits site.program.table (ty.Named d) result) (on_copy here v (run_code i code))
    unfolding on_copy
    on_copy_good inner types here code result d v fits places is owner h gives may w fit =
        then_right site _ (run_code i code (record w { locals = here; itself = Some v })) (λ answer u. given (changed_to u.itself answer) (record u { locals = w.locals; itself = w.itself }))
        (inside_right sc locals inner types here (Some v) code result fits places
        (subst (λ (it : Itself). ItselfFits site it inner.owner (Some v)) (sym is) (d, owner, (v, refl, h))) gives may w fit)
        (λ answer u e. after answer u e.0 e.1)
      where
        after : (answer : Option Value) (u : World) → HasResult site.program.table result answer → Grown site inner types u
            → Right site (λ x o. ChangedFits site.program.table (ty.Named d) result x × Fits site sc locals o) (given (changed_to u.itself answer) (record u { locals = w.locals; itself = w.itself }))
        after answer u k g =
            let own : ItselfFits site Itself.a_changed_value inner.owner u.itself = subst (λ (it : Itself). ItselfFits site it inner.owner u.itself) is g.1.itself in
            let typed : ValueHas site (ty.Named d) own.2.0 = subst (λ (e : ℕ). ValueHas site (ty.Named e) own.2.0) (some_same own.0 d (sym own.1 ∙ owner)) own.2.2 in
            subst (λ (o : Option Value). Right site (λ x o. ChangedFits site.program.table (ty.Named d) result x × Fits site sc locals o) (given (changed_to o answer) (record u { locals = w.locals; itself = w.itself }))) (sym own.2.1)
            (done_right site _ (record { value = own.2.0; answer = answer }) (record u { locals = w.locals; itself = w.itself })
            ((typed, k), record { here = fit.here; places = fit.places; itself = fit.itself; home = g.1.home; live = g.1.live }))

    pub mutated_good : (id : CodeId) (d : ℕ) (s : Signature) (ps : List ParamSignature) (result : Option Ty) (ts : List Ty) (vs : List Value) (v : Value) → HasMember site.program.table d s → s.code ≡ id → Uses s true ps result
        → map (λ (p : ParamSignature). p.ty) ps ≡ map Some ts → ValuesHave site.program.table ts vs → ValueHas site (ty.Named d) v → Good site sc locals (ChangedFits site.program.table (ty.Named d) result) (mutated i id.number vs v)
    unfolding mutated
    mutated_good id d s ps result ts vs v has code uses typed values h w fit =
        let m = member_of site.program.table site.program.members known.program d s has in
        let f = function_of site.program.table d m.declaration.kind m.member s true ps result m.fits uses in
        let inner = member_scope d Itself.a_changed_value m.member in
        let there = ap (λ (x : CodeId). code_of i.program x.number) (sym code) ∙ code_there s.code.number m.member f.main.code m.there f.main.has in
        subst (λ (o : Option Code). Right site (λ x u. ChangedFits site.program.table (ty.Named d) result x × Fits site sc locals u) (found o (λ code. on_copy (held vs) v (run_code i code)) w)) (sym there)
        (on_copy_good inner (map Local.valued f.types) (held vs) f.main.code result d v
        (held_values site _ f.types vs (subst (λ (l : List Ty). ValuesHave site.program.table l vs) (same_types ts f.types (sym typed ∙ f.typed)) values)) (no_places site Itself.a_changed_value f.types) refl refl h
        (subst (λ g. GivesResult (context site inner) (map Local.valued f.types) g result) (sym f.main.is) f.gives)
        (all_allowed site inner (form_mentions f.main.code.form) (λ j. refl) (λ v b. absurd (cc v))) w fit)
