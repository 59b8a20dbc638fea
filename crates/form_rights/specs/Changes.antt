-- Targets, and calls that change the value that they stand on.
use Rattle.std.specs.Prelude.{◌≡◌, Bool, true, false, List, [], ◌∷◌, ◌++◌, map, Option, Some, None, ⊤}
use Rattle.std.proofs.Common.{refl, sym, subst, ◌∙◌}
use Rattle.sv_value.specs.declared.hop.Hop.{Hop}
use Rattle.sv_value.specs.declared.hop.Hop.TheVariants as hop
use Rattle.sv_value.specs.declared.value.Value.{Value}
use Rattle.swift_core.specs.Context.{Local}
use Rattle.swift_core.specs.Mentions.{joined, core_mentions, root_mentions, write_mentions, is_among_cells}
use Rattle.swift_core.specs.Typing.{Begins, Leads, Steps, Places, Changes, Calls, HopForm, ChangeForm}
use Rattle.swift_core.specs.declared.mention.Mention.{Mention}
use Rattle.swift_core.specs.declared.term.Change.{Change}
use Rattle.swift_core.specs.declared.term.ChangeCall.{ChangeCall, out-ChangeCall}
use Rattle.swift_core.specs.declared.term.ChangeCall.TheOpen.{ChangeCall-F}
use Rattle.swift_core.specs.declared.term.CoreHop.{CoreHop, out-CoreHop}
use Rattle.swift_core.specs.declared.term.Root.{Root}
use Rattle.swift_core.specs.declared.term.Target.{Target}
use Rattle.swift_core.specs.declared.ty.Ty.{Ty, out-Ty}
use Rattle.swift_core.specs.declared.ty.Ty.TheVariants as ty
use Rattle.core_means.specs.Asks.{Doing, ◌>>=◌, give, given, answered}
use Rattle.core_means.specs.Means.{Inside, index_of, values_from, arguments_at, altered_at, altered_by, altered, hop_at, hop_of, hops_from, change_spot, change_arguments, changed}
use Rattle.core_means.specs.Places.{spot_of, read_spot, write_spot}
use Rattle.core_means.specs.declared.parts.Changed.{Changed}
use Rattle.core_means.specs.declared.parts.Spot.{Spot}
use Rattle.value_fits.specs.Changes.{HaveTypes, ValuesHave, HasResult, ChangedFits, is_built_in, argument_types}
use Rattle.value_fits.specs.Fields.{IsField}
use Rattle.value_fits.specs.Reached.{HopFits, HopsFit}
use Rattle.world_fits.specs.Laws.{Known}
use Rattle.world_fits.specs.Lists.{Each, each_front, each_back, each_join, append_none, append_twice}
use Rattle.world_fits.specs.Places.{SpotHas, spot_right, read_right, write_right}
use Rattle.world_fits.specs.Right.{weaker, GivesSome}
use Rattle.world_fits.specs.Sites.{Site, Scope, context, ValueHas, Allowed, is_view}
use Rattle.form_rights.specs.Callees.{named_is}
use Rattle.form_rights.specs.Calls.{values_good, arguments_types, mutated_good}
use Rattle.form_rights.specs.Good.{Good, good_then, good_give, good_answered, good_given, good_weaker, good_still}
use Rattle.form_rights.specs.Inside.{MayDo, Rights}
use Rattle.form_rights.specs.Mentions.{hop_mentions, hop_layer, hop_is, call_layer}

-- the arguments of a call do what the call does
arguments_may : (P : Mention → Type 0) (c : ChangeForm) → Each P (call_layer c) → Each P (joined (map core_mentions (arguments_at c)))
arguments_may P ChangeCall-F.Toggle h = h
arguments_may P (ChangeCall-F.Append x) h = each_join P (core_mentions x) [] h tt
arguments_may P (ChangeCall-F.AppendAll x) h = each_join P (core_mentions x) [] h tt
arguments_may P (ChangeCall-F.Insert x i) h = each_join P (core_mentions x) (core_mentions i ++ []) (each_front P (core_mentions x) (core_mentions i) h) (each_join P (core_mentions i) [] (each_back P (core_mentions x) (core_mentions i) h) tt)
arguments_may P (ChangeCall-F.Remove i) h = each_join P (core_mentions i) [] h tt
arguments_may P ChangeCall-F.RemoveFirst h = h
arguments_may P ChangeCall-F.RemoveLast h = h
arguments_may P ChangeCall-F.RemoveAll h = h
arguments_may P (ChangeCall-F.SwapAt i j) h = each_join P (core_mentions i) (core_mentions j ++ []) (each_front P (core_mentions i) (core_mentions j) h) (each_join P (core_mentions j) [] (each_back P (core_mentions i) (core_mentions j) h) tt)
arguments_may P (ChangeCall-F.Mutate id arguments) h = h.1

-- a write is allowed where it is mentioned
write_may : (site : Site) (sc : Scope) (b : Bool) → MayDo site sc (write_mentions b) → b ≡ true → is_view sc.itself ≡ true → site.is_block ≡ true
write_may site sc true h e = h.0
write_may site sc false h e = cc

module _ (site : Site) (known : Known site) (i : Inside) (r : Rights site i) (sc : Scope) (locals : List Local) where
  -- ---- targets

  hop_good : (layer : HopForm) (t u : Ty) → Steps (context site sc) locals t layer u → MayDo site sc (hop_layer layer) → Good site sc locals (λ h. HopFits site.program.table t h u) (hop_at i layer)
  hop_good layer t u (Steps.to_field {n = n} named stands form) may = good_give site sc locals _ (hop.Field n) (HopFits.to_field (IsField.is_field named stands form))
  hop_good layer t u (Steps.to_element {c = c} e h) may =
      good_then site sc locals _ (i.eval c) (λ v. given (index_of v)) (r.eval sc locals c ty.Int h may)
      (λ v k. let x = known.laws.indexes site.program.table v k in
      good_given site sc locals _ (index_of v) (subst (GivesSome site (λ h. HopFits site.program.table t h u)) (sym x.1) (HopFits.to_element e)))

  hops_good : (hs : List CoreHop) (t u : Ty) (so_far : List Hop) → Leads (context site sc) locals t hs u → MayDo site sc (joined (map hop_mentions hs))
      → Good site sc locals (λ hops. (more : List Hop) × (hops ≡ so_far ++ more) × HopsFit site.program.table t more u) (hops_from i so_far hs)
  unfolding hops_from hop_of
  hops_good hs t u so_far (Leads.there) may = good_give site sc locals _ so_far ([], sym (append_none so_far), HopsFit.no_hops)
  hops_good hs' t v so_far (Leads.step {u = u} {h = h} {hs = hs} step more) may =
      good_then site sc locals _ (hop_at i (out-CoreHop h)) (λ x. hops_from i (so_far ++ x ∷ []) hs)
      (hop_good (out-CoreHop h) t u step (subst (MayDo site sc) (hop_is h) (each_front (Allowed site sc) (hop_mentions h) (joined (map hop_mentions hs)) may)))
      (λ x k. good_weaker site sc locals (hops_from i (so_far ++ x ∷ []) hs) (hops_good hs u v (so_far ++ x ∷ []) more (each_back (Allowed site sc) (hop_mentions h) (joined (map hop_mentions hs)) may))
      (λ hops e. (x ∷ e.0, e.1 ∙ append_twice so_far (x ∷ []) e.0, HopsFit.more_hops k e.2)))

  -- The indexes of a target, and then its place.
  pub target_hops_good : (target : Target) (t u : Ty) → Leads (context site sc) locals t target.hops u → MayDo site sc (joined (map hop_mentions target.hops))
      → Good site sc locals (λ hops. HopsFit site.program.table t hops u) (hops_from i [] target.hops)
  target_hops_good target t u h may =
      good_weaker site sc locals (hops_from i [] target.hops) (hops_good target.hops t u [] h may) (λ hops e. subst (λ (hs : List Hop). HopsFit site.program.table t hs u) (sym e.1) e.2)

  pub spot_good : (root : Root) (hops : List Hop) (t u : Ty) → Begins (context site sc) locals root t → HopsFit site.program.table t hops u → MayDo site sc (root_mentions root) → MayDo site sc (write_mentions (is_among_cells root))
      → Good site sc locals (SpotHas site sc locals u) (spot_of root hops)
  spot_good root hops t u begins fits may write = good_still site sc locals _ (spot_of root hops) (λ w fit. spot_right site known sc locals w fit root hops t u begins fits may (write_may site sc (is_among_cells root) write))

  pub read_good : (s : Spot) (u : Ty) → SpotHas site sc locals u s → Good site sc locals (ValueHas site u) (read_spot s)
  read_good s u h = good_still site sc locals _ (read_spot s) (λ w fit. read_right site known sc locals w fit s u h)

  pub write_good : (s : Spot) (u : Ty) (v : Value) → SpotHas site sc locals u s → ValueHas site u v → Good site sc locals (λ (x : Unit {0}). ⊤) (write_spot s v)
  write_good s u v h k w fit = weaker site (write_spot s v w) (write_right site known sc locals w fit s u v h k) (λ x o e. (tt, e))

  -- ---- calls

  -- the types of the arguments, and what the call makes of the old value
  record CallFits (t : Ty) (c : ChangeForm) (result : Option Ty) (alter : List Value → Value → Doing Changed) : Type 0 where
    types : List Ty
    typed : HaveTypes (context site sc) locals (arguments_at c) types
    alters : (vs : List Value) (v : Value) → ValuesHave site.program.table types vs → ValueHas site t v → Good site sc locals (ChangedFits site.program.table t result) (alter vs v)

  built_in : (t : Ty) (c : ChangeForm) (result : Option Ty) → Calls (context site sc) locals t c result → is_built_in c ≡ true → CallFits t c result (λ vs v. answered (altered_at c vs v))
  built_in t c result h is = record {
    types = argument_types t (out-Ty t) c;
    typed = known.laws.arguments (context site sc) locals t c result h is;
    alters = λ vs v k x. good_answered site sc locals _ (altered_at c vs v) (known.laws.changes (context site sc) locals t c result vs v h is k x);
  }

  call_fits : (t : Ty) (c : ChangeForm) (result : Option Ty) → Calls (context site sc) locals t c result → CallFits t c result (altered_by i c)
  call_fits t c result (Calls.toggle) = built_in ty.Bool ChangeCall-F.Toggle None Calls.toggle refl
  call_fits t c result (Calls.append {c = x} e h) = built_in t (ChangeCall-F.Append x) None (Calls.append e h) refl
  call_fits t c result (Calls.append_all {c = x} e h) = built_in t (ChangeCall-F.AppendAll x) None (Calls.append_all e h) refl
  call_fits t c result (Calls.insert {c = x} {i = k} e h j) = built_in t (ChangeCall-F.Insert x k) None (Calls.insert e h j) refl
  call_fits t c result (Calls.remove {t = u} {i = k} e h) = built_in t (ChangeCall-F.Remove k) (Some u) (Calls.remove e h) refl
  call_fits t c result (Calls.remove_first {t = u} e) = built_in t ChangeCall-F.RemoveFirst (Some u) (Calls.remove_first e) refl
  call_fits t c result (Calls.remove_last {t = u} e) = built_in t ChangeCall-F.RemoveLast (Some u) (Calls.remove_last e) refl
  call_fits t c result (Calls.remove_all e) = built_in t ChangeCall-F.RemoveAll None (Calls.remove_all e) refl
  call_fits t c result (Calls.swap_at {i = k} {j = l} e h j) = built_in t (ChangeCall-F.SwapAt k l) None (Calls.swap_at e h j) refl
  call_fits t c result (Calls.mutate {id = id} {cs = cs} {d = d} {s = s} {ps = ps} named has code uses arguments) =
      let ts = arguments_types site i r known sc locals cs ps arguments in
      let is = named_is t d named in
      record {
        types = ts.0;
        typed = ts.2;
        alters = λ vs v k x. subst (λ (u : Ty). Good site sc locals (ChangedFits site.program.table u result) (altered_by i (ChangeCall-F.Mutate id cs) vs v)) (sym is)
            (mutated_good site i r known sc locals id d s ps result ts.0 vs v has code uses ts.1 k (subst (λ (u : Ty). ValueHas site u v) is x));
      }

  change_spot_good : (c : ChangeCall) (t : Ty) (result : Option Ty) (fits : CallFits t (out-ChangeCall c) result (altered_by i (out-ChangeCall c))) (vs : List Value) (s : Spot)
      → ValuesHave site.program.table fits.types vs → SpotHas site sc locals t s → Good site sc locals (HasResult site.program.table result) (change_spot i c vs s)
  unfolding change_spot altered
  change_spot_good c t result fits vs s values spot =
      good_then site sc locals _ (read_spot s) (λ old. altered_by i (out-ChangeCall c) vs old >>= λ r. write_spot s r.value >>= λ x. give r.answer) (read_good s t spot)
      (λ old h. good_then site sc locals _ (altered_by i (out-ChangeCall c) vs old) (λ r. write_spot s r.value >>= λ x. give r.answer) (fits.alters vs old values h)
      (λ r k. good_then site sc locals _ (write_spot s r.value) (λ x. give r.answer) (write_good s t r.value spot k.0)
      (λ x y. good_give site sc locals _ r.answer k.1)))

  pub changed_good : (c : Change) (result : Option Ty) → Changes (context site sc) locals c result
      → MayDo site sc ((root_mentions c.target.root ++ joined (map hop_mentions c.target.hops)) ++ (call_layer (out-ChangeCall c.call) ++ write_mentions (is_among_cells c.target.root)))
      → Good site sc locals (HasResult site.program.table result) (changed i c)
  unfolding changed change_arguments
  changed_good c result (Changes.changes {t = t} (Places.reached {t = from} begins leads) calls) may =
      let root = root_mentions c.target.root in
      let hops = joined (map hop_mentions c.target.hops) in
      let call = call_layer (out-ChangeCall c.call) in
      let write = write_mentions (is_among_cells c.target.root) in
      let target_may = each_front (Allowed site sc) (root ++ hops) (call ++ write) may in
      let call_may = each_back (Allowed site sc) (root ++ hops) (call ++ write) may in
      let fits = call_fits t (out-ChangeCall c.call) result calls in
      good_then site sc locals _ (hops_from i [] c.target.hops) (λ hs. values_from i [] (arguments_at (out-ChangeCall c.call)) >>= λ vs. spot_of c.target.root hs >>= λ s. change_spot i c.call vs s)
      (target_hops_good c.target from t leads (each_back (Allowed site sc) root hops target_may))
      (λ hs h. good_then site sc locals _ (values_from i [] (arguments_at (out-ChangeCall c.call))) (λ vs. spot_of c.target.root hs >>= λ s. change_spot i c.call vs s)
      (values_good site i r known sc locals (arguments_at (out-ChangeCall c.call)) [] fits.types [] tt fits.typed (arguments_may (Allowed site sc) (out-ChangeCall c.call) (each_front (Allowed site sc) call write call_may)))
      (λ vs k. good_then site sc locals _ (spot_of c.target.root hs) (λ s. change_spot i c.call vs s) (spot_good c.target.root hs from t begins h (each_front (Allowed site sc) root hops target_may) (each_back (Allowed site sc) call write call_may))
      (λ s spot. change_spot_good c.call t result fits vs s k spot)))
