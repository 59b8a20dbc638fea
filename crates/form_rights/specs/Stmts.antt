-- Statements without statements inside, and conditions.
use Rattle.std.specs.Prelude.{◌≡◌, Bool, true, false, List, [], ◌∷◌, ◌++◌, length, take, map, Option, Some, None, IfSome}
use Rattle.std.specs.List.{flat_map}
use Rattle.std.proofs.Common.{refl, sym, subst, ◌∙◌}
use Rattle.identity_path.specs.declared.input.Input.TheVariants as input
use Rattle.sv_value.specs.declared.value.Value.{Value}
use Rattle.swift_core.specs.Context.{Local}
use Rattle.swift_core.specs.Mentions.{joined, core_mentions, root_mentions, write_mentions, is_among_cells, condition_mentions}
use Rattle.swift_core.specs.Operators.{binary_type}
use Rattle.swift_core.specs.Typing.{Has, Places, Conditions, Within, Flow as HowItEnds, is_forever}
use Rattle.swift_core.specs.declared.stmt.Condition.{Condition}
use Rattle.swift_core.specs.declared.term.Core.{Core, out-Core}
use Rattle.swift_core.specs.declared.term.Target.{Target}
use Rattle.swift_core.specs.declared.ty.Ty.{Ty, out-Ty}
use Rattle.value_calls.specs.declared.operators.Operator.{Operator}
use Rattle.value_calls.specs.Operators as operator
use Rattle.core_means.specs.Asks.{World, Doing, Done, and_then, ◌>>=◌, ◌>>◌, give, given, answered, choose, spend}
use Rattle.core_means.specs.Means.{Inside, truth, push, framed, tested, opened, bound, bound_to, condition_of, conditions, local_of, hops_from, assignment, update_spot, update}
use Rattle.core_means.specs.Places.{spot_of, read_spot, write_spot}
use Rattle.core_means.specs.declared.parts.Flow.{Flow}
use Rattle.core_means.specs.declared.parts.Flow.TheVariants.{Next, Returned, Broke, Continued}
use Rattle.core_means.specs.declared.parts.Local.TheVariants as held
use Rattle.core_means.specs.declared.parts.Spot.{Spot}
use Rattle.world_fits.specs.Laws.{Known}
use Rattle.world_fits.specs.Lists.{each_front, each_back, append_none, append_twice}
use Rattle.world_fits.specs.Locals.{grown, grown_more, pushed, cut, with_fuel}
use Rattle.world_fits.specs.Places.{SpotHas}
use Rattle.world_fits.specs.Right.{Right, then_right, weaker, done_right, spend_right}
use Rattle.world_fits.specs.Sites.{Site, Scope, context, ValueHas, Fits, Grown, Allowed}
use Rattle.form_rights.specs.Changes.{target_hops_good, spot_good, read_good, write_good}
use Rattle.form_rights.specs.Exprs.{tested_good, opened_good}
use Rattle.form_rights.specs.Good.{Good, good_then, good_give, good_answered}
use Rattle.form_rights.specs.Inside.{MayDo, FlowFits, After, Rights}
use Rattle.form_rights.specs.Mentions.{hop_mentions}

module _ (site : Site) where
  -- ---- locals that end with what they stand in

  pub framed_good : (sc : Scope) (locals : List Local) {A : Type 0} (P : A → Type 0) (m : Doing A) → ((w : World) → Fits site sc locals w → Right site (λ x u. P x × Grown site sc locals u) (m w)) → Good site sc locals P (framed m)
  unfolding framed
  framed_good sc locals P m h w fit = then_right site _ (m w) (λ x u. Done x (record u { locals = take (length w.locals) u.locals })) (h w fit)
      (λ x u e. done_right site _ x (record u { locals = take (length w.locals) u.locals }) (e.0, cut site w u fit e.1))

  pub push_right : (sc : Scope) (locals : List Local) {A : Type 0} (P : A → World → Type 0) (t : Ty) (v : Value) (m : Doing A) (w : World) → ValueHas site t v → Fits site sc locals w
      → ((u : World) → Fits site sc (locals ++ Local.valued t ∷ []) u → Right site P (m u)) → Right site P ((push v >> m) w)
  unfolding and_then
  push_right sc locals P t v m w h fit more = more (record w { locals = w.locals ++ held.Holds (input.Value v) ∷ [] }) (pushed site w t v h fit)

  pub spent_right : (sc : Scope) (locals : List Local) {A : Type 0} (P : A → World → Type 0) (m : Doing A) (w : World) → Fits site sc locals w → ((u : World) → Fits site sc locals u → Right site P (m u)) → Right site P ((spend >> m) w)
  spent_right sc locals P m w fit more = spend_right site _ w m fit.live (λ n. more (record w { fuel = n }) (with_fuel site w n fit))

  pub after_none : (sc : Scope) (locals : List Local) (flow : Flow) (u : World) → Fits site sc locals u → After site sc locals None flow u
  after_none sc locals Next u h = h
  after_none sc locals (Returned o) u h = h
  after_none sc locals Broke u h = h
  after_none sc locals Continued u h = h

-- ---- conditions

-- Where the conditions hold, their locals are there.
abbrev pub Hold : Site → Scope → List Local → List Local → Bool → World → Type 0
Hold site sc locals after true u = Fits site sc after u
Hold site sc locals after false u = Grown site sc locals u

module _ (site : Site) (known : Known site) (i : Inside) (r : Rights site i) (sc : Scope) where
  pub conditions_grow : (locals : List Local) (cs : List Condition) (after : List Local) → Conditions (context site sc) locals cs after → (more : List Local) × (after ≡ locals ++ more)
  conditions_grow locals cs after (Conditions.no_conditions) = ([], sym (append_none locals))
  conditions_grow locals cs' after (Conditions.test {cs = cs} h more) = conditions_grow locals cs after more
  conditions_grow locals cs' after (Conditions.bind {cs = cs} {t = t} h e more) =
      let below = conditions_grow (locals ++ Local.valued t ∷ []) cs after more in
      (Local.valued t ∷ below.0, below.1 ∙ append_twice locals (Local.valued t ∷ []) below.0)

  pub conditions_right : (locals : List Local) (cs : List Condition) (after : List Local) → Conditions (context site sc) locals cs after → MayDo site sc (flat_map condition_mentions cs)
      → (w : World) → Fits site sc locals w → Right site (Hold site sc locals after) (conditions i cs w)
  unfolding conditions condition_of bound_to
  conditions_right locals cs after (Conditions.no_conditions) may w fit = done_right site _ true w fit
  conditions_right locals cs' after (Conditions.test {c = c} {cs = cs} h more) may w fit =
      then_right site _ (tested i c w) (λ t. choose t (conditions i cs) (give false)) (tested_good site known i r sc locals c (h, each_front (Allowed site sc) (core_mentions c) (flat_map condition_mentions cs) may) w fit)
      (λ t u e. go t u e.1 (conditions_right locals cs after more (each_back (Allowed site sc) (core_mentions c) (flat_map condition_mentions cs) may) u e.1))
    where
      go : (t : Bool) (u : World) → Fits site sc locals u → Right site (Hold site sc locals after) (conditions i cs u) → Right site (Hold site sc locals after) (choose t (conditions i cs) (give false) u)
      go true u f k = k
      go false u f k = done_right site _ false u (grown site f)
  conditions_right locals cs' after (Conditions.bind {c = c} {cs = cs} {o = o} {t = t} h is more) may w fit =
      then_right site _ ((opened i c >>= λ x. bound i x) w) (λ b. choose b (conditions i cs) (give false))
      (then_right site _ (opened i c w) (λ x. bound i x) (opened_good site known i r sc locals c o t is (h, each_front (Allowed site sc) (core_mentions c) (flat_map condition_mentions cs) may) w fit) (λ x u e. filled x u e.0 e.1))
      (λ b u e. go b u e (λ f. conditions_right (locals ++ Local.valued t ∷ []) cs after more (each_back (Allowed site sc) (core_mentions c) (flat_map condition_mentions cs) may) u f))
    where
      filled : (x : Option Value) (u : World) → IfSome x (ValueHas site t) → Fits site sc locals u → Right site (Hold site sc locals (locals ++ Local.valued t ∷ [])) (bound i x u)
      filled None u k f = done_right site _ false u (grown site f)
      filled (Some v) u k f = push_right site sc locals _ t v (give true) u k f (λ o g. done_right site _ true o g)

      go : (b : Bool) (u : World) → Hold site sc locals (locals ++ Local.valued t ∷ []) b u → (Fits site sc (locals ++ Local.valued t ∷ []) u → Right site (Hold site sc (locals ++ Local.valued t ∷ []) after) (conditions i cs u))
          → Right site (Hold site sc locals after) (choose b (conditions i cs) (give false) u)
      go true u f k = weaker site (conditions i cs u) (k f) (λ b o e. fewer b o e)
        where
          fewer : (b : Bool) (o : World) → Hold site sc (locals ++ Local.valued t ∷ []) after b o → Hold site sc locals after b o
          fewer true o e = e
          fewer false o e = grown_more site locals (Local.valued t ∷ []) e
      go false u g k = done_right site _ false u g

  none_after : (locals after : List Local) (u : World) → Conditions (context site sc) locals [] after → Fits site sc locals u → Fits site sc after u
  none_after locals after u (Conditions.no_conditions) fit = fit

  -- the word `true` always holds
  pub forever_right : (locals : List Local) (cs : List Condition) (after : List Local) → is_forever cs ≡ true → Conditions (context site sc) locals cs after
      → (w : World) → Fits site sc locals w → Right site (λ t u. (t ≡ true) × Fits site sc after u) (conditions i cs w)
  unfolding conditions condition_of tested
  forever_right locals cs after is (Conditions.no_conditions) w fit = cc
  forever_right locals cs' after is (Conditions.bind {cs = cs} h e more) w fit = cc
  forever_right locals cs' after is (Conditions.test {c = c} {cs = d ∷ ds} h more) w fit = cc
  forever_right locals cs' after is (Conditions.test {c = c} {cs = []} h more) w fit =
      then_right site _ ((i.eval c >>= λ v. given (truth v)) w) (λ t. choose t (give true) (give false))
      (then_right site _ (i.eval c w) (λ v. given (truth v)) (r.forever sc locals c is w fit)
      (λ v u e. subst (λ (o : Option Bool). Right site (λ t u. (t ≡ true) × Fits site sc locals u) (given o u)) (sym e.0) (done_right site _ true u (refl, e.1))))
      (λ t u e. subst (λ (b : Bool). Right site (λ t u. (t ≡ true) × Fits site sc after u) (choose b (give true) (give false) u)) (sym e.0) (done_right site _ true u (refl, none_after locals after u more e.1)))

  -- ---- statements

  module _ (locals : List Local) where
    pub local_right : (e : Core) (t : Ty) (result : Option Ty) (within : Within) (f : HowItEnds) → Has (context site sc) locals (out-Core e) t → f.ends ≡ false → MayDo site sc (core_mentions e)
        → (w : World) → Fits site sc locals w → Right site (λ flow u. FlowFits site result within f flow × After site sc locals (Some (Local.valued t)) flow u) (local_of i e w)
    unfolding local_of
    local_right e t result within f h goes may w fit =
        then_right site _ (i.eval e w) (λ v. push v >> give Next) (r.eval sc locals e t h may w fit)
        (λ v u k. push_right site sc locals _ t v (give Next) u k.0 k.1 (λ o g. done_right site _ Next o (goes, g)))

    pub assignment_good : (P : Flow → Type 0) (target : Target) (e : Core) (t : Ty) → P Next → Places (context site sc) locals target t → Has (context site sc) locals (out-Core e) t
        → MayDo site sc ((root_mentions target.root ++ joined (map hop_mentions target.hops)) ++ (core_mentions e ++ write_mentions (is_among_cells target.root)))
        → Good site sc locals P (assignment i target e)
    unfolding assignment
    assignment_good P target e t goes (Places.reached {t = from} begins leads) h may =
        let root = root_mentions target.root in
        let hops = joined (map hop_mentions target.hops) in
        let write = write_mentions (is_among_cells target.root) in
        let target_may = each_front (Allowed site sc) (root ++ hops) (core_mentions e ++ write) may in
        let rest_may = each_back (Allowed site sc) (root ++ hops) (core_mentions e ++ write) may in
        good_then site sc locals _ (hops_from i [] target.hops) (λ hs. i.eval e >>= λ v. spot_of target.root hs >>= λ s. write_spot s v >>= λ x. give Next)
        (target_hops_good site known i r sc locals target from t leads (each_back (Allowed site sc) root hops target_may))
        (λ hs k. good_then site sc locals _ (i.eval e) (λ v. spot_of target.root hs >>= λ s. write_spot s v >>= λ x. give Next) (r.eval sc locals e t h (each_front (Allowed site sc) (core_mentions e) write rest_may))
        (λ v y. good_then site sc locals _ (spot_of target.root hs) (λ s. write_spot s v >>= λ x. give Next)
        (spot_good site known i r sc locals target.root hs from t begins k (each_front (Allowed site sc) root hops target_may) (each_back (Allowed site sc) (core_mentions e) write rest_may))
        (λ s spot. good_then site sc locals _ (write_spot s v) (λ x. give Next) (write_good site known i r sc locals s t v spot y) (λ x z. good_give site sc locals _ Next goes))))

    update_spot_good : (P : Flow → Type 0) (op : Operator) (s : Spot) (v : Value) (t : Ty) → P Next → binary_type op (out-Ty t) ≡ Some t → SpotHas site sc locals t s → ValueHas site t v → Good site sc locals P (update_spot i op s v)
    unfolding update_spot
    update_spot_good P op s v t goes typed spot h =
        good_then site sc locals _ (read_spot s) (λ old. answered (operator.operation op old v) >>= λ new. write_spot s new >>= λ x. give Next) (read_good site known i r sc locals s t spot)
        (λ old k. good_then site sc locals _ (answered (operator.operation op old v)) (λ new. write_spot s new >>= λ x. give Next)
        (good_answered site sc locals _ (operator.operation op old v) (known.laws.binary site.program.table op t t old v typed k h))
        (λ new y. good_then site sc locals _ (write_spot s new) (λ x. give Next) (write_good site known i r sc locals s t new spot y) (λ x z. good_give site sc locals _ Next goes)))

    pub update_good : (P : Flow → Type 0) (op : Operator) (target : Target) (e : Core) (t : Ty) → P Next → Places (context site sc) locals target t → Has (context site sc) locals (out-Core e) t → binary_type op (out-Ty t) ≡ Some t
        → MayDo site sc ((root_mentions target.root ++ joined (map hop_mentions target.hops)) ++ (core_mentions e ++ write_mentions (is_among_cells target.root)))
        → Good site sc locals P (update i op target e)
    unfolding update
    update_good P op target e t goes (Places.reached {t = from} begins leads) h typed may =
        let root = root_mentions target.root in
        let hops = joined (map hop_mentions target.hops) in
        let write = write_mentions (is_among_cells target.root) in
        let target_may = each_front (Allowed site sc) (root ++ hops) (core_mentions e ++ write) may in
        let rest_may = each_back (Allowed site sc) (root ++ hops) (core_mentions e ++ write) may in
        good_then site sc locals _ (hops_from i [] target.hops) (λ hs. i.eval e >>= λ v. spot_of target.root hs >>= λ s. update_spot i op s v)
        (target_hops_good site known i r sc locals target from t leads (each_back (Allowed site sc) root hops target_may))
        (λ hs k. good_then site sc locals _ (i.eval e) (λ v. spot_of target.root hs >>= λ s. update_spot i op s v) (r.eval sc locals e t h (each_front (Allowed site sc) (core_mentions e) write rest_may))
        (λ v y. good_then site sc locals _ (spot_of target.root hs) (λ s. update_spot i op s v)
        (spot_good site known i r sc locals target.root hs from t begins k (each_front (Allowed site sc) root hops target_may) (each_back (Allowed site sc) (core_mentions e) write rest_may))
        (λ s spot. update_spot_good P op s v t goes typed spot y)))
