-- Branches, switches and loops.
use Rattle.std.specs.Prelude.{◌≡◌, ℕ, zero, suc, ℤ, pos, ◌+ℤ◌, Bool, true, false, ◌&&◌, ◌||◌, not, List, [], ◌∷◌, ◌++◌, map, Option, Some, None, ⊤}
use Rattle.std.specs.List.{flat_map, list_any}
use Rattle.std.proofs.Common.{refl, sym, ap, subst}
use Rattle.sv_value.specs.declared.value.Value.{Value}
use Rattle.sv_value.specs.declared.value.Value.TheVariants as whole
use Rattle.swift_core.specs.Context.{Local}
use Rattle.swift_core.specs.Mentions.{joined, core_mentions, stmt_mentions, over_mentions, condition_mentions}
use Rattle.swift_core.specs.Types.{element_at}
use Rattle.swift_core.specs.Typing.{Has, Statements, Arms, Cases, Covers, Conditions, IsOver, IsRange, Within, in_loop, in_switch, Flow as HowItEnds, goes_on, returns, either_flow, switch_flow, loop_flow, is_forever}
use Rattle.swift_core.specs.Values.{AllHaveValue}
use Rattle.swift_core.specs.declared.stmt.Condition.{Condition}
use Rattle.swift_core.specs.declared.stmt.CoreStmt.{CoreStmt}
use Rattle.swift_core.specs.declared.stmt.Over.{Over}
use Rattle.swift_core.specs.declared.stmt.Over.TheVariants as over
use Rattle.swift_core.specs.declared.stmt.StmtArm.{StmtArm}
use Rattle.swift_core.specs.declared.stmt.StmtCase.{StmtCase}
use Rattle.swift_core.specs.declared.term.Core.{Core, out-Core}
use Rattle.swift_core.specs.declared.ty.Ty.{Ty, out-Ty}
use Rattle.swift_core.specs.declared.ty.Ty.TheVariants as ty
use Rattle.value_calls.specs.declared.traps.TrapKind.TheVariants.{Fuel}
use Rattle.core_means.specs.Asks.{World, Doing, ◌>>=◌, ◌>>◌, give, found, choose, spend}
use Rattle.core_means.specs.Means.{Inside, parts, matches, block, ended_by, unless_ended, after_switch, scoped, guarded, arm, last_arm, arms, case_of, selection, guarded_turn, turn, turns, repetition, item_turn, framed_turn, turn_with, turn_for_each, counted, for_list, for_numbers, loop_over, conditions}
use Rattle.core_means.specs.declared.parts.Flow.{Flow}
use Rattle.core_means.specs.declared.parts.Flow.TheVariants.{Next, Returned, Broke, Continued}
use Rattle.world_fits.specs.Laws.{Known}
use Rattle.world_fits.specs.Lists.{each_front, each_back}
use Rattle.world_fits.specs.Locals.{grown, grown_more}
use Rattle.world_fits.specs.Right.{Right, then_right, weaker, done_right, trap_right}
use Rattle.world_fits.specs.Sites.{Site, Scope, context, ValueHas, Fits, Grown, Allowed}
use Rattle.form_rights.specs.Blocks.{block_right}
use Rattle.form_rights.specs.Good.{Good, good_then, good_give, good_weaker}
use Rattle.form_rights.specs.Inside.{MayDo, FlowFits, Rights}
use Rattle.form_rights.specs.Mentions.{arm_mentions, case_mentions, arm_is, case_is}
use Rattle.form_rights.specs.Stmts.{Hold, framed_good, push_right, spent_right, conditions_grow, conditions_right, forever_right}

-- ---- how branches end

and_first : (a b : Bool) → a ≡ false → (a && b) ≡ false
and_first a b e = ap (λ x. x && b) e

and_second : (a b : Bool) → b ≡ false → (a && b) ≡ false
and_second true b e = e
and_second false b e = refl

or_first : (a b : Bool) → a ≡ true → (a || b) ≡ true
or_first a b e = ap (λ x. x || b) e

or_second : (a b : Bool) → b ≡ true → (a || b) ≡ true
or_second true b e = refl
or_second false b e = e

and_later : (a b c : Bool) → (b && c) ≡ false → ((a && b) && c) ≡ false
and_later true b c e = e
and_later false b c e = refl

or_later : (a b c : Bool) → (b || c) ≡ true → ((a || b) || c) ≡ true
or_later true b c e = refl
or_later false b c e = e

module _ (site : Site) (result : Option Ty) (within : Within) where
  first_branch : (f g : HowItEnds) (flow : Flow) → FlowFits site result within f flow → FlowFits site result within (either_flow f g) flow
  first_branch f g Next h = and_first f.ends g.ends h
  first_branch f g (Returned None) h = h
  first_branch f g (Returned (Some v)) h = h
  first_branch f g Broke h = (or_first f.breaks g.breaks h.0, h.1)
  first_branch f g Continued h = h

  second_branch : (f g : HowItEnds) (flow : Flow) → FlowFits site result within g flow → FlowFits site result within (either_flow f g) flow
  second_branch f g Next h = and_second f.ends g.ends h
  second_branch f g (Returned None) h = h
  second_branch f g (Returned (Some v)) h = h
  second_branch f g Broke h = (or_second f.breaks g.breaks h.0, h.1)
  second_branch f g Continued h = h

  later_branch : (f g k : HowItEnds) (flow : Flow) → FlowFits site result within (either_flow g k) flow → FlowFits site result within (either_flow (either_flow f g) k) flow
  later_branch f g k Next h = and_later f.ends g.ends k.ends h
  later_branch f g k (Returned None) h = h
  later_branch f g k (Returned (Some v)) h = h
  later_branch f g k Broke h = (or_later f.breaks g.breaks k.breaks h.0, h.1)
  later_branch f g k Continued h = h

  no_branch : (k : HowItEnds) (flow : Flow) → FlowFits site result within k flow → FlowFits site result within (either_flow returns k) flow
  no_branch k Next h = h
  no_branch k (Returned None) h = h
  no_branch k (Returned (Some v)) h = h
  no_branch k Broke h = h
  no_branch k Continued h = h

  left_switch : (f : HowItEnds) (flow : Flow) → FlowFits site result (in_switch within) f flow → FlowFits site result within (switch_flow f) (after_switch flow)
  left_switch f Next h = and_first f.ends (not f.breaks) h
  left_switch f (Returned None) h = h
  left_switch f (Returned (Some v)) h = h
  left_switch f Broke h = and_second f.ends (not f.breaks) (ap not h.0)
  left_switch f Continued h = h

  -- after a turn: nothing, or how the loop ends
  abbrev pub EndFits : HowItEnds → Option Flow → Type 0
  EndFits g None = ⊤
  EndFits g (Some flow) = FlowFits site result within g flow

  turn_ends : (f g : HowItEnds) (flow : Flow) → FlowFits site result in_loop f flow → (f.breaks ≡ true → g.ends ≡ false) → EndFits g (ended_by flow)
  turn_ends f g Next h k = tt
  turn_ends f g (Returned None) h k = h
  turn_ends f g (Returned (Some v)) h k = h
  turn_ends f g Broke h k = k h.0
  turn_ends f g Continued h k = tt

module _ (site : Site) (known : Known site) (i : Inside) (r : Rights site i) (sc : Scope) (locals : List Local) (result : Option Ty) where
  -- ---- blocks

  pub scoped_good : (within : Within) (ss : List CoreStmt) (f : HowItEnds) → Statements (context site sc) result within locals ss f → MayDo site sc (joined (map stmt_mentions ss))
      → Good site sc locals (FlowFits site result within f) (scoped i ss)
  unfolding scoped
  scoped_good within ss f h may = framed_good site sc locals _ (block i ss) (block_right site i r sc result locals within ss f h may)

  -- what is done in a block under locals that have grown
  inner_grown : (inner more : List Local) (u : World) → inner ≡ locals ++ more → Grown site sc inner u → Grown site sc locals u
  inner_grown inner more u e g = grown_more site locals more (subst (λ (ls : List Local). Grown site sc ls u) e g)

  -- ---- `if`

  guarded_right : (within : Within) (cs : List Condition) (ss : List CoreStmt) (inner : List Local) (f : HowItEnds) → Conditions (context site sc) locals cs inner → Statements (context site sc) result within inner ss f
      → MayDo site sc (flat_map condition_mentions cs) → MayDo site sc (joined (map stmt_mentions ss))
      → (w : World) → Fits site sc locals w → Right site (λ o u. EndFits site result within f o × Grown site sc locals u) (guarded i cs ss w)
  unfolding guarded
  guarded_right within cs ss inner f conds h conds_may may w fit =
      then_right site _ (conditions i cs w) (λ t. choose t (block i ss >>= λ flow. give (Some flow)) (give None)) (conditions_right site known i r sc locals cs inner conds conds_may w fit)
      (λ t u e. go t u e)
    where
      go : (t : Bool) (u : World) → Hold site sc locals inner t u → Right site (λ o u. EndFits site result within f o × Grown site sc locals u) (choose t (block i ss >>= λ flow. give (Some flow)) (give None) u)
      go true u e =
          let grow = conditions_grow site known i r sc locals cs inner conds in
          then_right site _ (block i ss u) (λ flow. give (Some flow)) (block_right site i r sc result inner within ss f h may u e)
          (λ flow v k. done_right site _ (Some flow) v (k.0, inner_grown inner grow.0 v grow.1 k.1))
      go false u e = done_right site _ None u (tt, e)

  arm_good : (within : Within) (a : StmtArm) (inner : List Local) (f : HowItEnds) → Conditions (context site sc) locals a.conditions inner → Statements (context site sc) result within inner a.body f
      → MayDo site sc (flat_map condition_mentions a.conditions ++ joined (map stmt_mentions a.body)) → Good site sc locals (EndFits site result within f) (arm i a)
  unfolding arm
  arm_good within a inner f conds h may =
      framed_good site sc locals _ (guarded i a.conditions a.body)
      (guarded_right within a.conditions a.body inner f conds h (each_front (Allowed site sc) (flat_map condition_mentions a.conditions) (joined (map stmt_mentions a.body)) may) (each_back (Allowed site sc) (flat_map condition_mentions a.conditions) (joined (map stmt_mentions a.body)) may))

  pub arms_good : (within : Within) (as' : List StmtArm) (last : Option (List CoreStmt)) (f g : HowItEnds) → Arms (context site sc) result within locals as' f → Good site sc locals (FlowFits site result within g) (last_arm i last)
      → MayDo site sc (joined (map arm_mentions as')) → Good site sc locals (FlowFits site result within (either_flow f g)) (arms i as' last)
  unfolding arms
  arms_good within as' last f g (Arms.no_arms) more may = good_weaker site sc locals (last_arm i last) more (λ flow h. no_branch site result within g flow h)
  arms_good within all last f' g (Arms.more_arms {inner = inner} {a = a} {as' = rest} {f = f} {g = k} conds h others) more may =
      good_then site sc locals _ (arm i a) (λ ended. unless_ended ended (arms i rest last))
      (arm_good within a inner f conds h (subst (MayDo site sc) (arm_is a) (each_front (Allowed site sc) (arm_mentions a) (joined (map arm_mentions rest)) may)))
      (λ ended e. go ended e (arms_good within rest last k g others more (each_back (Allowed site sc) (arm_mentions a) (joined (map arm_mentions rest)) may)))
    where
      go : (ended : Option Flow) → EndFits site result within f ended → Good site sc locals (FlowFits site result within (either_flow k g)) (arms i rest last)
          → Good site sc locals (FlowFits site result within (either_flow (either_flow f k) g)) (unless_ended ended (arms i rest last))
      go None e below = good_weaker site sc locals (arms i rest last) below (λ flow h. later_branch site result within f k g flow h)
      go (Some flow) e below = good_give site sc locals _ flow (first_branch site result within (either_flow f k) g flow (first_branch site result within f k flow e))

  -- ---- `switch`

  case_good : (within : Within) (cs : List StmtCase) (f : HowItEnds) (v : Value) → Cases (context site sc) result within locals cs f → list_any (matches v) (map (λ (c : StmtCase). c.patterns) cs) ≡ true
      → MayDo site sc (joined (map case_mentions cs)) → Good site sc locals (FlowFits site result within f) (case_of i v cs)
  unfolding case_of
  case_good within cs f v (Cases.no_cases) e may = cc
  case_good within cs' f' v (Cases.more_cases {c = c} {cs = cs} {f = f} {g = g} h others) e may =
      go (matches v c.patterns) e (case_good within cs g v others)
    where
      here : MayDo site sc (joined (map stmt_mentions c.body))
      here = subst (MayDo site sc) (case_is c) (each_front (Allowed site sc) (case_mentions c) (joined (map case_mentions cs)) may)

      go : (b : Bool) → (b || list_any (matches v) (map (λ (c : StmtCase). c.patterns) cs)) ≡ true
          → (list_any (matches v) (map (λ (c : StmtCase). c.patterns) cs) ≡ true → MayDo site sc (joined (map case_mentions cs)) → Good site sc locals (FlowFits site result within g) (case_of i v cs))
          → Good site sc locals (FlowFits site result within (either_flow f g)) (choose b (scoped i c.body) (case_of i v cs))
      go true e below = good_weaker site sc locals (scoped i c.body) (scoped_good within c.body f h here) (λ flow k. first_branch site result within f g flow k)
      go false e below = good_weaker site sc locals (case_of i v cs) (below e (each_back (Allowed site sc) (case_mentions c) (joined (map case_mentions cs)) may)) (λ flow k. second_branch site result within f g flow k)

  pub selection_good : (within : Within) (e : Core) (t : Ty) (cs : List StmtCase) (f : HowItEnds) → Has (context site sc) locals (out-Core e) t → Covers site.program.table t (map (λ (c : StmtCase). c.patterns) cs)
      → Cases (context site sc) result (in_switch within) locals cs f → MayDo site sc (core_mentions e) → MayDo site sc (joined (map case_mentions cs)) → Good site sc locals (FlowFits site result within (switch_flow f)) (selection i e cs)
  unfolding selection
  selection_good within e t cs f h covers cases may cases_may =
      good_then site sc locals _ (i.eval e) (λ v. case_of i v cs >>= λ flow. give (after_switch flow)) (r.eval sc locals e t h may)
      (λ v k. good_then site sc locals _ (case_of i v cs) (λ flow. give (after_switch flow))
      (case_good (in_switch within) cs f v cases (known.laws.cases site.program.table t v (map (λ (c : StmtCase). c.patterns) cs) covers k) cases_may)
      (λ flow x. good_give site sc locals _ (after_switch flow) (left_switch site result within f flow x)))

  -- ---- `for`

  module _ (within : Within) (ss : List CoreStmt) (t : Ty) (f : HowItEnds) (h : Statements (context site sc) result in_loop (locals ++ Local.valued t ∷ []) ss f) (may : MayDo site sc (joined (map stmt_mentions ss))) where
    turn_with_good : (v : Value) → ValueHas site t v → Good site sc locals (EndFits site result within goes_on) (turn_with i v ss)
    unfolding turn_with framed_turn item_turn
    turn_with_good v k w fit = spent_right site sc locals _ (framed_turn i v ss) w fit
        (framed_good site sc locals _ (item_turn i v ss)
        (λ u fits. push_right site sc locals _ t v (block i ss >>= λ flow. give (ended_by flow)) u k fits
        (λ o g. then_right site _ (block i ss o) (λ flow. give (ended_by flow)) (block_right site i r sc result (locals ++ Local.valued t ∷ []) in_loop ss f h may o g)
        (λ flow p q. done_right site _ (ended_by flow) p (turn_ends site result within f goes_on flow q.0 (λ e. refl), grown_more site locals (Local.valued t ∷ []) q.1)))))

    goes : (ended : Option Flow) (m : Doing Flow) → EndFits site result within goes_on ended → Good site sc locals (FlowFits site result within goes_on) m → Good site sc locals (FlowFits site result within goes_on) (unless_ended ended m)
    goes None m e k = k
    goes (Some flow) m e k = good_give site sc locals _ flow e

    for_each_good : (vs : List Value) → AllHaveValue site.program.table t vs → Good site sc locals (FlowFits site result within goes_on) (turn_for_each i vs ss)
    unfolding turn_for_each
    for_each_good vs (AllHaveValue.no_values u) = good_give site sc locals _ Next refl
    for_each_good vs' (AllHaveValue.more_values {v = v} {vs = vs} k more) =
        good_then site sc locals _ (turn_with i v ss) (λ ended. unless_ended ended (turn_for_each i vs ss)) (turn_with_good v k) (λ ended e. goes ended (turn_for_each i vs ss) e (for_each_good vs more))

    counted_good : (n : ℕ) (k : ℤ) → ((m : ℤ) → ValueHas site t (whole.Int m)) → Good site sc locals (FlowFits site result within goes_on) (counted i n k ss)
    unfolding counted
    counted_good zero k number = good_give site sc locals _ Next refl
    counted_good (suc n) k number =
        good_then site sc locals _ (turn_with i (whole.Int k) ss) (λ ended. unless_ended ended (counted i n (k +ℤ pos 1) ss)) (turn_with_good (whole.Int k) (number k))
        (λ ended e. goes ended (counted i n (k +ℤ pos 1) ss) e (counted_good n (k +ℤ pos 1) number))

    for_list_good : (e : Core) (l : Ty) → Has (context site sc) locals (out-Core e) l → element_at (out-Ty l) ≡ Some t → MayDo site sc (core_mentions e) → Good site sc locals (FlowFits site result within goes_on) (for_list i e ss)
    unfolding for_list
    for_list_good e l k is may' =
        good_then site sc locals _ (i.eval e) (λ v. found (parts v) (λ vs. turn_for_each i vs ss)) (r.eval sc locals e l k may')
        (λ v x. let y = known.laws.lists site.program.table l t v is x in
        subst (λ (o : Option (List Value)). Good site sc locals (FlowFits site result within goes_on) (found o (λ vs. turn_for_each i vs ss))) (sym y.1) (for_each_good y.0 y.2))

    for_numbers_good : (o : Over) → ((m : ℤ) → ValueHas site t (whole.Int m)) → IsRange (context site sc) locals o → MayDo site sc (over_mentions o) → Good site sc locals (FlowFits site result within goes_on) (for_numbers i o ss)
    unfolding for_numbers
    for_numbers_good o number k may' = good_then site sc locals _ (i.span o) (λ numbers. counted i numbers.count numbers.first ss) (r.span sc locals o k may') (λ n x. counted_good n.count n.first number)

  range_good : (within : Within) (ss : List CoreStmt) (f : HowItEnds) (o : Over) → Statements (context site sc) result in_loop (locals ++ Local.valued ty.Int ∷ []) ss f → MayDo site sc (joined (map stmt_mentions ss))
      → IsRange (context site sc) locals o → MayDo site sc (over_mentions o) → Good site sc locals (FlowFits site result within goes_on) (loop_over i o ss)
  unfolding loop_over
  range_good within ss f o h may (IsRange.up_to {a = a} {b = b} x y) over_may = for_numbers_good within ss ty.Int f h may (over.UpTo a b) (known.laws.plain site.program.table).numbers (IsRange.up_to x y) over_may
  range_good within ss f o h may (IsRange.through {a = a} {b = b} x y) over_may = for_numbers_good within ss ty.Int f h may (over.Through a b) (known.laws.plain site.program.table).numbers (IsRange.through x y) over_may
  range_good within ss f o h may (IsRange.indices {c = c} x y) over_may = for_numbers_good within ss ty.Int f h may (over.Indices c) (known.laws.plain site.program.table).numbers (IsRange.indices x y) over_may

  pub loop_good : (within : Within) (ss : List CoreStmt) (t : Ty) (f : HowItEnds) (o : Over) → IsOver (context site sc) locals o t → Statements (context site sc) result in_loop (locals ++ Local.valued t ∷ []) ss f
      → MayDo site sc (joined (map stmt_mentions ss)) → MayDo site sc (over_mentions o) → Good site sc locals (FlowFits site result within goes_on) (loop_over i o ss)
  unfolding loop_over
  loop_good within ss t f o (IsOver.range is) h may over_may = range_good within ss f o h may is over_may
  loop_good within ss t f o (IsOver.elements {c = c} {l = l} k is) h may over_may = for_list_good within ss t f h may c l k is over_may

  -- ---- `while`

  module _ (within : Within) (cs : List Condition) (inner : List Local) (ss : List CoreStmt) (f : HowItEnds) (conds : Conditions (context site sc) locals cs inner) (h : Statements (context site sc) result in_loop inner ss f)
      (conds_may : MayDo site sc (flat_map condition_mentions cs)) (may : MayDo site sc (joined (map stmt_mentions ss))) where
    abbrev Ends : HowItEnds
    Ends = loop_flow (is_forever cs) f

    -- the conditions, which only end the loop where they are not the word `true`
    tested_right : (w : World) → Fits site sc locals w → Right site (λ t u. Hold site sc locals inner t u × (t ≡ false → Ends.ends ≡ false)) (conditions i cs w)
    tested_right w fit = go (is_forever cs) refl
      where
        holds : (t : Bool) (u : World) → t ≡ true → Fits site sc inner u → Hold site sc locals inner t u × (t ≡ false → Ends.ends ≡ false)
        holds true u e g = (g, λ n. cc)
        holds false u e g = cc

        go : (b : Bool) → is_forever cs ≡ b → Right site (λ t u. Hold site sc locals inner t u × (t ≡ false → Ends.ends ≡ false)) (conditions i cs w)
        go true e = weaker site (conditions i cs w) (forever_right site known i r sc locals cs inner e conds w fit) (λ t u k. holds t u k.0 k.1)
        go false e = weaker site (conditions i cs w) (conditions_right site known i r sc locals cs inner conds conds_may w fit) (λ t u k. (k, λ n. and_first (is_forever cs) (not f.breaks) e))

    guarded_turn_right : (w : World) → Fits site sc locals w → Right site (λ o u. EndFits site result within Ends o × Grown site sc locals u) (guarded_turn i cs ss w)
    unfolding guarded_turn
    guarded_turn_right w fit = then_right site _ (conditions i cs w) (λ t. choose t (spend >> (block i ss >>= λ flow. give (ended_by flow))) (give (Some Next))) (tested_right w fit) (λ t u e. go t u e.0 e.1)
      where
        go : (t : Bool) (u : World) → Hold site sc locals inner t u → (t ≡ false → Ends.ends ≡ false)
            → Right site (λ o u. EndFits site result within Ends o × Grown site sc locals u) (choose t (spend >> (block i ss >>= λ flow. give (ended_by flow))) (give (Some Next)) u)
        go true u e k =
            let grow = conditions_grow site known i r sc locals cs inner conds in
            spent_right site sc inner _ (block i ss >>= λ flow. give (ended_by flow)) u e
            (λ v g. then_right site _ (block i ss v) (λ flow. give (ended_by flow)) (block_right site i r sc result inner in_loop ss f h may v g)
            (λ flow p q. done_right site _ (ended_by flow) p (turn_ends site result within f Ends flow q.0 (λ breaks. and_second (is_forever cs) (not f.breaks) (ap not breaks)), inner_grown inner grow.0 p grow.1 q.1)))
        go false u e k = done_right site _ (Some Next) u (k refl, e)

    turn_good : Good site sc locals (EndFits site result within Ends) (turn i cs ss)
    unfolding turn
    turn_good = framed_good site sc locals _ (guarded_turn i cs ss) guarded_turn_right

    turns_good : (n : ℕ) → Good site sc locals (FlowFits site result within Ends) (turns i n cs ss)
    unfolding turns
    turns_good zero = λ w fit. trap_right site _ Fuel w fit.live
    turns_good (suc n) = good_then site sc locals _ (turn i cs ss) (λ ended. unless_ended ended (turns i n cs ss)) turn_good (λ ended e. go ended e (turns_good n))
      where
        go : (ended : Option Flow) → EndFits site result within Ends ended → Good site sc locals (FlowFits site result within Ends) (turns i n cs ss) → Good site sc locals (FlowFits site result within Ends) (unless_ended ended (turns i n cs ss))
        go None e k = k
        go (Some flow) e k = good_give site sc locals _ flow e

    pub repetition_good : Good site sc locals (FlowFits site result within Ends) (repetition i cs ss)
    unfolding repetition
    repetition_good w fit = turns_good w.fuel w fit
