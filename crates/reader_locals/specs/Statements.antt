-- Statements, whose code captures nothing; and so all terms, whatever number of forms may still be entered.
use Rattle.std.specs.Prelude.{ℕ, zero, suc, ℤ, pos, ◌+ℤ◌, List, [], ◌∷◌, Option, Some, None}
use Rattle.identity_path.specs.declared.input.Input.{Input}
use Rattle.sv_value.specs.declared.value.Value.{Value}
use Rattle.sv_value.specs.declared.value.Value.TheVariants as whole
use Rattle.swift_core.specs.Codes.{Parts as Program}
use Rattle.swift_core.specs.Typing.{StmtForm}
use Rattle.swift_core.specs.declared.code.Code.{Code}
use Rattle.swift_core.specs.declared.code.CodeForm.{CodeForm}
use Rattle.swift_core.specs.declared.code.CodeForm.TheVariants as code_form
use Rattle.swift_core.specs.declared.stmt.Condition.{Condition}
use Rattle.swift_core.specs.declared.stmt.CoreStmt.{CoreStmt, out-CoreStmt}
use Rattle.swift_core.specs.declared.stmt.CoreStmt.TheOpen.{CoreStmt-F}
use Rattle.swift_core.specs.declared.stmt.Over.{Over}
use Rattle.swift_core.specs.declared.stmt.Over.TheVariants as over
use Rattle.swift_core.specs.declared.stmt.StmtArm.{StmtArm}
use Rattle.swift_core.specs.declared.stmt.StmtCase.{StmtCase}
use Rattle.swift_core.specs.declared.term.Change.{Change}
use Rattle.swift_core.specs.declared.term.Core.{Core}
use Rattle.swift_core.specs.declared.term.Invocation.{Invocation}
use Rattle.swift_core.specs.declared.term.Target.{Target}
use Rattle.value_calls.specs.Operators as operator
use Rattle.value_calls.specs.declared.operators.Operator.{Operator}
use Rattle.value_calls.specs.declared.traps.TrapKind.TheVariants.{Fuel, Calls as Nested}
use Rattle.core_means.specs.Asks.{Doing, ◌>>=◌, ◌>>◌, give, given, found, answered, choose, spend, trap}
use Rattle.core_means.specs.Means.{Inside, inner, parts, matches, value_of_flow, ended_by, after_switch, unless_ended, and_next, push, block, body, run_form, run_code, conditions, scoped, guarded, arm, last_arm, arms, case_of, selection, guarded_turn, turn, turns, repetition, item_turn, framed_turn, turn_with, turn_for_each, counted, for_list, for_numbers, loop_over, local_of, hops_from, assignment, update_spot, update, return_at, return_of, called, made_change, exec_at, exec_form, value_form, span_form, invoked, changed, means, does, spans, calls, changes}
use Rattle.core_means.specs.Places.{spot_of, read_spot, write_spot}
use Rattle.core_means.specs.declared.parts.Flow.{Flow}
use Rattle.core_means.specs.declared.parts.Flow.TheVariants.{Next, Returned, Broke, Continued}
use Rattle.core_means.specs.declared.parts.Spot.{Spot}
use Rattle.reader_locals.specs.AlterLayers.{beyond_none}
use Rattle.reader_locals.specs.Filled.{Agree, Calm, with_then, calm_then, calm_give, calm_trap, calm_given, calm_answered, calm_found, calm_choose, calm_spend, calm_push, calm_framed}
use Rattle.reader_locals.specs.Terms.{Calms, SpotBeyond, spot_calm, read_calm, write_calm, hops_calm, conditions_calm, invoked_calm, changed_calm, value_form_calm, span_form_calm}

-- Statements and the calls that stand as statements, in code that captures nothing.
pub record Runs (inputs : List Input) (i : Inside) : Type 0 where
  pub terms : Calms inputs zero i
  pub exec : (s : CoreStmt) → Calm inputs zero (i.exec s)
  pub call : (x : Invocation) → Calm inputs zero (i.call x)
  pub change : (x : Change) → Calm inputs zero (i.change x)

module _ (inputs : List Input) (i : Inside) (r : Runs inputs i) where
  eval_calm : (e : Core) → Calm inputs zero (i.eval e)
  eval_calm e = r.terms.eval e (beyond_none _)

  -- ---- statements in a row, and bodies

  next_calm : (flow : Flow) (rest : Doing Flow) → Calm inputs zero rest → Calm inputs zero (and_next flow rest)
  next_calm Next rest h = h
  next_calm (Returned o) rest h = calm_give inputs zero (Returned o)
  next_calm Broke rest h = calm_give inputs zero Broke
  next_calm Continued rest h = calm_give inputs zero Continued

  block_calm : (ss : List CoreStmt) → Calm inputs zero (block i ss)
  unfolding block
  block_calm [] = calm_give inputs zero Next
  block_calm (s ∷ ss) = calm_then inputs zero (i.exec s) (λ flow. and_next flow (block i ss)) (r.exec s) (λ flow. next_calm flow (block i ss) (block_calm ss))

  body_calm : (ss : List CoreStmt) → Calm inputs zero (body i ss)
  unfolding body
  body_calm ss = calm_then inputs zero (block i ss) (λ flow. given (value_of_flow flow)) (block_calm ss) (λ flow. calm_given inputs zero (value_of_flow flow))

  run_form_calm : (form : CodeForm) → Calm inputs zero (run_form i form)
  run_form_calm (code_form.Value e) = calm_then inputs zero (i.eval e) (λ v. give (Some v)) (eval_calm e) (λ v. calm_give inputs zero (Some v))
  run_form_calm (code_form.Statements ss) = body_calm ss
  run_form_calm (code_form.Builder xs) = λ w settled. Agree.fails

  pub run_calm : (code : Code) → Calm inputs zero (run_code i code)
  unfolding run_code
  run_calm code = run_form_calm code.form

  tests_calm : (cs : List Condition) → Calm inputs zero (conditions i cs)
  tests_calm cs = conditions_calm inputs zero i r.terms run_calm cs (beyond_none _)

  -- ---- `if` and `switch`

  scoped_calm : (ss : List CoreStmt) → Calm inputs zero (scoped i ss)
  unfolding scoped
  scoped_calm ss = calm_framed inputs zero (block i ss) (block_calm ss)

  arm_calm : (a : StmtArm) → Calm inputs zero (arm i a)
  unfolding arm guarded
  arm_calm a =
      calm_framed inputs zero (conditions i a.conditions >>= λ t. choose t (block i a.body >>= λ flow. give (Some flow)) (give None))
      (calm_then inputs zero (conditions i a.conditions) (λ t. choose t (block i a.body >>= λ flow. give (Some flow)) (give None)) (tests_calm a.conditions)
      (λ t. calm_choose inputs zero t (block i a.body >>= λ flow. give (Some flow)) (give None)
      (calm_then inputs zero (block i a.body) (λ flow. give (Some flow)) (block_calm a.body) (λ flow. calm_give inputs zero (Some flow))) (calm_give inputs zero None)))

  unless_calm : (o : Option Flow) (rest : Doing Flow) → Calm inputs zero rest → Calm inputs zero (unless_ended o rest)
  unless_calm None rest h = h
  unless_calm (Some flow) rest h = calm_give inputs zero flow

  last_calm : (last : Option (List CoreStmt)) → Calm inputs zero (last_arm i last)
  last_calm None = calm_give inputs zero Next
  last_calm (Some ss) = scoped_calm ss

  arms_calm : (as' : List StmtArm) (last : Option (List CoreStmt)) → Calm inputs zero (arms i as' last)
  unfolding arms
  arms_calm [] last = last_calm last
  arms_calm (a ∷ as') last = calm_then inputs zero (arm i a) (λ ended. unless_ended ended (arms i as' last)) (arm_calm a) (λ ended. unless_calm ended (arms i as' last) (arms_calm as' last))

  case_calm : (v : Value) (cs : List StmtCase) → Calm inputs zero (case_of i v cs)
  unfolding case_of
  case_calm v [] = λ w settled. Agree.fails
  case_calm v (c ∷ cs) = calm_choose inputs zero (matches v c.patterns) (scoped i c.body) (case_of i v cs) (scoped_calm c.body) (case_calm v cs)

  selection_calm : (e : Core) (cs : List StmtCase) → Calm inputs zero (selection i e cs)
  unfolding selection
  selection_calm e cs =
      calm_then inputs zero (i.eval e) (λ v. case_of i v cs >>= λ flow. give (after_switch flow)) (eval_calm e)
      (λ v. calm_then inputs zero (case_of i v cs) (λ flow. give (after_switch flow)) (case_calm v cs) (λ flow. calm_give inputs zero (after_switch flow)))

  -- ---- loops

  end_calm : (ss : List CoreStmt) → Calm inputs zero (block i ss >>= λ flow. give (ended_by flow))
  end_calm ss = calm_then inputs zero (block i ss) (λ flow. give (ended_by flow)) (block_calm ss) (λ flow. calm_give inputs zero (ended_by flow))

  turn_calm : (cs : List Condition) (ss : List CoreStmt) → Calm inputs zero (turn i cs ss)
  unfolding turn guarded_turn
  turn_calm cs ss =
      calm_framed inputs zero (conditions i cs >>= λ t. choose t (spend >> (block i ss >>= λ flow. give (ended_by flow))) (give (Some Next)))
      (calm_then inputs zero (conditions i cs) (λ t. choose t (spend >> (block i ss >>= λ flow. give (ended_by flow))) (give (Some Next))) (tests_calm cs)
      (λ t. calm_choose inputs zero t (spend >> (block i ss >>= λ flow. give (ended_by flow))) (give (Some Next))
      (calm_spend inputs zero (block i ss >>= λ flow. give (ended_by flow)) (end_calm ss)) (calm_give inputs zero (Some Next))))

  turns_calm : (n : ℕ) (cs : List Condition) (ss : List CoreStmt) → Calm inputs zero (turns i n cs ss)
  unfolding turns
  turns_calm zero cs ss = calm_trap inputs zero Fuel
  turns_calm (suc n) cs ss = calm_then inputs zero (turn i cs ss) (λ ended. unless_ended ended (turns i n cs ss)) (turn_calm cs ss) (λ ended. unless_calm ended (turns i n cs ss) (turns_calm n cs ss))

  repetition_calm : (cs : List Condition) (ss : List CoreStmt) → Calm inputs zero (repetition i cs ss)
  unfolding repetition
  repetition_calm cs ss w settled = turns_calm w.fuel cs ss w settled

  turn_with_calm : (v : Value) (ss : List CoreStmt) → Calm inputs zero (turn_with i v ss)
  unfolding turn_with framed_turn item_turn
  turn_with_calm v ss =
      calm_spend inputs zero (framed_turn i v ss)
      (calm_framed inputs zero (push v >> (block i ss >>= λ flow. give (ended_by flow)))
      (calm_then inputs zero (push v) (λ x. block i ss >>= λ flow. give (ended_by flow)) (calm_push inputs zero v) (λ x. end_calm ss)))

  for_each_calm : (vs : List Value) (ss : List CoreStmt) → Calm inputs zero (turn_for_each i vs ss)
  unfolding turn_for_each
  for_each_calm [] ss = calm_give inputs zero Next
  for_each_calm (v ∷ vs) ss = calm_then inputs zero (turn_with i v ss) (λ ended. unless_ended ended (turn_for_each i vs ss)) (turn_with_calm v ss) (λ ended. unless_calm ended (turn_for_each i vs ss) (for_each_calm vs ss))

  counted_calm : (n : ℕ) (k : ℤ) (ss : List CoreStmt) → Calm inputs zero (counted i n k ss)
  unfolding counted
  counted_calm zero k ss = calm_give inputs zero Next
  counted_calm (suc n) k ss =
      calm_then inputs zero (turn_with i (whole.Int k) ss) (λ ended. unless_ended ended (counted i n (k +ℤ pos 1) ss)) (turn_with_calm (whole.Int k) ss)
      (λ ended. unless_calm ended (counted i n (k +ℤ pos 1) ss) (counted_calm n (k +ℤ pos 1) ss))

  numbers_calm : (o : Over) (ss : List CoreStmt) → Calm inputs zero (for_numbers i o ss)
  unfolding for_numbers
  numbers_calm o ss = calm_then inputs zero (i.span o) (λ numbers. counted i numbers.count numbers.first ss) (r.terms.span o (beyond_none _)) (λ numbers. counted_calm numbers.count numbers.first ss)

  for_list_calm : (e : Core) (ss : List CoreStmt) → Calm inputs zero (for_list i e ss)
  unfolding for_list
  for_list_calm e ss =
      calm_then inputs zero (i.eval e) (λ v. found (parts v) (λ vs. turn_for_each i vs ss)) (eval_calm e)
      (λ v. calm_found inputs zero (parts v) (λ vs. turn_for_each i vs ss) (λ vs. for_each_calm vs ss))

  loop_calm : (o : Over) (ss : List CoreStmt) → Calm inputs zero (loop_over i o ss)
  unfolding loop_over
  loop_calm (over.UpTo a b) ss = numbers_calm (over.UpTo a b) ss
  loop_calm (over.Through a b) ss = numbers_calm (over.Through a b) ss
  loop_calm (over.Indices e) ss = numbers_calm (over.Indices e) ss
  loop_calm (over.List e) ss = for_list_calm e ss

  -- ---- statements

  local_calm : (e : Core) → Calm inputs zero (local_of i e)
  unfolding local_of
  local_calm e =
      calm_then inputs zero (i.eval e) (λ v. push v >> give Next) (eval_calm e)
      (λ v. calm_then inputs zero (push v) (λ x. give Next) (calm_push inputs zero v) (λ x. calm_give inputs zero Next))

  assignment_calm : (t : Target) (e : Core) → Calm inputs zero (assignment i t e)
  unfolding assignment
  assignment_calm t e =
      calm_then inputs zero (hops_from i [] t.hops) (λ hs. i.eval e >>= λ v. spot_of t.root hs >>= λ s. write_spot s v >>= λ x. give Next) (hops_calm inputs zero i r.terms run_calm t.hops [] (beyond_none _))
      (λ hs. calm_then inputs zero (i.eval e) (λ v. spot_of t.root hs >>= λ s. write_spot s v >>= λ x. give Next) (eval_calm e)
      (λ v. with_then inputs zero (spot_of t.root hs) (λ s. write_spot s v >>= λ x. give Next) (spot_calm inputs zero t.root hs (beyond_none _))
      (λ s b. calm_then inputs zero (write_spot s v) (λ x. give Next) (write_calm inputs zero s v b) (λ x. calm_give inputs zero Next))))

  update_spot_calm : (o : Operator) (s : Spot) (v : Value) → SpotBeyond inputs zero s → Calm inputs zero (update_spot i o s v)
  unfolding update_spot
  update_spot_calm o s v b =
      calm_then inputs zero (read_spot s) (λ old. answered (operator.operation o old v) >>= λ new. write_spot s new >>= λ x. give Next) (read_calm inputs zero s b)
      (λ old. calm_then inputs zero (answered (operator.operation o old v)) (λ new. write_spot s new >>= λ x. give Next) (calm_answered inputs zero (operator.operation o old v))
      (λ new. calm_then inputs zero (write_spot s new) (λ x. give Next) (write_calm inputs zero s new b) (λ x. calm_give inputs zero Next)))

  update_calm : (o : Operator) (t : Target) (e : Core) → Calm inputs zero (update i o t e)
  unfolding update
  update_calm o t e =
      calm_then inputs zero (hops_from i [] t.hops) (λ hs. i.eval e >>= λ v. spot_of t.root hs >>= λ s. update_spot i o s v) (hops_calm inputs zero i r.terms run_calm t.hops [] (beyond_none _))
      (λ hs. calm_then inputs zero (i.eval e) (λ v. spot_of t.root hs >>= λ s. update_spot i o s v) (eval_calm e)
      (λ v. with_then inputs zero (spot_of t.root hs) (λ s. update_spot i o s v) (spot_calm inputs zero t.root hs (beyond_none _)) (λ s b. update_spot_calm o s v b)))

  return_calm : (o : Option Core) → Calm inputs zero (return_at i o)
  return_calm None = calm_give inputs zero (Returned None)
  return_calm (Some e) = calm_then inputs zero (i.eval e) (λ v. give (Returned (Some v))) (eval_calm e) (λ v. calm_give inputs zero (Returned (Some v)))

  statement_calm : (s : StmtForm) → Calm inputs zero (exec_at i s)
  unfolding return_of called made_change
  statement_calm (CoreStmt-F.Local e) = local_calm e
  statement_calm (CoreStmt-F.Assign t e) = assignment_calm t e
  statement_calm (CoreStmt-F.Update o t e) = update_calm o t e
  statement_calm (CoreStmt-F.If as' last) = arms_calm as' last
  statement_calm (CoreStmt-F.Switch e cs) = selection_calm e cs
  statement_calm (CoreStmt-F.For o ss) = loop_calm o ss
  statement_calm (CoreStmt-F.While cs ss) = repetition_calm cs ss
  statement_calm (CoreStmt-F.Return o) = return_calm o
  statement_calm CoreStmt-F.Break = calm_give inputs zero Broke
  statement_calm CoreStmt-F.Continue = calm_give inputs zero Continued
  statement_calm (CoreStmt-F.Invoke x) = calm_then inputs zero (i.call x) (λ o. give Next) (r.call x) (λ o. calm_give inputs zero Next)
  statement_calm (CoreStmt-F.Change x) = calm_then inputs zero (i.change x) (λ o. give Next) (r.change x) (λ o. calm_give inputs zero Next)

  pub exec_calm : (s : CoreStmt) → Calm inputs zero (exec_form i s)
  unfolding exec_form
  exec_calm s = statement_calm (out-CoreStmt s)

-- ---- where this many forms may still be entered

module _ (inputs : List Input) (p : Program) where
  none_calm : {A : Type 0} (limit : ℕ) → Calm inputs limit {A = A} (spend >> trap Nested)
  none_calm limit = calm_spend inputs limit (trap Nested) (calm_trap inputs limit Nested)

  all_run : (room : ℕ) → Runs inputs (inner p room)
  unfolding means does spans calls changes
  all_run zero = record {
    terms = record { eval = λ e h. none_calm zero; span = λ o h. none_calm zero };
    exec = λ s. none_calm zero;
    call = λ x. none_calm zero;
    change = λ x. none_calm zero;
  }
  all_run (suc room) =
      let i = inner p room in
      let r = all_run room in
      let run = run_calm inputs i r in
      record {
        terms = record {
          eval = λ e h. calm_spend inputs zero (value_form i e) (value_form_calm inputs zero i r.terms run e h);
          span = λ o h. calm_spend inputs zero (span_form i o) (span_form_calm inputs zero i r.terms run o h);
        };
        exec = λ s. calm_spend inputs zero (exec_form i s) (exec_calm inputs i r s);
        call = λ x. calm_spend inputs zero (invoked i x) (invoked_calm inputs zero i r.terms run x (beyond_none _));
        change = λ x. calm_spend inputs zero (changed i x) (changed_calm inputs zero i r.terms run x (beyond_none _));
      }

  pub runs_calm : (room : ℕ) (code : Code) → Calm inputs zero (run_code (inner p room) code)
  runs_calm room = run_calm inputs (inner p room) (all_run room)

  -- Terms that alter no local before the limit ask for captured locals, and else do the same.
  pub terms_calm : (limit room : ℕ) → Calms inputs limit (inner p room)
  unfolding means spans
  terms_calm limit zero = record { eval = λ e h. none_calm limit; span = λ o h. none_calm limit }
  terms_calm limit (suc room) =
      let i = inner p room in
      let c = terms_calm limit room in
      record {
        eval = λ e h. calm_spend inputs limit (value_form i e) (value_form_calm inputs limit i c (runs_calm room) e h);
        span = λ o h. calm_spend inputs limit (span_form i o) (span_form_calm inputs limit i c (runs_calm room) o h);
      }
