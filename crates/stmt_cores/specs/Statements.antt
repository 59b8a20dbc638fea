-- What the rules of statements relate is well typed.
use Rattle.std.specs.Prelude.{◌≡◌, ℕ, zero, suc, Bool, true, false, List, [], ◌∷◌, ◌++◌, length, map, Option, Some, None}
use Rattle.std.proofs.Common.{refl, sym, ap, subst, ◌∙◌, arith}
use Rattle.value_calls.specs.declared.operators.Arithmetic.TheVariants as arithmetic
use Rattle.value_calls.specs.declared.operators.Operator.{Operator}
use Rattle.value_calls.specs.declared.operators.Operator.TheVariants as operator
use Rattle.sv_value.specs.declared.value.Value.TheVariants as value
use Rattle.sv_value.specs.declared.value.Value.TheViews as value_view
use Rattle.swift_ast.specs.declared.type_name.TypeName.{TypeName}
use Rattle.swift_ast.specs.declared.tree.ArgValue.TheOpen.{ExprForm-F, StmtForm-F, Condition-F}
use Rattle.swift_ast.specs.declared.tree.Arm.{Arm, out-Arm}
use Rattle.swift_ast.specs.declared.tree.AssignSign.{AssignSign}
use Rattle.swift_ast.specs.declared.tree.AssignSign.TheVariants as sign
use Rattle.swift_ast.specs.declared.tree.Binder.{Binder}
use Rattle.swift_ast.specs.declared.tree.Binder.TheVariants as binder
use Rattle.swift_ast.specs.declared.tree.Condition.{Condition, out-Condition}
use Rattle.swift_ast.specs.declared.tree.Expr.{Expr}
use Rattle.swift_ast.specs.declared.tree.Stmt.{Stmt, out-Stmt}
use Rattle.swift_ast.specs.declared.tree.StmtForm.{out-StmtForm}
use Rattle.swift_ast.specs.declared.tree.SwitchCase.{SwitchCase, out-SwitchCase}
use Rattle.swift_core.specs.Context as cores
use Rattle.swift_core.specs.Context.{with_local}
use Rattle.swift_core.specs.Operators.{binary_type}
use Rattle.swift_core.specs.Typing as typing
use Rattle.swift_core.specs.Typing.{Within, in_body, in_loop, Flow, StmtForm, Has, Covers, is_true_literal, is_forever, GivesValue, GivesResult}
use Rattle.swift_core.specs.declared.code.Code.{Code}
use Rattle.swift_core.specs.declared.code.CodeForm.TheVariants as code
use Rattle.swift_core.specs.declared.stmt.Condition.{Condition as CoreCondition}
use Rattle.swift_core.specs.declared.stmt.CoreStmt.{CoreStmt, out-CoreStmt}
use Rattle.swift_core.specs.declared.stmt.CoreStmt.TheVariants as stmt
use Rattle.swift_core.specs.declared.stmt.CoreStmt.TheViews as view
use Rattle.swift_core.specs.declared.stmt.StmtArm.{StmtArm, out-roll-StmtArm}
use Rattle.swift_core.specs.declared.stmt.StmtCase.{StmtCase, out-roll-StmtCase}
use Rattle.swift_core.specs.declared.term.ChangeCall.TheViews.{outs-Literal}
use Rattle.swift_core.specs.declared.term.Core.{Core, out-Core}
use Rattle.swift_core.specs.declared.term.Core.TheVariants as core
use Rattle.swift_core.specs.declared.ty.Ty.{Ty, out-Ty}
use Rattle.swift_core.specs.declared.ty.Ty.TheOpen.{Ty-F}
use Rattle.swift_core.specs.declared.ty.Ty.TheVariants as ty
use Rattle.swift_core.specs.declared.ty.Ty.TheViews as ty_view
use Rattle.swift_core.specs.Types.{inside_at}
use Rattle.type_base.specs.Claims.{Then, some_is}
use Rattle.type_base.specs.Context.{Context}
use Rattle.type_base.specs.Depth.{optional, inside-Optional}
use Rattle.type_base.specs.Promotion.{Stands, promoted, Wanted}
use Rattle.type_base.specs.Rules.{PartRule}
use Rattle.type_base.specs.Scopes.{entered}
use Rattle.type_base.specs.declared.scope.Local.{Local}
use Rattle.post_rules.specs.declared.chained.Effect.{Effect}
use Rattle.post_rules.specs.declared.chained.Effect.TheVariants as effect
use Rattle.expr_rules.specs.Levels.{form_rule, expr_rule, typed_to}
use Rattle.expr_rules.specs.Ops.{Form, form_of, Constant}
use Rattle.value_rules.specs.Values.{levels, Typed, TypedWanted}
use Rattle.case_rules.specs.Cases.{Label}
use Rattle.case_rules.specs.Conditions.{Checked, CheckedAll, Tested, condition_rule, ConditionsRule}
use Rattle.case_rules.specs.Layers.{StmtLayer, ConditionLayer}
use Rattle.case_rules.specs.Scopes.{local, with_any, with_locals}
use Rattle.stmt_rules.specs.declared.done.Arms.{Arms}
use Rattle.stmt_rules.specs.declared.done.Bodies.{Bodies}
use Rattle.stmt_rules.specs.declared.done.Body.{Body}
use Rattle.stmt_rules.specs.declared.done.Done.{Done}
use Rattle.stmt_rules.specs.declared.done.Exits.{Exits}
use Rattle.stmt_rules.specs.declared.done.Exits.TheVariants as exits
use Rattle.stmt_rules.specs.Rules.{kind_of, LocalOf, LocalAs, local_rule, Assigned, update_at, Updated, assign_rule, Statements, Braces, Guarded, arm, ArmsRule, IfOf, IfElse, if_rule, BodiesRule, stmt_case, stmt_cases, SwitchOf, ForOf, for_ever, WhileOf, Returned, return_rule, break_rule, continue_rule, effect_core, EffectOf, in_switch, StmtRule, stmt_rule, typed_stmt_to, deepest, TypedBlock, single, Ending, Single, body_rule, TypedBody}
use Rattle.expr_cores.specs.Contexts.{core_context, core_local, core_locals, Fits}
use Rattle.expr_cores.specs.Ops.{is_int, is_text, is_list}
use Rattle.post_cores.specs.States.{GoodEffect}
use Rattle.value_cores.specs.Values.{value_good, wanted_good, target_good, effect_good}
use Rattle.stmt_cores.specs.Cases.{subject_good}
use Rattle.stmt_cores.specs.Conditions.{local_of, one_more, fits_any, conditions_good, over_good}
use Rattle.stmt_cores.specs.Flows.{Agrees, none_agrees, returns_agrees, then_agrees, either_agrees, half_agrees, switch_agrees, loop_agrees}

-- where a statement stands, by the exits that it may hold
abbrev pub within_of : Exits → Within
within_of exits.Neither = in_body
within_of exits.Break = record { breaks = true; continues = false }
within_of exits.Both = in_loop

switch_within : (e : Exits) → within_of (in_switch e) ≡ typing.in_switch (within_of e)
switch_within exits.Neither = refl
switch_within exits.Break = refl
switch_within exits.Both = refl

-- ---- what is well typed

module _ (blocks : List Code) (result : Option Ty) (w : Within) (cx : Context) where
  abbrev pub IsStatement : Done → Type 0
  IsStatement d = (f : Flow) × typing.Statement (core_context cx blocks) result w (core_locals cx.locals) (out-CoreStmt d.core) (local_of d.declared) f × Agrees d.ends d.breaks f

  abbrev pub AreStatements : Body → Type 0
  AreStatements b = (f : Flow) × typing.Statements (core_context cx blocks) result w (core_locals cx.locals) b.core f × Agrees b.ends b.breaks f

  abbrev pub AreArms : Arms → Type 0
  AreArms a = (f : Flow) × typing.Arms (core_context cx blocks) result w (core_locals cx.locals) a.arms f × Agrees a.ends a.breaks f

  abbrev pub IsGuarded : List CoreCondition × Body → Type 0
  IsGuarded g = (inner : List cores.Local) × typing.Conditions (core_context cx blocks) (core_locals cx.locals) g.0 inner
      × ((f : Flow) × typing.Statements (core_context cx blocks) result w inner g.1.core f × Agrees g.1.ends g.1.breaks f)

  abbrev pub AreCases : List Label → Bodies → Type 0
  AreCases ls b = (f : Flow) × typing.Cases (core_context cx blocks) result w (core_locals cx.locals) (stmt_cases ls b.bodies) f × Agrees b.ends b.breaks f

  by_form : {l : StmtForm} {o : Option cores.Local} {f : Flow} (s : CoreStmt) → out-CoreStmt s ≡ l → typing.Statement (core_context cx blocks) result w (core_locals cx.locals) l o f
      → typing.Statement (core_context cx blocks) result w (core_locals cx.locals) (out-CoreStmt s) o f
  by_form {o = o} {f = f} s e h = subst (λ (m : StmtForm). typing.Statement (core_context cx blocks) result w (core_locals cx.locals) m o f) (sym e) h

-- a rule of statements relates well typed ones alone
abbrev pub GoodStmt : Option Ty → Within → PartRule Done → Type 0
GoodStmt result w R = (blocks : List Code) (cx : Context) (d : Done) → Fits cx.table → R cx d → IsStatement blocks result w cx d

-- ---- forms without statements inside

local_kind : (b : Binder) (t : Ty) → core_local t (kind_of b) ≡ cores.Local.valued t
local_kind binder.Let t = refl
local_kind binder.Var t = refl

declared : (blocks : List Code) (result : Option Ty) (w : Within) (cx : Context) (b : Binder) (c : Core) (t : Ty) → Has (core_context cx blocks) (core_locals cx.locals) (out-Core c) t
    → typing.Statement (core_context cx blocks) result w (core_locals cx.locals) (out-CoreStmt (stmt.Local c)) (Some (core_local t (kind_of b))) typing.goes_on
declared blocks result w cx b c t h =
    subst (λ (l : cores.Local). typing.Statement (core_context cx blocks) result w (core_locals cx.locals) (out-CoreStmt (stmt.Local c)) (Some l) typing.goes_on) (sym (local_kind b t))
    (by_form blocks result w cx (stmt.Local c) (view.outs-Local c) (typing.Statement.declare h))

local_good : (b : Binder) (name : List ℕ) (type_name : Option TypeName) (e : Expr) (result : Option Ty) (w : Within) → GoodStmt result w (local_rule b name type_name e)
unfolding LocalOf LocalAs
local_good b name None e result w blocks cx d fit (n, (x, a, q)) = subst (IsStatement blocks result w cx) (sym q) (typing.goes_on, declared blocks result w cx b x.0 x.1 (value_good e blocks cx None x fit a), none_agrees)
local_good b name (Some written) e result w blocks cx d fit (n, (t, i, (c, a, q))) =
    subst (IsStatement blocks result w cx) (sym q) (typing.goes_on, declared blocks result w cx b c t (wanted_good e t blocks cx c fit a), none_agrees)

update_type : (s : AssignSign) (t : Ty) (layer : Ty-F Ty) (op : Operator) → out-Ty t ≡ layer → update_at s layer ≡ Some op → binary_type op (out-Ty t) ≡ Some t
update_type sign.Plus t Ty-F.Int op e h = subst (λ (o : Operator). binary_type o (out-Ty t) ≡ Some t) (some_is _ op h) (ap (binary_type (operator.Compute arithmetic.Plus)) e ∙ ap Some (sym (is_int t e)))
update_type sign.Plus t Ty-F.Text op e h = subst (λ (o : Operator). binary_type o (out-Ty t) ≡ Some t) (some_is _ op h) (ap (binary_type operator.JoinTexts) e ∙ ap Some (sym (is_text t e)))
update_type sign.Plus t (Ty-F.List u) op e h = subst (λ (o : Operator). binary_type o (out-Ty t) ≡ Some t) (some_is _ op h) (ap (binary_type operator.JoinLists) e ∙ ap Some (sym (is_list t u e)))
update_type sign.Minus t Ty-F.Int op e h = subst (λ (o : Operator). binary_type o (out-Ty t) ≡ Some t) (some_is _ op h) (ap (binary_type (operator.Compute arithmetic.Minus)) e ∙ ap Some (sym (is_int t e)))
update_type sign.Times t Ty-F.Int op e h = subst (λ (o : Operator). binary_type o (out-Ty t) ≡ Some t) (some_is _ op h) (ap (binary_type (operator.Compute arithmetic.Times)) e ∙ ap Some (sym (is_int t e)))
update_type sign.Divide t Ty-F.Int op e h = subst (λ (o : Operator). binary_type o (out-Ty t) ≡ Some t) (some_is _ op h) (ap (binary_type (operator.Compute arithmetic.Divide)) e ∙ ap Some (sym (is_int t e)))
update_type sign.Remainder t Ty-F.Int op e h = subst (λ (o : Operator). binary_type o (out-Ty t) ≡ Some t) (some_is _ op h) (ap (binary_type (operator.Compute arithmetic.Remainder)) e ∙ ap Some (sym (is_int t e)))
update_type s t layer op e h = cc

assigned_good : (a e : Expr) (result : Option Ty) (w : Within) → GoodStmt result w (Assigned a e)
unfolding Assigned
assigned_good a e result w blocks cx d fit (p, g, (c, h, q)) =
    subst (IsStatement blocks result w cx) (sym q)
    (typing.goes_on, by_form blocks result w cx _ (view.outs-Assign p.0 c) (typing.Statement.assign (target_good a blocks cx p fit g) (wanted_good e p.1 blocks cx c fit h)), none_agrees)

updated_good : (a : Expr) (s : AssignSign) (e : Expr) (result : Option Ty) (w : Within) → GoodStmt result w (Updated a s e)
unfolding Updated
updated_good a s e result w blocks cx d fit (p, g, (op, u, (c, h, q))) =
    subst (IsStatement blocks result w cx) (sym q) (
      typing.goes_on,
      by_form blocks result w cx _ (view.outs-Update op p.0 c)
          (typing.Statement.update (target_good a blocks cx p fit g) (wanted_good e p.1 blocks cx c fit h) (update_type s p.1 (out-Ty p.1) op refl u)),
      none_agrees,
    )

assign_good : (a : Expr) (s : AssignSign) (e : Expr) (result : Option Ty) (w : Within) → GoodStmt result w (assign_rule a s e)
assign_good a sign.Set e result w = assigned_good a e result w
assign_good a sign.Plus e result w = updated_good a sign.Plus e result w
assign_good a sign.Minus e result w = updated_good a sign.Minus e result w
assign_good a sign.Times e result w = updated_good a sign.Times e result w
assign_good a sign.Divide e result w = updated_good a sign.Divide e result w
assign_good a sign.Remainder e result w = updated_good a sign.Remainder e result w

return_good : (result : Option Ty) (e : Option Expr) (w : Within) → GoodStmt result w (return_rule result e)
unfolding Returned
return_good result (Some e) w blocks cx d fit (t, r, (c, h, q)) =
    subst (IsStatement blocks result w cx) (sym q) (typing.returns, by_form blocks result w cx _ (view.outs-Return (Some c)) (typing.Statement.give r (wanted_good e t blocks cx c fit h)), returns_agrees)
return_good (Some t) None w blocks cx d fit h = absurd h
return_good None None w blocks cx d fit q = subst (IsStatement blocks None w cx) (sym q) (typing.returns, by_form blocks None w cx _ (view.outs-Return None) (typing.Statement.leave refl), returns_agrees)

break_flow : Flow
break_flow = record { ends = false; breaks = true }

broken : (result : Option Ty) (w : Within) → w.breaks ≡ true → (blocks : List Code) (cx : Context) → IsStatement blocks result w cx (record { core = stmt.Break; declared = None; ends = false; breaks = true })
broken result w b blocks cx = (record { ends = false; breaks = true }, by_form blocks result w cx _ view.outs-Break (typing.Statement.break b), record { to_end = λ h. h; same = refl })

break_good : (result : Option Ty) (e : Exits) → GoodStmt result (within_of e) (break_rule e)
break_good result exits.Neither blocks cx d fit h = absurd h
break_good result exits.Break blocks cx d fit q = subst (IsStatement blocks result (within_of exits.Break) cx) (sym q) (broken result (within_of exits.Break) refl blocks cx)
break_good result exits.Both blocks cx d fit q = subst (IsStatement blocks result (within_of exits.Both) cx) (sym q) (broken result (within_of exits.Both) refl blocks cx)

continue_good : (result : Option Ty) (e : Exits) → GoodStmt result (within_of e) (continue_rule e)
continue_good result exits.Neither blocks cx d fit h = absurd h
continue_good result exits.Break blocks cx d fit h = absurd h
continue_good result exits.Both blocks cx d fit q =
    subst (IsStatement blocks result in_loop cx) (sym q) (typing.goes_on, by_form blocks result in_loop cx _ view.outs-Continue (typing.Statement.continue refl), none_agrees)

effect_is : (blocks : List Code) (result : Option Ty) (w : Within) (cx : Context) (f : Effect) → GoodEffect (core_context cx blocks) (core_locals cx.locals) f
    → typing.Statement (core_context cx blocks) result w (core_locals cx.locals) (out-CoreStmt (effect_core f)) None typing.goes_on
effect_is blocks result w cx (effect.Change c) g = by_form blocks result w cx _ (view.outs-Change c) (typing.Statement.alter g.1)
effect_is blocks result w cx (effect.Invoke i) g = by_form blocks result w cx _ (view.outs-Invoke i) (typing.Statement.call g)

effect_of_good : (e : Expr) (result : Option Ty) (w : Within) → GoodStmt result w (EffectOf e)
unfolding EffectOf
effect_of_good e result w blocks cx d fit (f, h, q) =
    subst (IsStatement blocks result w cx) (sym q) (typing.goes_on, effect_is blocks result w cx f (effect_good e blocks cx f fit h), none_agrees)

-- ---- lists of statements, branches and loops

module _ (k : Stmt → PartRule Done) (result : Option Ty) (w : Within) (good : (s : Stmt) → GoodStmt result w (k s)) (blocks : List Code) where
  after_it : (cx : Context) (o : Option Local) (cs : List CoreStmt) (f : Flow)
      → typing.Statements (core_context (with_any cx o) blocks) result w (core_locals (with_any cx o).locals) cs f
      → typing.Statements (core_context cx blocks) result w (with_local (core_locals cx.locals) (local_of o)) cs f
  after_it cx None cs f h = h
  after_it cx (Some l) cs f h = subst (λ (ls : List cores.Local). typing.Statements (core_context cx blocks) result w ls cs f) (one_more cx.locals l) h

  pub statements_good : (ss : List Stmt) (cx : Context) (b : Body) → Fits cx.table → Statements k ss cx b → AreStatements blocks result w cx b
  unfolding Statements
  statements_good [] cx b fit e = subst (AreStatements blocks result w cx) (sym e) (typing.goes_on, typing.Statements.no_statements, none_agrees)
  statements_good (s ∷ ss) cx b fit (a, h, (rest, t, e)) =
      let one = good s blocks cx a fit h in
      let more = statements_good ss (with_any cx a.declared) rest (fits_any cx a.declared fit) t in
      subst (AreStatements blocks result w cx) (sym e)
      (typing.then_flow one.0 more.0, typing.Statements.more_statements one.1 (after_it cx a.declared rest.core more.0 more.1), then_agrees one.2 more.2)

  braces_good : (ss : List Stmt) (cx : Context) (b : Body) → Fits cx.table → Braces k ss cx b → AreStatements blocks result w cx b
  unfolding Braces
  braces_good ss cx b fit h = statements_good ss (entered cx) b fit h

  guarded_good : (conditions : List Condition) (ss : List Stmt) (cx : Context) (g : List CoreCondition × Body) → Fits cx.table → Guarded k conditions ss cx g → IsGuarded blocks result w cx g
  unfolding Guarded
  guarded_good conditions ss cx g fit (c, h, (b, t, e)) =
      subst (IsGuarded blocks result w cx) (sym e)
      (core_locals (cx.locals ++ c.1), conditions_good blocks conditions (entered cx) c fit h, braces_good ss (with_locals (entered cx) c.1) b fit t)

  guards : (cx : Context) (g : List CoreCondition × Body) (inner : List cores.Local) (f : Flow) (rest : List StmtArm) (h : Flow)
      → typing.Conditions (core_context cx blocks) (core_locals cx.locals) g.0 inner → typing.Statements (core_context cx blocks) result w inner g.1.core f
      → typing.Arms (core_context cx blocks) result w (core_locals cx.locals) rest h
      → typing.Arms (core_context cx blocks) result w (core_locals cx.locals) (arm g.0 g.1.core ∷ rest) (typing.either_flow f h)
  guards cx g inner f rest h c s r =
      let o = out-roll-StmtArm (record { conditions = g.0; body = g.1.core }) in
      typing.Arms.more_arms {a = arm g.0 g.1.core}
      (subst (λ (x : List CoreCondition). typing.Conditions (core_context cx blocks) (core_locals cx.locals) x inner) (ap (λ x. x.conditions) (sym o)) c)
      (subst (λ (x : List CoreStmt). typing.Statements (core_context cx blocks) result w inner x f) (ap (λ x. x.body) (sym o)) s) r

  arms_good : (list : List Arm) (cx : Context) (r : Arms) → Fits cx.table → ArmsRule k list cx r → AreArms blocks result w cx r
  unfolding ArmsRule
  arms_good [] cx r fit e = subst (AreArms blocks result w cx) (sym e) (typing.returns, typing.Arms.no_arms, returns_agrees)
  arms_good (a ∷ list) cx r fit (g, h, (rest, t, e)) =
      let one = guarded_good (out-Arm a).conditions (out-Arm a).body cx g fit h in
      let more = arms_good list cx rest fit t in
      subst (AreArms blocks result w cx) (sym e)
      (typing.either_flow one.2.0 more.0, guards cx g one.0 one.2.0 rest.arms more.0 one.1 one.2.1 more.1, either_agrees one.2.2 more.2)

  if_good : (list : List Arm) (last : Option (List Stmt)) (cx : Context) (d : Done) → Fits cx.table → if_rule k list last cx d → IsStatement blocks result w cx d
  unfolding IfOf IfElse
  if_good list None cx d fit (a, h, e) =
      let g = arms_good list cx a fit h in
      subst (IsStatement blocks result w cx) (sym e)
      (typing.either_flow g.0 typing.goes_on, by_form blocks result w cx _ (view.outs-If a.arms None) (typing.Statement.decide g.1), half_agrees g.2)
  if_good list (Some ss) cx d fit (a, h, (b, t, e)) =
      let g = arms_good list cx a fit h in
      let l = braces_good ss cx b fit t in
      subst (IsStatement blocks result w cx) (sym e)
      (typing.either_flow g.0 l.0, by_form blocks result w cx _ (view.outs-If a.arms (Some b.core)) (typing.Statement.decide_else g.1 l.1), either_agrees g.2 l.2)

  case_more : (cx : Context) (l : Label) (b : List CoreStmt) (rest : List StmtCase) (f g : Flow) → typing.Statements (core_context cx blocks) result w (core_locals cx.locals) b f
      → typing.Cases (core_context cx blocks) result w (core_locals cx.locals) rest g → typing.Cases (core_context cx blocks) result w (core_locals cx.locals) (stmt_case l b ∷ rest) (typing.either_flow f g)
  case_more cx l b rest f g s r =
      let o = out-roll-StmtCase (record { patterns = l; body = b }) in
      typing.Cases.more_cases {c = stmt_case l b} (subst (λ (x : List CoreStmt). typing.Statements (core_context cx blocks) result w (core_locals cx.locals) x f) (ap (λ x. x.body) (sym o)) s) r

  cases_good : (cs : List SwitchCase) (ls : List Label) (cx : Context) (r : Bodies) → length ls ≡ length cs → Fits cx.table → BodiesRule k cs cx r → AreCases blocks result w cx ls r
  unfolding BodiesRule
  cases_good [] [] cx r n fit e = subst (AreCases blocks result w cx []) (sym e) (typing.returns, typing.Cases.no_cases, returns_agrees)
  cases_good [] (l ∷ ls) cx r n fit e = absurd (omega arith)
  cases_good (c ∷ cs) [] cx r n fit e = absurd (omega arith)
  cases_good (c ∷ cs) (l ∷ ls) cx r n fit (b, h, (rest, t, e)) =
      let one = braces_good (out-SwitchCase c).body cx b fit h in
      let more = cases_good cs ls cx rest (omega arith) fit t in
      subst (AreCases blocks result w cx (l ∷ ls)) (sym e)
      (typing.either_flow one.0 more.0, case_more cx l b.core (stmt_cases ls rest.bodies) one.0 more.0 one.1 more.1, either_agrees one.2 more.2)

bodies_length : (k : Stmt → PartRule Done) (cs : List SwitchCase) (cx : Context) (r : Bodies) → BodiesRule k cs cx r → length r.bodies ≡ length cs
unfolding BodiesRule
bodies_length k [] cx r e = ap (λ (b : Bodies). length b.bodies) e
bodies_length k (c ∷ cs) cx r (b, h, (rest, t, e)) = ap (λ (x : Bodies). length x.bodies) e ∙ ap suc (bodies_length k cs cx rest t)

patterns_stay : (ls : List Label) (bs : List (List CoreStmt)) → length ls ≡ length bs → map (λ (c : StmtCase). c.patterns) (stmt_cases ls bs) ≡ ls
patterns_stay [] bs n = refl
patterns_stay (l ∷ ls) [] n = absurd (omega arith)
patterns_stay (l ∷ ls) (b ∷ bs) n =
    let o = ap (λ x. x.patterns) (out-roll-StmtCase (record { patterns = l; body = b })) in
    let rest = patterns_stay ls bs (omega arith) in
    λ i. o i ∷ rest i

-- the statements of a `switch` stand where a `break` leaves it
switch_good : (k : Stmt → PartRule Done) (result : Option Ty) (e' : Exits) (good : (s : Stmt) → GoodStmt result (within_of (in_switch e')) (k s)) (e : Expr) (cs : List SwitchCase)
    → GoodStmt result (within_of e') (SwitchOf k e cs)
unfolding SwitchOf
switch_good k result e' good e cs blocks cx d fit (h, s, (b, t, q)) =
    let head = subject_good e cs blocks cx h fit s in
    let cases = cases_good k result (within_of (in_switch e')) good blocks cs h.1 cx b head.2.1 fit t in
    let same = patterns_stay h.1 b.bodies (head.2.1 ∙ sym (bodies_length k cs cx b t)) in
    subst (IsStatement blocks result (within_of e') cx) (sym q) (
      typing.switch_flow cases.0,
      by_form blocks result (within_of e') cx _ (view.outs-Switch h.0 (stmt_cases h.1 b.bodies))
          (typing.Statement.switch head.1 (subst (λ (ps : List Label). Covers cx.table head.0 ps) (sym same) head.2.0)
          (subst (λ (v : Within). typing.Cases (core_context cx blocks) result v (core_locals cx.locals) (stmt_cases h.1 b.bodies) cases.0) (switch_within e') cases.1)),
      switch_agrees cases.2,
    )

for_good : (k : Stmt → PartRule Done) (result : Option Ty) (w : Within) (good : (s : Stmt) → GoodStmt result in_loop (k s)) (name : List ℕ) (e : Expr) (ss : List Stmt) → GoodStmt result w (ForOf k name e ss)
unfolding ForOf Braces
for_good k result w good name e ss blocks cx d fit (o, h, (b, t, q)) =
    let l = local name o.1 (kind_of binder.Let) in
    let inner = statements_good k result in_loop good blocks ss (entered (record cx { locals = cx.locals ++ l ∷ [] })) b fit t in
    subst (IsStatement blocks result w cx) (sym q) (
      typing.goes_on,
      by_form blocks result w cx _ (view.outs-For o.0 b.core)
          (typing.Statement.for_each (over_good blocks e cx o fit h)
          (subst (λ (ls : List cores.Local). typing.Statements (core_context cx blocks) result in_loop ls b.core inner.0) (one_more cx.locals l) inner.1)),
      none_agrees,
    )

-- ---- `while true`

plain_type : (n : ℕ) (t : Ty) → ty.Bool ≡ optional n t → n ≡ 0
unfolding optional
plain_type zero t e = refl
plain_type (suc n) t e =
    let inside = inside-Optional (optional n t) in
    let none = ap inside_at ty_view.outs-Bool in
    let moved = ap (λ (u : Ty). inside_at (out-Ty u)) e in
    cc

constant_true : (n : ℕ) (e : Expr) (cx : Context) (want : Option Ty) (x : Core × Ty) → form_of e ≡ ExprForm-F.True → typed_to n e cx want x → x ≡ (core.Literal (value.Bool true), ty.Bool)
unfolding typed_to expr_rule Constant
constant_true zero e cx want x is h = absurd h
constant_true (suc n) e cx want x is h = subst (λ (F : Form). form_rule (typed_to n) F cx want x) is h.0

stands_true : (x : Core × Ty) (c : Core) → x ≡ (core.Literal (value.Bool true), ty.Bool) → Stands x ty.Bool c → is_true_literal (out-Core c) ≡ true
unfolding Stands promoted
stands_true x c e (n, t, p) =
    let none = plain_type n x.1 t in
    let same : c ≡ core.Literal (value.Bool true) = p ∙ ap (λ (m : ℕ). promoted m x.0) none ∙ ap (λ (y : Core × Ty). y.0) e in
    ap is_true_literal (ap out-Core same ∙ outs-Literal (value.Bool true)) ∙ ap typing.is_true (value_view.outs-Bool true)

wanted_true : (e : Expr) (cx : Context) (c : Core) → form_of e ≡ ExprForm-F.True → TypedWanted e ty.Bool cx c → is_true_literal (out-Core c) ≡ true
unfolding TypedWanted Wanted Then Typed
wanted_true e cx c is (x, a, s) = stands_true x c (constant_true levels e cx (Some ty.Bool) x is a) s

abbrev is_true_form : Form → Bool
is_true_form F = elim F [ ExprForm-F.True ↦ true | _ ↦ false ]

form_true : (F : Form) → is_true_form F ≡ true → F ≡ ExprForm-F.True
form_true ExprForm-F.True e = refl
form_true _ e = cc

abbrev truth_at : ConditionLayer → Bool
truth_at c = elim c [ Condition-F.Condition::Expr e ↦ is_true_form (form_of e) | Condition-F.Let w value ↦ false ]

test_true : (c : ConditionLayer) (cx : Context) (x : Checked) → condition_rule c cx x → truth_at c ≡ true → is_forever (x.0 ∷ []) ≡ true
unfolding Tested
test_true (Condition-F.Condition::Expr e) cx x (c, w, q) t =
    subst (λ (y : Checked). is_forever (y.0 ∷ []) ≡ true) (sym q) (wanted_true e cx c (form_true (form_of e) t) w)
test_true (Condition-F.Let w value) cx x h t = cc

-- where the one condition is the word `true`, so is its core
forever_stays : (conditions : List Condition) (cx : Context) (r : CheckedAll) → ConditionsRule conditions cx r → for_ever conditions ≡ true → is_forever r.0 ≡ true
unfolding ConditionsRule
forever_stays [] cx r h e = cc
forever_stays (c ∷ []) cx r (x, a, (rest, b, q)) e =
    ap (λ (y : CheckedAll). is_forever y.0) q ∙ ap (λ (y : CheckedAll). is_forever (x.0 ∷ y.0)) b ∙ test_true (out-Condition c) cx x a e
forever_stays (c ∷ d ∷ cs) cx r h e = cc

guard_stays : (k : Stmt → PartRule Done) (conditions : List Condition) (ss : List Stmt) (cx : Context) (g : List CoreCondition × Body) → Guarded k conditions ss cx g → for_ever conditions ≡ true → is_forever g.0 ≡ true
unfolding Guarded
guard_stays k conditions ss cx g (c, h, (b, t, q)) e = ap (λ (y : List CoreCondition × Body). is_forever y.0) q ∙ forever_stays conditions (entered cx) c h e

while_good : (k : Stmt → PartRule Done) (result : Option Ty) (w : Within) (good : (s : Stmt) → GoodStmt result in_loop (k s)) (conditions : List Condition) (ss : List Stmt) → GoodStmt result w (WhileOf k conditions ss)
unfolding WhileOf
while_good k result w good conditions ss blocks cx d fit (g, h, q) =
    let inner = guarded_good k result in_loop good blocks conditions ss cx g fit h in
    subst (IsStatement blocks result w cx) (sym q) (
      typing.loop_flow (is_forever g.0) inner.2.0,
      by_form blocks result w cx _ (view.outs-While g.0 g.1.core) (typing.Statement.while inner.1 inner.2.1),
      loop_agrees (guard_stays k conditions ss cx g h) inner.2.2,
    )

-- ---- all forms

stmt_good : (k : Stmt → StmtRule) → ((s : Stmt) (result : Option Ty) (e : Exits) → GoodStmt result (within_of e) (k s result e)) → (F : StmtLayer) (result : Option Ty) (e : Exits) → GoodStmt result (within_of e) (stmt_rule k F result e)
stmt_good k good (StmtForm-F.Local b w name e) result e' = local_good b w name e result (within_of e')
stmt_good k good (StmtForm-F.Assign a s e) result e' = assign_good a s e result (within_of e')
stmt_good k good (StmtForm-F.If list last) result e' = λ blocks cx d fit h. if_good (λ s. k s result e') result (within_of e') (λ s. good s result e') blocks list last cx d fit h
stmt_good k good (StmtForm-F.Switch e cs) result e' = switch_good (λ s. k s result (in_switch e')) result e' (λ s. good s result (in_switch e')) e cs
stmt_good k good (StmtForm-F.For w e ss) result e' = for_good (λ s. k s result exits.Both) result (within_of e') (λ s. good s result exits.Both) w e ss
stmt_good k good (StmtForm-F.While conditions ss) result e' = while_good (λ s. k s result exits.Both) result (within_of e') (λ s. good s result exits.Both) conditions ss
stmt_good k good (StmtForm-F.Return e) result e' = return_good result e (within_of e')
stmt_good k good StmtForm-F.Break result e' = break_good result e'
stmt_good k good StmtForm-F.Continue result e' = continue_good result e'
stmt_good k good (StmtForm-F.StmtForm::Expr e) result e' = effect_of_good e result (within_of e')

typed_good : (n : ℕ) (s : Stmt) (result : Option Ty) (e : Exits) → GoodStmt result (within_of e) (typed_stmt_to n s result e)
unfolding typed_stmt_to
typed_good zero s result e blocks cx d fit h = absurd h
typed_good (suc n) s result e blocks cx d fit h = stmt_good (typed_stmt_to n) (typed_good n) (out-StmtForm (out-Stmt s).form) result e blocks cx d fit h

-- the statements of an action block have no value
abbrev pub BlocksTyped : Type 0
BlocksTyped = (ss : List Stmt) (blocks : List Code) (cx : Context) (r : List CoreStmt) → Fits cx.table → TypedBlock ss cx r
    → (f : Flow) × typing.Statements (core_context cx blocks) None in_body (core_locals cx.locals) r f

pub block_good : BlocksTyped
unfolding TypedBlock
block_good ss blocks cx r fit (b, h, e) =
    let g = braces_good (λ s. typed_stmt_to deepest s None exits.Neither) None in_body (λ s. typed_good deepest s None exits.Neither) blocks ss cx b fit h in
    subst (λ (x : List CoreStmt). (f : Flow) × typing.Statements (core_context cx blocks) None in_body (core_locals cx.locals) x f) (sym e) (g.0, g.1)

-- the statements of a function or a computed property give its result
abbrev pub BodiesTyped : Type 0
BodiesTyped = (result : Option Ty) (ss : List Stmt) (blocks : List Code) (cx : Context) (r : List CoreStmt) → Fits cx.table → TypedBody result ss cx r
    → GivesResult (core_context cx blocks) (core_locals cx.locals) (code.Statements r) result

ending_good : (result : Option Ty) (ss : List Stmt) (blocks : List Code) (cx : Context) (r : List CoreStmt) → Fits cx.table → Ending result ss cx r
    → GivesResult (core_context cx blocks) (core_locals cx.locals) (code.Statements r) result
unfolding Ending
ending_good None ss blocks cx r fit (b, h, (n, e)) =
    let g = braces_good (λ s. typed_stmt_to deepest s None exits.Neither) None in_body (λ s. typed_good deepest s None exits.Neither) blocks ss cx b fit h in
    subst (λ (x : List CoreStmt). GivesResult (core_context cx blocks) (core_locals cx.locals) (code.Statements x) None) (sym e) (GivesResult.without_value g.1)
ending_good (Some t) ss blocks cx r fit (b, h, (n, e)) =
    let g = braces_good (λ s. typed_stmt_to deepest s (Some t) exits.Neither) (Some t) in_body (λ s. typed_good deepest s (Some t) exits.Neither) blocks ss cx b fit h in
    subst (λ (x : List CoreStmt). GivesResult (core_context cx blocks) (core_locals cx.locals) (code.Statements x) (Some t)) (sym e)
    (GivesResult.with_value (GivesValue.by_statements g.1 (g.2.to_end n)))

single_good : (t : Ty) (e : Expr) (blocks : List Code) (cx : Context) (r : List CoreStmt) → Fits cx.table → Single t e cx r
    → GivesResult (core_context cx blocks) (core_locals cx.locals) (code.Statements r) (Some t)
unfolding Single
single_good t e blocks cx r fit (c, w, q) =
    subst (λ (x : List CoreStmt). GivesResult (core_context cx blocks) (core_locals cx.locals) (code.Statements x) (Some t)) (sym q)
    (GivesResult.with_value (GivesValue.by_statements
    (typing.Statements.more_statements (by_form blocks (Some t) in_body cx _ (view.outs-Return (Some c)) (typing.Statement.give refl (wanted_good e t blocks cx c fit w))) typing.Statements.no_statements) refl))

abbrev expr_at : Ty → StmtLayer → Option (Ty × Expr)
expr_at t F = elim F [ StmtForm-F.StmtForm::Expr e ↦ Some (t, e) | _ ↦ None ]

one_type : (t : Ty) (F : StmtLayer) (x : Ty × Expr) → expr_at t F ≡ Some x → x.0 ≡ t
one_type t (StmtForm-F.StmtForm::Expr e) x h = ap (λ (y : Ty × Expr). y.0) (sym (some_is (t, e) x h))
one_type t _ x h = cc

single_type : (result : Option Ty) (ss : List Stmt) (x : Ty × Expr) → single result ss ≡ Some x → result ≡ Some x.0
single_type (Some t) (s ∷ []) x h = ap Some (sym (one_type t (out-StmtForm (out-Stmt s).form) x h))
single_type None ss x h = cc
single_type (Some t) [] x h = cc
single_type (Some t) (s ∷ u ∷ ss) x h = cc

body_at : (result : Option Ty) (ss : List Stmt) (o : Option (Ty × Expr)) → single result ss ≡ o → (blocks : List Code) (cx : Context) (r : List CoreStmt) → Fits cx.table → body_rule result ss o cx r
    → GivesResult (core_context cx blocks) (core_locals cx.locals) (code.Statements r) result
body_at result ss (Some x) e blocks cx r fit h =
    subst (λ (o : Option Ty). GivesResult (core_context cx blocks) (core_locals cx.locals) (code.Statements r) o) (sym (single_type result ss x e)) (single_good x.0 x.1 blocks cx r fit h)
body_at result ss None e blocks cx r fit h = ending_good result ss blocks cx r fit h

pub body_good : BodiesTyped
unfolding TypedBody
body_good result ss blocks cx r fit h = body_at result ss (single result ss) refl blocks cx r fit h
