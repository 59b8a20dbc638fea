-- The searches of the rules of statements.
use Rattle.std.specs.Prelude.{◌≡◌, ℕ, zero, suc, Bool, true, false, not, ◌&&◌, ◌||◌, List, [], ◌∷◌, ◌++◌, Option, Some, None, is_some}
use Rattle.swift_ast.specs.declared.type_name.TypeName.{TypeName}
use Rattle.swift_ast.specs.declared.tree.AssignSign.{AssignSign}
use Rattle.swift_ast.specs.declared.tree.AssignSign.TheVariants as sign
use Rattle.swift_ast.specs.declared.tree.Binder.{Binder}
use Rattle.swift_ast.specs.declared.tree.Binder.TheVariants as binder
use Rattle.swift_ast.specs.declared.tree.Arm.{Arm, out-Arm}
use Rattle.swift_ast.specs.declared.tree.Condition.{Condition, out-Condition}
use Rattle.swift_ast.specs.declared.tree.Expr.{Expr, out-Expr}
use Rattle.swift_ast.specs.declared.tree.ExprForm.{out-ExprForm}
use Rattle.swift_ast.specs.declared.tree.Stmt.{Stmt, out-Stmt}
use Rattle.swift_ast.specs.declared.tree.StmtForm.{out-StmtForm}
use Rattle.swift_ast.specs.declared.tree.SwitchCase.{SwitchCase, out-SwitchCase}
use Rattle.swift_ast.specs.declared.tree.ArgValue.TheOpen.{ExprForm-F, StmtForm-F, Condition-F}
use Rattle.swift_core.specs.declared.ty.Ty.{Ty, out-Ty}
use Rattle.swift_core.specs.declared.ty.Ty.TheOpen.{Ty-F}
use Rattle.swift_core.specs.declared.term.Core.{Core}
use Rattle.swift_core.specs.declared.term.Target.{Target}
use Rattle.swift_core.specs.declared.stmt.CoreStmt.{CoreStmt}
use Rattle.swift_core.specs.declared.stmt.CoreStmt.TheVariants as stmt
use Rattle.swift_core.specs.declared.stmt.StmtArm.{StmtArm, roll-StmtArm}
use Rattle.swift_core.specs.declared.stmt.StmtCase.{StmtCase, roll-StmtCase}
use Rattle.swift_core.specs.declared.stmt.Condition.{Condition as CoreCondition}
use Rattle.swift_core.specs.declared.stmt.Over.{Over}
use Rattle.value_calls.specs.declared.operators.Operator.{Operator}
use Rattle.value_calls.specs.declared.operators.Operator.TheVariants as operator
use Rattle.value_calls.specs.declared.operators.Arithmetic.TheVariants as arithmetic
use Rattle.type_base.specs.declared.scope.Local.{Local}
use Rattle.type_base.specs.declared.scope.LocalKind.{LocalKind}
use Rattle.type_base.specs.declared.scope.LocalKind.TheVariants as kind
use Rattle.type_base.specs.Context.{Context}
use Rattle.type_base.specs.Claims.{and_then, when}
use Rattle.type_base.specs.Names.{is_new}
use Rattle.type_base.specs.Rules.{FindPart}
use Rattle.type_base.specs.Scopes.{with_local, entered}
use Rattle.type_base.specs.TypeNames.{type_of}
use Rattle.post_rules.specs.declared.chained.Effect.{Effect}
use Rattle.post_rules.specs.declared.chained.Effect.TheVariants as effect
use Rattle.value_rules.specs.Values.{infer, infer_wanted, infer_target, infer_effect}
use Rattle.case_rules.specs.Cases.{Label, find_subject}
use Rattle.case_rules.specs.Conditions.{CheckedAll, find_conditions}
use Rattle.case_rules.specs.Layers.{StmtLayer}
use Rattle.case_rules.specs.Overs.{Gone, find_over}
use Rattle.case_rules.specs.Scopes.{local, with_any, with_locals}
use Rattle.stmt_rules.specs.declared.done.Exits.{Exits}
use Rattle.stmt_rules.specs.declared.done.Exits.TheVariants as exits
use Rattle.stmt_rules.specs.declared.done.Done.{Done}
use Rattle.stmt_rules.specs.declared.done.Body.{Body}
use Rattle.stmt_rules.specs.declared.done.Arms.{Arms}
use Rattle.stmt_rules.specs.declared.done.Bodies.{Bodies}
use Rattle.stmt_rules.specs.Rules.{done, plain, body, kind_of, update_at, arms, arm, bodies, stmt_case, stmt_cases, for_ever, effect_core, in_switch, deepest, single}

abbrev pub FindStmt : Type 0
FindStmt = Option Ty → Exits → FindPart Done

-- ---- locals and assignments

unfoldable pub local_of : Binder → List ℕ → Expr → FindPart Done
local_of b w e cx = when (is_new w cx) (and_then (infer e cx None) (λ x. Some (done (stmt.Local x.0) (Some (local w x.1 (kind_of b))) false false)))

unfoldable pub local_as : Binder → List ℕ → TypeName → Expr → FindPart Done
local_as b w name e cx =
    when (is_new w cx) (
    and_then (type_of cx.table name) (λ t.
    and_then (infer_wanted e t cx) (λ c.
    Some (done (stmt.Local c) (Some (local w t (kind_of b))) false false))))

abbrev pub local_at : Binder → List ℕ → Option TypeName → Expr → FindPart Done
local_at b w None e = local_of b w e
local_at b w (Some name) e = local_as b w name e

unfoldable pub assigned : Expr → Expr → FindPart Done
assigned a e cx = and_then (infer_target a cx) (λ p. and_then (infer_wanted e p.1 cx) (λ c. Some (plain (stmt.Assign p.0 c))))

unfoldable pub updated : Expr → AssignSign → Expr → FindPart Done
updated a s e cx =
    and_then (infer_target a cx) (λ p.
    and_then (update_at s (out-Ty p.1)) (λ op.
    and_then (infer_wanted e p.1 cx) (λ c.
    Some (plain (stmt.Update op p.0 c)))))

abbrev pub assign_at : Expr → AssignSign → Expr → FindPart Done
assign_at a sign.Set e = assigned a e
assign_at a s e = updated a s e

-- ---- lists of statements

unfoldable pub statements : (Stmt → FindPart Done) → List Stmt → FindPart Body
statements f [] cx = Some (body [] false false)
statements f (s ∷ ss) cx =
    and_then (f s cx) (λ a.
    and_then (statements f ss (with_any cx a.declared)) (λ b.
    Some (body (a.core ∷ b.core) (a.ends || b.ends) (a.breaks || b.breaks))))

unfoldable pub braces : (Stmt → FindPart Done) → List Stmt → FindPart Body
braces f ss cx = statements f ss (entered cx)

-- ---- branches and loops

unfoldable pub guarded : (Stmt → FindPart Done) → List Condition → List Stmt → FindPart (List CoreCondition × Body)
guarded f conditions ss cx =
    and_then (find_conditions conditions (entered cx)) (λ c.
    and_then {B = List CoreCondition × Body} (braces f ss (with_locals (entered cx) c.1)) (λ b.
    Some (c.0, b)))

unfoldable pub find_arms : (Stmt → FindPart Done) → List Arm → FindPart Arms
find_arms f [] cx = Some (arms [] true false)
find_arms f (a ∷ list) cx =
    and_then (guarded f (out-Arm a).conditions (out-Arm a).body cx) (λ g.
    and_then (find_arms f list cx) (λ rest.
    Some (arms (arm g.0 g.1.core ∷ rest.arms) (g.1.ends && rest.ends) (g.1.breaks || rest.breaks))))

unfoldable pub if_of : (Stmt → FindPart Done) → List Arm → FindPart Done
if_of f list cx = and_then (find_arms f list cx) (λ a. Some (done (stmt.If a.arms None) None false a.breaks))

unfoldable pub if_else : (Stmt → FindPart Done) → List Arm → List Stmt → FindPart Done
if_else f list ss cx =
    and_then (find_arms f list cx) (λ a.
    and_then (braces f ss cx) (λ b.
    Some (done (stmt.If a.arms (Some b.core)) None (a.ends && b.ends) (a.breaks || b.breaks))))

abbrev pub if_at : (Stmt → FindPart Done) → List Arm → Option (List Stmt) → FindPart Done
if_at f list None = if_of f list
if_at f list (Some ss) = if_else f list ss

unfoldable pub find_bodies : (Stmt → FindPart Done) → List SwitchCase → FindPart Bodies
find_bodies f [] cx = Some (bodies [] true false)
find_bodies f (c ∷ cs) cx =
    and_then (braces f (out-SwitchCase c).body cx) (λ b.
    and_then (find_bodies f cs cx) (λ rest.
    Some (bodies (b.core ∷ rest.bodies) (b.ends && rest.ends) (b.breaks || rest.breaks))))

unfoldable pub switch_of : (Stmt → FindPart Done) → Expr → List SwitchCase → FindPart Done
switch_of f e cs cx =
    and_then (find_subject e cs cx) (λ h.
    and_then (find_bodies f cs cx) (λ b.
    Some (done (stmt.Switch h.0 (stmt_cases h.1 b.bodies)) None (b.ends && not b.breaks) false)))

unfoldable pub for_of : (Stmt → FindPart Done) → List ℕ → Expr → List Stmt → FindPart Done
for_of f w e ss cx =
    and_then (find_over e cx) (λ o.
    and_then (braces f ss (with_local (entered cx) (local w o.1 kind.Let))) (λ b.
    Some (plain (stmt.For o.0 b.core))))

unfoldable pub while_of : (Stmt → FindPart Done) → List Condition → List Stmt → FindPart Done
while_of f conditions ss cx = and_then (guarded f conditions ss cx) (λ g. Some (done (stmt.While g.0 g.1.core) None (for_ever conditions && not g.1.breaks) false))

-- ---- exits and effects

unfoldable pub returned : Option Ty → Expr → FindPart Done
returned result e cx = and_then result (λ t. and_then (infer_wanted e t cx) (λ c. Some (done (stmt.Return (Some c)) None true false)))

abbrev pub return_at : Option Ty → Option Expr → FindPart Done
return_at result (Some e) = returned result e
return_at (Some t) None = λ cx. None
return_at None None = λ cx. Some (done (stmt.Return None) None true false)

abbrev pub break_at : Exits → FindPart Done
break_at exits.Neither cx = None
break_at _ cx = Some (done stmt.Break None false true)

abbrev pub continue_at : Exits → FindPart Done
continue_at exits.Both cx = Some (plain stmt.Continue)
continue_at _ cx = None

unfoldable pub effect_of : Expr → FindPart Done
effect_of e cx = and_then (infer_effect e cx) (λ f. Some (plain (effect_core f)))

-- ---- all forms

abbrev pub stmt_at : (Stmt → FindStmt) → StmtLayer → FindStmt
stmt_at k (StmtForm-F.Local b w name e) result e' = local_at b w name e
stmt_at k (StmtForm-F.Assign a s e) result e' = assign_at a s e
stmt_at k (StmtForm-F.If list last) result e' = if_at (λ s. k s result e') list last
stmt_at k (StmtForm-F.Switch e cs) result e' = switch_of (λ s. k s result (in_switch e')) e cs
stmt_at k (StmtForm-F.For w e ss) result e' = for_of (λ s. k s result exits.Both) w e ss
stmt_at k (StmtForm-F.While conditions ss) result e' = while_of (λ s. k s result exits.Both) conditions ss
stmt_at k (StmtForm-F.Return e) result e' = return_at result e
stmt_at k StmtForm-F.Break result e' = break_at e'
stmt_at k StmtForm-F.Continue result e' = continue_at e'
stmt_at k (StmtForm-F.StmtForm::Expr e) result e' = effect_of e

unfoldable pub find_stmt_to : ℕ → Stmt → FindStmt
find_stmt_to zero s = λ result e cx. None
find_stmt_to (suc n) s = stmt_at (find_stmt_to n) (out-StmtForm (out-Stmt s).form)

unfoldable pub find_block : List Stmt → FindPart (List CoreStmt)
find_block ss cx = and_then (braces (λ s. find_stmt_to deepest s None exits.Neither) ss cx) (λ b. Some b.core)

unfoldable pub ending : Option Ty → List Stmt → FindPart (List CoreStmt)
ending result ss cx = and_then (braces (λ s. find_stmt_to deepest s result exits.Neither) ss cx) (λ b. when (not (is_some result) || b.ends) (Some b.core))

unfoldable pub find_single : Ty → Expr → FindPart (List CoreStmt)
find_single t e cx = and_then (infer_wanted e t cx) (λ c. Some (stmt.Return (Some c) ∷ []))

abbrev pub body_at : Option Ty → List Stmt → Option (Ty × Expr) → FindPart (List CoreStmt)
body_at result ss (Some x) = find_single x.0 x.1
body_at result ss None = ending result ss

unfoldable pub find_body : Option Ty → List Stmt → FindPart (List CoreStmt)
find_body result ss = body_at result ss (single result ss)
