-- The rules of statements. After The Swift Programming Language, 'Statements' and 'Declarations'.
use Rattle.std.specs.Prelude.{◌≡◌, ℕ, zero, suc, Bool, true, false, not, ◌&&◌, ◌||◌, List, [], ◌∷◌, ◌++◌, Option, Some, None, is_some}
use Rattle.swift_ast.specs.declared.type_name.TypeName.{TypeName}
use Rattle.swift_ast.specs.declared.tree.AssignSign.{AssignSign}
use Rattle.swift_ast.specs.declared.tree.AssignSign.TheVariants as sign
use Rattle.swift_ast.specs.declared.tree.Binder.{Binder}
use Rattle.swift_ast.specs.declared.tree.Binder.TheVariants as binder
use Rattle.swift_ast.specs.declared.tree.Arm.{Arm, out-Arm}
use Rattle.swift_ast.specs.declared.tree.Condition.{Condition, out-Condition}
use Rattle.swift_ast.specs.declared.tree.Expr.{Expr, out-Expr}
use Rattle.swift_ast.specs.declared.tree.ExprForm.{out-ExprForm}
use Rattle.swift_ast.specs.declared.tree.Stmt.{Stmt, out-Stmt}
use Rattle.swift_ast.specs.declared.tree.StmtForm.{out-StmtForm}
use Rattle.swift_ast.specs.declared.tree.SwitchCase.{SwitchCase, out-SwitchCase}
use Rattle.swift_ast.specs.declared.tree.ArgValue.TheOpen.{ExprForm-F, StmtForm-F, Condition-F}
use Rattle.swift_core.specs.declared.ty.Ty.{Ty, out-Ty}
use Rattle.swift_core.specs.declared.ty.Ty.TheOpen.{Ty-F}
use Rattle.swift_core.specs.declared.term.Core.{Core}
use Rattle.swift_core.specs.declared.term.Target.{Target}
use Rattle.swift_core.specs.declared.stmt.CoreStmt.{CoreStmt}
use Rattle.swift_core.specs.declared.stmt.CoreStmt.TheVariants as stmt
use Rattle.swift_core.specs.declared.stmt.StmtArm.{StmtArm, roll-StmtArm}
use Rattle.swift_core.specs.declared.stmt.StmtCase.{StmtCase, roll-StmtCase}
use Rattle.swift_core.specs.declared.stmt.Condition.{Condition as CoreCondition}
use Rattle.swift_core.specs.declared.stmt.Over.{Over}
use Rattle.value_calls.specs.declared.operators.Operator.{Operator}
use Rattle.value_calls.specs.declared.operators.Operator.TheVariants as operator
use Rattle.value_calls.specs.declared.operators.Arithmetic.TheVariants as arithmetic
use Rattle.type_base.specs.declared.scope.Local.{Local}
use Rattle.type_base.specs.declared.scope.LocalKind.{LocalKind}
use Rattle.type_base.specs.declared.scope.LocalKind.TheVariants as kind
use Rattle.type_base.specs.Context.{Context}
use Rattle.type_base.specs.Names.{IsNew}
use Rattle.type_base.specs.Rules.{PartRule}
use Rattle.type_base.specs.Scopes.{with_local, entered}
use Rattle.type_base.specs.TypeNames.{type_of}
use Rattle.post_rules.specs.declared.chained.Effect.{Effect}
use Rattle.post_rules.specs.declared.chained.Effect.TheVariants as effect
use Rattle.value_rules.specs.Values.{Typed, TypedWanted, TypedTarget, TypedEffect}
use Rattle.case_rules.specs.Cases.{Label, SubjectRule}
use Rattle.case_rules.specs.Conditions.{CheckedAll, ConditionsRule}
use Rattle.case_rules.specs.Layers.{StmtLayer}
use Rattle.case_rules.specs.Overs.{Gone, OverRule}
use Rattle.case_rules.specs.Scopes.{local, with_any, with_locals}
use Rattle.stmt_rules.specs.declared.done.Exits.{Exits}
use Rattle.stmt_rules.specs.declared.done.Exits.TheVariants as exits
use Rattle.stmt_rules.specs.declared.done.Done.{Done}
use Rattle.stmt_rules.specs.declared.done.Body.{Body}
use Rattle.stmt_rules.specs.declared.done.Arms.{Arms}
use Rattle.stmt_rules.specs.declared.done.Bodies.{Bodies}

-- a statement, where this type is returned, if one is, and where these exits may stand
abbrev pub StmtRule : Type 1
StmtRule = Option Ty → Exits → PartRule Done

-- a core, the local that it declares, whether it returns on every path, and whether it holds a `break` of what is around it
abbrev pub done : CoreStmt → Option Local → Bool → Bool → Done
done core declared ends breaks = record { core = core; declared = declared; ends = ends; breaks = breaks }

-- a core that declares nothing, and behind which the statements go on
abbrev pub plain : CoreStmt → Done
plain core = done core None false false

abbrev pub body : List CoreStmt → Bool → Bool → Body
body core ends breaks = record { core = core; ends = ends; breaks = breaks }

-- ---- locals and assignments

abbrev pub kind_of : Binder → LocalKind
kind_of binder.Let = kind.Let
kind_of binder.Var = kind.Var

-- `let` or `var` without a written type: the type is that of the value
unfoldable pub LocalOf : Binder → List ℕ → Expr → PartRule Done
LocalOf b w e cx r =
    IsNew w cx ×
    ((x : Core × Ty) × Typed e cx None x ×
    (r ≡ done (stmt.Local x.0) (Some (local w x.1 (kind_of b))) false false))

-- `let` or `var` with a written type, which is expected of the value
unfoldable pub LocalAs : Binder → List ℕ → TypeName → Expr → PartRule Done
LocalAs b w name e cx r =
    IsNew w cx ×
    ((t : Ty) × (type_of cx.table name ≡ Some t) ×
    ((c : Core) × TypedWanted e t cx c ×
    (r ≡ done (stmt.Local c) (Some (local w t (kind_of b))) false false)))

abbrev pub local_rule : Binder → List ℕ → Option TypeName → Expr → PartRule Done
local_rule b w None e = LocalOf b w e
local_rule b w (Some name) e = LocalAs b w name e

-- `target = value`
unfoldable pub Assigned : Expr → Expr → PartRule Done
Assigned a e cx r =
    (p : Target × Ty) × TypedTarget a cx p ×
    ((c : Core) × TypedWanted e p.1 cx c ×
    (r ≡ plain (stmt.Assign p.0 c)))

-- the operator of an assignment sign at a type: `+=` is over Int, String and lists, the others are over Int
abbrev pub update_at : AssignSign → Ty-F Ty → Option Operator
update_at sign.Plus Ty-F.Int = Some (operator.Compute arithmetic.Plus)
update_at sign.Plus Ty-F.Text = Some operator.JoinTexts
update_at sign.Plus (Ty-F.List t) = Some operator.JoinLists
update_at sign.Minus Ty-F.Int = Some (operator.Compute arithmetic.Minus)
update_at sign.Times Ty-F.Int = Some (operator.Compute arithmetic.Times)
update_at sign.Divide Ty-F.Int = Some (operator.Compute arithmetic.Divide)
update_at sign.Remainder Ty-F.Int = Some (operator.Compute arithmetic.Remainder)
update_at _ _ = None

-- `target += value` and the like
unfoldable pub Updated : Expr → AssignSign → Expr → PartRule Done
Updated a s e cx r =
    (p : Target × Ty) × TypedTarget a cx p ×
    ((op : Operator) × (update_at s (out-Ty p.1) ≡ Some op) ×
    ((c : Core) × TypedWanted e p.1 cx c ×
    (r ≡ plain (stmt.Update op p.0 c))))

abbrev pub assign_rule : Expr → AssignSign → Expr → PartRule Done
assign_rule a sign.Set e = Assigned a e
assign_rule a s e = Updated a s e

-- ---- lists of statements

-- statements in order: each stands in the scope of the locals before it
unfoldable pub Statements : (Stmt → PartRule Done) → List Stmt → PartRule Body
Statements k [] cx r = r ≡ body [] false false
Statements k (s ∷ ss) cx r =
    (a : Done) × k s cx a ×
    ((b : Body) × Statements k ss (with_any cx a.declared) b ×
    (r ≡ body (a.core ∷ b.core) (a.ends || b.ends) (a.breaks || b.breaks)))

-- statements in braces: a scope of their own
unfoldable pub Braces : (Stmt → PartRule Done) → List Stmt → PartRule Body
Braces k ss cx = Statements k ss (entered cx)

-- ---- branches and loops

-- conditions, and the statements that run where they hold: the scope of the conditions is around that of the braces
unfoldable pub Guarded : (Stmt → PartRule Done) → List Condition → List Stmt → PartRule (List CoreCondition × Body)
Guarded k conditions ss cx r =
    (c : CheckedAll) × ConditionsRule conditions (entered cx) c ×
    ((b : Body) × Braces k ss (with_locals (entered cx) c.1) b ×
    (r ≡ (c.0, b)))

abbrev pub arms : List StmtArm → Bool → Bool → Arms
arms list ends breaks = record { arms = list; ends = ends; breaks = breaks }

abbrev pub arm : List CoreCondition → List CoreStmt → StmtArm
arm conditions core = roll-StmtArm (record { conditions = conditions; body = core })

unfoldable pub ArmsRule : (Stmt → PartRule Done) → List Arm → PartRule Arms
ArmsRule k [] cx r = r ≡ arms [] true false
ArmsRule k (a ∷ list) cx r =
    (g : List CoreCondition × Body) × Guarded k (out-Arm a).conditions (out-Arm a).body cx g ×
    ((rest : Arms) × ArmsRule k list cx rest ×
    (r ≡ arms (arm g.0 g.1.core ∷ rest.arms) (g.1.ends && rest.ends) (g.1.breaks || rest.breaks)))

-- `if` without a last `else`
unfoldable pub IfOf : (Stmt → PartRule Done) → List Arm → PartRule Done
IfOf k list cx r = (a : Arms) × ArmsRule k list cx a × (r ≡ done (stmt.If a.arms None) None false a.breaks)

-- `if` with a last `else`: it returns on every path where each branch does
unfoldable pub IfElse : (Stmt → PartRule Done) → List Arm → List Stmt → PartRule Done
IfElse k list ss cx r =
    (a : Arms) × ArmsRule k list cx a ×
    ((b : Body) × Braces k ss cx b ×
    (r ≡ done (stmt.If a.arms (Some b.core)) None (a.ends && b.ends) (a.breaks || b.breaks)))

abbrev pub if_rule : (Stmt → PartRule Done) → List Arm → Option (List Stmt) → PartRule Done
if_rule k list None = IfOf k list
if_rule k list (Some ss) = IfElse k list ss

abbrev pub bodies : List (List CoreStmt) → Bool → Bool → Bodies
bodies list ends breaks = record { bodies = list; ends = ends; breaks = breaks }

-- the statements of each case
unfoldable pub BodiesRule : (Stmt → PartRule Done) → List SwitchCase → PartRule Bodies
BodiesRule k [] cx r = r ≡ bodies [] true false
BodiesRule k (c ∷ cs) cx r =
    (b : Body) × Braces k (out-SwitchCase c).body cx b ×
    ((rest : Bodies) × BodiesRule k cs cx rest ×
    (r ≡ bodies (b.core ∷ rest.bodies) (b.ends && rest.ends) (b.breaks || rest.breaks)))

abbrev pub stmt_case : Label → List CoreStmt → StmtCase
stmt_case patterns core = roll-StmtCase (record { patterns = patterns; body = core })

-- the cases, of their labels and their statements
abbrev pub stmt_cases : List Label → List (List CoreStmt) → List StmtCase
stmt_cases (l ∷ ls) (b ∷ bs) = stmt_case l b ∷ stmt_cases ls bs
stmt_cases _ _ = []

-- it returns on every path where each case does and none holds a `break` of the `switch`
unfoldable pub SwitchOf : (Stmt → PartRule Done) → Expr → List SwitchCase → PartRule Done
SwitchOf k e cs cx r =
    (h : Core × List Label) × SubjectRule e cs cx h ×
    ((b : Bodies) × BodiesRule k cs cx b ×
    (r ≡ done (stmt.Switch h.0 (stmt_cases h.1 b.bodies)) None (b.ends && not b.breaks) false))

-- the variable of a `for` stands in a scope around that of the braces
unfoldable pub ForOf : (Stmt → PartRule Done) → List ℕ → Expr → List Stmt → PartRule Done
ForOf k w e ss cx r =
    (o : Gone) × OverRule e cx o ×
    ((b : Body) × Braces k ss (with_local (entered cx) (local w o.1 kind.Let)) b ×
    (r ≡ plain (stmt.For o.0 b.core)))

-- the one condition is the literal `true`
abbrev pub is_true : Condition → Bool
is_true c = elim (out-Condition c) [ Condition-F.Condition::Expr e ↦ elim (out-ExprForm (out-Expr e).form) [ ExprForm-F.True ↦ true | _ ↦ false ] | Condition-F.Let w value ↦ false ]

abbrev pub for_ever : List Condition → Bool
for_ever (c ∷ []) = is_true c
for_ever _ = false

-- `while true` without a `break` of its own never goes on behind it; every other loop may
unfoldable pub WhileOf : (Stmt → PartRule Done) → List Condition → List Stmt → PartRule Done
WhileOf k conditions ss cx r =
    (g : List CoreCondition × Body) × Guarded k conditions ss cx g ×
    (r ≡ done (stmt.While g.0 g.1.core) None (for_ever conditions && not g.1.breaks) false)

-- ---- exits and effects

-- `return e`, where t is returned
unfoldable pub Returned : Option Ty → Expr → PartRule Done
Returned result e cx r =
    (t : Ty) × (result ≡ Some t) ×
    ((c : Core) × TypedWanted e t cx c ×
    (r ≡ done (stmt.Return (Some c)) None true false))

abbrev pub return_rule : Option Ty → Option Expr → PartRule Done
return_rule result (Some e) = Returned result e
return_rule (Some t) None = λ cx r. ⊥
return_rule None None = λ cx r. r ≡ done (stmt.Return None) None true false

abbrev pub break_rule : Exits → PartRule Done
break_rule exits.Neither cx r = ⊥
break_rule _ cx r = r ≡ done stmt.Break None false true

abbrev pub continue_rule : Exits → PartRule Done
continue_rule exits.Both cx r = r ≡ plain stmt.Continue
continue_rule _ cx r = ⊥

abbrev pub effect_core : Effect → CoreStmt
effect_core (effect.Change change) = stmt.Change change
effect_core (effect.Invoke invocation) = stmt.Invoke invocation

-- an expression that is a statement
unfoldable pub EffectOf : Expr → PartRule Done
EffectOf e cx r = (f : Effect) × TypedEffect e cx f × (r ≡ plain (effect_core f))

-- ---- all forms, over the rule of the statements inside

-- within a `switch` a `break` leaves it, and `continue` may stand where it might
abbrev pub in_switch : Exits → Exits
in_switch exits.Neither = exits.Break
in_switch e = e

abbrev pub stmt_rule : (Stmt → StmtRule) → StmtLayer → StmtRule
stmt_rule k (StmtForm-F.Local b w name e) result e' = local_rule b w name e
stmt_rule k (StmtForm-F.Assign a s e) result e' = assign_rule a s e
stmt_rule k (StmtForm-F.If list last) result e' = if_rule (λ s. k s result e') list last
stmt_rule k (StmtForm-F.Switch e cs) result e' = SwitchOf (λ s. k s result (in_switch e')) e cs
stmt_rule k (StmtForm-F.For w e ss) result e' = ForOf (λ s. k s result exits.Both) w e ss
stmt_rule k (StmtForm-F.While conditions ss) result e' = WhileOf (λ s. k s result exits.Both) conditions ss
stmt_rule k (StmtForm-F.Return e) result e' = return_rule result e
stmt_rule k StmtForm-F.Break result e' = break_rule e'
stmt_rule k StmtForm-F.Continue result e' = continue_rule e'
stmt_rule k (StmtForm-F.StmtForm::Expr e) result e' = EffectOf e

-- statements that nest at most so deep
unfoldable pub typed_stmt_to : ℕ → Stmt → StmtRule
typed_stmt_to zero s = λ result e cx r. ⊥
typed_stmt_to (suc n) s = stmt_rule (typed_stmt_to n) (out-StmtForm (out-Stmt s).form)

-- how deep statements may nest; the braces of a source file nest at most half as deep
unfoldable pub deepest : ℕ
deepest = 128

-- the statements of an action block: they have no value
unfoldable pub TypedBlock : List Stmt → PartRule (List CoreStmt)
TypedBlock ss cx r = (b : Body) × Braces (λ s. typed_stmt_to deepest s None exits.Neither) ss cx b × (r ≡ b.core)

-- the expression that a function with a result consists of, and the result
abbrev pub single : Option Ty → List Stmt → Option (Ty × Expr)
single (Some t) (s ∷ []) = elim (out-StmtForm (out-Stmt s).form) [ StmtForm-F.StmtForm::Expr e ↦ Some (t, e) | _ ↦ None ]
single _ _ = None

-- statements that end on every path, where something is returned
unfoldable pub Ending : Option Ty → List Stmt → PartRule (List CoreStmt)
Ending result ss cx r =
    (b : Body) × Braces (λ s. typed_stmt_to deepest s result exits.Neither) ss cx b ×
    (((not (is_some result) || b.ends) ≡ true) × (r ≡ b.core))

-- one expression, which is what is returned
unfoldable pub Single : Ty → Expr → PartRule (List CoreStmt)
Single t e cx r = (c : Core) × TypedWanted e t cx c × (r ≡ stmt.Return (Some c) ∷ [])

abbrev pub body_rule : Option Ty → List Stmt → Option (Ty × Expr) → PartRule (List CoreStmt)
body_rule result ss (Some x) = Single x.0 x.1
body_rule result ss None = Ending result ss

-- the statements of a function or a computed property
unfoldable pub TypedBody : Option Ty → List Stmt → PartRule (List CoreStmt)
TypedBody result ss = body_rule result ss (single result ss)
