-- The forms of a statement, each found as what its parts are found to be.
use Rattle.std.proofs.Common.{◌≡◌, ℕ, Bool, ◌||◌, ◌&&◌, List, Option, Some, None, Result, subst, sym, ◌∙◌, refl}
use Rattle.swift_ast.specs.declared.tree.Arm.{Arm}
use Rattle.swift_ast.specs.declared.tree.Condition.{Condition}
use Rattle.swift_ast.specs.declared.tree.Expr.{Expr}
use Rattle.swift_ast.specs.declared.tree.Stmt.{Stmt}
use Rattle.swift_ast.specs.declared.tree.SwitchCase.{SwitchCase}
use Rattle.swift_ast.specs.declared.tree.ArgValue.TheOpen.{StmtForm-F}
use Rattle.swift_core.specs.declared.stmt.CoreStmt.TheVariants as stmt
use Rattle.swift_core.specs.declared.ty.Ty.{Ty}
use Rattle.type_base.specs.declared.fault.Fault.{Fault}
use Rattle.type_base.specs.declared.scope.Scope.{Scope}
use Rattle.type_base.specs.Claims.{and_then}
use Rattle.type_base.specs.Context.{Context, seen}
use Rattle.type_base.specs.Rules.{FindPart}
use Rattle.case_rules.specs.Layers.{StmtLayer}
use Rattle.stmt_rules.specs.declared.done.Exits.{Exits}
use Rattle.stmt_rules.specs.declared.done.Exits.TheVariants as exits
use Rattle.stmt_rules.specs.declared.done.Done.{Done}
use Rattle.stmt_rules.specs.declared.done.Body.{Body}
use Rattle.stmt_rules.specs.declared.done.Arms.{Arms}
use Rattle.stmt_rules.specs.Finds.{Finds}
use Rattle.stmt_rules.specs.Rules.{done, in_switch}
use Rattle.stmt_rules.specs.Search.{FindStmt, braces, find_arms, if_of, if_else, if_at, switch_of, for_of, while_of, stmt_at}

-- `if` with a last `else`
pub else_found : (f : Stmt → FindPart Done) (list : List Arm) (ss : List Stmt) (old mid new : Scope) (a : Arms) (b : Body) (ends breaks : Bool)
    → (find_arms f list (seen old) ≡ Some a) × (mid ≡ old) → (braces f ss (seen mid) ≡ Some b) × (new ≡ mid) → ends ≡ (a.ends && b.ends) → breaks ≡ (a.breaks || b.breaks)
    → (if_else f list ss (seen old) ≡ Some (done (stmt.If a.arms (Some b.core)) None ends breaks)) × (new ≡ old)
unfolding if_else and_then
else_found f list ss old mid new a b ends breaks h w e k =
    let under : braces f ss (seen old) ≡ Some b = subst (λ (s : Scope). braces f ss (seen s) ≡ Some b) h.1 w.0 in
    (rw (h.0, under, e, k) refl, w.1 ∙ h.1)

pub chain_with : (f : Stmt → FindPart Done) (list : List Arm) (last : Option (List Stmt)) (ss items : List Stmt) (cx : Context) (result : Result Done Fault) (old new : Scope)
    → last ≡ Some items → ss ≡ items → Finds result old new (if_else f list ss cx) → Finds result old new (if_at f list last cx)
chain_with f list last ss items cx result old new is same h =
    subst (λ (o : Option (List Stmt)). Finds result old new (if_at f list o cx)) (sym is) (subst (λ (xs : List Stmt). Finds result old new (if_else f list xs cx)) same h)

pub chain_without : (f : Stmt → FindPart Done) (list : List Arm) (last : Option (List Stmt)) (cx : Context) (result : Result Done Fault) (old new : Scope)
    → last ≡ None → Finds result old new (if_of f list cx) → Finds result old new (if_at f list last cx)
chain_without f list last cx result old new is h = subst (λ (o : Option (List Stmt)). Finds result old new (if_at f list o cx)) (sym is) h

-- `switch`, in whose cases these exits may stand
pub switch_form : (k : Stmt → FindStmt) (l : StmtLayer) (t : Option Ty) (e inner : Exits) (cx : Context) (result : Result Done Fault) (old new : Scope) (x : Expr) (cs list : List SwitchCase)
    → l ≡ StmtForm-F.Switch x list → inner ≡ in_switch e → cs ≡ list → Finds result old new (switch_of (λ s. k s t inner) x cs cx) → Finds result old new (stmt_at k l t e cx)
switch_form k l t e inner cx result old new x cs list is w same h =
    let whole : Finds result old new (switch_of (λ s. k s t inner) x list cx) = subst (λ (ys : List SwitchCase). Finds result old new (switch_of (λ s. k s t inner) x ys cx)) same h in
    let within : Finds result old new (switch_of (λ s. k s t (in_switch e)) x list cx) = subst (λ (i : Exits). Finds result old new (switch_of (λ s. k s t i) x list cx)) w whole in
    subst (λ (m : StmtLayer). Finds result old new (stmt_at k m t e cx)) (sym is) within

pub for_form : (k : Stmt → FindStmt) (l : StmtLayer) (t : Option Ty) (e : Exits) (cx : Context) (result : Result Done Fault) (old new : Scope) (w : List ℕ) (x : Expr) (ss list : List Stmt)
    → l ≡ StmtForm-F.For w x list → ss ≡ list → Finds result old new (for_of (λ s. k s t exits.Both) w x ss cx) → Finds result old new (stmt_at k l t e cx)
for_form k l t e cx result old new w x ss list is same h =
    let whole : Finds result old new (for_of (λ s. k s t exits.Both) w x list cx) = subst (λ (ys : List Stmt). Finds result old new (for_of (λ s. k s t exits.Both) w x ys cx)) same h in
    subst (λ (m : StmtLayer). Finds result old new (stmt_at k m t e cx)) (sym is) whole

pub while_form : (k : Stmt → FindStmt) (l : StmtLayer) (t : Option Ty) (e : Exits) (cx : Context) (result : Result Done Fault) (old new : Scope) (cs conditions : List Condition) (ss list : List Stmt)
    → l ≡ StmtForm-F.While conditions list → cs ≡ conditions → ss ≡ list → Finds result old new (while_of (λ s. k s t exits.Both) cs ss cx) → Finds result old new (stmt_at k l t e cx)
while_form k l t e cx result old new cs conditions ss list is one two h =
    let first : Finds result old new (while_of (λ s. k s t exits.Both) conditions ss cx) = subst (λ (ys : List Condition). Finds result old new (while_of (λ s. k s t exits.Both) ys ss cx)) one h in
    let whole : Finds result old new (while_of (λ s. k s t exits.Both) conditions list cx) = subst (λ (ys : List Stmt). Finds result old new (while_of (λ s. k s t exits.Both) conditions ys cx)) two first in
    subst (λ (m : StmtLayer). Finds result old new (stmt_at k m t e cx)) (sym is) whole
