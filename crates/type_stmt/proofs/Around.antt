-- What stands in a scope of its own: conditions, and the statements behind them.
use Rattle.std.proofs.Common.{◌≡◌, ℕ, List, take, length, Some, None, Err, subst}
use Rattle.swift_ast.specs.declared.tree.Condition.{Condition}
use Rattle.swift_ast.specs.declared.tree.Stmt.{Stmt}
use Rattle.swift_core.specs.declared.stmt.Condition.{Condition as CoreCondition}
use Rattle.type_base.specs.declared.fault.Fault.{Fault}
use Rattle.type_base.specs.declared.fault.Fault.TheVariants.{NotTyped, OutOfMemory}
use Rattle.type_base.specs.declared.scope.Scope.{Scope}
use Rattle.type_base.specs.Context.{seen}
use Rattle.type_base.specs.Rules.{FindPart}
use Rattle.type_base.specs.Scopes.{Keeps, opened as entered_scope}
use Rattle.stmt_rules.specs.declared.done.Body.{Body}
use Rattle.stmt_rules.specs.declared.done.Done.{Done}
use Rattle.stmt_rules.specs.Finds.{Finds, FindsAdding}
use Rattle.stmt_rules.specs.Search.{guarded}
use Rattle.type_stmt.specs.Parts.{guarded_in}
use Rattle.type_stmt.proofs.Turns.{left_from}

pub around_found : (f : Stmt → FindPart Done) (conditions : List Condition) (ss : List Stmt) (old inside out last : Scope) (m n : ℕ) (g : List CoreCondition × Body) → inside ≡ entered_scope old
    → (guarded_in f conditions ss (seen inside) ≡ Some g) × Keeps inside out → m ≡ length old.locals → n ≡ old.floor → last ≡ record out { locals = take m out.locals; floor = n }
    → (guarded f conditions ss (seen old) ≡ Some g) × (last ≡ old)
unfolding guarded
around_found f conditions ss old inside out last m n g e h l w t =
    (subst (λ (s : Scope). guarded_in f conditions ss (seen s) ≡ Some g) e h.0, left_from old inside out last m n e h.1 l w t)

pub around_fails : (f : Stmt → FindPart Done) (conditions : List Condition) (ss : List Stmt) (old inside new : Scope) (fault : Fault) → inside ≡ entered_scope old
    → FindsAdding {A = List CoreCondition × Body} (Err fault) inside new (guarded_in f conditions ss (seen inside)) → Finds {A = List CoreCondition × Body} (Err fault) old new (guarded f conditions ss (seen old))
unfolding guarded
around_fails f conditions ss old inside new NotTyped e h = subst (λ (s : Scope). guarded_in f conditions ss (seen s) ≡ None) e h
around_fails f conditions ss old inside new OutOfMemory e h = tt
