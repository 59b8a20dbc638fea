-- What a function is that checks the expressions inside a form.
use Rattle.std.specs.Prelude.{ℕ, Option, Result, option_copied}
use Rattle.std.specs.declared.alloc.Global.{Global}
use denote.Ref.{Bor}
use Rattle.swift_ast.specs.declared.tree.Expr.{Expr}
use Rattle.swift_core.specs.declared.term.Core.{Core}
use Rattle.swift_core.specs.declared.ty.Ty.{Ty}
use Rattle.type_base.specs.declared.fault.Fault.{Fault}
use Rattle.type_base.specs.declared.scope.Scope.{Scope}
use Rattle.type_base.specs.Context.{seen}
use Rattle.type_base.specs.Rules.{Answers}
use Rattle.expr_rules.specs.Levels.{infer_to}

-- it may be called with this room at any arguments, and answers what the search finds with so many levels
pub record Checks (room : ℕ) (pre : Global → ℕ → Bor Scope → Option (Bor Ty) → Bor Expr → Type 0)
    (post : Global → ℕ → Bor Scope → Option (Bor Ty) → Bor Expr → Result (Core × Ty) Fault → Type 0) : Type 0 where
  pub callable : (alloc : Global) (scope : Bor Scope) (want : Option (Bor Ty)) (e : Bor Expr) → pre alloc room scope want e
  pub finds : (alloc : Global) (scope : Bor Scope) (want : Option (Bor Ty)) (e : Bor Expr) (r : Result (Core × Ty) Fault)
      → post alloc room scope want e r → Answers r (infer_to room e.now (seen scope.now) (option_copied want))
