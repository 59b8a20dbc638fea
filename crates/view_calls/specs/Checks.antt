-- Function values that check the items of a builder inside a form.
use Rattle.std.specs.Prelude.{ℕ, List, Result}
use Rattle.std.specs.declared.alloc.Global.{Global}
use denote.Ref.{Bor, MutBor}
use Rattle.swift_ast.specs.declared.tree.Stmt.{Stmt}
use Rattle.swift_core.specs.declared.code.Code.{Code}
use Rattle.swift_core.specs.declared.item.CoreItem.{CoreItem}
use Rattle.type_base.specs.declared.fault.Fault.{Fault}
use Rattle.type_base.specs.declared.scope.Scope.{Scope}
use Rattle.type_base.specs.Context.{seen}
use Rattle.view_rules.specs.Builds.{Builds}
use Rattle.view_rules.specs.Items.{items_to}

pub record Runs (room : ℕ) (pre : Global → ℕ → MutBor Scope → Bor (List Stmt) → MutBor (List Code) → Type 0)
    (post : Global → ℕ → MutBor Scope → Bor (List Stmt) → MutBor (List Code) → Result (List CoreItem) Fault → MutBor Scope → MutBor (List Code) → Type 0) : Type 0 where
  pub callable : (alloc : Global) (scope : MutBor Scope) (ss : Bor (List Stmt)) (blocks : MutBor (List Code)) → pre alloc room scope ss blocks
  pub finds : (alloc : Global) (scope scope' : MutBor Scope) (ss : Bor (List Stmt)) (blocks blocks' : MutBor (List Code)) (r : Result (List CoreItem) Fault)
      → post alloc room scope ss blocks r scope' blocks' → Builds r scope.now scope'.now blocks'.now (items_to room ss.now (seen scope.now) blocks.now)
