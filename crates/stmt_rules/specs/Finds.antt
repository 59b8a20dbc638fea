-- What a check of statements answers, and function values that check the statements inside a form.
use Rattle.std.specs.Prelude.{◌≡◌, ℕ, Option, Some, None, Result, Ok, Err, ⊤, option_copied}
use Rattle.std.specs.declared.alloc.Global.{Global}
use denote.Ref.{Bor, MutBor}
use Rattle.swift_ast.specs.declared.tree.Stmt.{Stmt}
use Rattle.swift_core.specs.declared.ty.Ty.{Ty}
use Rattle.type_base.specs.declared.fault.Fault.{Fault}
use Rattle.type_base.specs.declared.fault.Fault.TheVariants.{NotTyped, OutOfMemory}
use Rattle.type_base.specs.declared.scope.Scope.{Scope}
use Rattle.type_base.specs.Context.{seen}
use Rattle.type_base.specs.Scopes.{Keeps}
use Rattle.stmt_rules.specs.declared.done.Exits.{Exits}
use Rattle.stmt_rules.specs.declared.done.Done.{Done}
use Rattle.stmt_rules.specs.Search.{find_stmt_to}

-- the answer is what was found, and the scope is as before
abbrev pub Finds : {A : Type 0} → Result A Fault → Scope → Scope → Option A → Type 0
Finds (Ok r) old new found = (found ≡ Some r) × (new ≡ old)
Finds (Err NotTyped) old new found = found ≡ None
Finds (Err OutOfMemory) old new found = ⊤

-- the answer is what was found, and locals were added to the scope
abbrev pub FindsAdding : {A : Type 0} → Result A Fault → Scope → Scope → Option A → Type 0
FindsAdding (Ok r) old new found = (found ≡ Some r) × Keeps old new
FindsAdding (Err NotTyped) old new found = found ≡ None
FindsAdding (Err OutOfMemory) old new found = ⊤

-- a function value checks the statements that nest at most so deep
pub record Runs (room : ℕ) (pre : Global → ℕ → MutBor Scope → Option (Bor Ty) → Exits → Bor Stmt → Type 0)
    (post : Global → ℕ → MutBor Scope → Option (Bor Ty) → Exits → Bor Stmt → Result Done Fault → MutBor Scope → Type 0) : Type 0 where
  pub callable : (alloc : Global) (scope : MutBor Scope) (result : Option (Bor Ty)) (e : Exits) (s : Bor Stmt) → pre alloc room scope result e s
  pub finds : (alloc : Global) (scope scope' : MutBor Scope) (result : Option (Bor Ty)) (e : Exits) (s : Bor Stmt) (r : Result Done Fault)
      → post alloc room scope result e s r scope' → Finds r scope.now scope'.now (find_stmt_to room s.now (option_copied result) e (seen scope.now))
