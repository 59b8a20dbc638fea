-- Function values that read expressions and statements to a depth.
use Rattle.std.specs.Prelude.{ℕ, Bool, Result, List}
use Rattle.std.specs.declared.alloc.Global.{Global}
use denote.Ref.{MutBor}
use Rattle.swift_ast.specs.declared.tree.Expr.{Expr}
use Rattle.swift_ast.specs.declared.tree.Stmt.{Stmt}
use Rattle.parse_base.specs.declared.stop.Stop.{Stop}
use Rattle.parse_base.specs.declared.cursor.Tokens.{Tokens}
use Rattle.parse_base.specs.Parser.{Reads}
use Rattle.parse_expr.specs.Parse.{nested}

pub record NestsExpr (total depth : ℕ) (pre : Global → MutBor Tokens → ℕ → ℕ → Bool → ℕ → Type 0)
    (post : Global → MutBor Tokens → ℕ → ℕ → Bool → ℕ → Result (Expr × ℕ) Stop → MutBor Tokens → Type 0) : Type 0 where
  pub callable : (alloc : Global) (old : MutBor Tokens) (tails : Bool) (links : ℕ) → pre alloc old total depth tails links
  pub reads : (alloc : Global) (old new : MutBor Tokens) (tails : Bool) (links : ℕ) (r : Result (Expr × ℕ) Stop) → post alloc old total depth tails links r new
      → Reads ((nested total depth).expr' tails links old.now.rest.now) r new.now.rest.now

pub record NestsStmts (total depth : ℕ) (pre : Global → MutBor Tokens → ℕ → ℕ → Type 0)
    (post : Global → MutBor Tokens → ℕ → ℕ → Result (List Stmt) Stop → MutBor Tokens → Type 0) : Type 0 where
  pub callable : (alloc : Global) (old : MutBor Tokens) → pre alloc old total depth
  pub reads : (alloc : Global) (old new : MutBor Tokens) (r : Result (List Stmt) Stop) → post alloc old total depth r new
      → Reads ((nested total depth).stmts' old.now.rest.now) r new.now.rest.now
