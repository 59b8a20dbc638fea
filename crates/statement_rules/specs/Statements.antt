-- A chain that stands as a statement. What a function takes out of a list may be dropped; the value of a function of the
-- program may not.
-- After The Swift Programming Language, 'Statements' and 'Postfix Expressions'.
use Rattle.std.specs.Prelude.{◌≡◌, Option, Some, None}
use Rattle.swift_ast.specs.declared.tree.ArgValue.TheOpen.{ExprForm-F}
use Rattle.swift_ast.specs.declared.tree.Expr.{Expr}
use Rattle.swift_core.specs.declared.term.Change.{Change, out-Change}
use Rattle.swift_core.specs.declared.term.ChangeCall.{ChangeCall, out-ChangeCall}
use Rattle.swift_core.specs.declared.term.ChangeCall.TheOpen.{ChangeCall-F, Core-F}
use Rattle.swift_core.specs.declared.term.Core.{Core, out-Core}
use Rattle.swift_core.specs.declared.term.CoreHop.{CoreHop}
use Rattle.swift_core.specs.declared.term.Filling.{Filling}
use Rattle.swift_core.specs.declared.term.Invocation.{Invocation}
use Rattle.swift_core.specs.declared.term.Piece.{Piece}
use Rattle.swift_core.specs.declared.term.Receiver.{Receiver}
use Rattle.swift_core.specs.declared.term.Target.{Target}
use Rattle.type_base.specs.Claims.{Then, and_then, reads_none, reads_is, reads_then}
use Rattle.type_base.specs.Rules.{Rule, Infer, Exact, PartRule, FindPart, ExactPart}
use Rattle.post_rules.specs.declared.chained.Chained.{Chained}
use Rattle.post_rules.specs.declared.chained.Chained.TheVariants as chained
use Rattle.post_rules.specs.declared.chained.Effect.{Effect}
use Rattle.post_rules.specs.declared.chained.Effect.TheVariants as effect
use Rattle.post_rules.specs.Chains.{ChainRule, find_chain, LayerOfCore}
use Rattle.post_rules.specs.Exacts.{chain_exact}
use Rattle.post_rules.specs.Syntax.{Form, form_of}

abbrev pub LayerOfCall : Type 0
LayerOfCall = ChangeCall-F ChangeCall Core CoreHop Filling Piece Receiver Change Invocation Target

-- a built-in function may drop its value
abbrev pub dropped_by : Change → LayerOfCall → Option Effect
dropped_by change (ChangeCall-F.Mutate code arguments) = None
dropped_by change _ = Some (effect.Change change)

abbrev pub dropped_in : LayerOfCore → Option Effect
dropped_in (Core-F.Change change) = dropped_by change (out-ChangeCall (out-Change change).call)
dropped_in _ = None

-- what a chain does as a statement
abbrev pub statement_of : Chained → Option Effect
statement_of (chained.Effect e) = Some e
statement_of (chained.Value c t) = dropped_in (out-Core c)
statement_of _ = None

unfoldable pub StatementAt : (Expr → Rule) → Form → PartRule Effect
StatementAt k (ExprForm-F.Post operand parts) cx r = (s : Chained) × ChainRule k operand parts cx s × (statement_of s ≡ Some r)
StatementAt k _ cx r = ⊥

unfoldable pub statement_at : (Expr → Infer) → Form → FindPart Effect
statement_at f (ExprForm-F.Post operand parts) cx = and_then (find_chain f operand parts cx) statement_of
statement_at f _ cx = None

-- an expression that is a statement
unfoldable pub StatementRule : (Expr → Rule) → Expr → PartRule Effect
StatementRule k e = StatementAt k (form_of e)

unfoldable pub find_statement : (Expr → Infer) → Expr → FindPart Effect
find_statement f e = statement_at f (form_of e)

module _ (f : Expr → Infer) (k : Expr → Rule) (exact : (e : Expr) → Exact (f e) (k e)) where
  statement_at_exact : (form : Form) → ExactPart (statement_at f form) (StatementAt k form)
  unfolding statement_at StatementAt Then
  statement_at_exact (ExprForm-F.Post operand parts) cx = reads_then (chain_exact f k exact operand parts cx) (λ s. reads_is _)
  statement_at_exact _ cx = reads_none

  pub statement_exact : (e : Expr) → ExactPart (find_statement f e) (StatementRule k e)
  unfolding find_statement StatementRule
  statement_exact e = statement_at_exact (form_of e)
