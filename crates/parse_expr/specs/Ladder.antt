-- A link of the ladder of binary operators, at a rule above 0, and a link of a ternary.
use Rattle.std.specs.Prelude.{ℕ, zero, suc, Bool, codes}
use Rattle.swift_ast.specs.declared.tree.Expr.{Expr}
use Rattle.swift_ast.specs.declared.tree.Link.{Link}
use Rattle.parse_base.specs.Parser.{Parser, take_one, both, then_by, made}
use Rattle.parse_base.specs.Terminals.{a_sign}
use Rattle.parse_terms.specs.Words.{an_op}
use Rattle.parse_terms.specs.Trees.{link}
use Rattle.parse_expr.specs.Parse.{Inner, level}

unfoldable pub link_at : ℕ → Inner → Bool → ℕ → Parser Link
link_at total i tails zero = made link (both (take_one (an_op 0)) (level total i tails 0))
link_at total i tails (suc k) = made link (both (take_one (an_op (suc k))) (level total i tails k))

-- both branches, with so many links to spare
unfoldable pub branches_after : ℕ → Inner → Bool → ℕ → Parser ((Expr × Expr) × ℕ)
branches_after total i tails links = made (λ x. ((x.1.0.0, x.1.1.1.0), x.1.1.1.1)) (both (take_one (a_sign (codes "?"))) (then_by (i.expr' tails links) (λ m. both (take_one (a_sign (codes ":"))) (i.expr' tails m.1))))
