-- The ladder of operators and the ternary, a step at a time.
use Rattle.std.proofs.Common.{◌≡◌, ℕ, Bool, zero, suc, ◌-◌, ◌<◌, List, [], refl, arith}
use Rattle.std.specs.Prelude.{Some, None}
use Rattle.swift_lex.specs.declared.token.Token.{Token}
use Rattle.swift_ast.specs.declared.tree.Expr.{Expr}
use Rattle.swift_ast.specs.declared.tree.Link.{Link}
use Rattle.parse_base.specs.Spans.{span_of}
use Rattle.parse_base.specs.Parser.{Outcome, Parser, and_then, many, starts, made, both, spanned}
use Rattle.parse_terms.specs.Words.{an_op, limit}
use Rattle.parse_terms.specs.Trees.{chain_by}
use Rattle.parse_expr.specs.Parse.{Inner, unary, level, branches}
use Rattle.parse_expr.specs.Ladder.{link_at, branches_after}

pub level_zero : (total : ℕ) (i : Inner) (tails : Bool) (k : ℕ) (ts : List Token) → k ≡ 0 → level total i tails k ts ≡ unary total i tails ts
unfolding level
level_zero total i tails k ts e = rw e refl

flat_one : (total : ℕ) (ts : List Token) (a : Expr) (o : Outcome (List Link)) → and_then {A = Expr × List Link} (and_then o (λ b rest. Some ((a, b), rest))) (λ x rest. Some (chain_by (span_of total ts rest) x.0 x.1, rest)) ≡ and_then o (λ ls rest. Some (chain_by (span_of total ts rest) a ls, rest))
flat_one total ts a None = refl
flat_one total ts a (Some x) = refl

flatten : (total : ℕ) (ts : List Token) (o : Outcome Expr) (p : Parser (List Link)) → and_then {A = Expr × List Link} (and_then o (λ a mid. and_then (p mid) (λ b rest. Some ((a, b), rest)))) (λ x rest. Some (chain_by (span_of total ts rest) x.0 x.1, rest)) ≡ and_then o (λ a mid. and_then (p mid) (λ ls rest. Some (chain_by (span_of total ts rest) a ls, rest)))
flatten total ts None p = refl
flatten total ts (Some a) p = flat_one total ts a.0 (p a.1)

level_suc : (total : ℕ) (i : Inner) (tails : Bool) (k : ℕ) (ts : List Token)
    → level total i tails (suc k) ts ≡ and_then (level total i tails (suc k - 1) ts) (λ a mid. and_then (many (starts (an_op (suc k))) (link_at total i tails (suc k)) (limit (suc k)) [] mid) (λ ls rest. Some (chain_by (span_of total ts rest) a ls, rest)))
unfolding level link_at spanned both
level_suc total i tails k ts = let e : suc k - 1 ≡ k = omega arith in rw e (flatten total ts (level total i tails k ts) (many (starts (an_op (suc k))) (link_at total i tails (suc k)) (limit (suc k)) []))

pub level_step : (total : ℕ) (i : Inner) (tails : Bool) (k : ℕ) (ts : List Token) → 0 < k
    → level total i tails k ts ≡ and_then (level total i tails (k - 1) ts) (λ a mid. and_then (many (starts (an_op k)) (link_at total i tails k) (limit k) [] mid) (λ ls rest. Some (chain_by (span_of total ts rest) a ls, rest)))
level_step total i tails zero ts lt = absurd (omega arith)
level_step total i tails (suc k) ts lt = level_suc total i tails k ts

pub branches_zero : (total : ℕ) (i : Inner) (tails : Bool) (links : ℕ) (ts : List Token) → links ≡ 0 → branches total i tails links ts ≡ None
unfolding branches
branches_zero total i tails links ts e = rw e refl

branches_suc : (total : ℕ) (i : Inner) (tails : Bool) (links : ℕ) (ts : List Token) → branches total i tails (suc links) ts ≡ branches_after total i tails (suc links - 1) ts
unfolding branches branches_after
branches_suc total i tails links ts = let e : suc links - 1 ≡ links = omega arith in rw e refl

pub branches_step : (total : ℕ) (i : Inner) (tails : Bool) (links : ℕ) (ts : List Token) → 0 < links → branches total i tails links ts ≡ branches_after total i tails (links - 1) ts
branches_step total i tails zero ts lt = absurd (omega arith)
branches_step total i tails (suc links) ts lt = branches_suc total i tails links ts
