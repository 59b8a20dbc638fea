-- The knot: what is nested is read to any depth.
use Rattle.std.proofs.Common.{◌≡◌, ℕ, zero, suc, ◌+◌, ◌≤◌, Bool, true, false, List, [], ◌∷◌, length, refl, sym, ◌∙◌, arith, ap}
use Rattle.std.specs.Prelude.{Option, Some, None}
use Rattle.swift_lex.specs.declared.token.Token.{Token}
use Rattle.swift_ast.specs.declared.tree.ExprForm.{ExprForm}
use Rattle.swift_ast.specs.declared.tree.Expr.{Expr}
use Rattle.swift_ast.specs.declared.tree.Stmt.{Stmt}
use Rattle.parse_base.specs.Parser.{starts}
use Rattle.parse_base.specs.Terminals.{string_open}
use Rattle.parse_base.proofs.Laws.{Exact, anything, or_cases}
use Rattle.parse_base.proofs.Seen.{sees, sees_word}
use Rattle.parse_base.proofs.Readings.{Whole}
use Rattle.parse_terms.specs.Words.{literal}
use Rattle.parse_expr.specs.Tests.{ends_expr, begins_expr, begins_case, closes, begins_stmts}
use Rattle.parse_expr.specs.Grammar.{Inner, ExprOf, StmtsOf, Nested, SpellsExpr, SpellsStmts, SpellsString}
use Rattle.parse_expr.specs.Parse.{expr_of, stmts_of, nested, read_expr, read_stmts, read_string}
use Rattle.parse_expr.proofs.Rules.{Alone, alone_is, expr_exact, inside_exact, string_exact}
use Rattle.parse_expr.proofs.StmtRules.{stmts_exact, stmts_sound}

abbrev ExprAt : ℕ → ℕ → ℕ → Bool → ℕ → Type 0
ExprAt total n m tails links = Exact 1 n ((nested total n).expr' tails links) ((Nested total n).Expr' tails links) ((Nested total m).Expr' tails links) begins_expr (ends_expr tails)

abbrev StmtsAt : ℕ → ℕ → ℕ → Type 0
StmtsAt total n m = Exact 0 n (nested total n).stmts' (Nested total n).Stmts' (Nested total m).Stmts' begins_stmts closes

record Known (total m : ℕ) : Type 0 where
  pub exprs : (n : ℕ) (tails : Bool) (links : ℕ) → ExprAt total n m tails links
  pub stmts : (n : ℕ) → StmtsAt total n m
  pub alone : Alone (Nested total m)

some_token : (ts : List Token) → closes ts ≡ true → 1 ≤ length ts
unfolding closes begins_case starts
some_token [] e = absurd cc
some_token (t ∷ ts) e = omega arith

alone_0 : (total : ℕ) → Alone (Nested total 0)
unfolding Nested
alone_0 total tails links t us rest f x k e d g = absurd d

-- at depth 0 nothing is said
at_0 : (total n : ℕ) → ((tails : Bool) (links : ℕ) → ExprAt total n 0 tails links) × StmtsAt total n 0
unfolding Nested nested
at_0 total zero = (
  (λ tails links. record { sound = λ ts x rest e. absurd cc; complete = λ ts x rest le d e. absurd d; takes = λ ts x rest d. absurd d; begins = λ ts x rest d e. absurd d }),
  record { sound = λ ts x rest e. absurd cc; complete = λ ts x rest le d e. absurd d; takes = λ ts x rest d. absurd d; begins = λ ts x rest d e. absurd d },
)
at_0 total (suc n) =
    let h = at_0 total n in (
      (λ tails links. record { sound = (expr_exact total h.0 h.1 (alone_0 total) tails links).sound; complete = λ ts x rest le d e. absurd d; takes = λ ts x rest d. absurd d; begins = λ ts x rest d e. absurd d }),
      record { sound = stmts_sound total h.0 h.1 (alone_0 total); complete = λ ts x rest le d e. absurd d; takes = λ ts x rest d. absurd d; begins = λ ts x rest d e. absurd d },
    )

module _ (total m : ℕ) (k : Known total m) where
  whole : (tails : Bool) (links : ℕ) (t : Token) (us rest : List Token) (f : ExprForm) (x : Expr × ℕ) → literal t.kind ≡ Some f → ends_expr tails us ≡ true → ExprOf total (Nested total m) tails links (t ∷ us) x rest → ends_expr tails rest ≡ true → rest ≡ us
  whole tails links t us rest f x e g d h =
      let l = length (t ∷ us) in
      alone_is total (Nested total m) tails links (expr_of total (nested total l) tails links) (suc l) (ExprOf total (Nested total l) tails links) begins_expr (expr_exact total (k.exprs l) (k.stmts l) k.alone tails links) t us rest f x (omega arith) e g d h

  alone_next : Alone (Nested total (suc m))
  unfolding Nested
  alone_next tails links t us rest f x e g d h = whole tails links t us rest f x e g d h

  exprs_next : (n : ℕ) (tails : Bool) (links : ℕ) → ExprAt total n (suc m) tails links
  unfolding Nested nested
  exprs_next zero tails links =
      let r = expr_exact total (k.exprs 0) (k.stmts 0) k.alone tails links in
      record { sound = λ ts x rest e. absurd cc; complete = λ ts x rest le d e. let t = r.takes ts x rest d in absurd (omega arith); takes = r.takes; begins = r.begins }
  exprs_next (suc n) tails links = expr_exact total (k.exprs n) (k.stmts n) k.alone tails links

  stmts_next : (n : ℕ) → StmtsAt total n (suc m)
  unfolding Nested nested
  stmts_next zero =
      let r = stmts_exact total (k.exprs 0) (k.stmts 0) k.alone (whole true _) in
      record { sound = λ ts x rest e. absurd cc; complete = λ ts x rest le d e. let t = r.takes ts x rest d in let c = some_token rest e in absurd (omega arith); takes = r.takes; begins = r.begins }
  stmts_next (suc n) = stmts_exact total (k.exprs n) (k.stmts n) k.alone (whole true _)

known : (total m : ℕ) → Known total m
known total zero = record { exprs = λ n. (at_0 total n).0; stmts = λ n. (at_0 total n).1; alone = alone_0 total }
known total (suc m) = record { exprs = exprs_next total m (known total m); stmts = stmts_next total m (known total m); alone = alone_next total m (known total m) }

-- ---- for any number of tokens

pub expr_whole : (total : ℕ) → Whole 1 (read_expr total) (SpellsExpr total) begins_expr (ends_expr true)
unfolding read_expr SpellsExpr
expr_whole total n = record {
  sound = λ ts x rest e. let l = length ts in (l, (inside_exact total ((known total 0).exprs l) ((known total 0).stmts l) true).sound ts x rest e);
  complete = λ ts x rest le w e. let l = length ts in (inside_exact total ((known total w.0).exprs l) ((known total w.0).stmts l) true).complete ts x rest (omega arith) w.1 e;
  takes = λ ts x rest w. (inside_exact total ((known total w.0).exprs 0) ((known total w.0).stmts 0) true).takes ts x rest w.1;
  begins = λ ts x rest w e. (inside_exact total ((known total w.0).exprs 0) ((known total w.0).stmts 0) true).begins ts x rest w.1 e;
}

pub stmts_whole : (total : ℕ) → Whole 0 (read_stmts total) (SpellsStmts total) begins_stmts closes
unfolding read_stmts SpellsStmts
stmts_whole total n = record {
  sound = λ ts x rest e. (length ts, ((known total 0).stmts (length ts)).sound ts x rest e);
  complete = λ ts x rest le w e. ((known total w.0).stmts (length ts)).complete ts x rest (omega arith) w.1 e;
  takes = λ ts x rest w. ((known total w.0).stmts 0).takes ts x rest w.1;
  begins = λ ts x rest w e. ((known total w.0).stmts 0).begins ts x rest w.1 e;
}

pub string_whole : (total : ℕ) → Whole 1 (read_string total) (SpellsString total) (starts string_open) anything
unfolding read_string SpellsString
string_whole total n = record {
  sound = λ ts x rest e. let l = length ts in (l, (string_exact total ((known total 0).exprs l) ((known total 0).stmts l) true).sound ts x rest e);
  complete = λ ts x rest le w e. let l = length ts in (string_exact total ((known total w.0).exprs l) ((known total w.0).stmts l) true).complete ts x rest (omega arith) w.1 e;
  takes = λ ts x rest w. (string_exact total ((known total w.0).exprs 0) ((known total w.0).stmts 0) true).takes ts x rest w.1;
  begins = λ ts x rest w e. (string_exact total ((known total w.0).exprs 0) ((known total w.0).stmts 0) true).begins ts x rest w.1 e;
}
