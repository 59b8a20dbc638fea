-- That expressions, statements and strings are read, for what stands behind them here.
use Rattle.std.proofs.Common.{◌≡◌, ℕ, zero, suc, Bool, true, false, not, ◌&&◌, ◌||◌, List, [], ◌∷◌, refl, sym, ap, ◌∙◌, codes, inl, inr, ◌⊎◌}
use Rattle.std.specs.Prelude.{Option, Some, None, is_some}
use Rattle.swift_lex.specs.declared.token.Token.{Token}
use Rattle.swift_lex.specs.declared.token.TokenKind.{TokenKind}
use Rattle.swift_lex.specs.declared.token.TokenKind.TheVariants as kind
use Rattle.swift_ast.specs.declared.type_name.TypeName.{TypeName}
use Rattle.parse_base.specs.Parser.{starts}
use Rattle.parse_base.specs.Language.{Language, nothing, One, Both, Made, Either, UpTo}
use Rattle.parse_base.specs.Terminals.{a_sign, a_name, label_ahead, sign_next}
use Rattle.parse_base.proofs.Laws.{Exact, Implies, anything, weaker, or_left}
use Rattle.parse_base.proofs.Seen.{sees, sees_name, only_some}
use Rattle.parse_terms.specs.Words as terms
use Rattle.parse_terms.specs.Types.{SpellsType, NestedType, TypeOf, PlainType, ListType, BracketedType, begins_type, ends_type}
use Rattle.parse_terms.proofs.TypeLaws.{type_exact, rparen_ends_type}
use Rattle.parse_expr.specs.Tests.{goes_on, ends_tail, ends_post, ends_level, ends_expr, closes}
use Rattle.parse_expr.proofs.Knot.{expr_whole, stmts_whole, string_whole}
use Rattle.swift_parse.specs.Below.{languages, parsers}
use Rattle.swift_parse.specs.Parse.{pair_ahead}
use Rattle.swift_parse.proofs.Sides.{Front, FollowKind, line_follows, follow_front, type_no_rparen}
use Rattle.swift_parse.proofs.Rules.{Known}

-- ---- what stands behind an expression

line_ends_expr : Implies line_follows (ends_expr true)
unfolding ends_expr ends_level ends_post ends_tail goes_on label_ahead starts terms.operator
line_ends_expr ts e = let f = follow_front ts e in elim f.kind_is [
  | inl k ↦ rw (f.is, k) refl
  | inr h ↦ elim h [
    | inl k ↦ rw (f.is, k) refl
    | inr w ↦ elim w [ inl k ↦ rw (f.is, k.1) refl | inr k ↦ rw (f.is, k.1) refl ]
  ]
]

brace_closes : Implies (starts (a_sign (codes "}"))) closes
unfolding closes
brace_closes ts e = or_left _ _ e

-- ---- a type does not begin with "(" and ")"

bracketed_no_pair : (n : ℕ) (ts : List Token) (x : TypeName) (rest : List Token) → BracketedType (NestedType n) ts x rest → pair_ahead ts ≡ false
unfolding BracketedType Made Both One pair_ahead starts SpellsType
bracketed_no_pair n ts x rest d =
    let behind : starts (a_sign (codes ")")) d.1.2.0 ≡ true = rw (d.1.2.2.1, d.1.2.2.2) refl in
    let inner : begins_type d.1.0 ≡ true = (type_exact 0).begins d.1.0 d.0.1.0 d.1.2.0 (n, d.1.2.1) (rparen_ends_type d.1.2.0 behind) in
    let off : starts (a_sign (codes ")")) d.1.0 ≡ false = type_no_rparen d.1.0 inner in
    rw (d.1.1.1, d.1.1.2) off

list_no_pair : (n : ℕ) (ts : List Token) (x : TypeName) (rest : List Token) → ListType (NestedType n) ts x rest → pair_ahead ts ≡ false
unfolding ListType Made Both One pair_ahead starts
list_no_pair n ts x rest d =
    let s = sees (codes "[") ts (rw (d.1.1.1, d.1.1.2) refl) in
    rw (s.is, s.kind_is) refl

name_no_pair : (ts : List Token) (x : List ℕ) (rest : List Token) → One a_name ts x rest → pair_ahead ts ≡ false
unfolding One pair_ahead starts
name_no_pair ts x rest d =
    let s = sees_name ts (rw (d.1, d.2) refl) in
    rw (s.is, s.kind_is) refl

plain_no_pair : (n : ℕ) (ts : List Token) (x : TypeName) (rest : List Token) → PlainType (NestedType n) ts x rest → pair_ahead ts ≡ false
unfolding PlainType Either Made
plain_no_pair n ts x rest d = elim d [
  | inl a ↦ name_no_pair ts a.0 rest a.1
  | inr h ↦ elim h [ inl b ↦ list_no_pair n ts x rest b | inr b ↦ bracketed_no_pair n ts x rest b ]
]

nested_no_pair : (n : ℕ) (ts : List Token) (x : TypeName) (rest : List Token) → NestedType n ts x rest → pair_ahead ts ≡ false
unfolding NestedType TypeOf Made Both
nested_no_pair zero ts x rest d = absurd d
nested_no_pair (suc n) ts x rest d = plain_no_pair n ts d.0.0 d.1.0 d.1.1

type_no_pair : (ts : List Token) (x : TypeName) (rest : List Token) → SpellsType ts x rest → pair_ahead ts ≡ false
unfolding SpellsType
type_no_pair ts x rest d = nested_no_pair d.0 ts x rest d.1

pub known : (total : ℕ) → Known (languages total) (parsers total)
known total = record {
  exprs = λ n. weaker anything line_follows (expr_whole total n) (λ ts e. refl) line_ends_expr;
  stmts = λ n. weaker anything (starts (a_sign (codes "}"))) (stmts_whole total n) (λ ts e. refl) brace_closes;
  strings = λ n. weaker anything (starts (a_sign (codes ")"))) (string_whole total n) (λ ts e. refl) (λ ts e. refl);
  no_pair = λ ts x rest d e. type_no_pair ts x rest d;
}
