-- The parser of types reads the language of types.
use Rattle.std.proofs.Common.{◌≡◌, ℕ, zero, suc, true, false, List, length, refl, codes, arith}
use Rattle.swift_lex.specs.declared.token.Token.{Token}
use Rattle.swift_ast.specs.declared.type_name.TypeName.{TypeName}
use Rattle.parse_base.specs.Parser.{Parser, starts}
use Rattle.parse_base.specs.Language.{Language}
use Rattle.parse_base.specs.Terminals.{a_sign, a_name}
use Rattle.parse_base.proofs.Laws.{Exact, Implies, anything, one_exact, both_exact, after_exact, made_exact, choose_exact, counted_exact, or_cases}
use Rattle.parse_base.proofs.Seen.{sees, not_true}
use Rattle.parse_base.proofs.Readings.{Whole}
use Rattle.parse_terms.specs.Words.{max_links}
use Rattle.parse_terms.specs.Types.{ListType, BracketedType, PlainType, TypeOf, NestedType, SpellsType, list_type, bracketed_type, plain_type, type_of, nested_type, read_type, begins_type, ends_type}

-- ---- what ends a type

pub rbracket_ends_type : Implies (starts (a_sign (codes "]"))) ends_type
unfolding ends_type starts
rbracket_ends_type ts e = let s = sees (codes "]") ts e in rw (s.is, s.kind_is) refl

pub rparen_ends_type : Implies (starts (a_sign (codes ")"))) ends_type
unfolding ends_type starts
rparen_ends_type ts e = let s = sees (codes ")") ts e in rw (s.is, s.kind_is) refl

type_no_mark : (ts : List Token) → ends_type ts ≡ true → starts (a_sign (codes "?")) ts ≡ false
unfolding ends_type
type_no_mark ts e = not_true _ e

bracket_no_name : (w : List ℕ) (ts : List Token) → starts (a_sign w) ts ≡ true → starts a_name ts ≡ false
unfolding starts
bracket_no_name w ts e = let s = sees w ts e in rw (s.is, s.kind_is) refl

paren_no_bracket : (ts : List Token) → starts (a_sign (codes "(")) ts ≡ true → starts (a_sign (codes "[")) ts ≡ false
unfolding starts
paren_no_bracket ts e = let s = sees (codes "(") ts e in rw (s.is, s.kind_is) refl

-- ---- each line of the grammar

module _ {n : ℕ} {t : Parser TypeName} {R Q : Language TypeName} (h : Exact 1 n t R Q begins_type ends_type) where
  list_exact : Exact 1 (suc n) (list_type t) (ListType R) (ListType Q) (starts (a_sign (codes "["))) anything
  unfolding list_type ListType
  list_exact = made_exact _ (after_exact (one_exact (suc n) (a_sign (codes "["))) (both_exact h (one_exact n (a_sign (codes "]"))) rbracket_ends_type) (λ ts e. refl))

  bracketed_exact : Exact 1 (suc n) (bracketed_type t) (BracketedType R) (BracketedType Q) (starts (a_sign (codes "("))) anything
  unfolding bracketed_type BracketedType
  bracketed_exact = made_exact _ (after_exact (one_exact (suc n) (a_sign (codes "("))) (both_exact h (one_exact n (a_sign (codes ")"))) rparen_ends_type) (λ ts e. refl))

  plain_exact : Exact 1 (suc n) (plain_type t) (PlainType R) (PlainType Q) begins_type anything
  unfolding plain_type PlainType begins_type
  plain_exact =
      choose_exact (made_exact _ (one_exact (suc n) a_name)) (choose_exact list_exact bracketed_exact (λ ts e. e) paren_no_bracket)
      (λ ts e. e) (λ ts e. or_cases _ _ e (bracket_no_name (codes "[") ts) (bracket_no_name (codes "(") ts))

  one_type_exact : Exact 1 (suc n) (type_of t) (TypeOf R) (TypeOf Q) begins_type ends_type
  unfolding type_of TypeOf
  one_type_exact = made_exact _ (both_exact plain_exact (counted_exact max_links (record { exact = one_exact (suc n) (a_sign (codes "?")); begin = λ ts e. e; next = λ ts e. refl; last = λ ts e. refl; stop = type_no_mark })) (λ ts e. refl))

-- ---- to any depth

abbrev TypeAt : ℕ → ℕ → Type 0
TypeAt n m = Exact 1 n (nested_type n) (NestedType n) (NestedType m) begins_type ends_type

-- at depth 0 nothing is said
types_at_0 : (n : ℕ) → TypeAt n 0
unfolding NestedType nested_type
types_at_0 zero = record { sound = λ ts x rest e. absurd cc; complete = λ ts x rest le d e. absurd d; takes = λ ts x rest d. absurd d; begins = λ ts x rest d e. absurd d }
types_at_0 (suc n) = record { sound = (one_type_exact (types_at_0 n)).sound; complete = λ ts x rest le d e. absurd d; takes = λ ts x rest d. absurd d; begins = λ ts x rest d e. absurd d }

types_next : (m : ℕ) → ((n : ℕ) → TypeAt n m) → (n : ℕ) → TypeAt n (suc m)
unfolding NestedType nested_type
types_next m known zero =
    let r = one_type_exact (known 0) in
    record { sound = λ ts x rest e. absurd cc; complete = λ ts x rest le d e. let t = r.takes ts x rest d in absurd (omega arith); takes = r.takes; begins = r.begins }
types_next m known (suc n) = one_type_exact (known n)

types_known : (m n : ℕ) → TypeAt n m
types_known zero n = types_at_0 n
types_known (suc m) n = types_next m (types_known m) n

pub type_exact : Whole 1 read_type SpellsType begins_type ends_type
unfolding read_type SpellsType
type_exact n = record {
  sound = λ ts x rest e. (length ts, (types_known 0 (length ts)).sound ts x rest e);
  complete = λ ts x rest le w e. (types_known w.0 (length ts)).complete ts x rest (omega arith) w.1 e;
  takes = λ ts x rest w. (types_known w.0 0).takes ts x rest w.1;
  begins = λ ts x rest w e. (types_known w.0 0).begins ts x rest w.1 e;
}
