-- Which tests of an expression's tokens shut each other out.
use Rattle.std.proofs.Common.{◌≡◌, ℕ, zero, suc, ◌<◌, ◌≤◌, Bool, true, false, not, cond, ◌||◌, ◌&&◌, List, [], ◌∷◌, refl, sym, ap, subst, ◌∙◌, codes, inl, inr, ◌⊎◌, arith}
use Rattle.std.specs.Prelude.{ℤ, Option, Some, None, is_some, nat_eq}
use Rattle.std.specs.Str.{bytes_eq}
use Rattle.std.proofs.lemmas.Slice.Eq.{bytes_eq-Decides}
use Rattle.std.proofs.lemmas.Bool.{ne_eqb, eqb-true}
use Rattle.swift_lex.specs.declared.token.Token.{Token}
use Rattle.swift_lex.specs.declared.token.TokenKind.{TokenKind}
use Rattle.swift_lex.specs.declared.token.TokenKind.TheVariants as kind
use Rattle.swift_ast.specs.declared.tree.BinarySign.{BinarySign}
use Rattle.swift_ast.specs.declared.tree.ExprForm.{ExprForm}
use Rattle.swift_ast.specs.declared.tree.Part.TheVariants as part
use Rattle.parse_base.specs.Tokens.{sign_of, is_sign, is_joined, reserved_of, is_reserved, opens_string}
use Rattle.parse_base.specs.Parser.{Terminal, starts, starts_by}
use Rattle.parse_base.specs.Terminals.{only_if, when, a_sign, a_word, name_by, a_name, a_text, string_open, hole_open, string_close, on_line, joined_next, is_even, sign_next, word_next, label_ahead}
use Rattle.parse_base.proofs.Laws.{Implies, or_cases, or_left, or_right}
use Rattle.parse_base.proofs.Seen.{Sees, sees, sees_word, sees_on_line, sees_open, sees_hole, sees_close, sees_name, sees_text, SeesLabel, sees_label, sees_sign_next, sees_word_next, sign_is, word_is, name_kind, only_some, some_only, not_true, no_true, and_first, and_second, and_both, and_false, when_some}
use Rattle.parse_terms.specs.Words.{literal, word_literal, a_literal, param_by, a_param, a_selector, operators, op_by, op_of, operator, at_level, an_op, prefix_by, a_prefix, a_force, tail_open}
use Rattle.parse_expr.specs.Tests.{string_goes_on, goes_on, ends_tail, ends_post, ends_level, ends_expr, begins_form, begins_prim, begins_expr, can_begin, params_from, params_ahead, begins_arg, ends_arg}

pub sees_tail : (tails : Bool) (ts : List Token) → starts (tail_open tails) ts ≡ true → Sees (kind.Sign (codes "{")) ts
unfolding starts
sees_tail tails [] e = absurd cc
sees_tail tails (t ∷ ts) e = record { token = t; rest = ts; is = refl; kind_is = sign_is (codes "{") t.kind (and_first (is_sign (codes "{") t) _ (some_only _ tt e)) }

pub sees_force : (ts : List Token) → starts a_force ts ≡ true → Sees (kind.Sign (codes "!")) ts
unfolding starts
sees_force [] e = absurd cc
sees_force (t ∷ ts) e = record { token = t; rest = ts; is = refl; kind_is = sign_is (codes "!") t.kind (and_first (is_sign (codes "!") t) (is_joined t) (some_only _ part.Force e)) }

-- ---- signs that end an expression

module _ (tails : Bool) where
  pub rparen_ends : Implies (starts (a_sign (codes ")"))) (ends_expr tails)
  unfolding ends_expr ends_level ends_post ends_tail label_ahead goes_on starts operator
  rparen_ends ts e = let s = sees (codes ")") ts e in rw (s.is, s.kind_is) refl

  pub rbracket_ends : Implies (starts (a_sign (codes "]"))) (ends_expr tails)
  unfolding ends_expr ends_level ends_post ends_tail label_ahead goes_on starts operator
  rbracket_ends ts e = let s = sees (codes "]") ts e in rw (s.is, s.kind_is) refl

  pub comma_ends : Implies (starts (a_sign (codes ","))) (ends_expr tails)
  unfolding ends_expr ends_level ends_post ends_tail label_ahead goes_on starts operator
  comma_ends ts e = let s = sees (codes ",") ts e in rw (s.is, s.kind_is) refl

  pub colon_ends : Implies (starts (a_sign (codes ":"))) (ends_expr tails)
  unfolding ends_expr ends_level ends_post ends_tail label_ahead goes_on starts operator
  colon_ends ts e = let s = sees (codes ":") ts e in rw (s.is, s.kind_is) refl

  pub question_ends : Implies (starts (a_sign (codes "?"))) (ends_level tails 7)
  unfolding ends_level ends_post ends_tail label_ahead goes_on starts operator
  question_ends ts e = let s = sees (codes "?") ts e in rw (s.is, s.kind_is) refl

  pub expr_ends_level : Implies (ends_expr tails) (ends_level tails 7)
  unfolding ends_expr
  expr_ends_level ts e = and_first _ _ e

  pub no_question : (ts : List Token) → ends_expr tails ts ≡ true → starts (a_sign (codes "?")) ts ≡ false
  unfolding ends_expr
  no_question ts e = not_true _ (and_second (ends_level tails 7 ts) _ e)

  pub post_stops : (ts : List Token) → ends_post tails ts ≡ true → goes_on tails ts ≡ false
  unfolding ends_post
  post_stops ts e = not_true _ (and_first _ _ e)

  pub post_ends_tail : Implies (ends_post tails) ends_tail
  unfolding ends_post
  post_ends_tail ts e = and_second (not (goes_on tails ts)) _ e

  pub level_ends : (k : ℕ) → Implies (ends_level tails (suc k)) (ends_level tails k)
  unfolding ends_level
  level_ends k ts e = and_first _ _ e

  pub level_stops : (k : ℕ) (ts : List Token) → ends_level tails (suc k) ts ≡ true → starts (an_op (suc k)) ts ≡ false
  unfolding ends_level
  level_stops k ts e = not_true _ (and_second (ends_level tails k ts) _ e)

  -- a postfix part is no label
  pub part_ends_tail : Implies (goes_on tails) ends_tail
  unfolding goes_on ends_tail label_ahead starts
  part_ends_tail ts e =
      or_cases {P = ends_tail ts ≡ true} _ _ e (λ c. let s = sees_force ts c in rw (s.is, s.kind_is) refl)
      (λ c. or_cases {P = ends_tail ts ≡ true} _ _ c (λ d. let s = sees (codes ".") ts d in rw (s.is, s.kind_is) refl)
      (λ d. or_cases {P = ends_tail ts ≡ true} _ _ d (λ f. let s = sees_on_line (codes "[") ts f in rw (s.is, s.kind_is) refl)
      (λ f. or_cases {P = ends_tail ts ≡ true} _ _ f (λ g. let s = sees_on_line (codes "(") ts g in rw (s.is, s.kind_is) refl)
      (λ g. let s = sees_tail tails ts g in rw (s.is, s.kind_is) refl))))

pub brace_ends_head : Implies (starts (a_sign (codes "{"))) (ends_expr false)
unfolding ends_expr ends_level ends_post ends_tail label_ahead goes_on starts operator
brace_ends_head ts e = let s = sees (codes "{") ts e in rw (s.is, s.kind_is) refl

pub tail_no_label : (ts : List Token) → ends_tail ts ≡ true → label_ahead ts ≡ false
unfolding ends_tail
tail_no_label ts e = not_true _ e

-- ---- operators

-- a fact of each sign of a table
abbrev EachSign : (List ℕ → Type 0) → List (List ℕ × (BinarySign × ℕ)) → Type 0
EachSign P [] = Unit {0}
EachSign P (o ∷ os) = P o.0 × EachSign P os

op_case : (P : List ℕ → Type 0) (w : List ℕ) (o : List ℕ × (BinarySign × ℕ)) (other : Option (BinarySign × ℕ)) → P o.0 → (is_some other ≡ true → P w) → (b : Bool) → bytes_eq w o.0 ≡ b → is_some (cond b (Some o.1) other) ≡ true → P w
op_case P w o other this later true eb e = subst P (sym ((bytes_eq-Decides w o.0).0 eb)) this
op_case P w o other this later false eb e = later e

op_cases : (P : List ℕ → Type 0) (w : List ℕ) (os : List (List ℕ × (BinarySign × ℕ))) → EachSign P os → is_some (op_by os w) ≡ true → P w
op_cases P w [] h e = absurd cc
op_cases P w (o ∷ os) h e = op_case P w o (op_by os w) h.0 (op_cases P w os h.1) (bytes_eq w o.0) refl e

op_sign : (k : TokenKind) → is_some (op_of k) ≡ true → (w : List ℕ) × (k ≡ kind.Sign w) × (is_some (op_by operators w) ≡ true)
op_sign (kind.Sign w) e = (w, refl, e)
op_sign (kind.Name w) e = absurd cc
op_sign (kind.Dollar w) e = absurd cc
op_sign (kind.AtName w) e = absurd cc
op_sign (kind.HashName w) e = absurd cc
op_sign (kind.Reserved w) e = absurd cc
op_sign (kind.Int n) e = absurd cc
op_sign kind.StrOpen e = absurd cc
op_sign (kind.StrText w) e = absurd cc
op_sign kind.StrHole e = absurd cc
op_sign kind.StrClose e = absurd cc

-- an operator does not go on with an operand
OpEnds : Bool → Token → List Token → List ℕ → Type 0
OpEnds tails t ts w = t.kind ≡ kind.Sign w → ends_post tails (t ∷ ts) ≡ true

op_ends_post : (tails : Bool) (t : Token) (ts : List Token) → is_some (operator t) ≡ true → ends_post tails (t ∷ ts) ≡ true
unfolding ends_post ends_tail label_ahead goes_on starts operator OpEnds
op_ends_post tails t ts e =
    let s = op_sign t.kind e in
    op_cases (OpEnds tails t ts) s.0 operators
    ((λ k. rw k refl), ((λ k. rw k refl), ((λ k. rw k refl), ((λ k. rw k refl), ((λ k. rw k refl), ((λ k. rw k refl), ((λ k. rw k refl), ((λ k. rw k refl), ((λ k. rw k refl), ((λ k. rw k refl), ((λ k. rw k refl), ((λ k. rw k refl), ((λ k. rw k refl), ((λ k. rw k refl), ((λ k. rw k refl), ((λ k. rw k refl), tt)))))))))))))))) s.2 s.1

-- an operator of another rule does not go on with a rule below it
levels_end : (tails : Bool) (t : Token) (ts : List Token) (o : BinarySign × ℕ) → operator t ≡ Some o → ends_post tails (t ∷ ts) ≡ true → (k : ℕ) → k < o.1 → ends_level tails k (t ∷ ts) ≡ true
unfolding ends_level starts
levels_end tails t ts o e p zero lt = p
levels_end tails t ts o e p (suc k) lt =
    let below = levels_end tails t ts o e p k (omega arith) in
    let other : nat_eq o.1 (suc k) ≡ false = ne_eqb o.1 (suc k) (λ h. omega arith) in
    rw (below, e, other) refl

at_level_is : (k : ℕ) (o : Option (BinarySign × ℕ)) → is_some (at_level k o) ≡ true → (x : BinarySign × ℕ) × (o ≡ Some x) × (x.1 ≡ k)
at_level_is k None e = absurd cc
at_level_is k (Some x) e = (x, refl, eqb-true x.1 k (some_only _ x.0 e))

pub op_ends_level : (tails : Bool) (k : ℕ) → Implies (starts (an_op (suc k))) (ends_level tails k)
unfolding starts
op_ends_level tails k [] e = absurd cc
op_ends_level tails k (t ∷ ts) e =
    let w = when_some (at_level (suc k) (operator t)) (is_even t ts) e in
    let a = at_level_is (suc k) (operator t) w.0 in
    levels_end tails t ts a.0 a.1 (op_ends_post tails t ts (rw a.1 refl)) k (omega arith)

-- ---- what an expression begins with

prefix_is : (t : Token) (a b : Bool) → is_sign (codes "-") t ≡ a → is_sign (codes "!") t ≡ b → is_some (prefix_by t) ≡ true → (t.kind ≡ kind.Sign (codes "-")) ⊎ (t.kind ≡ kind.Sign (codes "!"))
prefix_is t true b ea eb e = inl (sign_is _ _ ea)
prefix_is t false true ea eb e = inr (sign_is _ _ eb)
prefix_is t false false ea eb e = absurd (no_true (rw (ea, eb) at e))

pub record SeesPrefix (ts : List Token) : Type 0 where
  pub token : Token
  pub rest : List Token
  pub is : ts ≡ token ∷ rest
  pub kind_is : (token.kind ≡ kind.Sign (codes "-")) ⊎ (token.kind ≡ kind.Sign (codes "!"))
  pub joined : joined_next rest ≡ true

pub sees_prefix : (ts : List Token) → starts a_prefix ts ≡ true → SeesPrefix ts
unfolding starts
sees_prefix [] e = absurd cc
sees_prefix (t ∷ ts) e =
    let w = when_some (prefix_by t) (joined_next ts) e in
    record { token = t; rest = ts; is = refl; kind_is = prefix_is t _ _ refl refl w.0; joined = w.1 }

-- a fact of each kind of token that begins an operand
pub record Operands (P : TokenKind → Type 0) : Type 0 where
  pub name : (w : List ℕ) → P (kind.Name w)
  pub dollar : (w : List ℕ) → P (kind.Dollar w)
  pub int : (n : ℤ) → P (kind.Int n)
  pub true_is : P (kind.Reserved (codes "true"))
  pub false_is : P (kind.Reserved (codes "false"))
  pub nil_is : P (kind.Reserved (codes "nil"))
  pub self_is : P (kind.Reserved (codes "self"))
  pub text : P kind.StrOpen
  pub dot : P (kind.Sign (codes "."))
  pub bracket : P (kind.Sign (codes "["))
  pub paren : P (kind.Sign (codes "("))

word_cases : (P : TokenKind → Type 0) → Operands P → (w : List ℕ) (a b c d : Bool) → bytes_eq w (codes "true") ≡ a → bytes_eq w (codes "false") ≡ b → bytes_eq w (codes "nil") ≡ c → bytes_eq w (codes "self") ≡ d
    → is_some (word_literal w) ≡ true → P (kind.Reserved w)
word_cases P o w true b c d ea eb ec ed e = subst (λ v. P (kind.Reserved v)) (sym ((bytes_eq-Decides w (codes "true")).0 ea)) o.true_is
word_cases P o w false true c d ea eb ec ed e = subst (λ v. P (kind.Reserved v)) (sym ((bytes_eq-Decides w (codes "false")).0 eb)) o.false_is
word_cases P o w false false true d ea eb ec ed e = subst (λ v. P (kind.Reserved v)) (sym ((bytes_eq-Decides w (codes "nil")).0 ec)) o.nil_is
word_cases P o w false false false true ea eb ec ed e = subst (λ v. P (kind.Reserved v)) (sym ((bytes_eq-Decides w (codes "self")).0 ed)) o.self_is
word_cases P o w false false false false ea eb ec ed e = absurd (no_true (rw (ea, eb, ec, ed) at e))

literal_cases : (P : TokenKind → Type 0) → Operands P → (k : TokenKind) → is_some (literal k) ≡ true → P k
literal_cases P o (kind.Name w) e = o.name w
literal_cases P o (kind.Dollar w) e = o.dollar w
literal_cases P o (kind.Int n) e = o.int n
literal_cases P o (kind.Reserved w) e = word_cases P o w _ _ _ _ refl refl refl refl e
literal_cases P o (kind.Sign w) e = absurd cc
literal_cases P o (kind.AtName w) e = absurd cc
literal_cases P o (kind.HashName w) e = absurd cc
literal_cases P o kind.StrOpen e = absurd cc
literal_cases P o (kind.StrText w) e = absurd cc
literal_cases P o kind.StrHole e = absurd cc
literal_cases P o kind.StrClose e = absurd cc

open_is : (k : TokenKind) → opens_string k ≡ true → k ≡ kind.StrOpen
open_is kind.StrOpen e = refl
open_is (kind.Name w) e = absurd cc
open_is (kind.Dollar v) e = absurd cc
open_is (kind.AtName v) e = absurd cc
open_is (kind.HashName v) e = absurd cc
open_is (kind.Reserved v) e = absurd cc
open_is (kind.Sign v) e = absurd cc
open_is (kind.Int v) e = absurd cc
open_is (kind.StrText v) e = absurd cc
open_is kind.StrHole e = absurd cc
open_is kind.StrClose e = absurd cc

form_kinds : (P : TokenKind → Type 0) → Operands P → (t : Token) (ts : List Token) → begins_form (t ∷ ts) ≡ true → P t.kind
unfolding begins_form starts
form_kinds P o t ts e =
    or_cases {P = P t.kind} _ _ e (literal_cases P o t.kind)
    (λ c. or_cases {P = P t.kind} _ _ c (λ d. subst P (sym (open_is t.kind (some_only _ tt d))) o.text)
    (λ d. or_cases {P = P t.kind} _ _ d (λ f. subst P (sym (sign_is (codes ".") t.kind (some_only _ tt f))) o.dot)
    (λ f. subst P (sym (sign_is (codes "[") t.kind (some_only _ tt f))) o.bracket)))

pub prim_kinds : (P : TokenKind → Type 0) → Operands P → (t : Token) (ts : List Token) → begins_prim (t ∷ ts) ≡ true → P t.kind
unfolding begins_prim starts
prim_kinds P o t ts e =
    or_cases {P = P t.kind} _ _ e (λ c. subst P (sym (sign_is (codes "(") t.kind (some_only _ tt c))) o.paren) (form_kinds P o t ts)

-- ---- tests of a kind that no expression begins with

pub record Off (f : TokenKind → Bool) : Type 0 where
  pub operands : Operands (λ k. f k ≡ false)
  pub minus : f (kind.Sign (codes "-")) ≡ false
  pub bang : f (kind.Sign (codes "!")) ≡ false

prefix_off : (f : TokenKind → Bool) → Off f → (t : Token) (ts : List Token) → starts a_prefix (t ∷ ts) ≡ true → f t.kind ≡ false
unfolding starts
prefix_off f o t ts e =
    let w = when_some (prefix_by t) (joined_next ts) e in
    elim (prefix_is t _ _ refl refl w.0) [ inl k ↦ subst (λ v. f v ≡ false) (sym k) o.minus | inr k ↦ subst (λ v. f v ≡ false) (sym k) o.bang ]

pub expr_off : (f : TokenKind → Bool) → Off f → (t : Token) (ts : List Token) → begins_expr (t ∷ ts) ≡ true → f t.kind ≡ false
unfolding begins_expr
expr_off f o t ts e = or_cases {P = f t.kind ≡ false} _ _ e (prefix_off f o t ts) (prim_kinds (λ k. f k ≡ false) o.operands t ts)

pub no_sign : (w : List ℕ) → Off (sign_of w) → (ts : List Token) → begins_expr ts ≡ true → starts (a_sign w) ts ≡ false
unfolding starts
no_sign w o [] e = refl
no_sign w o (t ∷ ts) e = rw (expr_off (sign_of w) o t ts e) refl

pub no_word : (w : List ℕ) → Off (reserved_of w) → (ts : List Token) → begins_expr ts ≡ true → starts (a_word w) ts ≡ false
unfolding starts
no_word w o [] e = refl
no_word w o (t ∷ ts) e = rw (expr_off (reserved_of w) o t ts e) refl

-- a sign that is none of those
abbrev pub OtherSign : List ℕ → Type 0
OtherSign w = (bytes_eq (codes ".") w ≡ false) × (bytes_eq (codes "[") w ≡ false) × (bytes_eq (codes "(") w ≡ false) × (bytes_eq (codes "-") w ≡ false) × (bytes_eq (codes "!") w ≡ false)

pub sign_off : (w : List ℕ) → OtherSign w → Off (sign_of w)
sign_off w h = record {
  operands = record { name = λ v. refl; dollar = λ v. refl; int = λ v. refl; true_is = refl; false_is = refl; nil_is = refl; self_is = refl; text = refl; dot = h.0; bracket = h.1; paren = h.2 };
  minus = h.3;
  bang = h.4;
}

-- a reserved word that is no value
abbrev pub OtherWord : List ℕ → Type 0
OtherWord w = (bytes_eq (codes "true") w ≡ false) × (bytes_eq (codes "false") w ≡ false) × (bytes_eq (codes "nil") w ≡ false) × (bytes_eq (codes "self") w ≡ false)

pub word_off : (w : List ℕ) → OtherWord w → Off (reserved_of w)
word_off w h = record {
  operands = record { name = λ v. refl; dollar = λ v. refl; int = λ v. refl; true_is = h.0; false_is = h.1; nil_is = h.2; self_is = h.3; text = refl; dot = refl; bracket = refl; paren = refl };
  minus = refl;
  bang = refl;
}

-- ---- operands

when_none : {A : Type 0} (o : Option A) (b : Bool) → is_some o ≡ false → is_some (when o b) ≡ false
when_none None b e = refl
when_none (Some x) b e = absurd cc

prefix_needs : (t : Token) (ts : List Token) → is_some (prefix_by t) ≡ false → starts a_prefix (t ∷ ts) ≡ false
unfolding starts
prefix_needs t ts e = when_none (prefix_by t) (joined_next ts) e

abbrev prefix_kind : TokenKind → Bool
prefix_kind k = sign_of (codes "-") k || sign_of (codes "!") k

prefix_by_kind : (t : Token) (a b : Bool) → is_sign (codes "-") t ≡ a → is_sign (codes "!") t ≡ b → (a || b) ≡ false → is_some (prefix_by t) ≡ false
prefix_by_kind t true b ea eb e = absurd cc
prefix_by_kind t false true ea eb e = absurd cc
prefix_by_kind t false false ea eb e = rw (ea, eb) refl

empty_no_prefix : starts a_prefix [] ≡ false
unfolding starts
empty_no_prefix = refl

pub prim_no_prefix : (ts : List Token) → begins_prim ts ≡ true → starts a_prefix ts ≡ false
prim_no_prefix [] e = empty_no_prefix
prim_no_prefix (t ∷ ts) e =
    prefix_needs t ts (prefix_by_kind t _ _ refl refl (prim_kinds (λ k. prefix_kind k ≡ false)
    (record { name = λ v. refl; dollar = λ v. refl; int = λ v. refl; true_is = refl; false_is = refl; nil_is = refl; self_is = refl; text = refl; dot = refl; bracket = refl; paren = refl }) t ts e))

literal_no_paren : (k : TokenKind) → is_some (literal k) ≡ true → sign_of (codes "(") k ≡ false
literal_no_paren (kind.Name w) e = refl
literal_no_paren (kind.Dollar w) e = refl
literal_no_paren (kind.Int n) e = refl
literal_no_paren (kind.Reserved w) e = refl
literal_no_paren (kind.Sign w) e = absurd cc
literal_no_paren (kind.AtName w) e = absurd cc
literal_no_paren (kind.HashName w) e = absurd cc
literal_no_paren kind.StrOpen e = absurd cc
literal_no_paren (kind.StrText w) e = absurd cc
literal_no_paren kind.StrHole e = absurd cc
literal_no_paren kind.StrClose e = absurd cc

pub form_no_paren : (ts : List Token) → begins_form ts ≡ true → starts (a_sign (codes "(")) ts ≡ false
unfolding begins_form starts
form_no_paren [] e = refl
form_no_paren (t ∷ ts) e =
    or_cases {P = starts (a_sign (codes "(")) (t ∷ ts) ≡ false} _ _ e
    (λ l. rw (literal_no_paren t.kind l) refl)
    (λ c. or_cases {P = starts (a_sign (codes "(")) (t ∷ ts) ≡ false} _ _ c (λ d. rw (open_is t.kind (some_only _ tt d)) refl)
    (λ d. or_cases {P = starts (a_sign (codes "(")) (t ∷ ts) ≡ false} _ _ d (λ f. rw (sign_is (codes ".") t.kind (some_only _ tt f)) refl)
    (λ f. rw (sign_is (codes "[") t.kind (some_only _ tt f)) refl)))

pub open_no_literal : (ts : List Token) → starts string_open ts ≡ true → starts a_literal ts ≡ false
unfolding starts
open_no_literal ts e = let s = sees_open ts e in rw (s.is, s.kind_is) refl

pub sign_no_literal : (w : List ℕ) (ts : List Token) → starts (a_sign w) ts ≡ true → starts a_literal ts ≡ false
unfolding starts
sign_no_literal w ts e = let s = sees w ts e in rw (s.is, s.kind_is) refl

pub sign_no_open : (w : List ℕ) (ts : List Token) → starts (a_sign w) ts ≡ true → starts string_open ts ≡ false
unfolding starts
sign_no_open w ts e = let s = sees w ts e in rw (s.is, s.kind_is) refl

pub sign_no_sign : (v w : List ℕ) → bytes_eq v w ≡ false → (ts : List Token) → starts (a_sign v) ts ≡ true → starts (a_sign w) ts ≡ false
unfolding starts
sign_no_sign v w h ts e = let s = sees v ts e in rw (s.is, s.kind_is, h) refl

pub hole_no_text : (ts : List Token) → starts hole_open ts ≡ true → starts a_text ts ≡ false
unfolding starts
hole_no_text ts e = let s = sees_hole ts e in rw (s.is, s.kind_is) refl

pub close_no_piece : (ts : List Token) → starts string_close ts ≡ true → string_goes_on ts ≡ false
unfolding starts string_goes_on
close_no_piece ts e = let s = sees_close ts e in rw (s.is, s.kind_is) refl

pub rbracket_no_expr : (ts : List Token) → starts (a_sign (codes "]")) ts ≡ true → begins_expr ts ≡ false
unfolding begins_expr begins_prim begins_form starts
rbracket_no_expr ts e = let s = sees (codes "]") ts e in rw (s.is, s.kind_is) refl

-- ---- the parts behind an operand

pub dot_no_force : (ts : List Token) → starts (a_sign (codes ".")) ts ≡ true → starts a_force ts ≡ false
unfolding starts
dot_no_force ts e = let s = sees (codes ".") ts e in rw (s.is, s.kind_is) refl

pub index_no_other : (ts : List Token) → starts (on_line (codes "[")) ts ≡ true → (starts a_force ts ≡ false) × (starts (a_sign (codes ".")) ts ≡ false)
unfolding starts
index_no_other ts e = let s = sees_on_line (codes "[") ts e in (rw (s.is, s.kind_is) refl, rw (s.is, s.kind_is) refl)

pub call_no_other : (ts : List Token) → starts (on_line (codes "(")) ts ≡ true → (starts a_force ts ≡ false) × (starts (a_sign (codes ".")) ts ≡ false) × (starts (on_line (codes "[")) ts ≡ false)
unfolding starts
call_no_other ts e = let s = sees_on_line (codes "(") ts e in (rw (s.is, s.kind_is) refl, rw (s.is, s.kind_is) refl, rw (s.is, s.kind_is) refl)

pub tail_no_other : (tails : Bool) (ts : List Token) → starts (tail_open tails) ts ≡ true → (starts a_force ts ≡ false) × (starts (a_sign (codes ".")) ts ≡ false) × (starts (on_line (codes "[")) ts ≡ false) × (starts (on_line (codes "(")) ts ≡ false)
unfolding starts
tail_no_other tails ts e = let s = sees_tail tails ts e in (rw (s.is, s.kind_is) refl, rw (s.is, s.kind_is) refl, rw (s.is, s.kind_is) refl, rw (s.is, s.kind_is) refl)

-- ---- closures and arguments

pub brace_no_expr : (ts : List Token) → begins_expr ts ≡ true → starts (a_sign (codes "{")) ts ≡ false
brace_no_expr ts e = no_sign (codes "{") (sign_off (codes "{") (refl, refl, refl, refl, refl)) ts e

pub value_no_key : (ts : List Token) → (starts (a_sign (codes "{")) ts || begins_expr ts) ≡ true → starts (a_sign (codes "\\")) ts ≡ false
value_no_key ts e = or_cases _ _ e (sign_no_sign (codes "{") (codes "\\") refl ts) (no_sign (codes "\\") (sign_off (codes "\\") (refl, refl, refl, refl, refl)) ts)

pub rparen_ends_arg : Implies (starts (a_sign (codes ")"))) ends_arg
unfolding ends_arg
rparen_ends_arg ts e = or_right _ _ e

pub comma_ends_arg : Implies (starts (a_sign (codes ","))) ends_arg
unfolding ends_arg
comma_ends_arg ts e = or_left _ _ e

pub arg_ends_expr : (tails : Bool) → Implies ends_arg (ends_expr tails)
unfolding ends_arg
arg_ends_expr tails ts e = or_cases _ _ e (comma_ends tails ts) (rparen_ends tails ts)

pub rparen_no_arg : (ts : List Token) → starts (a_sign (codes ")")) ts ≡ true → begins_arg ts ≡ false
unfolding begins_arg begins_expr begins_prim begins_form starts
rparen_no_arg ts e = let s = sees (codes ")") ts e in rw (s.is, s.kind_is) refl

pub in_no_comma : (ts : List Token) → starts (a_word (codes "in")) ts ≡ true → starts (a_sign (codes ",")) ts ≡ false
unfolding starts
in_no_comma ts e = let s = sees_word (codes "in") ts e in rw (s.is, s.kind_is) refl

pub label_no_sign : (w : List ℕ) (ts : List Token) → label_ahead ts ≡ true → starts (a_sign w) ts ≡ false
unfolding starts
label_no_sign w ts e = let s = sees_label ts e in rw (s.is, s.name_is) refl

pub colon_no_arg_end : (t : Token) (ts : List Token) → t.kind ≡ kind.Sign (codes ":") → ends_arg (t ∷ ts) ≡ false
unfolding ends_arg starts
colon_no_arg_end t ts e = rw e refl

pub label_begins_arg : Implies label_ahead begins_arg
unfolding begins_arg begins_expr begins_prim begins_form starts
label_begins_arg ts e = let s = sees_label ts e in rw (s.is, s.name_is) refl

pub expr_can_begin : (ts : List Token) → begins_expr ts ≡ true → can_begin ts ≡ true
unfolding begins_expr can_begin starts
expr_can_begin ts e =
    or_cases {P = can_begin ts ≡ true} _ _ e
    (λ p. let s = sees_prefix ts p in elim s.kind_is [
      | inl k ↦ or_right (begins_prim ts) _ (or_left (starts (a_sign (codes "-")) ts) _ (rw (s.is, k) refl))
      | inr k ↦ or_right (begins_prim ts) _ (or_right (starts (a_sign (codes "-")) ts) _ (rw (s.is, k) refl))
    ])
    (λ p. or_left _ _ p)

pub colon_ends_expr : (tails : Bool) (u : Token) (us : List Token) → u.kind ≡ kind.Sign (codes ":") → ends_expr tails (u ∷ us) ≡ true
unfolding ends_expr ends_level ends_post ends_tail label_ahead goes_on starts operator
colon_ends_expr tails u us e = rw e refl
