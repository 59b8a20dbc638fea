-- Which tests of a statement's tokens shut each other out.
use Rattle.std.proofs.Common.{◌≡◌, ℕ, Bool, true, false, not, ◌||◌, ◌&&◌, List, [], ◌∷◌, refl, sym, subst, ◌∙◌, codes, inl, inr, ◌⊎◌}
use Rattle.std.specs.Prelude.{Option, Some, None, is_some}
use Rattle.std.specs.Str.{bytes_eq}
use Rattle.std.proofs.lemmas.Slice.Eq.{bytes_eq-Decides}
use Rattle.swift_lex.specs.declared.token.Token.{Token}
use Rattle.swift_lex.specs.declared.token.TokenKind.{TokenKind}
use Rattle.swift_lex.specs.declared.token.TokenKind.TheVariants as kind
use Rattle.swift_lex.specs.declared.token.Gap.TheVariants as gap
use Rattle.swift_ast.specs.declared.tree.ExprForm.{ExprForm}
use Rattle.swift_ast.specs.declared.tree.ExprForm.TheVariants as form
use Rattle.parse_base.specs.Tokens.{sign_of, is_sign, reserved_of, is_reserved, is_on_new_line}
use Rattle.parse_base.specs.Parser.{starts, starts_by}
use Rattle.parse_base.specs.Terminals.{only_if, a_sign, a_word, a_name, name_by, on_line, joined_next, is_even, sign_next, word_next, label_ahead}
use Rattle.parse_base.proofs.Laws.{Implies, or_cases, or_left, or_right}
use Rattle.parse_base.proofs.Seen.{Sees, sees, sees_word, SeesLabel, sees_label, SeesSecond, sees_sign_next, sign_is, word_is, gap_is, some_only, not_true, no_true, and_first, and_second, and_both, and_false, when_some}
use Rattle.parse_terms.specs.Words.{literal, a_literal, param_by, a_param, operator, a_prefix, a_force, tail_open, assign_by, an_assign, binder_word, binder_by, a_binder, jump_word, jump_by, a_jump}
use Rattle.parse_terms.specs.Types.{ends_type}
use Rattle.parse_expr.specs.Tests.{goes_on, ends_tail, ends_post, ends_level, ends_expr, begins_form, begins_prim, begins_expr, params_from, params_ahead, on_new_line, begins_stmt, stmt_next, next_stmt, begins_case, closes, else_if, else_brace, ends_condition, ends_stmt, close_next, last_semi}
use Rattle.parse_expr.proofs.Firsts.{Operands, prim_kinds, Off, expr_off, no_sign, no_word, sign_off, word_off, SeesPrefix, sees_prefix, comma_ends, brace_ends_head}

-- ---- assignment signs

assign_cases : (P : TokenKind → Type 0) (t : Token) (a b c d f g : Bool)
    → is_sign (codes "=") t ≡ a → is_sign (codes "+=") t ≡ b → is_sign (codes "-=") t ≡ c → is_sign (codes "*=") t ≡ d → is_sign (codes "/=") t ≡ f → is_sign (codes "%=") t ≡ g
    → P (kind.Sign (codes "=")) → P (kind.Sign (codes "+=")) → P (kind.Sign (codes "-=")) → P (kind.Sign (codes "*=")) → P (kind.Sign (codes "/=")) → P (kind.Sign (codes "%="))
    → is_some (assign_by t) ≡ true → P t.kind
assign_cases P t true b c d f g ea eb ec ed ef eg h1 h2 h3 h4 h5 h6 e = subst P (sym (sign_is _ _ ea)) h1
assign_cases P t false true c d f g ea eb ec ed ef eg h1 h2 h3 h4 h5 h6 e = subst P (sym (sign_is _ _ eb)) h2
assign_cases P t false false true d f g ea eb ec ed ef eg h1 h2 h3 h4 h5 h6 e = subst P (sym (sign_is _ _ ec)) h3
assign_cases P t false false false true f g ea eb ec ed ef eg h1 h2 h3 h4 h5 h6 e = subst P (sym (sign_is _ _ ed)) h4
assign_cases P t false false false false true g ea eb ec ed ef eg h1 h2 h3 h4 h5 h6 e = subst P (sym (sign_is _ _ ef)) h5
assign_cases P t false false false false false true ea eb ec ed ef eg h1 h2 h3 h4 h5 h6 e = subst P (sym (sign_is _ _ eg)) h6
assign_cases P t false false false false false false ea eb ec ed ef eg h1 h2 h3 h4 h5 h6 e = absurd (no_true (rw (ea, eb, ec, ed, ef, eg) at e))

-- it ends an expression where its kind does
EndsAt : List Token → TokenKind → Type 0
EndsAt ts k = (t : Token) → t.kind ≡ k → ends_expr true (t ∷ ts) ≡ true

pub assign_ends : Implies (starts an_assign) (ends_expr true)
unfolding ends_expr ends_level ends_post ends_tail label_ahead goes_on starts operator EndsAt
assign_ends [] e = absurd cc
assign_ends (t ∷ ts) e =
    assign_cases (EndsAt ts) t _ _ _ _ _ _ refl refl refl refl refl refl
    (λ u k. rw k refl) (λ u k. rw k refl) (λ u k. rw k refl) (λ u k. rw k refl) (λ u k. rw k refl) (λ u k. rw k refl)
    (when_some (assign_by t) (is_even t ts) e).0 t refl

-- ---- what stands behind a statement

pub stmt_ends_expr : Implies ends_stmt (ends_expr true)
unfolding ends_stmt
stmt_ends_expr ts e = and_first _ _ e

pub stmt_no_else : (ts : List Token) → ends_stmt ts ≡ true → starts (a_word (codes "else")) ts ≡ false
unfolding ends_stmt
stmt_no_else ts e = not_true _ (and_first _ _ (and_second (ends_expr true ts) _ e))

pub stmt_no_assign : (ts : List Token) → ends_stmt ts ≡ true → starts an_assign ts ≡ false
unfolding ends_stmt
stmt_no_assign ts e = not_true _ (and_first _ _ (and_second (not (starts (a_word (codes "else")) ts)) _ (and_second (ends_expr true ts) _ e)))

pub stmt_no_colon : (ts : List Token) → ends_stmt ts ≡ true → starts (a_sign (codes ":")) ts ≡ false
unfolding ends_stmt
stmt_no_colon ts e = not_true _ (and_second (not (starts an_assign ts)) _ (and_second (not (starts (a_word (codes "else")) ts)) _ (and_second (ends_expr true ts) _ e)))

pub else_ends_if : (ts : List Token) → ends_stmt ts ≡ true → else_if ts ≡ false
unfolding else_if
else_ends_if ts e = rw (stmt_no_else ts e) refl

pub brace_no_if : (ts : List Token) → else_brace ts ≡ true → else_if ts ≡ false
unfolding else_brace else_if starts
brace_no_if ts e =
    let s = sees_sign_next (codes "{") ts (and_second (starts (a_word (codes "else")) ts) _ e) in
    rw s.is (rw s.kind_is (and_false (starts (a_word (codes "else")) (s.token ∷ s.second ∷ s.rest))))

pub word_ends_stmt : (w : List ℕ) → bytes_eq w (codes "else") ≡ false → Implies (starts (a_word w)) ends_stmt
unfolding ends_stmt ends_expr ends_level ends_post ends_tail label_ahead goes_on starts operator
word_ends_stmt w h ts e = let s = sees_word w ts e in rw (s.is, s.kind_is, h) refl

brace_ends_stmt : Implies (starts (a_sign (codes "}"))) ends_stmt
unfolding ends_stmt ends_expr ends_level ends_post ends_tail label_ahead goes_on starts operator
brace_ends_stmt ts e = let s = sees (codes "}") ts e in rw (s.is, s.kind_is) refl

pub closes_ends_stmt : Implies closes ends_stmt
unfolding closes begins_case
closes_ends_stmt ts e =
    or_cases {P = ends_stmt ts ≡ true} _ _ e (brace_ends_stmt ts)
    (λ c. or_cases {P = ends_stmt ts ≡ true} _ _ c (word_ends_stmt (codes "case") refl ts) (word_ends_stmt (codes "default") refl ts))

pub semi_ends_stmt : Implies (starts (a_sign (codes ";"))) ends_stmt
unfolding ends_stmt ends_expr ends_level ends_post ends_tail label_ahead goes_on starts operator
semi_ends_stmt ts e = let s = sees (codes ";") ts e in rw (s.is, s.kind_is) refl

-- ---- the words that begin a statement

binder_kind : (k : TokenKind) → is_some (binder_by k) ≡ true → (k ≡ kind.Reserved (codes "let")) ⊎ (k ≡ kind.Reserved (codes "var"))
binder_kind (kind.Reserved w) e = binder_is w _ _ refl refl e where
  binder_is : (w : List ℕ) (a b : Bool) → bytes_eq w (codes "let") ≡ a → bytes_eq w (codes "var") ≡ b → is_some (binder_word w) ≡ true → (kind.Reserved w ≡ kind.Reserved (codes "let")) ⊎ (kind.Reserved w ≡ kind.Reserved (codes "var"))
  binder_is w true b ea eb e = inl (word_is (codes "let") (kind.Reserved w) ea)
  binder_is w false true ea eb e = inr (word_is (codes "var") (kind.Reserved w) eb)
  binder_is w false false ea eb e = absurd (no_true (rw (ea, eb) at e))
binder_kind (kind.Name w) e = absurd cc
binder_kind (kind.Dollar w) e = absurd cc
binder_kind (kind.AtName w) e = absurd cc
binder_kind (kind.HashName w) e = absurd cc
binder_kind (kind.Sign w) e = absurd cc
binder_kind (kind.Int n) e = absurd cc
binder_kind kind.StrOpen e = absurd cc
binder_kind (kind.StrText w) e = absurd cc
binder_kind kind.StrHole e = absurd cc
binder_kind kind.StrClose e = absurd cc

jump_kind : (k : TokenKind) → is_some (jump_by k) ≡ true → (k ≡ kind.Reserved (codes "break")) ⊎ (k ≡ kind.Reserved (codes "continue"))
jump_kind (kind.Reserved w) e = jump_is w _ _ refl refl e where
  jump_is : (w : List ℕ) (a b : Bool) → bytes_eq w (codes "break") ≡ a → bytes_eq w (codes "continue") ≡ b → is_some (jump_word w) ≡ true → (kind.Reserved w ≡ kind.Reserved (codes "break")) ⊎ (kind.Reserved w ≡ kind.Reserved (codes "continue"))
  jump_is w true b ea eb e = inl (word_is (codes "break") (kind.Reserved w) ea)
  jump_is w false true ea eb e = inr (word_is (codes "continue") (kind.Reserved w) eb)
  jump_is w false false ea eb e = absurd (no_true (rw (ea, eb) at e))
jump_kind (kind.Name w) e = absurd cc
jump_kind (kind.Dollar w) e = absurd cc
jump_kind (kind.AtName w) e = absurd cc
jump_kind (kind.HashName w) e = absurd cc
jump_kind (kind.Sign w) e = absurd cc
jump_kind (kind.Int n) e = absurd cc
jump_kind kind.StrOpen e = absurd cc
jump_kind (kind.StrText w) e = absurd cc
jump_kind kind.StrHole e = absurd cc
jump_kind kind.StrClose e = absurd cc

starts_word : (w : List ℕ) (t : Token) (ts : List Token) → t.kind ≡ kind.Reserved w → bytes_eq w w ≡ true → starts (a_word w) (t ∷ ts) ≡ true
unfolding starts
starts_word w t ts k e = rw (k, e) refl

pub binder_cases : (ts : List Token) → starts a_binder ts ≡ true → (starts (a_word (codes "let")) ts ≡ true) ⊎ (starts (a_word (codes "var")) ts ≡ true)
unfolding starts
binder_cases [] e = absurd cc
binder_cases (t ∷ ts) e = elim (binder_kind t.kind e) [ inl k ↦ inl (starts_word (codes "let") t ts k refl) | inr k ↦ inr (starts_word (codes "var") t ts k refl) ]

pub jump_cases : (ts : List Token) → starts a_jump ts ≡ true → (starts (a_word (codes "break")) ts ≡ true) ⊎ (starts (a_word (codes "continue")) ts ≡ true)
unfolding starts
jump_cases [] e = absurd cc
jump_cases (t ∷ ts) e = elim (jump_kind t.kind e) [ inl k ↦ inl (starts_word (codes "break") t ts k refl) | inr k ↦ inr (starts_word (codes "continue") t ts k refl) ]

-- a statement begins with a word other than `else`, or as an expression
pub stmt_cases : {P : Type 0} (ts : List Token) → begins_stmt ts ≡ true → ((w : List ℕ) → bytes_eq w (codes "else") ≡ false → starts (a_word w) ts ≡ true → P) → (begins_expr ts ≡ true → P) → P
unfolding begins_stmt
stmt_cases {P = P} ts e f g =
    or_cases {P = P} _ _ e (λ a. elim (binder_cases ts a) [ inl b ↦ f (codes "let") refl b | inr b ↦ f (codes "var") refl b ])
    (λ c. or_cases {P = P} _ _ c (f (codes "return") refl)
    (λ d. or_cases {P = P} _ _ d (λ a. elim (jump_cases ts a) [ inl b ↦ f (codes "break") refl b | inr b ↦ f (codes "continue") refl b ])
    (λ h. or_cases {P = P} _ _ h (f (codes "if") refl)
    (λ i. or_cases {P = P} _ _ i (f (codes "switch") refl)
    (λ j. or_cases {P = P} _ _ j (f (codes "for") refl)
    (λ k. or_cases {P = P} _ _ k (f (codes "while") refl) g))))))

-- ---- tests of the first kind

abbrev kind_test : (TokenKind → Bool) → List Token → Bool
kind_test g [] = false
kind_test g (t ∷ ts) = g t.kind

word_test : (w : List ℕ) (ts : List Token) → kind_test (reserved_of w) ts ≡ false → starts (a_word w) ts ≡ false
unfolding starts
word_test w [] e = refl
word_test w (t ∷ ts) e = rw e refl

binder_test : (ts : List Token) → kind_test (λ k. is_some (binder_by k)) ts ≡ false → starts a_binder ts ≡ false
unfolding starts
binder_test [] e = refl
binder_test (t ∷ ts) e = e

jump_test : (ts : List Token) → kind_test (λ k. is_some (jump_by k)) ts ≡ false → starts a_jump ts ≡ false
unfolding starts
jump_test [] e = refl
jump_test (t ∷ ts) e = e

module _ (g : TokenKind → Bool) where
  expr_quiet : Off g → (ts : List Token) → begins_expr ts ≡ true → kind_test g ts ≡ false
  expr_quiet o [] e = refl
  expr_quiet o (t ∷ ts) e = expr_off g o t ts e

  word_quiet : (w : List ℕ) → g (kind.Reserved w) ≡ false → (ts : List Token) → starts (a_word w) ts ≡ true → kind_test g ts ≡ false
  word_quiet w h ts e = let s = sees_word w ts e in rw (s.is, s.kind_is) h

  while_quiet : Off g → g (kind.Reserved (codes "while")) ≡ false → (ts : List Token) → (starts (a_word (codes "while")) ts || begins_expr ts) ≡ true → kind_test g ts ≡ false
  while_quiet o h ts e = or_cases {P = kind_test g ts ≡ false} _ _ e (word_quiet (codes "while") h ts) (expr_quiet o ts)

  for_quiet : Off g → g (kind.Reserved (codes "while")) ≡ false → g (kind.Reserved (codes "for")) ≡ false → (ts : List Token) → (starts (a_word (codes "for")) ts || (starts (a_word (codes "while")) ts || begins_expr ts)) ≡ true → kind_test g ts ≡ false
  for_quiet o h i ts e = or_cases {P = kind_test g ts ≡ false} _ _ e (word_quiet (codes "for") i ts) (while_quiet o h ts)

  switch_quiet : Off g → g (kind.Reserved (codes "while")) ≡ false → g (kind.Reserved (codes "for")) ≡ false → g (kind.Reserved (codes "switch")) ≡ false
      → (ts : List Token) → (starts (a_word (codes "switch")) ts || (starts (a_word (codes "for")) ts || (starts (a_word (codes "while")) ts || begins_expr ts))) ≡ true → kind_test g ts ≡ false
  switch_quiet o h i j ts e = or_cases {P = kind_test g ts ≡ false} _ _ e (word_quiet (codes "switch") j ts) (for_quiet o h i ts)

  if_quiet : Off g → g (kind.Reserved (codes "while")) ≡ false → g (kind.Reserved (codes "for")) ≡ false → g (kind.Reserved (codes "switch")) ≡ false → g (kind.Reserved (codes "if")) ≡ false
      → (ts : List Token) → (starts (a_word (codes "if")) ts || (starts (a_word (codes "switch")) ts || (starts (a_word (codes "for")) ts || (starts (a_word (codes "while")) ts || begins_expr ts)))) ≡ true → kind_test g ts ≡ false
  if_quiet o h i j k ts e = or_cases {P = kind_test g ts ≡ false} _ _ e (word_quiet (codes "if") k ts) (switch_quiet o h i j ts)

  jump_quiet : Off g → g (kind.Reserved (codes "while")) ≡ false → g (kind.Reserved (codes "for")) ≡ false → g (kind.Reserved (codes "switch")) ≡ false → g (kind.Reserved (codes "if")) ≡ false
      → g (kind.Reserved (codes "break")) ≡ false → g (kind.Reserved (codes "continue")) ≡ false
      → (ts : List Token) → (starts a_jump ts || (starts (a_word (codes "if")) ts || (starts (a_word (codes "switch")) ts || (starts (a_word (codes "for")) ts || (starts (a_word (codes "while")) ts || begins_expr ts))))) ≡ true → kind_test g ts ≡ false
  jump_quiet o h i j k l m ts e =
      or_cases {P = kind_test g ts ≡ false} _ _ e (λ a. elim (jump_cases ts a) [ inl b ↦ word_quiet (codes "break") l ts b | inr b ↦ word_quiet (codes "continue") m ts b ]) (if_quiet o h i j k ts)

pub while_rest : (ts : List Token) → begins_expr ts ≡ true → starts (a_word (codes "while")) ts ≡ false
while_rest ts e = no_word (codes "while") (word_off (codes "while") (refl, refl, refl, refl)) ts e

pub for_rest : (ts : List Token) → (starts (a_word (codes "while")) ts || begins_expr ts) ≡ true → starts (a_word (codes "for")) ts ≡ false
for_rest ts e = word_test (codes "for") ts (while_quiet _ (word_off (codes "for") (refl, refl, refl, refl)) refl ts e)

pub switch_rest : (ts : List Token) → (starts (a_word (codes "for")) ts || (starts (a_word (codes "while")) ts || begins_expr ts)) ≡ true → starts (a_word (codes "switch")) ts ≡ false
switch_rest ts e = word_test (codes "switch") ts (for_quiet _ (word_off (codes "switch") (refl, refl, refl, refl)) refl refl ts e)

pub if_rest : (ts : List Token) → (starts (a_word (codes "switch")) ts || (starts (a_word (codes "for")) ts || (starts (a_word (codes "while")) ts || begins_expr ts))) ≡ true → starts (a_word (codes "if")) ts ≡ false
if_rest ts e = word_test (codes "if") ts (switch_quiet _ (word_off (codes "if") (refl, refl, refl, refl)) refl refl refl ts e)

jump_off : Off (λ k. is_some (jump_by k))
jump_off = record {
  operands = record { name = λ v. refl; dollar = λ v. refl; int = λ v. refl; true_is = refl; false_is = refl; nil_is = refl; self_is = refl; text = refl; dot = refl; bracket = refl; paren = refl };
  minus = refl;
  bang = refl;
}

pub jump_rest : (ts : List Token) → (starts (a_word (codes "if")) ts || (starts (a_word (codes "switch")) ts || (starts (a_word (codes "for")) ts || (starts (a_word (codes "while")) ts || begins_expr ts)))) ≡ true → starts a_jump ts ≡ false
jump_rest ts e = jump_test ts (if_quiet _ jump_off refl refl refl refl ts e)

pub return_rest : (ts : List Token) → (starts a_jump ts || (starts (a_word (codes "if")) ts || (starts (a_word (codes "switch")) ts || (starts (a_word (codes "for")) ts || (starts (a_word (codes "while")) ts || begins_expr ts))))) ≡ true → starts (a_word (codes "return")) ts ≡ false
return_rest ts e = word_test (codes "return") ts (jump_quiet _ (word_off (codes "return") (refl, refl, refl, refl)) refl refl refl refl refl refl ts e)

binder_off : Off (λ k. is_some (binder_by k))
binder_off = record {
  operands = record { name = λ v. refl; dollar = λ v. refl; int = λ v. refl; true_is = refl; false_is = refl; nil_is = refl; self_is = refl; text = refl; dot = refl; bracket = refl; paren = refl };
  minus = refl;
  bang = refl;
}

pub local_rest : (ts : List Token) → (starts (a_word (codes "return")) ts || (starts a_jump ts || (starts (a_word (codes "if")) ts || (starts (a_word (codes "switch")) ts || (starts (a_word (codes "for")) ts || (starts (a_word (codes "while")) ts || begins_expr ts)))))) ≡ true → starts a_binder ts ≡ false
local_rest ts e =
    binder_test ts (or_cases {P = kind_test (λ k. is_some (binder_by k)) ts ≡ false} _ _ e (word_quiet _ (codes "return") refl ts) (jump_quiet _ binder_off refl refl refl refl refl refl ts))

-- ---- conditions

pub comma_ends_condition : Implies (starts (a_sign (codes ","))) ends_condition
unfolding ends_condition
comma_ends_condition ts e = or_left _ _ e

pub brace_ends_condition : Implies (starts (a_sign (codes "{"))) ends_condition
unfolding ends_condition
brace_ends_condition ts e = or_right _ _ e

pub condition_ends_expr : Implies ends_condition (ends_expr false)
unfolding ends_condition
condition_ends_expr ts e = or_cases _ _ e (comma_ends false ts) (brace_ends_head ts)

pub condition_no_set : (ts : List Token) → ends_condition ts ≡ true → starts (a_sign (codes "=")) ts ≡ false
unfolding ends_condition starts
condition_no_set ts e = or_cases {P = starts (a_sign (codes "=")) ts ≡ false} _ _ e (λ a. let s = sees (codes ",") ts a in rw (s.is, s.kind_is) refl) (λ a. let s = sees (codes "{") ts a in rw (s.is, s.kind_is) refl)

pub expr_no_let : (ts : List Token) → begins_expr ts ≡ true → starts (a_word (codes "let")) ts ≡ false
expr_no_let ts e = no_word (codes "let") (word_off (codes "let") (refl, refl, refl, refl)) ts e

-- ---- cases

pub default_no_case : (ts : List Token) → starts (a_word (codes "default")) ts ≡ true → starts (a_word (codes "case")) ts ≡ false
unfolding starts
default_no_case ts e = let s = sees_word (codes "default") ts e in rw (s.is, s.kind_is) refl

pub case_closes : Implies begins_case closes
unfolding closes
case_closes ts e = or_right _ _ e

pub brace_no_case : (ts : List Token) → starts (a_sign (codes "}")) ts ≡ true → begins_case ts ≡ false
unfolding begins_case starts
brace_no_case ts e = let s = sees (codes "}") ts e in rw (s.is, s.kind_is) refl

-- ---- another statement

-- a statement that is no label
unfoldable pub fresh_stmt : List Token → Bool
fresh_stmt ts = begins_stmt ts && not (label_ahead ts)

-- what another statement begins with
unfoldable pub next_first : List Token → Bool
next_first ts = (starts (a_sign (codes ";")) ts && next_stmt ts) || (on_new_line ts && fresh_stmt ts)

new_line_gap : (t : Token) (ts : List Token) → on_new_line (t ∷ ts) ≡ true → t.gap ≡ gap.NewLine
new_line_gap t ts e = gap_is t.gap (and_first _ _ e)

no_dot : (t : Token) (ts : List Token) → on_new_line (t ∷ ts) ≡ true → t.kind ≡ kind.Sign (codes ".") → ⊥
no_dot t ts e k = no_true (sym (not_dot t k) ∙ and_second (is_on_new_line t) _ e) where
  not_dot : (t : Token) → t.kind ≡ kind.Sign (codes ".") → not (is_sign (codes ".") t) ≡ false
  not_dot t k = rw k refl

second_false : (a b : Bool) → a ≡ true → (a && b) ≡ false → b ≡ false
second_false a b e f = rw e at f

-- a new line, and no label: this kind ends a statement
EndsLine : List Token → TokenKind → Type 0
EndsLine ts k = (t : Token) → t.kind ≡ k → on_new_line (t ∷ ts) ≡ true → label_ahead (t ∷ ts) ≡ false → ends_stmt (t ∷ ts) ≡ true

name_ends_line : (ts : List Token) (w : List ℕ) → EndsLine ts (kind.Name w)
unfolding EndsLine ends_stmt ends_expr ends_level ends_post ends_tail label_ahead goes_on starts operator
name_ends_line ts w t k n l =
    let colon : sign_next (codes ":") (t ∷ ts) ≡ false = second_false (is_some (name_by t.kind)) _ (rw k refl) l in
    rw (k, colon) refl

operands_end_line : (ts : List Token) → Operands (EndsLine ts)
unfolding EndsLine ends_stmt ends_expr ends_level ends_post ends_tail label_ahead goes_on starts operator
operands_end_line ts = record {
  name = name_ends_line ts;
  dollar = λ w t k n l. rw k refl;
  int = λ w t k n l. rw k refl;
  true_is = λ t k n l. rw k refl;
  false_is = λ t k n l. rw k refl;
  nil_is = λ t k n l. rw k refl;
  self_is = λ t k n l. rw k refl;
  text = λ t k n l. rw k refl;
  dot = λ t k n l. absurd (no_dot t ts n k);
  bracket = λ t k n l. rw (k, new_line_gap t ts n) refl;
  paren = λ t k n l. rw (k, new_line_gap t ts n) refl;
}

prefix_on_new_line : (ts : List Token) → on_new_line ts ≡ true → starts a_prefix ts ≡ true → ends_stmt ts ≡ true
unfolding ends_stmt ends_expr ends_level ends_post ends_tail label_ahead goes_on starts operator
prefix_on_new_line ts nl p =
    let s = sees_prefix ts p in
    let g = new_line_gap s.token s.rest (subst (λ us. on_new_line us ≡ true) s.is nl) in
    elim s.kind_is [ inl k ↦ rw (s.is, k, g, s.joined) refl | inr k ↦ rw (s.is, k, g) refl ]

prim_on_new_line : (ts : List Token) → on_new_line ts ≡ true → label_ahead ts ≡ false → begins_prim ts ≡ true → ends_stmt ts ≡ true
unfolding EndsLine
prim_on_new_line [] nl l e = absurd cc
prim_on_new_line (t ∷ ts) nl l e = prim_kinds (EndsLine ts) (operands_end_line ts) t ts e t refl nl l

expr_on_new_line : (ts : List Token) → on_new_line ts ≡ true → label_ahead ts ≡ false → begins_expr ts ≡ true → ends_stmt ts ≡ true
unfolding begins_expr
expr_on_new_line ts nl l e = or_cases {P = ends_stmt ts ≡ true} _ _ e (prefix_on_new_line ts nl) (prim_on_new_line ts nl l)

pub next_ends_stmt : Implies next_first ends_stmt
unfolding next_first fresh_stmt
next_ends_stmt ts e =
    or_cases {P = ends_stmt ts ≡ true} _ _ e
    (λ s. semi_ends_stmt ts (and_first _ _ s))
    (λ n.
    let nl = and_first (on_new_line ts) _ n in
    let f = and_second (on_new_line ts) _ n in
    stmt_cases {P = ends_stmt ts ≡ true} ts (and_first _ _ f) (λ w h. word_ends_stmt w h ts) (expr_on_new_line ts nl (not_true _ (and_second (begins_stmt ts) _ f))))

pub next_is_next : Implies next_first next_stmt
unfolding next_first fresh_stmt next_stmt
next_is_next ts e =
    or_cases {P = next_stmt ts ≡ true} _ _ e (λ s. and_second (starts (a_sign (codes ";")) ts) _ s)
    (λ n. or_right (starts (a_sign (codes ";")) ts && stmt_next ts) (on_new_line ts && begins_stmt ts) (and_both (on_new_line ts) (begins_stmt ts) (and_first (on_new_line ts) _ n) (and_first (begins_stmt ts) _ (and_second (on_new_line ts) _ n))))

pub closes_no_stmt : (ts : List Token) → closes ts ≡ true → begins_stmt ts ≡ false
unfolding closes begins_case begins_stmt begins_expr begins_prim begins_form starts
closes_no_stmt ts e =
    or_cases {P = begins_stmt ts ≡ false} _ _ e (λ a. let s = sees (codes "}") ts a in rw (s.is, s.kind_is) refl)
    (λ c. or_cases {P = begins_stmt ts ≡ false} _ _ c (λ a. let s = sees_word (codes "case") ts a in rw (s.is, s.kind_is) refl) (λ a. let s = sees_word (codes "default") ts a in rw (s.is, s.kind_is) refl))

semi_no_stmt : (ts : List Token) → starts (a_sign (codes ";")) ts ≡ true → begins_stmt ts ≡ false
unfolding begins_stmt begins_expr begins_prim begins_form starts
semi_no_stmt ts e = let s = sees (codes ";") ts e in rw (s.is, s.kind_is) refl

pub closes_no_semi : (ts : List Token) → closes ts ≡ true → starts (a_sign (codes ";")) ts ≡ false
unfolding closes begins_case starts
closes_no_semi ts e =
    or_cases {P = starts (a_sign (codes ";")) ts ≡ false} _ _ e (λ a. let s = sees (codes "}") ts a in rw (s.is, s.kind_is) refl)
    (λ c. or_cases {P = starts (a_sign (codes ";")) ts ≡ false} _ _ c (λ a. let s = sees_word (codes "case") ts a in rw (s.is, s.kind_is) refl) (λ a. let s = sees_word (codes "default") ts a in rw (s.is, s.kind_is) refl))

pub closes_no_next : (ts : List Token) → closes ts ≡ true → next_stmt ts ≡ false
unfolding next_stmt
closes_no_next ts e = rw (closes_no_stmt ts e, closes_no_semi ts e) (and_false _)

close_no_next : (ts : List Token) → close_next ts ≡ true → stmt_next ts ≡ false
close_no_next [] e = refl
close_no_next (t ∷ ts) e = closes_no_stmt ts e

pub last_no_next : (ts : List Token) → last_semi ts ≡ true → next_stmt ts ≡ false
unfolding last_semi next_stmt
last_no_next ts e =
    let n = close_no_next ts (and_second (starts (a_sign (codes ";")) ts) _ e) in
    rw (semi_no_stmt ts (and_first _ _ e), n, and_false (starts (a_sign (codes ";")) ts)) (and_false _)

pub last_is_semi : Implies last_semi (starts (a_sign (codes ";")))
unfolding last_semi
last_is_semi ts e = and_first _ _ e

word_no_sign : (w v : List ℕ) (ts : List Token) → starts (a_word w) ts ≡ true → starts (a_sign v) ts ≡ false
unfolding starts
word_no_sign w v ts e = let s = sees_word w ts e in rw (s.is, s.kind_is) refl

-- ";" and then a statement on a new line are told apart
pub new_no_semi : (ts : List Token) → begins_stmt ts ≡ true → starts (a_sign (codes ";")) ts ≡ false
new_no_semi ts e =
    stmt_cases {P = starts (a_sign (codes ";")) ts ≡ false} ts e (λ w h. word_no_sign w (codes ";") ts)
    (no_sign (codes ";") (sign_off (codes ";") (refl, refl, refl, refl, refl)) ts)

-- ---- what stands behind an operand of one token

param_literal : (k : TokenKind) → is_some (param_by k) ≡ true → (f : ExprForm) × (literal k ≡ Some f)
param_literal (kind.Name w) e = (form.Name w, refl)
param_literal (kind.Dollar w) e = (form.Dollar w, refl)
param_literal (kind.AtName w) e = absurd cc
param_literal (kind.HashName w) e = absurd cc
param_literal (kind.Reserved w) e = absurd cc
param_literal (kind.Sign w) e = absurd cc
param_literal (kind.Int n) e = absurd cc
param_literal kind.StrOpen e = absurd cc
param_literal (kind.StrText w) e = absurd cc
param_literal kind.StrHole e = absurd cc
param_literal kind.StrClose e = absurd cc

-- a name, with or without a `$`
abbrev pub IsParam : Token → Type 0
IsParam t = is_some (param_by t.kind) ≡ true

pub param_form : (t : Token) → IsParam t → (f : ExprForm) × (literal t.kind ≡ Some f)
param_form t e = param_literal t.kind e

param_quiet : (g : TokenKind → Bool) → ((w : List ℕ) → g (kind.Name w) ≡ false) → ((w : List ℕ) → g (kind.Dollar w) ≡ false) → (k : TokenKind) → is_some (param_by k) ≡ true → g k ≡ false
param_quiet g a b (kind.Name w) e = a w
param_quiet g a b (kind.Dollar w) e = b w
param_quiet g a b (kind.AtName w) e = absurd cc
param_quiet g a b (kind.HashName w) e = absurd cc
param_quiet g a b (kind.Reserved w) e = absurd cc
param_quiet g a b (kind.Sign w) e = absurd cc
param_quiet g a b (kind.Int n) e = absurd cc
param_quiet g a b kind.StrOpen e = absurd cc
param_quiet g a b (kind.StrText w) e = absurd cc
param_quiet g a b kind.StrHole e = absurd cc
param_quiet g a b kind.StrClose e = absurd cc

pub param_no_word : (w : List ℕ) (t : Token) (us : List Token) → IsParam t → starts (a_word w) (t ∷ us) ≡ false
unfolding starts
param_no_word w t us e = rw (param_quiet (reserved_of w) (λ v. refl) (λ v. refl) t.kind e) refl

pub param_no_binder : (t : Token) (us : List Token) → IsParam t → starts a_binder (t ∷ us) ≡ false
unfolding starts
param_no_binder t us e = param_quiet (λ k. is_some (binder_by k)) (λ v. refl) (λ v. refl) t.kind e

pub param_no_jump : (t : Token) (us : List Token) → IsParam t → starts a_jump (t ∷ us) ≡ false
unfolding starts
param_no_jump t us e = param_quiet (λ k. is_some (jump_by k)) (λ v. refl) (λ v. refl) t.kind e

pub param_no_close : (t : Token) (us : List Token) → IsParam t → closes (t ∷ us) ≡ false
unfolding closes begins_case starts
param_no_close t us e =
    rw (param_quiet (sign_of (codes "}")) (λ v. refl) (λ v. refl) t.kind e, param_quiet (reserved_of (codes "case")) (λ v. refl) (λ v. refl) t.kind e, param_quiet (reserved_of (codes "default")) (λ v. refl) (λ v. refl) t.kind e) refl

pub record SeesParams (ts : List Token) : Type 0 where
  pub token : Token
  pub other : Token
  pub rest : List Token
  pub is : ts ≡ token ∷ other ∷ rest
  pub param_is : IsParam token
  pub other_is : (other.kind ≡ kind.Sign (codes ",")) ⊎ (other.kind ≡ kind.Reserved (codes "in"))

pub sees_params : (ts : List Token) → params_ahead ts ≡ true → SeesParams ts
unfolding params_ahead params_from starts
sees_params [] e = absurd cc
sees_params (t ∷ []) e = absurd (no_true (and_second (is_some (param_by t.kind)) false e))
sees_params (t ∷ u ∷ us) e =
    let c = and_second (is_some (param_by t.kind)) (is_reserved (codes "in") u || (is_sign (codes ",") u && params_from false us)) e in
    record {
      token = t;
      other = u;
      rest = us;
      is = refl;
      param_is = and_first _ _ e;
      other_is = or_cases {P = (u.kind ≡ kind.Sign (codes ",")) ⊎ (u.kind ≡ kind.Reserved (codes "in"))} _ _ c (λ a. inr (word_is (codes "in") u.kind a)) (λ a. inl (sign_is (codes ",") u.kind (and_first _ _ a)));
    }

-- "," or "in" or ":"
abbrev pub IsOther : Token → Type 0
IsOther u = (u.kind ≡ kind.Sign (codes ",")) ⊎ ((u.kind ≡ kind.Reserved (codes "in")) ⊎ (u.kind ≡ kind.Sign (codes ":")))

other_cases : (P : TokenKind → Type 0) (u : Token) → IsOther u → P (kind.Sign (codes ",")) → P (kind.Reserved (codes "in")) → P (kind.Sign (codes ":")) → P u.kind
other_cases P u k a b c = elim k [ inl e ↦ subst P (sym e) a | inr d ↦ elim d [ inl e ↦ subst P (sym e) b | inr e ↦ subst P (sym e) c ] ]

module _ (u : Token) (us : List Token) (k : IsOther u) where
  pub other_ends : ends_expr true (u ∷ us) ≡ true
  unfolding ends_expr ends_level ends_post ends_tail label_ahead goes_on starts operator
  other_ends = elim k [ inl e ↦ rw e refl | inr d ↦ elim d [ inl e ↦ rw e refl | inr e ↦ rw e refl ] ]

  other_no_stmt : begins_stmt (u ∷ us) ≡ false
  unfolding begins_stmt begins_expr begins_prim begins_form starts
  other_no_stmt = elim k [ inl e ↦ rw e refl | inr d ↦ elim d [ inl e ↦ rw e refl | inr e ↦ rw e refl ] ]

  other_no_semi : starts (a_sign (codes ";")) (u ∷ us) ≡ false
  unfolding starts
  other_no_semi = elim k [ inl e ↦ rw e refl | inr d ↦ elim d [ inl e ↦ rw e refl | inr e ↦ rw e refl ] ]

  pub other_no_assign : starts an_assign (u ∷ us) ≡ false
  unfolding starts
  other_no_assign = elim k [ inl e ↦ rw e refl | inr d ↦ elim d [ inl e ↦ rw e refl | inr e ↦ rw e refl ] ]

  pub other_no_close : closes (u ∷ us) ≡ false
  unfolding closes begins_case starts
  other_no_close = elim k [ inl e ↦ rw e refl | inr d ↦ elim d [ inl e ↦ rw e refl | inr e ↦ rw e refl ] ]

  pub other_no_next : next_stmt (u ∷ us) ≡ false
  unfolding next_stmt
  other_no_next = rw (other_no_stmt, other_no_semi) (and_false (on_new_line (u ∷ us)))

  pub other_no_first : next_first (u ∷ us) ≡ false
  unfolding next_first fresh_stmt
  other_no_first = rw (other_no_stmt, other_no_semi) (and_false (on_new_line (u ∷ us)))

  pub other_no_last : last_semi (u ∷ us) ≡ false
  unfolding last_semi
  other_no_last = rw other_no_semi refl

pub name_is_param : (t : Token) (w : List ℕ) → t.kind ≡ kind.Name w → IsParam t
name_is_param t w e = rw e refl

pub colon_no_stmt_end : (u : Token) (us : List Token) → u.kind ≡ kind.Sign (codes ":") → ends_stmt (u ∷ us) ≡ false
unfolding ends_stmt ends_expr ends_level ends_post ends_tail label_ahead goes_on starts operator
colon_no_stmt_end u us e = rw e refl

-- ---- the type of a local

pub set_ends_type : Implies (starts (a_sign (codes "="))) ends_type
unfolding ends_type starts
set_ends_type ts e = let s = sees (codes "=") ts e in rw (s.is, s.kind_is) refl

pub set_no_colon : (ts : List Token) → starts (a_sign (codes "=")) ts ≡ true → starts (a_sign (codes ":")) ts ≡ false
unfolding starts
set_no_colon ts e = let s = sees (codes "=") ts e in rw (s.is, s.kind_is) refl

pub colon_no_comma : (ts : List Token) → starts (a_sign (codes ":")) ts ≡ true → starts (a_sign (codes ",")) ts ≡ false
unfolding starts
colon_no_comma ts e = let s = sees (codes ":") ts e in rw (s.is, s.kind_is) refl
