-- Texts of strings: which bytes are one, and the runs of text joined from the left.
use Rattle.std.proofs.Common.{◌≡◌, ℕ, zero, suc, ◌<◌, ◌≤◌, ◌+◌, Bool, true, false, List, [], ◌∷◌, ◌++◌, length, drop, Option, Some, None, slice_index_or, refl, sym, ap, ◌∙◌, arith, append_assoc}
use Rattle.std.proofs.lemmas.List.{append-nil}
use Rattle.std.proofs.lemmas.Str.{IsUtf8-from_is_utf8, is_utf8-from_IsUtf8}
use Rattle.std.specs.Str.{IsUtf8, is_utf8}
use Rattle.swift_ast.specs.declared.tree.StringPart.{StringPart, out-StringPart}
use Rattle.type_base.specs.Claims.{when}
use Rattle.expr_rules.specs.Ops.{text_of, text_at, joined_to}
use Rattle.type_ops.proofs.Turns.{opened, ended}

pub utf8_yes : (bs : List ℕ) → IsUtf8 bs → when (is_utf8 bs) (Some bs) ≡ Some bs
utf8_yes bs h = ap (λ b. when b (Some bs)) (is_utf8-from_IsUtf8 bs h)

not_utf8 : (bs : List ℕ) (b : Bool) → is_utf8 bs ≡ b → (IsUtf8 bs → ⊥) → when b (Some bs) ≡ None
not_utf8 bs true e h = absurd (h (IsUtf8-from_is_utf8 bs e))
not_utf8 bs false e h = refl

pub utf8_no : (bs : List ℕ) → (IsUtf8 bs → ⊥) → when (is_utf8 bs) (Some bs) ≡ None
utf8_no bs h = not_utf8 bs (is_utf8 bs) refl h

-- the bytes so far, and the text of the rest
abbrev pub TextRest : List StringPart → ℕ → List ℕ → Type 0
TextRest ss i bs = text_of ss ≡ joined_to (Some bs) (text_of (drop i ss))

from_nothing : (o : Option (List ℕ)) → o ≡ joined_to (Some []) o
from_nothing None = refl
from_nothing (Some w) = refl

pub text_start : (ss : List StringPart) → TextRest ss 0 []
text_start ss = from_nothing (text_of ss)

text_step : (ss : List StringPart) (i : ℕ) (s : StringPart) (o : Option (List ℕ)) → i < length ss → s ≡ slice_index_or ss i s → text_at (out-StringPart s) ≡ o
    → text_of (drop i ss) ≡ joined_to o (text_of (drop (i + 1) ss))
unfolding text_of
text_step ss i s o lt is w = ap text_of (opened ss i s lt is) ∙ ap (λ p. joined_to p (text_of (drop (i + 1) ss))) w

joined_twice : (v w : List ℕ) (o : Option (List ℕ)) → joined_to (Some v) (joined_to (Some w) o) ≡ joined_to (Some (v ++ w)) o
joined_twice v w None = refl
joined_twice v w (Some u) = ap Some (sym (append_assoc v w u))

pub text_turn : (ss : List StringPart) (i : ℕ) (bs w : List ℕ) (s : StringPart) → i < length ss → s ≡ slice_index_or ss i s → text_at (out-StringPart s) ≡ Some w
    → TextRest ss i bs → TextRest ss (i + 1) (bs ++ w)
text_turn ss i bs w s lt is e h = h ∙ ap (joined_to (Some bs)) (text_step ss i s (Some w) lt is e) ∙ joined_twice bs w _

pub text_none : (ss : List StringPart) (i : ℕ) (bs : List ℕ) (s : StringPart) → i < length ss → s ≡ slice_index_or ss i s → text_at (out-StringPart s) ≡ None
    → TextRest ss i bs → text_of ss ≡ None
text_none ss i bs s lt is e h = h ∙ ap (joined_to (Some bs)) (text_step ss i s None lt is e)

pub text_end : (ss : List StringPart) (i : ℕ) (bs : List ℕ) → length ss ≤ i → TextRest ss i bs → text_of ss ≡ Some bs
unfolding text_of
text_end ss i bs le h = h ∙ ap (λ xs. joined_to (Some bs) (text_of xs)) (ended ss i le) ∙ ap Some (append-nil bs)
