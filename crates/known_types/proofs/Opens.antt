-- A turn of each loop over what has no written type.
use Rattle.std.proofs.Common.{◌≡◌, ℕ, zero, suc, ◌+◌, ◌<◌, ◌≤◌, cond, List, [], ◌∷◌, ◌++◌, Some, None, length, drop, refl, sym, ap, ◌∙◌, arith, slice_index_or, drop-cons, append_assoc, append-nil}
use Rattle.swift_ast.specs.declared.piece.Piece.{Piece}
use Rattle.swift_ast.specs.declared.piece.Member.{Member}
use Rattle.swift_ast.specs.declared.piece.Entry.{Entry}
use Rattle.type_table.specs.Along.{narrow}
use Rattle.type_table.specs.Heads.{declares, entries_of}
use Rattle.known_rules.specs.Known.{Open, opens_if, member_value, member_opens, entry_value, entry_opens, piece_opens, opens_from}

-- the two spellings of one more
pub suc-is : (i : ℕ) → suc i ≡ i + 1
suc-is i = omega arith

pub drop-turn : {X : Type 0} (xs : List X) (i : ℕ) (x : X) → i < length xs → x ≡ slice_index_or xs i x → drop i xs ≡ x ∷ drop (i + 1) xs
drop-turn xs i x lt e = drop-cons xs i x lt ∙ ap (λ y. y ∷ drop (suc i) xs) (sym e) ∙ ap (λ n. x ∷ drop n xs) (suc-is i)

pub drop_all : {X : Type 0} (xs : List X) (i : ℕ) → length xs ≤ i → drop i xs ≡ []
drop_all [] zero le = refl
drop_all [] (suc i) le = refl
drop_all (x ∷ xs) zero le = absurd (omega arith)
drop_all (x ∷ xs) (suc i) le = drop_all xs i (omega arith)

pub member_turn : (out : List Open) (d : ℕ) (ms : List Member) (i : ℕ) (m : Member) → i < length ms → m ≡ slice_index_or ms i m
    → out ++ member_opens d i (drop i ms) ≡ (out ++ opens_if (Some d) i (member_value m)) ++ member_opens d (i + 1) (drop (i + 1) ms)
member_turn out d ms i m lt e =
    ap (λ ys. out ++ member_opens d i ys) (drop-turn ms i m lt e)
    ∙ ap (λ n. out ++ (opens_if (Some d) i (member_value m) ++ member_opens d n (drop (i + 1) ms))) (suc-is i)
    ∙ sym (append_assoc out (opens_if (Some d) i (member_value m)) (member_opens d (i + 1) (drop (i + 1) ms)))

pub member_end : (out : List Open) (d : ℕ) (ms : List Member) (i : ℕ) → length ms ≤ i → out ++ member_opens d i (drop i ms) ≡ out
member_end out d ms i le = ap (λ ys. out ++ member_opens d i ys) (drop_all ms i le) ∙ append-nil out

pub entry_turn : (out : List Open) (at : ℕ) (es : List Entry) (i : ℕ) (e : Entry) → i < length es → e ≡ slice_index_or es i e
    → out ++ entry_opens at (drop i es) ≡ (out ++ opens_if None at (entry_value e)) ++ entry_opens (narrow (at + 1)) (drop (i + 1) es)
entry_turn out at es i e lt is =
    ap (λ ys. out ++ entry_opens at ys) (drop-turn es i e lt is)
    ∙ ap (λ n. out ++ (opens_if None at (entry_value e) ++ entry_opens (narrow n) (drop (i + 1) es))) (suc-is at)
    ∙ sym (append_assoc out (opens_if None at (entry_value e)) (entry_opens (narrow (at + 1)) (drop (i + 1) es)))

pub entry_end : (out : List Open) (at : ℕ) (es : List Entry) (i : ℕ) → length es ≤ i → out ++ entry_opens at (drop i es) ≡ out
entry_end out at es i le = ap (λ ys. out ++ entry_opens at ys) (drop_all es i le) ∙ append-nil out

pub opens_turn : (out : List Open) (d key : ℕ) (ps : List Piece) (i : ℕ) (p : Piece) → i < length ps → p ≡ slice_index_or ps i p
    → out ++ opens_from d key (drop i ps)
    ≡ (out ++ piece_opens d key p.form) ++ opens_from (d + cond (declares p) 1 0) (narrow (key + length (entries_of p))) (drop (i + 1) ps)
opens_turn out d key ps i p lt e =
    ap (λ ys. out ++ opens_from d key ys) (drop-turn ps i p lt e)
    ∙ sym (append_assoc out (piece_opens d key p.form) (opens_from (d + cond (declares p) 1 0) (narrow (key + length (entries_of p))) (drop (i + 1) ps)))

pub opens_end : (out : List Open) (d key : ℕ) (ps : List Piece) (i : ℕ) → length ps ≤ i → out ++ opens_from d key (drop i ps) ≡ out
opens_end out d key ps i le = ap (λ ys. out ++ opens_from d key ys) (drop_all ps i le) ∙ append-nil out
