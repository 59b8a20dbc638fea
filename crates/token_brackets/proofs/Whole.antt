-- That the questions over a whole text have one answer.
use Rattle.std.proofs.Common.{◌≡◌, ℕ, zero, suc, ◌+◌, ◌<◌, ◌≤◌, length, take, drop, arith, List, [], ◌∷◌, ◌++◌, refl, sym, ap, subst, ◌∙◌, length-append}
use Rattle.std.specs.Prelude.{Option, Some, None}
use Rattle.swift_lex.specs.declared.token.Token.{Token}
use Rattle.token_brackets.specs.Balance.{Balanced, none, Unbalanced}
use Rattle.token_brackets.specs.Machine.{walk, fault_line}
use Rattle.token_brackets.specs.Piece as piece
use Rattle.token_brackets.specs.Piece.{FirstPiece, Pieces, more}
use Rattle.token_brackets.specs.PieceLength.{piece_len}
use Rattle.token_brackets.proofs.Walks.{only_by, walk_all}
use Rattle.token_brackets.proofs.Cuts.{CutAt, cut_of, len_first, take_front, drop_front, some_first}

balanced_none : (ts : List Token) → Balanced ts → fault_line (walk [] ts) ≡ None
balanced_none ts b = ap fault_line (walk_all (none b))

pub never_both : (ts : List Token) (line : ℕ) → Balanced ts → Unbalanced ts line → ⊥
never_both ts line b u = no_some line (sym (balanced_none ts b) ∙ only_by ts line u)
  where
    no_some : (n : ℕ) → ◌≡◌ {A = Option ℕ} None (Some n) → ⊥
    no_some n e = cc

some_line : (a b : ℕ) → ◌≡◌ {A = Option ℕ} (Some a) (Some b) → a ≡ b
some_line a b e = cc

pub one_unbalanced : (ts : List Token) (a b : ℕ) → Unbalanced ts a → Unbalanced ts b → a ≡ b
one_unbalanced ts a b u v = some_line a b (sym (only_by ts a u) ∙ only_by ts b v)

-- ---- pieces

same_size : {p q r s : List Token} → FirstPiece p r → FirstPiece q s → p ++ r ≡ q ++ s → length p ≡ length q
same_size f g e = sym (len_first f) ∙ ap piece_len e ∙ len_first g

same_first : {p q r s : List Token} → FirstPiece p r → FirstPiece q s → p ++ r ≡ q ++ s → p ≡ q
same_first {p} {q} {r} {s} f g e =
    sym (take_front p r) ∙ ap (λ (v : List Token). take (length p) v) e ∙ ap (λ n. take n (q ++ s)) (same_size f g e) ∙ take_front q s

same_rest : {p q r s : List Token} → FirstPiece p r → FirstPiece q s → p ++ r ≡ q ++ s → r ≡ s
same_rest {p} {q} {r} {s} f g e =
    sym (drop_front p r) ∙ ap (λ (v : List Token). drop (length p) v) e ∙ ap (λ n. drop n (q ++ s)) (same_size f g e) ∙ drop_front q s

one_cut_by : {ts us : List Token} {ps qs : List (List Token)} → Pieces ts ps → Pieces us qs → ts ≡ us → ps ≡ qs
one_cut_by piece.none piece.none e = refl
one_cut_by piece.none (more first p rest f later) e = absurd cc
one_cut_by (more first p rest f later) piece.none e = absurd cc
one_cut_by (more first p rest {pieces = ps} f later) (more first' p' rest' f' later') e =
    let tail = one_cut_by later later' (same_rest f f' e) in
    let head = same_first f f' e in
    ap (λ (v : List Token). v ∷ ps) head ∙ ap (λ (v : List (List Token)). (first' ∷ p') ∷ v) tail

pub one_cut : {ts : List Token} {ps qs : List (List Token)} → Pieces ts ps → Pieces ts qs → ps ≡ qs
one_cut a b = one_cut_by a b refl

cut_more : (n : ℕ) (ts piece rest : List Token) → ts ≡ piece ++ rest → FirstPiece piece rest → 0 < length piece
    → (ps : List (List Token)) × Pieces rest ps → (ps : List (List Token)) × Pieces ts ps
cut_more n ts [] rest is f some later = absurd (omega arith)
cut_more n ts (t ∷ p) rest is f some later = ((t ∷ p) ∷ later.0, subst (λ (v : List Token). Pieces v ((t ∷ p) ∷ later.0)) (sym is) (more t p rest f later.1))

-- a balanced text is cut into pieces
pub cut_all : (n : ℕ) (ts : List Token) → length ts ≤ n → Balanced ts → (ps : List (List Token)) × Pieces ts ps
cut_all n [] le b = ([], piece.none)
cut_all zero (t ∷ ts) le b = absurd (omega arith)
cut_all (suc n) (t ∷ ts) le b =
    let c = cut_of (t ∷ ts) b in
    let some : 0 < length (c.piece ++ c.rest) = subst (λ (v : List Token). 0 < length v) c.is (omega arith) in
    let first : 0 < length c.piece = some_first c.piece c.rest c.first some in
    let sizes : length (t ∷ ts) ≡ length (c.piece ++ c.rest) = ap (λ (v : List Token). length v) c.is in
    let both = length-append c.piece c.rest in
    cut_more n (t ∷ ts) c.piece c.rest c.is c.first first (cut_all n c.rest (omega (arith, sizes, both)) c.behind)
