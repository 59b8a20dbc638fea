-- The loop over a piece, and what it says of the text.
use Rattle.std.proofs.Common.{◌≡◌, ℕ, zero, suc, ◌+◌, ◌-◌, ◌<◌, ◌≤◌, length, take, drop, get_or, drop-cons, arith, Bool, true, false, cond, ◌&&◌, List, [], ◌∷◌, ◌++◌, refl, sym, ap, subst, ◌∙◌, append_assoc, length-append, inl, inr, ◌⊎◌}
use Rattle.std.specs.Prelude.{Option, Some, None, nat_le, nat_eq}
use Rattle.std.proofs.lemmas.List.{append-nil}
use Rattle.std.proofs.lemmas.Bool.Decides.{nat_tests}
use Rattle.swift_lex.specs.declared.token.Token.{Token}
use Rattle.token_brackets.specs.declared.brackets.Shape.{Shape}
use Rattle.token_brackets.specs.declared.brackets.Shape.TheVariants as shape
use Rattle.token_brackets.specs.declared.brackets.Bracket.TheVariants as bracket
use Rattle.token_brackets.specs.declared.pieces.Within.{Within}
use Rattle.swift_lex.specs.declared.token.TokenKind.{TokenKind}
use Rattle.swift_lex.specs.declared.token.TokenKind.TheVariants as kind
use Rattle.token_brackets.specs.Brackets.{bracket_of, kind_bracket, is_import, import_by, is_name, name_by, IsPlain, Opens, Closes}
use Rattle.token_brackets.specs.Balance.{Balanced, nothing, plain, pair}
use Rattle.token_brackets.specs.Piece as piece
use Rattle.token_brackets.specs.Piece.{Headed, FirstPiece, imports, braced, unended, begins_import}
use Rattle.token_brackets.specs.PieceLength.{outside, stepped, len_by, braced_len, piece_len}

and_both : (a b : Bool) → (a && b) ≡ true → (a ≡ true) × (b ≡ true)
and_both true true e = (refl, refl)
and_both true false e = absurd cc
and_both false b e = absurd cc

abbrev at_depth : ℕ → Bool → Within
at_depth d b = record { depth = d; braced = b }

-- one token of each kind

len_plain : (w : Within) (t : Token) (ts : List Token) → IsPlain t → braced_len w (t ∷ ts) ≡ suc (braced_len w ts)
unfolding braced_len
len_plain w t ts e = rw e refl

-- a step at a depth above 0
open_step : (s : Shape) (d : ℕ) (b : Bool) → stepped (Some (bracket.Opens s)) (at_depth (suc d) b) ≡ Some (at_depth (suc (suc d)) b)
open_step s d true = let e : suc d + 1 ≡ suc (suc d) = omega arith in rw e refl
open_step s d false = let e : suc d + 1 ≡ suc (suc d) = omega arith in let z : nat_eq (suc d) 0 ≡ false = grind (arith, nat_tests) in rw (e, z) refl

close_step : (s : Shape) (d : ℕ) (b : Bool) → stepped (Some (bracket.Closes s)) (at_depth (suc (suc d)) b) ≡ Some (at_depth (suc d) b)
close_step s d true = let e : suc (suc d) - 1 ≡ suc d = omega arith in let z : nat_le (suc (suc d)) 1 ≡ false = grind (arith, nat_tests) in rw (e, z) refl
close_step s d false = let e : suc (suc d) - 1 ≡ suc d = omega arith in rw e refl

-- within a bracket a brace is not the piece's
len_open : (s : Shape) (d : ℕ) (b : Bool) (t : Token) (ts : List Token) → Opens s t → braced_len (at_depth (suc d) b) (t ∷ ts) ≡ suc (braced_len (at_depth (suc (suc d)) b) ts)
unfolding braced_len
len_open s d b t ts e = rw e (ap (λ (o : Option Within). len_by o (λ v. braced_len v ts)) (open_step s d b))

len_close : (s : Shape) (d : ℕ) (b : Bool) (t : Token) (ts : List Token) → Closes s t → braced_len (at_depth (suc (suc d)) b) (t ∷ ts) ≡ suc (braced_len (at_depth (suc d) b) ts)
unfolding braced_len
len_close s d b t ts e = rw e (ap (λ (o : Option Within). len_by o (λ v. braced_len v ts)) (close_step s d b))

-- a balanced text within a bracket
skip_inside : {xs : List Token} → Balanced xs → (d : ℕ) (b : Bool) (ys : List Token) → braced_len (at_depth (suc d) b) (xs ++ ys) ≡ length xs + braced_len (at_depth (suc d) b) ys
skip_inside nothing d b ys = omega arith
skip_inside (plain {t} {ts} p a) d b ys = len_plain (at_depth (suc d) b) t (ts ++ ys) p ∙ ap suc (skip_inside a d b ys) ∙ omega arith
skip_inside (pair s o c inside after os bi cs ba) d b ys =
    let opened = len_open s d b o ((inside ++ c ∷ after) ++ ys) os in
    let regrouped = ap (braced_len (at_depth (suc (suc d)) b)) (append_assoc inside (c ∷ after) ys) in
    let within = skip_inside bi (suc d) b (c ∷ (after ++ ys)) in
    let closed = len_close s d b c (after ++ ys) cs in
    let behind = skip_inside ba d b ys in
    let sizes = length-append inside (c ∷ after) in
    omega (arith, opened, regrouped, within, closed, behind, sizes)

-- ---- outside of all brackets

first_open : (s : Shape) (t : Token) (ts : List Token) → (s ≡ shape.Curly → ⊥) → Opens s t → braced_len outside (t ∷ ts) ≡ suc (braced_len (at_depth 1 false) ts)
unfolding braced_len
first_open shape.Round t ts other e = rw e refl
first_open shape.Square t ts other e = rw e refl
first_open shape.Curly t ts other e = absurd (other refl)

first_brace : (t : Token) (ts : List Token) → Opens shape.Curly t → braced_len outside (t ∷ ts) ≡ suc (braced_len (at_depth 1 true) ts)
unfolding braced_len
first_brace t ts e = rw e refl

first_close : (s : Shape) (t : Token) (ts : List Token) → Closes s t → braced_len (at_depth 1 false) (t ∷ ts) ≡ suc (braced_len outside ts)
unfolding braced_len
first_close s t ts e = rw e refl

last_brace : (s : Shape) (t : Token) (ts : List Token) → Closes s t → braced_len (at_depth 1 true) (t ∷ ts) ≡ 1
unfolding braced_len
last_brace s t ts e = rw e refl

skip_head : {xs : List Token} → Headed xs → (ys : List Token) → braced_len outside (xs ++ ys) ≡ length xs + braced_len outside ys
skip_head piece.nothing ys = omega arith
skip_head (piece.plain {t} {ts} p a) ys = len_plain outside t (ts ++ ys) p ∙ ap suc (skip_head a ys) ∙ omega arith
skip_head (piece.pair s o c inside after other os bi cs ha) ys =
    let opened = first_open s o ((inside ++ c ∷ after) ++ ys) other os in
    let regrouped = ap (braced_len (at_depth 1 false)) (append_assoc inside (c ∷ after) ys) in
    let within = skip_inside bi 0 false (c ∷ (after ++ ys)) in
    let closed = first_close s c (after ++ ys) cs in
    let behind = skip_head ha ys in
    let sizes = length-append inside (c ∷ after) in
    omega (arith, opened, regrouped, within, closed, behind, sizes)

braced_is : {head inside : List Token} (o c : Token) → Headed head → Opens shape.Curly o → Balanced inside → Closes shape.Curly c → (rest : List Token)
    → braced_len outside ((head ++ o ∷ (inside ++ c ∷ [])) ++ rest) ≡ length (head ++ o ∷ (inside ++ c ∷ []))
braced_is {head} {inside} o c h os b cs rest =
    let regrouped = ap (braced_len outside) (append_assoc head (o ∷ (inside ++ c ∷ [])) rest) in
    let before = skip_head h (o ∷ ((inside ++ c ∷ []) ++ rest)) in
    let opened = first_brace o ((inside ++ c ∷ []) ++ rest) os in
    let again = ap (braced_len (at_depth 1 true)) (append_assoc inside (c ∷ []) rest) in
    let within = skip_inside b 0 true (c ∷ rest) in
    let closed = last_brace shape.Curly c rest cs in
    let size = length-append head (o ∷ (inside ++ c ∷ [])) in
    let inner = length-append inside (c ∷ []) in
    omega (arith, regrouped, before, opened, again, within, closed, size, inner)

len_nil : (w : Within) → braced_len w [] ≡ 0
unfolding braced_len
len_nil w = refl

unended_is : {ts : List Token} → Headed ts → braced_len outside (ts ++ []) ≡ length ts
unended_is {ts} h = skip_head h [] ∙ rw (len_nil outside) (omega arith)

-- ---- how a balanced text is cut

-- a text with a brace in no bracket
record BracedAt (ts : List Token) : Type 0 where
  head : List Token
  open_ : Token
  inside : List Token
  close : Token
  rest : List Token
  is : ts ≡ (head ++ open_ ∷ (inside ++ close ∷ [])) ++ rest
  headed : Headed head
  opens : Opens shape.Curly open_
  balanced : Balanced inside
  closes : Closes shape.Curly close
  behind : Balanced rest

behind_plain : (t : Token) (ts : List Token) → IsPlain t → Headed ts ⊎ BracedAt ts → Headed (t ∷ ts) ⊎ BracedAt (t ∷ ts)
behind_plain t ts p (inl h) = inl (piece.plain p h)
behind_plain t ts p (inr r) = inr (record {
  head = t ∷ r.head;
  open_ = r.open_;
  inside = r.inside;
  close = r.close;
  rest = r.rest;
  is = ap (λ (v : List Token). t ∷ v) r.is;
  headed = piece.plain p r.headed;
  opens = r.opens;
  balanced = r.balanced;
  closes = r.closes;
  behind = r.behind;
})

regroup : (o c : Token) (inside head brace rest after : List Token) → after ≡ (head ++ brace) ++ rest
    → o ∷ (inside ++ c ∷ after) ≡ ((o ∷ (inside ++ c ∷ head)) ++ brace) ++ rest
regroup o c inside head brace rest after e =
    let outer = append_assoc inside (c ∷ (head ++ brace)) rest in
    let inner = append_assoc inside (c ∷ head) brace in
    ap (λ (v : List Token). o ∷ (inside ++ c ∷ v)) e ∙ ap (λ (v : List Token). o ∷ v) (sym outer) ∙ ap (λ (v : List Token). o ∷ (v ++ rest)) (sym inner)

behind_pair : (s : Shape) (o c : Token) (inside after : List Token) → (s ≡ shape.Curly → ⊥) → Opens s o → Balanced inside → Closes s c
    → Headed after ⊎ BracedAt after → Headed (o ∷ (inside ++ c ∷ after)) ⊎ BracedAt (o ∷ (inside ++ c ∷ after))
behind_pair s o c inside after other os bi cs (inl h) = inl (piece.pair s o c inside after other os bi cs h)
behind_pair s o c inside after other os bi cs (inr r) = inr (record {
  head = o ∷ (inside ++ c ∷ r.head);
  open_ = r.open_;
  inside = r.inside;
  close = r.close;
  rest = r.rest;
  is = regroup o c inside r.head (r.open_ ∷ (r.inside ++ r.close ∷ [])) r.rest after r.is;
  headed = piece.pair s o c inside r.head other os bi cs r.headed;
  opens = r.opens;
  balanced = r.balanced;
  closes = r.closes;
  behind = r.behind;
})

split_pair : (s : Shape) (o c : Token) (inside after : List Token) → Opens s o → Balanced inside → Closes s c → Balanced after
    → Headed after ⊎ BracedAt after → Headed (o ∷ (inside ++ c ∷ after)) ⊎ BracedAt (o ∷ (inside ++ c ∷ after))
split_pair shape.Round o c inside after os bi cs ba later = behind_pair shape.Round o c inside after (λ e. cc) os bi cs later
split_pair shape.Square o c inside after os bi cs ba later = behind_pair shape.Square o c inside after (λ e. cc) os bi cs later
split_pair shape.Curly o c inside after os bi cs ba later = inr (record {
  head = [];
  open_ = o;
  inside = inside;
  close = c;
  rest = after;
  is = ap (λ (v : List Token). o ∷ v) (sym (append_assoc inside (c ∷ []) after));
  headed = piece.nothing;
  opens = os;
  balanced = bi;
  closes = cs;
  behind = ba;
})

split : {ts : List Token} → Balanced ts → Headed ts ⊎ BracedAt ts
split nothing = inl piece.nothing
split (plain {t} {ts} p b) = behind_plain t ts p (split b)
split (pair s o c inside after os bi cs ba) = split_pair s o c inside after os bi cs ba (split ba)

-- ---- imports

import_plain : (t : Token) → is_import t ≡ true → IsPlain t
unfolding bracket_of
import_plain t e = by_kind t.kind e
  where
    by_kind : (k : TokenKind) → import_by k ≡ true → kind_bracket k ≡ None
    by_kind (kind.Reserved w) e = refl
    by_kind (kind.Name w) e = refl
    by_kind (kind.Dollar w) e = refl
    by_kind (kind.AtName w) e = refl
    by_kind (kind.HashName w) e = refl
    by_kind (kind.Sign w) e = absurd cc
    by_kind (kind.Int n) e = refl
    by_kind kind.StrOpen e = refl
    by_kind (kind.StrText w) e = refl
    by_kind kind.StrHole e = absurd cc
    by_kind kind.StrClose e = refl

name_plain : (t : Token) → is_name t ≡ true → IsPlain t
unfolding bracket_of
name_plain t e = by_kind t.kind e
  where
    by_kind : (k : TokenKind) → name_by k ≡ true → kind_bracket k ≡ None
    by_kind (kind.Reserved w) e = refl
    by_kind (kind.Name w) e = refl
    by_kind (kind.Dollar w) e = refl
    by_kind (kind.AtName w) e = refl
    by_kind (kind.HashName w) e = refl
    by_kind (kind.Sign w) e = absurd cc
    by_kind (kind.Int n) e = refl
    by_kind kind.StrOpen e = refl
    by_kind (kind.StrText w) e = refl
    by_kind kind.StrHole e = absurd cc
    by_kind kind.StrClose e = refl

behind_first : {t : Token} {ts : List Token} → Balanced (t ∷ ts) → IsPlain t → Balanced ts
behind_first (plain p b) e = b
behind_first (pair s o c inside after os bi cs ba) e = absurd (not_plain s o os e)
  where
    not_plain : (s : Shape) (o : Token) → Opens s o → IsPlain o → ⊥
    not_plain s o os e = let both = sym os ∙ e in cc

begins_prefix : (p r : List Token) → 2 ≤ length p → begins_import (p ++ r) ≡ begins_import p
begins_prefix [] r le = absurd (omega arith)
begins_prefix (a ∷ []) r le = absurd (omega arith)
begins_prefix (a ∷ b ∷ p) r le = refl

braced_long : (head inside : List Token) (o c : Token) → 2 ≤ length (head ++ o ∷ (inside ++ c ∷ []))
braced_long head inside o c = let size = length-append head (o ∷ (inside ++ c ∷ [])) in let inner = length-append inside (c ∷ []) in omega (arith, size, inner)

-- ---- the first piece

-- a text is cut behind n tokens
pub record CutAt (ts : List Token) (n : ℕ) : Type 0 where
  pub piece : List Token
  pub rest : List Token
  pub is : ts ≡ piece ++ rest
  pub size : n ≡ length piece
  pub first : FirstPiece piece rest
  pub behind : Balanced rest

cut_import : (ts : List Token) → Balanced ts → begins_import ts ≡ true → CutAt ts 2
cut_import [] b e = absurd cc
cut_import (t ∷ []) b e = absurd cc
cut_import (t ∷ u ∷ ts) b e =
    let two = and_both (is_import t) (is_name u) e in
    record { piece = t ∷ u ∷ []; rest = ts; is = refl; size = refl; first = imports e; behind = behind_first (behind_first b (import_plain t two.0)) (name_plain u two.1) }

cut_braces : (ts : List Token) → begins_import ts ≡ false → Headed ts ⊎ BracedAt ts → CutAt ts (braced_len outside ts)
cut_braces ts e (inl h) = record {
  piece = ts;
  rest = [];
  is = sym (append-nil ts);
  size = ap (braced_len outside) (sym (append-nil ts)) ∙ unended_is h;
  first = unended e h;
  behind = nothing;
}
cut_braces ts e (inr r) =
    let long = braced_long r.head r.inside r.open_ r.close in
    let none = sym (begins_prefix (r.head ++ r.open_ ∷ (r.inside ++ r.close ∷ [])) r.rest long) ∙ ap begins_import (sym r.is) ∙ e in
    record {
      piece = r.head ++ r.open_ ∷ (r.inside ++ r.close ∷ []);
      rest = r.rest;
      is = r.is;
      size = ap (braced_len outside) r.is ∙ braced_is r.open_ r.close r.headed r.opens r.balanced r.closes r.rest;
      first = braced r.head r.inside r.open_ r.close none r.headed r.opens r.balanced r.closes;
      behind = r.behind;
    }

cut_by : (ts : List Token) → Balanced ts → (b : Bool) → begins_import ts ≡ b → CutAt ts (cond b 2 (braced_len outside ts))
cut_by ts b true e = cut_import ts b e
cut_by ts b false e = cut_braces ts e (split b)

pub cut_of : (ts : List Token) → Balanced ts → CutAt ts (piece_len ts)
unfolding piece_len
cut_of ts b = cut_by ts b (begins_import ts) refl

pub take_front : (p r : List Token) → take (length p) (p ++ r) ≡ p
take_front [] r = refl
take_front (t ∷ p) r = ap (λ (v : List Token). t ∷ v) (take_front p r)

pub drop_front : (p r : List Token) → drop (length p) (p ++ r) ≡ r
drop_front [] r = refl
drop_front (t ∷ p) r = drop_front p r

cut_take : {ts : List Token} {n : ℕ} (c : CutAt ts n) → take n ts ≡ c.piece
cut_take c = rw (c.size, c.is) (take_front c.piece c.rest)

cut_drop : {ts : List Token} {n : ℕ} (c : CutAt ts n) → drop n ts ≡ c.rest
cut_drop c = rw (c.size, c.is) (drop_front c.piece c.rest)

pub first_is : (ts front back : List Token) → Balanced ts → front ≡ take (piece_len ts) ts → back ≡ drop (piece_len ts) ts → FirstPiece front back
first_is ts front back b f g =
    let c = cut_of ts b in
    subst (λ (v : List Token). FirstPiece v back) (sym (f ∙ cut_take c)) (subst (λ (v : List Token). FirstPiece c.piece v) (sym (g ∙ cut_drop c)) c.first)

pub behind_is : (ts back : List Token) → Balanced ts → back ≡ drop (piece_len ts) ts → Balanced back
behind_is ts back b g = let c = cut_of ts b in subst (λ (v : List Token). Balanced v) (sym (g ∙ cut_drop c)) c.behind

-- ---- no other

pub len_first : {p r : List Token} → FirstPiece p r → piece_len (p ++ r) ≡ length p
unfolding piece_len
len_first (imports e) = rw e refl
len_first {r = r} (braced head inside o c e h os b cs) =
    let long = braced_long head inside o c in
    rw (begins_prefix (head ++ o ∷ (inside ++ c ∷ [])) r long, e) (braced_is o c h os b cs r)
len_first (unended {ts} e h) = rw (append-nil ts, e) (ap (braced_len outside) (sym (append-nil ts)) ∙ unended_is h)

pub only_first : (ts front p r : List Token) → front ≡ take (piece_len ts) ts → FirstPiece p r → ts ≡ p ++ r → p ≡ front
only_first ts front p r f first is =
    let n : piece_len ts ≡ length p = ap piece_len is ∙ len_first first in
    let t : take (piece_len ts) ts ≡ p = rw (n, is) (take_front p r) in
    sym (f ∙ t)

pub some_first : (p r : List Token) → FirstPiece p r → 0 < length (p ++ r) → 0 < length p
some_first p r (imports e) h = omega arith
some_first p r (braced head inside o c e hd os b cs) h = let long = braced_long head inside o c in omega (arith, long)
some_first p r (unended {ts} e hd) h = omega (arith, length-append ts [])

-- ---- beside the loop

pub len_turn : (w : Within) (ts : List Token) (i : ℕ) (t : Token) → i < length ts → t ≡ get_or ts i t → braced_len w (drop i ts) ≡ len_by (stepped (bracket_of t) w) (λ v. braced_len v (drop (i + 1) ts))
unfolding braced_len
len_turn w ts i t lt is =
    let e : i + 1 ≡ suc i = omega arith in
    subst (λ (u : Token). braced_len w (drop i ts) ≡ len_by (stepped (bracket_of u) w) (λ v. braced_len v (drop (i + 1) ts))) (sym is) (rw (e, drop-cons ts i t) refl)

pub len_end : (w : Within) (ts : List Token) (i : ℕ) → length ts ≤ i → braced_len w (drop i ts) ≡ 0
unfolding braced_len
len_end w [] zero le = refl
len_end w [] (suc i) le = refl
len_end w (t ∷ ts) zero le = absurd (omega arith)
len_end w (t ∷ ts) (suc i) le = len_end w ts i (omega arith)

pub len_none : (o : Option Within) (f : Within → ℕ) → o ≡ None → len_by o f ≡ 1
len_none o f e = rw e refl

pub len_some : (o : Option Within) (f : Within → ℕ) (w : Within) → o ≡ Some w → len_by o f ≡ suc (f w)
len_some o f w e = rw e refl

pub len_stop : (w : Within) (ts : List Token) (i : ℕ) (t : Token) (o : Option Within) (whole : ℕ) → i < length ts → t ≡ get_or ts i t
    → o ≡ stepped (bracket_of t) w → o ≡ None → whole ≡ i + braced_len w (drop i ts) → i + 1 ≡ whole
len_stop w ts i t o whole lt is e none h =
    let one = len_turn w ts i t lt is ∙ len_none _ (λ v. braced_len v (drop (i + 1) ts)) (sym e ∙ none) in
    omega (arith, h, one)

pub len_go : (w : Within) (ts : List Token) (i : ℕ) (t : Token) (o : Option Within) (whole : ℕ) (v : Within) → i < length ts → t ≡ get_or ts i t
    → o ≡ stepped (bracket_of t) w → o ≡ Some v → whole ≡ i + braced_len w (drop i ts) → whole ≡ (i + 1) + braced_len v (drop (i + 1) ts)
len_go w ts i t o whole v lt is e some h =
    let one = len_turn w ts i t lt is ∙ len_some _ (λ u. braced_len u (drop (i + 1) ts)) v (sym e ∙ some) in
    omega (arith, h, one)

pub only_cut : (ts front : List Token) (n : ℕ) → n ≡ piece_len ts → front ≡ take n ts → (p r : List Token) → FirstPiece p r → ts ≡ p ++ r → p ≡ front
only_cut ts front n e f p r first is = only_first ts front p r (f ∙ ap (λ m. take m ts) e) first is
