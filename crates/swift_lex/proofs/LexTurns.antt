-- The same list with what is open kept beside it.
use Rattle.std.proofs.Common.{◌≡◌, ℕ, zero, suc, ◌+◌, ◌-◌, ◌<◌, ◌≤◌, Bool, false, cond, List, [], ◌∷◌, ◌++◌, length, drop, refl, ◌∙◌, ap, arith}
use Rattle.std.proofs.lemmas.List.{append-nil}
use Rattle.std.specs.Prelude.{Ok, Option, Some, None}
use Rattle.swift_lex.specs.declared.token.Token.{Token}
use Rattle.swift_lex.specs.declared.token.TokenKind.{TokenKind}
use Rattle.swift_lex.specs.declared.place.Place.{Place}
use Rattle.swift_lex.specs.declared.item.Item.{Item}
use Rattle.swift_lex.specs.Tokens.{is_done, by_item, behind, start, token_of, tokens_from, tokens_of, inside_from, inside, Lexed}
use Rattle.swift_lex.specs.Items.{item, after, passed}

unfoldable pub lex_from : ℕ → List Bool → Bool → Place → List ℕ → List Token → Lexed
lex_from zero o t p bs found = Ok found
lex_from (suc n) o t p bs found = cond (is_done o t bs) (Ok found) (by_item p (item o t bs) (λ i. lex_from n (passed i.token o t).0 (passed i.token o t).1 (behind i p bs) (drop i.len bs) (found ++ token_of i.token p)))

pub lex_turn : (n at : ℕ) (o : List Bool) (t : Bool) (p : Place) (bs : List ℕ) (found : List Token) → at < n
    → lex_from (n - at) o t p bs found ≡ cond (is_done o t bs) (Ok found) (by_item p (item o t bs) (λ i. lex_from (n - (at + 1)) (passed i.token o t).0 (passed i.token o t).1 (behind i p bs) (drop i.len bs) (found ++ token_of i.token p)))
unfolding lex_from
lex_turn n at o t p bs found lt = let e : n - at ≡ suc (n - (at + 1)) = omega arith in rw e refl

pub lex_end : (n at : ℕ) (o : List Bool) (t : Bool) (p : Place) (bs : List ℕ) (found : List Token) → n ≤ at → lex_from (n - at) o t p bs found ≡ Ok found
unfolding lex_from
lex_end n at o t p bs found le = let e : n - at ≡ 0 = omega arith in rw e refl

-- ---- what is open is what the tokens opened

inside_from-push : (a : List Bool × Bool) (ts : List Token) (t : Token) → inside_from a (ts ++ t ∷ []) ≡ after t.kind (inside_from a ts).0 (inside_from a ts).1
inside_from-push a [] t = refl
inside_from-push a (x ∷ ts) t = inside_from-push (after x.kind a.0 a.1) ts t

inside-push : (found : List Token) (k : Option TokenKind) (p : Place) (o : List Bool) (t : Bool) → inside found ≡ (o, t) → inside (found ++ token_of k p) ≡ passed k o t
unfolding inside passed
inside-push found None p o t e = rw (append-nil found) e
inside-push found (Some k) p o t e =
    inside_from-push ([], false) found (record { kind = k; line = p.line; col = p.col; gap = p.gap })
    ∙ ap (λ (a : List Bool × Bool). after k a.0 a.1) e

by_item-same : (p : Place) (i : Option Item) (f g : Item → Lexed) → ((x : Item) → f x ≡ g x) → by_item p i f ≡ by_item p i g
by_item-same p None f g h = refl
by_item-same p (Some x) f g h = h x

from-same : (n : ℕ) (o : List Bool) (t : Bool) (p : Place) (bs : List ℕ) (found : List Token) → inside found ≡ (o, t) → tokens_from n p bs found ≡ lex_from n o t p bs found
unfolding tokens_from lex_from
from-same zero o t p bs found e = refl
from-same (suc n) o t p bs found e =
    let next : (i : Item) → tokens_from n (behind i p bs) (drop i.len bs) (found ++ token_of i.token p) ≡ lex_from n (passed i.token o t).0 (passed i.token o t).1 (behind i p bs) (drop i.len bs) (found ++ token_of i.token p)
    = λ i. from-same n (passed i.token o t).0 (passed i.token o t).1 (behind i p bs) (drop i.len bs) (found ++ token_of i.token p) (inside-push found i.token p o t e) in
    ap (λ (a : List Bool × Bool). cond (is_done a.0 a.1 bs) (Ok found) (by_item p (item a.0 a.1 bs) (λ i. tokens_from n (behind i p bs) (drop i.len bs) (found ++ token_of i.token p)))) e
    ∙ ap (λ (rest : Lexed). cond (is_done o t bs) (Ok found) rest) (by_item-same p (item o t bs) _ _ next)

pub lex_start : (bs : List ℕ) → tokens_of bs ≡ lex_from (length bs + 1) [] false start bs []
unfolding tokens_of inside
lex_start bs = from-same (length bs + 1) [] false start bs [] refl
