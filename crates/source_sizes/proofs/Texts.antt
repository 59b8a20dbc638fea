-- How many tokens a file has: its declarations weigh no more, and it has no more of them than bytes.
use Rattle.std.proofs.Common.{◌≡◌, ℕ, zero, suc, ◌+◌, ◌≤◌, Bool, true, false, List, [], ◌∷◌, ◌++◌, length, drop, Option, Some, None, Ok, refl, ap, arith, length-append}
use Rattle.std.specs.Prelude.{if◌then◌else◌}
use Rattle.swift_lex.specs.declared.token.Token.{Token}
use Rattle.swift_lex.specs.declared.token.TokenKind.{TokenKind}
use Rattle.swift_lex.specs.declared.place.Place.{Place}
use Rattle.swift_lex.specs.declared.item.Item.{Item}
use Rattle.swift_lex.specs.Items.{item}
use Rattle.swift_lex.specs.Spellings.{begins_with}
use Rattle.swift_lex.specs.Tokens.{Lexed, tokens, tokens_of, tokens_from, token_of, inside, is_done, by_item, behind, without_mark, start}
use Rattle.swift_ast.specs.declared.piece.Source.{Source}
use Rattle.swift_ast.specs.declared.piece.Piece.{Piece}
use Rattle.token_brackets.specs.Piece.{FirstPiece, Pieces}
use Rattle.token_brackets.specs.Piece as cut
use Rattle.swift_parse.specs.File.{Spells, SpellsPiece, SpellsPieces}
use Rattle.source_sizes.specs.Sizes.{weight, weights}
use Rattle.source_sizes.proofs.Rules.{piece_takes}

-- ---- pieces

piece_weighs : (total : ℕ) (ts : List Token) (x : Piece) → SpellsPiece total ts x → weight x ≤ length ts
unfolding SpellsPiece
piece_weighs total ts x w = let h = (piece_takes total).at_least ts x [] w in omega arith

abbrev lengths : List (List Token) → ℕ
lengths [] = 0
lengths (p ∷ ps) = length p + lengths ps

pieces_weigh : (before : ℕ) (ps : List (List Token)) (xs : List Piece) → SpellsPieces before ps xs → weights xs ≤ lengths ps
pieces_weigh before [] [] w = omega arith
pieces_weigh before [] (x ∷ xs) w = absurd w
pieces_weigh before (p ∷ ps) [] w = absurd w
pieces_weigh before (p ∷ ps) (x ∷ xs) w =
    let h = piece_weighs (before + length p) p x w.0 in
    let k = pieces_weigh (before + length p) ps xs w.1 in
    omega arith

cut_lengths : (ts : List Token) (ps : List (List Token)) → Pieces ts ps → lengths ps ≡ length ts
cut_lengths [] ps cut.none = refl
cut_lengths ts ps (cut.more first piece rest f others) =
    let h = cut_lengths rest _ others in
    let e = length-append piece rest in
    omega arith

pub declarations_few : (ts : List Token) (source : Source) → Spells ts source → weights source.pieces ≤ length ts
declarations_few ts source s =
    let h = pieces_weigh 0 s.pieces source.pieces s.spelled in
    let e = cut_lengths ts s.pieces s.cut in
    omega arith

-- ---- bytes

one_at_most : (k : Option TokenKind) (p : Place) → length (token_of k p) ≤ 1
one_at_most None p = omega arith
one_at_most (Some k) p = omega arith

by_items : (n : ℕ) (p : Place) (found ts : List Token) (o : Option Item) (f : Item → Lexed)
    → ((i : Item) → f i ≡ Ok ts → length ts ≤ length found + suc n) → by_item p o f ≡ Ok ts → length ts ≤ length found + suc n
by_items n p found ts None f h e = cc
by_items n p found ts (Some i) f h e = h i e

by_done : (n : ℕ) (p : Place) (found ts : List Token) (done : Bool) (o : Option Item) (f : Item → Lexed)
    → ((i : Item) → f i ≡ Ok ts → length ts ≤ length found + suc n) → (if done then Ok found else by_item p o f) ≡ Ok ts → length ts ≤ length found + suc n
by_done n p found ts true o f h e = let s : found ≡ ts = cc in let l = ap (λ (v : List Token). length v) s in omega arith
by_done n p found ts false o f h e = by_items n p found ts o f h e

next_few : (n : ℕ) (p : Place) (k : Option TokenKind) (found ts : List Token) → length ts ≤ length (found ++ token_of k p) + n → length ts ≤ length found + suc n
next_few n p k found ts h = let a = length-append found (token_of k p) in let b = one_at_most k p in omega arith

from_few : (n : ℕ) (p : Place) (bs : List ℕ) (found ts : List Token) → tokens_from n p bs found ≡ Ok ts → length ts ≤ length found + n
unfolding tokens_from
from_few zero p bs found ts e = let s : found ≡ ts = cc in let l = ap (λ (v : List Token). length v) s in omega arith
from_few (suc n) p bs found ts e = by_done n p found ts (is_done (inside found).0 (inside found).1 bs) (item (inside found).0 (inside found).1 bs) _
    (λ i e. next_few n p i.token found ts (from_few n (behind i p bs) (drop i.len bs) (found ++ token_of i.token p) ts e)) e

drop_few : (n : ℕ) (bs : List ℕ) → length (drop n bs) ≤ length bs
drop_few zero bs = omega arith
drop_few (suc n) [] = omega arith
drop_few (suc n) (b ∷ bs) = let h = drop_few n bs in omega arith

mark_few : (bytes : List ℕ) → length (without_mark bytes) ≤ length bytes
mark_few bytes = by (begins_with (0xEF ∷ 0xBB ∷ 0xBF ∷ []) bytes)
  where
    by : (b : Bool) → length (if b then drop 3 bytes else bytes) ≤ length bytes
    by true = drop_few 3 bytes
    by false = omega arith

pub tokens_few : (bytes : List ℕ) (ts : List Token) → tokens bytes ≡ Ok ts → length ts ≤ length bytes + 1
unfolding tokens_of
tokens_few bytes ts e =
    let h = from_few (length (without_mark bytes) + 1) start (without_mark bytes) [] ts e in
    let m = mark_few bytes in
    omega arith
