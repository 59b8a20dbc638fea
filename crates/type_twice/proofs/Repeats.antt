-- The maps of names answer as the lists of names do.
use Rattle.std.proofs.Common.{◌≡◌, ℕ, zero, suc, ◌+◌, ◌<◌, ◌≤◌, Bool, true, false, not, ◌&&◌, ◌||◌, cond, List, [], ◌∷◌, ◌++◌, Option, Some, None, length, take, drop, map, codes, refl, sym, ap, subst, ◌∙◌, arith, slice_index_or, drop-cons, add-one, append_assoc, append-nil}
use Rattle.std.specs.List.{list_any, flat_map}
use Rattle.std.specs.Option.{is_some, option_or}
use Rattle.std.specs.Str.{bytes_eq}
use Rattle.std.specs.FinMap as fin
use Rattle.std.proofs.lemmas.List.{take_all, take_more}
use Rattle.std.proofs.lemmas.List.Folds.{list_any-append}
use Rattle.std.proofs.lemmas.Grind.{flat_map-append}
use Rattle.swift_ast.specs.declared.piece.Source.{Source}
use Rattle.swift_ast.specs.declared.piece.Piece.{Piece}
use Rattle.swift_ast.specs.declared.piece.PieceForm.{PieceForm}
use Rattle.swift_ast.specs.declared.piece.PieceForm.TheVariants as piece
use Rattle.name_map.specs.Names.{Places, no_names, same_name, get-named_any, get-no_names}
use Rattle.type_twice.specs.declared.names.Named.{Named}
use Rattle.type_twice.specs.declared.twice.Seen.{Seen}
use Rattle.type_twice.specs.Twice.{stands, first_repeat, is_built_in, line_if, heading, declared_names, is_main, keys_of, name_of_named, given_at, given_names, member_names, key_names, repeats_heading, second, twice_from, twice, name_in, main_in}
use Rattle.type_twice.specs.Held.{is_held, put, first_held, put_all, given_held, given_enum, is_second_heading, with_heading, with_keys, passed, second_seen, twice_seen, start}

-- ---- the loop over names

-- the two spellings of one more
suc-is : (i : ℕ) → suc i ≡ i + 1
suc-is i = omega arith

drop-turn : {X : Type 0} (xs : List X) (i : ℕ) (x : X) → i < length xs → x ≡ slice_index_or xs i x → drop i xs ≡ x ∷ drop (i + 1) xs
drop-turn xs i x lt e = drop-cons xs i x lt ∙ ap (λ y. y ∷ drop (suc i) xs) (sym e) ∙ ap (λ n. x ∷ drop n xs) (suc-is i)

first_at : (m : Places) (n : Named) (ns : List Named) (b : Bool) → is_held m n.name ≡ b → first_held m (n ∷ ns) ≡ cond b (Some n.line) (first_held (put m n.name) ns)
first_at m n ns b e = ap (λ c. cond c (Some n.line) (first_held (put m n.name) ns)) e

pub held_found : (m : Places) (ns : List Named) (i : ℕ) (n : Named) → i < length ns → n ≡ slice_index_or ns i n → is_held m n.name ≡ true → first_held m (drop i ns) ≡ Some n.line
held_found m ns i n lt e h = ap (first_held m) (drop-turn ns i n lt e) ∙ first_at m n (drop (i + 1) ns) true h

pub held_passed : (m : Places) (ns : List Named) (i : ℕ) (n : Named) → i < length ns → n ≡ slice_index_or ns i n → is_held m n.name ≡ false → first_held m (drop i ns) ≡ first_held (put m n.name) (drop (i + 1) ns)
held_passed m ns i n lt e h = ap (first_held m) (drop-turn ns i n lt e) ∙ first_at m n (drop (i + 1) ns) false h

drop_all : {X : Type 0} (xs : List X) (i : ℕ) → length xs ≤ i → drop i xs ≡ []
drop_all [] zero le = refl
drop_all [] (suc i) le = refl
drop_all (x ∷ xs) zero le = absurd (omega arith)
drop_all (x ∷ xs) (suc i) le = drop_all xs i (omega arith)

pub held_end : (m : Places) (ns : List Named) (i : ℕ) → length ns ≤ i → first_held m (drop i ns) ≡ None
held_end m ns i le = ap (first_held m) (drop_all ns i le)

put_all-append : (m : Places) (ns ks : List Named) → put_all m (ns ++ ks) ≡ put_all (put_all m ns) ks
put_all-append m [] ks = refl
put_all-append m (n ∷ ns) ks = put_all-append (put m n.name) ns ks

pub put_turn : (m : Places) (ns : List Named) (i : ℕ) (n : Named) → i < length ns → n ≡ slice_index_or ns i n → put_all m (take (i + 1) ns) ≡ put (put_all m (take i ns)) n.name
put_turn m ns i n lt e =
    ap (put_all m) (take_more ns i n lt ∙ ap (λ y. take i ns ++ y ∷ []) (sym e)) ∙ put_all-append m (take i ns) (n ∷ [])

-- ---- the loop over pieces

pub twice_found : (s : Seen) (ps : List Piece) (i : ℕ) (p : Piece) (o : Option ℕ) (line : ℕ) → i < length ps → p ≡ slice_index_or ps i p → o ≡ second_seen s p → o ≡ Some line → twice_seen s (drop i ps) ≡ o
twice_found s ps i p o line lt e h g =
    ap (twice_seen s) (drop-turn ps i p lt e) ∙ ap (λ o. option_or o (twice_seen (passed s p) (drop (i + 1) ps))) (sym h ∙ g) ∙ sym g

pub twice_passed : (s : Seen) (ps : List Piece) (i : ℕ) (p : Piece) → i < length ps → p ≡ slice_index_or ps i p → None ≡ second_seen s p → twice_seen s (drop i ps) ≡ twice_seen (passed s p) (drop (i + 1) ps)
twice_passed s ps i p lt e h = ap (twice_seen s) (drop-turn ps i p lt e) ∙ ap (λ o. option_or o (twice_seen (passed s p) (drop (i + 1) ps))) (sym h)

pub twice_end : (s : Seen) (ps : List Piece) (i : ℕ) → length ps ≤ i → twice_seen s (drop i ps) ≡ None
twice_end s ps i le = ap (twice_seen s) (drop_all ps i le)

-- ---- a map holds the names of a list

abbrev pub Holds : Places → List (List ℕ) → Type 0
Holds m names = (w : List ℕ) → is_some (fin.get m w) ≡ list_any (same_name w) names

holds_none : Holds no_names []
holds_none w = ap is_some (get-no_names w)

or_true : (b : Bool) → (b || true) ≡ true
or_true true = refl
or_true false = refl

or_false : (b : Bool) → (b || false) ≡ b
or_false true = refl
or_false false = refl

put_is : (b c : Bool) (o : Option ℕ) → is_some o ≡ c → is_some (cond b (Some 0) o) ≡ (c || (b || false))
put_is true c o e = sym (or_true c)
put_is false c o e = e ∙ sym (or_false c)

holds_put : (m : Places) (names : List (List ℕ)) (w : List ℕ) → Holds m names → Holds (put m w) (names ++ w ∷ [])
holds_put m names w h v =
    ap is_some (get-named_any m w 0 v)
    ∙ put_is (same_name v w) (list_any (same_name v) names) (fin.get m v) (h v)
    ∙ sym (list_any-append (same_name v) names (w ∷ []))

held_is : (m : Places) (names : List (List ℕ)) → Holds m names → (w : List ℕ) → is_held m w ≡ stands names w
held_is m names h w = ap (λ b. b && not (bytes_eq w (codes "_"))) (h w)

first_is : (m : Places) (names : List (List ℕ)) (ns : List Named) → Holds m names → first_held m ns ≡ first_repeat names ns
first_is m names [] h = refl
first_is m names (n ∷ ns) h =
    ap (λ b. cond b (Some n.line) (first_held (put m n.name) ns)) (held_is m names h n.name)
    ∙ ap (λ o. cond (stands names n.name) (Some n.line) o) (first_is (put m n.name) (names ++ n.name ∷ []) ns (holds_put m names n.name h))

holds_all : (m : Places) (names : List (List ℕ)) (ns : List Named) → Holds m names → Holds (put_all m ns) (names ++ map name_of_named ns)
holds_all m names [] h = subst (Holds m) (sym (append-nil names)) h
holds_all m names (n ∷ ns) h =
    subst (Holds (put_all (put m n.name) ns)) (append_assoc names (n.name ∷ []) (map name_of_named ns)) (holds_all (put m n.name) (names ++ n.name ∷ []) ns (holds_put m names n.name h))

-- ---- what is seen is what the pieces so far declare

pub record Agrees (s : Seen) (before : List Piece) : Type 0 where
  pub declared : Holds s.declared (flat_map declared_names before)
  pub keys : Holds s.keys (codes "isEnabled" ∷ flat_map keys_of before)
  pub main : s.has_main ≡ list_any is_main before

heading_is : (s : Seen) (before : List Piece) → Agrees s before → (h : Option (List ℕ × Bool)) → is_second_heading s h ≡ repeats_heading before h
heading_is s before a None = refl
heading_is s before a (Some h) =
    ap (λ b. (h.1 && b) || is_built_in h.0 || is_held s.declared h.0) a.main
    ∙ ap (λ b. (h.1 && list_any is_main before) || is_built_in h.0 || b) (held_is s.declared (flat_map declared_names before) a.declared h.0)

given_if : (b : Bool) → Holds (cond b (put no_names (codes "allCases")) no_names) (cond b (codes "allCases" ∷ []) [])
given_if true = holds_put no_names [] (codes "allCases") holds_none
given_if false = holds_none

given_is : (f : PieceForm) → Holds (given_held f) (given_at f)
given_is (piece.Import w) = holds_none
given_is (piece.Struct p) = holds_none
given_is (piece.Enum p) = given_if _
given_is (piece.Environment es) = holds_none
given_is (piece.Preview p) = holds_none

second_is : (s : Seen) (before : List Piece) → Agrees s before → (p : Piece) → second_seen s p ≡ second before p
unfolding second_seen second
second_is s before a p =
    ap (λ b. option_or (line_if b p.span.line) (option_or (first_held (given_held p.form) (member_names p)) (first_held s.keys (key_names p)))) (heading_is s before a (heading p))
    ∙ ap (λ o. option_or (line_if (repeats_heading before (heading p)) p.span.line) (option_or o (first_held s.keys (key_names p)))) (first_is (given_held p.form) (given_at p.form) (member_names p) (given_is p.form))
    ∙ ap (λ o. option_or (line_if (repeats_heading before (heading p)) p.span.line) (option_or (first_repeat (given_at p.form) (member_names p)) o))
    (first_is s.keys (codes "isEnabled" ∷ flat_map keys_of before) (key_names p) a.keys)

names_more : (m : Places) (names : List (List ℕ)) (h : Option (List ℕ × Bool)) → Holds m names → (s : Seen) → s.declared ≡ m → Holds (with_heading s h).declared (names ++ name_in h)
names_more m names None a s e = subst (λ (n : Places). Holds n (names ++ [])) (sym e) (subst (Holds m) (sym (append-nil names)) a)
names_more m names (Some h) a s e = subst (λ (n : Places). Holds (put n h.0) (names ++ h.0 ∷ [])) (sym e) (holds_put m names h.0 a)

main_more : (s : Seen) (h : Option (List ℕ × Bool)) → (with_heading s h).has_main ≡ (s.has_main || main_in h)
main_more s None = sym (or_false s.has_main)
main_more s (Some h) = refl

keys_same : (s : Seen) (h : Option (List ℕ × Bool)) → (with_heading s h).keys ≡ s.keys
keys_same s None = refl
keys_same s (Some h) = refl

flat-push : {X Y : Type 0} (f : X → List Y) (xs : List X) (x : X) → flat_map f (xs ++ x ∷ []) ≡ flat_map f xs ++ f x
flat-push f xs x = flat_map-append f xs (x ∷ []) ∙ ap (λ ys. flat_map f xs ++ ys) (append-nil (f x))

any-push : {X : Type 0} (p : X → Bool) (xs : List X) (x : X) → list_any p (xs ++ x ∷ []) ≡ (list_any p xs || p x)
any-push p xs x = list_any-append p xs (x ∷ []) ∙ ap (λ b. list_any p xs || b) (or_false (p x))

agrees_passed : (s : Seen) (before : List Piece) → Agrees s before → (p : Piece) → Agrees (passed s p) (before ++ p ∷ [])
unfolding passed
agrees_passed s before a p = record {
  declared = subst (Holds (with_heading s (heading p)).declared) (sym (flat-push declared_names before p)) (names_more s.declared (flat_map declared_names before) (heading p) a.declared s refl);
  keys = subst (Holds (put_all (with_heading s (heading p)).keys (key_names p))) (ap (λ ns. codes "isEnabled" ∷ ns) (sym (flat-push keys_of before p)))
      (holds_all (with_heading s (heading p)).keys (codes "isEnabled" ∷ flat_map keys_of before) (key_names p) (subst (λ (m : Places). Holds m (codes "isEnabled" ∷ flat_map keys_of before)) (sym (keys_same s (heading p))) a.keys));
  main = main_more s (heading p) ∙ ap (λ b. b || main_in (heading p)) a.main ∙ sym (any-push is_main before p);
}

from_is : (s : Seen) (before ps : List Piece) → Agrees s before → twice_seen s ps ≡ twice_from before ps
from_is s before [] a = refl
from_is s before (p ∷ ps) a =
    ap (λ o. option_or o (twice_seen (passed s p) ps)) (second_is s before a p)
    ∙ ap (option_or (second before p)) (from_is (passed s p) (before ++ p ∷ []) ps (agrees_passed s before a p))

agrees_start : Agrees start []
agrees_start = record { declared = holds_none; keys = holds_put no_names [] (codes "isEnabled") holds_none; main = refl }

pub twice_is : (source : Source) → twice_seen start source.pieces ≡ twice source
unfolding twice
twice_is source = from_is start [] source.pieces agrees_start
