-- The locals that code uses, one mention at a time.
use Rattle.std.proofs.Common.{◌≡◌, ℕ, ◌+◌, ◌<◌, ◌≤◌, nat_eq, ◌||◌, arith, length, List, [], ◌∷◌, ◌++◌, drop, refl, sym, ap, ◌∙◌}
use Rattle.std.proofs.Math.ListN.{get_or}
use Rattle.std.proofs.lemmas.Bool.Decides.{nat_tests}
use Rattle.std.proofs.lemmas.List.{drop_more, drop_all}
use Rattle.std.specs.List.{flat_map, list_any}
use Rattle.swift_core.specs.declared.code.Code.{Code}
use Rattle.swift_core.specs.declared.mention.Mention.{Mention}
use Rattle.swift_core.specs.Mentions.{Mentions}
use Rattle.swift_core.specs.Uses.{first_uses, with_use, locals_of}

first_uses-append : (limit : ℕ) (uses xs ys : List ℕ) → first_uses limit uses (xs ++ ys) ≡ first_uses limit (first_uses limit uses xs) ys
unfolding first_uses
first_uses-append limit uses [] ys = refl
first_uses-append limit uses (x ∷ xs) ys = first_uses-append limit (with_use limit uses x) xs ys

-- the places of one mention more
pub uses_turn : (blocks : List Code) (limit : ℕ) (ms : Mentions) (i : ℕ) (d : Mention) (uses new whole : List ℕ) → i < length ms →
    new ≡ first_uses limit uses (locals_of blocks (get_or ms i d)) →
    first_uses limit uses (flat_map (locals_of blocks) (drop i ms)) ≡ whole → first_uses limit new (flat_map (locals_of blocks) (drop (i + 1) ms)) ≡ whole
uses_turn blocks limit ms i d uses new whole h at known =
    ap (λ u. first_uses limit u (flat_map (locals_of blocks) (drop (i + 1) ms))) at
    ∙ sym (first_uses-append limit uses (locals_of blocks (get_or ms i d)) (flat_map (locals_of blocks) (drop (i + 1) ms)))
    ∙ sym (ap (λ l. first_uses limit uses (flat_map (locals_of blocks) l)) (drop_more ms i d h)) ∙ known

pub uses_end : (blocks : List Code) (limit : ℕ) (ms : Mentions) (i : ℕ) (uses whole : List ℕ) → length ms ≤ i →
    first_uses limit uses (flat_map (locals_of blocks) (drop i ms)) ≡ whole → uses ≡ whole
unfolding first_uses
uses_end blocks limit ms i uses whole h known = sym (ap (λ l. first_uses limit uses (flat_map (locals_of blocks) l)) (drop_all i ms h)) ∙ known

-- one place more
pub places_turn : (limit : ℕ) (xs : List ℕ) (i : ℕ) (uses new whole : List ℕ) → i < length xs → new ≡ with_use limit uses (get_or xs i 0) →
    first_uses limit uses (drop i xs) ≡ whole → first_uses limit new (drop (i + 1) xs) ≡ whole
unfolding first_uses
places_turn limit xs i uses new whole h at known =
    ap (λ u. first_uses limit u (drop (i + 1) xs)) at ∙ sym (ap (first_uses limit uses) (drop_more xs i 0 h)) ∙ known

pub places_end : (limit : ℕ) (xs : List ℕ) (i : ℕ) (uses whole : List ℕ) → length xs ≤ i → first_uses limit uses (drop i xs) ≡ whole → uses ≡ whole
unfolding first_uses
places_end limit xs i uses whole h known = sym (ap (first_uses limit uses) (drop_all i xs h)) ∙ known

-- equality, the other way round
equal_flipped : (a b : ℕ) → nat_eq a b ≡ nat_eq b a
equal_flipped a b = grind (arith, nat_tests)

pub any_flipped : (i : ℕ) (xs : List ℕ) → list_any (λ x. nat_eq x i) xs ≡ list_any (nat_eq i) xs
any_flipped i [] = refl
any_flipped i (x ∷ xs) =
    ap (λ b. b || list_any (λ y. nat_eq y i) xs) (equal_flipped x i) ∙ ap (λ b. nat_eq i x || b) (any_flipped i xs)
