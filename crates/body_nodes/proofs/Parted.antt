-- What fills a view, parted into inputs and initial values, one after the other.
use Rattle.std.proofs.Common.{◌≡◌, ◌-◌, ◌<◌, ◌≤◌, Bool, List, [], ◌∷◌, length, get_or, take, drop, Option, Some, None, IsSome, ap, sym, subst, ◌∙◌, arith, refl}
use Rattle.identity_path.specs.declared.input.Input.{Input}
use Rattle.swift_core.specs.declared.ids.CodeId.{CodeId}
use Rattle.body_means.specs.Customs.{Filled, with_part, parted_next, parted_from, custom_with}
use Rattle.eval_terms.proofs.Steps.{first_and_rest}
use Rattle.body_nodes.proofs.Turns.{first_default}

-- a part, and then the rest
more_parts : (filled : Filled) (ks : List Bool) (d : Bool) (vs : List Input) (v : Input) → 1 ≤ length ks → 1 ≤ length vs → v ≡ get_or vs 0 v
    → parted_next (with_part (get_or ks 0 d) v filled) (λ more. parted_from more (take (length ks - 1) (drop 1 ks)) (take (length vs - 1) (drop 1 vs))) ≡ parted_from filled ks vs
unfolding parted_from
more_parts filled ks d vs v long longer first =
    let rest = take (length ks - 1) (drop 1 ks) in
    ap (λ l. parted_from filled (get_or ks 0 d ∷ rest) l) (sym (first_and_rest vs v longer first))
    ∙ ap (λ l. parted_from filled l vs) (sym (first_and_rest ks (get_or ks 0 d) long (first_default ks d long)))

some_next : (o : Option Filled) (f : Filled → Option Filled) → IsSome (parted_next o f) → IsSome o
some_next None f h = absurd (cc h)
some_next (Some filled) f h = refl

pub parted_part : (filled : Filled) (ks : List Bool) (d : Bool) (vs : List Input) (v : Input) (all : Option Filled) → 1 ≤ length ks → 1 ≤ length vs → v ≡ get_or vs 0 v
    → parted_from filled ks vs ≡ all → IsSome all → IsSome (with_part (get_or ks 0 d) v filled)
parted_part filled ks d vs v all long longer first e some =
    some_next (with_part (get_or ks 0 d) v filled) (λ more. parted_from more (take (length ks - 1) (drop 1 ks)) (take (length vs - 1) (drop 1 vs)))
    (subst (λ (o : Option Filled). IsSome o) (sym (more_parts filled ks d vs v long longer first ∙ e)) some)

pub parted_turn : (filled filled' : Filled) (ks : List Bool) (d : Bool) (vs : List Input) (v : Input) (all : Option Filled) → 1 ≤ length ks → 1 ≤ length vs → v ≡ get_or vs 0 v
    → with_part (get_or ks 0 d) v filled ≡ Some filled' → parted_from filled ks vs ≡ all
    → parted_from filled' (take (length ks - 1) (drop 1 ks)) (take (length vs - 1) (drop 1 vs)) ≡ all
parted_turn filled filled' ks d vs v all long longer first part e =
    ap (λ o. parted_next o (λ more. parted_from more (take (length ks - 1) (drop 1 ks)) (take (length vs - 1) (drop 1 vs)))) (sym part)
    ∙ more_parts filled ks d vs v long longer first ∙ e

-- where what is left has no kinds, it has no inputs either, and all is parted
pub parted_end : (filled : Filled) (ks : List Bool) (vs : List Input) (all : Option Filled) → length ks < 1 → parted_from filled ks vs ≡ all → IsSome all → all ≡ Some filled
unfolding parted_from
parted_end filled [] [] all none e some = sym e
parted_end filled [] (v ∷ vs) all none e some = let gone : IsSome {T = Filled} None = subst (λ (o : Option Filled). IsSome o) (sym e) some in absurd (cc gone)
parted_end filled (k ∷ ks) vs all none e some = absurd (omega arith)

-- there are inputs for all kinds
pub parted_more : (filled : Filled) (ks : List Bool) (vs : List Input) (all : Option Filled) → 1 ≤ length ks → parted_from filled ks vs ≡ all → IsSome all → 1 ≤ length vs
unfolding parted_from
parted_more filled [] vs all long e some = absurd (omega arith)
parted_more filled (k ∷ ks) [] all long e some = let gone : IsSome {T = Filled} None = subst (λ (o : Option Filled). IsSome o) (sym e) some in absurd (cc gone)
parted_more filled (k ∷ ks) (v ∷ vs) all long e some = omega arith

-- ---- the use of a view

pub has_code : (o : Option CodeId) (filled : Option Filled) → IsSome (custom_with o filled) → IsSome o
has_code None filled h = absurd (cc h)
has_code (Some code) filled h = refl

pub has_parts : (o : Option CodeId) (filled : Option Filled) → IsSome (custom_with o filled) → IsSome filled
has_parts None filled h = absurd (cc h)
has_parts (Some code) None h = absurd (cc h)
has_parts (Some code) (Some parts) h = refl
