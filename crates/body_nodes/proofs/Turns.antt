-- Loops, turn by turn.
use Rattle.std.proofs.Common.{◌≡◌, ℕ, ◌-◌, ◌≤◌, List, [], ◌∷◌, ◌++◌, length, get_or, take, drop, ap, sym, ◌∙◌, arith, refl}
use Rattle.identity_path.specs.declared.input.Input.{Input}
use Rattle.core_means.specs.Asks.{World, Doing, and_then, Look, Reads, Answer, Gave, under}
use Rattle.core_means.specs.Places.{local_at}
use Rattle.body_means.specs.Kept.{own_at, with_own, kept_from, captured_from}
use Rattle.eval_terms.proofs.Steps.{goes_on, first_and_rest}

-- a loop that makes a step for each item, and goes on with what is done and the rest
pub turn : {S X A B : Type 0} (from : S → List X → Doing B) (step : X → Doing A) (next : S → A → S)
    → ((s : S) (x : X) (xs : List X) (w : World) → from s (x ∷ xs) w ≡ and_then (step x w) (λ a. from (next s a) xs))
    → (look : Look) (reads reads' : Reads) (s s' : S) (xs : List X) (x : X) (w w' : World) (a : A) (all : Answer B)
    → 1 ≤ length xs → x ≡ get_or xs 0 x → under look reads (step x w) ≡ Gave a w' reads' → s' ≡ next s a
    → under look reads (from s xs w) ≡ all → under look reads' (from s' (take (length xs - 1) (drop 1 xs)) w') ≡ all
turn from step next unrolls look reads reads' s s' xs x w w' a all some first h is e =
    let rest = take (length xs - 1) (drop 1 xs) in
    ap (λ t. under look reads' (from t rest w')) is
    ∙ goes_on look reads reads' (step x w) (λ b. from (next s b) rest) a w' all h
    (ap (under look reads) (sym (unrolls s x rest w))
    ∙ ap (λ l. under look reads (from s l w)) (sym (first_and_rest xs x some first)) ∙ e)

pub first_default : {X : Type 0} (xs : List X) (d : X) → 1 ≤ length xs → get_or xs 0 d ≡ get_or xs 0 (get_or xs 0 d)
first_default [] d h = absurd (omega arith)
first_default (x ∷ xs) d h = refl

-- the same over numbers
pub number_turn : {S A B : Type 0} (from : S → List ℕ → Doing B) (step : ℕ → Doing A) (next : S → A → S)
    → ((s : S) (x : ℕ) (xs : List ℕ) (w : World) → from s (x ∷ xs) w ≡ and_then (step x w) (λ a. from (next s a) xs))
    → (look : Look) (reads reads' : Reads) (s s' : S) (xs : List ℕ) (w w' : World) (a : A) (all : Answer B)
    → 1 ≤ length xs → under look reads (step (get_or xs 0 0) w) ≡ Gave a w' reads' → s' ≡ next s a
    → under look reads (from s xs w) ≡ all → under look reads' (from s' (take (length xs - 1) (drop 1 xs)) w') ≡ all
number_turn from step next unrolls look reads reads' s s' xs w w' a all some h is e =
    turn from step next unrolls look reads reads' s s' xs (get_or xs 0 0) w w' a all some (first_default xs 0 some) h is e

pub kept_unroll : (done : List Input) (k : ℕ) (ks : List ℕ) (w : World) → kept_from done (k ∷ ks) w ≡ and_then (own_at k w) (λ o. kept_from (with_own done o) ks)
unfolding kept_from
kept_unroll done k ks w = refl

pub captured_unroll : (done : List Input) (k : ℕ) (ks : List ℕ) (w : World)
    → captured_from done (k ∷ ks) w ≡ and_then (local_at k w) (λ v. captured_from (done ++ v ∷ []) ks)
unfolding captured_from
captured_unroll done k ks w = refl
