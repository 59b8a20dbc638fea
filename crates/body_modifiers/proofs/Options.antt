-- Lists of what is told of each item, where it is told of all.
use Rattle.std.specs.Prelude.{ℤ}
use Rattle.std.proofs.Common.{◌≡◌, ◌<◌, ◌≤◌, ◌-◌, List, [], ◌∷◌, ◌++◌, length, get_or, take, drop, Option, Some, None, IsSome, refl, ap, sym, subst, ◌∙◌, append_assoc, arith}
use Rattle.std.proofs.lemmas.List.{append-nil}
use Rattle.identity_path.specs.declared.input.Input.{Input}
use Rattle.sv_value.specs.declared.value.Value.{Value}
use Rattle.eval_terms.proofs.Steps.{first_and_rest}
use Rattle.body_means.specs.Modified.{option_then, number_in, numbers_in, value_in, values_in, only_value}

module _ {Y : Type 0} where
  -- what is told behind what is done
  unfoldable pub with_done : List Y → Option (List Y) → Option (List Y)
  with_done done None = None
  with_done done (Some ys) = Some (done ++ ys)

  pub with_none : (o : Option (List Y)) → with_done [] o ≡ o
  unfolding with_done
  with_none None = refl
  with_none (Some ys) = refl

  pub with_end : (done : List Y) → with_done done (Some []) ≡ Some done
  unfolding with_done
  with_end done = ap (λ (l : List Y). Some l) (append-nil done)

  with_one : (done : List Y) (y : Y) (o : Option (List Y)) → with_done (done ++ y ∷ []) o ≡ with_done done (option_then o (λ ys. Some (y ∷ ys)))
  unfolding with_done
  with_one done y None = refl
  with_one done y (Some ys) = ap (λ (l : List Y). Some l) (append_assoc done (y ∷ []) ys)

  -- where all is told, the first is
  told : (done : List Y) (o : Option Y) (k : Y → Option (List Y)) → IsSome (with_done done (option_then o k)) → IsSome o
  unfolding with_done
  told done None k h = absurd (cc h)
  told done (Some y) k h = refl

module _ {X Y : Type 0} where
  -- what is told of the items so far and of the rest is the whole
  abbrev pub Tells : (List X → Option (List Y)) → List Y → List X → Option (List Y) → Type 0
  Tells f done rest whole = with_done done (f rest) ≡ whole

  opened : (g : X → Option Y) (f : List X → Option (List Y)) → ((x : X) (xs : List X) → f (x ∷ xs) ≡ option_then (g x) (λ y. option_then (f xs) (λ ys. Some (y ∷ ys))))
      → (done : List Y) (xs : List X) (x : X) (whole : Option (List Y)) → 1 ≤ length xs → x ≡ get_or xs 0 x → Tells f done xs whole
      → with_done done (option_then (g x) (λ y. option_then (f (take (length xs - 1) (drop 1 xs))) (λ ys. Some (y ∷ ys)))) ≡ whole
  opened g f more done xs x whole some first all =
      let rest = take (length xs - 1) (drop 1 xs) in
      ap (λ (o : Option (List Y)). with_done done o) (sym (more x rest))
      ∙ ap (λ (l : List X). with_done done (f l)) (sym (first_and_rest xs x some first))
      ∙ all

  turn : (g : X → Option Y) (f : List X → Option (List Y)) → ((x : X) (xs : List X) → f (x ∷ xs) ≡ option_then (g x) (λ y. option_then (f xs) (λ ys. Some (y ∷ ys))))
      → (done done' : List Y) (xs : List X) (x : X) (y : Y) (whole : Option (List Y))
      → 1 ≤ length xs → x ≡ get_or xs 0 x → g x ≡ Some y → done' ≡ done ++ y ∷ [] → Tells f done xs whole → Tells f done' (take (length xs - 1) (drop 1 xs)) whole
  turn g f more done done' xs x y whole some first h pushed all =
      let rest = take (length xs - 1) (drop 1 xs) in
      ap (λ (d : List Y). with_done d (f rest)) pushed
      ∙ with_one done y (f rest)
      ∙ ap (λ (o : Option Y). with_done done (option_then o (λ z. option_then (f rest) (λ ys. Some (z ∷ ys))))) (sym h)
      ∙ opened g f more done xs x whole some first all

  end : (f : List X → Option (List Y)) → f [] ≡ Some [] → (done : List Y) (xs : List X) (whole : Option (List Y)) → length xs < 1 → Tells f done xs whole → whole ≡ Some done
  end f nil done [] whole none all = sym all ∙ ap (λ (o : Option (List Y)). with_done done o) nil ∙ with_end done
  end f nil done (x ∷ xs) whole none all = absurd (omega arith)

  there : (g : X → Option Y) (f : List X → Option (List Y)) → ((x : X) (xs : List X) → f (x ∷ xs) ≡ option_then (g x) (λ y. option_then (f xs) (λ ys. Some (y ∷ ys))))
      → (done : List Y) (xs : List X) (x : X) (whole : Option (List Y)) → 1 ≤ length xs → x ≡ get_or xs 0 x → Tells f done xs whole → IsSome whole → IsSome (g x)
  there g f more done xs x whole some first all is =
      let rest = take (length xs - 1) (drop 1 xs) in
      told done (g x) (λ y. option_then (f rest) (λ ys. Some (y ∷ ys))) (subst (λ (o : Option (List Y)). IsSome o) (sym (opened g f more done xs x whole some first all)) is)

more_numbers : (o : Option Value) (os : List (Option Value)) → numbers_in (o ∷ os) ≡ option_then (number_in o) (λ n. option_then (numbers_in os) (λ ns. Some (n ∷ ns)))
unfolding numbers_in
more_numbers o os = refl

more_values : (default : Option Value) (o : Option Value) (os : List (Option Value))
    → values_in default (o ∷ os) ≡ option_then (value_in default o) (λ v. option_then (values_in default os) (λ vs. Some (v ∷ vs)))
unfolding values_in
more_values default o os = refl

no_numbers : numbers_in [] ≡ Some []
unfolding numbers_in
no_numbers = refl

no_values : (default : Option Value) → values_in default [] ≡ Some []
unfolding values_in
no_values default = refl

pub numbers_end : (done : List (Option ℤ)) (os : List (Option Value)) (whole : Option (List (Option ℤ))) → length os < 1 → Tells numbers_in done os whole → whole ≡ Some done
numbers_end = end numbers_in no_numbers

pub values_end : (default : Option Value) (done : List Input) (os : List (Option Value)) (whole : Option (List Input)) → length os < 1 → Tells (values_in default) done os whole → whole ≡ Some done
values_end default = end (values_in default) (no_values default)

pub numbers_turn : (done done' : List (Option ℤ)) (os : List (Option Value)) (o : Option Value) (n : Option ℤ) (whole : Option (List (Option ℤ)))
    → 1 ≤ length os → o ≡ get_or os 0 o → number_in o ≡ Some n → done' ≡ done ++ n ∷ [] → Tells numbers_in done os whole
    → Tells numbers_in done' (take (length os - 1) (drop 1 os)) whole
numbers_turn = turn number_in numbers_in more_numbers

pub number_there : (done : List (Option ℤ)) (os : List (Option Value)) (o : Option Value) (whole : Option (List (Option ℤ)))
    → 1 ≤ length os → o ≡ get_or os 0 o → Tells numbers_in done os whole → IsSome whole → IsSome (number_in o)
number_there = there number_in numbers_in more_numbers

pub values_turn : (default : Option Value) (done done' : List Input) (os : List (Option Value)) (o : Option Value) (v : Input) (whole : Option (List Input))
    → 1 ≤ length os → o ≡ get_or os 0 o → value_in default o ≡ Some v → done' ≡ done ++ v ∷ [] → Tells (values_in default) done os whole
    → Tells (values_in default) done' (take (length os - 1) (drop 1 os)) whole
values_turn default = turn (value_in default) (values_in default) (more_values default)

pub value_there : (default : Option Value) (done : List Input) (os : List (Option Value)) (o : Option Value) (whole : Option (List Input))
    → 1 ≤ length os → o ≡ get_or os 0 o → Tells (values_in default) done os whole → IsSome whole → IsSome (value_in default o)
value_there default = there (value_in default) (values_in default) (more_values default)

pub only_one : (os : List (Option Value)) → IsSome (only_value os) → length os ≡ 1
only_one [] h = absurd (cc h)
only_one (Some v ∷ []) h = refl
only_one (Some v ∷ o ∷ os) h = absurd (cc h)
only_one (None ∷ os) h = absurd (cc h)

pub only_is : (os : List (Option Value)) (o : Option Value) → length os ≡ 1 → o ≡ get_or os 0 o → only_value os ≡ o
only_is [] o e h = absurd (omega arith)
only_is (Some v ∷ []) o e h = sym h
only_is (Some v ∷ p ∷ os) o e h = absurd (omega arith)
only_is (None ∷ os) o e h = sym h
