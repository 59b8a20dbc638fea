-- The values of all patterns, case by case, and when labels are those of a subject.
use Rattle.std.proofs.Common.{◌≡◌, ◌&&◌, ◌||◌, Bool, true, false, List, ◌∷◌, ◌++◌, Some, refl, append_assoc}
use Rattle.std.specs.List.{list_all}
use Rattle.sv_value.specs.declared.value.Value.{Value, out-Value}
use Rattle.case_rules.specs.declared.subject.Subject.{Subject}
use Rattle.case_rules.specs.Cases.{Label, all_patterns, belongs, all_apart, default_last, has_default, all_named, are_cases}

pub patterns_more : (xs vs : List Value) (ls : List Label) → (xs ++ vs) ++ all_patterns ls ≡ xs ++ all_patterns (Some vs ∷ ls)
patterns_more xs vs ls = append_assoc xs vs (all_patterns ls)

abbrev pub all_belong : Subject → List Value → Bool
all_belong s vs = list_all (λ v. belongs s (out-Value v)) vs

pub cases_foreign : (s : Subject) (labels : List Label) (vs : List Value) → vs ≡ all_patterns labels → all_belong s vs ≡ false → are_cases s labels ≡ false
unfolding are_cases
cases_foreign s labels vs is h = let a = rw is at h in rw a refl

pub cases_twice : (s : Subject) (labels : List Label) (vs : List Value) → vs ≡ all_patterns labels → all_belong s vs ≡ true → all_apart vs ≡ false → are_cases s labels ≡ false
unfolding are_cases
cases_twice s labels vs is all h = let a = rw is at all in let b = rw is at h in rw (a, b) refl

pub cases_behind : (s : Subject) (labels : List Label) (vs : List Value) → vs ≡ all_patterns labels → all_belong s vs ≡ true → all_apart vs ≡ true → default_last labels ≡ false → are_cases s labels ≡ false
unfolding are_cases
cases_behind s labels vs is all apart h = let a = rw is at all in let b = rw is at apart in rw (a, b, h) refl

pub cases_complete : (s : Subject) (labels : List Label) (vs : List Value) → vs ≡ all_patterns labels → all_belong s vs ≡ true → all_apart vs ≡ true → default_last labels ≡ true → are_cases s labels ≡ (has_default labels || all_named s vs)
unfolding are_cases
cases_complete s labels vs is all apart last = let a = rw is at all in let b = rw is at apart in rw (a, b, last, is) refl
