-- A run over a list, a byte at a time.
use Rattle.std.proofs.Common.{◌*◌, ◌/◌, ◌-◌, ◌&&◌, ◌≡◌, ℕ, zero, suc, ◌+◌, ◌<◌, ◌≤◌, Bool, true, false, cond, List, [], ◌∷◌, length, get_or, drop, refl, ap, ◌∙◌, arith, add-one, drop-cons}
use Rattle.std.specs.Prelude.{Option, Some, None, nat_le, nat_eq}
use Rattle.std.proofs.lemmas.Bool.{le-leb, lt-leb, ne_eqb}
use Rattle.std.proofs.Math.Nat.{div-lt_iff_lt-mul, mul_comm}
use Rattle.swift_lex.specs.Spellings.{run, digit_value, value_from, max_int, int_of, comment, more}

pub run_step : (p : ℕ → Bool) (bs : List ℕ) (i : ℕ) → i < length bs → run p (drop i bs) ≡ cond (p (get_or bs i 0)) (suc (run p (drop (i + 1) bs))) 0
run_step p bs i lt = rw (add-one, drop-cons bs i 0) refl

pub run_end : (p : ℕ → Bool) (bs : List ℕ) (i : ℕ) → length bs ≤ i → run p (drop i bs) ≡ 0
run_end p [] zero le = refl
run_end p [] (suc i) le = refl
run_end p (b ∷ bs) zero le = absurd (omega arith)
run_end p (b ∷ bs) (suc i) le = run_end p bs i (omega arith)

-- ---- numbers

mul-le-self : (n base : ℕ) → 1 ≤ base → n ≤ base * n
mul-le-self n base h = grind arith

pub value_step : (base : ℕ) (bs : List ℕ) (i n : ℕ) → i < length bs → value_from base n (drop i bs) ≡ value_from base (cond (nat_eq (get_or bs i 0) 95) n (base * n + digit_value (get_or bs i 0))) (drop (i + 1) bs)
value_step base bs i n lt = rw (add-one, drop-cons bs i 0) refl

pub value_end : (base : ℕ) (bs : List ℕ) (i n : ℕ) → length bs ≤ i → value_from base n (drop i bs) ≡ n
value_end base [] zero n le = refl
value_end base [] (suc i) n le = refl
value_end base (b ∷ bs) zero n le = absurd (omega arith)
value_end base (b ∷ bs) (suc i) n le = value_end base bs i n (omega arith)

keeps : (base n d : ℕ) (t : Bool) → 1 ≤ base → n ≤ cond t n (base * n + d)
keeps base n d true h = omega arith
keeps base n d false h = let m : n ≤ base * n = mul-le-self n base h in omega arith

pub value_grows : (base : ℕ) → 1 ≤ base → (n : ℕ) (bs : List ℕ) → n ≤ value_from base n bs
value_grows base some n [] = omega arith
value_grows base some n (b ∷ bs) =
    let h = value_grows base some (cond (nat_eq b 95) n (base * n + digit_value b)) bs in
    let k = keeps base n (digit_value b) (nat_eq b 95) some in
    omega arith

pub int_none : (base : ℕ) (bs : List ℕ) → max_int < value_from base 0 bs → int_of base bs ≡ None
int_none base bs lt = let off : nat_le (value_from base 0 bs) max_int ≡ false = lt-leb (value_from base 0 bs) max_int lt in rw off refl

pub int_some : (base : ℕ) (bs : List ℕ) (n : ℕ) → value_from base 0 bs ≡ n → n ≤ max_int → int_of base bs ≡ Some n
int_some base bs n e le = let on : nat_le n max_int ≡ true = le-leb n max_int le in rw (e, on) refl

too_big : (base n x : ℕ) → 1 ≤ base → x / base < n → x < base * n
too_big base n x some lt =
    let both = div-lt_iff_lt-mul {k = base} {x = x} {y = n} (omega arith) in
    let h : x < n * base = both.0 lt in
    let c : n * base ≡ base * n = mul_comm n base in
    omega arith

-- a digit more would pass the limit
pub int_over : (base : ℕ) (bs : List ℕ) (i n : ℕ) → 1 ≤ base → i < length bs → (get_or bs i 0 ≡ 95 → ⊥) → value_from base n (drop i bs) ≡ value_from base 0 bs
    → digit_value (get_or bs i 0) ≤ 16 → (max_int - digit_value (get_or bs i 0)) / base < n → int_of base bs ≡ None
int_over base bs i n some lt other same small passes =
    let d : ℕ = digit_value (get_or bs i 0) in
    let off : nat_eq (get_or bs i 0) 95 ≡ false = ne_eqb (get_or bs i 0) 95 other in
    let step : value_from base n (drop i bs) ≡ value_from base (base * n + digit_value (get_or bs i 0)) (drop (i + 1) bs) = value_step base bs i n lt ∙ rw off refl in
    let grows = value_grows base some (base * n + digit_value (get_or bs i 0)) (drop (i + 1) bs) in
    let big = too_big base n (max_int - digit_value (get_or bs i 0)) some passes in
    int_none base bs (omega arith)

-- ---- comments

pub more_more : (a b : ℕ) (o : Option ℕ) → more a (more b o) ≡ more (a + b) o
more_more a b None = refl
more_more a b (Some n) = ap (λ k. Some k) (omega arith)

pub drop_two : (bs : List ℕ) (at : ℕ) → suc at < length bs → drop at bs ≡ get_or bs at 0 ∷ get_or bs (suc at) 0 ∷ drop (suc (suc at)) bs
drop_two [] at lt = absurd (omega arith)
drop_two (b ∷ []) at lt = absurd (omega arith)
drop_two (b ∷ c ∷ bs) zero lt = refl
drop_two (b ∷ c ∷ bs) (suc at) lt = drop_two (c ∷ bs) at (omega arith)

pub drop_next : (bs : List ℕ) (at : ℕ) → suc at < length bs → drop (suc at) bs ≡ get_or bs (suc at) 0 ∷ drop (suc (suc at)) bs
drop_next [] at lt = absurd (omega arith)
drop_next (b ∷ []) at lt = absurd (omega arith)
drop_next (b ∷ c ∷ bs) zero lt = refl
drop_next (b ∷ c ∷ bs) (suc at) lt = drop_next (c ∷ bs) at (omega arith)

pub comment_at : (d : ℕ) (bs : List ℕ) (at : ℕ) → at + 1 < length bs
    → comment d (drop at bs) ≡ cond (nat_eq (get_or bs at 0) 47 && nat_eq (get_or bs (at + 1) 0) 42) (more 2 (comment (suc d) (drop (at + 2) bs)))
    (cond (nat_eq (get_or bs at 0) 42 && nat_eq (get_or bs (at + 1) 0) 47) (cond (nat_le d 1) (Some 2) (more 2 (comment (d - 1) (drop (at + 2) bs)))) (more 1 (comment d (drop (at + 1) bs))))
unfolding comment
comment_at d bs at lt =
    let e1 : at + 1 ≡ suc at = omega arith in
    let e2 : at + 2 ≡ suc (suc at) = omega arith in
    let l : suc at < length bs = omega arith in
    rw (e1, e2, drop_two bs at l, drop_next bs at l) refl

pub comment_end : (d : ℕ) (bs : List ℕ) (at : ℕ) → length bs ≤ at + 1 → comment d (drop at bs) ≡ None
unfolding comment
comment_end d [] zero le = refl
comment_end d [] (suc at) le = refl
comment_end d (b ∷ []) zero le = refl
comment_end d (b ∷ c ∷ bs) zero le = absurd (omega arith)
comment_end d (b ∷ bs) (suc at) le = comment_end d bs at (omega arith)

run_by : (n m : ℕ) (t : Bool) → n ≤ m → cond t (suc n) 0 ≤ suc m
run_by n m true h = omega arith
run_by n m false h = omega arith

pub run_within : (p : ℕ → Bool) (bs : List ℕ) → run p bs ≤ length bs
run_within p [] = omega arith
run_within p (b ∷ bs) = run_by (run p bs) (length bs) (p b) (run_within p bs)
