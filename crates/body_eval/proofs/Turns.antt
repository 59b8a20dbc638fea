-- One turn of a loop, whose meaning is one step and then the rest.
use Rattle.std.proofs.Common.{◌≡◌, ℕ, zero, suc, ◌+◌, ◌-◌, ◌<◌, ◌≤◌, Bool, true, false, List, [], ◌∷◌, length, get_or, take, drop, Option, None, refl, sym, ap, ◌∙◌, arith, drop-cons}
use Rattle.std.specs.Prelude.{slice_set}
use Rattle.std.proofs.lemmas.List.{take_rest}
use Rattle.sv_value.specs.declared.value.Value.{Value}
use Rattle.swift_core.specs.declared.item.CoreItem.{CoreItem}
use Rattle.swift_core.specs.declared.item.ItemArm.{ItemArm}
use Rattle.swift_core.specs.declared.item.ItemCase.{ItemCase}
use Rattle.core_means.specs.declared.parts.Local.{Local}
use Rattle.core_means.specs.declared.parts.Local.TheVariants as local
use Rattle.core_means.specs.Asks.{World, and_then, Look, Reads, Answer, Gave, under, choose, give}
use Rattle.core_means.specs.Means.{matches}
use Rattle.eval_terms.proofs.Steps.{goes_on, first_and_rest}
use Rattle.view_nodes.specs.declared.node.Element.{Element}
use Rattle.body_means.specs.Building.{Building, content}
use Rattle.body_means.specs.Items.{arm, arms, branch, case_of, unless_taken}
use Rattle.body_means.specs.Bodies.{with_captured}

-- one more is counted, and one less is left
pub counted_more : {X : Type 0} (n : ℕ) (xs : List X) (count : ℕ) → 1 ≤ length xs → n + length xs ≡ count
    → (n + 1) + length (take (length xs - 1) (drop 1 xs)) ≡ count
counted_more n [] count some all = absurd (omega arith)
counted_more n (y ∷ ys) count some all =
    let e : length (take (length (y ∷ ys) - 1) (drop 1 (y ∷ ys))) ≡ length ys = ap length (take_rest (y ∷ ys) 1) in
    omega arith

-- the arm is not taken, so those behind it follow
pub arms_turn : (b : Building) (look : Look) (reads reads' : Reads) (k : ℕ) (xs : List ItemArm) (a : ItemArm) (taken : Option (List Element)) (last : Option (List CoreItem)) (w w' : World) (whole : Answer (List Element))
    → 1 ≤ length xs → a ≡ get_or xs 0 a → under look reads (arm b k a w) ≡ Gave taken w' reads' → taken ≡ None
    → under look reads (arms b k xs last w) ≡ whole → under look reads' (arms b (k + 1) (take (length xs - 1) (drop 1 xs)) last w') ≡ whole
unfolding arms
arms_turn b look reads reads' k xs a taken last w w' whole some first h none all =
    let rest = take (length xs - 1) (drop 1 xs) in
    goes_on look reads reads' (arm b k a w) (λ t. unless_taken b t (arms b (k + 1) rest last)) None w' whole (h ∙ ap (λ t. Gave t w' reads') none)
    (ap (λ l. under look reads (arms b k l last w)) (sym (first_and_rest xs a some first)) ∙ all)

-- a case, and then those behind it, unless the value matches
cases_open : (b : Building) (look : Look) (reads : Reads) (k : ℕ) (v : Value) (xs : List ItemCase) (c : ItemCase) (w : World) (whole : Answer (List Element))
    → 1 ≤ length xs → c ≡ get_or xs 0 c → under look reads (case_of b k v xs w) ≡ whole
    → under look reads (choose (matches v c.patterns) (λ u. and_then (content b c.body u) (λ views. give (branch b k views))) (case_of b (k + 1) v (take (length xs - 1) (drop 1 xs))) w) ≡ whole
unfolding case_of
cases_open b look reads k v xs c w whole some first all =
    ap (λ l. under look reads (case_of b k v l w)) (sym (first_and_rest xs c some first)) ∙ all

pub case_taken : (b : Building) (look : Look) (reads : Reads) (k : ℕ) (v : Value) (xs : List ItemCase) (c : ItemCase) (items : List CoreItem) (is_matched : Bool) (w : World) (whole : Answer (List Element))
    → 1 ≤ length xs → c ≡ get_or xs 0 c → items ≡ c.body → is_matched ≡ matches v c.patterns → is_matched ≡ true → under look reads (case_of b k v xs w) ≡ whole
    → under look reads (and_then (content b items w) (λ views. give (branch b k views))) ≡ whole
case_taken b look reads k v xs c items is_matched w whole some first body test is all =
    let rest = case_of b (k + 1) v (take (length xs - 1) (drop 1 xs)) in
    ap (λ l. under look reads (and_then (content b l w) (λ views. give (branch b k views)))) body
    ∙ ap (λ t. under look reads (choose t (λ u. and_then (content b c.body u) (λ views. give (branch b k views))) rest w)) (sym (sym test ∙ is))
    ∙ cases_open b look reads k v xs c w whole some first all

pub case_passed : (b : Building) (look : Look) (reads : Reads) (k : ℕ) (v : Value) (xs : List ItemCase) (c : ItemCase) (is_matched : Bool) (w : World) (whole : Answer (List Element))
    → 1 ≤ length xs → c ≡ get_or xs 0 c → is_matched ≡ matches v c.patterns → is_matched ≡ false → under look reads (case_of b k v xs w) ≡ whole
    → under look reads (case_of b (k + 1) v (take (length xs - 1) (drop 1 xs)) w) ≡ whole
case_passed b look reads k v xs c is_matched w whole some first test is all =
    let rest = case_of b (k + 1) v (take (length xs - 1) (drop 1 xs)) in
    ap (λ t. under look reads (choose t (λ u. and_then (content b c.body u) (λ views. give (branch b k views))) rest w)) (sym (sym test ∙ is))
    ∙ cases_open b look reads k v xs c w whole some first all

suc-is : (i : ℕ) → suc i ≡ i + 1
suc-is i = omega arith

-- the local at a place is captured, and then those at the places behind it
pub captures_turn : (locals : List Local) (i : ℕ) (ks : List ℕ) → i < length ks
    → with_captured locals i (drop i ks) ≡ with_captured (slice_set locals (get_or ks i 0) (local.Captured i)) (i + 1) (drop (i + 1) ks)
unfolding with_captured
captures_turn locals i ks lt =
    ap (λ l. with_captured locals i l) (drop-cons ks i 0 lt)
    ∙ ap (λ n. with_captured (slice_set locals (get_or ks i 0) (local.Captured i)) (i + 1) (drop n ks)) (suc-is i)

drop-end : {X : Type 0} (xs : List X) (i : ℕ) → length xs ≤ i → drop i xs ≡ []
drop-end [] zero le = refl
drop-end [] (suc i) le = refl
drop-end (x ∷ xs) zero le = absurd (omega arith)
drop-end (x ∷ xs) (suc i) le = drop-end xs i (omega arith)

pub captures_end : (locals : List Local) (i : ℕ) (ks : List ℕ) → length ks ≤ i → with_captured locals i (drop i ks) ≡ locals
unfolding with_captured
captures_end locals i ks le = ap (λ l. with_captured locals i l) (drop-end ks i le)
