-- Values of one kind stand for their keys: as many are different, and the same ones are there.
use Rattle.std.proofs.Common.{◌≡◌, ◌⊎◌, ◌+◌, ℕ, ℤ, zero, suc, ◌<◌, Bool, true, false, ◌&&◌, List, [], ◌∷◌, ◌++◌, map, length, Option, Some, None, nat_eq, cond, rules, refl, sym, ap, subst, ◌∙◌, inl, inr, arith, append_assoc, string_bytes}
use Rattle.std.specs.declared.string.String.{String}
use Rattle.std.specs.Bool.{Decides}
use Rattle.std.specs.BTreeSet.{BTreeSet, contains, IsFromIterResult}
use Rattle.std.specs.Cmp.{IsTotalOrder, Equal-is, bool_cmp_total}
use Rattle.std.specs.FinMap.{IsAntisymmetric, int_cmp-IsAntisymmetric, nat_cmp-IsAntisymmetric, slice_cmp-IsAntisymmetric}
use Rattle.std.specs.Cmp.Lexicographic.{slice_cmp, nat_list_cmp_total}
use Rattle.std.specs.List.{filter_map, cons_option, list_all}
use Rattle.std.specs.Ordering.{eq_by_cmp, nat_cmp, int_cmp, bool_cmp}
use Rattle.std.specs.Set.{distinct_count, unique_keys, is_member}
use Rattle.std.specs.String.{string_cmp}
use Rattle.std.specs.declared.cmp.Ordering.{Ordering}
use Rattle.std.proofs.lemmas.Bool.Decides.{Decides-eqb, same_from_decides, eqb_tells}
use Rattle.std.proofs.lemmas.Cmp.{eq_by_cmp_equiv, int_cmp_total, nat_cmp_total}
use Rattle.sv_value.specs.declared.value.Value.{Value, out-Value, roll-Value}
use Rattle.sv_value.specs.declared.value.Value.TheViews.{the_lemmas}
use Rattle.sv_value.specs.declared.value.Value.TheVariants as value
use Rattle.sv_value.specs.declared.value.Value.TheVariants.{rolls-Int, rolls-Bool, rolls-Str, rolls-Case}
use Rattle.sv_value.specs.declared.value.Value.TheOpen.{Value-F}
use Rattle.case_rules.specs.declared.subject.Subject.{Subject}
use Rattle.case_rules.specs.declared.subject.Subject.TheVariants as of
use Rattle.case_rules.specs.Cases.{belongs, same_value, same_value_decides, all_apart, all_named, named, named_below}
use Rattle.type_cases.specs.Keys.{number_at, truth_at, text_at, place_at, keys, all_below}

-- ---- keys

pub keys_more : {K : Type 0} (f : Value-F Value → Option K) (xs : List K) (v : Value) (vs : List Value) → xs ++ keys f (v ∷ vs) ≡ (xs ++ cons_option (f (out-Value v)) []) ++ keys f vs
keys_more {K = K} f xs v vs = at (f (out-Value v))
  where
    at : (o : Option K) → xs ++ cons_option o (keys f vs) ≡ (xs ++ cons_option o []) ++ keys f vs
    at None = sym (append_assoc xs [] (keys f vs))
    at (Some k) = sym (append_assoc xs (k ∷ []) (keys f vs))

-- ---- a value and its level

rolled : (v : Value) (x : Value-F Value) → out-Value v ≡ x → v ≡ roll-Value x
rolled v x e = let same : roll-Value (out-Value v) ≡ v = search (rules, the_lemmas) in sym same ∙ ap roll-Value e

and_left : (a b : Bool) → (a && b) ≡ true → a ≡ true
and_left true b h = refl
and_left false b h = cc

and_right : (a b : Bool) → (a && b) ≡ true → b ≡ true
and_right true b h = h
and_right false b h = cc

-- ---- values of one kind are made of their keys

abbrev AllBelong : Subject → List Value → Type 0
AllBelong s vs = list_all (λ v. belongs s (out-Value v)) vs ≡ true

number_is : (x : Value-F Value) (v : Value) (ks : List ℤ) → out-Value v ≡ x → belongs of.Numbers x ≡ true → map value.Int (cons_option (number_at x) ks) ≡ v ∷ map value.Int ks
number_is (Value-F.Int n) v ks e h = ap (λ z. z ∷ map value.Int ks) (sym (rolls-Int n) ∙ sym (rolled v _ e))
number_is _ v ks e h = cc

numbers_are : (vs : List Value) → AllBelong of.Numbers vs → map value.Int (keys number_at vs) ≡ vs
numbers_are [] h = refl
numbers_are (v ∷ vs) h = number_is (out-Value v) v _ refl (and_left _ _ h) ∙ ap (λ zs. v ∷ zs) (numbers_are vs (and_right _ _ h))

truth_is : (x : Value-F Value) (v : Value) (ks : List Bool) → out-Value v ≡ x → belongs of.Truths x ≡ true → map value.Bool (cons_option (truth_at x) ks) ≡ v ∷ map value.Bool ks
truth_is (Value-F.Bool b) v ks e h = ap (λ z. z ∷ map value.Bool ks) (sym (rolls-Bool b) ∙ sym (rolled v _ e))
truth_is _ v ks e h = cc

truths_are : (vs : List Value) → AllBelong of.Truths vs → map value.Bool (keys truth_at vs) ≡ vs
truths_are [] h = refl
truths_are (v ∷ vs) h = truth_is (out-Value v) v _ refl (and_left _ _ h) ∙ ap (λ zs. v ∷ zs) (truths_are vs (and_right _ _ h))

text_is : (x : Value-F Value) (v : Value) (ks : List (List ℕ)) → out-Value v ≡ x → belongs of.Texts x ≡ true → map value.Str (cons_option (text_at x) ks) ≡ v ∷ map value.Str ks
text_is (Value-F.Str text) v ks e h = ap (λ z. z ∷ map value.Str ks) (sym (rolls-Str text) ∙ sym (rolled v _ e))
text_is _ v ks e h = cc

texts_are : (vs : List Value) → AllBelong of.Texts vs → map value.Str (keys text_at vs) ≡ vs
texts_are [] h = refl
texts_are (v ∷ vs) h = text_is (out-Value v) v _ refl (and_left _ _ h) ∙ ap (λ zs. v ∷ zs) (texts_are vs (and_right _ _ h))

case_is : (d cases : ℕ) (x : Value-F Value) (v : Value) (ks : List ℕ) → out-Value v ≡ x → belongs (of.Cases d cases) x ≡ true → map (value.Case d) (cons_option (place_at x) ks) ≡ v ∷ map (value.Case d) ks
case_is d cases (Value-F.Case kind place) v ks e h =
    let same : kind ≡ d = (Decides-eqb kind d).0 h in
    ap (λ z. z ∷ map (value.Case d) ks) (ap (λ k. value.Case k place) (sym same) ∙ sym (rolls-Case kind place) ∙ sym (rolled v _ e))
case_is d cases _ v ks e h = cc

cases_are : (d cases : ℕ) (vs : List Value) → AllBelong (of.Cases d cases) vs → map (value.Case d) (keys place_at vs) ≡ vs
cases_are d cases [] h = refl
cases_are d cases (v ∷ vs) h = case_is d cases (out-Value v) v _ refl (and_left _ _ h) ∙ ap (λ zs. v ∷ zs) (cases_are d cases vs (and_right _ _ h))

-- ---- keys that are told apart as what they stand for

member_map : {K V : Type 0} (f : K → V) (e : K → K → Bool) (d : V → V → Bool) → ((x y : K) → d (f x) (f y) ≡ e x y) → (ks : List K) (q : K) → is_member d (map f ks) (f q) ≡ is_member e ks q
member_map f e d alike [] q = refl
member_map f e d alike (k ∷ ks) q = rw (alike q k, member_map f e d alike ks q) refl

unique_map : {K V : Type 0} (f : K → V) (e : K → K → Bool) (d : V → V → Bool) → ((x y : K) → d (f x) (f y) ≡ e x y) → (ks : List K) → unique_keys d (map f ks) ≡ map f (unique_keys e ks)
unique_map f e d alike [] = refl
unique_map {K = K} f e d alike (k ∷ ks) = rw (member_map f e d alike ks k, unique_map f e d alike ks) (at (is_member e ks k))
  where
    at : (b : Bool) → cond b (map f (unique_keys e ks)) (f k ∷ map f (unique_keys e ks)) ≡ map f (cond b (unique_keys e ks) (k ∷ unique_keys e ks))
    at true = refl
    at false = refl

length_map : {K V : Type 0} (f : K → V) (ks : List K) → length (map f ks) ≡ length ks
length_map f [] = refl
length_map f (k ∷ ks) = ap suc (length_map f ks)

count_map : {K V : Type 0} (f : K → V) (e : K → K → Bool) (d : V → V → Bool) → ((x y : K) → d (f x) (f y) ≡ e x y) → (ks : List K) → distinct_count d (map f ks) ≡ distinct_count e ks
count_map f e d alike ks = ap length (unique_map f e d alike ks) ∙ length_map f (unique_keys e ks)

-- the test of an order decides equality
order_decides : {K : Type 0} {R : K → K → Ordering} → IsTotalOrder R → IsAntisymmetric R → (x y : K) → Decides (eq_by_cmp R x y) (x ≡ y)
order_decides {R = R} total anti x y = (
  λ h. anti x y ((Equal-is (R x y)).0 h),
  λ e. subst (λ z. eq_by_cmp R x z ≡ true) e ((eq_by_cmp_equiv total).refl x),
)

alike_values : {K : Type 0} (f : K → Value) (e : K → K → Bool) → ((x y : K) → Decides (e x y) (x ≡ y)) → ((x y : K) → f x ≡ f y → x ≡ y) → (x y : K) → same_value (f x) (f y) ≡ e x y
alike_values f e decides injective x y =
    let values : Decides (same_value (f x) (f y)) (x ≡ y) = (λ h. injective x y ((same_value_decides (f x) (f y)).0 h), λ p. (same_value_decides (f x) (f y)).1 (ap f p)) in
    same_from_decides _ _ values (decides x y)

int_injective : (x y : ℤ) → value.Int x ≡ value.Int y → x ≡ y
int_injective x y h = let e : out-Value (value.Int x) ≡ out-Value (value.Int y) = ap out-Value h in cc

bool_injective : (x y : Bool) → value.Bool x ≡ value.Bool y → x ≡ y
bool_injective x y h = let e : out-Value (value.Bool x) ≡ out-Value (value.Bool y) = ap out-Value h in cc

str_injective : (x y : List ℕ) → value.Str x ≡ value.Str y → x ≡ y
str_injective x y h = let e : out-Value (value.Str x) ≡ out-Value (value.Str y) = ap out-Value h in cc

case_injective : (d x y : ℕ) → value.Case d x ≡ value.Case d y → x ≡ y
case_injective d x y h = let e : out-Value (value.Case d x) ≡ out-Value (value.Case d y) = ap out-Value h in cc

bool_anti : IsAntisymmetric bool_cmp
bool_anti true true e = refl
bool_anti true false e = cc
bool_anti false true e = cc
bool_anti false false e = refl

numbers_alike : (x y : ℤ) → same_value (value.Int x) (value.Int y) ≡ eq_by_cmp int_cmp x y
numbers_alike = alike_values value.Int (eq_by_cmp int_cmp) (order_decides int_cmp_total int_cmp-IsAntisymmetric) int_injective

truths_alike : (x y : Bool) → same_value (value.Bool x) (value.Bool y) ≡ eq_by_cmp bool_cmp x y
truths_alike = alike_values value.Bool (eq_by_cmp bool_cmp) (order_decides bool_cmp_total bool_anti) bool_injective

texts_alike : (x y : List ℕ) → same_value (value.Str x) (value.Str y) ≡ eq_by_cmp (slice_cmp nat_cmp) x y
texts_alike = alike_values value.Str (eq_by_cmp (slice_cmp nat_cmp)) (order_decides nat_list_cmp_total (slice_cmp-IsAntisymmetric nat_cmp-IsAntisymmetric)) str_injective

cases_alike : (d x y : ℕ) → same_value (value.Case d x) (value.Case d y) ≡ eq_by_cmp nat_cmp x y
cases_alike d = alike_values (value.Case d) (eq_by_cmp nat_cmp) (order_decides nat_cmp_total nat_cmp-IsAntisymmetric) (case_injective d)

-- ---- no value stands twice where no key does

-- what a test of these keys answers
abbrev pub IsDistinctAnswer : {K : Type 0} → (K → K → Bool) → List K → Bool → Type 0
IsDistinctAnswer e ks b = b ≡ nat_eq (distinct_count e ks) (length ks)

apart_by : {K : Type 0} (f : K → Value) (e : K → K → Bool) → ((x y : K) → same_value (f x) (f y) ≡ e x y) → (ks : List K) (vs : List Value) → map f ks ≡ vs → nat_eq (distinct_count e ks) (length ks) ≡ all_apart vs
unfolding all_apart
apart_by f e alike ks vs is = subst (λ us. nat_eq (distinct_count e ks) (length ks) ≡ nat_eq (distinct_count same_value us) (length us)) is (rw (count_map f e same_value alike ks, length_map f ks) refl)

pub numbers_apart : (vs : List Value) (ks : List ℤ) → ks ≡ keys number_at vs → (b : Bool) → IsDistinctAnswer (eq_by_cmp int_cmp) ks b → AllBelong of.Numbers vs → b ≡ all_apart vs
numbers_apart vs ks is b h all = h ∙ apart_by value.Int (eq_by_cmp int_cmp) numbers_alike ks vs (ap (map value.Int) is ∙ numbers_are vs all)

pub truths_apart : (vs : List Value) (ks : List Bool) → ks ≡ keys truth_at vs → (b : Bool) → IsDistinctAnswer (eq_by_cmp bool_cmp) ks b → AllBelong of.Truths vs → b ≡ all_apart vs
truths_apart vs ks is b h all = h ∙ apart_by value.Bool (eq_by_cmp bool_cmp) truths_alike ks vs (ap (map value.Bool) is ∙ truths_are vs all)

pub cases_apart : (d cases : ℕ) (vs : List Value) (ks : List ℕ) → ks ≡ keys place_at vs → (b : Bool) → IsDistinctAnswer (eq_by_cmp nat_cmp) ks b → AllBelong (of.Cases d cases) vs → b ≡ all_apart vs
cases_apart d cases vs ks is b h all = h ∙ apart_by (value.Case d) (eq_by_cmp nat_cmp) (cases_alike d) ks vs (ap (map (value.Case d)) is ∙ cases_are d cases vs all)

-- texts are told apart by their bytes
pub texts_apart : {Z : Type 0} (vs : List Value) (ks : List (String Z)) → map string_bytes ks ≡ keys text_at vs → (b : Bool) → IsDistinctAnswer (eq_by_cmp string_cmp) ks b → AllBelong of.Texts vs → b ≡ all_apart vs
texts_apart {Z = Z} vs ks is b h all =
    let bytes : distinct_count (eq_by_cmp (slice_cmp nat_cmp)) (map string_bytes ks) ≡ distinct_count (eq_by_cmp string_cmp) ks = count_map string_bytes (eq_by_cmp string_cmp) (eq_by_cmp (slice_cmp nat_cmp)) (λ x y. refl) ks in
    h ∙ ap (λ n. nat_eq n (length ks)) (sym bytes) ∙ ap (λ n. nat_eq (distinct_count (eq_by_cmp (slice_cmp nat_cmp)) (map string_bytes ks)) n) (sym (length_map string_bytes ks))
    ∙ apart_by value.Str (eq_by_cmp (slice_cmp nat_cmp)) texts_alike (map string_bytes ks) vs (ap (map value.Str) is ∙ texts_are vs all)

-- ---- which values are there

named_by : {K : Type 0} (f : K → Value) (R : K → K → Ordering) → ((x y : K) → same_value (f x) (f y) ≡ eq_by_cmp R x y) → (ks : List K) (vs : List Value) (set : BTreeSet K) → map f ks ≡ vs → IsFromIterResult R ks set → (q : K) → contains R set q ≡ named vs (f q)
named_by f R alike ks vs set is made q = made.0 q ∙ sym (member_map f (eq_by_cmp R) same_value alike ks q) ∙ ap (λ us. is_member same_value us (f q)) is

pub truths_named : (vs : List Value) (ks : List Bool) (set : BTreeSet Bool) → ks ≡ keys truth_at vs → IsFromIterResult bool_cmp ks set → AllBelong of.Truths vs → (contains bool_cmp set true && contains bool_cmp set false) ≡ all_named of.Truths vs
unfolding all_named
truths_named vs ks set is made all =
    let at = named_by value.Bool bool_cmp truths_alike ks vs set (ap (map value.Bool) is ∙ truths_are vs all) made in
    rw (at true, at false) refl

below_alike : (d : ℕ) (vs : List Value) (test : ℕ → Bool) → ((p : ℕ) → test p ≡ named vs (value.Case d p)) → (n : ℕ) → all_below test n ≡ named_below d vs n
below_alike d vs test alike zero = refl
below_alike d vs test alike (suc n) = rw (below_alike d vs test alike n, alike n) refl

pub cases_named : (d cases : ℕ) (vs : List Value) (ks : List ℕ) (set : BTreeSet ℕ) → ks ≡ keys place_at vs → IsFromIterResult nat_cmp ks set → AllBelong (of.Cases d cases) vs → all_below (λ p. contains nat_cmp set p) cases ≡ all_named (of.Cases d cases) vs
unfolding all_named
cases_named d cases vs ks set is made all =
    below_alike d vs (λ p. contains nat_cmp set p) (named_by (value.Case d) nat_cmp (cases_alike d) ks vs set (ap (map (value.Case d)) is ∙ cases_are d cases vs all) made) cases

-- ---- all below a number

order : (k n : ℕ) → k < suc n → (k < n) ⊎ (k ≡ n)
order k n lt = elim (eqb_tells k n) [ inl is ↦ inr is.1 | inr not ↦ inl (let apart = not.1 in omega arith) ]

and_false : (b : Bool) → (b && false) ≡ false
and_false true = refl
and_false false = refl

pub below_false : (test : ℕ → Bool) (n k : ℕ) → k < n → test k ≡ false → all_below test n ≡ false
below_false test zero k lt h = absurd (omega arith)
below_false test (suc n) k lt h =
    elim (order k n lt) [ inl below ↦ rw (below_false test n k below h) refl | inr is ↦ rw (sym is, h) (and_false (all_below test k)) ]

pub below_more : (test : ℕ → Bool) (n : ℕ) → all_below test n ≡ true → test n ≡ true → all_below test (n + 1) ≡ true
below_more test n h t = let e : n + 1 ≡ suc n = omega arith in rw (e, h, t) refl
