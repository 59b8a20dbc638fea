-- Who calls whom: the lists of callers hold exactly the calls.
use Rattle.std.proofs.Common.{◌≡◌, ◌⊎◌, ℕ, zero, suc, ◌+◌, ◌<◌, Bool, true, false, cond, List, [], ◌∷◌, ◌++◌, map, Some, length, slice_get, refl, sym, ap, subst, ◌∙◌, arith, inl, inr}
use Rattle.std.proofs.lemmas.List.{length-map}
use Rattle.call_reach.specs.declared.search.Conduct.{Conduct}
use Rattle.call_reach.specs.Callers.{row, with_caller, with_calls, callers_from, none_yet, callers_of, itself_if, writers_from}

-- a number stands in a list
abbrev pub In : ℕ → List ℕ → Type 0
In x [] = ⊥
In x (y ∷ ys) = (y ≡ x) ⊎ In x ys

pub in_left : (x : ℕ) (xs ys : List ℕ) → In x xs → In x (xs ++ ys)
in_left x [] ys h = absurd h
in_left x (z ∷ xs) ys (inl e) = inl e
in_left x (z ∷ xs) ys (inr h) = inr (in_left x xs ys h)

pub in_right : (x : ℕ) (xs ys : List ℕ) → In x ys → In x (xs ++ ys)
in_right x [] ys h = h
in_right x (z ∷ xs) ys h = inr (in_right x xs ys h)

pub in_either : (x : ℕ) (xs ys : List ℕ) → In x (xs ++ ys) → In x xs ⊎ In x ys
in_either x [] ys h = inr h
in_either x (z ∷ xs) ys (inl e) = inl (inl e)
in_either x (z ∷ xs) ys (inr h) = elim (in_either x xs ys h) [ inl a ↦ inl (inr a) | inr b ↦ inr b ]

pub in_get : (xs : List ℕ) (k x : ℕ) → slice_get xs k ≡ Some x → In x xs
in_get [] k x e = cc
in_get (y ∷ xs) zero x e = let h : y ≡ x = cc in inl h
in_get (y ∷ xs) (suc k) x e = inr (in_get xs k x e)

pub get_in : (xs : List ℕ) (x : ℕ) → In x xs → (k : ℕ) × (slice_get xs k ≡ Some x)
get_in [] x h = absurd h
get_in (y ∷ xs) x (inl e) = (zero, ap (λ (v : ℕ). Some v) e)
get_in (y ∷ xs) x (inr h) = let r = get_in xs x h in (suc r.0, r.1)

-- the member of the number i calls the one of the number j
pub record Calls (members : List Conduct) (i j : ℕ) : Type 0 where
  pub member : Conduct
  pub stands : slice_get members i ≡ Some member
  pub calls : In j member.calls

-- ---- one caller more

caller_length : (i : ℕ) (xss : List (List ℕ)) (j : ℕ) → length (with_caller i xss j) ≡ length xss
caller_length i [] j = refl
caller_length i (xs ∷ xss) zero = refl
caller_length i (xs ∷ xss) (suc j) = ap suc (caller_length i xss j)

caller_keeps : (i : ℕ) (xss : List (List ℕ)) (j x l : ℕ) → In x (row xss l) → In x (row (with_caller i xss j) l)
caller_keeps i [] j x l h = h
caller_keeps i (xs ∷ xss) zero x zero h = in_left x xs (i ∷ []) h
caller_keeps i (xs ∷ xss) zero x (suc l) h = h
caller_keeps i (xs ∷ xss) (suc j) x zero h = h
caller_keeps i (xs ∷ xss) (suc j) x (suc l) h = caller_keeps i xss j x l h

caller_adds : (i : ℕ) (xss : List (List ℕ)) (j : ℕ) → j < length xss → In i (row (with_caller i xss j) j)
caller_adds i [] j lt = absurd (omega arith)
caller_adds i (xs ∷ xss) zero lt = in_right i xs (i ∷ []) (inl refl)
caller_adds i (xs ∷ xss) (suc j) lt = caller_adds i xss j (omega arith)

one_in : (x i : ℕ) → In x (i ∷ []) → i ≡ x
one_in x i (inl e) = e
one_in x i (inr h) = absurd h

caller_new : (i : ℕ) (xss : List (List ℕ)) (j x l : ℕ) → In x (row (with_caller i xss j) l) → In x (row xss l) ⊎ ((i ≡ x) × (j ≡ l))
caller_new i [] j x l h = inl h
caller_new i (xs ∷ xss) zero x zero h = elim (in_either x xs (i ∷ []) h) [ inl a ↦ inl a | inr b ↦ inr (one_in x i b, refl) ]
caller_new i (xs ∷ xss) zero x (suc l) h = inl h
caller_new i (xs ∷ xss) (suc j) x zero h = inl h
caller_new i (xs ∷ xss) (suc j) x (suc l) h = elim (caller_new i xss j x l h) [ inl a ↦ inl a | inr b ↦ inr (b.0, ap suc b.1) ]

-- ---- a caller of several

calls_length : (i : ℕ) (xss : List (List ℕ)) (js : List ℕ) → length (with_calls i xss js) ≡ length xss
calls_length i xss [] = refl
calls_length i xss (j ∷ js) = calls_length i (with_caller i xss j) js ∙ caller_length i xss j

calls_keep : (i : ℕ) (xss : List (List ℕ)) (js : List ℕ) (x l : ℕ) → In x (row xss l) → In x (row (with_calls i xss js) l)
calls_keep i xss [] x l h = h
calls_keep i xss (j ∷ js) x l h = calls_keep i (with_caller i xss j) js x l (caller_keeps i xss j x l h)

calls_add : (i : ℕ) (xss : List (List ℕ)) (js : List ℕ) (l : ℕ) → In l js → l < length xss → In i (row (with_calls i xss js) l)
calls_add i xss [] l h lt = absurd h
calls_add i xss (j ∷ js) l (inl e) lt =
    let less : j < length xss = omega arith in
    calls_keep i (with_caller i xss j) js i l (subst (λ (n : ℕ). In i (row (with_caller i xss j) n)) e (caller_adds i xss j less))
calls_add i xss (j ∷ js) l (inr h) lt = let n = caller_length i xss j in calls_add i (with_caller i xss j) js l h (omega arith)

calls_new : (i : ℕ) (xss : List (List ℕ)) (js : List ℕ) (x l : ℕ) → In x (row (with_calls i xss js) l) → In x (row xss l) ⊎ ((i ≡ x) × In l js)
calls_new i xss [] x l h = inl h
calls_new i xss (j ∷ js) x l h = elim (calls_new i (with_caller i xss j) js x l h) [
  | inl a ↦ elim (caller_new i xss j x l a) [ inl b ↦ inl b | inr b ↦ inr (b.0, inl b.1) ]
  | inr b ↦ inr (b.0, inr b.1)
]

-- ---- all callers

all_keep : (n : ℕ) (xss : List (List ℕ)) (ms : List Conduct) (x l : ℕ) → In x (row xss l) → In x (row (callers_from n xss ms) l)
all_keep n xss [] x l h = h
all_keep n xss (m ∷ ms) x l h = all_keep (suc n) (with_calls n xss m.calls) ms x l (calls_keep n xss m.calls x l h)

all_add : (n : ℕ) (xss : List (List ℕ)) (ms : List Conduct) (k : ℕ) (m : Conduct) (l : ℕ) → slice_get ms k ≡ Some m → In l m.calls → l < length xss
    → In (n + k) (row (callers_from n xss ms) l)
all_add n xss [] k m l e h lt = cc
all_add n xss (x ∷ ms) zero m l e h lt =
    let same : m ≡ x = cc in
    let is : n ≡ n + zero = omega arith in
    subst (λ (v : ℕ). In v (row (callers_from n xss (x ∷ ms)) l)) is
    (all_keep (suc n) (with_calls n xss x.calls) ms n l (calls_add n xss x.calls l (subst (λ (v : Conduct). In l v.calls) same h) lt))
all_add n xss (x ∷ ms) (suc k) m l e h lt =
    let is : suc n + k ≡ n + suc k = omega arith in
    let size = calls_length n xss x.calls in
    subst (λ (v : ℕ). In v (row (callers_from n xss (x ∷ ms)) l)) is (all_add (suc n) (with_calls n xss x.calls) ms k m l e h (omega arith))

-- one of these members, of which the first has the number n, is number i and calls number l
record Among (n : ℕ) (ms : List Conduct) (i l : ℕ) : Type 0 where
  pub at : ℕ
  pub number : i ≡ n + at
  pub member : Conduct
  pub stands : slice_get ms at ≡ Some member
  pub calls : In l member.calls

all_new : (n : ℕ) (xss : List (List ℕ)) (ms : List Conduct) (i l : ℕ) → In i (row (callers_from n xss ms) l) → In i (row xss l) ⊎ Among n ms i l
all_new n xss [] i l h = inl h
all_new n xss (m ∷ ms) i l h = elim (all_new (suc n) (with_calls n xss m.calls) ms i l h) [
  | inl a ↦ elim (calls_new n xss m.calls i l a) [
    | inl b ↦ inl b
    | inr b ↦ inr (record { at = zero; number = let e = b.0 in omega arith; member = m; stands = refl; calls = b.1 })
  ]
  | inr b ↦ inr (record { at = suc b.at; number = let e = b.number in omega arith; member = b.member; stands = b.stands; calls = b.calls })
]

nothing_yet : (ms : List Conduct) (i l : ℕ) → In i (row (map none_yet ms) l) → ⊥
nothing_yet [] i l h = h
nothing_yet (m ∷ ms) i zero h = h
nothing_yet (m ∷ ms) i (suc l) h = nothing_yet ms i l h

-- each caller calls
pub is_caller : (members : List Conduct) (i j : ℕ) → In i (row (callers_of members) j) → Calls members i j
is_caller members i j h = elim (all_new 0 (map none_yet members) members i j h) [
  | inl a ↦ absurd (nothing_yet members i j a)
  | inr b ↦
      let e : b.at ≡ i = let n = b.number in omega arith in
      record { member = b.member; stands = subst (λ (v : ℕ). slice_get members v ≡ Some b.member) e b.stands; calls = b.calls }
]

-- and who calls a member is one of its callers
pub has_caller : (members : List Conduct) (i j : ℕ) → Calls members i j → j < length members → In i (row (callers_of members) j)
has_caller members i j c lt =
    let size = length-map members none_yet in
    let e : 0 + i ≡ i = omega arith in
    subst (λ (v : ℕ). In v (row (callers_of members) j)) e (all_add 0 (map none_yet members) members i c.member j c.stands c.calls (omega arith))

-- ---- those that write

pub record Writes (members : List Conduct) (i : ℕ) : Type 0 where
  pub member : Conduct
  pub stands : slice_get members i ≡ Some member
  pub writes : member.writes ≡ true

if_has : (b : Bool) (m : Conduct) (i : ℕ) → m.writes ≡ b → b ≡ true → In i (itself_if m i)
if_has true m i e h = subst (λ (v : Bool). In i (cond v (i ∷ []) [])) (sym e) (inl refl)
if_has false m i e h = cc

if_is : (b : Bool) (m : Conduct) (i x : ℕ) → m.writes ≡ b → In x (itself_if m i) → (i ≡ x) × (b ≡ true)
if_is true m i x e h = (one_in x i (subst (λ (v : Bool). In x (cond v (i ∷ []) [])) e h), refl)
if_is false m i x e h = absurd (subst (λ (v : Bool). In x (cond v (i ∷ []) [])) e h)

from_has : (n : ℕ) (ms : List Conduct) (k : ℕ) (m : Conduct) → slice_get ms k ≡ Some m → m.writes ≡ true → In (n + k) (writers_from n ms)
from_has n [] k m e w = cc
from_has n (x ∷ ms) zero m e w =
    let same : m ≡ x = cc in
    let is : n ≡ n + zero = omega arith in
    subst (λ (v : ℕ). In v (writers_from n (x ∷ ms))) is
    (in_left n (itself_if x n) (writers_from (suc n) ms) (if_has x.writes x n refl (subst (λ (v : Conduct). v.writes ≡ true) same w)))
from_has n (x ∷ ms) (suc k) m e w =
    let is : suc n + k ≡ n + suc k = omega arith in
    subst (λ (v : ℕ). In v (writers_from n (x ∷ ms))) is (in_right (suc n + k) (itself_if x n) (writers_from (suc n) ms) (from_has (suc n) ms k m e w))

record WritesAmong (n : ℕ) (ms : List Conduct) (i : ℕ) : Type 0 where
  pub at : ℕ
  pub number : i ≡ n + at
  pub member : Conduct
  pub stands : slice_get ms at ≡ Some member
  pub writes : member.writes ≡ true

from_is : (n : ℕ) (ms : List Conduct) (i : ℕ) → In i (writers_from n ms) → WritesAmong n ms i
from_is n [] i h = absurd h
from_is n (m ∷ ms) i h = elim (in_either i (itself_if m n) (writers_from (suc n) ms) h) [
  | inl a ↦ let r = if_is m.writes m n i refl a in record { at = zero; number = let e = r.0 in omega arith; member = m; stands = refl; writes = r.1 }
  | inr b ↦ let r = from_is (suc n) ms i b in record { at = suc r.at; number = let e = r.number in omega arith; member = r.member; stands = r.stands; writes = r.writes }
]

pub is_writer : (members : List Conduct) (i : ℕ) → In i (writers_from 0 members) → Writes members i
is_writer members i h =
    let r = from_is 0 members i h in
    let e : r.at ≡ i = let n = r.number in omega arith in
    record { member = r.member; stands = subst (λ (v : ℕ). slice_get members v ≡ Some r.member) e r.stands; writes = r.writes }

pub has_writer : (members : List Conduct) (i : ℕ) → Writes members i → In i (writers_from 0 members)
has_writer members i w =
    let e : 0 + i ≡ i = omega arith in
    subst (λ (v : ℕ). In v (writers_from 0 members)) e (from_has 0 members i w.member w.stands w.writes)
