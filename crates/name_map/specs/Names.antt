-- Finite maps from names to numbers: the order that makes them values, what they answer after each change, and the map of
-- the names of a list.
use Rattle.std.specs.Prelude.{◌≡◌, ◌≢◌, ℕ, ◌+◌, ◌<◌, Bool, true, false, ◌||◌, Option, Some, None, List, [], ◌∷◌, ◌++◌, length, take, slice_get, if◌then◌else◌}
use Rattle.std.specs.Bool.{Decides}
use Rattle.std.specs.Option.{option_or, is_some}
use Rattle.std.specs.List.{list_any, position_from}
use Rattle.std.specs.Ordering.{nat_cmp, eq_by_cmp}
use Rattle.std.specs.Cmp.Lexicographic.{slice_cmp, nat_list_cmp_total}
use Rattle.std.specs.Cmp.{IsTotalOrder, Equal-is}
use Rattle.std.specs.FinMap as fin
use Rattle.std.specs.FinMap.{FinMap, IsAntisymmetric, nat_cmp-IsAntisymmetric, slice_cmp-IsAntisymmetric, get-empty, get-insert, same_map}
use Rattle.std.specs.declared.cmp.Ordering.{Ordering}
use Rattle.std.proofs.Common.{zero, suc, refl, sym, ap, subst, ◌∙◌, cond, inl, inr, arith}
use Rattle.std.proofs.lemmas.Bool.{cases_Bool}
use Rattle.std.proofs.lemmas.Cmp.{eq_by_cmp_equiv}
use Rattle.std.proofs.lemmas.List.{take_more, length-take}
use Rattle.std.proofs.lemmas.Option.{slice_get_within, get_or_from_slice_get}

-- the order of names, byte by byte from the first
abbrev pub name_cmp : List ℕ → List ℕ → Ordering
name_cmp = slice_cmp nat_cmp

-- whether two names are equal
abbrev pub same_name : List ℕ → List ℕ → Bool
same_name = eq_by_cmp name_cmp

-- a number for each of some names
abbrev pub Places : Type 0
Places = FinMap name_cmp ℕ

-- no name has a number
abbrev pub no_names : Places
no_names = fin.empty

-- the names of a list put in, in order, with numbers that count up from the first: of a name that stands twice the last one counts
abbrev pub with_names : Places → ℕ → List (List ℕ) → Places
with_names places first [] = places
with_names places first (name ∷ names) = with_names (fin.insert places name first) (first + 1) names

-- a number for a name that has none
abbrev pub with_new : Places → List ℕ → ℕ → Places
with_new places name place = if is_some (fin.get places name) then places else fin.insert places name place

-- the same, where a name keeps the number that it has: of a name that stands twice the first one counts
abbrev pub with_new_names : Places → ℕ → List (List ℕ) → Places
with_new_names places first [] = places
with_new_names places first (name ∷ names) = with_new_names (with_new places name first) (first + 1) names

-- where a name stands last in a list whose places count up from the first; std's `position_from` says where it stands first
abbrev pub last_from : List ℕ → ℕ → List (List ℕ) → Option ℕ
last_from name first [] = None
last_from name first (x ∷ xs) = option_or (last_from name (first + 1) xs) (if same_name name x then Some first else None)

-- where it stands last in a list
abbrev pub last_place : List ℕ → List (List ℕ) → Option ℕ
last_place name names = last_from name 0 names

-- ---- the order

pub name_cmp_total : IsTotalOrder name_cmp
name_cmp_total = nat_list_cmp_total

-- only equal names tie
pub name_cmp-IsAntisymmetric : IsAntisymmetric name_cmp
name_cmp-IsAntisymmetric = slice_cmp-IsAntisymmetric nat_cmp-IsAntisymmetric

-- the test that the order gives is equality
pub same_name_decides : (v w : List ℕ) → Decides (same_name v w) (v ≡ w)
same_name_decides v w = (
  λ h. name_cmp-IsAntisymmetric v w ((Equal-is (name_cmp v w)).0 h),
  λ e. subst (λ x. same_name v x ≡ true) e ((eq_by_cmp_equiv name_cmp_total).refl v),
)

pub same_name_refl : (name : List ℕ) → same_name name name ≡ true
same_name_refl name = (same_name_decides name name).1 refl

pub same_name_symm : (v w : List ℕ) → same_name v w ≡ same_name w v
same_name_symm = (eq_by_cmp_equiv name_cmp_total).symm

-- names that differ are told apart
pub same_name_apart : (v w : List ℕ) → v ≢ w → same_name v w ≡ false
same_name_apart v w apart = elim (cases_Bool (same_name v w)) [ inl is ↦ absurd (apart ((same_name_decides v w).0 is)) | inr not ↦ not ]

-- ---- one change

pub get-no_names : (name : List ℕ) → fin.get no_names name ≡ None
get-no_names name = get-empty name_cmp name

-- what a map answers at any name, once one has a number
pub get-named_any : (places : Places) (name : List ℕ) (place : ℕ) (w : List ℕ) → fin.get (fin.insert places name place) w ≡ (if same_name w name then Some place else fin.get places w)
get-named_any places name place w = get-insert name_cmp_total places name place w

-- that name has it
pub get-named : (places : Places) (name : List ℕ) (place : ℕ) → fin.get (fin.insert places name place) name ≡ Some place
get-named places name place = get-named_any places name place name ∙ ap (λ b. cond b (Some place) (fin.get places name)) (same_name_refl name)

-- and other names keep theirs
pub get-named_other : (places : Places) (name : List ℕ) (place : ℕ) (w : List ℕ) → w ≢ name → fin.get (fin.insert places name place) w ≡ fin.get places w
get-named_other places name place w apart = get-named_any places name place w ∙ ap (λ b. cond b (Some place) (fin.get places w)) (same_name_apart w name apart)

-- two maps that answer alike are equal
pub places_equal : (m n : Places) → ((name : List ℕ) → fin.get m name ≡ fin.get n name) → m ≡ n
places_equal m n is = same_map name_cmp_total name_cmp-IsAntisymmetric m n is

-- ---- the names of a list, of which the last counts

or_later : (o : Option ℕ) (b : Bool) (n : ℕ) (g : Option ℕ) → option_or o (cond b (Some n) g) ≡ option_or (option_or o (cond b (Some n) None)) g
or_later (Some x) b n g = refl
or_later None true n g = refl
or_later None false n g = refl

-- a name has the number of its last place in the list, and else the one that it had
pub get-with_names : (places : Places) (first : ℕ) (names : List (List ℕ)) (w : List ℕ) → fin.get (with_names places first names) w ≡ option_or (last_from w first names) (fin.get places w)
get-with_names places first [] w = refl
get-with_names places first (x ∷ xs) w =
    get-with_names (fin.insert places x first) (first + 1) xs w
    ∙ ap (option_or (last_from w (first + 1) xs)) (get-named_any places x first w)
    ∙ or_later (last_from w (first + 1) xs) (same_name w x) first (fin.get places w)

or_none : (o : Option ℕ) → option_or o None ≡ o
or_none None = refl
or_none (Some x) = refl

-- so the map of a list alone has the last place of each name
pub get-names : (names : List (List ℕ)) (w : List ℕ) → fin.get (with_names no_names 0 names) w ≡ last_place w names
get-names names w = get-with_names no_names 0 names w ∙ ap (option_or (last_place w names)) (get-no_names w) ∙ or_none (last_place w names)

-- one name more
pub with_names-push : (places : Places) (first : ℕ) (names : List (List ℕ)) (name : List ℕ) →
    with_names places first (names ++ name ∷ []) ≡ fin.insert (with_names places first names) name (first + length names)
with_names-push places first [] name = ap (fin.insert places name) (omega arith)
with_names-push places first (x ∷ xs) name =
    with_names-push (fin.insert places x first) (first + 1) xs name ∙ ap (fin.insert (with_names (fin.insert places x first) (first + 1) xs) name) (omega arith)

taken : (names : List (List ℕ)) (i : ℕ) (name : List ℕ) → slice_get names i ≡ Some name → (take (i + 1) names ≡ take i names ++ name ∷ []) × (length (take i names) ≡ i)
taken names i name e =
    let within = slice_get_within names i name e in
    (take_more names i name within ∙ ap (λ x. take i names ++ x ∷ []) (get_or_from_slice_get names i name name e), omega (arith, length-take i names))

-- a turn of the loop that puts in each name of a list
pub with_names-turn : (places : Places) (first : ℕ) (names : List (List ℕ)) (i : ℕ) (name : List ℕ) → slice_get names i ≡ Some name →
    with_names places first (take (i + 1) names) ≡ fin.insert (with_names places first (take i names)) name (first + i)
with_names-turn places first names i name e =
    let t = taken names i name e in
    ap (with_names places first) t.0 ∙ with_names-push places first (take i names) name ∙ ap (λ n. fin.insert (with_names places first (take i names)) name (first + n)) t.1

is_some_later : (o : Option ℕ) (b : Bool) (n : ℕ) → is_some (option_or o (cond b (Some n) None)) ≡ (b || is_some o)
is_some_later None true n = refl
is_some_later None false n = refl
is_some_later (Some x) true n = refl
is_some_later (Some x) false n = refl

-- a name has a last place where it stands in the list at all
pub is_some-last_from : (name : List ℕ) (first : ℕ) (names : List (List ℕ)) → is_some (last_from name first names) ≡ list_any (same_name name) names
is_some-last_from name first [] = refl
is_some-last_from name first (x ∷ xs) =
    is_some_later (last_from name (first + 1) xs) (same_name name x) first ∙ ap (λ b. same_name name x || b) (is_some-last_from name (first + 1) xs)

-- the last place of a name is one where it stands
pub last_from_stands : (name : List ℕ) (first : ℕ) (names : List (List ℕ)) (n : ℕ) → last_from name first names ≡ Some n → (i : ℕ) × (n ≡ first + i) × (slice_get names i ≡ Some name)
last_from_stands name first [] n e = cc
last_from_stands name first (x ∷ xs) n e = by (last_from name (first + 1) xs) refl (same_name name x) refl e (λ m h. last_from_stands name (first + 1) xs m h)
  where
    by : (o : Option ℕ) → last_from name (first + 1) xs ≡ o → (b : Bool) → same_name name x ≡ b → option_or o (cond b (Some first) None) ≡ Some n →
        ((m : ℕ) → last_from name (first + 1) xs ≡ Some m → (i : ℕ) × (m ≡ first + 1 + i) × (slice_get xs i ≡ Some name)) → (i : ℕ) × (n ≡ first + i) × (slice_get (x ∷ xs) i ≡ Some name)
    by (Some m) h b t f again = let rest = again m h in let same : m ≡ n = cc in (suc rest.0, omega (arith, rest.1, same), rest.2)
    by None h true t f again = let same : first ≡ n = cc in (0, omega (arith, same), ap Some (sym ((same_name_decides name x).0 t)))
    by None h false t f again = cc

-- a name that stands nowhere has no last place
pub last_from_none : (name : List ℕ) (first : ℕ) (names : List (List ℕ)) → ((i : ℕ) → slice_get names i ≢ Some name) → last_from name first names ≡ None
last_from_none name first [] none = refl
last_from_none name first (x ∷ xs) none = λ k.
    option_or (last_from_none name (first + 1) xs (λ j. none (suc j)) k) (cond (same_name_apart name x (λ e. none 0 (ap Some (sym e))) k) (Some first) None)

-- where a name stands and does not stand later, is its last place
pub last_from_is : (name : List ℕ) (first : ℕ) (names : List (List ℕ)) (i : ℕ) → slice_get names i ≡ Some name → ((j : ℕ) → i < j → slice_get names j ≢ Some name) → last_from name first names ≡ Some (first + i)
last_from_is name first [] i e later = cc
last_from_is name first (x ∷ xs) zero e later =
    let same : x ≡ name = cc in
    ap (λ o. option_or o (cond (same_name name x) (Some first) None)) (last_from_none name (first + 1) xs (λ j. later (suc j) (omega arith)))
    ∙ ap (λ b. cond b (Some first) None) ((same_name_decides name x).1 (sym same)) ∙ ap Some (omega arith)
last_from_is name first (x ∷ xs) (suc i) e later =
    ap (λ o. option_or o (cond (same_name name x) (Some first) None)) (last_from_is name (first + 1) xs i e (λ j h. later (suc j) (omega (arith, h)))) ∙ ap Some (omega arith)

-- ---- the names of a list, of which the first counts

-- what a map answers at any name, once one has a number that had none before
pub get-with_new : (places : Places) (name : List ℕ) (place : ℕ) (w : List ℕ) → fin.get (with_new places name place) w ≡ option_or (fin.get places w) (if same_name w name then Some place else None)
get-with_new places name place w = by (fin.get places name) refl (same_name w name) refl
  where
    there : (o : Option ℕ) (n : ℕ) → fin.get places w ≡ Some n → fin.get places w ≡ option_or (fin.get places w) o
    there o n e = e ∙ sym (ap (λ p. option_or p o) e)

    by : (o : Option ℕ) → fin.get places name ≡ o → (b : Bool) → same_name w name ≡ b →
        fin.get (cond (is_some (fin.get places name)) places (fin.insert places name place)) w ≡ option_or (fin.get places w) (cond (same_name w name) (Some place) None)
    by (Some n) h true t =
        ap (λ p. fin.get (cond (is_some p) places (fin.insert places name place)) w) h ∙ there _ n (ap (fin.get places) ((same_name_decides w name).0 t) ∙ h)
    by (Some n) h false t =
        ap (λ p. fin.get (cond (is_some p) places (fin.insert places name place)) w) h ∙ sym (or_none (fin.get places w)) ∙ ap (λ b. option_or (fin.get places w) (cond b (Some place) None)) (sym t)
    by None h true t =
        ap (λ p. fin.get (cond (is_some p) places (fin.insert places name place)) w) h ∙ get-named_any places name place w
        ∙ ap (λ b. cond b (Some place) (fin.get places w)) t
        ∙ sym (λ i. option_or ((ap (fin.get places) ((same_name_decides w name).0 t) ∙ h) i) (cond (t i) (Some place) None))
    by None h false t =
        ap (λ p. fin.get (cond (is_some p) places (fin.insert places name place)) w) h ∙ get-named_any places name place w
        ∙ ap (λ b. cond b (Some place) (fin.get places w)) t ∙ sym (or_none (fin.get places w)) ∙ ap (λ b. option_or (fin.get places w) (cond b (Some place) None)) (sym t)

or_first : (g : Option ℕ) (b : Bool) (n : ℕ) (o : Option ℕ) → option_or (option_or g (cond b (Some n) None)) o ≡ option_or g (cond b (Some n) o)
or_first (Some x) b n o = refl
or_first None true n o = refl
or_first None false n o = refl

-- a name keeps the number that it had, and else has that of its first place in the list
pub get-with_new_names : (places : Places) (first : ℕ) (names : List (List ℕ)) (w : List ℕ) → fin.get (with_new_names places first names) w ≡ option_or (fin.get places w) (position_from (same_name w) first names)
get-with_new_names places first [] w = sym (or_none (fin.get places w))
get-with_new_names places first (x ∷ xs) w =
    get-with_new_names (with_new places x first) (first + 1) xs w
    ∙ ap (λ g. option_or g (position_from (same_name w) (first + 1) xs)) (get-with_new places x first w)
    ∙ or_first (fin.get places w) (same_name w x) first (position_from (same_name w) (first + 1) xs)

-- so the map of a list alone has the first place of each name
pub get-new_names : (names : List (List ℕ)) (w : List ℕ) → fin.get (with_new_names no_names 0 names) w ≡ position_from (same_name w) 0 names
get-new_names names w = get-with_new_names no_names 0 names w ∙ ap (λ g. option_or g (position_from (same_name w) 0 names)) (get-no_names w)

-- one name more
pub with_new_names-push : (places : Places) (first : ℕ) (names : List (List ℕ)) (name : List ℕ) →
    with_new_names places first (names ++ name ∷ []) ≡ with_new (with_new_names places first names) name (first + length names)
with_new_names-push places first [] name = ap (with_new places name) (omega arith)
with_new_names-push places first (x ∷ xs) name =
    with_new_names-push (with_new places x first) (first + 1) xs name ∙ ap (with_new (with_new_names (with_new places x first) (first + 1) xs) name) (omega arith)

-- a turn of the loop that puts in each name of a list that has no number yet
pub with_new_names-turn : (places : Places) (first : ℕ) (names : List (List ℕ)) (i : ℕ) (name : List ℕ) → slice_get names i ≡ Some name →
    with_new_names places first (take (i + 1) names) ≡ with_new (with_new_names places first (take i names)) name (first + i)
with_new_names-turn places first names i name e =
    let t = taken names i name e in
    ap (with_new_names places first) t.0 ∙ with_new_names-push places first (take i names) name ∙ ap (λ n. with_new (with_new_names places first (take i names)) name (first + n)) t.1
