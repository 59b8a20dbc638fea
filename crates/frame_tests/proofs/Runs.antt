-- Members, keys and locals tested one after the other.
use Rattle.std.specs.Prelude.{◌↔◌, IsTrue}
use Rattle.std.proofs.Common.{◌≡◌, ℕ, zero, suc, ◌+◌, ◌<◌, ◌≤◌, ◌⊎◌, inl, inr, Bool, true, false, List, [], ◌∷◌, map, length, get_or, Option, Some, None, slice_get, refl, sym, ap, subst, ◌∙◌, arith}
use Rattle.std.proofs.lemmas.Option.{slice_get_within, slice_get_past, get_or_from_slice_get, slice_get-get_or}
use Rattle.identity_path.specs.Cells.{CellMap}
use Rattle.identity_path.specs.declared.input.Input.{Input}
use Rattle.sv_value.specs.declared.value.Value.{Value}
use Rattle.swift_core.specs.Context.{Local, local_of}
use Rattle.swift_core.specs.Values.{HasValue}
use Rattle.swift_core.specs.declared.code.LocalType.{LocalType}
use Rattle.swift_core.specs.declared.table.EnvironmentKey.{EnvironmentKey}
use Rattle.swift_core.specs.declared.table.Signature.{Signature}
use Rattle.swift_core.specs.declared.table.Table.{Table}
use Rattle.swift_core.specs.declared.ty.Ty.{Ty}
use Rattle.core_means.specs.declared.parts.Frame.{Frame}
use Rattle.world_fits.specs.Frames.{HasAt}
use Rattle.place_tests.specs.Nested.{SomeAnswer}
use Rattle.frame_tests.specs.Demands.{members_of, demands_of, FormPlain, MembersPlain, LocalPlain, LocalsPlain, KeyPlain, KeysPlain, KeysOf, Plain, SomeTypes}
use Rattle.frame_tests.proofs.Tested.{frames_are_tested}

-- ---- one test

no_truth : (b : Bool) → b ≡ true → b ≡ false → ⊥
no_truth b holding failing = let clash : true ≡ false = sym holding ∙ failing in cc

never : {A : Type 0} → (A → ⊥) → IsTrue false ↔ A
never h = (λ is. absurd (cc is), λ a. absurd (h a))

holds : {A : Type 0} → A → IsTrue true ↔ A
holds a = (λ is. a, λ x. refl)

less_or_last : (k n : ℕ) → k < n + 1 → (k < n) ⊎ (k ≡ n)
less_or_last zero zero h = inr refl
less_or_last zero (suc n) h = inl (omega arith)
less_or_last (suc k) zero h = absurd (omega (arith, h))
less_or_last (suc k) (suc n) h = elim (less_or_last k n (omega (arith, h))) [ inl x ↦ inl (omega (arith, x)) | inr x ↦ inr (ap suc x) ]

-- what stands at a place that is read
same_there : {X : Type 0} (xs : List X) (k i : ℕ) (x y : X) → k ≡ i → y ≡ get_or xs i y → slice_get xs k ≡ Some x → y ≡ x
same_there xs k i x y same e there = e ∙ get_or_from_slice_get xs i x y (ap (slice_get xs) (sym same) ∙ there)

stands : {X : Type 0} (xs : List X) (i : ℕ) (y : X) → i < length xs → y ≡ get_or xs i y → slice_get xs i ≡ Some y
stands xs i y h e = slice_get-get_or xs i y h ∙ ap Some (sym e)

-- ---- members

-- the first members
pub record MembersBefore (table : Table) (frame : Frame) (ms : List Signature) (n : ℕ) : Type 0 where
  pub before : (k : ℕ) (s : Signature) → k < n → slice_get ms k ≡ Some s → FormPlain table frame s.form

pub members_start : (table : Table) (frame : Frame) (ms : List Signature) → MembersBefore table frame ms 0
members_start table frame ms = record { before = λ k s h there. absurd (omega (arith, h)) }

pub members_turn : (table : Table) (frame : Frame) (ms : List Signature) (i : ℕ) (m : Signature) (b : Bool) → i < length ms → m ≡ get_or ms i m → IsTrue b ↔ FormPlain table frame m.form → b ≡ true
    → MembersBefore table frame ms i → MembersBefore table frame ms (i + 1)
members_turn table frame ms i m b h e plain is so_far = record { before = each }
  where
    each : (k : ℕ) (s : Signature) → k < i + 1 → slice_get ms k ≡ Some s → FormPlain table frame s.form
    each k s less there = elim (less_or_last k i less) [
      | inl x ↦ so_far.before k s x there
      | inr x ↦ subst (λ (y : Signature). FormPlain table frame y.form) (same_there ms k i s m x e there) (plain.0 is)
    ]

pub members_fail : (table : Table) (frame : Frame) (ms : List Signature) (i : ℕ) (m : Signature) (b : Bool) → i < length ms → m ≡ get_or ms i m → IsTrue b ↔ FormPlain table frame m.form → b ≡ false
    → IsTrue false ↔ MembersPlain table frame ms
members_fail table frame ms i m b h e plain is = never none
  where
    none : MembersPlain table frame ms → ⊥
    none all = no_truth b (plain.1 (all.each i m (stands ms i m h e))) is

pub members_end : (table : Table) (frame : Frame) (ms : List Signature) (i : ℕ) → length ms ≤ i → MembersBefore table frame ms i → IsTrue true ↔ MembersPlain table frame ms
members_end table frame ms i h so_far = holds all
  where
    within : (k : ℕ) (s : Signature) → slice_get ms k ≡ Some s → k < i
    within k s there = let less : k < length ms = slice_get_within ms k s there in omega (arith, less, h)

    all : MembersPlain table frame ms
    all = record { each = λ k s there. so_far.before k s (within k s there) there }

-- ---- keys

pub key_there : (table : Table) (t : Ty) (vs : List Value) (k : ℕ) (v : Value) (b : Bool) → slice_get vs k ≡ Some v → IsTrue b ↔ HasValue table t v → IsTrue b ↔ HasAt (HasValue table t) vs k
key_there table t vs k v b there h = (λ is. (v, there, h.0 is), λ one. h.1 (of_one one))
  where
    of_one : HasAt (HasValue table t) vs k → HasValue table t v
    of_one (x, e, typed) = let both : Some x ≡ Some v = sym e ∙ there in let same : x ≡ v = cc in subst (HasValue table t) same typed

pub key_past : (table : Table) (t : Ty) (vs : List Value) (k : ℕ) → length vs ≤ k → IsTrue false ↔ HasAt (HasValue table t) vs k
key_past table t vs k h = never none
  where
    none : HasAt (HasValue table t) vs k → ⊥
    none (x, e, typed) = let clash : Some x ≡ None = sym e ∙ slice_get_past vs k h in cc

pub key_typed : (table : Table) (frame : Frame) (k : ℕ) (key : EnvironmentKey) (t : Ty) (b : Bool) → key.ty ≡ Some t → IsTrue b ↔ HasAt (HasValue table t) frame.env k → IsTrue b ↔ KeyPlain table frame k key
key_typed table frame k key t b e h = (λ is. record { has = λ u typed. of_type u typed (h.0 is) }, λ plain. h.1 (plain.has t e))
  where
    of_type : (u : Ty) → key.ty ≡ Some u → HasAt (HasValue table t) frame.env k → HasAt (HasValue table u) frame.env k
    of_type u typed one = let both : Some t ≡ Some u = sym e ∙ typed in let same : t ≡ u = cc in subst (λ (x : Ty). HasAt (HasValue table x) frame.env k) same one

pub key_untyped : (table : Table) (frame : Frame) (k : ℕ) (key : EnvironmentKey) → key.ty ≡ None → IsTrue true ↔ KeyPlain table frame k key
key_untyped table frame k key e = holds plain
  where
    none : (t : Ty) → key.ty ≡ Some t → HasAt (HasValue table t) frame.env k
    none t typed = let clash : None ≡ Some t = sym e ∙ typed in absurd (cc clash)

    plain : KeyPlain table frame k key
    plain = record { has = none }

-- the first keys
pub record KeysBefore (table : Table) (frame : Frame) (keys : List EnvironmentKey) (n : ℕ) : Type 0 where
  pub before : (k : ℕ) (key : EnvironmentKey) → k < n → slice_get keys k ≡ Some key → KeyPlain table frame k key

pub keys_start : (table : Table) (frame : Frame) (keys : List EnvironmentKey) → KeysBefore table frame keys 0
keys_start table frame keys = record { before = λ k key h there. absurd (omega (arith, h)) }

pub keys_turn : (table : Table) (frame : Frame) (keys : List EnvironmentKey) (i : ℕ) (m : EnvironmentKey) (b : Bool) → i < length keys → m ≡ get_or keys i m → IsTrue b ↔ KeyPlain table frame i m → b ≡ true
    → KeysBefore table frame keys i → KeysBefore table frame keys (i + 1)
keys_turn table frame keys i m b h e plain is so_far = record { before = each }
  where
    each : (k : ℕ) (key : EnvironmentKey) → k < i + 1 → slice_get keys k ≡ Some key → KeyPlain table frame k key
    each k key less there = elim (less_or_last k i less) [
      | inl x ↦ so_far.before k key x there
      | inr x ↦ subst (λ (j : ℕ). KeyPlain table frame j key) (sym x) (subst (λ (y : EnvironmentKey). KeyPlain table frame i y) (same_there keys k i key m x e there) (plain.0 is))
    ]

pub keys_fail : (table : Table) (frame : Frame) (keys : List EnvironmentKey) (i : ℕ) (m : EnvironmentKey) (b : Bool) → i < length keys → m ≡ get_or keys i m → IsTrue b ↔ KeyPlain table frame i m → b ≡ false
    → IsTrue false ↔ KeysPlain table frame keys
keys_fail table frame keys i m b h e plain is = never none
  where
    none : KeysPlain table frame keys → ⊥
    none all = no_truth b (plain.1 (all.each i m (stands keys i m h e))) is

pub keys_end : (table : Table) (frame : Frame) (keys : List EnvironmentKey) (i : ℕ) → length keys ≤ i → KeysBefore table frame keys i → IsTrue true ↔ KeysPlain table frame keys
keys_end table frame keys i h so_far = holds all
  where
    within : (k : ℕ) (key : EnvironmentKey) → slice_get keys k ≡ Some key → k < i
    within k key there = let less : k < length keys = slice_get_within keys k key there in omega (arith, less, h)

    all : KeysPlain table frame keys
    all = record { each = λ k key there. so_far.before k key (within k key there) there }

-- ---- locals

-- the first locals
pub record LocalsBefore (table : Table) (ts : List LocalType) (xs : List Input) (n : ℕ) : Type 0 where
  pub before : (k : ℕ) (t : LocalType) (x : Input) → k < n → slice_get ts k ≡ Some t → slice_get xs k ≡ Some x → LocalPlain table (local_of t) x

as_many : (table : Table) (ts : List LocalType) (xs : List Input) → LocalsPlain table (map local_of ts) xs → length ts ≡ length xs
as_many table [] [] h = refl
as_many table [] (x ∷ xs) h = elim h [ ]
as_many table (t ∷ ts) [] h = elim h [ ]
as_many table (t ∷ ts) (x ∷ xs) (LocalsPlain.more_locals h hs) = ap suc (as_many table ts xs hs)

plain_at : (table : Table) (ts : List LocalType) (xs : List Input) (k : ℕ) (t : LocalType) (x : Input) → LocalsPlain table (map local_of ts) xs → slice_get ts k ≡ Some t → slice_get xs k ≡ Some x → LocalPlain table (local_of t) x
plain_at table [] xs k t x h e f = absurd (cc e)
plain_at table (u ∷ ts) [] k t x h e f = absurd (cc f)
plain_at table (u ∷ ts) (y ∷ xs) zero t x (LocalsPlain.more_locals h hs) e f =
    let same_type : u ≡ t = cc in
    let same : y ≡ x = cc in
    subst (λ (z : Input). LocalPlain table (local_of t) z) same (subst (λ (w : LocalType). LocalPlain table (local_of w) y) same_type h)
plain_at table (u ∷ ts) (y ∷ xs) (suc k) t x (LocalsPlain.more_locals h hs) e f = plain_at table ts xs k t x hs e f

all_plain_of : (table : Table) (ts : List LocalType) (xs : List Input) → length ts ≡ length xs → ((k : ℕ) (t : LocalType) (x : Input) → slice_get ts k ≡ Some t → slice_get xs k ≡ Some x → LocalPlain table (local_of t) x)
    → LocalsPlain table (map local_of ts) xs
all_plain_of table [] [] h each = LocalsPlain.no_locals
all_plain_of table [] (x ∷ xs) h each = absurd (omega (arith, h))
all_plain_of table (t ∷ ts) [] h each = absurd (omega (arith, h))
all_plain_of table (t ∷ ts) (x ∷ xs) h each = LocalsPlain.more_locals {l = local_of t} (each zero t x refl refl) (all_plain_of table ts xs (omega (arith, h)) (λ k u y e f. each (suc k) u y e f))

pub other_length : (table : Table) (ts : List LocalType) (xs : List Input) → (length ts ≡ length xs → ⊥) → IsTrue false ↔ LocalsPlain table (map local_of ts) xs
other_length table ts xs differ = never none
  where
    none : LocalsPlain table (map local_of ts) xs → ⊥
    none all = differ (as_many table ts xs all)

pub locals_start : (table : Table) (ts : List LocalType) (xs : List Input) → LocalsBefore table ts xs 0
locals_start table ts xs = record { before = λ k t x h e f. absurd (omega (arith, h)) }

pub locals_turn : (table : Table) (ts : List LocalType) (xs : List Input) (i : ℕ) (t : LocalType) (x : Input) (b : Bool) → t ≡ get_or ts i t → x ≡ get_or xs i x → IsTrue b ↔ LocalPlain table (local_of t) x → b ≡ true
    → LocalsBefore table ts xs i → LocalsBefore table ts xs (i + 1)
locals_turn table ts xs i t x b of_type of_input plain is so_far = record { before = each }
  where
    each : (k : ℕ) (u : LocalType) (y : Input) → k < i + 1 → slice_get ts k ≡ Some u → slice_get xs k ≡ Some y → LocalPlain table (local_of u) y
    each k u y less e f = elim (less_or_last k i less) [
      | inl z ↦ so_far.before k u y z e f
      | inr z ↦ subst (λ (w : Input). LocalPlain table (local_of u) w) (same_there xs k i y x z of_input f) (subst (λ (w : LocalType). LocalPlain table (local_of w) x) (same_there ts k i u t z of_type e) (plain.0 is))
    ]

pub locals_fail : (table : Table) (ts : List LocalType) (xs : List Input) (i : ℕ) (t : LocalType) (x : Input) (b : Bool) → i < length ts → i < length xs → t ≡ get_or ts i t → x ≡ get_or xs i x
    → IsTrue b ↔ LocalPlain table (local_of t) x → b ≡ false → IsTrue false ↔ LocalsPlain table (map local_of ts) xs
locals_fail table ts xs i t x b h g of_type of_input plain is = never none
  where
    none : LocalsPlain table (map local_of ts) xs → ⊥
    none all = no_truth b (plain.1 (plain_at table ts xs i t x all (stands ts i t h of_type) (stands xs i x g of_input))) is

pub locals_end : (table : Table) (ts : List LocalType) (xs : List Input) (i : ℕ) → length ts ≡ length xs → length ts ≤ i → LocalsBefore table ts xs i → IsTrue true ↔ LocalsPlain table (map local_of ts) xs
locals_end table ts xs i same h so_far = holds (all_plain_of table ts xs same each)
  where
    each : (k : ℕ) (t : LocalType) (x : Input) → slice_get ts k ≡ Some t → slice_get xs k ≡ Some x → LocalPlain table (local_of t) x
    each k t x e f = let less : k < length ts = slice_get_within ts k t e in so_far.before k t x (omega (arith, less, h)) e f

-- ---- all that is plain

pub no_keys : (table : Table) (view : Option ℕ) (frame : Frame) (ls : List Local) (b : Bool) → IsTrue b ↔ KeysOf table view frame → b ≡ false → IsTrue false ↔ Plain table view frame ls
no_keys table view frame ls b keys is = never none
  where
    none : Plain table view frame ls → ⊥
    none plain = no_truth b (keys.1 plain.of_keys) is

pub no_members : (table : Table) (view : Option ℕ) (frame : Frame) (ls : List Local) (ms : List Signature) (b : Bool) → ms ≡ members_of table view → IsTrue b ↔ MembersPlain table frame ms → b ≡ false
    → IsTrue false ↔ Plain table view frame ls
no_members table view frame ls ms b same members is = never none
  where
    none : Plain table view frame ls → ⊥
    none plain = no_truth b (members.1 (subst (MembersPlain table frame) (sym same) plain.of_members)) is

pub all_plain : (table : Table) (view : Option ℕ) (frame : Frame) (ls : List Local) (ms : List Signature) (k m b : Bool) → ms ≡ members_of table view → IsTrue k ↔ KeysOf table view frame → k ≡ true
    → IsTrue m ↔ MembersPlain table frame ms → m ≡ true → IsTrue b ↔ LocalsPlain table ls frame.locals → IsTrue b ↔ Plain table view frame ls
all_plain table view frame ls ms k m b same keys has_keys members has_members locals = (
  λ is. record { of_members = subst (MembersPlain table frame) same (members.0 has_members); of_keys = keys.0 has_keys; of_locals = locals.0 is },
  λ plain. locals.1 plain.of_locals,
)

pub not_plain : (table : Table) (cells : CellMap) (view : Option ℕ) (frame : Frame) (ls : List Local) (b : Bool) → IsTrue b ↔ Plain table view frame ls → b ≡ false → IsTrue false ↔ SomeTypes table cells view frame ls
not_plain table cells view frame ls b plain is = never none
  where
    none : SomeTypes table cells view frame ls → ⊥
    none some = let both = (frames_are_tested table cells view frame ls).0 some in no_truth b (plain.1 both.0) is

pub fits_where_plain : (table : Table) (cells : CellMap) (view : Option ℕ) (frame : Frame) (ls : List Local) (ms : List Signature) (p b : Bool) → ms ≡ members_of table view → IsTrue p ↔ Plain table view frame ls → p ≡ true
    → IsTrue b ↔ SomeAnswer table cells (demands_of frame ms ls) → IsTrue b ↔ SomeTypes table cells view frame ls
fits_where_plain table cells view frame ls ms p b same plain is answer =
    let law = frames_are_tested table cells view frame ls in (
      λ yes. law.1 (plain.0 is, subst (λ (ys : List Signature). SomeAnswer table cells (demands_of frame ys ls)) same (answer.0 yes)),
      λ some. answer.1 (subst (λ (ys : List Signature). SomeAnswer table cells (demands_of frame ys ls)) (sym same) (law.0 some).1),
    )
