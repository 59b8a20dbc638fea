-- A member reaches a write exactly where what it does reaches one.
use Rattle.std.proofs.Common.{◌≡◌, ◌↔◌, ℕ, zero, suc, true, List, [], ◌∷◌, map, Some, slice_get, refl, sym, ap, subst}
use Rattle.swift_core.specs.declared.ids.CodeId.{CodeId}
use Rattle.swift_core.specs.declared.code.CoreMember.{CoreMember}
use Rattle.swift_core.specs.Programs.{Reaches, writes, runs}
use Rattle.swift_core.specs.Uses.{member_writes, member_calls}
use Rattle.call_reach.specs.declared.search.Conduct.{Conduct}
use Rattle.call_reach.specs.Reaching.{Reaches as ConductReaches, itself, through}
use Rattle.program_parts.specs.Marks.{number_of, writes_of, calls_of, conduct_of}

mapped : {A B : Type 0} (f : A → B) (xs : List A) (i : ℕ) (x : A) → slice_get xs i ≡ Some x → slice_get (map f xs) i ≡ Some (f x)
mapped f [] i x e = cc
mapped f (y ∷ ys) zero x e = let h : y ≡ x = cc in ap (λ v. Some (f v)) h
mapped f (y ∷ ys) (suc i) x e = mapped f ys i x e

unmapped : {A B : Type 0} (f : A → B) (xs : List A) (i : ℕ) (y : B) → slice_get (map f xs) i ≡ Some y → (x : A) × (slice_get xs i ≡ Some x) × (f x ≡ y)
unmapped f [] i y e = cc
unmapped f (x ∷ xs) zero y e = let h : f x ≡ y = cc in (x, refl, h)
unmapped f (x ∷ xs) (suc i) y e = unmapped f xs i y e

is_written : (m : CoreMember) → writes_of m ≡ true → member_writes m ≡ true
unfolding writes_of
is_written m e = e

was_written : (m : CoreMember) → member_writes m ≡ true → writes_of m ≡ true
unfolding writes_of
was_written m e = e

-- a number that is called is that of code that is run
record Called (m : CoreMember) (k j : ℕ) : Type 0 where
  pub code : CodeId
  pub stands : slice_get (member_calls m) k ≡ Some code
  pub number : code.number ≡ j

is_called : (m : CoreMember) (k j : ℕ) → slice_get (calls_of m) k ≡ Some j → Called m k j
unfolding calls_of
is_called m k j e = let v = unmapped number_of (member_calls m) k j e in record { code = v.0; stands = v.1; number = v.2 }

was_called : (m : CoreMember) (k : ℕ) (c : CodeId) → slice_get (member_calls m) k ≡ Some c → slice_get (calls_of m) k ≡ Some c.number
unfolding calls_of
was_called m k c e = mapped number_of (member_calls m) k c e

to_members : (members : List CoreMember) (i : ℕ) → ConductReaches (map conduct_of members) i → Reaches members i
to_members members i (itself {m = m} s w) =
    let u = unmapped conduct_of members i m s in
    writes u.1 (is_written u.0 (subst (λ (v : Conduct). v.writes ≡ true) (sym u.2) w))
to_members members i (through {j = j} {m = m} k s c r) =
    let u = unmapped conduct_of members i m s in
    let v = is_called u.0 k j (subst (λ (v : Conduct). slice_get v.calls k ≡ Some j) (sym u.2) c) in
    runs k u.1 v.stands (subst (λ (n : ℕ). Reaches members n) (sym v.number) (to_members members j r))

from_members : (members : List CoreMember) (i : ℕ) → Reaches members i → ConductReaches (map conduct_of members) i
from_members members i (writes {m = m} s w) = itself (mapped conduct_of members i m s) (was_written m w)
from_members members i (runs {m = m} {c = c} k s e r) =
    through k (mapped conduct_of members i m s) (was_called m k c e) (from_members members c.number r)

pub same_reach : (members : List CoreMember) (i : ℕ) → ConductReaches (map conduct_of members) i ↔ Reaches members i
same_reach members i = (to_members members i, from_members members i)
