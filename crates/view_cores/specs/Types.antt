-- What code says of the locals that it keeps, and of its parameters, is what they are.
use Rattle.std.specs.Prelude.{◌≡◌, ℕ, zero, suc, ◌<◌, Bool, true, false, cond, nat_eq, nat_lt, List, [], ◌∷◌, ◌++◌, length, map, drop, Option, Some, None, slice_get, ⊤}
use Rattle.std.specs.List.{list_any}
use Rattle.std.specs.Option.{option_map}
use Rattle.std.proofs.Common.{refl, sym, ap, subst, ◌∙◌, arith}
use Rattle.std.proofs.Math.Seq.{drop-append_seam}
use Rattle.std.proofs.lemmas.Bool.{ltb-true}
use Rattle.std.proofs.lemmas.List.{drop-map}
use Rattle.std.proofs.lemmas.Option.{slice_get-map}
use Rattle.swift_core.specs.Context as cores
use Rattle.swift_core.specs.Typing.{AreKept}
use Rattle.swift_core.specs.Uses.{with_use, first_uses, locals_used}
use Rattle.swift_core.specs.declared.code.Code.{Code}
use Rattle.swift_core.specs.declared.code.CodeForm.{CodeForm}
use Rattle.swift_core.specs.declared.ty.Ty.{Ty}
use Rattle.type_base.specs.LocalTypes.{kind_type, local_type, one_type, types_at}
use Rattle.type_base.specs.declared.scope.Local.{Local}
use Rattle.type_base.specs.declared.scope.LocalKind.{LocalKind}
use Rattle.type_base.specs.declared.scope.LocalKind.TheVariants as kind
use Rattle.expr_cores.specs.Contexts.{core_local, core_locals}

same_kind : (t : Ty) (k : LocalKind) → cores.local_of (kind_type t k) ≡ core_local t k
same_kind t kind.Let = refl
same_kind t kind.Var = refl
same_kind t kind.Place = refl
same_kind t kind.Next = refl

pub same_locals : (ls : List Local) → map cores.local_of (map local_type ls) ≡ core_locals ls
same_locals [] = refl
same_locals (l ∷ ls) =
    let h = same_kind l.ty l.kind in
    let t = same_locals ls in
    λ i. h i ∷ t i

-- ---- what a block keeps stands before it

abbrev Below : ℕ → List ℕ → Type 0
Below limit [] = ⊤
Below limit (k ∷ ks) = (k < limit) × Below limit ks

below_more : (limit : ℕ) (ks : List ℕ) (k : ℕ) → Below limit ks → k < limit → Below limit (ks ++ k ∷ [])
below_more limit [] k h b = (b, tt)
below_more limit (j ∷ ks) k h b = (h.0, below_more limit ks k h.1 b)

use_below : (limit : ℕ) (uses : List ℕ) (i : ℕ) → Below limit uses → Below limit (with_use limit uses i)
use_below limit uses i h = go (nat_lt i limit) (list_any (nat_eq i) uses) refl
  where
    go : (b c : Bool) → nat_lt i limit ≡ b → Below limit (cond b (cond c uses (uses ++ i ∷ [])) uses)
    go true true e = h
    go true false e = below_more limit uses i h (ltb-true i limit e)
    go false c e = h

uses_below : (limit : ℕ) (is uses : List ℕ) → Below limit uses → Below limit (first_uses limit uses is)
unfolding first_uses
uses_below limit [] uses h = h
uses_below limit (i ∷ is) uses h = uses_below limit is (with_use limit uses i) (use_below limit uses i h)

-- ---- types

at_front : (xs ys : List cores.Local) (k : ℕ) → k < length xs → slice_get (xs ++ ys) k ≡ slice_get xs k
at_front [] ys k h = absurd (omega (arith, h))
at_front (x ∷ xs) ys zero h = refl
at_front (x ∷ xs) ys (suc k) h = at_front xs ys k (omega (arith, h))

at_there : (xs : List cores.Local) (k : ℕ) → k < length xs → (x : cores.Local) × (slice_get xs k ≡ Some x)
at_there [] k h = absurd (omega (arith, h))
at_there (x ∷ xs) zero h = (x, refl)
at_there (x ∷ xs) (suc k) h = at_there xs k (omega (arith, h))

-- The locals here are those outside, and after them parameters of these types.
module _ (ls : List Local) (outer : List cores.Local) (ts : List Ty) (same : core_locals ls ≡ outer ++ map cores.Local.valued ts) where
  parameters_are : map cores.local_of (map local_type (drop (length outer) ls)) ≡ map cores.Local.valued ts
  parameters_are =
      same_locals (drop (length outer) ls) ∙ sym (drop-map (λ (l : Local). core_local l.ty l.kind) (length outer) ls) ∙ ap (λ (xs : List cores.Local). drop (length outer) xs) same
      ∙ drop-append_seam outer (map cores.Local.valued ts)

  outside : (k : ℕ) → k < length outer → slice_get outer k ≡ option_map (λ (l : Local). core_local l.ty l.kind) (slice_get ls k)
  outside k within =
      sym (at_front outer (map cores.Local.valued ts) k within) ∙ ap (λ (xs : List cores.Local). slice_get xs k) (sym same) ∙ slice_get-map (λ (l : Local). core_local l.ty l.kind) ls k

  one_kept : (k : ℕ) (ks : List ℕ) → k < length outer → (o : Option Local) → slice_get ls k ≡ o
      → AreKept outer ks ts (map cores.local_of (types_at ls ks ++ map local_type (drop (length outer) ls)))
      → AreKept outer (k ∷ ks) ts (map cores.local_of ((one_type o ++ types_at ls ks) ++ map local_type (drop (length outer) ls)))
  one_kept k ks within None e rest =
      let x = at_there outer k within in
      let there : slice_get outer k ≡ Some x.0 = x.1 in
      let none : slice_get outer k ≡ None = outside k within ∙ ap (option_map (λ (l : Local). core_local l.ty l.kind)) e in
      absurd (cc (there, none))
  one_kept k ks within (Some l) e rest = (outside k within ∙ ap (option_map (λ (l : Local). core_local l.ty l.kind)) e ∙ ap Some (sym (same_kind l.ty l.kind)), rest)

  all_kept : (ks : List ℕ) → Below (length outer) ks → AreKept outer ks ts (map cores.local_of (types_at ls ks ++ map local_type (drop (length outer) ls)))
  all_kept [] h = parameters_are
  all_kept (k ∷ ks) h = one_kept k ks h.0 (slice_get ls k) refl (all_kept ks h.1)

-- the types of code that begins with these locals
pub types_kept : (ls : List Local) (outer : List cores.Local) (ts : List Ty) (n : ℕ) → length outer ≡ n → core_locals ls ≡ outer ++ map cores.Local.valued ts → (bs : List Code) (form : CodeForm)
    → AreKept outer (locals_used bs n form) ts (map cores.local_of (types_at ls (locals_used bs n form) ++ map local_type (drop n ls)))
types_kept ls outer ts n long same bs form =
    subst (λ (m : ℕ). AreKept outer (locals_used bs m form) ts (map cores.local_of (types_at ls (locals_used bs m form) ++ map local_type (drop m ls)))) long
    (all_kept ls outer ts same (locals_used bs (length outer) form) (uses_below (length outer) _ [] tt))
