-- A value stands where its type is expected, or its type with one `?` or more behind it. Each `?` is one promotion.
-- After The Swift Programming Language, 'Optionals'.
use Rattle.std.specs.Prelude.{◌≡◌, ℕ, zero, suc, ◌<◌, Bool, true, false, Option, Some, None, if◌then◌else◌, ◌⊎◌}
use Rattle.std.proofs.Common.{refl, sym, ap, subst, ◌∙◌, arith, inl, inr}
use Rattle.swift_core.specs.declared.ty.Ty.{Ty, out-Ty}
use Rattle.swift_core.specs.declared.ty.Ty.TheVariants as ty
use Rattle.swift_core.specs.declared.term.Core.{Core}
use Rattle.swift_core.specs.declared.term.Core.TheVariants as core
use Rattle.swift_core.specs.Types.{inside_at, same_ty, same_ty_decides}
use Rattle.type_base.specs.Claims.{Reads, Then, and_then, reads_then, reads_same, reads_none, reads_give, reads_cases, reads_is}
use Rattle.type_base.specs.Context.{Context}
use Rattle.type_base.specs.Rules.{Rule, Infer, Exact}
use Rattle.type_base.specs.Depth.{depth, optional, depth_inside, depth-optional, depth-Optional, depth_positive, is-Optional, inside-Optional}

-- n promotions of a core
unfoldable pub promoted : ℕ → Core → Core
promoted zero c = c
promoted (suc n) c = core.Promote (promoted n c)

-- the core of x of type t, where u is expected: u is t with n signs `?`, and the core is promoted n times
unfoldable pub Stands : Core × Ty → Ty → Core → Type 0
Stands x u c = (n : ℕ) × (u ≡ optional n x.1) × (c ≡ promoted n x.0)

-- an expression where t is expected: its own type may be t, or t with fewer `?`
unfoldable pub Wanted : Rule → Context → Ty → Core → Type 0
Wanted R cx t = Then (R cx (Some t)) (λ x. Stands x t)

-- one `?` of u after the other is taken away, up to a number of them
unfoldable pub stands_to : ℕ → Core × Ty → Ty → Option Core
stands_to zero x u = None
stands_to (suc n) x u = if same_ty x.1 u then Some x.0 else and_then (inside_at (out-Ty u)) (λ t. and_then (stands_to n x t) (λ c. Some (core.Promote c)))

unfoldable pub stands : Core × Ty → Ty → Option Core
stands x u = stands_to (depth u) x u

unfoldable pub wanted : Infer → Context → Ty → Option Core
wanted f cx t = and_then (f cx (Some t)) (λ x. stands x t)

-- ---- laws

-- as `Stands`, with fewer than m signs
unfoldable pub StandsTo : ℕ → Core × Ty → Ty → Core → Type 0
StandsTo m x u c = (n : ℕ) × (n < m) × ((u ≡ optional n x.1) × (c ≡ promoted n x.0))

-- one level of it
abbrev pub StandsLevel : ℕ → Core × Ty → Ty → Core → Type 0
StandsLevel m x u c = ((x.1 ≡ u) × (c ≡ x.0)) ⊎ (((x.1 ≡ u) → ⊥) × Then (λ t. inside_at (out-Ty u) ≡ Some t) (λ t. Then (StandsTo m x t) (λ d e. e ≡ core.Promote d)) c)

apart : (n : ℕ) (t u : Ty) → t ≡ u → u ≡ ty.Optional (optional n t) → ⊥
apart n t u s e = let h = ap depth (s ∙ e) in let k = depth-Optional (optional n t) in let l = depth-optional n t in absurd (omega (arith, h, k, l))

level_of : (m : ℕ) (x : Core × Ty) (u : Ty) (c : Core) → StandsTo (suc m) x u c → StandsLevel m x u c
unfolding StandsTo Then promoted optional
level_of m x u c (zero, lt, (e, p)) = inl (sym e, p)
level_of m x u c (suc n, lt, (e, p)) =
    inr (λ s. apart n x.1 u s e, (optional n x.1, subst (λ v. inside_at (out-Ty v) ≡ Some (optional n x.1)) (sym e) (inside-Optional (optional n x.1)), (promoted n x.0, (n, omega arith, (refl, refl)), p)))

of_level : (m : ℕ) (x : Core × Ty) (u : Ty) (c : Core) → StandsLevel m x u c → StandsTo (suc m) x u c
unfolding StandsTo Then promoted optional
of_level m x u c (inl w) = (zero, omega arith, (sym w.0, w.1))
of_level m x u c (inr (ne, (t, i, (d, (n, lt, (e, p)), q)))) = (suc n, omega arith, (is-Optional u t i ∙ ap ty.Optional e, q ∙ ap core.Promote p))

none_below : (x : Core × Ty) (u : Ty) (c : Core) → StandsTo zero x u c → ⊥
unfolding StandsTo
none_below x u c (n, lt, w) = absurd (omega arith)

stands_to_exact : (m : ℕ) (x : Core × Ty) (u : Ty) → Reads (stands_to m x u) (StandsTo m x u)
unfolding stands_to
stands_to_exact zero x u = reads_same reads_none (λ c. (λ e. absurd e, none_below x u c))
stands_to_exact (suc m) x u =
    reads_same (reads_cases (same_ty_decides x.1 u) (reads_give x.0) (reads_then (reads_is (inside_at (out-Ty u))) (λ t. reads_then (stands_to_exact m x t) (λ d. reads_give (core.Promote d)))))
    (λ c. (of_level m x u c, level_of m x u c))

within_depth : (x : Core × Ty) (u : Ty) (c : Core) → Stands x u c → StandsTo (depth u) x u c
unfolding Stands StandsTo
within_depth x u c (n, e, p) =
    let h = ap depth e in let k = depth-optional n x.1 in let l = depth_positive x.1 in (n, omega (arith, h, k, l), (e, p))

whole_of : (m : ℕ) (x : Core × Ty) (u : Ty) (c : Core) → StandsTo m x u c → Stands x u c
unfolding Stands StandsTo
whole_of m x u c (n, lt, (e, p)) = (n, e, p)

pub stands_exact : (x : Core × Ty) (u : Ty) → Reads (stands x u) (Stands x u)
unfolding stands
stands_exact x u = reads_same (stands_to_exact (depth u) x u) (λ c. (whole_of (depth u) x u c, within_depth x u c))

pub wanted_exact : {f : Infer} {R : Rule} → Exact f R → (cx : Context) (t : Ty) → Reads (wanted f cx t) (Wanted R cx t)
unfolding wanted Wanted
wanted_exact a cx t = reads_then (a cx (Some t)) (λ x. stands_exact x t)

-- the search by one `?`
open_step : (x : Core × Ty) (n : ℕ) (o : Option Ty) (b : Bool) → ((t : Ty) → o ≡ Some t → n ≡ depth t)
    → (if b then Some x.0 else and_then o (λ t. and_then (stands_to n x t) (λ c. Some (core.Promote c)))) ≡ (if b then Some x.0 else and_then o (λ t. and_then (stands x t) (λ c. Some (core.Promote c))))
unfolding and_then stands
open_step x n o true h = refl
open_step x n None false h = refl
open_step x n (Some t) false h = ap (λ k. and_then (stands_to k x t) (λ c. Some (core.Promote c))) (h t refl)

open_at : (x : Core × Ty) (u : Ty) (m : ℕ) → depth u ≡ suc m → stands_to (suc m) x u ≡ (if same_ty x.1 u then Some x.0 else and_then (inside_at (out-Ty u)) (λ t. and_then (stands x t) (λ c. Some (core.Promote c))))
unfolding stands_to
open_at x u m e = open_step x m (inside_at (out-Ty u)) (same_ty x.1 u) (λ t i. let h = depth_inside u t i in omega (arith, e, h))

open_from : (x : Core × Ty) (u : Ty) (m : ℕ) → depth u ≡ m → stands_to m x u ≡ (if same_ty x.1 u then Some x.0 else and_then (inside_at (out-Ty u)) (λ t. and_then (stands x t) (λ c. Some (core.Promote c))))
open_from x u zero e = let h = depth_positive u in absurd (omega (arith, e, h))
open_from x u (suc m) e = open_at x u m e

pub stands_opens : (x : Core × Ty) (u : Ty) → stands x u ≡ (if same_ty x.1 u then Some x.0 else and_then (inside_at (out-Ty u)) (λ t. and_then (stands x t) (λ c. Some (core.Promote c))))
unfolding stands
stands_opens x u = open_from x u (depth u) refl
