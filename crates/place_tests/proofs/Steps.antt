-- Hops and members, one after the other.
use Rattle.std.specs.Prelude.{◌↔◌, IsTrue, option_and_then}
use Rattle.std.proofs.Common.{◌≡◌, ℕ, ℤ, zero, suc, ◌+◌, ◌-◌, ◌<◌, ◌≤◌, Bool, false, List, ◌∷◌, drop, length, get_or, Option, Some, None, sym, ap, ◌∙◌, arith}
use Rattle.std.proofs.lemmas.List.{drop_more, drop_all}
use Rattle.sv_value.specs.declared.hop.Hop.{Hop}
use Rattle.sv_value.specs.declared.hop.Hop.TheVariants.{Field, Index}
use Rattle.swift_core.specs.declared.table.Signature.{Signature}
use Rattle.swift_core.specs.declared.table.Table.{Table}
use Rattle.swift_core.specs.declared.ty.Ty.{Ty, out-Ty, roll-Ty, roll-out-Ty}
use Rattle.swift_core.specs.declared.ty.Ty.TheVariants as ty
use Rattle.swift_core.specs.declared.ty.Ty.TheViews as ty_view
use Rattle.swift_core.specs.Types.{element_at, named_at, same_ty, same_ty_decides}
use Rattle.value_fits.specs.Forms.{is_list}
use Rattle.place_tests.specs.Walks.{hop_type, field_type, leading, nest, first_or, stored_here, stored_type, walk}

pub one_less : (n : ℕ) (b : Ty) → 0 < n → nest n b ≡ ty.List (nest (n - 1) b)
one_less zero b h = absurd (omega (arith, h))
one_less (suc n) b h = let same : n ≡ suc n - 1 = omega arith in ap (λ (k : ℕ). ty.List (nest k b)) same

-- ---- members

step : (ms : List Signature) (i : ℕ) (m : Signature) → i < length ms → m ≡ get_or ms i m → drop i ms ≡ m ∷ drop (i + 1) ms
step ms i m h e = drop_more ms i m h ∙ ap (λ (x : Signature). x ∷ drop (i + 1) ms) (sym e)

pub stored_turn : (ms : List Signature) (n i : ℕ) (m : Signature) → i < length ms → m ≡ get_or ms i m → stored_here n m.form ≡ None → stored_type n (drop i ms) ≡ stored_type n ms
    → stored_type n (drop (i + 1) ms) ≡ stored_type n ms
stored_turn ms n i m h e none k = sym (ap (λ (o : Option (Option Ty)). first_or o (stored_type n (drop (i + 1) ms))) none) ∙ sym (ap (stored_type n) (step ms i m h e)) ∙ k

pub stored_is : (ms : List Signature) (n i : ℕ) (m : Signature) (t : Option Ty) → i < length ms → m ≡ get_or ms i m → stored_here n m.form ≡ Some t → stored_type n (drop i ms) ≡ stored_type n ms
    → t ≡ stored_type n ms
stored_is ms n i m t h e some k = sym (ap (λ (o : Option (Option Ty)). first_or o (stored_type n (drop (i + 1) ms))) some) ∙ sym (ap (stored_type n) (step ms i m h e)) ∙ k

pub stored_end : (ms : List Signature) (n i : ℕ) → length ms ≤ i → stored_type n (drop i ms) ≡ stored_type n ms → None ≡ stored_type n ms
stored_end ms n i h k = sym (ap (stored_type n) (drop_all i ms h)) ∙ k

-- ---- one hop

pub plain_found : (table : Table) (n : ℕ) (b : Ty) (h : Hop) (u : Ty) → n ≡ 0 → Some u ≡ hop_type table b h → hop_type table (nest n b) h ≡ Some (nest 0 u)
plain_found table n b h u e is = ap (λ (k : ℕ). hop_type table (nest k b) h) e ∙ sym is

pub plain_none : (table : Table) (n : ℕ) (b : Ty) (h : Hop) → n ≡ 0 → None ≡ hop_type table b h → hop_type table (nest n b) h ≡ None
plain_none table n b h e is = ap (λ (k : ℕ). hop_type table (nest k b) h) e ∙ sym is

pub to_element : (table : Table) (n : ℕ) (b : Ty) (i : ℤ) → 0 < n → hop_type table (nest n b) (Index i) ≡ Some (nest (n - 1) b)
to_element table n b i h = ap (λ (t : Ty). element_at (out-Ty t)) (one_less n b h) ∙ ap element_at (ty_view.outs-List (nest (n - 1) b))

pub no_field : (table : Table) (n : ℕ) (b : Ty) (k : ℕ) → 0 < n → hop_type table (nest n b) (Field k) ≡ None
no_field table n b k h = ap (λ (t : Ty). hop_type table t (Field k)) (one_less n b h) ∙ ap (field_type table k) (ap named_at (ty_view.outs-List (nest (n - 1) b)))

-- ---- the type that is reached

pub is_plain : (n : ℕ) (b t : Ty) (r : Bool) → n ≡ 0 → r ≡ same_ty b t → IsTrue r ↔ (nest n b ≡ t)
is_plain n b t r e is =
    let d = same_ty_decides b t in
    let zero_lists : nest n b ≡ b = ap (λ (k : ℕ). nest k b) e in
    (λ h. zero_lists ∙ d.0 (sym is ∙ h), λ h. is ∙ d.1 (sym zero_lists ∙ h))

listed : (t u : Ty) → element_at (out-Ty t) ≡ Some u → t ≡ ty.List u
listed t u e = sym (roll-out-Ty t) ∙ ap roll-Ty (is_list (out-Ty t) u e ∙ sym (ty_view.outs-List u)) ∙ roll-out-Ty (ty.List u)

element_of_list : (n : ℕ) (b t : Ty) → 0 < n → nest n b ≡ t → element_at (out-Ty t) ≡ Some (nest (n - 1) b)
element_of_list n b t h e = ap (λ (x : Ty). element_at (out-Ty x)) (sym e ∙ one_less n b h) ∙ ap element_at (ty_view.outs-List (nest (n - 1) b))

pub is_less : (n : ℕ) (b t u : Ty) (r : Bool) → 0 < n → element_at (out-Ty t) ≡ Some u → IsTrue r ↔ (nest (n - 1) b ≡ u) → IsTrue r ↔ (nest n b ≡ t)
is_less n b t u r h e k = (
  λ is. one_less n b h ∙ ap (λ (x : Ty). ty.List x) (k.0 is) ∙ sym (listed t u e),
  λ same. k.1 (let both : Some (nest (n - 1) b) ≡ Some u = sym (element_of_list n b t h same) ∙ e in cc),
)

pub is_none : (n : ℕ) (b t : Ty) → 0 < n → element_at (out-Ty t) ≡ None → IsTrue false ↔ (nest n b ≡ t)
is_none n b t h e = (λ is. absurd (cc is), λ same. let clash : Some (nest (n - 1) b) ≡ None = sym (element_of_list n b t h same) ∙ e in absurd (cc clash))

-- ---- all hops

hop_step : (hs : List Hop) (i : ℕ) (h d : Hop) → i < length hs → h ≡ get_or hs i d → drop i hs ≡ h ∷ drop (i + 1) hs
hop_step hs i h d less e = drop_more hs i d less ∙ ap (λ (x : Hop). x ∷ drop (i + 1) hs) (sym e)

pub walk_turn : (table : Table) (t u w : Ty) (hs : List Hop) (i : ℕ) (h d : Hop) → i < length hs → h ≡ get_or hs i d → hop_type table u h ≡ Some w → walk table u (drop i hs) ≡ walk table t hs
    → walk table w (drop (i + 1) hs) ≡ walk table t hs
walk_turn table t u w hs i h d less e is k =
    sym (ap (option_and_then (λ (x : Ty). walk table x (drop (i + 1) hs))) is) ∙ sym (ap (walk table u) (hop_step hs i h d less e)) ∙ k

pub walk_stops : (table : Table) (t u v : Ty) (hs : List Hop) (i : ℕ) (h d : Hop) → i < length hs → h ≡ get_or hs i d → hop_type table u h ≡ None → walk table u (drop i hs) ≡ walk table t hs
    → IsTrue false ↔ (walk table t hs ≡ Some v)
walk_stops table t u v hs i h d less e is k =
    let none : None ≡ walk table t hs = sym (ap (option_and_then (λ (x : Ty). walk table x (drop (i + 1) hs))) is) ∙ sym (ap (walk table u) (hop_step hs i h d less e)) ∙ k in
    (λ x. absurd (cc x), λ some. let clash : None ≡ Some v = none ∙ some in absurd (cc clash))

pub walk_end : (table : Table) (t u v : Ty) (hs : List Hop) (i : ℕ) (r : Bool) → length hs ≤ i → IsTrue r ↔ (u ≡ v) → walk table u (drop i hs) ≡ walk table t hs → IsTrue r ↔ (walk table t hs ≡ Some v)
walk_end table t u v hs i r less is k =
    let reached : Some u ≡ walk table t hs = sym (ap (walk table u) (drop_all i hs less)) ∙ k in
    (λ x. sym reached ∙ ap Some (is.0 x), λ some. is.1 (let both : Some u ≡ Some v = reached ∙ some in cc))

-- ---- the indices in front

pub leading_turn : (hs : List Hop) (i : ℕ) (h d : Hop) (n : ℤ) → i < length hs → h ≡ get_or hs i d → h ≡ Index n → leading hs ≡ i + leading (drop i hs) → leading hs ≡ i + 1 + leading (drop (i + 1) hs)
leading_turn hs i h d n less e is k =
    let here : leading (drop i hs) ≡ suc (leading (drop (i + 1) hs)) = ap leading (hop_step hs i h d less e) ∙ ap (λ (x : Hop). leading (x ∷ drop (i + 1) hs)) is in
    omega (arith, k, here)

pub leading_stops : (hs : List Hop) (i : ℕ) (h d : Hop) (n : ℕ) → i < length hs → h ≡ get_or hs i d → h ≡ Field n → leading hs ≡ i + leading (drop i hs) → i ≡ leading hs
leading_stops hs i h d n less e is k =
    let here : leading (drop i hs) ≡ 0 = ap leading (hop_step hs i h d less e) ∙ ap (λ (x : Hop). leading (x ∷ drop (i + 1) hs)) is in
    omega (arith, k, here)

pub leading_end : (hs : List Hop) (i : ℕ) → length hs ≤ i → i ≤ length hs → leading hs ≡ i + leading (drop i hs) → length hs ≡ leading hs
leading_end hs i h g k =
    let here : leading (drop i hs) ≡ 0 = ap leading (drop_all i hs h) in
    omega (arith, k, here, h, g)
