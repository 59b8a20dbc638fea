-- The code of a value as a list of numbers, by which values of any type with a code are told apart and put in an order.
use Rattle.std.specs.Prelude.{◌≡◌, ℕ, true, List, [], ◌∷◌, ◌++◌}
use Rattle.std.specs.Bool.{Decides}
use Rattle.std.specs.Ordering.{nat_cmp, on, eq_by_cmp}
use Rattle.std.specs.Cmp.{IsTotalOrder, Equal-is}
use Rattle.std.specs.Cmp.Lexicographic.{slice_cmp, nat_list_cmp_total}
use Rattle.std.specs.FinMap.{IsAntisymmetric, slice_cmp-IsAntisymmetric, nat_cmp-IsAntisymmetric}
use Rattle.std.specs.declared.cmp.Ordering.{Ordering}
use Rattle.std.proofs.Common.{refl, sym, ap, subst, ◌∙◌, append_assoc}
use Rattle.std.proofs.lemmas.Cmp.{on_total, eq_by_cmp_equiv}
use base.Stored.{Gv, gnil, gnum, gcons, Coded}

-- a tree of numbers, written out from the left
abbrev pub written : Gv → List ℕ
written gnil = 0 ∷ []
written (gnum n) = 1 ∷ n ∷ []
written (gcons a b) = 2 ∷ (written a ++ written b)

-- the order by the written codes
abbrev pub code_cmp : {A : Type 0} → Coded A → A → A → Ordering
code_cmp c = on (λ x. written (c.code x)) (slice_cmp nat_cmp)

-- no written tree is the front of another
pub written_front : (a b : Gv) (xs ys : List ℕ) → written a ++ xs ≡ written b ++ ys → (a ≡ b) × (xs ≡ ys)
written_front gnil gnil xs ys e = (refl, cc)
written_front gnil (gnum n) xs ys e = cc
written_front gnil (gcons c d) xs ys e = cc
written_front (gnum m) gnil xs ys e = cc
written_front (gnum m) (gnum n) xs ys e = (cc, cc)
written_front (gnum m) (gcons c d) xs ys e = cc
written_front (gcons a b) gnil xs ys e = cc
written_front (gcons a b) (gnum n) xs ys e = cc
written_front (gcons a b) (gcons c d) xs ys e =
    let rest : (written a ++ written b) ++ xs ≡ (written c ++ written d) ++ ys = cc in
    let first = written_front a c (written b ++ xs) (written d ++ ys) (sym (append_assoc (written a) (written b) xs) ∙ rest ∙ append_assoc (written c) (written d) ys) in
    let second = written_front b d xs ys first.1 in
    (λ i. gcons (first.0 i) (second.0 i), second.1)

module _ {A : Type 0} (c : Coded A) where
  pub code_cmp_total : IsTotalOrder (code_cmp c)
  code_cmp_total = on_total (λ x. written (c.code x)) nat_list_cmp_total

  pub code_cmp-IsAntisymmetric : IsAntisymmetric (code_cmp c)
  code_cmp-IsAntisymmetric x y e =
      c.inj x y (written_front (c.code x) (c.code y) [] [] (ap (λ s. s ++ []) (slice_cmp-IsAntisymmetric nat_cmp-IsAntisymmetric (written (c.code x)) (written (c.code y)) e))).0

  -- the test that the order gives is equality
  pub code_eq_decides : (x y : A) → Decides (eq_by_cmp (code_cmp c) x y) (x ≡ y)
  code_eq_decides x y = (
    λ h. code_cmp-IsAntisymmetric x y ((Equal-is (code_cmp c x y)).0 h),
    λ e. subst (λ z. eq_by_cmp (code_cmp c) x z ≡ true) e ((eq_by_cmp_equiv code_cmp_total).refl x),
  )
