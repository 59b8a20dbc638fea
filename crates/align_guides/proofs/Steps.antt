-- The value of an expression, one step above the values of its parts.
use Rattle.std.proofs.Common.{◌≡◌, ◌≢◌, ◌≤◌, ℤ, pos, ◌+ℤ◌, ◌-ℤ◌, ◌*ℤ◌, to_z, of_z, w64, arith, refl, sym, ap, ◌∙◌, FitsSigned, IsTrue, Bool, true, false, subst}
use Rattle.std.specs.Prelude.{int_div, unsigned_abs, ◌&&◌, not}
use Rattle.std.specs.Ordering.{int_eq}
use Rattle.std.proofs.lemmas.Cmp.{int_eq_equiv}
use Rattle.std.proofs.lemmas.Int.{ints, clamps, fits_signed_mul, quot_is, to_z-of_z}
use Rattle.align_guides.specs.Lengths.{held, IsGuide}
use Rattle.align_guides.specs.Guides.{value_of, value_step, divides, divides_step}
use Rattle.align_guides.specs.declared.Size.{Size}
use Rattle.align_guides.specs.declared.GuideSet.{GuideSet}
use Rattle.align_guides.specs.declared.GuideExpr.{GuideExpr}
use Rattle.align_guides.specs.declared.GuideExpr.TheOpen.{GuideExpr-F}
use Rattle.align_guides.specs.declared.GuideExpr.TheFolds.{fold-roll-GuideExpr}
use Rattle.align_guides.specs.declared.GuideExpr.TheVariants.{Sum, Difference, Product, Quotient, rolls-Sum, rolls-Difference, rolls-Product, rolls-Quotient}

-- the second part of a conjunction of tests
second : (x y : Bool) → IsTrue (x && y) → IsTrue y
second true y h = h
second false y h = cc

pub divides_second-Sum : (e a b : GuideExpr) → e ≡ Sum a b → IsTrue (divides e) → IsTrue (divides b)
divides_second-Sum e a b is h =
    second (divides a) (divides b)
    (subst IsTrue (ap divides is ∙ ap divides (sym (rolls-Sum a b)) ∙ fold-roll-GuideExpr Bool divides_step (GuideExpr-F.Sum a b)) h)

pub divides_second-Difference : (e a b : GuideExpr) → e ≡ Difference a b → IsTrue (divides e) → IsTrue (divides b)
divides_second-Difference e a b is h =
    second (divides a) (divides b)
    (subst IsTrue (ap divides is ∙ ap divides (sym (rolls-Difference a b)) ∙ fold-roll-GuideExpr Bool divides_step (GuideExpr-F.Difference a b)) h)

pub divides_second-Product : (e a b : GuideExpr) → e ≡ Product a b → IsTrue (divides e) → IsTrue (divides b)
divides_second-Product e a b is h =
    second (divides a) (divides b)
    (subst IsTrue (ap divides is ∙ ap divides (sym (rolls-Product a b)) ∙ fold-roll-GuideExpr Bool divides_step (GuideExpr-F.Product a b)) h)

test_of : (x y : Bool) → IsTrue (x && not y) → y ≡ false
test_of true true h = cc
test_of true false h = refl
test_of false y h = cc

divides_some : (e a : GuideExpr) (n : ℤ) → e ≡ Quotient a n → IsTrue (divides e) → n ≢ pos 0
divides_some e a n is h =
    let test : int_eq n (pos 0) ≡ false =
    test_of (divides a) (int_eq n (pos 0))
    (subst IsTrue (ap divides is ∙ ap divides (sym (rolls-Quotient a n)) ∙ fold-roll-GuideExpr Bool divides_step (GuideExpr-F.Quotient a n)) h) in
    λ zero. let same : int_eq n (pos 0) ≡ true = ap (λ z. int_eq n z) (sym zero) ∙ int_eq_equiv.refl n in cc

held_some : (n D : ℤ) → n ≢ pos 0 → FitsSigned w64 n → D ≡ held (to_z w64 (of_z w64 n)) → D ≢ pos 0
held_some n D some m d = omega (arith, ints, clamps)

module _ (s : Size) (g : GuideSet) where
  value_of-Sum : (a b : GuideExpr) → value_of (Sum a b) s g ≡ held (value_of a s g +ℤ value_of b s g)
  value_of-Sum a b = ap (λ e. value_of e s g) (sym (rolls-Sum a b)) ∙ fold-roll-GuideExpr ℤ (value_step s g) (GuideExpr-F.Sum a b)

  value_of-Difference : (a b : GuideExpr) → value_of (Difference a b) s g ≡ held (value_of a s g -ℤ value_of b s g)
  value_of-Difference a b = ap (λ e. value_of e s g) (sym (rolls-Difference a b)) ∙ fold-roll-GuideExpr ℤ (value_step s g) (GuideExpr-F.Difference a b)

  value_of-Product : (a b : GuideExpr) → value_of (Product a b) s g ≡ held (value_of a s g *ℤ value_of b s g)
  value_of-Product a b = ap (λ e. value_of e s g) (sym (rolls-Product a b)) ∙ fold-roll-GuideExpr ℤ (value_step s g) (GuideExpr-F.Product a b)

  value_of-Quotient : (a : GuideExpr) (n : ℤ) → value_of (Quotient a n) s g ≡ held (int_div (value_of a s g) (held n))
  value_of-Quotient a n = ap (λ e. value_of e s g) (sym (rolls-Quotient a n)) ∙ fold-roll-GuideExpr ℤ (value_step s g) (GuideExpr-F.Quotient a n)

  pub sum_is : (e a b : GuideExpr) (A B R : ℤ) → e ≡ Sum a b → A ≡ value_of a s g → B ≡ value_of b s g → IsGuide A → IsGuide B
      → R ≡ held (to_z w64 (of_z w64 (to_z w64 (of_z w64 A) +ℤ to_z w64 (of_z w64 B)))) → IsGuide R → to_z w64 (of_z w64 R) ≡ value_of e s g
  sum_is e a b A B R is x y p q r k =
      let plain : to_z w64 (of_z w64 R) ≡ held (A +ℤ B) = omega (arith, ints, clamps) in
      plain ∙ ap (λ z. held (z +ℤ B)) x ∙ ap (λ z. held (value_of a s g +ℤ z)) y ∙ sym (value_of-Sum a b) ∙ ap (λ z. value_of z s g) (sym is)

  pub difference_is : (e a b : GuideExpr) (A B R : ℤ) → e ≡ Difference a b → A ≡ value_of a s g → B ≡ value_of b s g → IsGuide A → IsGuide B
      → R ≡ held (to_z w64 (of_z w64 (to_z w64 (of_z w64 A) -ℤ to_z w64 (of_z w64 B)))) → IsGuide R → to_z w64 (of_z w64 R) ≡ value_of e s g
  difference_is e a b A B R is x y p q r k =
      let plain : to_z w64 (of_z w64 R) ≡ held (A -ℤ B) = omega (arith, ints, clamps) in
      plain ∙ ap (λ z. held (z -ℤ B)) x ∙ ap (λ z. held (value_of a s g -ℤ z)) y ∙ sym (value_of-Difference a b) ∙ ap (λ z. value_of z s g) (sym is)

  within : (z : ℤ) → IsGuide z → unsigned_abs z ≤ 1000000
  within z h = omega (arith, ints)

  fits : (z : ℤ) → IsGuide z → FitsSigned w64 z
  fits z h = omega (arith, ints)

  pub product_fits : (A B : ℤ) → IsGuide A → IsGuide B → FitsSigned w64 (to_z w64 (of_z w64 A) *ℤ to_z w64 (of_z w64 B))
  product_fits A B p q =
      subst (λ (z : ℤ). FitsSigned w64 (z *ℤ to_z w64 (of_z w64 B))) (sym (to_z-of_z w64 A (fits A p)))
      (subst (λ (z : ℤ). FitsSigned w64 (A *ℤ z)) (sym (to_z-of_z w64 B (fits B q))) (fits_signed_mul w64 A B 1000000 1000000 (within A p) (within B q) (omega arith)))

  pub product_is : (e a b : GuideExpr) (A B R : ℤ) → e ≡ Product a b → A ≡ value_of a s g → B ≡ value_of b s g → IsGuide A → IsGuide B
      → R ≡ held (to_z w64 (of_z w64 (to_z w64 (of_z w64 A) *ℤ to_z w64 (of_z w64 B)))) → IsGuide R → to_z w64 (of_z w64 R) ≡ value_of e s g
  product_is e a b A B R is x y p q r k =
      to_z-of_z w64 R (fits R k) ∙ r
      ∙ ap held (to_z-of_z w64 (to_z w64 (of_z w64 A) *ℤ to_z w64 (of_z w64 B)) (product_fits A B p q))
      ∙ ap (λ z. held (z *ℤ to_z w64 (of_z w64 B))) (to_z-of_z w64 A (fits A p))
      ∙ ap (λ z. held (A *ℤ z)) (to_z-of_z w64 B (fits B q))
      ∙ ap (λ z. held (z *ℤ B)) x ∙ ap (λ z. held (value_of a s g *ℤ z)) y ∙ sym (value_of-Product a b) ∙ ap (λ z. value_of z s g) (sym is)

  quotient_fits : (A D : ℤ) → IsGuide A → IsGuide D → D ≢ pos 0 → FitsSigned w64 (int_div A D)
  quotient_fits A D p q some = grind (arith, ints)

  pub quotient_is : (e a : GuideExpr) (n A D R : ℤ) → e ≡ Quotient a n → FitsSigned w64 n → A ≡ value_of a s g → IsGuide A → IsGuide D → IsTrue (divides e)
      → D ≡ held (to_z w64 (of_z w64 n))
      → R ≡ held (to_z w64 (of_z w64 (int_div (to_z w64 (of_z w64 A)) (to_z w64 (of_z w64 D))))) → IsGuide R → to_z w64 (of_z w64 R) ≡ value_of e s g
  quotient_is e a n A D R is m x p q whole d r k =
      let some : D ≢ pos 0 = held_some n D (divides_some e a n is whole) m d in
      to_z-of_z w64 R (fits R k) ∙ r
      ∙ ap held (quot_is w64 A D (fits A p) (fits D q) (quotient_fits A D p q some))
      ∙ ap (λ z. held (int_div z D)) x
      ∙ ap (λ z. held (int_div (value_of a s g) z)) (d ∙ ap held (to_z-of_z w64 n m))
      ∙ sym (value_of-Quotient a n) ∙ ap (λ z. value_of z s g) (sym is)
