-- The expression of a guide divides by no zero.
use Rattle.std.specs.Prelude.{◌≡◌, ℕ, ◌+◌, zero, suc, ℤ, pos, negsuc, ◌-ℤ◌, ◌+ℤ◌, int_lt, Bool, true, false, ◌&&◌, not, List, [], ◌∷◌, Option, Some, None, if◌then◌else◌}
use Rattle.std.specs.Ordering.{int_eq}
use Rattle.std.proofs.Common.{refl, sym, ap, subst, ◌∙◌, arith}
use Rattle.std.proofs.Math.IntN.{ -ℤ-+ℤ_cancel}
use Rattle.std.proofs.lemmas.Bool.Decides.{Decides-int_eq}
use Rattle.align_guides.specs.Guides.{divides, divides_step}
use Rattle.align_guides.specs.declared.GuideExpr.{GuideExpr}
use Rattle.align_guides.specs.declared.GuideKind.{GuideKind}
use Rattle.align_guides.specs.declared.GuideExpr.TheFolds.{fold-roll-GuideExpr}
use Rattle.align_guides.specs.declared.GuideExpr.TheVariants as guide
use Rattle.swift_ast.specs.declared.tree.BinarySign.{BinarySign}
use Rattle.swift_ast.specs.declared.tree.BinarySign.TheVariants as sign
use Rattle.swift_ast.specs.declared.tree.Expr.{Expr}
use Rattle.swift_ast.specs.declared.tree.Link.{Link}
use Rattle.swift_ast.specs.declared.tree.PrefixSign.{PrefixSign}
use Rattle.swift_ast.specs.declared.tree.PrefixSign.TheVariants as prefix
use Rattle.std.specs.Prelude.{codes}
use Rattle.std.specs.Str.{bytes_eq}
use Rattle.type_base.specs.Claims.{some_is, and_then, or_else}
use Rattle.modifier_rules.specs.Lengths.{levels}
use Rattle.modifier_rules.specs.Named.{guide_of}
use Rattle.modifier_rules.specs.Parts.{Word, indexed}
use Rattle.post_cores.specs.Members.{found_so}
use Rattle.modifier_rules.specs.Guides.{GuideForm, GuideRule, Whole, Signed, Joined, Look, guide_form, divisor_by, negative_by, divisor_of, negated, minus, joined, quotient, sign_of, right_of, LinkBy, LinksBy, GuideBy, GuideTo, GuideOf, side_named, side_of, guide_at, look_of}

-- a divisor is not zero
not_zero : (n : ℤ) (b : Bool) (m : ℤ) → int_eq n (pos 0) ≡ b → (if b then None else Some n) ≡ Some m → int_eq m (pos 0) ≡ false
not_zero n true m e h = cc
not_zero n false m e h = subst (λ (k : ℤ). int_eq k (pos 0) ≡ false) (some_is n m h) e

apart : (m : ℤ) (b : Bool) → int_eq m (pos 0) ≡ b → (m ≡ pos 0 → ⊥) → int_eq m (pos 0) ≡ false
apart m true e n = absurd (n ((Decides-int_eq m (pos 0)).0 e))
apart m false e n = e

below_zero : (k : ℕ) → pos 0 -ℤ pos (suc k) ≡ pos 0 → ⊥
below_zero k z = let back = sym (-ℤ-+ℤ_cancel (pos 0) (pos (suc k))) ∙ ap (λ x. x +ℤ pos (suc k)) z in let same : 0 ≡ 0 + suc k = cc in omega (arith, same)

negated_apart : (n : ℤ) (b : Bool) (m : ℤ) → int_lt (pos 0) n ≡ b → (if b then Some (pos 0 -ℤ n) else None) ≡ Some m → int_eq m (pos 0) ≡ false
negated_apart (pos zero) true m e h = cc
negated_apart (pos (suc k)) true m e h = apart m (int_eq m (pos 0)) refl (λ z. below_zero k (some_is (pos 0 -ℤ pos (suc k)) m h ∙ z))
negated_apart (negsuc k) true m e h = cc
negated_apart n false m e h = cc

divides_by : (F : GuideForm) (m : ℤ) (f : Expr → Option ℤ) → ((x : Expr) (k : ℤ) → f x ≡ Some k → int_eq k (pos 0) ≡ false) → divisor_by F f ≡ Some m → int_eq m (pos 0) ≡ false
divides_by (Whole n) m f g h = not_zero n (int_eq n (pos 0)) m refl h
divides_by (Signed (prefix.Minus ∷ []) x) m f g h = g x m h
divides_by _ m f g h = cc

negative_apart : (F : GuideForm) (m : ℤ) → negative_by F ≡ Some m → int_eq m (pos 0) ≡ false
negative_apart (Whole n) m h = negated_apart n (int_lt (pos 0) n) m refl h
negative_apart _ m h = cc

divisor_apart : (e : Expr) (m : ℤ) → divisor_of e ≡ Some m → int_eq m (pos 0) ≡ false
divisor_apart e m h = divides_by (guide_form e) m (λ x. negative_by (guide_form x)) (λ x k g. negative_apart (guide_form x) k g) h

-- ---- each rule keeps it

sum_is : (a b : GuideExpr) → divides (guide.Sum a b) ≡ (divides a && divides b)
sum_is a b = ap divides (sym (guide.rolls-Sum a b)) ∙ fold-roll-GuideExpr Bool divides_step _

difference_is : (a b : GuideExpr) → divides (guide.Difference a b) ≡ (divides a && divides b)
difference_is a b = ap divides (sym (guide.rolls-Difference a b)) ∙ fold-roll-GuideExpr Bool divides_step _

product_is : (a b : GuideExpr) → divides (guide.Product a b) ≡ (divides a && divides b)
product_is a b = ap divides (sym (guide.rolls-Product a b)) ∙ fold-roll-GuideExpr Bool divides_step _

quotient_is : (a : GuideExpr) (n : ℤ) → divides (guide.Quotient a n) ≡ (divides a && not (int_eq n (pos 0)))
quotient_is a n = ap divides (sym (guide.rolls-Quotient a n)) ∙ fold-roll-GuideExpr Bool divides_step _

literal_is : (n : ℤ) → divides (guide.Literal n) ≡ true
literal_is n = ap divides (sym (guide.rolls-Literal n)) ∙ fold-roll-GuideExpr Bool divides_step _

width_is : divides guide.Width ≡ true
width_is = ap divides (sym guide.rolls-Width) ∙ fold-roll-GuideExpr Bool divides_step _

height_is : divides guide.Height ≡ true
height_is = ap divides (sym guide.rolls-Height) ∙ fold-roll-GuideExpr Bool divides_step _

guide_is : (a : GuideKind) → divides (guide.Guide a) ≡ true
guide_is a = ap divides (sym (guide.rolls-Guide a)) ∙ fold-roll-GuideExpr Bool divides_step _

both_hold : (a b : Bool) → a ≡ true → b ≡ true → (a && b) ≡ true
both_hold true b e f = f
both_hold false b e f = e

minus_divides : (g : GuideExpr) → divides g ≡ true → divides (minus g) ≡ true
minus_divides g h = difference_is (guide.Literal (pos 0)) g ∙ both_hold _ _ (literal_is (pos 0)) h

negated_divides : (signs : List PrefixSign) (g r : GuideExpr) → divides g ≡ true → negated signs g ≡ Some r → divides r ≡ true
negated_divides [] g r h e = subst (λ (x : GuideExpr). divides x ≡ true) (some_is g r e) h
negated_divides (prefix.Minus ∷ signs) g r h e =
    found_so (divides r ≡ true) e (λ x q k. subst (λ (y : GuideExpr). divides y ≡ true) (some_is (minus x) r k) (minus_divides x (negated_divides signs g x h q)))
negated_divides (prefix.Not ∷ signs) g r h e = cc

joined_divides : (s : BinarySign) (g x r : GuideExpr) → divides g ≡ true → divides x ≡ true → joined s g x ≡ Some r → divides r ≡ true
joined_divides sign.Plus g x r h k e = subst (λ (y : GuideExpr). divides y ≡ true) (some_is (guide.Sum g x) r e) (sum_is g x ∙ both_hold (divides g) (divides x) h k)
joined_divides sign.Minus g x r h k e = subst (λ (y : GuideExpr). divides y ≡ true) (some_is (guide.Difference g x) r e) (difference_is g x ∙ both_hold (divides g) (divides x) h k)
joined_divides sign.Times g x r h k e = subst (λ (y : GuideExpr). divides y ≡ true) (some_is (guide.Product g x) r e) (product_is g x ∙ both_hold (divides g) (divides x) h k)
joined_divides _ g x r h k e = cc

quotient_divides : (g : GuideExpr) (e : Expr) (r : GuideExpr) → divides g ≡ true → quotient g e ≡ Some r → divides r ≡ true
quotient_divides g e r h q =
    found_so (divides r ≡ true) q (λ n d k. subst (λ (y : GuideExpr). divides y ≡ true) (some_is (guide.Quotient g n) r k) (quotient_is g n ∙ both_hold (divides g) (not (int_eq n (pos 0))) h (ap not (divisor_apart e n d))))

module _ (k : GuideRule) (good : (e : Expr) (g : GuideExpr) → k e g → divides g ≡ true) where
  link_divides : (g : GuideExpr) (s : BinarySign) (e : Expr) (r : GuideExpr) → divides g ≡ true → LinkBy k g s e r → divides r ≡ true
  unfolding LinkBy
  link_divides g sign.Divide e r h q = quotient_divides g e r h q
  link_divides g sign.Plus e r h (x, a, q) = joined_divides sign.Plus g x r h (good e x a) q
  link_divides g sign.Minus e r h (x, a, q) = joined_divides sign.Minus g x r h (good e x a) q
  link_divides g sign.Times e r h (x, a, q) = joined_divides sign.Times g x r h (good e x a) q
  link_divides g s e r h (x, a, q) = joined_divides s g x r h (good e x a) q

  links_divide : (g : GuideExpr) (links : List Link) (r : GuideExpr) → divides g ≡ true → LinksBy k g links r → divides r ≡ true
  unfolding LinksBy
  links_divide g [] r h e = subst (λ (y : GuideExpr). divides y ≡ true) (sym e) h
  links_divide g (l ∷ links) r h (x, a, q) = links_divide x links r (link_divides g (sign_of l) (right_of l) x h a) q

-- ---- what is read of the parameter

or_so : {A : Type 0} {o p : Option A} {r : A} (P : Type 0) → or_else o p ≡ Some r → (o ≡ Some r → P) → (p ≡ Some r → P) → P
unfolding or_else
or_so {o = Some a} P e f g = f e
or_so {o = None} P e f g = g e

side_divides : (d w v : Word) (g : GuideExpr) → side_named d w v ≡ Some g → divides g ≡ true
side_divides d w v g e = side_by (bytes_eq w d) (bytes_eq v (codes "width")) (bytes_eq v (codes "height")) e where
  side_by : (a b c : Bool) → (if a then (if b then Some guide.Width else (if c then Some guide.Height else None)) else None) ≡ Some g → divides g ≡ true
  side_by true true c e = subst (λ (y : GuideExpr). divides y ≡ true) (some_is guide.Width g e) width_is
  side_by true false true e = subst (λ (y : GuideExpr). divides y ≡ true) (some_is guide.Height g e) height_is
  side_by true false false e = cc
  side_by false b c e = cc

index_divides : (b : Bool) (o : Option GuideKind) (g : GuideExpr) → (if b then and_then o (λ k. Some (guide.Guide k)) else None) ≡ Some g → divides g ≡ true
index_divides true o g e = found_so (divides g ≡ true) e (λ k q h. subst (λ (y : GuideExpr). divides y ≡ true) (some_is (guide.Guide k) g h) (guide_is k))
index_divides false o g e = cc

look_divides : (d : Word) (e : Expr) (g : GuideExpr) → look_of d e ≡ Some g → divides g ≡ true
look_divides d e g q = look_by (bytes_eq d (codes "_")) q where
  look_by : (b : Bool) → (if b then None else or_else (side_of d e) (and_then (indexed e) (λ x. guide_at d x.0 x.1))) ≡ Some g → divides g ≡ true
  look_by true h = cc
  look_by false h = or_so (divides g ≡ true) h
      (λ s. found_so (divides g ≡ true) s (λ x qx k. side_divides d x.0 x.1 g k))
      (λ s. found_so (divides g ≡ true) s (λ x qx k. index_divides (bytes_eq x.0 d) (guide_of x.1) g k))

guide_divides : (k : GuideRule) → ((e : Expr) (g : GuideExpr) → k e g → divides g ≡ true) → (d : Word) (e : Expr) (F : GuideForm) (r : GuideExpr) → GuideBy k d e F r → divides r ≡ true
unfolding GuideBy
guide_divides k good d e (Whole n) r q = subst (λ (y : GuideExpr). divides y ≡ true) (sym q) (literal_is n)
guide_divides k good d e (Signed signs x) r (y, a, q) = negated_divides signs y r (good x y a) q
guide_divides k good d e (Joined x links) r (y, a, q) = links_divide k good y links r (good x y a) q
guide_divides k good d e Look r q = look_divides d e r q

guides_divide : (n : ℕ) (d : Word) (e : Expr) (g : GuideExpr) → GuideTo n d e g → divides g ≡ true
unfolding GuideTo
guides_divide zero d e g h = absurd h
guides_divide (suc n) d e g h = guide_divides (GuideTo n d) (guides_divide n d) d e (guide_form e) g h

-- the expression of a guide divides by no zero
pub guide_good : (d : Word) (e : Expr) (g : GuideExpr) → GuideOf d e g → divides g ≡ true
unfolding GuideOf
guide_good d e g h = guides_divide levels d e g h
