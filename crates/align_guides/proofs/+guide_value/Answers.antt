use Rattle.std.proofs.Common.{rules, sym, ◌∙◌, ap, subst, IsTrue, FitsSigned, w64}
use Rattle.align_guides.specs.declared.GuideExpr.TheViews.{the_lemmas}
use Rattle.align_guides.specs.declared.GuideExpr.{GuideExpr}
use Rattle.align_guides.specs.Guides.{value_of, divides}
use Rattle.align_guides.proofs.Steps.{divides_second-Sum, divides_second-Difference, divides_second-Product, sum_is, difference_is, product_is, product_fits, quotient_is}
use Rattle.align_guides.proofs.+guide_value.Goals as goal

pub guide_value-requires-in-Sum : goal.guide_value-requires-in-Sum
guide_value-requires-in-Sum t c =
    (search (rules, the_lemmas), (subst (λ (e : GuideExpr). IsTrue (divides e)) (sym c.get-in-Sum-2.ensures) (divides_second-Sum _ _ _ c.in-Sum.is c.requires.divisors), search rules))

pub guide_value-requires-in-Difference-2 : goal.guide_value-requires-in-Difference-2
guide_value-requires-in-Difference-2 t c =
    (search (rules, the_lemmas), (subst (λ (e : GuideExpr). IsTrue (divides e)) (sym c.get-in-Difference-2.ensures) (divides_second-Difference _ _ _ c.in-Difference.is c.requires.divisors), search rules))

pub guide_value-requires-in-Product-2 : goal.guide_value-requires-in-Product-2
guide_value-requires-in-Product-2 t c =
    (search (rules, the_lemmas), (subst (λ (e : GuideExpr). IsTrue (divides e)) (sym c.get-in-Product-2.ensures) (divides_second-Product _ _ _ c.in-Product.is c.requires.divisors), search rules))

pub overflow_mul-guide_value : goal.overflow_mul-guide_value
overflow_mul-guide_value t c = product_fits c.args.size c.args.guides.now _ _ c.guide_value-in-Product.ensures.bounds c.guide_value-in-Product-2.ensures.bounds

pub returns-in-Sum-clause-value : goal.returns-in-Sum-clause-value
returns-in-Sum-clause-value t c =
    let one = c.guide_value.ensures in
    let two = c.guide_value-in-Sum.ensures in
    sum_is _ _ _ c.in-Sum.a c.in-Sum.b _ _ _ c.in-Sum.is (one.value ∙ ap (λ e. value_of e c.args.size c.args.guides.now) c.get-in-Sum.ensures)
    (two.value ∙ ap (λ e. value_of e c.args.size c.args.guides.now) c.get-in-Sum-2.ensures) one.bounds two.bounds c.hold-in-Sum.ensures.value c.hold-in-Sum.ensures.bounds

pub returns-in-Difference-clause-value : goal.returns-in-Difference-clause-value
returns-in-Difference-clause-value t c =
    let one = c.guide_value-in-Difference.ensures in
    let two = c.guide_value-in-Difference-2.ensures in
    difference_is _ _ _ c.in-Difference.a c.in-Difference.b _ _ _ c.in-Difference.is (one.value ∙ ap (λ e. value_of e c.args.size c.args.guides.now) c.get-in-Difference.ensures)
    (two.value ∙ ap (λ e. value_of e c.args.size c.args.guides.now) c.get-in-Difference-2.ensures) one.bounds two.bounds c.hold-in-Difference.ensures.value c.hold-in-Difference.ensures.bounds

pub returns-in-Product-clause-value : goal.returns-in-Product-clause-value
returns-in-Product-clause-value t c =
    let one = c.guide_value-in-Product.ensures in
    let two = c.guide_value-in-Product-2.ensures in
    product_is _ _ _ c.in-Product.a c.in-Product.b _ _ _ c.in-Product.is (one.value ∙ ap (λ e. value_of e c.args.size c.args.guides.now) c.get-in-Product.ensures)
    (two.value ∙ ap (λ e. value_of e c.args.size c.args.guides.now) c.get-in-Product-2.ensures) one.bounds two.bounds c.hold-in-Product.ensures.value c.hold-in-Product.ensures.bounds

pub returns-in-Quotient-clause-value : goal.returns-in-Quotient-clause-value
returns-in-Quotient-clause-value t c =
    let one = c.guide_value-in-Quotient.ensures in
    let two = c.hold-in-Quotient.ensures in
    let n : FitsSigned w64 c.in-Quotient.n = search rules in
    quotient_is _ _ _ c.in-Quotient.a c.in-Quotient.n _ _ _ c.in-Quotient.is n (one.value ∙ ap (λ e. value_of e c.args.size c.args.guides.now) c.get-in-Quotient.ensures)
    one.bounds two.bounds c.requires.divisors two.value c.hold-in-Quotient-2.ensures.value c.hold-in-Quotient-2.ensures.bounds
