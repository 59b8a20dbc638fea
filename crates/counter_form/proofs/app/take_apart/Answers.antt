use Rattle.std.proofs.Common.{◌≡◌, true, refl, sym, ◌∙◌, ap}
use Rattle.counter_form.specs.App.{is_ending}
use Rattle.counter_form.proofs.Cutting.{on_none, same_cut, no_cut}
use Rattle.counter_form.proofs.Spelling.{cut1, cut2, cut3, cut4, cut5, cut6, cut7, cut8, cut9, spelt}
use Rattle.counter_form.proofs.app.take_apart.Goals as goal

pub returns-in_err-rest-2-clause-spelt : goal.returns-in_err-rest-2-clause-spelt
returns-in_err-rest-2-clause-spelt c = on_none _ c.from_residual-in_err-rest-2.ensures (λ shape s.
    let e1 = same_cut refl c.in_ok-rest.ensures (cut1 s) in
    no_cut e1.1 c.in_err-rest-2.ensures (cut2 s))

pub returns-in_err-rest-3-clause-spelt : goal.returns-in_err-rest-3-clause-spelt
returns-in_err-rest-3-clause-spelt c = on_none _ c.from_residual-in_err-rest-3.ensures (λ shape s.
    let e1 = same_cut refl c.in_ok-rest.ensures (cut1 s) in
    let e2 = same_cut e1.1 c.in_ok-rest-2.ensures (cut2 s) in
    no_cut e2.1 c.in_err-rest-3.ensures (cut3 s))

pub returns-in_err-init-clause-spelt : goal.returns-in_err-init-clause-spelt
returns-in_err-init-clause-spelt c = on_none _ c.from_residual-in_err-init.ensures (λ shape s.
    let e1 = same_cut refl c.in_ok-rest.ensures (cut1 s) in
    let e2 = same_cut e1.1 c.in_ok-rest-2.ensures (cut2 s) in
    let e3 = same_cut e2.1 c.in_ok-rest-3.ensures (cut3 s) in
    no_cut e3.1 c.in_err-init.ensures (cut4 s))

pub returns-in_err-rest-4-clause-spelt : goal.returns-in_err-rest-4-clause-spelt
returns-in_err-rest-4-clause-spelt c = on_none _ c.from_residual-in_err-rest-4.ensures (λ shape s.
    let e1 = same_cut refl c.in_ok-rest.ensures (cut1 s) in
    let e2 = same_cut e1.1 c.in_ok-rest-2.ensures (cut2 s) in
    let e3 = same_cut e2.1 c.in_ok-rest-3.ensures (cut3 s) in
    let e4 = same_cut e3.1 c.in_ok-init.ensures (cut4 s) in
    no_cut e4.1 c.in_err-rest-4.ensures (cut5 s))

pub returns-in_err-prefix-clause-spelt : goal.returns-in_err-prefix-clause-spelt
returns-in_err-prefix-clause-spelt c = on_none _ c.from_residual-in_err-prefix.ensures (λ shape s.
    let e1 = same_cut refl c.in_ok-rest.ensures (cut1 s) in
    let e2 = same_cut e1.1 c.in_ok-rest-2.ensures (cut2 s) in
    let e3 = same_cut e2.1 c.in_ok-rest-3.ensures (cut3 s) in
    let e4 = same_cut e3.1 c.in_ok-init.ensures (cut4 s) in
    let e5 = same_cut e4.1 c.in_ok-rest-4.ensures (cut5 s) in
    no_cut e5.1 c.in_err-prefix.ensures (cut6 s))

pub returns-in_err-label-clause-spelt : goal.returns-in_err-label-clause-spelt
returns-in_err-label-clause-spelt c = on_none _ c.from_residual-in_err-label.ensures (λ shape s.
    let e1 = same_cut refl c.in_ok-rest.ensures (cut1 s) in
    let e2 = same_cut e1.1 c.in_ok-rest-2.ensures (cut2 s) in
    let e3 = same_cut e2.1 c.in_ok-rest-3.ensures (cut3 s) in
    let e4 = same_cut e3.1 c.in_ok-init.ensures (cut4 s) in
    let e5 = same_cut e4.1 c.in_ok-rest-4.ensures (cut5 s) in
    let e6 = same_cut e5.1 c.in_ok-prefix.ensures (cut6 s) in
    no_cut e6.1 c.in_err-label.ensures (cut7 s))

pub returns-in_err-step-clause-spelt : goal.returns-in_err-step-clause-spelt
returns-in_err-step-clause-spelt c = on_none _ c.from_residual-in_err-step.ensures (λ shape s.
    let e1 = same_cut refl c.in_ok-rest.ensures (cut1 s) in
    let e2 = same_cut e1.1 c.in_ok-rest-2.ensures (cut2 s) in
    let e3 = same_cut e2.1 c.in_ok-rest-3.ensures (cut3 s) in
    let e4 = same_cut e3.1 c.in_ok-init.ensures (cut4 s) in
    let e5 = same_cut e4.1 c.in_ok-rest-4.ensures (cut5 s) in
    let e6 = same_cut e5.1 c.in_ok-prefix.ensures (cut6 s) in
    let e7 = same_cut e6.1 c.in_ok-label.ensures (cut7 s) in
    no_cut e7.1 c.in_err-step.ensures (cut8 s))

pub returns-in_err-ending-clause-spelt : goal.returns-in_err-ending-clause-spelt
returns-in_err-ending-clause-spelt c = on_none _ c.from_residual-in_err-ending.ensures (λ shape s.
    let e1 = same_cut refl c.in_ok-rest.ensures (cut1 s) in
    let e2 = same_cut e1.1 c.in_ok-rest-2.ensures (cut2 s) in
    let e3 = same_cut e2.1 c.in_ok-rest-3.ensures (cut3 s) in
    let e4 = same_cut e3.1 c.in_ok-init.ensures (cut4 s) in
    let e5 = same_cut e4.1 c.in_ok-rest-4.ensures (cut5 s) in
    let e6 = same_cut e5.1 c.in_ok-prefix.ensures (cut6 s) in
    let e7 = same_cut e6.1 c.in_ok-label.ensures (cut7 s) in
    let e8 = same_cut e7.1 c.in_ok-step.ensures (cut8 s) in
    no_cut e8.1 c.in_err-ending.ensures (cut9 s))

pub returns-then-not-is_last-clause-spelt : goal.returns-then-not-is_last-clause-spelt
returns-then-not-is_last-clause-spelt c = λ shape s.
    let e1 = same_cut refl c.in_ok-rest.ensures (cut1 s) in
    let e2 = same_cut e1.1 c.in_ok-rest-2.ensures (cut2 s) in
    let e3 = same_cut e2.1 c.in_ok-rest-3.ensures (cut3 s) in
    let e4 = same_cut e3.1 c.in_ok-init.ensures (cut4 s) in
    let e5 = same_cut e4.1 c.in_ok-rest-4.ensures (cut5 s) in
    let e6 = same_cut e5.1 c.in_ok-prefix.ensures (cut6 s) in
    let e7 = same_cut e6.1 c.in_ok-label.ensures (cut7 s) in
    let e8 = same_cut e7.1 c.in_ok-step.ensures (cut8 s) in
    let e9 = same_cut e8.1 c.in_ok-ending.ensures (cut9 s) in
    let other : is_ending c.in_ok-ending.ending.now ≡ true = ap is_ending e9.1 ∙ s.last in
    let here = c.is_last.ensures in
    let fails = c.if-not-is_last.true in
    absurd (cc (other, here, fails))

pub returns-clause-spelt : goal.returns-clause-spelt
returns-clause-spelt c = spelt _ _ _ _ _ _ _ _ _ _ _ _ _ _ _ _ _ _ _ c.in_ok-rest.ensures c.in_ok-rest-2.ensures c.in_ok-rest-3.ensures c.in_ok-init.ensures c.in_ok-rest-4.ensures c.in_ok-prefix.ensures c.in_ok-label.ensures c.in_ok-step.ensures c.in_ok-ending.ensures (sym c.is_last.ensures ∙ c.if-not-is_last.false)
