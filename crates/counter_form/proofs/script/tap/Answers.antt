use Rattle.std.proofs.Common.{refl, sym, subst}
use Rattle.view_engine.specs.declared.form.Event.{Event}
use Rattle.view_engine.specs.declared.form.Event.TheVariants.{Tap}
use Rattle.counter_form.specs.Script.{SpellsTap}
use Rattle.counter_form.proofs.Cutting.{on_none, same_cut, no_cut}
use Rattle.counter_form.proofs.Tapping.{tap1, tap2, tap3, spelt_tap}
use Rattle.counter_form.proofs.script.tap.Goals as goal

pub returns-in_err-rest : goal.returns-in_err-rest
returns-in_err-rest c = on_none _ c.from_residual.ensures (λ event rest t. no_cut refl c.in_err-rest.ensures (tap1 t))

pub returns-in_err-x : goal.returns-in_err-x
returns-in_err-x c = on_none _ c.from_residual-in_err-x.ensures (λ event rest t.
    let e1 = same_cut refl c.in_ok-rest.ensures (tap1 t) in
    no_cut e1.1 c.in_err-x.ensures (tap2 t))

pub returns-in_err-y : goal.returns-in_err-y
returns-in_err-y c = on_none _ c.from_residual-in_err-y.ensures (λ event rest t.
    let e1 = same_cut refl c.in_ok-rest.ensures (tap1 t) in
    let e2 = same_cut e1.1 c.in_ok-x.ensures (tap2 t) in
    no_cut e2.1 c.in_err-y.ensures (tap3 t))

pub returns : goal.returns
returns c =
    let taken = spelt_tap _ _ _ _ _ _ _ c.in_ok-rest.ensures c.in_ok-x.ensures c.in_ok-y.ensures in
    let P : Event → Type 0 = λ e. SpellsTap e c.args.bytes.now c.in_ok-y.rest.now in
    subst P (λ i. Tap ((sym c.number.ensures.value) i) ((sym c.number-2.ensures.value) i)) taken
