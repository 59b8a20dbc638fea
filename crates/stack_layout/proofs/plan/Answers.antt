use Rattle.stack_layout.proofs.Fits.{plan_fits}
use Rattle.stack_layout.proofs.plan.Goals as goal

pub returns-clause-fits : goal.returns-clause-fits
returns-clause-fits g c =
    plan_fits (g.S.Sizes.views c.args.children.now) _ c.args.axis c.args.spacing c.args.slots.now c.args.p _ c.fill.new.slots c.fill.ensures.same c.fill.auto.slots c.whole.ensures.value c.in_ok-fill.ensures.fits
