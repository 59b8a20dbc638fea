use Rattle.std.proofs.Common.{codes, arith}
use Rattle.std.proofs.lemmas.Grind.{common_steps}
use Rattle.sv_value.specs.Joined.{join_by_turn}
use Rattle.identity_path.specs.Text.{step_text}
use Rattle.identity_path.proofs.text.text_of.Goals as goal

pub loop-i-preserved : goal.loop-i-preserved
loop-i-preserved c =
    let e = join_by_turn (step_text c.args.names.now) (codes "/") c.as_slice-steps.result.now c.loop-i.i c.index-steps-i.result c.loop-i-test.true c.index-steps-i.is in
    grind (arith, common_steps)
