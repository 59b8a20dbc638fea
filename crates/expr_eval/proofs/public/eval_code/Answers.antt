use Rattle.std.proofs.Common.{false}
use Rattle.std.specs.FinMap as fin
use Rattle.core_means.specs.Asks.{world}
use Rattle.core_means.specs.Means.{inner}
use Rattle.core_means.specs.Public as public
use Rattle.core_means.specs.Sources.{seen}
use Rattle.expr_eval.proofs.Ends.{began_answers}
use Rattle.expr_eval.proofs.public.eval_code.Goals as goal

pub returns : goal.returns
returns g c =
    let frame = c.args.frame.now in
    record {
      value = began_answers (seen frame (g.C.Cells.map c.args.cells.now)) (public.value_of_code (inner c.args.program.now 1000) c.args.code.now) frame false fin.empty c.in_ok-run.run' _ c.value_of_code.result
          (world c.value_of_code.new.run false frame fin.empty) c.value_of_code.new.run.reads c.in_ok-run.ensures.value c.value_of_code.ensures.does;
    }
