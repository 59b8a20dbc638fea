use Rattle.std.proofs.Common.{true}
use Rattle.std.specs.FinMap as fin
use Rattle.core_means.specs.Asks.{world}
use Rattle.core_means.specs.Means.{inner}
use Rattle.core_means.specs.Public as public
use Rattle.core_means.specs.Sources.{seen}
use Rattle.expr_eval.proofs.Ends.{began_answers}
use Rattle.expr_eval.proofs.public.exec_code.Goals as goal

pub returns-clause-answer : goal.returns-clause-answer
returns-clause-answer g c =
    let frame = c.args.frame.now in
    began_answers (seen frame fin.empty) (public.action_of_code (inner c.args.program.now 1000) c.args.code.now) frame true (g.C.Cells.map c.args.cells.now) c.in_ok-run.run' _ c.action_of_code.result
    (world c.action_of_code.new.run true frame (g.C.Cells.map c.action_of_code.new.cells)) c.action_of_code.new.run.reads c.in_ok-run.ensures.value c.action_of_code.ensures.does
