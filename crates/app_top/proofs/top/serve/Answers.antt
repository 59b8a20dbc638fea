use Rattle.std.proofs.Common.{rules}
use Rattle.app_top.proofs.Serving.{begun}
use Rattle.app_top.proofs.top.serve.Goals as goal

pub returns-in-Err-OutOfMemory-clause-came : goal.returns-in-Err-OutOfMemory-clause-came
returns-in-Err-OutOfMemory-clause-came g c = λ files told.
    begun files _ _ _ c.deref.result.now (g.O.Sink.seen c.args.out.now) (g.O.Sink.seen c.play.new.out)
    (c.in-Ok.ensures.input files told) c.deref.ensures.value c.in-Err-OutOfMemory.ensures.part

pub returns-clause-came : goal.returns-clause-came
returns-clause-came g c = (
  c.in-Ok.ensures.asked.1,
  c.in-Err-WriteFailed.ensures.cause (search rules),
  λ files told.
      begun files _ _ _ c.deref.result.now (g.O.Sink.seen c.args.out.now) (g.O.Sink.seen c.play.new.out)
      (c.in-Ok.ensures.input files told) c.deref.ensures.value c.in-Err-WriteFailed.ensures.part,
)
