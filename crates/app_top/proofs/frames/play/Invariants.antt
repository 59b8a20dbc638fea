use Rattle.std.proofs.Common.{◌≡◌, ◌+◌, ◌≤◌, take}
use Rattle.sv_io.specs.Sink.{SentAll}
use Rattle.view_engine.specs.Joined.{joined}
use Rattle.view_engine.specs.Counter.{shape_of}
use Rattle.app_top.specs.Output.{frame_at, bodies_run}
use Rattle.app_top.proofs.Playing.{moment_at}
use Rattle.app_top.proofs.frames.play.Given as goal

abbrev pub invariant-loop-event : goal.invariant-loop-event
invariant-loop-event g l = record {
  so_far : SentAll (g.O.Sink.seen l.fn.out).wrote (g.O.Sink.seen l.out).wrote (joined (frame_at (shape_of l.fn.form) l.events) (l.event-index + 1));
  at : l.engine ≡ moment_at (shape_of l.fn.form) l.events l.event-index;
  ran : l.bodies ≡ l.fn.bodies + bodies_run (shape_of l.fn.form) (take l.event-index l.events);
  visits : l.visits ≡ l.fn.visits;
  number : l.k ≡ l.event-index;
  later : (g.O.Sink.seen l.fn.out).faults ≤ (g.O.Sink.seen l.out).faults;
}
