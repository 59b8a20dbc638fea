use Rattle.std.proofs.Common.{◌≡◌, ◌+◌, List, ℕ, length, get_or, refl, sym, ◌∙◌, ap, subst, arith}
use Rattle.std.specs.Io.KnownBytes.{append_known}
use Rattle.sv_io.specs.Sink.{SentPart}
use Rattle.sv_io.proofs.Sending.{on_err, nothing_sent}
use Rattle.view_engine.specs.Counter.{shape_of, runs_at}
use Rattle.view_engine.specs.Moments.{Moment}
use Rattle.view_engine.specs.declared.form.Event.TheVariants.{Tap}
use Rattle.app_top.specs.Output.{frame_at}
use Rattle.app_top.proofs.Playing.{joined_sent, joined_part, joined_some, none_sent, runs_none, runs_more, moment_more, moment_first, frame_is}
use Rattle.app_top.proofs.frames.play.Goals as goal

pub returns-in_err-engine-clause-part : goal.returns-in_err-engine-clause-part
returns-in_err-engine-clause-part g c = on_err c.from_residual.result (nothing_sent _ _)

pub returns-in_err-send-clause-part : goal.returns-in_err-send-clause-part
returns-in_err-send-clause-part g c = on_err c.from_residual-in_err-send.result
    (joined_part (g.O.Sink.seen c.args.out.now).wrote (g.O.Sink.seen c.args.out.now).wrote (g.O.Sink.seen c.send.new.out).wrote (frame_at (shape_of c.args.form) c.args.events.now) 0 (length c.args.events.now + 1) (none_sent (g.O.Sink.seen c.args.out.now).wrote (frame_at (shape_of c.args.form) c.args.events.now)) (omega arith)
    (subst (λ (l : List ℕ). SentPart (g.O.Sink.seen c.args.out.now).wrote (g.O.Sink.seen c.send.new.out).wrote l)
    (frame_is (shape_of c.args.form) c.args.events.now 0 0 c.in_ok-engine.engine (c.in_ok-engine.ensures.first ∙ moment_first (shape_of c.args.form) c.args.events.now) refl)
    c.in_err-send.ensures.part))

pub loop-event-init : goal.loop-event-init
loop-event-init g c =
    let at = c.in_ok-engine.ensures.first ∙ moment_first (shape_of c.args.form) c.args.events.now in
    record {
      so_far = joined_sent (g.O.Sink.seen c.args.out.now).wrote (g.O.Sink.seen c.args.out.now).wrote (g.O.Sink.seen c.send.new.out).wrote (frame_at (shape_of c.args.form) c.args.events.now) 0 (none_sent (g.O.Sink.seen c.args.out.now).wrote (frame_at (shape_of c.args.form) c.args.events.now))
          (c.in_ok-send.ensures.sent ∙ ap (append_known (g.O.Sink.seen c.args.out.now).wrote) (frame_is (shape_of c.args.form) c.args.events.now 0 0 c.in_ok-engine.engine at refl));
      at = at;
      ran = c.in_ok-engine.ensures.ran ∙ ap (λ (n : ℕ). c.args.bodies.now + n) (sym (runs_none (shape_of c.args.form)));
      visits = c.start.ensures.visits;
      number = refl;
      later = c.send.ensures.later;
    }

pub returns-in_err-advance-clause-part : goal.returns-in_err-advance-clause-part
returns-in_err-advance-clause-part g c = on_err c.from_residual-in_err-advance.result
    (joined_some (g.O.Sink.seen c.args.out.now).wrote (g.O.Sink.seen c.loop-event.out).wrote (frame_at (shape_of c.args.form) c.args.events.now) (c.loop-event.event-index + 1) (length c.args.events.now + 1) c.loop-event.invariant.so_far (omega (arith, c.loop-event-test.true)))

pub returns-in_err-send-2-clause-part : goal.returns-in_err-send-2-clause-part
returns-in_err-send-2-clause-part g c =
    let at = moment_more (shape_of c.args.form) c.args.events.now c.loop-event.event-index (Tap 0 0) (get_or c.args.events.now c.loop-event.event-index (Tap 0 0)) c.loop-event-test.true refl c.loop-event.engine c.advance.new.engine c.loop-event.invariant.at c.in_ok-advance.ensures.next in
    let number : c.loop-event.k + 1 ≡ c.loop-event.event-index + 1 = ap (λ (n : ℕ). n + 1) c.loop-event.invariant.number in
    on_err c.from_residual-in_err-send-2.result
    (joined_part (g.O.Sink.seen c.args.out.now).wrote (g.O.Sink.seen c.loop-event.out).wrote (g.O.Sink.seen c.send-in-loop-event.new.out).wrote (frame_at (shape_of c.args.form) c.args.events.now) (c.loop-event.event-index + 1) (length c.args.events.now + 1) c.loop-event.invariant.so_far (omega (arith, c.loop-event-test.true))
    (subst (λ (l : List ℕ). SentPart (g.O.Sink.seen c.loop-event.out).wrote (g.O.Sink.seen c.send-in-loop-event.new.out).wrote l)
    (frame_is (shape_of c.args.form) c.args.events.now (c.loop-event.k + 1) (c.loop-event.event-index + 1) c.advance.new.engine at number)
    c.in_err-send-2.ensures.part))

pub loop-event-preserved : goal.loop-event-preserved
loop-event-preserved g c =
    let s = c.loop-event.invariant in
    let at = moment_more (shape_of c.args.form) c.args.events.now c.loop-event.event-index (Tap 0 0) (get_or c.args.events.now c.loop-event.event-index (Tap 0 0)) c.loop-event-test.true refl c.loop-event.engine c.advance.new.engine c.loop-event.invariant.at c.in_ok-advance.ensures.next in
    let number : c.loop-event.k + 1 ≡ c.loop-event.event-index + 1 = ap (λ (n : ℕ). n + 1) s.number in
    record {
      so_far = joined_sent (g.O.Sink.seen c.args.out.now).wrote (g.O.Sink.seen c.loop-event.out).wrote (g.O.Sink.seen c.send-in-loop-event.new.out).wrote (frame_at (shape_of c.args.form) c.args.events.now) (c.loop-event.event-index + 1) s.so_far
          (c.in_ok-send-2.ensures.sent ∙ ap (append_known (g.O.Sink.seen c.loop-event.out).wrote) (frame_is (shape_of c.args.form) c.args.events.now (c.loop-event.k + 1) (c.loop-event.event-index + 1) c.advance.new.engine at number));
      at = at;
      ran = omega (
        arith,
        c.in_ok-advance.ensures.ran,
        s.ran,
        ap (λ (m : Moment). runs_at m.shape (get_or c.args.events.now c.loop-event.event-index (Tap 0 0))) s.at,
        runs_more (shape_of c.args.form) c.args.events.now c.loop-event.event-index (Tap 0 0) (get_or c.args.events.now c.loop-event.event-index (Tap 0 0)) c.loop-event-test.true refl,
      );
      visits = c.advance.ensures.visits ∙ s.visits;
      number = number;
      later = omega (arith, s.later, c.send-in-loop-event.ensures.later);
    }
