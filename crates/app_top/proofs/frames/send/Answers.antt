use Rattle.std.proofs.Common.{◌≤◌, List, ℕ, length, sym, ◌∙◌, ap, subst}
use Rattle.std.specs.Io.KnownBytes.{append_known}
use Rattle.sv_io.specs.Sink.{SentPart}
use Rattle.sv_io.proofs.Sending.{on_err, nothing_sent}
use Rattle.app_top.proofs.Playing.{rows_shown, cells_enough}
use Rattle.app_top.proofs.frames.send.Goals as goal

pub frame-requires : goal.frame-requires
frame-requires g c = subst (λ (l : List ℕ). 1920 ≤ length l) (sym c.deref.ensures.value) (cells_enough _ _ _ c.frame-canvas.ensures)

pub returns-in_err-text-clause-part : goal.returns-in_err-text-clause-part
returns-in_err-text-clause-part g c = on_err c.from_residual.result (nothing_sent _ _)

pub returns-in_err-write_whole-clause-part : goal.returns-in_err-write_whole-clause-part
returns-in_err-write_whole-clause-part g c = on_err c.from_residual-in_err-write_whole.result
    (subst (λ (l : List ℕ). SentPart (g.O.Sink.seen c.args.out.now).wrote (g.O.Sink.seen c.write_whole.new.sink).wrote l)
    (c.deref-2.ensures.value ∙ c.in_ok-text.ensures ∙ rows_shown _ c.args.k _ _ c.deref.result.now c.deref.ensures.value c.frame-canvas.ensures)
    c.in_err-write_whole.ensures.err)

pub returns-clause-sent : goal.returns-clause-sent
returns-clause-sent g c = c.in_ok-write_whole.ensures.ok
    ∙ ap (append_known (g.O.Sink.seen c.args.out.now).wrote)
    (c.deref-2.ensures.value ∙ c.in_ok-text.ensures ∙ rows_shown _ c.args.k _ _ c.deref.result.now c.deref.ensures.value c.frame-canvas.ensures)
