use Rattle.std.proofs.Common.{arith}
use Rattle.std.proofs.lemmas.Result.{err_from_is_err_and}
use Rattle.value_calls.proofs.TextLemmas.{refused_at}
use Rattle.value_calls.proofs.texts.interpolate.Goals as goal

pub returns-in_err-text : goal.returns-in_err-text
returns-in_err-text c =
    let p = err_from_is_err_and c.from_residual.result c.from_residual.ensures.1 in
    rw (p.1, p.2) (refused_at c.args.pieces.now c.loop-piece.piece-index c.piece-item.result c.loop-piece.text _ (omega (arith, c.loop-piece-test.true)) c.piece-item.is c.loop-piece.invariant c.requires c.in_err-text.ensures)
