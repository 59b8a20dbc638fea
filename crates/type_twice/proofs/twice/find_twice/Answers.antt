use Rattle.std.proofs.Common.{sym, ◌∙◌, arith}
use Rattle.type_twice.proofs.Repeats.{twice_found, twice_is}
use Rattle.type_twice.proofs.twice.find_twice.Goals as goal

pub returns-in-Some : goal.returns-in-Some
returns-in-Some c = record {
  twice =
      sym (twice_found c.loop-piece.seen c.as_slice-piece-items.result.now c.loop-piece.piece-index c.piece-item.result c.in_ok-found.found _ (omega arith) c.piece-item.is c.in_ok-found.ensures.found c.in-Some.is)
      ∙ sym c.loop-piece.invariant
      ∙ twice_is c.args.source.now;
}
