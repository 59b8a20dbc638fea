use Rattle.std.proofs.Common.{arith}
use Rattle.token_brackets.specs.PieceLength.{braced_len, outside}
use Rattle.token_brackets.proofs.Cuts.{len_stop, len_go}
use Rattle.token_brackets.proofs.pieces.braced_len.Goals as goal

pub returns-in-None-clause-value : goal.returns-in-None-clause-value
returns-in-None-clause-value c =
    len_stop c.loop-i.at c.args.tokens.now c.loop-i.i c.index-tokens-i.result c.stepped.result (braced_len outside c.args.tokens.now)
    c.loop-i-test.true c.index-tokens-i.is c.stepped.ensures.value c.in-None.is c.loop-i.invariant.length

pub loop-i-preserved : goal.loop-i-preserved
loop-i-preserved c = record {
  length = len_go c.loop-i.at c.args.tokens.now c.loop-i.i c.index-tokens-i.result c.stepped.result (braced_len outside c.args.tokens.now) c.in-Some.after
      c.loop-i-test.true c.index-tokens-i.is c.stepped.ensures.value c.in-Some.is c.loop-i.invariant.length;
  fits = omega (arith, c.in-Some.ensures.within);
}
