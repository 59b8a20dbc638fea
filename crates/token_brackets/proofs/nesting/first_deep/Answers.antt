use Rattle.std.proofs.Common.{arith, sym, ◌∙◌}
use Rattle.token_brackets.proofs.Depths.{counted_more, shallow_more, all_shallow}
use Rattle.token_brackets.proofs.nesting.first_deep.Goals as goal

pub loop-token-preserved : goal.loop-token-preserved
loop-token-preserved c =
    let i = c.loop-token.invariant in
    record {
      counted = rw c.counted-counts.ensures.value (counted_more c.args.tokens.now c.loop-token.token-index c.token-item.result c.loop-token.counts c.loop-token-test.true c.token-item.is i.counted);
      opens_fit = omega arith;
      closes_fit = omega arith;
      shallow = shallow_more 64 c.args.tokens.now c.loop-token.token-index c.token-item.result c.loop-token.counts c.loop-token-test.true c.token-item.is i.counted (sym c.is_deep.ensures ∙ c.if-is_deep.false) i.shallow;
    }

pub returns : goal.returns
returns c = all_shallow 64 c.args.tokens.now c.loop-token.token-index c.loop-token-test.false c.loop-token.invariant.shallow
