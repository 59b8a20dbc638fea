use Rattle.std.proofs.Common.{◌≤◌, take}
use Rattle.token_brackets.proofs.Depths.{Counted, ShallowTo}
use Rattle.token_brackets.proofs.nesting.first_deep.Given as goal

abbrev pub invariant-loop-token : goal.invariant-loop-token
invariant-loop-token l = record {
  counted : Counted (take l.token-index l.tokens) l.counts;
  opens_fit : l.counts.opened ≤ l.token-index;
  closes_fit : l.counts.closed ≤ l.token-index;
  shallow : ShallowTo 64 l.tokens l.token-index;
}
