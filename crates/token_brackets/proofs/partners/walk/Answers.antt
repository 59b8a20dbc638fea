use Rattle.std.proofs.Common.{ap, sym, ◌∙◌}
use Rattle.std.specs.Prelude.{reverse}
use Rattle.token_brackets.specs.Machine.{fault_line}
use Rattle.token_brackets.proofs.Walks.{walk_failed, walk_went}
use Rattle.token_brackets.proofs.partners.walk.Goals as goal

pub returns-then-not-branch : goal.returns-then-not-branch
returns-then-not-branch c =
    ap fault_line (sym (c.loop-token.invariant ∙ walk_failed (reverse c.loop-token.left.items) c.args.tokens.now c.loop-token.token-index c.token-item.result c.in_ok-step.field-0 c.step.new.left.items
    c.loop-token-test.true c.token-item.is c.in_ok-step.ensures c.if-not-branch.true))

pub loop-token-preserved : goal.loop-token-preserved
loop-token-preserved c =
    c.loop-token.invariant ∙ walk_went (reverse c.loop-token.left.items) c.args.tokens.now c.loop-token.token-index c.token-item.result c.in_ok-step.field-0 c.step.new.left.items
    c.loop-token-test.true c.token-item.is c.in_ok-step.ensures c.if-not-branch.false
