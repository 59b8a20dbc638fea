use Rattle.std.proofs.Common.{arith, sym, subst, ◌∙◌}
use Rattle.std.specs.Prelude.{reverse}
use Rattle.token_brackets.specs.declared.prefix.Step.{Step}
use Rattle.token_brackets.specs.Brackets.{bracket_of}
use Rattle.token_brackets.specs.Prefix.{move, Moved}
use Rattle.token_brackets.proofs.Prefixes.{front_begins, front_goes, front_ends, front_fails, front_end}
use Rattle.token_brackets.proofs.prefix.front_len.Goals as goal

pub loop-i-preserved : goal.loop-i-preserved
loop-i-preserved c =
    let moved = subst (λ (v : Step). Moved (move (bracket_of c.index-tokens-i.result) c.index-tokens-i.result.line (reverse c.loop-i.left.items)) v c.take_in.new.left.items) c.in-Goes.is c.in_ok-take_in.ensures in
    front_goes c.args.tokens.now (reverse c.loop-i.left.items) c.take_in.new.left.items c.loop-i.i c.index-tokens-i.result c.loop-i-test.true c.index-tokens-i.is c.loop-i.invariant moved

pub returns-in-Ends : goal.returns-in-Ends
returns-in-Ends c =
    let moved = subst (λ (v : Step). Moved (move (bracket_of c.index-tokens-i.result) c.index-tokens-i.result.line (reverse c.loop-i.left.items)) v c.take_in.new.left.items) c.in-Ends.is c.in_ok-take_in.ensures in
    front_ends c.args.tokens.now (reverse c.loop-i.left.items) c.take_in.new.left.items c.loop-i.i c.index-tokens-i.result c.loop-i-test.true c.index-tokens-i.is c.loop-i.invariant moved

pub returns-in-Fails : goal.returns-in-Fails
returns-in-Fails c =
    let moved = subst (λ (v : Step). Moved (move (bracket_of c.index-tokens-i.result) c.index-tokens-i.result.line (reverse c.loop-i.left.items)) v c.take_in.new.left.items) c.in-Fails.is c.in_ok-take_in.ensures in
    front_fails c.args.tokens.now (reverse c.loop-i.left.items) c.take_in.new.left.items c.loop-i.i c.index-tokens-i.result c.loop-i-test.true c.index-tokens-i.is c.loop-i.invariant moved

pub returns : goal.returns
returns c = c.at_end.ensures ∙ sym (front_end c.args.tokens.now (reverse c.loop-i.left.items) c.loop-i.i c.loop-i-test.false (omega arith) c.loop-i.invariant)
