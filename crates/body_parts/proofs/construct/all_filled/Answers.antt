use Rattle.std.proofs.Common.{arith}
use Rattle.body_parts.proofs.Turns.{filled_turn}
use Rattle.body_parts.specs.Nests.{of}
use Rattle.body_parts.proofs.construct.all_filled.Goals as goal

pub loop-rest-preserved : goal.loop-rest-preserved
loop-rest-preserved g c =
    filled_turn (of c.args.builder.now) _ _ _ _ _ c.loop-rest.rest.now _ c.loop-rest.given.now _ _ _ _ _
    c.in-len1-up.len_at_least c.filling-item.is (omega arith) c.argument-item.is c.in_ok-input.ensures.does c.in_ok-push.ensures.ok c.loop-rest.invariant
