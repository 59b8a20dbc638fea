use Rattle.std.proofs.Common.{[], ◌∷◌, ◌++◌}
use Rattle.body_means.specs.Customs.{argument, arguments_from}
use Rattle.body_nodes.proofs.Turns.{turn}
use Rattle.body_parts.proofs.Turns.{arguments_unroll}
use Rattle.body_parts.specs.Nests.{of}
use Rattle.body_parts.proofs.construct.arguments.Goals as goal

pub loop-rest-preserved : goal.loop-rest-preserved
loop-rest-preserved g c =
    let b = of c.args.builder.now in
    turn (arguments_from b) (argument b) (λ done o. done ++ o ∷ []) (arguments_unroll b) _ _ _ _ _ _ _ _ _ _ _
    c.in-len1-up.len_at_least c.filling-item.is c.in_ok-input.ensures.does c.in_ok-push.ensures.ok c.loop-rest.invariant
