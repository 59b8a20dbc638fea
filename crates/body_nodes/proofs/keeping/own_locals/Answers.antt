use Rattle.body_means.specs.Kept.{own_at, with_own, kept_from}
use Rattle.body_nodes.proofs.Turns.{number_turn, kept_unroll}
use Rattle.body_nodes.proofs.keeping.own_locals.Goals as goal

pub loop-rest-preserved : goal.loop-rest-preserved
loop-rest-preserved g c =
    number_turn kept_from own_at with_own kept_unroll _ _ _ _ _ _ _ _ _ _
    c.in-len1-up.len_at_least c.in_ok-own.ensures.does c.in_ok-push_own.ensures c.loop-rest.invariant
