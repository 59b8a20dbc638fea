use Rattle.std.proofs.Common.{[], ◌∷◌, ◌++◌}
use Rattle.core_means.specs.Places.{local_at}
use Rattle.body_means.specs.Kept.{captured_from}
use Rattle.body_nodes.proofs.Turns.{number_turn, captured_unroll}
use Rattle.body_nodes.proofs.keeping.captured.Goals as goal

pub loop-rest-preserved : goal.loop-rest-preserved
loop-rest-preserved g c =
    number_turn captured_from local_at (λ done v. done ++ v ∷ []) captured_unroll _ _ _ _ _ _ _ _ _ _
    c.in-len1-up.len_at_least c.in_ok-input.ensures.does c.in_ok-push.ensures.ok c.loop-rest.invariant
