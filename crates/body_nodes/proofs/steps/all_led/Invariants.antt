use Rattle.std.proofs.Common.{◌≡◌, [], ◌∷◌}
use Rattle.body_means.specs.Elements.{all_led}
use Rattle.body_nodes.proofs.steps.all_led.Given as goal

-- what is done are the views so far, each under the step
abbrev pub invariant-loop-view : goal.invariant-loop-view
invariant-loop-view l = l.done ≡ all_led (l.step ∷ []) l.yielded
