use Rattle.std.proofs.Common.{◌≡◌, drop}
use Rattle.body_means.specs.Bodies.{with_captured}
use Rattle.body_eval.proofs.bodies.capture_all.Given as goal

-- what is left is the whole
abbrev pub invariant-loop-number : goal.invariant-loop-number
invariant-loop-number l = with_captured l.locals l.number (drop l.number l.kept) ≡ with_captured l.initial.locals 0 l.kept
