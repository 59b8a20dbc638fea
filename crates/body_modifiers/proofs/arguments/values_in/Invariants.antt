use Rattle.std.proofs.Common.{length, None}
use Rattle.body_means.specs.Modified.{values_in}
use Rattle.body_modifiers.proofs.Options.{Tells}
use Rattle.body_modifiers.proofs.arguments.values_in.Given as goal

-- what is told of the items so far and of the rest is the whole
abbrev pub invariant-loop-rest : goal.invariant-loop-rest
invariant-loop-rest l = Tells (values_in None) l.inputs l.rest (values_in None l.fn.arguments)

abbrev pub decreases-loop-rest : goal.decreases-loop-rest
decreases-loop-rest l = length l.rest
