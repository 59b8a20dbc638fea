use Rattle.std.proofs.Common.{length}
use Rattle.body_means.specs.Modified.{numbers_in}
use Rattle.body_modifiers.proofs.Options.{Tells}
use Rattle.body_modifiers.proofs.arguments.numbers_in.Given as goal

-- what is told of the items so far and of the rest is the whole
abbrev pub invariant-loop-rest : goal.invariant-loop-rest
invariant-loop-rest l = Tells numbers_in l.numbers l.rest (numbers_in l.fn.arguments)

abbrev pub decreases-loop-rest : goal.decreases-loop-rest
decreases-loop-rest l = length l.rest
