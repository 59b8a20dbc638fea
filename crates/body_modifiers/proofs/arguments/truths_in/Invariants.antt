use Rattle.std.proofs.Common.{length, Some, true}
use Rattle.sv_value.specs.declared.value.Value.TheVariants as whole
use Rattle.body_means.specs.Modified.{values_in}
use Rattle.body_modifiers.proofs.Options.{Tells}
use Rattle.body_modifiers.proofs.arguments.truths_in.Given as goal

-- what is told of the items so far and of the rest is the whole
abbrev pub invariant-loop-rest : goal.invariant-loop-rest
invariant-loop-rest l = Tells (values_in (Some (whole.Bool true))) l.inputs l.rest (values_in (Some (whole.Bool true)) l.fn.arguments)

abbrev pub decreases-loop-rest : goal.decreases-loop-rest
decreases-loop-rest l = length l.rest
