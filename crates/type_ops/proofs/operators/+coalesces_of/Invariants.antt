use Rattle.std.specs.Prelude.{length}
use Rattle.type_ops.proofs.operators.+coalesces_of.Given as goal

abbrev pub decreases-coalesces_of : goal.decreases-coalesces_of
decreases-coalesces_of g l = length l.links.now
