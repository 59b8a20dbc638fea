use Rattle.std.specs.Prelude.{length}
use Rattle.type_ops.proofs.operators.+signed.Given as goal

abbrev pub decreases-signed : goal.decreases-signed
decreases-signed l = length l.prefixes.now
