use Rattle.body_means.specs.Law.{same_description, other_reads}
use Rattle.body_means.proofs.bodies_depend_on_reads.Goals as goal

pub returns : goal.returns
returns c = record { same = same_description; other = other_reads }
