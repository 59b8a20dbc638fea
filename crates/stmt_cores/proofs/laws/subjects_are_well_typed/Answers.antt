use Rattle.stmt_cores.specs.Cases.{subject_good}
use Rattle.stmt_cores.proofs.laws.subjects_are_well_typed.Goals as goal

pub returns : goal.returns
returns c = record { law = subject_good }
