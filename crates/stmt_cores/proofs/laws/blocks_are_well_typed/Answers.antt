use Rattle.stmt_cores.specs.Statements.{block_good}
use Rattle.stmt_cores.proofs.laws.blocks_are_well_typed.Goals as goal

pub returns : goal.returns
returns c = record { law = block_good }
