use Rattle.stmt_rules.specs.Exacts as exact
use Rattle.stmt_rules.proofs.laws.blocks_are_found.Goals as goal

pub returns : goal.returns
returns c = record { law = exact.block_exact }
