use Rattle.stmt_rules.specs.Exacts as exact
use Rattle.stmt_rules.proofs.laws.one_block.Goals as goal

pub returns : goal.returns
returns c = record { law = exact.one_block }
