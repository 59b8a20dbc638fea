use Rattle.type_base.specs.Rules.{decided}
use Rattle.stmt_rules.specs.Exacts.{block_exact}
use Rattle.type_stmt.proofs.Turns.{answers_found, same_scope}
use Rattle.type_stmt.proofs.api.check_block.Goals as goal

pub returns : goal.returns
returns c =
    let answers = answers_found _ _ _ _ c.block.ensures.found in
    record { found = answers; typed = decided _ _ _ (block_exact _ _) answers; kept = same_scope _ _ _ _ c.block.ensures.found }
