use Rattle.token_brackets.proofs.Walks.{all_only}
use Rattle.token_brackets.proofs.partners.unbalanced.Goals as goal

pub returns-clause-only : goal.returns-clause-only
returns-clause-only c = all_only c.args.tokens.now c.walk.result c.walk.ensures
