use Rattle.token_brackets.proofs.Prefixes.{all_fronts, all_only_front}
use Rattle.token_brackets.proofs.prefix.balanced_len.Goals as goal

pub returns-clause-found : goal.returns-clause-found
returns-clause-found c = all_fronts c.args.tokens.now c.front_len.result c.front_len.ensures

pub returns-clause-only : goal.returns-clause-only
returns-clause-only c = all_only_front c.args.tokens.now c.front_len.result c.front_len.ensures
