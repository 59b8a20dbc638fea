use Rattle.source_sizes.proofs.Texts.{tokens_few}
use Rattle.source_sizes.proofs.laws.tokens_are_few.Goals as goal

pub returns : goal.returns
returns c = record { law = tokens_few }
