use Rattle.source_sizes.proofs.Texts.{declarations_few}
use Rattle.source_sizes.proofs.laws.declarations_are_few.Goals as goal

pub returns : goal.returns
returns c = record { law = declarations_few }
