use Rattle.body_means.specs.Law.{handlers_ask}
use Rattle.body_means.proofs.handlers_ask_nothing.Goals as goal

pub returns : goal.returns
returns c = record { nothing = handlers_ask }
