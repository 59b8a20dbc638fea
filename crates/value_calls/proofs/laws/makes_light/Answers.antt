use Rattle.value_calls.proofs.LawProofs.{makes_light}
use Rattle.value_calls.proofs.laws.makes_light.Goals as goal

pub returns : goal.returns
returns c = makes_light
