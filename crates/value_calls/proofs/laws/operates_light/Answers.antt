use Rattle.value_calls.proofs.LawProofs.{operates_light}
use Rattle.value_calls.proofs.laws.operates_light.Goals as goal

pub returns : goal.returns
returns c = operates_light
