use Rattle.body_rights.specs.Bodies.{bodies_give as proof}
use Rattle.body_rights.proofs.bodies_give.Goals as goal

pub returns : goal.returns
returns c = record { law = proof }
