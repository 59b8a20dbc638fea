use Rattle.body_rights.specs.Bodies.{bodies_are_right as proof}
use Rattle.body_rights.proofs.bodies_are_right.Goals as goal

pub returns : goal.returns
returns c = record { law = proof }
