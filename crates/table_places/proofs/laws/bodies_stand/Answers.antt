use Rattle.table_places.specs.Bodies.{bodies_stand}
use Rattle.table_places.proofs.laws.bodies_stand.Goals as goal

pub returns : goal.returns
returns c = record { law = bodies_stand }
