use Rattle.body_nodes.proofs.Counting.{leaves_cut}
use Rattle.body_nodes.proofs.nodes.tally_reader.Goals as goal

-- the count up to 20,001 does what the count does
pub returns : goal.returns
returns g c = record { does = leaves_cut _ _ _ _ _ _ _ _ c.count.ensures.value c.tally.ensures.does }
