use Rattle.body_nodes.proofs.Counting.{tally_stops, tally_goes}
use Rattle.body_nodes.proofs.nodes.tally.Goals as goal

pub returns-then-nodes-gt20000 : goal.returns-then-nodes-gt20000
returns-then-nodes-gt20000 g c = record { does = tally_stops _ _ _ _ _ c.saturating_add-nodes.ensures c.if-nodes-gt20000.true }

pub returns : goal.returns
returns g c = record { does = tally_goes _ _ _ _ _ c.saturating_add-nodes.ensures c.if-nodes-gt20000.false }
