use Rattle.std.proofs.Common.{rules, slice_get}
use Rattle.place_tests.specs.Asked.{demand_of}
use Rattle.place_tests.specs.Walks.{nest}
use Rattle.place_tests.proofs.SlotRuns.{asks_here}
use Rattle.place_tests.proofs.slots.reaches.Goals as goal

pub returns-else-not-same : goal.returns-else-not-same
returns-else-not-same g c = record {
  value = asks_here c.args.table.now c.args.path.now c.args.slot (nest c.args.lists c.args.base.now) (slice_get (g.A.Asks.demands c.args.asks.now) c.args.at) (demand_of c.in-Some.asked) c.same.result c.leads.result
      c.requires.known c.in-Some.ensures.value (search rules) c.same.ensures (search rules) c.leads.ensures.value;
}
