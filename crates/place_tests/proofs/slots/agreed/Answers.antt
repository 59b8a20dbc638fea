use Rattle.place_tests.specs.Asked.{demand_of}
use Rattle.place_tests.proofs.SlotRuns.{agreed_declared}
use Rattle.place_tests.proofs.slots.agreed.Goals as goal

pub returns-else-agrees : goal.returns-else-agrees
returns-else-agrees g c = record {
  value = agreed_declared c.args.table.now (g.C.Cells.map c.args.cells.now) (g.A.Asks.demands c.args.asks.now) c.args.at c.leading-lists.result (demand_of c.in-Some.asked) c.agrees.result c.some_declared.result
      c.in-Some.ensures.value c.leading-lists.ensures.value c.agrees.ensures.value c.if-agrees.false c.some_declared.ensures.value;
}
