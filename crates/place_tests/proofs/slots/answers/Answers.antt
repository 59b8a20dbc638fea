use Rattle.std.proofs.Common.{rules, arith}
use Rattle.place_tests.proofs.SlotRuns.{all_not, all_end}
use Rattle.place_tests.proofs.slots.answers.Goals as goal

pub returns-then-not-agreed : goal.returns-then-not-agreed
returns-then-not-agreed g c = record {
  value = all_not c.args.table.now (g.C.Cells.map c.args.cells.now) (g.A.Asks.demands c.args.asks.now) c.loop-at.at c.agreed.result c.agreed.ensures.value (search rules);
}

pub returns : goal.returns
returns g c = record {
  value = all_end c.args.table.now (g.C.Cells.map c.args.cells.now) (g.A.Asks.demands c.args.asks.now) c.loop-at.at (omega arith) c.loop-at.invariant;
}
