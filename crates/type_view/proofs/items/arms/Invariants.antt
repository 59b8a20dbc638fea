use Rattle.std.proofs.Common.{◌≡◌}
use Rattle.type_base.specs.Context.{seen}
use Rattle.view_rules.specs.Items.{find_arm, items_to}
use Rattle.type_view.specs.Turns.{EveryRest}
use Rattle.type_view.proofs.items.arms.Given as goal

abbrev pub invariant-loop-each : goal.invariant-loop-each
invariant-loop-each g l = record {
  same : l.scope ≡ l.fn.scope;
  rest : EveryRest (find_arm (items_to l.inner.room)) l.arms (seen l.fn.scope) l.fn.blocks l.each-index l.done l.blocks;
}
