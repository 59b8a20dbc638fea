use Rattle.std.proofs.Common.{◌≡◌}
use Rattle.type_base.specs.Context.{seen}
use Rattle.view_rules.specs.Items.{case_items, items_to}
use Rattle.type_view.specs.Turns.{EveryRest}
use Rattle.type_view.proofs.items.bodies.Given as goal

abbrev pub invariant-loop-case : goal.invariant-loop-case
invariant-loop-case g l = record {
  same : l.scope ≡ l.fn.scope;
  rest : EveryRest (case_items (items_to l.inner.room)) l.cases (seen l.fn.scope) l.fn.blocks l.case-index l.done l.blocks;
}
