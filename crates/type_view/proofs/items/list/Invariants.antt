use Rattle.type_base.specs.Context.{seen}
use Rattle.type_base.specs.Scopes.{Keeps}
use Rattle.view_rules.specs.Items.{items_to}
use Rattle.type_view.specs.Turns.{ListRest}
use Rattle.type_view.proofs.items.list.Given as goal

abbrev pub invariant-loop-statement : goal.invariant-loop-statement
invariant-loop-statement g l = record {
  kept : Keeps l.fn.scope l.scope;
  rest : ListRest (items_to l.inner.room) l.statements (seen l.fn.scope) l.fn.blocks (seen l.scope) l.statement-index l.done l.blocks;
}
