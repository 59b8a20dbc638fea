use Rattle.std.proofs.Common.{arith}
use Rattle.type_base.specs.Context.{seen}
use Rattle.view_rules.specs.Items.{items_level}
use Rattle.type_view.proofs.items.+items_to.Goals as goal

pub returns : goal.returns
returns t c = record {
  found = items_level c.block.result c.args.scope.now c.block.new.scope c.block.new.blocks c.args.room c.args.statements.now (seen c.args.scope.now) c.args.blocks.now (omega arith) c.block.ensures.found;
}
