use Rattle.std.proofs.Common.{arith}
use Rattle.type_base.specs.Context.{seen}
use Rattle.view_rules.specs.Items.{items_to, view_level}
use Rattle.type_view.proofs.items.+view.Goals as goal

pub view_to-returns : goal.view_to-returns
view_to-returns g t c = record {
  found = view_level c.view_at.result c.args.scope.now c.view_at.new.scope c.view_at.new.blocks (items_to c.args.inner.now.room) c.args.room c.args.e.now (seen c.args.scope.now) c.args.blocks.now
      (omega arith) c.view_at.ensures.found;
}
