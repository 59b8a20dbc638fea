use Rattle.body_means.specs.Building.{views_from}
use Rattle.body_means.specs.Elements.{with_child}
use Rattle.body_means.specs.Items.{item_means}
use Rattle.body_nodes.proofs.Turns.{turn}
use Rattle.body_parts.proofs.Turns.{views_unroll}
use Rattle.body_parts.proofs.builder.views.Goals as goal

pub loop-rest-preserved : goal.loop-rest-preserved
loop-rest-preserved g c =
    let b = c.args.builder.now in
    let item = item_means b.setting.now.program.now b.room c.args.code in
    turn (views_from item) item with_child (views_unroll item) _ _ _ _ _ _ _ _ _ _ _
    c.in-len1-up.len_at_least c.first-item.is c.in_ok-made.ensures.does c.in_ok-push_child.ensures.ok c.loop-rest.invariant
