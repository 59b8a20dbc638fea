use Rattle.view_calls.proofs.Around.{action_built}
use Rattle.view_calls.proofs.blocks.action.Goals as goal

pub returns : goal.returns
returns c = record {
  found = action_built c.args.parameters c.args.statements.now c.args.outer c.args.scope.now _ _ _ _ c.in_ok-body.body _ c.in_ok-body.ensures.found c.in_ok-body.ensures.kept c.as_slice-locals.ensures c.in_ok-block.ensures.place c.in_ok-block.ensures.blocks;
}
