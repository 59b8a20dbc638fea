use Rattle.std.proofs.Common.{rules, ◌≡◌}
use Rattle.type_base.specs.Scopes.{pushed}
use Rattle.view_calls.proofs.Around.{items_built}
use Rattle.view_calls.proofs.blocks.acts_on_two.Goals as goal

pub returns : goal.returns
returns c =
    let one : c.push_local.new.scope ≡ pushed c.enter-mark.new.scope c.args.first = search rules in
    record { found = items_built c.args.statements.now c.args.scope.now _ _ _ _ _ c.args.first c.args.second _ _ _ _ c.enter-mark.ensures.entered one c.in_ok-declare.ensures.declared c.in_ok-block.ensures.found c.enter-mark.ensures.locals c.enter-mark.ensures.floor c.leave.ensures.left }
