use Rattle.std.proofs.Common.{rules, ◌≡◌, ℕ}
use Rattle.type_base.specs.Scopes.{pushed}
use Rattle.swift_core.specs.declared.ids.BlockId.{BlockId}
use Rattle.view_rules.specs.Builds.{FindBuild, reader_block}
use Rattle.view_rules.specs.Items.{items_to}
use Rattle.view_calls.proofs.Around.{item_built}
use Rattle.view_calls.proofs.blocks.reader.Goals as goal

pub returns : goal.returns
returns g c =
    let f : ℕ → FindBuild BlockId = λ k. reader_block (items_to c.args.inner.now.room) c.args.statements.now k in
    let there : c.push_local.new.scope ≡ pushed c.enter-mark.new.scope c.args.parameter = search rules in
    record { found = item_built f c.args.scope.now _ _ _ _ c.args.parameter _ _ _ _ c.enter-mark.ensures.entered there c.in_ok-block.ensures.found c.enter-mark.ensures.locals c.enter-mark.ensures.floor c.leave.ensures.left }
