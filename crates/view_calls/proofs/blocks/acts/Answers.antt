use Rattle.std.proofs.Common.{ℕ}
use Rattle.swift_core.specs.declared.ids.BlockId.{BlockId}
use Rattle.view_rules.specs.Builds.{FindBuild, action}
use Rattle.view_calls.proofs.Around.{same_built}
use Rattle.view_calls.proofs.blocks.acts.Goals as goal

pub returns : goal.returns
returns c =
    let f : ℕ → FindBuild BlockId = λ k. action 0 c.args.statements.now k in
    record { found = same_built f c.args.scope.now _ _ _ _ _ _ _ c.enter-mark.ensures.entered c.in_ok-block.ensures.found c.enter-mark.ensures.locals c.enter-mark.ensures.floor c.leave.ensures.left }
