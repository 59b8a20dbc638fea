use Rattle.std.proofs.Common.{◌≡◌}
use Rattle.core_means.specs.Asks.{under, world}
use Rattle.core_means.specs.Means.{inner, turns}
use Rattle.eval_places.specs.Runs.{look_of}
use Rattle.eval_forms.proofs.loops.turns.Given as goal

-- what is done and what is left are the whole
abbrev pub invariant-loop-left : goal.invariant-loop-left
invariant-loop-left g l =
    let s = l.inner.setting.now in
    let held = g.L.Cells.map in
    let map = g.C.Cells.map in
    let from = turns (inner s.program.now l.room) in
    under (look_of held s) l.run.reads (from l.left l.all l.statements (world l.run s.is_block s.frame.now (map l.cells)))
    ≡ under (look_of held s) l.initial.run.reads (from l.initial.left l.all l.statements (world l.initial.run s.is_block s.frame.now (map l.initial.cells)))

abbrev pub decreases-loop-left : goal.decreases-loop-left
decreases-loop-left g l = l.left
