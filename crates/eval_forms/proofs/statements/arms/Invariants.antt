use Rattle.std.proofs.Common.{◌≡◌, length}
use Rattle.core_means.specs.Asks.{under, world}
use Rattle.core_means.specs.Means.{inner, arms}
use Rattle.eval_places.specs.Runs.{look_of}
use Rattle.eval_forms.proofs.statements.arms.Given as goal

-- what is done and what is left are the whole
abbrev pub invariant-loop-rest : goal.invariant-loop-rest
invariant-loop-rest g l =
    let s = l.inner.setting.now in
    let held = g.L.Cells.map in
    let map = g.C.Cells.map in
    let from = arms (inner s.program.now l.room) in
    under (look_of held s) l.run.reads (from l.rest l.last (world l.run s.is_block s.frame.now (map l.cells)))
    ≡ under (look_of held s) l.initial.run.reads (from l.initial.rest l.last (world l.initial.run s.is_block s.frame.now (map l.initial.cells)))

abbrev pub decreases-loop-rest : goal.decreases-loop-rest
decreases-loop-rest g l = length l.rest
