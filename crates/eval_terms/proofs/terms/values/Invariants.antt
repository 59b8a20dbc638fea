use Rattle.std.proofs.Common.{◌≡◌, length}
use Rattle.core_means.specs.Asks.{under, world}
use Rattle.core_means.specs.Means.{inner, values_from}
use Rattle.eval_places.specs.Runs.{look_of}
use Rattle.eval_terms.proofs.terms.values.Given as goal

-- what is done and what is left are the whole
abbrev pub invariant-loop-terms : goal.invariant-loop-terms
invariant-loop-terms g l =
    let s = l.inner.setting.now in
    let held = g.L.Cells.map in
    let map = g.C.Cells.map in
    let from = values_from (inner s.program.now l.room) in
    under (look_of held s) l.run.reads (from l.done l.terms (world l.run s.is_block s.frame.now (map l.cells)))
    ≡ under (look_of held s) l.initial.run.reads (from l.initial.done l.initial.terms (world l.initial.run s.is_block s.frame.now (map l.initial.cells)))

abbrev pub decreases-loop-terms : goal.decreases-loop-terms
decreases-loop-terms g l = length l.terms
