use Rattle.std.proofs.Common.{◌≡◌, length}
use Rattle.core_means.specs.Asks.{under, world}
use Rattle.eval_places.specs.Runs.{look_of}
use Rattle.body_means.specs.Customs.{filled_from}
use Rattle.body_means.specs.Items.{building}
use Rattle.body_parts.proofs.construct.all_filled.Given as goal

-- what is done and what is left are the whole
abbrev pub invariant-loop-rest : goal.invariant-loop-rest
invariant-loop-rest g l =
    let s = l.builder.setting.now in
    let held = g.L.Cells.map in
    let map = g.C.Cells.map in
    let from = filled_from (building s.program.now l.builder.room l.builder.code) in
    under (look_of held s) l.run.reads (from l.done l.rest l.given (world l.run s.is_block s.frame.now (map l.cells)))
    ≡ under (look_of held s) l.initial.run.reads (from l.initial.done l.initial.rest l.initial.given (world l.initial.run s.is_block s.frame.now (map l.initial.cells)))

abbrev pub decreases-loop-rest : goal.decreases-loop-rest
decreases-loop-rest g l = length l.rest
