use Rattle.std.proofs.Common.{◌≡◌, length}
use Rattle.core_means.specs.Asks.{under, world}
use Rattle.eval_places.specs.Runs.{look_of}
use Rattle.body_means.specs.Modified.{modifiers_from}
use Rattle.body_parts.specs.Nests.{of}
use Rattle.body_modifiers.proofs.modified.modifiers_from.Given as goal

-- what is done and what is left are the whole
abbrev pub invariant-loop-rest : goal.invariant-loop-rest
invariant-loop-rest g l =
    let s = l.builder.setting.now in
    let held = g.L.Cells.map in
    let map = g.C.Cells.map in
    under (look_of held s) l.run.reads (modifiers_from (of l.builder) (record { wrapped = l.wrapped; number = l.number; decoration = l.decoration }) l.rest (world l.run s.is_block s.frame.now (map l.cells)))
    ≡ under (look_of held s) l.initial.run.reads (modifiers_from (of l.builder) (record { wrapped = l.initial.wrapped; number = 0; decoration = 0 }) l.initial.rest (world l.initial.run s.is_block s.frame.now (map l.initial.cells)))

abbrev pub decreases-loop-rest : goal.decreases-loop-rest
decreases-loop-rest g l = length l.rest
