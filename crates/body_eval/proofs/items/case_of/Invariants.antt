use Rattle.std.proofs.Common.{◌≡◌, ◌+◌, length}
use Rattle.core_means.specs.Asks.{under, world}
use Rattle.eval_places.specs.Runs.{look_of}
use Rattle.body_means.specs.Items.{case_of}
use Rattle.body_parts.specs.Nests.{of}
use Rattle.body_eval.proofs.items.case_of.Given as goal

-- what is left is the whole
abbrev pub invariant-loop-rest : goal.invariant-loop-rest
invariant-loop-rest g l =
    let s = l.builder.setting.now in
    let held = g.L.Cells.map in
    let map = g.C.Cells.map in
    record {
      counted : l.number + length l.rest ≡ l.count;
      whole : under (look_of held s) l.run.reads (case_of (of l.builder) l.number l.value l.rest (world l.run s.is_block s.frame.now (map l.cells)))
          ≡ under (look_of held s) l.initial.run.reads (case_of (of l.builder) 0 l.value l.initial.rest (world l.initial.run s.is_block s.frame.now (map l.initial.cells)));
    }

abbrev pub decreases-loop-rest : goal.decreases-loop-rest
decreases-loop-rest g l = length l.rest
