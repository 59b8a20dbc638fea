use Rattle.std.proofs.Common.{◌≡◌}
use Rattle.core_means.specs.Asks.{under, world}
use Rattle.eval_places.specs.Runs.{look_of}
use Rattle.eval_forms.specs.Counts.{IsCounted}
use Rattle.body_means.specs.Each.{items_from, offered_numbers}
use Rattle.body_means.specs.Items.{building}
use Rattle.swift_core.specs.declared.item.IdRule.TheVariants.{Itself}
use Rattle.body_parts.proofs.each.numbers_items.Given as goal

-- what is done and what is left are the whole
abbrev pub invariant-loop-left : goal.invariant-loop-left
invariant-loop-left g l =
    let s = l.builder.setting.now in
    let held = g.L.Cells.map in
    let map = g.C.Cells.map in
    let from = items_from (building s.program.now l.builder.room l.builder.code) Itself l.content in
    record {
      whole : under (look_of held s) l.run.reads (from l.ids l.done (offered_numbers l.left.count l.left.first) (world l.run s.is_block s.frame.now (map l.cells)))
          ≡ under (look_of held s) l.initial.run.reads (from l.initial.ids l.initial.done (offered_numbers l.initial.left.count l.initial.left.first) (world l.initial.run s.is_block s.frame.now (map l.initial.cells)));
      fits : IsCounted l.left;
    }

abbrev pub decreases-loop-left : goal.decreases-loop-left
decreases-loop-left g l = l.left.count
