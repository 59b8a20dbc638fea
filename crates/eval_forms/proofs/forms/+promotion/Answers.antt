use Rattle.std.proofs.Common.{ap, sym, ◌∙◌}
use Rattle.swift_core.specs.declared.term.Core.TheVariants as core
use Rattle.core_means.specs.Asks.{world}
use Rattle.core_means.specs.Means.{inner}
use Rattle.eval_places.specs.Runs.{look_of}
use Rattle.eval_forms.proofs.Promotions.{promotion_stops, promotion_leaves}
use Rattle.eval_forms.proofs.forms.+promotion.Goals as goal

pub returns-in_err-value-in-Promote : goal.returns-in_err-value-in-Promote
returns-in_err-value-in-Promote g t c =
    let s = c.args.inner.now.setting.now in
    let before = world c.args.run.now s.is_block s.frame.now (g.C.Cells.map c.args.cells.now) in
    let after = world c.value_form.new.run s.is_block s.frame.now (g.C.Cells.map c.value_form.new.cells) in
    record {
      does = promotion_stops (inner s.program.now c.args.room) (look_of g.L.Cells.map s) c.args.run.now.reads c.value_form.new.run.reads c.args.term.now c.get.result.now before after
          c.in_err-value-in-Promote.field-0.0 c.from_residual.result (c.in-Promote.is ∙ ap core.Promote (sym c.get.ensures)) c.from_residual.ensures.1 c.in_err-value-in-Promote.ensures.does;
    }

pub returns-in_ok-value-in-Promote : goal.returns-in_ok-value-in-Promote
returns-in_ok-value-in-Promote g t c =
    let s = c.args.inner.now.setting.now in
    let before = world c.args.run.now s.is_block s.frame.now (g.C.Cells.map c.args.cells.now) in
    let after = world c.value_form.new.run s.is_block s.frame.now (g.C.Cells.map c.value_form.new.cells) in
    record {
      does = promotion_leaves (inner s.program.now c.args.room) (look_of g.L.Cells.map s) c.args.run.now.reads c.value_form.new.run.reads c.args.term.now c.get.result.now before after
          c.in_ok-value-in-Promote.value c.promote.result (c.in-Promote.is ∙ ap core.Promote (sym c.get.ensures)) c.in_ok-value-in-Promote.ensures.does c.promote.ensures;
    }
