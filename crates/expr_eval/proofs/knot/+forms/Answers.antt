use Rattle.std.proofs.Common.{◌<◌, subst, sym, arith}
use Rattle.sv_value.specs.declared.value.Value.{Value}
use Rattle.core_means.specs.declared.parts.Flow.{Flow}
use Rattle.core_means.specs.Asks.{Answer, IsRight, Leaves, world}
use Rattle.expr_eval.proofs.Levels.{means_opens, does_opens}
use Rattle.expr_eval.proofs.knot.+forms.Goals as goal

pub eval_to-value_form-requires-clause-right : goal.eval_to-value_form-requires-clause-right
eval_to-value_form-requires-clause-right g t c =
    let some : 0 < c.args.room = omega arith in
    subst (λ (a : Answer Value). IsRight a) (means_opens c.args.setting.now.program.now c.args.room c.args.term.now _ _ _ _ _ _ some c.in_ok-pay.ensures.does) c.requires.right

pub eval_to-returns : goal.eval_to-returns
eval_to-returns g t c =
    let s = c.args.setting.now in
    let some : 0 < c.args.room = omega arith in
    let after = world c.value_form.new.run s.is_block s.frame.now (g.C.Cells.map c.value_form.new.cells) in
    record {
      does = subst (λ (a : Answer Value). Leaves c.value_form.result after c.value_form.new.run.reads a)
          (sym (means_opens s.program.now c.args.room c.args.term.now _ _ _ _ _ _ some c.in_ok-pay.ensures.does)) c.value_form.ensures.does;
    }

pub exec_to-exec_form-requires-clause-right : goal.exec_to-exec_form-requires-clause-right
exec_to-exec_form-requires-clause-right g t c =
    let some : 0 < c.args.room = omega arith in
    subst (λ (a : Answer Flow). IsRight a) (does_opens c.args.setting.now.program.now c.args.room c.args.statement.now _ _ _ _ _ _ some c.in_ok-pay.ensures.does) c.requires.right

pub exec_to-returns : goal.exec_to-returns
exec_to-returns g t c =
    let s = c.args.setting.now in
    let some : 0 < c.args.room = omega arith in
    let after = world c.exec_form.new.run s.is_block s.frame.now (g.C.Cells.map c.exec_form.new.cells) in
    record {
      does = subst (λ (a : Answer Flow). Leaves c.exec_form.result after c.exec_form.new.run.reads a)
          (sym (does_opens s.program.now c.args.room c.args.statement.now _ _ _ _ _ _ some c.in_ok-pay.ensures.does)) c.exec_form.ensures.does;
    }
