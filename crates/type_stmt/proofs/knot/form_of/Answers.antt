use Rattle.std.proofs.Common.{◌≡◌, ap, ◌∙◌, option_copied}
use Rattle.swift_ast.specs.declared.tree.StmtForm.{out-StmtForm}
use Rattle.swift_ast.specs.declared.tree.ArgValue.TheOpen.{StmtForm-F}
use Rattle.swift_ast.specs.declared.tree.ArgValue.TheViews as view
use Rattle.type_base.specs.Context.{seen}
use Rattle.case_rules.specs.Layers.{StmtLayer}
use Rattle.stmt_rules.specs.Search.{find_stmt_to}
use Rattle.type_stmt.proofs.Forms.{switch_form, for_form, while_form}
use Rattle.type_stmt.proofs.knot.form_of.Goals as goal

pub returns-in-Switch : goal.returns-in-Switch
returns-in-Switch g c =
    let layer : StmtLayer = out-StmtForm c.args.stmt.now.form in
    let is : layer ≡ StmtForm-F.Switch c.in-Switch.subject c.in-Switch.cases = ap out-StmtForm c.in-Switch.is ∙ view.outs-Switch _ _ in
    record {
      found = switch_form (find_stmt_to c.args.within.now.room) layer (option_copied c.args.within.now.result) c.args.exits c.in_switch.result (seen c.args.scope.now) c.switch_of.result c.args.scope.now c.switch_of.new.scope
          c.in-Switch.subject c.as_slice-in-Switch.result.now c.in-Switch.cases is c.in_switch.ensures.value c.as_slice-in-Switch.ensures c.switch_of.ensures.found;
    }

pub returns-in-For : goal.returns-in-For
returns-in-For g c =
    let layer : StmtLayer = out-StmtForm c.args.stmt.now.form in
    let is : layer ≡ StmtForm-F.For c.in-For.name c.in-For.expr c.in-For.list = ap out-StmtForm c.in-For.is ∙ view.outs-For _ _ _ in
    record {
      found = for_form (find_stmt_to c.args.within.now.room) layer (option_copied c.args.within.now.result) c.args.exits (seen c.args.scope.now) c.for_of.result c.args.scope.now c.for_of.new.scope
          c.in-For.name c.in-For.expr c.as_slice-in-For.result.now c.in-For.list is c.as_slice-in-For.ensures c.for_of.ensures.found;
    }

pub returns-in-While : goal.returns-in-While
returns-in-While g c =
    let layer : StmtLayer = out-StmtForm c.args.stmt.now.form in
    let is : layer ≡ StmtForm-F.While c.in-While.conditions c.in-While.list = ap out-StmtForm c.in-While.is ∙ view.outs-While _ _ in
    record {
      found = while_form (find_stmt_to c.args.within.now.room) layer (option_copied c.args.within.now.result) c.args.exits (seen c.args.scope.now) c.while_of.result c.args.scope.now c.while_of.new.scope
          c.as_slice-in-While.result.now c.in-While.conditions c.as_slice-in-While-2.result.now c.in-While.list is c.as_slice-in-While.ensures c.as_slice-in-While-2.ensures c.while_of.ensures.found;
    }
