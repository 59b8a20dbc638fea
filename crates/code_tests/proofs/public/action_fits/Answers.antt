use Rattle.std.proofs.Common.{sym}
use Rattle.code_tests.proofs.Tests.{no_action, action}
use Rattle.code_tests.proofs.public.action_fits.Goals as goal

pub returns-then-not-is_statements : goal.returns-then-not-is_statements
returns-then-not-is_statements g c = record {
  value = no_action c.args.program.now c.args.id.number c.args.frame.now (g.C.Cells.map c.args.cells.now) c.in-Some.code.now c.rules.ensures.program (sym c.in-Some.ensures.value) (sym c.if-not-is_statements.ensures.value);
}

pub returns : goal.returns
returns g c = record {
  value = action c.args.program.now c.args.id.number c.args.frame.now (g.C.Cells.map c.args.cells.now) c.in-Some.code.now c.block_fits.result c.rules.ensures.program c.requires.past (sym c.in-Some.ensures.value)
      (sym c.if-not-is_statements.ensures.value) c.block_fits.ensures.value;
}
