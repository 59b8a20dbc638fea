use Rattle.std.proofs.Common.{sym, ap, ◌∙◌}
use Rattle.swift_core.specs.declared.table.Table.{Table}
use Rattle.code_tests.specs.Homes.{view_in, value_view}
use Rattle.code_tests.proofs.Tests.{no_value, value}
use Rattle.code_tests.proofs.public.value_fits.Goals as goal

pub returns-in-Some-value_home : goal.returns-in-Some-value_home
returns-in-Some-value_home g c = record {
  value = value c.args.program.now c.args.id.number c.args.frame.now (g.C.Cells.map c.args.cells.now) c.in-Some.code.now (view_in c.in-Some-value_home.home) c.writes.result c.fits.result c.rules.ensures.program
      (sym c.in-Some.ensures.value) c.writes.ensures.value c.if-writes.false (ap (λ (t : Table). value_view t c.args.id.number) (sym c.table.ensures.value) ∙ sym c.in-Some-value_home.ensures.value) c.fits.ensures.value;
}

pub returns-in-None : goal.returns-in-None
returns-in-None g c = record {
  value = no_value c.args.program.now c.args.id.number c.args.frame.now (g.C.Cells.map c.args.cells.now) c.rules.ensures.program
      (ap (λ (t : Table). value_view t c.args.id.number) (sym c.table.ensures.value) ∙ sym c.in-None.ensures.value);
}
