use Rattle.std.proofs.Common.{sym, ap, ◌∙◌}
use Rattle.swift_core.specs.declared.table.Table.{Table}
use Rattle.code_tests.specs.Homes.{view_in, property_view}
use Rattle.code_tests.proofs.Tests.{property}
use Rattle.code_tests.proofs.public.property_fits.Goals as goal

pub returns-in-Some : goal.returns-in-Some
returns-in-Some g c = record {
  value = property c.args.program.now c.args.number c.args.code.now (view_in c.in-Some.home) c.args.frame.now (g.C.Cells.map c.args.cells.now) c.fits.result
      (ap (λ (t : Table). property_view t c.args.number) (sym c.table.ensures.value) ∙ sym c.in-Some.ensures.value) c.fits.ensures.value;
}
