use Rattle.std.proofs.Common.{sym, ap, ◌∙◌}
use Rattle.swift_core.specs.declared.table.Table.{Table}
use Rattle.code_tests.specs.Homes.{view_in, views_view}
use Rattle.code_tests.proofs.Tests.{views}
use Rattle.code_tests.proofs.public.block_fits.Goals as goal

pub returns-in-Some-views_home : goal.returns-in-Some-views_home
returns-in-Some-views_home g c = record {
  value = views c.args.program.now c.args.id.number c.in-Some.member c.args.code.now (view_in c.in-Some-views_home.home) c.args.frame.now (g.C.Cells.map c.args.cells.now) c.fits.result
      (sym c.in-Some.ensures.value) (ap (λ (t : Table). views_view t c.in-Some.member) (sym c.table.ensures.value) ∙ sym c.in-Some-views_home.ensures.value) c.fits.ensures.value;
}
