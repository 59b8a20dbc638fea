use Rattle.code_tests.specs.Homes.{view_in}
use Rattle.code_tests.proofs.Tests.{moved}
use Rattle.code_tests.proofs.public.fits.Goals as goal

pub returns : goal.returns
returns g c = record {
  value = moved c.table.result.now c.args.program.now.table (g.C.Cells.map c.args.cells.now) c.view_in.result (view_in c.args.home) c.args.frame.now c.as_slice.result.now c.args.code.now.types c.frame_fits.result
      c.table.ensures.value c.view_in.ensures.value c.as_slice.ensures c.frame_fits.ensures.value;
}
