use Rattle.std.proofs.Common.{rules, map}
use Rattle.swift_core.specs.Context.{local_of}
use Rattle.frame_tests.proofs.Runs.{not_plain, fits_where_plain}
use Rattle.frame_tests.proofs.frames.frame_fits.Goals as goal

pub returns-then-not-is_plain : goal.returns-then-not-is_plain
returns-then-not-is_plain g c = record {
  value = not_plain c.args.table.now (g.C.Cells.map c.args.cells.now) c.args.view c.args.frame.now (map local_of c.args.types.now) c.is_plain.result c.is_plain.ensures.value (search rules);
}

pub returns : goal.returns
returns g c = record {
  value = fits_where_plain c.args.table.now (g.C.Cells.map c.args.cells.now) c.args.view c.args.frame.now (map local_of c.args.types.now) c.members_of-members.result.now c.is_plain.result c.answers.result
      c.members_of-members.ensures.value c.is_plain.ensures.value (search rules) c.answers.ensures.value;
}
