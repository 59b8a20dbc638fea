-- The marks are those of what each member does.
use Rattle.program_parts.proofs.Firsts.{marks_known}
use Rattle.program_parts.proofs.writers.marks_of.Goals as goal

pub returns : goal.returns
returns c = record {
  marks = marks_known c.args.members.now c.in_ok-conducts.conducts c.as_slice.result.now c.in_ok-marks.marks.items c.in_ok-conducts.ensures.value c.as_slice.ensures c.in_ok-marks.ensures.marks;
}
