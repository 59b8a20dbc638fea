-- What the law of programs says of what is spelt.
use Rattle.view_check.proofs.Spells.{spelt_is_program, made_is_spelt}
use Rattle.view_check.proofs.program_or_refusal.Goals as goal

pub program_of-requires : goal.program_of-requires
program_of-requires c = record {
  program = spelt_is_program c.args.bytes.now c.in-Ok.spelt c.every_program_is_one.ensures.law c.requires.limit c.in-Ok.ensures.verdict;
}

pub returns-in-Ok : goal.returns-in-Ok
returns-in-Ok c = record {
  verdict = made_is_spelt c.args.bytes.now c.in-Ok.spelt c.program_of.result c.in-Ok.ensures.verdict c.program_of.ensures.table c.program_of.ensures.members c.program_of.ensures.memory;
}
