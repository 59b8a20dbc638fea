use Rattle.part_laws.specs.Programs.{is_program}
use Rattle.part_laws.proofs.laws.sound_tables_are_programs.Goals as goal

pub returns : goal.returns
returns c = record { law = is_program }
