use Rattle.table_names.specs.Tables.{written_is}
use Rattle.table_names.proofs.laws.written_is_a_table.Goals as goal

pub returns : goal.returns
returns c = record { law = written_is }
