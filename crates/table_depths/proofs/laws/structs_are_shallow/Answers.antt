use Rattle.table_depths.specs.Shallow.{structs_shallow}
use Rattle.table_depths.proofs.laws.structs_are_shallow.Goals as goal

pub returns : goal.returns
returns c = record { law = structs_shallow }
