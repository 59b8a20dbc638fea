use Rattle.std.proofs.Common.{rules}
use Rattle.core_names.proofs.Parts.{names_made}
use Rattle.core_names.proofs.spelled.names_of.Goals as goal

pub returns : goal.returns
returns c = record { value = names_made c.args.table.now c.as_slice-declarations.result.now _ c.as_slice-declarations.ensures (search rules) (search rules) (search rules) (search rules) (search rules) }
