use Rattle.parse_base.proofs.Readings.{reads_spelled, reads_all}
use Rattle.parse_terms.specs.Types.{read_type}
use Rattle.parse_terms.proofs.TypeLaws.{type_exact}
use Rattle.parse_terms.proofs.types.type_name.Goals as goal

pub returns-clause-spelled : goal.returns-clause-spelled
unfolding read_type
returns-clause-spelled c = reads_spelled type_exact c.args.tokens.now.rest.now _ _ c.nested_type.ensures

pub returns-clause-finds_all : goal.returns-clause-finds_all
unfolding read_type
returns-clause-finds_all c = reads_all type_exact c.args.tokens.now.rest.now _ _ c.nested_type.ensures
