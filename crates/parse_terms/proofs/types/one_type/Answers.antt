use Rattle.parse_base.proofs.Readings.{spells_one}
use Rattle.parse_terms.proofs.TypeLaws.{type_exact}
use Rattle.parse_terms.proofs.types.one_type.Goals as goal

pub returns : goal.returns
returns c = spells_one type_exact
