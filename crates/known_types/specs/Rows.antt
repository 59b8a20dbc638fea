-- What the code holds of a property or a key without a written type.
use Rattle.known_rules.specs.Known.{Open}
use Rattle.known_types.specs.declared.open.Open.{Open as OpenRow}

abbrev pub open_of : OpenRow → Open
open_of o = record { declaration = o.declaration; at = o.at; value = o.value.now }
