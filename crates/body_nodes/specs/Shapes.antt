-- What the code has as structs, as the records of the definitions.
use Rattle.body_means.specs.Customs as customs
use Rattle.body_means.specs.Kept as kept
use Rattle.body_nodes.specs.declared.fills.Filled.{Filled}
use Rattle.body_nodes.specs.declared.keeping.Block.{Block}

abbrev pub block_of : Block → kept.Block
block_of b = record { number = b.number; code = b.code.now }

-- the inputs and the initial values of a custom view
abbrev pub filled_of : Filled → customs.Filled
filled_of x = record { inputs = x.inputs; initials = x.initials }
