use Rattle.std.proofs.Common.{◌≡◌, length}
use Rattle.body_means.specs.Customs.{parted_from}
use Rattle.body_nodes.specs.Shapes.{filled_of}
use Rattle.body_nodes.proofs.fills.parted.Given as goal

-- what is parted and what is left are the whole
abbrev pub invariant-loop-kinds : goal.invariant-loop-kinds
invariant-loop-kinds l = parted_from (filled_of l.filled) l.kinds l.rest ≡ parted_from (filled_of l.initial.filled) l.initial.kinds l.initial.rest

abbrev pub decreases-loop-kinds : goal.decreases-loop-kinds
decreases-loop-kinds l = length l.kinds
