use Rattle.std.proofs.Common.{◌≡◌, take, min, sum, map}
use Rattle.view_nodes.specs.Counts.{input_weight}
use Rattle.view_nodes.proofs.counts.weigh_inputs.Given as goal

abbrev pub invariant-loop-input : goal.invariant-loop-input
invariant-loop-input l = l.total ≡ min (sum (map input_weight (take l.input-index l.inputs))) 18446744073709551615
