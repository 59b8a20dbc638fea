use Rattle.std.proofs.Common.{length}
use Rattle.view_nodes.proofs.counts.+weigh_numbers.Given as goal

abbrev pub decreases-weigh_numbers : goal.decreases-weigh_numbers
decreases-weigh_numbers l = length l.numbers.now
