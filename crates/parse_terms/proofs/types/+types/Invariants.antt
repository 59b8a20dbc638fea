use Rattle.std.proofs.Common.{◌*◌, ◌+◌}
use Rattle.parse_terms.proofs.types.+types.Given as goal

abbrev pub decreases-plain_type : goal.decreases-plain_type
decreases-plain_type l = 3 * l.depth + 1

abbrev pub decreases-type_of : goal.decreases-type_of
decreases-type_of l = 3 * l.depth + 2

abbrev pub decreases-nested_type : goal.decreases-nested_type
decreases-nested_type l = 3 * l.depth
