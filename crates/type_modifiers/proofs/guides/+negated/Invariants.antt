use Rattle.std.proofs.Common.{length}
use Rattle.type_modifiers.proofs.guides.+negated.Given as goal

abbrev pub decreases-negated : goal.decreases-negated
decreases-negated l = length l.signs.now
