use Rattle.std.proofs.Common.{length}
use Rattle.type_modifiers.proofs.arguments.+none_given.Given as goal

abbrev pub decreases-none_given : goal.decreases-none_given
decreases-none_given l = length l.given.now
