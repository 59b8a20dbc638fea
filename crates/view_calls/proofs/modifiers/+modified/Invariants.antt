use Rattle.std.proofs.Common.{length}
use Rattle.view_calls.proofs.modifiers.+modified.Given as goal

abbrev pub decreases-modified : goal.decreases-modified
decreases-modified g l = length l.parts.now
