use Rattle.std.proofs.Common.{◌≤◌, length}
use Rattle.counter_form.proofs.Tapping.{SoFar}
use Rattle.counter_form.proofs.script.read_script.Given as goal

abbrev pub invariant-loop-rest : goal.invariant-loop-rest
invariant-loop-rest l = record { so_far : SoFar l.fn.bytes l.events.items l.rest; few : length l.events.items ≤ 10000 }

abbrev pub decreases-loop-rest : goal.decreases-loop-rest
decreases-loop-rest l = length l.rest
