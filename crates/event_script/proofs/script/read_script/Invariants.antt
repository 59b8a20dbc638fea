use Rattle.std.proofs.Common.{◌+◌, ◌≤◌, length}
use Rattle.event_script.proofs.Progressing.{Progress}
use Rattle.event_script.proofs.script.read_script.Given as goal

abbrev pub invariant-loop-rest : goal.invariant-loop-rest
invariant-loop-rest l = record {
  progress : Progress l.bytes l.rest l.number l.events.items;
  lines : l.number + length l.rest ≤ 1048577;
}

abbrev pub decreases-loop-rest : goal.decreases-loop-rest
decreases-loop-rest l = length l.rest
