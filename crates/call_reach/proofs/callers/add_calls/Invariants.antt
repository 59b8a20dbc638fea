use Rattle.std.proofs.Common.{◌≡◌, drop}
use Rattle.call_reach.specs.Callers.{with_calls}
use Rattle.call_reach.proofs.callers.add_calls.Given as goal

abbrev pub invariant-loop-call : goal.invariant-loop-call
invariant-loop-call l = with_calls l.caller l.initial.callers l.calls ≡ with_calls l.caller l.callers (drop l.call-index l.calls)
