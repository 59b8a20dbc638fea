use Rattle.std.proofs.Common.{◌≡◌, ◌+◌, ◌≤◌, length, false}
use Rattle.parse_expr.specs.Tests.{params_from}
use Rattle.parse_expr.proofs.ahead.params_ahead.Given as goal

abbrev pub invariant-loop-turn : goal.invariant-loop-turn
invariant-loop-turn l = (params_from false l.tokens ≡ params_from false l.rest) × (length l.rest + l._turn ≤ length l.tokens)
