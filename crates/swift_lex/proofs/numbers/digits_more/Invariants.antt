use Rattle.std.proofs.Common.{◌≡◌, ◌≤◌, drop}
use Rattle.swift_lex.specs.Runs.{digits_more}
use Rattle.swift_lex.proofs.NumberRuns.{settled}
use Rattle.swift_lex.proofs.numbers.digits_more.Given as goal

abbrev pub invariant-loop-b : goal.invariant-loop-b
invariant-loop-b l = record {
  counted : l.at ≡ l.b-index;
  within : l.taken ≤ l.at;
  rest : digits_more l.base l.bytes ≡ settled l.taken l.at (digits_more l.base (drop l.b-index l.bytes));
}
