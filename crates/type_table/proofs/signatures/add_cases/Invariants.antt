use Rattle.std.proofs.Common.{◌≡◌, take}
use Rattle.type_table.specs.Signatures.{more_signatures, case_drafts}
use Rattle.type_table.proofs.signatures.add_cases.Given as goal

abbrev pub invariant-loop-at : goal.invariant-loop-at
invariant-loop-at l = l.out ≡ more_signatures l.first l.initial.out (case_drafts l.cases (take l.at l.names))
