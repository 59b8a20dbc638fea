use Rattle.std.proofs.Common.{◌≡◌, ◌++◌, take, map}
use Rattle.type_twice.specs.Twice.{named_case}
use Rattle.type_twice.proofs.names.add_cases.Given as goal

abbrev pub invariant-loop-case : goal.invariant-loop-case
invariant-loop-case l = l.out ≡ l.initial.out ++ map named_case (take l.case-index l.cases)
