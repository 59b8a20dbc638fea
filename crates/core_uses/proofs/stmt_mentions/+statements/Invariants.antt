use Rattle.std.proofs.Common.{◌≡◌, ◌++◌, map, drop}
use Rattle.core_uses.specs.Parts.{arm_mentions, case_mentions}
use Rattle.swift_core.specs.Mentions.{stmt_mentions, joined}
use Rattle.core_uses.proofs.stmt_mentions.+statements.Given as goal

abbrev pub invariant-of_statements-loop-statement : goal.invariant-of_statements-loop-statement
invariant-of_statements-loop-statement l = l.out ++ joined (map stmt_mentions (drop l.statement-index l.statements)) ≡ l.initial.out ++ joined (map stmt_mentions l.statements)

abbrev pub invariant-of_arms-loop-arm : goal.invariant-of_arms-loop-arm
invariant-of_arms-loop-arm l = l.out ++ joined (map arm_mentions (drop l.arm-index l.arms)) ≡ l.initial.out ++ joined (map arm_mentions l.arms)

abbrev pub invariant-of_cases-loop-case : goal.invariant-of_cases-loop-case
invariant-of_cases-loop-case l = l.out ++ joined (map case_mentions (drop l.case-index l.cases)) ≡ l.initial.out ++ joined (map case_mentions l.cases)
