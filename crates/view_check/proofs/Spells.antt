-- From what a file spells to a program.
use Rattle.std.proofs.Common.{◌≡◌, ℕ, ◌≤◌, List, length, Result, Ok, Err, IfOk, IfErr, sym, subst}
use Rattle.swift_core.specs.declared.table.Table.{Table}
use Rattle.swift_core.specs.declared.code.CoreMember.{CoreMember}
use Rattle.swift_core.specs.Codes.{Parts}
use Rattle.swift_core.specs.Programs.{IsProgram}
use Rattle.verdict_rules.specs.declared.program.Program.{Program}
use Rattle.verdict_rules.specs.declared.refusal.Refusal.{Refusal}
use Rattle.verdict_rules.specs.declared.refusal.Refusal.TheVariants.{OutOfMemory}
use Rattle.verdict_rules.specs.Verdict.{IsVerdict}
use Rattle.program_laws.specs.Programs.{EveryProgramIsOne}
use Rattle.view_check.specs.Answers.{answer_of}

-- what is spelt is a program
pub spelt_is_program : (bytes : List ℕ) (spelt : Program) → EveryProgramIsOne → length bytes ≤ 1048576 → IsVerdict bytes (Ok spelt) → IsProgram spelt.table spelt.members
spelt_is_program bytes spelt law short spells = law bytes spelt short spells

-- a program of the same declarations and members is spelt
program_is_spelt : (bytes : List ℕ) (spelt : Program) (p : Parts) → IsVerdict bytes (Ok spelt) → p.table ≡ spelt.table → p.members ≡ spelt.members → IsVerdict bytes (answer_of (Ok p))
program_is_spelt bytes spelt p spells t m =
    subst (λ (v : Table). IsVerdict bytes (Ok (record { table = v; members = p.members }))) (sym t)
    (subst (λ (v : List CoreMember). IsVerdict bytes (Ok (record { table = spelt.table; members = v }))) (sym m) spells)

-- and so is what is made of it, unless memory runs out
pub made_is_spelt : (bytes : List ℕ) (spelt : Program) (made : Result Parts Refusal) → IsVerdict bytes (Ok spelt) → IfOk made (λ p. p.table ≡ spelt.table) → IfOk made (λ p. p.members ≡ spelt.members)
    → IfErr made (λ why. why ≡ OutOfMemory) → IsVerdict bytes (answer_of made)
made_is_spelt bytes spelt (Ok p) spells t m e = program_is_spelt bytes spelt p spells t m
made_is_spelt bytes spelt (Err why) spells t m e = subst (λ (v : Refusal). IsVerdict bytes (Err v)) (sym e) tt
