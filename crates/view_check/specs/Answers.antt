-- A program, or a refusal, as an answer to the question what a file spells.
use Rattle.std.specs.Prelude.{Result, Ok, Err}
use Rattle.swift_core.specs.Codes.{Parts}
use Rattle.verdict_rules.specs.declared.refusal.Refusal.{Refusal}
use Rattle.verdict_rules.specs.Verdict.{Answer}

-- what a file spells are the declarations and the code of the program
abbrev pub answer_of : Result Parts Refusal → Answer
answer_of (Ok p) = Ok (record { table = p.table; members = p.members })
answer_of (Err why) = Err why
