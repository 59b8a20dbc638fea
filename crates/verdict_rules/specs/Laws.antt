-- There is one verdict.
use Rattle.std.specs.Prelude.{◌≡◌, ℕ, List, Ok, Err}
use Rattle.verdict_rules.specs.declared.refusal.Refusal.{Refusal}
use Rattle.verdict_rules.specs.Verdict.{Answer, Accepted, Judged, IsVerdict, RefusedFor, Agrees}
use Rattle.verdict_rules.specs.Unique as unique

-- any two verdicts on the same bytes are one, unless memory ran out
abbrev pub OneVerdict : Type 0
OneVerdict = (bytes : List ℕ) (a b : Answer) → IsVerdict bytes a → IsVerdict bytes b → Agrees a b

-- bytes are judged in one way
abbrev pub OneJudgement : Type 0
OneJudgement = (bytes : List ℕ) (a b : Answer) → Judged bytes a → Judged bytes b → a ≡ b

-- bytes that spell a program are refused for nothing
abbrev pub NotBoth : Type 0
NotBoth = (bytes : List ℕ) (why : Refusal) → Accepted bytes → RefusedFor bytes why → ⊥

pub one_verdict : OneVerdict
one_verdict = unique.one_verdict

pub one_judgement : OneJudgement
one_judgement = unique.one_judgement

pub not_both : NotBoth
not_both bytes why (program, spells) refused = let e : ◌≡◌ {A = Answer} (Ok program) (Err why) = unique.one_judgement bytes (Ok program) (Err why) spells refused in cc
