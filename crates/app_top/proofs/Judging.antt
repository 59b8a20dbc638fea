-- From the verdict on the bytes to the end of a run.
use Rattle.std.proofs.Common.{◌≡◌, ℕ, List, Option, Result, Ok, Err, IfSome, IfNone, inl, inr, refl, sym, subst}
use Rattle.std.specs.Result.{result_err}
use Rattle.verdict_rules.specs.Verdict.{Accepted, IsVerdict, IsRefusal}
use Rattle.swift_core.specs.Codes.{Parts}
use Rattle.verdict_rules.specs.declared.refusal.Refusal.{Refusal}
use Rattle.view_check.specs.Answers.{answer_of}
use Rattle.app_top.specs.Refusals.{IsRefused, NoProgramAs, RefusedAs, SourceIs}
use Rattle.app_top.specs.declared.end.AppRefusal.{AppRefusal}
use Rattle.app_top.specs.declared.end.AppRefusal.TheVariants as why
use Rattle.app_top.specs.declared.end.End.{End}
use Rattle.app_top.specs.declared.end.End.TheVariants.{Done, AppRefused, Usage, ScriptRefused, CannotRead, WriteFailed, OutOfMemory, TooLong}

-- bytes that spell no program are refused
pub as_source : (end : End) (app : List ℕ) → NoProgramAs end app → RefusedAs end app
as_source (AppRefused refusal) app is = inl is
as_source OutOfMemory app is = tt
as_source Done app is = absurd is
as_source Usage app is = absurd is
as_source (ScriptRefused refusal) app is = absurd is
as_source (CannotRead file) app is = absurd is
as_source WriteFailed app is = absurd is
as_source (TooLong file taken) app is = absurd is

-- so is another program
pub other_program : (app : List ℕ) → Accepted app → SourceIs why.NotThisApp app
other_program app is = inr (refl, is)

refusal_of : (bytes : List ℕ) (found : Result Parts Refusal) → IsVerdict bytes (answer_of found) → IfSome (result_err found) (λ refusal. IsRefusal bytes refusal)
refusal_of bytes (Ok program) is = tt
refusal_of bytes (Err refusal) is = is

accepted_of : (bytes : List ℕ) (found : Result Parts Refusal) → IsVerdict bytes (answer_of found) → IfNone (result_err found) (Accepted bytes)
accepted_of bytes (Ok program) is = (record { table = program.table; members = program.members }, is)
accepted_of bytes (Err refusal) is = tt

-- what is left of the verdict where the program is dropped
pub why_refused : (bytes : List ℕ) (found : Result Parts Refusal) (why_not : Option Refusal) → IsVerdict bytes (answer_of found) → why_not ≡ result_err found → IfSome why_not (λ refusal. IsRefusal bytes refusal)
why_refused bytes found why_not is e = subst (λ (o : Option Refusal). IfSome o (λ refusal. IsRefusal bytes refusal)) (sym e) (refusal_of bytes found is)

pub why_accepted : (bytes : List ℕ) (found : Result Parts Refusal) (why_not : Option Refusal) → IsVerdict bytes (answer_of found) → why_not ≡ result_err found → IfNone why_not (Accepted bytes)
why_accepted bytes found why_not is e = subst (λ (o : Option Refusal). IfNone o (Accepted bytes)) (sym e) (accepted_of bytes found is)
