-- What a refusal says of the bytes of APP.
use Rattle.std.specs.Prelude.{◌≡◌, ◌⊎◌, ℕ, List}
use Rattle.counter_form.specs.Faults.{NoApp}
use Rattle.verdict_rules.specs.Verdict.{Accepted, RefusedFor}
use Rattle.verdict_rules.specs.declared.refusal.Refusal.TheVariants as refusal
use Rattle.app_top.specs.declared.end.AppRefusal.{AppRefusal}
use Rattle.app_top.specs.declared.end.AppRefusal.TheVariants as why
use Rattle.app_top.specs.declared.end.End.{End}
use Rattle.app_top.specs.declared.end.End.TheVariants as end

-- what a refusal says of the bytes: they spell no program, and this is why
abbrev pub IsRefused : AppRefusal → List ℕ → Type 0
IsRefused (why.Lex line col) app = RefusedFor app (refusal.Lex line col)
IsRefused (why.Unbalanced line) app = RefusedFor app (refusal.Unbalanced line)
IsRefused (why.TooNested line) app = RefusedFor app (refusal.TooNested line)
IsRefused (why.NotADeclaration line) app = RefusedFor app (refusal.NotADeclaration line)
IsRefused (why.Twice line) app = RefusedFor app (refusal.Twice line)
IsRefused (why.Recursive line) app = RefusedFor app (refusal.Recursive line)
IsRefused (why.NotTyped line) app = RefusedFor app (refusal.NotTyped line)
IsRefused (why.WritesInBody line) app = RefusedFor app (refusal.WritesInBody line)
IsRefused why.NoMain app = RefusedFor app refusal.NoMain
IsRefused why.NotThisApp app = ⊥

-- so it is; or they spell another program than a counter's
abbrev pub SourceIs : AppRefusal → List ℕ → Type 0
SourceIs refusal app = IsRefused refusal app ⊎ ((refusal ≡ why.NotThisApp) × Accepted app)

-- what a refusal to run says of the bytes: they are no counter, and this is why
pub record AppIs (refusal : AppRefusal) (app : List ℕ) : Type 0 where
  pub no_program : NoApp app
  pub source : SourceIs refusal app

-- the end says why the bytes spell no program, unless memory ran out
abbrev pub NoProgramAs : End → List ℕ → Type 0
NoProgramAs (end.AppRefused refusal) app = IsRefused refusal app
NoProgramAs end.OutOfMemory app = Unit {0}
NoProgramAs _ app = ⊥

-- the end says why the bytes are refused, unless memory ran out
abbrev pub RefusedAs : End → List ℕ → Type 0
RefusedAs (end.AppRefused refusal) app = SourceIs refusal app
RefusedAs end.OutOfMemory app = Unit {0}
RefusedAs _ app = ⊥
