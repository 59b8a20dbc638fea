-- What holds where a text is not read.
use Rattle.std.specs.Prelude.{List, ℕ}
use Rattle.view_engine.specs.Counter.{Shape}
use Rattle.view_engine.specs.declared.form.Event.{Event}
use Rattle.counter_form.specs.App.{SpellsApp}
use Rattle.counter_form.specs.Script.{SpellsScript}
use Rattle.counter_form.specs.declared.app.FormFault.{FormFault}
use Rattle.counter_form.specs.declared.app.FormFault.TheVariants.{OutOfMemory, NotInThisForm}

-- these bytes spell no program
abbrev pub NoApp : List ℕ → Type 0
NoApp bytes = (shape : Shape) → SpellsApp bytes shape → ⊥

-- these bytes spell no script
abbrev pub NoScript : List ℕ → Type 0
NoScript bytes = (events : List Event) → SpellsScript bytes events → ⊥

-- why the bytes gave no program
abbrev pub AppFault : FormFault → List ℕ → Type 0
AppFault OutOfMemory bytes = Unit {0}
AppFault NotInThisForm bytes = NoApp bytes

-- why the bytes gave no script
abbrev pub ScriptFault : FormFault → List ℕ → Type 0
ScriptFault OutOfMemory bytes = Unit {0}
ScriptFault NotInThisForm bytes = NoScript bytes
