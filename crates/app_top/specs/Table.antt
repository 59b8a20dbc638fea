-- The table of statuses: when each comes, and what holds there.
use Rattle.std.specs.Prelude.{◌≡◌, ◌≢◌, ℕ, ◌+◌, ◌≤◌, ◌⊎◌, List, [], length, Some, None, IsSomeAnd, IfSome}
use Rattle.sv_io.specs.Counts.{Rose, WhenTold}
use Rattle.sv_io.specs.Shelf.{content}
use Rattle.sv_io.specs.Sink.{SentAll, SentPart}
use Rattle.view_engine.specs.Counter.{Shape}
use Rattle.view_engine.specs.declared.form.Event.{Event}
use Rattle.counter_form.specs.App.{SpellsApp}
use Rattle.counter_form.specs.Script.{SpellsScript}
use Rattle.app_top.specs.Output.{frames}
use Rattle.app_top.specs.Words.{Names}
use Rattle.app_top.specs.Ends.{Run, limit, Finished, RefusedApp, RefusedScript, Unread, Overlong, Quiet, OutputPart, Came, name_of, line_of}
use Rattle.app_top.specs.declared.end.AppRefusal.{AppRefusal}
use Rattle.app_top.specs.declared.end.ScriptRefusal.{ScriptRefusal}
use Rattle.app_top.specs.declared.end.End.{End}
use Rattle.app_top.specs.declared.end.End.TheVariants.{AppRefused, Usage, ScriptRefused, CannotRead, WriteFailed, OutOfMemory, TooLong}
use Rattle.app_top.specs.declared.end.FileOf.{FileOf}

-- diag got exactly this line
abbrev pub Says : Run → List ℕ → Type 0
Says run line = SentAll run.diag.wrote run.diag'.wrote line

-- the words are a form, and this holds of its names
abbrev pub InForm : Run → (Names → Type 0) → Type 0
InForm run P = IsSomeAnd run.form P

-- status 0: both files were read, all frames went out, and the bodies were counted
abbrev pub Done0 : Run → Type 0
Done0 run = Says run [] × InForm run (λ names. (run.shelf'.asked ≡ names.script) × (run.shelf'.offset ≤ limit)
    × WhenTold run.shelf.holds (λ files. Finished files names run.out run.out' run.bodies run.bodies'))

-- status 1: APP is refused
abbrev pub Refused1 : Run → Type 0
Refused1 run = Quiet run.out run.out' × InForm run (λ names. (refusal : AppRefusal) × Says run (line_of (AppRefused refusal)) × RefusedApp refusal names run.shelf run.shelf')

-- status 2: the words are no form
abbrev pub Usage2 : Run → Type 0
Usage2 run = Says run (line_of Usage) × Quiet run.out run.out' × (run.form ≡ None)

-- status 3: SCRIPT is refused
abbrev pub Refused3 : Run → Type 0
Refused3 run = Quiet run.out run.out' × InForm run (λ names. (refusal : ScriptRefusal) × Says run (line_of (ScriptRefused refusal)) × RefusedScript refusal names run.shelf run.shelf')

-- status 6: the file that the line names could not be read
abbrev pub Unread6 : Run → Type 0
Unread6 run = Quiet run.out run.out' × InForm run (λ names. (file : FileOf) × Says run (line_of (CannotRead file)) × Unread file names run.shelf run.shelf')

-- status 9: the file that the line names is too long
abbrev pub Overlong9 : Run → Type 0
Overlong9 run = Quiet run.out run.out' × InForm run (λ names. (file : FileOf) × Says run (line_of (TooLong file run.outcome.taken)) × Overlong file run.outcome.taken names run.shelf run.shelf')

-- status 7, where a write to out failed: the line was tried once, and went out
abbrev pub OutFailed : Run → Type 0
OutFailed run = Rose run.out.faults run.out'.faults × Says run (line_of WriteFailed)

-- status 7, where a write to diag failed: it got a first part of the line that was to go out
abbrev pub DiagFailed : Run → Type 0
DiagFailed run = Rose run.diag.faults run.diag'.faults
    × ((end : End) × Came end run.form run.shelf run.shelf' run.out run.out' run.bodies run.bodies' × SentPart run.diag.wrote run.diag'.wrote (line_of end))

-- nothing stands in the way: both files are told, short and spelled so, and no fault rose
pub record Fair (run : Run) (names : Names) (app script : List ℕ) (shape : Shape) (events : List Event) : Type 0 where
  pub form : run.form ≡ Some names
  pub app_told : content run.shelf.holds names.app ≡ Some app
  pub script_told : content run.shelf.holds names.script ≡ Some script
  pub app_short : length app ≤ limit
  pub script_short : length script ≤ limit
  pub app_good : SpellsApp app shape
  pub script_good : SpellsScript script events
  pub shelf_held : Rose run.shelf.faults run.shelf'.faults → ⊥
  pub out_held : Rose run.out.faults run.out'.faults → ⊥
  pub diag_held : Rose run.diag.faults run.diag'.faults → ⊥

-- what each status says
pub record Table (run : Run) : Type 0 where
  pub done : run.outcome.status ≡ 0 → Done0 run
  pub app_refused : run.outcome.status ≡ 1 → Refused1 run
  pub usage : run.outcome.status ≡ 2 → Usage2 run
  pub script_refused : run.outcome.status ≡ 3 → Refused3 run
  pub no_trap : run.outcome.status ≢ 4
  pub no_unsettled : run.outcome.status ≢ 5
  pub unread : run.outcome.status ≡ 6 → Unread6 run
  pub write_failed : run.outcome.status ≡ 7 → OutFailed run ⊎ DiagFailed run
  pub no_memory : run.outcome.status ≡ 8 → Says run (line_of OutOfMemory)
  pub overlong : run.outcome.status ≡ 9 → Overlong9 run
  -- at 7 and 8 what went out is a first part of the output
  pub part : (run.outcome.status ≡ 7) ⊎ (run.outcome.status ≡ 8) → IfSome run.form (λ names. OutputPart run.shelf names run.out run.out')
  pub taken : run.outcome.status ≢ 9 → run.outcome.taken ≡ 0
  -- the other way round: no form gives 2, and a file of which so much was taken gives 9
  pub no_form : run.form ≡ None → (run.outcome.status ≡ 2) ⊎ DiagFailed run
  pub overlong_back : (names : Names) (file : FileOf) → run.form ≡ Some names → run.shelf'.asked ≡ name_of file names → run.shelf'.offset ≡ limit + 1
      → (run.outcome.status ≡ 9) ⊎ DiagFailed run ⊎ (run.outcome.status ≡ 8)
  -- where nothing stands in the way, all frames go out
  pub complete : (names : Names) (app script : List ℕ) (shape : Shape) (events : List Event) → Fair run names app script shape events
      → ((run.outcome.status ≡ 0) × SentAll run.out.wrote run.out'.wrote (frames shape events)) ⊎ (run.outcome.status ≡ 8)
