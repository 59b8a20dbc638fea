-- The ways in which a run ends: what holds there, its line, its status.
use Rattle.std.specs.Prelude.{◌≡◌, ℕ, ◌+◌, ◌<◌, ◌≤◌, ◌⊎◌, true, List, [], ◌++◌, length, Option, Some, None, IsSomeAnd, codes, decimal}
use Rattle.sv_io.specs.Counts.{Rose, WhenTold}
use Rattle.sv_io.specs.Shelf.{ShelfState, content}
use Rattle.sv_io.specs.Sink.{SinkState, SentAll, SentPart}
use Rattle.view_engine.specs.Counter.{Shape}
use Rattle.view_engine.specs.declared.form.Event.{Event}
use Rattle.counter_form.specs.App.{SpellsApp}
use Rattle.counter_form.specs.Faults.{NoScript}
use Rattle.app_top.specs.Output.{Input, frames, bodies_run}
use Rattle.app_top.specs.Refusals.{AppIs}
use Rattle.app_top.specs.Words.{Names}
use Rattle.app_top.specs.declared.end.AppRefusal.{AppRefusal}
use Rattle.app_top.specs.declared.end.AppRefusal.TheVariants as why
use Rattle.app_top.specs.declared.end.ScriptRefusal.{ScriptRefusal}
use Rattle.app_top.specs.declared.end.ScriptRefusal.TheVariants.{NotThisScript}
use Rattle.app_top.specs.declared.end.End.{End}
use Rattle.app_top.specs.declared.end.End.TheVariants.{Done, AppRefused, Usage, ScriptRefused, CannotRead, WriteFailed, OutOfMemory, TooLong}
use Rattle.app_top.specs.declared.end.FileOf.{FileOf}
use Rattle.app_top.specs.declared.end.FileOf.TheVariants.{App, Script}
use Rattle.app_top.specs.declared.end.Outcome.{Outcome}

-- the bytes that a file may have
abbrev pub limit : ℕ
limit = 1048576

abbrev pub status_of : End → ℕ
status_of Done = 0
status_of (AppRefused refusal) = 1
status_of Usage = 2
status_of (ScriptRefused refusal) = 3
status_of (CannotRead file) = 6
status_of WriteFailed = 7
status_of OutOfMemory = 8
status_of (TooLong file taken) = 9

-- the bytes that were taken of a file that is too long
abbrev pub taken_of : End → ℕ
taken_of (TooLong file taken) = taken
taken_of _ = 0

-- the line on diag
unfoldable pub line_of : End → List ℕ
line_of Done = []
line_of (AppRefused (why.Lex line col)) = codes "swiftview: APP: lex fault at " ++ (decimal line ++ (codes ":" ++ (decimal col ++ codes "\n")))
line_of (AppRefused (why.Unbalanced line)) = codes "swiftview: APP: unbalanced at line " ++ decimal line ++ codes "\n"
line_of (AppRefused (why.TooNested line)) = codes "swiftview: APP: too nested at line " ++ decimal line ++ codes "\n"
line_of (AppRefused (why.NotADeclaration line)) = codes "swiftview: APP: not a declaration at line " ++ decimal line ++ codes "\n"
line_of (AppRefused (why.Twice line)) = codes "swiftview: APP: declared twice at line " ++ decimal line ++ codes "\n"
line_of (AppRefused (why.Recursive line)) = codes "swiftview: APP: recursive type at line " ++ decimal line ++ codes "\n"
line_of (AppRefused (why.NotTyped line)) = codes "swiftview: APP: not typed at line " ++ decimal line ++ codes "\n"
line_of (AppRefused (why.WritesInBody line)) = codes "swiftview: APP: writes in body at line " ++ decimal line ++ codes "\n"
line_of (AppRefused why.NoMain) = codes "swiftview: APP: no main\n"
line_of (AppRefused why.NotThisApp) = codes "swiftview: APP: not in this form\n"
line_of Usage = codes "usage: swiftview [--size WxH] [--trace] [--state] [--layout] [--prefs] APP SCRIPT\n"
line_of (ScriptRefused NotThisScript) = codes "swiftview: SCRIPT: not in this form\n"
line_of (CannotRead App) = codes "swiftview: cannot read APP\n"
line_of (CannotRead Script) = codes "swiftview: cannot read SCRIPT\n"
line_of WriteFailed = codes "swiftview: write failed\n"
line_of OutOfMemory = codes "swiftview: out of memory\n"
line_of (TooLong App taken) = codes "swiftview: APP: too long\n"
line_of (TooLong Script taken) = codes "swiftview: SCRIPT: too long\n"

-- the line is the same for all files
abbrev pub IsFixed : End → Type 0
IsFixed (AppRefused refusal) = ⊥
IsFixed _ = Unit {0}

abbrev pub name_of : FileOf → Names → List ℕ
name_of App names = names.app
name_of Script names = names.script

-- the file of APP is there, and it is a program
abbrev pub AppAccepted : (List ℕ → Option (List ℕ)) → Names → Type 0
AppAccepted files names = IsSomeAnd (files names.app) (λ app. (shape : Shape) × SpellsApp app shape)

-- APP is judged before SCRIPT is read
abbrev pub Before : FileOf → (List ℕ → Option (List ℕ)) → Names → Type 0
Before App files names = Unit {0}
Before Script files names = AppAccepted files names

-- what a refusal says of the bytes of SCRIPT
abbrev pub ScriptIs : ScriptRefusal → List ℕ → Type 0
ScriptIs NotThisScript script = NoScript script

-- APP was read whole and refused, and SCRIPT was not asked for
pub record RefusedApp (refusal : AppRefusal) (names : Names) (before after : ShelfState) : Type 0 where
  pub asked : after.asked ≡ names.app
  pub short : after.offset ≤ limit
  pub app : WhenTold before.holds (λ files. IsSomeAnd (files names.app) (AppIs refusal))

-- SCRIPT was read whole and refused
pub record RefusedScript (refusal : ScriptRefusal) (names : Names) (before after : ShelfState) : Type 0 where
  pub asked : after.asked ≡ names.script
  pub short : after.offset ≤ limit
  pub earlier : WhenTold before.holds (λ files. AppAccepted files names)
  pub script : WhenTold before.holds (λ files. IsSomeAnd (files names.script) (ScriptIs refusal))

-- a file could not be read
pub record Unread (file : FileOf) (names : Names) (before after : ShelfState) : Type 0 where
  pub asked : after.asked ≡ name_of file names
  pub failed : after.failed ≡ true
  pub rose : Rose before.faults after.faults
  pub short : after.offset ≤ limit
  pub earlier : WhenTold before.holds (λ files. Before file files names)

-- a file has more bytes than it may
pub record Overlong (file : FileOf) (taken : ℕ) (names : Names) (before after : ShelfState) : Type 0 where
  pub asked : after.asked ≡ name_of file names
  pub offset : after.offset ≡ limit + 1
  pub taken_is : taken ≡ limit + 1
  pub longer : WhenTold (content before.holds (name_of file names)) (λ bytes. limit < length bytes)
  pub earlier : WhenTold before.holds (λ files. Before file files names)

-- what holds where the read of one file came to this end; with OutOfMemory the shelf may not have been asked
abbrev pub ReadEnd : End → FileOf → List ℕ → ShelfState → ShelfState → Type 0
ReadEnd (CannotRead which) file name shelf shelf' =
    (which ≡ file) × (shelf'.asked ≡ name) × (shelf'.failed ≡ true) × Rose shelf.faults shelf'.faults × (shelf'.offset ≤ limit)
ReadEnd (TooLong which taken) file name shelf shelf' =
    (which ≡ file) × (shelf'.asked ≡ name) × (taken ≡ limit + 1) × (shelf'.offset ≡ limit + 1) × WhenTold (content shelf.holds name) (λ bytes. limit < length bytes)
ReadEnd OutOfMemory file name shelf shelf' = Unit {0}
ReadEnd _ file name shelf shelf' = ⊥

-- what holds where the judging of APP, and of SCRIPT, came to this end
abbrev pub AppJudged : End → List ℕ → Type 0
AppJudged (AppRefused refusal) app = AppIs refusal app
AppJudged OutOfMemory app = Unit {0}
AppJudged _ app = ⊥

abbrev pub ScriptJudged : End → List ℕ → Type 0
ScriptJudged (ScriptRefused refusal) script = ScriptIs refusal script
ScriptJudged OutOfMemory script = Unit {0}
ScriptJudged _ script = ⊥

-- what holds where the reading of both came to this end
abbrev pub InputEnd : End → Names → ShelfState → ShelfState → Type 0
InputEnd (AppRefused refusal) names shelf shelf' = RefusedApp refusal names shelf shelf'
InputEnd (ScriptRefused refusal) names shelf shelf' = RefusedScript refusal names shelf shelf'
InputEnd (CannotRead file) names shelf shelf' = Unread file names shelf shelf'
InputEnd (TooLong file taken) names shelf shelf' = Overlong file taken names shelf shelf'
InputEnd OutOfMemory names shelf shelf' = Unit {0}
InputEnd _ names shelf shelf' = ⊥

-- nothing went out
abbrev pub Quiet : SinkState → SinkState → Type 0
Quiet before after = after.wrote ≡ before.wrote

-- all frames of the two files went out, and as many bodies ran as the definition says
pub record Finished (files : List ℕ → Option (List ℕ)) (names : Names) (before after : SinkState) (bodies grown : ℕ) : Type 0 where
  pub shape : Shape
  pub events : List Event
  pub input : Input files names shape events
  pub sent : SentAll before.wrote after.wrote (frames shape events)
  pub ran : grown ≡ bodies + bodies_run shape events

-- a first part of the frames of the two files went out
pub record Begun (files : List ℕ → Option (List ℕ)) (names : Names) (before after : SinkState) : Type 0 where
  pub shape : Shape
  pub events : List Event
  pub input : Input files names shape events
  pub part : SentPart before.wrote after.wrote (frames shape events)

-- what went out is a first part of the output, where the shelf tells its files: nothing where there is none
abbrev pub OutputPart : ShelfState → Names → SinkState → SinkState → Type 0
OutputPart shelf names before after = WhenTold shelf.holds (λ files. Quiet before after ⊎ Begun files names before after)

-- what holds where a run on these files came to this end
abbrev pub CameTo : End → Names → ShelfState → ShelfState → SinkState → SinkState → ℕ → ℕ → Type 0
CameTo Done names shelf shelf' out out' bodies bodies' =
    (shelf'.asked ≡ names.script) × (shelf'.offset ≤ limit) × WhenTold shelf.holds (λ files. Finished files names out out' bodies bodies')
CameTo WriteFailed names shelf shelf' out out' bodies bodies' =
    (shelf'.offset ≤ limit) × Rose out.faults out'.faults × OutputPart shelf names out out'
CameTo OutOfMemory names shelf shelf' out out' bodies bodies' = OutputPart shelf names out out'
CameTo end names shelf shelf' out out' bodies bodies' = Quiet out out' × InputEnd end names shelf shelf'

-- the same for all words
abbrev pub Came : End → Option Names → ShelfState → ShelfState → SinkState → SinkState → ℕ → ℕ → Type 0
Came end (Some names) shelf shelf' out out' bodies bodies' = CameTo end names shelf shelf' out out' bodies bodies'
Came end None shelf shelf' out out' bodies bodies' = (end ≡ Usage) × Quiet out out'

-- the line went out, or a fault of diag stopped it
abbrev pub Told : End → SinkState → SinkState → Outcome → Type 0
Told end before after outcome =
    ((outcome.status ≡ status_of end) × (outcome.taken ≡ taken_of end) × SentAll before.wrote after.wrote (line_of end))
    ⊎ ((outcome.status ≡ 7) × (outcome.taken ≡ 0) × Rose before.faults after.faults × SentPart before.wrote after.wrote (line_of end))

-- the line of the end went out; where a refusal of APP found no memory for its line, the run ended for want of it
abbrev pub Said : End → SinkState → SinkState → Outcome → Type 0
Said (AppRefused refusal) before after outcome = Told (AppRefused refusal) before after outcome ⊎ Told OutOfMemory before after outcome
Said end before after outcome = Told end before after outcome

-- a run: what the words ask for, and the states before and after
pub record Run : Type 0 where
  pub form : Option Names
  pub shelf : ShelfState
  pub shelf' : ShelfState
  pub out : SinkState
  pub out' : SinkState
  pub diag : SinkState
  pub diag' : SinkState
  pub bodies : ℕ
  pub bodies' : ℕ
  pub outcome : Outcome

-- the way in which a run ended
pub record Ended (run : Run) : Type 0 where
  pub end : End
  pub came : Came end run.form run.shelf run.shelf' run.out run.out' run.bodies run.bodies'
  pub told : Told end run.diag run.diag' run.outcome
