-- A run that only checks APP: what is asked for, how it ends, and the table of its statuses.
use Rattle.std.specs.Prelude.{◌≡◌, ◌≢◌, ℕ, ◌+◌, ◌<◌, ◌≤◌, ◌⊎◌, ◌&&◌, not, true, List, [], ◌∷◌, length, Option, Some, None, IsSomeAnd, if◌then◌else◌, codes}
use Rattle.std.specs.Str.{bytes_eq}
use Rattle.sv_io.specs.Counts.{Rose, WhenTold}
use Rattle.sv_io.specs.Shelf.{ShelfState, content}
use Rattle.sv_io.specs.Sink.{SinkState, SentAll, SentPart}
use Rattle.verdict_rules.specs.Verdict.{Accepted}
use Rattle.app_top.specs.Words.{is_option}
use Rattle.app_top.specs.Refusals.{IsRefused}
use Rattle.app_top.specs.Ends.{Run, limit, status_of, taken_of, line_of, Quiet, Told}
use Rattle.app_top.specs.Table.{Says, Table}
use Rattle.app_top.specs.declared.end.AppRefusal.{AppRefusal}
use Rattle.app_top.specs.declared.end.End.{End}
use Rattle.app_top.specs.declared.end.End.TheVariants.{Done, AppRefused, Usage, ScriptRefused, CannotRead, WriteFailed, OutOfMemory, TooLong}
use Rattle.app_top.specs.declared.end.FileOf.{FileOf}
use Rattle.app_top.specs.declared.end.FileOf.TheVariants.{App, Script}

-- the file that the words ask to check: the program's name, `--check` and APP
abbrev pub checks_of : List (List ℕ) → Option (List ℕ)
checks_of (program ∷ flag ∷ app ∷ []) = if bytes_eq flag (codes "--check") && not (is_option app) then Some app else None
checks_of _ = None

-- what goes out for a file that is accepted
unfoldable pub accepted_line : List ℕ
accepted_line = codes "accepted\n"

-- the file was read whole and refused
pub record RefusedCheck (refusal : AppRefusal) (app : List ℕ) (before after : ShelfState) : Type 0 where
  pub asked : after.asked ≡ app
  pub short : after.offset ≤ limit
  pub why : WhenTold before.holds (λ files. IsSomeAnd (files app) (IsRefused refusal))

-- the file was read whole and accepted
pub record AcceptedCheck (app : List ℕ) (before after : ShelfState) : Type 0 where
  pub asked : after.asked ≡ app
  pub short : after.offset ≤ limit
  pub why : WhenTold before.holds (λ files. IsSomeAnd (files app) Accepted)

-- the file could not be read
pub record UnreadCheck (app : List ℕ) (before after : ShelfState) : Type 0 where
  pub asked : after.asked ≡ app
  pub failed : after.failed ≡ true
  pub rose : Rose before.faults after.faults
  pub short : after.offset ≤ limit

-- the file has more bytes than it may
pub record OverlongCheck (taken : ℕ) (app : List ℕ) (before after : ShelfState) : Type 0 where
  pub asked : after.asked ≡ app
  pub offset : after.offset ≡ limit + 1
  pub taken_is : taken ≡ limit + 1
  pub longer : WhenTold (content before.holds app) (λ bytes. limit < length bytes)

-- what went out is nothing, or a first part of what goes out for a file that is accepted
abbrev pub CheckPart : ShelfState → List ℕ → SinkState → SinkState → Type 0
CheckPart shelf app before after = WhenTold shelf.holds (λ files. Quiet before after ⊎ (IsSomeAnd (files app) Accepted × SentPart before.wrote after.wrote accepted_line))

-- what holds where a check of this file came to this end
abbrev pub CheckedTo : End → List ℕ → ShelfState → ShelfState → SinkState → SinkState → Type 0
CheckedTo Done app shelf shelf' out out' = SentAll out.wrote out'.wrote accepted_line × AcceptedCheck app shelf shelf'
CheckedTo (AppRefused refusal) app shelf shelf' out out' = Quiet out out' × RefusedCheck refusal app shelf shelf'
CheckedTo (CannotRead App) app shelf shelf' out out' = Quiet out out' × UnreadCheck app shelf shelf'
CheckedTo (CannotRead Script) app shelf shelf' out out' = ⊥
CheckedTo (TooLong App taken) app shelf shelf' out out' = Quiet out out' × OverlongCheck taken app shelf shelf'
CheckedTo (TooLong Script taken) app shelf shelf' out out' = ⊥
CheckedTo WriteFailed app shelf shelf' out out' = (shelf'.offset ≤ limit) × Rose out.faults out'.faults × CheckPart shelf app out out'
CheckedTo OutOfMemory app shelf shelf' out out' = CheckPart shelf app out out'
CheckedTo Usage app shelf shelf' out out' = ⊥
CheckedTo (ScriptRefused refusal) app shelf shelf' out out' = ⊥

-- how what goes out for a file that is accepted went out
abbrev pub Sent : End → SinkState → SinkState → Type 0
Sent Done before after = SentAll before.wrote after.wrote accepted_line
Sent WriteFailed before after = Rose before.faults after.faults × SentPart before.wrote after.wrote accepted_line
Sent _ before after = ⊥

-- the way in which a check ended
pub record CheckEnded (app : List ℕ) (run : Run) : Type 0 where
  pub end : End
  pub came : CheckedTo end app run.shelf run.shelf' run.out run.out'
  pub told : Told end run.diag run.diag' run.outcome
  pub bodies : run.bodies' ≡ run.bodies

-- status 7, where a write to out failed: the line was tried once, and went out
abbrev pub OutFailedAt : Run → Type 0
OutFailedAt run = Rose run.out.faults run.out'.faults × Says run (line_of WriteFailed)

-- status 7, where a write to diag failed: it got a first part of the line that was to go out
abbrev pub DiagFailedAt : List ℕ → Run → Type 0
DiagFailedAt app run = Rose run.diag.faults run.diag'.faults
    × ((end : End) × CheckedTo end app run.shelf run.shelf' run.out run.out' × SentPart run.diag.wrote run.diag'.wrote (line_of end))

-- nothing stands in the way: the file is told, is short, and no fault rose
pub record FairCheck (app : List ℕ) (run : Run) (bytes : List ℕ) : Type 0 where
  pub told : content run.shelf.holds app ≡ Some bytes
  pub short : length bytes ≤ limit
  pub shelf_held : Rose run.shelf.faults run.shelf'.faults → ⊥
  pub out_held : Rose run.out.faults run.out'.faults → ⊥
  pub diag_held : Rose run.diag.faults run.diag'.faults → ⊥

-- what each status says of a check of this file
pub record CheckTable (app : List ℕ) (run : Run) : Type 0 where
  pub accepted : run.outcome.status ≡ 0 → Says run [] × SentAll run.out.wrote run.out'.wrote accepted_line × AcceptedCheck app run.shelf run.shelf'
  pub refused : run.outcome.status ≡ 1 → Quiet run.out run.out' × ((refusal : AppRefusal) × Says run (line_of (AppRefused refusal)) × RefusedCheck refusal app run.shelf run.shelf')
  pub no_usage : run.outcome.status ≢ 2
  pub no_script : run.outcome.status ≢ 3
  pub no_trap : run.outcome.status ≢ 4
  pub no_unsettled : run.outcome.status ≢ 5
  pub unread : run.outcome.status ≡ 6 → Quiet run.out run.out' × Says run (line_of (CannotRead App)) × UnreadCheck app run.shelf run.shelf'
  pub write_failed : run.outcome.status ≡ 7 → OutFailedAt run ⊎ DiagFailedAt app run
  pub no_memory : run.outcome.status ≡ 8 → Says run (line_of OutOfMemory)
  pub overlong : run.outcome.status ≡ 9 → Quiet run.out run.out' × Says run (line_of (TooLong App run.outcome.taken)) × OverlongCheck run.outcome.taken app run.shelf run.shelf'
  -- whatever the end, what went out is a first part
  pub part : CheckPart run.shelf app run.out run.out'
  pub taken : run.outcome.status ≢ 9 → run.outcome.taken ≡ 0
  -- no body runs
  pub bodies : run.bodies' ≡ run.bodies
  -- the other way round: a file of which so much was taken gives 9
  pub overlong_back : run.shelf'.asked ≡ app → run.shelf'.offset ≡ limit + 1 → (run.outcome.status ≡ 9) ⊎ DiagFailedAt app run ⊎ (run.outcome.status ≡ 8)
  -- where nothing stands in the way, a program is accepted
  pub accepts : (bytes : List ℕ) → FairCheck app run bytes → Accepted bytes
      → ((run.outcome.status ≡ 0) × SentAll run.out.wrote run.out'.wrote accepted_line) ⊎ (run.outcome.status ≡ 8)
  -- and what is none is refused by its own line
  pub refuses : (bytes : List ℕ) (refusal : AppRefusal) → FairCheck app run bytes → IsRefused refusal bytes
      → ((run.outcome.status ≡ 1) × Says run (line_of (AppRefused refusal))) ⊎ (run.outcome.status ≡ 8)

-- the table of a run: that of a check, where the words ask for one
abbrev pub TableOf : Option (List ℕ) → Run → Type 0
TableOf (Some app) run = CheckTable app run
TableOf None run = Table run
