-- From the parts of a check to its end, and from its end to its table.
use Rattle.std.proofs.Common.{◌≡◌, ◌≢◌, ℕ, ◌+◌, ◌≤◌, ◌⊎◌, inl, inr, arith, List, [], Option, Some, None, IsSomeAnd, Result, Ok, Err, refl, sym, ◌∙◌, ap, subst, length}
use Rattle.sv_io.specs.Counts.{Rose, WhenTold}
use Rattle.sv_io.specs.Shelf.{ShelfState, content}
use Rattle.sv_io.specs.Sink.{SinkState, SentAll, SentPart}
use Rattle.sv_io.proofs.Reading.{content_told}
use Rattle.verdict_rules.specs.Verdict.{Accepted, IsVerdict}
use Rattle.verdict_rules.specs.declared.program.Program.{Program}
use Rattle.verdict_rules.specs.declared.refusal.Refusal.{Refusal}
use Rattle.verdict_rules.specs.declared.refusal.Refusal.TheVariants as refusal
use Rattle.app_top.specs.Words.{Names}
use Rattle.app_top.specs.Refusals.{IsRefused, NoProgramAs}
use Rattle.app_top.specs.Ends.{Run, Ended, ReadEnd, limit, status_of, taken_of, line_of, Quiet, Told, Said}
use Rattle.app_top.specs.Table.{Says}
use Rattle.app_top.specs.Checking.{accepted_line, RefusedCheck, AcceptedCheck, UnreadCheck, OverlongCheck, CheckPart, CheckedTo, Sent, CheckEnded, OutFailedAt, DiagFailedAt, FairCheck, CheckTable}
use Rattle.app_top.specs.declared.end.AppRefusal.{AppRefusal}
use Rattle.app_top.specs.declared.end.AppRefusal.TheVariants as why
use Rattle.app_top.specs.declared.end.End.{End}
use Rattle.app_top.specs.declared.end.End.TheVariants.{Done, AppRefused, Usage, ScriptRefused, CannotRead, WriteFailed, OutOfMemory, TooLong}
use Rattle.app_top.specs.declared.end.FileOf.{FileOf}
use Rattle.app_top.specs.declared.end.FileOf.TheVariants.{App, Script}
use Rattle.app_top.proofs.Serving.{whole_part}

-- the file could not be read to its end
pub read_checked : (end : End) (app : List ℕ) (shelf shelf' : ShelfState) (out : SinkState) → ReadEnd end App app shelf shelf' → CheckedTo end app shelf shelf' out out
read_checked (CannotRead App) app shelf shelf' out h = (refl, record { asked = h.1; failed = h.2; rose = h.3; short = h.4 })
read_checked (CannotRead Script) app shelf shelf' out h = absurd (cc h.0)
read_checked (TooLong App taken) app shelf shelf' out h = (refl, record { asked = h.1; offset = h.3; taken_is = h.2; longer = h.4 })
read_checked (TooLong Script taken) app shelf shelf' out h = absurd (cc h.0)
read_checked OutOfMemory app shelf shelf' out h = λ files told. inl refl
read_checked Done app shelf shelf' out h = absurd h
read_checked (AppRefused r) app shelf shelf' out h = absurd h
read_checked Usage app shelf shelf' out h = absurd h
read_checked (ScriptRefused r) app shelf shelf' out h = absurd h
read_checked WriteFailed app shelf shelf' out h = absurd h

some_and : (files : List ℕ → Option (List ℕ)) (app bytes : List ℕ) (P : List ℕ → Type 0) → files app ≡ Some bytes → P bytes → IsSomeAnd (files app) P
some_and files app bytes P is p = subst (λ (o : Option (List ℕ)). IsSomeAnd o P) (sym is) p

module _ (app bytes : List ℕ) (shelf shelf' : ShelfState) (asked : shelf'.asked ≡ app) (short : shelf'.offset ≤ limit)
    (read : WhenTold shelf.holds (λ files. files app ≡ Some bytes)) where
  -- the file spells no program
  pub refused_checked : (end : End) (out : SinkState) → NoProgramAs end bytes → CheckedTo end app shelf shelf' out out
  refused_checked (AppRefused r) out is = (refl, record { asked = asked; short = short; why = λ files told. some_and files app bytes (IsRefused r) (read files told) is })
  refused_checked OutOfMemory out is = λ files told. inl refl
  refused_checked Done out is = absurd is
  refused_checked Usage out is = absurd is
  refused_checked (ScriptRefused r) out is = absurd is
  refused_checked (CannotRead file) out is = absurd is
  refused_checked WriteFailed out is = absurd is
  refused_checked (TooLong file taken) out is = absurd is

  -- the file spells a program
  pub accepted_checked : (end : End) (out out' : SinkState) → Accepted bytes → Sent end out out' → CheckedTo end app shelf shelf' out out'
  accepted_checked Done out out' is sent = (sent, record { asked = asked; short = short; why = λ files told. some_and files app bytes Accepted (read files told) is })
  accepted_checked WriteFailed out out' is sent = (short, sent.0, λ files told. inr (some_and files app bytes Accepted (read files told) is, sent.1))
  accepted_checked OutOfMemory out out' is sent = absurd sent
  accepted_checked (AppRefused r) out out' is sent = absurd sent
  accepted_checked Usage out out' is sent = absurd sent
  accepted_checked (ScriptRefused r) out out' is sent = absurd sent
  accepted_checked (CannotRead file) out out' is sent = absurd sent
  accepted_checked (TooLong file taken) out out' is sent = absurd sent

-- ---- from the end to the table

-- whatever the end, what went out is a first part
pub part_by : (app : List ℕ) (run : Run) (end : End) → CheckedTo end app run.shelf run.shelf' run.out run.out' → CheckPart run.shelf app run.out run.out'
part_by app run Done came = λ files told. inr (came.1.why files told, whole_part came.0)
part_by app run (AppRefused r) came = λ files told. inl came.0
part_by app run (CannotRead App) came = λ files told. inl came.0
part_by app run (CannotRead Script) came = absurd came
part_by app run (TooLong App taken) came = λ files told. inl came.0
part_by app run (TooLong Script taken) came = absurd came
part_by app run WriteFailed came = came.2
part_by app run OutOfMemory came = came
part_by app run Usage came = absurd came
part_by app run (ScriptRefused r) came = absurd came

-- the end behind a line that was said
pub check_ended : (app : List ℕ) (run : Run) (end : End) → CheckedTo end app run.shelf run.shelf' run.out run.out' → Said end run.diag run.diag' run.outcome → run.bodies' ≡ run.bodies → CheckEnded app run
check_ended app run (AppRefused r) came (inl told) bodies = record { end = AppRefused r; came = came; told = told; bodies = bodies }
check_ended app run (AppRefused r) came (inr told) bodies = record { end = OutOfMemory; came = part_by app run (AppRefused r) came; told = told; bodies = bodies }
check_ended app run Done came told bodies = record { end = Done; came = came; told = told; bodies = bodies }
check_ended app run Usage came told bodies = absurd came
check_ended app run (ScriptRefused r) came told bodies = absurd came
check_ended app run (CannotRead file) came told bodies = record { end = CannotRead file; came = came; told = told; bodies = bodies }
check_ended app run WriteFailed came told bodies = record { end = WriteFailed; came = came; told = told; bodies = bodies }
check_ended app run OutOfMemory came told bodies = record { end = OutOfMemory; came = came; told = told; bodies = bodies }
check_ended app run (TooLong file taken) came told bodies = record { end = TooLong file taken; came = came; told = told; bodies = bodies }

-- what each end says, at its status
abbrev pub Row : List ℕ → Run → End → Type 0
Row app run Done = SentAll run.out.wrote run.out'.wrote accepted_line × AcceptedCheck app run.shelf run.shelf'
Row app run (AppRefused r) = Quiet run.out run.out' × RefusedCheck r app run.shelf run.shelf'
Row app run (CannotRead file) = (file ≡ App) × Quiet run.out run.out' × UnreadCheck app run.shelf run.shelf'
Row app run (TooLong file taken) = (file ≡ App) × Quiet run.out run.out' × OverlongCheck taken app run.shelf run.shelf'
Row app run WriteFailed = Rose run.out.faults run.out'.faults
Row app run OutOfMemory = Unit {0}
Row app run Usage = ⊥
Row app run (ScriptRefused r) = ⊥

pub row_of : (app : List ℕ) (run : Run) (end : End) → CheckedTo end app run.shelf run.shelf' run.out run.out' → Row app run end
row_of app run Done came = came
row_of app run (AppRefused r) came = came
row_of app run (CannotRead App) came = (refl, came.0, came.1)
row_of app run (CannotRead Script) came = absurd came
row_of app run (TooLong App taken) came = (refl, came.0, came.1)
row_of app run (TooLong Script taken) came = absurd came
row_of app run WriteFailed came = came.1
row_of app run OutOfMemory came = tt
row_of app run Usage came = absurd came
row_of app run (ScriptRefused r) came = absurd came

-- the end behind a status other than 7, with its line
pub record Behind (app : List ℕ) (run : Run) (k : ℕ) : Type 0 where
  pub end : End
  pub is : status_of end ≡ k
  pub row : Row app run end
  pub taken : run.outcome.taken ≡ taken_of end
  pub says : Says run (line_of end)

pub behind : (app : List ℕ) (run : Run) (k : ℕ) → CheckEnded app run → k ≢ 7 → run.outcome.status ≡ k → Behind app run k
behind app run k ended not_7 is = elim ended.told [
  | inl t ↦ record { end = ended.end; is = sym t.0 ∙ is; row = row_of app run ended.end ended.came; taken = t.1; says = t.2 }
  | inr t ↦ absurd (not_7 (sym is ∙ t.0))
]
