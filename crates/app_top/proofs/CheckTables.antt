-- From the end of a check to the table of its statuses.
use Rattle.std.proofs.Common.{◌≡◌, ◌≢◌, ℕ, ◌+◌, ◌≤◌, ◌⊎◌, inl, inr, arith, List, [], Option, Some, None, IsSomeAnd, Result, Ok, Err, refl, sym, ◌∙◌, ap, subst, length}
use Rattle.sv_io.specs.Counts.{Rose, WhenTold}
use Rattle.sv_io.specs.Shelf.{content}
use Rattle.sv_io.specs.Sink.{SentAll}
use Rattle.sv_io.proofs.Reading.{content_told}
use Rattle.verdict_rules.specs.Verdict.{Accepted, IsVerdict, IsMemory, Agrees}
use Rattle.verdict_rules.specs.Laws.{one_verdict}
use Rattle.verdict_rules.specs.declared.program.Program.{Program}
use Rattle.verdict_rules.specs.declared.refusal.Refusal.{Refusal}
use Rattle.verdict_rules.specs.declared.refusal.Refusal.TheVariants as refusal
use Rattle.app_top.specs.Refusals.{IsRefused}
use Rattle.app_top.specs.Words.{Names}
use Rattle.app_top.specs.Ends.{Run, Ended, limit, status_of, taken_of, line_of, Quiet}
use Rattle.app_top.specs.Table.{Says, Table}
use Rattle.app_top.specs.Checking.{accepted_line, RefusedCheck, AcceptedCheck, UnreadCheck, OverlongCheck, CheckedTo, CheckEnded, OutFailedAt, DiagFailedAt, FairCheck, CheckTable, TableOf}
use Rattle.app_top.specs.declared.end.AppRefusal.{AppRefusal}
use Rattle.app_top.specs.declared.end.AppRefusal.TheVariants as why
use Rattle.app_top.specs.declared.end.End.{End}
use Rattle.app_top.specs.declared.end.End.TheVariants.{Done, AppRefused, Usage, ScriptRefused, CannotRead, WriteFailed, OutOfMemory, TooLong}
use Rattle.app_top.specs.declared.end.FileOf.{FileOf}
use Rattle.app_top.specs.declared.end.FileOf.TheVariants.{App, Script}
use Rattle.app_top.proofs.Checks.{Row, Behind, behind, part_by, row_of}
use Rattle.app_top.proofs.Tabling.{table}

abbrev pub Accepted0 : List ℕ → Run → Type 0
Accepted0 app run = Says run [] × SentAll run.out.wrote run.out'.wrote accepted_line × AcceptedCheck app run.shelf run.shelf'

accepted_by : (app : List ℕ) (run : Run) (end : End) → status_of end ≡ 0 → Row app run end → Says run (line_of end) → Accepted0 app run
unfolding line_of
accepted_by app run Done is row says = (says, row.0, row.1)
accepted_by app run (AppRefused r) is row says = absurd (omega arith)
accepted_by app run Usage is row says = absurd (omega arith)
accepted_by app run (ScriptRefused r) is row says = absurd (omega arith)
accepted_by app run (CannotRead file) is row says = absurd (omega arith)
accepted_by app run WriteFailed is row says = absurd (omega arith)
accepted_by app run OutOfMemory is row says = absurd (omega arith)
accepted_by app run (TooLong file taken) is row says = absurd (omega arith)

refused_by : (app : List ℕ) (run : Run) (end : End) → status_of end ≡ 1 → Row app run end → Says run (line_of end) → Quiet run.out run.out' × ((refusal : AppRefusal) × Says run (line_of (AppRefused refusal)) × RefusedCheck refusal app run.shelf run.shelf')
refused_by app run Done is row says = absurd (omega arith)
refused_by app run (AppRefused r) is row says = (row.0, (r, says, row.1))
refused_by app run Usage is row says = absurd (omega arith)
refused_by app run (ScriptRefused r) is row says = absurd (omega arith)
refused_by app run (CannotRead file) is row says = absurd (omega arith)
refused_by app run WriteFailed is row says = absurd (omega arith)
refused_by app run OutOfMemory is row says = absurd (omega arith)
refused_by app run (TooLong file taken) is row says = absurd (omega arith)

unread_by : (app : List ℕ) (run : Run) (end : End) → status_of end ≡ 6 → Row app run end → Says run (line_of end) → Quiet run.out run.out' × Says run (line_of (CannotRead App)) × UnreadCheck app run.shelf run.shelf'
unread_by app run Done is row says = absurd (omega arith)
unread_by app run (AppRefused r) is row says = absurd (omega arith)
unread_by app run Usage is row says = absurd (omega arith)
unread_by app run (ScriptRefused r) is row says = absurd (omega arith)
unread_by app run (CannotRead file) is row says = (row.1, subst (λ (f : FileOf). Says run (line_of (CannotRead f))) row.0 says, row.2)
unread_by app run WriteFailed is row says = absurd (omega arith)
unread_by app run OutOfMemory is row says = absurd (omega arith)
unread_by app run (TooLong file taken) is row says = absurd (omega arith)

failed_by : (app : List ℕ) (run : Run) (end : End) → status_of end ≡ 7 → Row app run end → Says run (line_of end) → OutFailedAt run
failed_by app run Done is row says = absurd (omega arith)
failed_by app run (AppRefused r) is row says = absurd (omega arith)
failed_by app run Usage is row says = absurd (omega arith)
failed_by app run (ScriptRefused r) is row says = absurd (omega arith)
failed_by app run (CannotRead file) is row says = absurd (omega arith)
failed_by app run WriteFailed is row says = (row, says)
failed_by app run OutOfMemory is row says = absurd (omega arith)
failed_by app run (TooLong file taken) is row says = absurd (omega arith)

no_memory_by : (app : List ℕ) (run : Run) (end : End) → status_of end ≡ 8 → Row app run end → Says run (line_of end) → Says run (line_of OutOfMemory)
no_memory_by app run Done is row says = absurd (omega arith)
no_memory_by app run (AppRefused r) is row says = absurd (omega arith)
no_memory_by app run Usage is row says = absurd (omega arith)
no_memory_by app run (ScriptRefused r) is row says = absurd (omega arith)
no_memory_by app run (CannotRead file) is row says = absurd (omega arith)
no_memory_by app run WriteFailed is row says = absurd (omega arith)
no_memory_by app run OutOfMemory is row says = says
no_memory_by app run (TooLong file taken) is row says = absurd (omega arith)

overlong_by : (app : List ℕ) (run : Run) (end : End) → status_of end ≡ 9 → Row app run end → run.outcome.taken ≡ taken_of end → Says run (line_of end) → Quiet run.out run.out' × Says run (line_of (TooLong App run.outcome.taken)) × OverlongCheck run.outcome.taken app run.shelf run.shelf'
overlong_by app run Done is row taken_is says = absurd (omega arith)
overlong_by app run (AppRefused r) is row taken_is says = absurd (omega arith)
overlong_by app run Usage is row taken_is says = absurd (omega arith)
overlong_by app run (ScriptRefused r) is row taken_is says = absurd (omega arith)
overlong_by app run (CannotRead file) is row taken_is says = absurd (omega arith)
overlong_by app run WriteFailed is row taken_is says = absurd (omega arith)
overlong_by app run OutOfMemory is row taken_is says = absurd (omega arith)
overlong_by app run (TooLong file taken) is row taken_is says = (
  row.1,
  subst (λ (t : ℕ). Says run (line_of (TooLong App t))) (sym taken_is) (subst (λ (f : FileOf). Says run (line_of (TooLong f taken))) row.0 says),
  subst (λ (t : ℕ). OverlongCheck t app run.shelf run.shelf') (sym taken_is) row.2,
)

-- no check ends so
never : (k : ℕ) → (k ≡ 2) ⊎ (k ≡ 3) ⊎ (k ≡ 4) ⊎ (k ≡ 5) → (app : List ℕ) (run : Run) (end : End) → status_of end ≡ k → Row app run end → ⊥
never k which app run Usage is row = row
never k which app run (ScriptRefused r) is row = row
never k which app run Done is row = elim which [ inl a ↦ omega (arith, a, is) | inr b ↦ elim b [ inl a ↦ omega (arith, a, is) | inr c ↦ elim c [ inl a ↦ omega (arith, a, is) | inr d ↦ omega (arith, d, is) ] ] ]
never k which app run (AppRefused r) is row = elim which [ inl a ↦ omega (arith, a, is) | inr b ↦ elim b [ inl a ↦ omega (arith, a, is) | inr c ↦ elim c [ inl a ↦ omega (arith, a, is) | inr d ↦ omega (arith, d, is) ] ] ]
never k which app run (CannotRead file) is row = elim which [ inl a ↦ omega (arith, a, is) | inr b ↦ elim b [ inl a ↦ omega (arith, a, is) | inr c ↦ elim c [ inl a ↦ omega (arith, a, is) | inr d ↦ omega (arith, d, is) ] ] ]
never k which app run WriteFailed is row = elim which [ inl a ↦ omega (arith, a, is) | inr b ↦ elim b [ inl a ↦ omega (arith, a, is) | inr c ↦ elim c [ inl a ↦ omega (arith, a, is) | inr d ↦ omega (arith, d, is) ] ] ]
never k which app run OutOfMemory is row = elim which [ inl a ↦ omega (arith, a, is) | inr b ↦ elim b [ inl a ↦ omega (arith, a, is) | inr c ↦ elim c [ inl a ↦ omega (arith, a, is) | inr d ↦ omega (arith, d, is) ] ] ]
never k which app run (TooLong file taken) is row = elim which [ inl a ↦ omega (arith, a, is) | inr b ↦ elim b [ inl a ↦ omega (arith, a, is) | inr c ↦ elim c [ inl a ↦ omega (arith, a, is) | inr d ↦ omega (arith, d, is) ] ] ]

taken_by : (end : End) → status_of end ≢ 9 → taken_of end ≡ 0
taken_by Done not_9 = refl
taken_by (AppRefused r) not_9 = refl
taken_by Usage not_9 = refl
taken_by (ScriptRefused r) not_9 = refl
taken_by (CannotRead file) not_9 = refl
taken_by WriteFailed not_9 = refl
taken_by OutOfMemory not_9 = refl
taken_by (TooLong file taken) not_9 = absurd (not_9 refl)

taken_row : (app : List ℕ) (run : Run) → CheckEnded app run → run.outcome.status ≢ 9 → run.outcome.taken ≡ 0
taken_row app run ended not_9 = elim ended.told [
  | inl t ↦ t.1 ∙ taken_by ended.end (λ e. not_9 (t.0 ∙ e))
  | inr t ↦ t.1
]

failed_row : (app : List ℕ) (run : Run) → CheckEnded app run → run.outcome.status ≡ 7 → OutFailedAt run ⊎ DiagFailedAt app run
failed_row app run ended is = elim ended.told [
  | inl t ↦ inl (failed_by app run ended.end (sym t.0 ∙ is) (row_of app run ended.end ended.came) t.2)
  | inr t ↦ inr (t.2, (ended.end, ended.came, t.3))
]

-- only a file that is too long has so much taken
long_by : (app : List ℕ) (run : Run) (end : End) → CheckedTo end app run.shelf run.shelf' run.out run.out' → run.shelf'.offset ≡ limit + 1 → (status_of end ≡ 9) ⊎ (status_of end ≡ 8)
long_by app run (TooLong file taken) came long = inl refl
long_by app run OutOfMemory came long = inr refl
long_by app run Done came long = let short = came.1.short in absurd (omega arith)
long_by app run WriteFailed came long = let short = came.0 in absurd (omega arith)
long_by app run (AppRefused r) came long = let short = came.1.short in absurd (omega arith)
long_by app run (CannotRead App) came long = let short = came.1.short in absurd (omega arith)
long_by app run (CannotRead Script) came long = absurd came
long_by app run Usage came long = absurd came
long_by app run (ScriptRefused r) came long = absurd came

long_row : (app : List ℕ) (run : Run) → CheckEnded app run → run.shelf'.offset ≡ limit + 1 → (run.outcome.status ≡ 9) ⊎ DiagFailedAt app run ⊎ (run.outcome.status ≡ 8)
long_row app run ended long = elim ended.told [
  | inl t ↦ elim (long_by app run ended.end ended.came long) [ inl is ↦ inl (t.0 ∙ is) | inr is ↦ inr (inr (t.0 ∙ is)) ]
  | inr t ↦ inr (inl (t.2, (ended.end, ended.came, t.3)))
]

-- ---- there is one verdict

-- the refusal of the checker that a refusal tells
abbrev pub checker : AppRefusal → Refusal
checker (why.Lex line col) = refusal.Lex line col
checker (why.Unbalanced line) = refusal.Unbalanced line
checker (why.TooNested line) = refusal.TooNested line
checker (why.NotADeclaration line) = refusal.NotADeclaration line
checker (why.Twice line) = refusal.Twice line
checker (why.Recursive line) = refusal.Recursive line
checker (why.NotTyped line) = refusal.NotTyped line
checker (why.WritesInBody line) = refusal.WritesInBody line
checker why.NoMain = refusal.NoMain
checker why.NotThisApp = refusal.OutOfMemory

-- and back
abbrev pub told_as : Refusal → AppRefusal
told_as (refusal.Lex line col) = why.Lex line col
told_as (refusal.Unbalanced line) = why.Unbalanced line
told_as (refusal.TooNested line) = why.TooNested line
told_as (refusal.NotADeclaration line) = why.NotADeclaration line
told_as (refusal.Twice line) = why.Twice line
told_as (refusal.Recursive line) = why.Recursive line
told_as (refusal.NotTyped line) = why.NotTyped line
told_as (refusal.WritesInBody line) = why.WritesInBody line
told_as refusal.NoMain = why.NoMain
told_as refusal.OutOfMemory = why.NotThisApp

back : (r : AppRefusal) → told_as (checker r) ≡ r
back (why.Lex line col) = refl
back (why.Unbalanced line) = refl
back (why.TooNested line) = refl
back (why.NotADeclaration line) = refl
back (why.Twice line) = refl
back (why.Recursive line) = refl
back (why.NotTyped line) = refl
back (why.WritesInBody line) = refl
back why.NoMain = refl
back why.NotThisApp = refl

-- a refusal is the verdict, and not for want of memory
is_verdict : (r : AppRefusal) (bytes : List ℕ) → IsRefused r bytes → IsVerdict bytes (Err (checker r))
is_verdict (why.Lex line col) bytes is = is
is_verdict (why.Unbalanced line) bytes is = is
is_verdict (why.TooNested line) bytes is = is
is_verdict (why.NotADeclaration line) bytes is = is
is_verdict (why.Twice line) bytes is = is
is_verdict (why.Recursive line) bytes is = is
is_verdict (why.NotTyped line) bytes is = is
is_verdict (why.WritesInBody line) bytes is = is
is_verdict why.NoMain bytes is = is
is_verdict why.NotThisApp bytes is = absurd is

memory_is : (r : AppRefusal) (a : Result Program Refusal) → IsMemory a → (a ≡ Err (checker r)) ⊎ (a ≡ Err refusal.OutOfMemory)
memory_is s (Err refusal.OutOfMemory) m = inr refl
memory_is s (Ok program) m = absurd m
memory_is s (Err (refusal.Lex line col)) m = absurd m
memory_is s (Err (refusal.Unbalanced line)) m = absurd m
memory_is s (Err (refusal.TooNested line)) m = absurd m
memory_is s (Err (refusal.NotADeclaration line)) m = absurd m
memory_is s (Err (refusal.Twice line)) m = absurd m
memory_is s (Err (refusal.Recursive line)) m = absurd m
memory_is s (Err (refusal.NotTyped line)) m = absurd m
memory_is s (Err (refusal.WritesInBody line)) m = absurd m
memory_is s (Err refusal.NoMain) m = absurd m

remembered : (r : AppRefusal) (bytes : List ℕ) (a : Result Program Refusal) → IsRefused r bytes → Agrees a (Err (checker r)) → (a ≡ Err (checker r)) ⊎ (a ≡ Err refusal.OutOfMemory)
remembered why.NotThisApp bytes a is h = absurd is
remembered (why.Lex line col) bytes a is h = elim h [ inl e ↦ inl e | inr m ↦ elim m [ inl x ↦ memory_is (why.Lex line col) a x | inr y ↦ absurd y ] ]
remembered (why.Unbalanced line) bytes a is h = elim h [ inl e ↦ inl e | inr m ↦ elim m [ inl x ↦ memory_is (why.Unbalanced line) a x | inr y ↦ absurd y ] ]
remembered (why.TooNested line) bytes a is h = elim h [ inl e ↦ inl e | inr m ↦ elim m [ inl x ↦ memory_is (why.TooNested line) a x | inr y ↦ absurd y ] ]
remembered (why.NotADeclaration line) bytes a is h = elim h [ inl e ↦ inl e | inr m ↦ elim m [ inl x ↦ memory_is (why.NotADeclaration line) a x | inr y ↦ absurd y ] ]
remembered (why.Twice line) bytes a is h = elim h [ inl e ↦ inl e | inr m ↦ elim m [ inl x ↦ memory_is (why.Twice line) a x | inr y ↦ absurd y ] ]
remembered (why.Recursive line) bytes a is h = elim h [ inl e ↦ inl e | inr m ↦ elim m [ inl x ↦ memory_is (why.Recursive line) a x | inr y ↦ absurd y ] ]
remembered (why.NotTyped line) bytes a is h = elim h [ inl e ↦ inl e | inr m ↦ elim m [ inl x ↦ memory_is (why.NotTyped line) a x | inr y ↦ absurd y ] ]
remembered (why.WritesInBody line) bytes a is h = elim h [ inl e ↦ inl e | inr m ↦ elim m [ inl x ↦ memory_is (why.WritesInBody line) a x | inr y ↦ absurd y ] ]
remembered why.NoMain bytes a is h = elim h [ inl e ↦ inl e | inr m ↦ elim m [ inl x ↦ memory_is why.NoMain a x | inr y ↦ absurd y ] ]

ok_err : (program : Program) (r : Refusal) → ◌≡◌ {A = Result Program Refusal} (Ok program) (Err r) → ⊥
ok_err program r e = cc

err_is : (r s : Refusal) → ◌≡◌ {A = Result Program Refusal} (Err r) (Err s) → r ≡ s
err_is r s e = cc

no_memory : (r : AppRefusal) (bytes : List ℕ) → IsRefused r bytes → checker r ≡ refusal.OutOfMemory → ⊥
no_memory (why.Lex line col) bytes is e = cc
no_memory (why.Unbalanced line) bytes is e = cc
no_memory (why.TooNested line) bytes is e = cc
no_memory (why.NotADeclaration line) bytes is e = cc
no_memory (why.Twice line) bytes is e = cc
no_memory (why.Recursive line) bytes is e = cc
no_memory (why.NotTyped line) bytes is e = cc
no_memory (why.WritesInBody line) bytes is e = cc
no_memory why.NoMain bytes is e = cc
no_memory why.NotThisApp bytes is e = absurd is

-- two refusals of one file are one
one_refusal : (r s : AppRefusal) (bytes : List ℕ) → IsRefused r bytes → IsRefused s bytes → r ≡ s
one_refusal r s bytes is too = elim (remembered s bytes (Err (checker r)) too (one_verdict bytes (Err (checker r)) (Err (checker s)) (is_verdict r bytes is) (is_verdict s bytes too))) [
  | inl e ↦ sym (back r) ∙ ap told_as (err_is (checker r) (checker s) e) ∙ back s
  | inr m ↦ absurd (no_memory r bytes is (err_is (checker r) refusal.OutOfMemory m))
]

-- no program is refused
no_refusal : (r : AppRefusal) (bytes : List ℕ) → IsRefused r bytes → Accepted bytes → ⊥
no_refusal r bytes is program = elim (remembered r bytes (Ok program.0) is (one_verdict bytes (Ok program.0) (Err (checker r)) program.1 (is_verdict r bytes is))) [
  | inl e ↦ ok_err program.0 (checker r) e
  | inr m ↦ ok_err program.0 refusal.OutOfMemory m
]

module _ (app : List ℕ) (run : Run) (bytes : List ℕ) (fair : FairCheck app run bytes) where
  -- the file is told, and has what is said of it
  of_file : (P : List ℕ → Type 0) → WhenTold run.shelf.holds (λ files. IsSomeAnd (files app) P) → P bytes
  of_file P told =
      let t = content_told run.shelf.holds app bytes fair.told in
      subst (λ (o : Option (List ℕ)). IsSomeAnd o P) t.2 (told t.0 t.1)

  accepts_by : Accepted bytes → (end : End) → CheckedTo end app run.shelf run.shelf' run.out run.out'
      → ((status_of end ≡ 0) × SentAll run.out.wrote run.out'.wrote accepted_line) ⊎ (status_of end ≡ 8)
  accepts_by good Done came = inl (refl, came.0)
  accepts_by good OutOfMemory came = inr refl
  accepts_by good (AppRefused r) came = absurd (no_refusal r bytes (of_file (IsRefused r) came.1.why) good)
  accepts_by good (CannotRead App) came = absurd (fair.shelf_held came.1.rose)
  accepts_by good (CannotRead Script) came = absurd came
  accepts_by good (TooLong App taken) came = let long = came.1.longer bytes fair.told in let short = fair.short in absurd (omega arith)
  accepts_by good (TooLong Script taken) came = absurd came
  accepts_by good WriteFailed came = absurd (fair.out_held came.1)
  accepts_by good Usage came = absurd came
  accepts_by good (ScriptRefused r) came = absurd came

  refuses_by : (r : AppRefusal) → IsRefused r bytes → (end : End) → CheckedTo end app run.shelf run.shelf' run.out run.out' → (end ≡ AppRefused r) ⊎ (status_of end ≡ 8)
  refuses_by r bad Done came = absurd (no_refusal r bytes bad (of_file Accepted came.1.why))
  refuses_by r bad OutOfMemory came = inr refl
  refuses_by r bad (AppRefused s) came = inl (ap AppRefused (one_refusal s r bytes (of_file (IsRefused s) came.1.why) bad))
  refuses_by r bad (CannotRead App) came = absurd (fair.shelf_held came.1.rose)
  refuses_by r bad (CannotRead Script) came = absurd came
  refuses_by r bad (TooLong App taken) came = let long = came.1.longer bytes fair.told in let short = fair.short in absurd (omega arith)
  refuses_by r bad (TooLong Script taken) came = absurd came
  refuses_by r bad WriteFailed came = absurd (fair.out_held came.1)
  refuses_by r bad Usage came = absurd came
  refuses_by r bad (ScriptRefused s) came = absurd came

  accepts_row : CheckEnded app run → Accepted bytes → ((run.outcome.status ≡ 0) × SentAll run.out.wrote run.out'.wrote accepted_line) ⊎ (run.outcome.status ≡ 8)
  accepts_row ended good = elim ended.told [
    | inl t ↦ elim (accepts_by good ended.end ended.came) [ inl is ↦ inl (t.0 ∙ is.0, is.1) | inr is ↦ inr (t.0 ∙ is) ]
    | inr t ↦ absurd (fair.diag_held t.2)
  ]

  refuses_row : (r : AppRefusal) → CheckEnded app run → IsRefused r bytes → ((run.outcome.status ≡ 1) × Says run (line_of (AppRefused r))) ⊎ (run.outcome.status ≡ 8)
  refuses_row r ended bad = elim ended.told [
    | inl t ↦ elim (refuses_by r bad ended.end ended.came) [
      | inl is ↦ inl (t.0 ∙ ap status_of is, subst (λ (e : End). Says run (line_of e)) is t.2)
      | inr is ↦ inr (t.0 ∙ is)
    ]
    | inr t ↦ absurd (fair.diag_held t.2)
  ]

pub check_table : (app : List ℕ) (run : Run) → CheckEnded app run → CheckTable app run
check_table app run ended = record {
  accepted = λ is. let b = behind app run 0 ended (λ e. cc e) is in accepted_by app run b.end b.is b.row b.says;
  refused = λ is. let b = behind app run 1 ended (λ e. cc e) is in refused_by app run b.end b.is b.row b.says;
  no_usage = λ is. let b = behind app run 2 ended (λ e. cc e) is in never 2 (inl refl) app run b.end b.is b.row;
  no_script = λ is. let b = behind app run 3 ended (λ e. cc e) is in never 3 (inr (inl refl)) app run b.end b.is b.row;
  no_trap = λ is. let b = behind app run 4 ended (λ e. cc e) is in never 4 (inr (inr (inl refl))) app run b.end b.is b.row;
  no_unsettled = λ is. let b = behind app run 5 ended (λ e. cc e) is in never 5 (inr (inr (inr refl))) app run b.end b.is b.row;
  unread = λ is. let b = behind app run 6 ended (λ e. cc e) is in unread_by app run b.end b.is b.row b.says;
  write_failed = failed_row app run ended;
  no_memory = λ is. let b = behind app run 8 ended (λ e. cc e) is in no_memory_by app run b.end b.is b.row b.says;
  overlong = λ is. let b = behind app run 9 ended (λ e. cc e) is in overlong_by app run b.end b.is b.row b.taken b.says;
  part = part_by app run ended.end ended.came;
  taken = taken_row app run ended;
  bodies = ended.bodies;
  overlong_back = λ asked long. long_row app run ended long;
  accepts = λ bytes fair good. accepts_row app run bytes fair ended good;
  refuses = λ bytes r fair bad. refuses_row app run bytes fair r ended bad;
}

-- the words ask for a check of this file, or for a run
pub check_run : (asked : Option (List ℕ)) (app : List ℕ) (run : Run) → Some app ≡ asked → CheckEnded app run → TableOf asked run
check_run asked app run is ended = subst (λ (o : Option (List ℕ)). TableOf o run) is (check_table app run ended)

pub play_run : (asked : Option (List ℕ)) (run : Run) → None ≡ asked → Ended run → TableOf asked run
play_run asked run is ended = subst (λ (o : Option (List ℕ)). TableOf o run) is (table run ended)
