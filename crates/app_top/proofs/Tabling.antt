-- From the end of a run to the table.
use Rattle.std.proofs.Common.{◌≡◌, ◌≢◌, ℕ, ◌+◌, ◌≤◌, ◌⊎◌, inl, inr, arith, List, [], Option, Some, None, IsSomeAnd, IfSome, refl, sym, ◌∙◌, ap, subst}
use Rattle.std.specs.Io.KnownBytes.{append_known}
use Rattle.sv_io.specs.Counts.{Rose, WhenTold}
use Rattle.sv_io.specs.Shelf.{content}
use Rattle.sv_io.specs.Sink.{SentAll}
use Rattle.sv_io.proofs.Reading.{content_told}
use Rattle.view_engine.specs.Counter.{Shape}
use Rattle.view_engine.specs.declared.form.Event.{Event}
use Rattle.counter_form.specs.App.{SpellsApp}
use Rattle.counter_form.specs.Script.{SpellsScript}
use Rattle.counter_form.proofs.Spelling.{same_app}
use Rattle.counter_form.proofs.Tapping.{same_script}
use Rattle.app_top.specs.Words.{Names}
use Rattle.app_top.specs.Output.{frames}
use Rattle.app_top.specs.Refusals.{AppIs}
use Rattle.app_top.specs.Ends.{Run, Ended, Came, CameTo, limit, status_of, taken_of, line_of, Quiet, OutputPart, Unread, Overlong, Finished, RefusedApp, RefusedScript, ScriptIs, name_of}
use Rattle.app_top.specs.Table.{Table, Says, OutFailed, DiagFailed, Fair}
use Rattle.app_top.specs.declared.end.AppRefusal.{AppRefusal}
use Rattle.app_top.specs.declared.end.ScriptRefusal.{ScriptRefusal}
use Rattle.app_top.specs.declared.end.ScriptRefusal.TheVariants.{NotThisScript}
use Rattle.app_top.specs.declared.end.End.{End}
use Rattle.app_top.specs.declared.end.End.TheVariants.{Done, AppRefused, Usage, ScriptRefused, CannotRead, WriteFailed, OutOfMemory, TooLong}
use Rattle.app_top.specs.declared.end.FileOf.{FileOf}
use Rattle.app_top.specs.declared.end.FileOf.TheVariants.{App, Script}
use Rattle.app_top.proofs.Serving.{whole_part}

-- the end behind a status other than 7, with its line
pub record Behind (run : Run) (k : ℕ) : Type 0 where
  pub end : End
  pub is : status_of end ≡ k
  pub came : Came end run.form run.shelf run.shelf' run.out run.out' run.bodies run.bodies'
  pub taken : run.outcome.taken ≡ taken_of end
  pub says : Says run (line_of end)

behind : (run : Run) (k : ℕ) → Ended run → k ≢ 7 → run.outcome.status ≡ k → Behind run k
behind run k ended not_7 is = elim ended.told [
  | inl t ↦ record { end = ended.end; is = sym t.0 ∙ is; came = ended.came; taken = t.1; says = t.2 }
  | inr t ↦ absurd (not_7 (sym is ∙ t.0))
]

done_by : (run : Run) (end : End) → status_of end ≡ 0 → (form : Option Names) → Came end form run.shelf run.shelf' run.out run.out' run.bodies run.bodies'
    → Says run (line_of end) → Says run [] × IsSomeAnd form (λ names. (run.shelf'.asked ≡ names.script) × (run.shelf'.offset ≤ limit)
    × WhenTold run.shelf.holds (λ files. Finished files names run.out run.out' run.bodies run.bodies'))
unfolding line_of
done_by run Done is (Some names) came says = (says, (came.0, came.1, came.2))
done_by run Done is None came says = absurd (cc came.0)
done_by run (AppRefused refusal) is form came says = absurd (omega arith)
done_by run Usage is form came says = absurd (omega arith)
done_by run (ScriptRefused refusal) is form came says = absurd (omega arith)
done_by run (CannotRead file) is form came says = absurd (omega arith)
done_by run WriteFailed is form came says = absurd (omega arith)
done_by run OutOfMemory is form came says = absurd (omega arith)
done_by run (TooLong file taken) is form came says = absurd (omega arith)

refused_by : (run : Run) (end : End) → status_of end ≡ 1 → (form : Option Names) → Came end form run.shelf run.shelf' run.out run.out' run.bodies run.bodies'
    → Says run (line_of end) → Quiet run.out run.out'
    × IsSomeAnd form (λ names. (refusal : AppRefusal) × Says run (line_of (AppRefused refusal)) × RefusedApp refusal names run.shelf run.shelf')
refused_by run Done is form came says = absurd (omega arith)
refused_by run (AppRefused refusal) is (Some names) came says = (came.0, (refusal, says, came.1))
refused_by run (AppRefused refusal) is None came says = absurd (cc came.0)
refused_by run Usage is form came says = absurd (omega arith)
refused_by run (ScriptRefused refusal) is form came says = absurd (omega arith)
refused_by run (CannotRead file) is form came says = absurd (omega arith)
refused_by run WriteFailed is form came says = absurd (omega arith)
refused_by run OutOfMemory is form came says = absurd (omega arith)
refused_by run (TooLong file taken) is form came says = absurd (omega arith)

usage_by : (run : Run) (end : End) → status_of end ≡ 2 → (form : Option Names) → Came end form run.shelf run.shelf' run.out run.out' run.bodies run.bodies'
    → Says run (line_of end) → Says run (line_of Usage) × Quiet run.out run.out' × (form ≡ None)
usage_by run Done is form came says = absurd (omega arith)
usage_by run (AppRefused refusal) is form came says = absurd (omega arith)
usage_by run Usage is (Some names) came says = absurd came.1
usage_by run Usage is None came says = (says, came.1, refl)
usage_by run (ScriptRefused refusal) is form came says = absurd (omega arith)
usage_by run (CannotRead file) is form came says = absurd (omega arith)
usage_by run WriteFailed is form came says = absurd (omega arith)
usage_by run OutOfMemory is form came says = absurd (omega arith)
usage_by run (TooLong file taken) is form came says = absurd (omega arith)

script_refused_by : (run : Run) (end : End) → status_of end ≡ 3 → (form : Option Names) → Came end form run.shelf run.shelf' run.out run.out' run.bodies run.bodies'
    → Says run (line_of end) → Quiet run.out run.out'
    × IsSomeAnd form (λ names. (refusal : ScriptRefusal) × Says run (line_of (ScriptRefused refusal)) × RefusedScript refusal names run.shelf run.shelf')
script_refused_by run Done is form came says = absurd (omega arith)
script_refused_by run (AppRefused refusal) is form came says = absurd (omega arith)
script_refused_by run Usage is form came says = absurd (omega arith)
script_refused_by run (ScriptRefused refusal) is (Some names) came says = (came.0, (refusal, says, came.1))
script_refused_by run (ScriptRefused refusal) is None came says = absurd (cc came.0)
script_refused_by run (CannotRead file) is form came says = absurd (omega arith)
script_refused_by run WriteFailed is form came says = absurd (omega arith)
script_refused_by run OutOfMemory is form came says = absurd (omega arith)
script_refused_by run (TooLong file taken) is form came says = absurd (omega arith)

unread_by : (run : Run) (end : End) → status_of end ≡ 6 → (form : Option Names) → Came end form run.shelf run.shelf' run.out run.out' run.bodies run.bodies'
    → Says run (line_of end) → Quiet run.out run.out'
    × IsSomeAnd form (λ names. (file : FileOf) × Says run (line_of (CannotRead file)) × Unread file names run.shelf run.shelf')
unread_by run Done is form came says = absurd (omega arith)
unread_by run (AppRefused refusal) is form came says = absurd (omega arith)
unread_by run Usage is form came says = absurd (omega arith)
unread_by run (ScriptRefused refusal) is form came says = absurd (omega arith)
unread_by run (CannotRead file) is (Some names) came says = (came.0, (file, says, came.1))
unread_by run (CannotRead file) is None came says = absurd (cc came.0)
unread_by run WriteFailed is form came says = absurd (omega arith)
unread_by run OutOfMemory is form came says = absurd (omega arith)
unread_by run (TooLong file taken) is form came says = absurd (omega arith)

overlong_by : (run : Run) (end : End) → status_of end ≡ 9 → (form : Option Names) → Came end form run.shelf run.shelf' run.out run.out' run.bodies run.bodies' → run.outcome.taken ≡ taken_of end
    → Says run (line_of end) → Quiet run.out run.out'
    × IsSomeAnd form (λ names. (file : FileOf) × Says run (line_of (TooLong file run.outcome.taken)) × Overlong file run.outcome.taken names run.shelf run.shelf')
overlong_by run Done is form came taken_is says = absurd (omega arith)
overlong_by run (AppRefused refusal) is form came taken_is says = absurd (omega arith)
overlong_by run Usage is form came taken_is says = absurd (omega arith)
overlong_by run (ScriptRefused refusal) is form came taken_is says = absurd (omega arith)
overlong_by run (CannotRead file) is form came taken_is says = absurd (omega arith)
overlong_by run WriteFailed is form came taken_is says = absurd (omega arith)
overlong_by run OutOfMemory is form came taken_is says = absurd (omega arith)
overlong_by run (TooLong file taken) is (Some names) came taken_is says = (
  came.0,
  (
    file,
    subst (λ (t : ℕ). Says run (line_of (TooLong file t))) (sym taken_is) says,
    subst (λ (t : ℕ). Overlong file t names run.shelf run.shelf') (sym taken_is) came.1,
  ),
)
overlong_by run (TooLong file taken) is None came taken_is says = absurd (cc came.0)

out_failed_by : (run : Run) (end : End) → status_of end ≡ 7 → Says run (line_of end) → Says run (line_of WriteFailed)
out_failed_by run Done is says = absurd (omega arith)
out_failed_by run (AppRefused refusal) is says = absurd (omega arith)
out_failed_by run Usage is says = absurd (omega arith)
out_failed_by run (ScriptRefused refusal) is says = absurd (omega arith)
out_failed_by run (CannotRead file) is says = absurd (omega arith)
out_failed_by run WriteFailed is says = says
out_failed_by run OutOfMemory is says = absurd (omega arith)
out_failed_by run (TooLong file taken) is says = absurd (omega arith)

no_memory_by : (run : Run) (end : End) → status_of end ≡ 8 → Says run (line_of end) → Says run (line_of OutOfMemory)
no_memory_by run Done is says = absurd (omega arith)
no_memory_by run (AppRefused refusal) is says = absurd (omega arith)
no_memory_by run Usage is says = absurd (omega arith)
no_memory_by run (ScriptRefused refusal) is says = absurd (omega arith)
no_memory_by run (CannotRead file) is says = absurd (omega arith)
no_memory_by run WriteFailed is says = absurd (omega arith)
no_memory_by run OutOfMemory is says = says
no_memory_by run (TooLong file taken) is says = absurd (omega arith)

-- the end behind status 7, where diag didn't fail
cause_by : (run : Run) (end : End) → status_of end ≡ 7 → (form : Option Names) → Came end form run.shelf run.shelf' run.out run.out' run.bodies run.bodies' → Rose run.out.faults run.out'.faults
cause_by run Done is form came = absurd (omega arith)
cause_by run (AppRefused refusal) is form came = absurd (omega arith)
cause_by run Usage is form came = absurd (omega arith)
cause_by run (ScriptRefused refusal) is form came = absurd (omega arith)
cause_by run (CannotRead file) is form came = absurd (omega arith)
cause_by run WriteFailed is (Some names) came = came.1
cause_by run WriteFailed is None came = absurd (cc came.0)
cause_by run OutOfMemory is form came = absurd (omega arith)
cause_by run (TooLong file taken) is form came = absurd (omega arith)

-- whatever the end, what went out is a part
part_by : (run : Run) (end : End) → (form : Option Names) → Came end form run.shelf run.shelf' run.out run.out' run.bodies run.bodies'
    → IfSome form (λ names. OutputPart run.shelf names run.out run.out')
part_by run end None came = tt
part_by run Done (Some names) came = λ files told.
    let f = came.2 files told in
    inr (record { shape = f.shape; events = f.events; input = f.input; part = whole_part f.sent })
part_by run WriteFailed (Some names) came = came.2
part_by run OutOfMemory (Some names) came = came
part_by run (AppRefused refusal) (Some names) came = λ files told. inl came.0
part_by run Usage (Some names) came = absurd came.1
part_by run (ScriptRefused refusal) (Some names) came = λ files told. inl came.0
part_by run (CannotRead file) (Some names) came = λ files told. inl came.0
part_by run (TooLong file taken) (Some names) came = λ files told. inl came.0

taken_by : (end : End) → status_of end ≢ 9 → taken_of end ≡ 0
taken_by Done not_9 = refl
taken_by (AppRefused refusal) not_9 = refl
taken_by Usage not_9 = refl
taken_by (ScriptRefused refusal) not_9 = refl
taken_by (CannotRead file) not_9 = refl
taken_by WriteFailed not_9 = refl
taken_by OutOfMemory not_9 = refl
taken_by (TooLong file taken) not_9 = absurd (not_9 refl)

not_four_by : (end : End) → status_of end ≡ 4 → ⊥
not_four_by Done is = absurd (omega arith)
not_four_by (AppRefused refusal) is = absurd (omega arith)
not_four_by Usage is = absurd (omega arith)
not_four_by (ScriptRefused refusal) is = absurd (omega arith)
not_four_by (CannotRead file) is = absurd (omega arith)
not_four_by WriteFailed is = absurd (omega arith)
not_four_by OutOfMemory is = absurd (omega arith)
not_four_by (TooLong file taken) is = absurd (omega arith)

not_five_by : (end : End) → status_of end ≡ 5 → ⊥
not_five_by Done is = absurd (omega arith)
not_five_by (AppRefused refusal) is = absurd (omega arith)
not_five_by Usage is = absurd (omega arith)
not_five_by (ScriptRefused refusal) is = absurd (omega arith)
not_five_by (CannotRead file) is = absurd (omega arith)
not_five_by WriteFailed is = absurd (omega arith)
not_five_by OutOfMemory is = absurd (omega arith)
not_five_by (TooLong file taken) is = absurd (omega arith)

-- a file that is told has what is said of it
of_file : (run : Run) (name bytes : List ℕ) (P : List ℕ → Type 0) → content run.shelf.holds name ≡ Some bytes
    → WhenTold run.shelf.holds (λ files. IsSomeAnd (files name) P) → P bytes
of_file run name bytes P is told =
    let t = content_told run.shelf.holds name bytes is in
    subst (λ (o : Option (List ℕ)). IsSomeAnd o P) t.2 (told t.0 t.1)

same_some : (x y : List ℕ) → Some x ≡ Some y → x ≡ y
same_some x y same = cc

-- what a refusal says can't be said of what is spelled
app_good : (refusal : AppRefusal) (app : List ℕ) (shape : Shape) → SpellsApp app shape → AppIs refusal app → ⊥
app_good refusal app shape good bad = bad.no_program shape good

script_good : (refusal : ScriptRefusal) (script : List ℕ) (events : List Event) → SpellsScript script events → ScriptIs refusal script → ⊥
script_good NotThisScript script events good bad = bad events good

module _ (run : Run) (names : Names) (app script : List ℕ) (shape : Shape) (events : List Event) (fair : Fair run names app script shape events) where
  -- the files have one output
  same_sent : (files : List ℕ → Option (List ℕ)) → run.shelf.holds ≡ Some files → Finished files names run.out run.out' run.bodies run.bodies'
      → SentAll run.out.wrote run.out'.wrote (frames shape events)
  same_sent files told f =
      let i = f.input in
      let app_here : files names.app ≡ Some app = sym (ap (λ (h : Option (List ℕ → Option (List ℕ))). content h names.app) told) ∙ fair.app_told in
      let script_here : files names.script ≡ Some script = sym (ap (λ (h : Option (List ℕ → Option (List ℕ))). content h names.script) told) ∙ fair.script_told in
      let app_is : app ≡ i.app = same_some app i.app (sym app_here ∙ i.app_is) in
      let script_is : script ≡ i.script = same_some script i.script (sym script_here ∙ i.script_is) in
      let shape_is : f.shape ≡ shape = same_app i.app_spelt (subst (λ (b : List ℕ). SpellsApp b shape) app_is fair.app_good) in
      let events_is : f.events ≡ events = same_script i.script_spelt (subst (λ (b : List ℕ). SpellsScript b events) script_is fair.script_good) in
      f.sent ∙ ap (append_known run.out.wrote) (λ j. frames (shape_is j) (events_is j))

  fair_by : (end : End) → CameTo end names run.shelf run.shelf' run.out run.out' run.bodies run.bodies'
      → ((status_of end ≡ 0) × SentAll run.out.wrote run.out'.wrote (frames shape events)) ⊎ (status_of end ≡ 8)
  fair_by Done came = let t = content_told run.shelf.holds names.app app fair.app_told in inl (refl, same_sent t.0 t.1 (came.2 t.0 t.1))
  fair_by OutOfMemory came = inr refl
  fair_by Usage came = absurd came.1
  fair_by WriteFailed came = absurd (fair.out_held came.1)
  fair_by (CannotRead file) came = absurd (fair.shelf_held came.1.rose)
  fair_by (AppRefused refusal) came = absurd (app_good refusal app shape fair.app_good (of_file run names.app app (AppIs refusal) fair.app_told came.1.app))
  fair_by (ScriptRefused refusal) came = absurd (script_good refusal script events fair.script_good (of_file run names.script script (ScriptIs refusal) fair.script_told came.1.script))
  fair_by (TooLong App taken) came = let long = came.1.longer app fair.app_told in let short = fair.app_short in absurd (omega arith)
  fair_by (TooLong Script taken) came = let long = came.1.longer script fair.script_told in let short = fair.script_short in absurd (omega arith)

  fair_run : Ended run → ((run.outcome.status ≡ 0) × SentAll run.out.wrote run.out'.wrote (frames shape events)) ⊎ (run.outcome.status ≡ 8)
  fair_run ended =
      let came : CameTo ended.end names run.shelf run.shelf' run.out run.out' run.bodies run.bodies' =
      subst (λ (form : Option Names). Came ended.end form run.shelf run.shelf' run.out run.out' run.bodies run.bodies') fair.form ended.came in
      elim ended.told [
        | inl t ↦ elim (fair_by ended.end came) [ inl is ↦ inl (t.0 ∙ is.0, is.1) | inr is ↦ inr (t.0 ∙ is) ]
        | inr t ↦ absurd (fair.diag_held t.2)
      ]

no_form_row : (run : Run) (ended : Ended run) → run.form ≡ None → (run.outcome.status ≡ 2) ⊎ DiagFailed run
no_form_row run ended none =
    let came : Came ended.end None run.shelf run.shelf' run.out run.out' run.bodies run.bodies' =
    subst (λ (form : Option Names). Came ended.end form run.shelf run.shelf' run.out run.out' run.bodies run.bodies') none ended.came in
    elim ended.told [ inl t ↦ inl (t.0 ∙ ap status_of came.0) | inr t ↦ inr (t.2, (ended.end, ended.came, t.3)) ]

cause_row : (run : Run) → Ended run → run.outcome.status ≡ 7 → OutFailed run ⊎ DiagFailed run
cause_row run ended is = elim ended.told [
  | inl t ↦ inl (cause_by run ended.end (sym t.0 ∙ is) run.form ended.came, out_failed_by run ended.end (sym t.0 ∙ is) t.2)
  | inr t ↦ inr (t.2, (ended.end, ended.came, t.3))
]

-- only a file that is too long has so much taken
long_by : (run : Run) (names : Names) (end : End) → CameTo end names run.shelf run.shelf' run.out run.out' run.bodies run.bodies'
    → run.shelf'.offset ≡ limit + 1 → (status_of end ≡ 9) ⊎ (status_of end ≡ 8)
long_by run names (TooLong file taken) came long = inl refl
long_by run names OutOfMemory came long = inr refl
long_by run names Done came long = let short = came.1 in absurd (omega arith)
long_by run names WriteFailed came long = let short = came.0 in absurd (omega arith)
long_by run names (AppRefused refusal) came long = let short = came.1.short in absurd (omega arith)
long_by run names Usage came long = absurd came.1
long_by run names (ScriptRefused refusal) came long = let short = came.1.short in absurd (omega arith)
long_by run names (CannotRead file) came long = let short = came.1.short in absurd (omega arith)

long_row : (run : Run) → Ended run → (names : Names) (file : FileOf) → run.form ≡ Some names → run.shelf'.asked ≡ name_of file names → run.shelf'.offset ≡ limit + 1
    → (run.outcome.status ≡ 9) ⊎ DiagFailed run ⊎ (run.outcome.status ≡ 8)
long_row run ended names file form asked long =
    let came : CameTo ended.end names run.shelf run.shelf' run.out run.out' run.bodies run.bodies' =
    subst (λ (form : Option Names). Came ended.end form run.shelf run.shelf' run.out run.out' run.bodies run.bodies') form ended.came in
    elim ended.told [
      | inl t ↦ elim (long_by run names ended.end came long) [ inl is ↦ inl (t.0 ∙ is) | inr is ↦ inr (inr (t.0 ∙ is)) ]
      | inr t ↦ inr (inl (t.2, (ended.end, ended.came, t.3)))
    ]

taken_row : (run : Run) → Ended run → run.outcome.status ≢ 9 → run.outcome.taken ≡ 0
taken_row run ended not_9 = elim ended.told [
  | inl t ↦ t.1 ∙ taken_by ended.end (λ e. not_9 (t.0 ∙ e))
  | inr t ↦ t.1
]

pub table : (run : Run) → Ended run → Table run
table run ended = record {
  done = λ is. let b = behind run 0 ended (λ e. cc e) is in done_by run b.end b.is run.form b.came b.says;
  app_refused = λ is. let b = behind run 1 ended (λ e. cc e) is in refused_by run b.end b.is run.form b.came b.says;
  usage = λ is. let b = behind run 2 ended (λ e. cc e) is in usage_by run b.end b.is run.form b.came b.says;
  script_refused = λ is. let b = behind run 3 ended (λ e. cc e) is in script_refused_by run b.end b.is run.form b.came b.says;
  no_trap = λ is. let b = behind run 4 ended (λ e. cc e) is in not_four_by b.end b.is;
  no_unsettled = λ is. let b = behind run 5 ended (λ e. cc e) is in not_five_by b.end b.is;
  unread = λ is. let b = behind run 6 ended (λ e. cc e) is in unread_by run b.end b.is run.form b.came b.says;
  write_failed = cause_row run ended;
  no_memory = λ is. let b = behind run 8 ended (λ e. cc e) is in no_memory_by run b.end b.is b.says;
  overlong = λ is. let b = behind run 9 ended (λ e. cc e) is in overlong_by run b.end b.is run.form b.came b.taken b.says;
  part = λ _. part_by run ended.end run.form ended.came;
  taken = taken_row run ended;
  no_form = no_form_row run ended;
  overlong_back = long_row run ended;
  complete = λ names app script shape events fair. fair_run run names app script shape events fair ended;
}
