-- From the end of the work, and the line that was told, to the end of the run.
use Rattle.std.proofs.Common.{inl, inr, Option, Some, None}
use Rattle.app_top.specs.Words.{Names}
use Rattle.app_top.specs.Ends.{Run, Ended, Came, Said}
use Rattle.app_top.specs.declared.end.AppRefusal.{AppRefusal}
use Rattle.app_top.specs.declared.end.End.{End}
use Rattle.app_top.specs.declared.end.End.TheVariants.{Done, AppRefused, Usage, ScriptRefused, CannotRead, WriteFailed, OutOfMemory, TooLong}

-- where APP is refused nothing went out, so the run may end for want of memory
without_line : (run : Run) (refusal : AppRefusal) (form : Option Names) → Came (AppRefused refusal) form run.shelf run.shelf' run.out run.out' run.bodies run.bodies'
    → Came OutOfMemory form run.shelf run.shelf' run.out run.out' run.bodies run.bodies'
without_line run refusal (Some names) came = λ files told. inl came.0
without_line run refusal None came = absurd (cc came.0)

pub ended_by : (run : Run) (end : End) → Came end run.form run.shelf run.shelf' run.out run.out' run.bodies run.bodies'
    → Said end run.diag run.diag' run.outcome → Ended run
ended_by run (AppRefused refusal) came (inl told) = record { end = AppRefused refusal; came = came; told = told }
ended_by run (AppRefused refusal) came (inr told) = record { end = OutOfMemory; came = without_line run refusal run.form came; told = told }
ended_by run Done came told = record { end = Done; came = came; told = told }
ended_by run Usage came told = record { end = Usage; came = came; told = told }
ended_by run (ScriptRefused refusal) came told = record { end = ScriptRefused refusal; came = came; told = told }
ended_by run (CannotRead file) came told = record { end = CannotRead file; came = came; told = told }
ended_by run WriteFailed came told = record { end = WriteFailed; came = came; told = told }
ended_by run OutOfMemory came told = record { end = OutOfMemory; came = came; told = told }
ended_by run (TooLong file taken) came told = record { end = TooLong file taken; came = came; told = told }
