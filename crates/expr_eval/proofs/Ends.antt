-- What callers see of a run of the code.
use Rattle.std.proofs.Common.{◌≡◌, Bool, Some, Result, Ok, Err, true, ap, subst}
use Rattle.identity_path.specs.Cells.{CellMap}
use Rattle.value_calls.specs.declared.traps.Stop.{Stop}
use Rattle.value_calls.specs.declared.traps.Stop.TheVariants.{Trap, OutOfMemory}
use Rattle.value_calls.specs.Traps.{Answers}
use Rattle.core_means.specs.declared.parts.Frame.{Frame}
use Rattle.core_means.specs.declared.parts.Run.{Run}
use Rattle.core_means.specs.Asks.{World, Doing, Look, Reads, Answer, Leaves, under, world}
use Rattle.core_means.specs.Public.{result_of, cells_of, UnlessOutOfMemory}

answers : {A : Type 0} (r : Result A Stop) (w : World) (reads : Reads) (a : Answer A) → Leaves r w reads a → Answers r (result_of a)
answers (Ok x) w reads a e = ap result_of e
answers (Err (Trap k)) w reads a e = ap result_of e
answers (Err OutOfMemory) w reads a e = tt

-- from the run at its beginning
pub began_answers : {A : Type 0} (look : Look) (m : Doing A) (frame : Frame) (is_block : Bool) (cells : CellMap) (run start : Run) (r : Result A Stop) (w : World) (reads : Reads) → run ≡ start
    → Leaves r w reads (under look run.reads (m (world run is_block frame cells))) → Answers r (result_of (under look start.reads (m (world start is_block frame cells))))
began_answers look m frame is_block cells run start r w reads is h =
    subst (λ (q : Run). Answers r (result_of (under look q.reads (m (world q is_block frame cells))))) is
    (answers r w reads (under look run.reads (m (world run is_block frame cells))) h)

-- an action block leaves its cells, also at a trap
pub leaves_cells : {A : Type 0} (r : Result A Stop) (run : Run) (frame : Frame) (cells : CellMap) (reads : Reads) (a : Answer A)
    → Leaves r (world run true frame cells) reads a → UnlessOutOfMemory r (cells_of a ≡ Some cells)
leaves_cells (Ok x) run frame cells reads a e = ap cells_of e
leaves_cells (Err (Trap k)) run frame cells reads a e = ap cells_of e
leaves_cells (Err OutOfMemory) run frame cells reads a e = tt
