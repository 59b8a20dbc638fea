-- Which code may be evaluated, and which block may be run as an action, in a frame over cells.
use Rattle.std.specs.Prelude.{ℕ, ◌<◌, ◌≤◌, length}
use Rattle.identity_path.specs.Cells.{CellMap}
use Rattle.swift_core.specs.Codes.{Parts as Program}
use Rattle.core_means.specs.declared.parts.Frame.{Frame}
use Rattle.world_fits.specs.Runs.{EvalFits, ExecFits}

-- The number is that of a member, and the frame and the cells have what its code asks for.
abbrev pub MayEvaluate : Program → ℕ → Frame → CellMap → Type 0
MayEvaluate p n frame cells = (n < length p.members) × EvalFits p n frame cells

-- The number comes behind those of the members, and the frame and the cells have what the block asks for.
abbrev pub MayExecute : Program → ℕ → Frame → CellMap → Type 0
MayExecute p n frame cells = (length p.members ≤ n) × ExecFits p n frame cells
