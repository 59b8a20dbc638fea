-- The condition of the run of a piece of code.
use Rattle.std.specs.Prelude.{ℕ, nat_lt, true, false, length}
use Rattle.identity_path.specs.Cells.{CellMap}
use Rattle.swift_core.specs.Codes.{Parts as Program}
use Rattle.core_means.specs.declared.parts.Frame.{Frame}
use Rattle.world_fits.specs.Runs.{EvalFits, ExecFits}

-- A number within those of the members is that of code to evaluate; a later one is that of a block.
abbrev pub CodeFits : Program → ℕ → Frame → CellMap → Type 0
CodeFits p n frame cells = elim (nat_lt n (length p.members)) [ true ↦ EvalFits p n frame cells | false ↦ ExecFits p n frame cells ]
