-- What the entering of cells answers.
use Rattle.std.specs.Prelude.{ℕ, ◌+◌, List}
use Rattle.sv_value.specs.declared.value.Value.{Value}
use Rattle.identity_path.specs.Cells.{CellMap, cells_weight, total_of}

-- what the cells would weigh
abbrev pub total_with : CellMap → List Value → ℕ
total_with cells slots = total_of cells + cells_weight slots
