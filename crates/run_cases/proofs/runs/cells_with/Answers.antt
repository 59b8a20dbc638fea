use Rattle.std.proofs.Common.{◌∙◌, ap}
use Rattle.std.specs.FinMap as fin
use Rattle.identity_path.specs.Order.{path_cmp}
use Rattle.run_cases.proofs.runs.cells_with.Goals as goal

pub enter-requires : goal.enter-requires
enter-requires c = ap (λ m. fin.get m c.root-root.result) c.new-cells.ensures ∙ fin.get-empty path_cmp c.root-root.result
