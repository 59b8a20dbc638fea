-- Function values that give the meaning of the items of a builder, where so many forms may be entered.
use Rattle.std.specs.Prelude.{ℕ, ◌≤◌, Option, Result}
use denote.Ref.{Bor, MutBor}
use Rattle.identity_path.specs.Cells.{CellMap}
use Rattle.swift_core.specs.declared.item.CoreItem.{CoreItem}
use Rattle.value_calls.specs.declared.traps.Stop.{Stop}
use Rattle.core_means.specs.declared.parts.Run.{Run}
use Rattle.eval_places.specs.declared.setting.Setting.{Setting}
use Rattle.eval_places.specs.Runs.{Can, Does}
use Rattle.view_nodes.specs.declared.node.Element.{Element}
use Rattle.body_means.specs.Building.{Building}
use Rattle.body_means.specs.Items.{building, item_means}
use Rattle.body_parts.specs.declared.builder.Builder.{Builder}

-- the meaning of the forms inside an item, as the code has it at hand
abbrev pub of : {L F : Type 0} → Builder L F → Building
of b = building b.setting.now.program.now b.room b.code

-- a function value gives the items of any piece of code, at each room up to this
pub record ItemNests {L C : Type 0} (held : L → CellMap) (map : C → CellMap) (room : ℕ)
    (pre : Bor (Setting L) → ℕ → ℕ → Bor CoreItem → MutBor Run → MutBor C → Type 0)
    (post : Bor (Setting L) → ℕ → ℕ → Bor CoreItem → MutBor Run → MutBor C → Result (Option Element) Stop → MutBor Run → MutBor C → Type 0) : Type 0 where
  pub callable : (n : ℕ) → n ≤ room → (setting : Bor (Setting L)) (code : ℕ) (x : Bor CoreItem) (run : MutBor Run) (cells : MutBor C)
      → Can held setting.now run.now (map cells.now) (item_means setting.now.program.now n code x.now) → pre setting n code x run cells
  pub gives : (n : ℕ) (setting : Bor (Setting L)) (code : ℕ) (x : Bor CoreItem) (run run' : MutBor Run) (cells cells' : MutBor C) (r : Result (Option Element) Stop)
      → post setting n code x run cells r run' cells'
      → Does held setting.now run.now (map cells.now) (item_means setting.now.program.now n code x.now) r run'.now (map cells'.now)
