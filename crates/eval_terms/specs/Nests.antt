-- Function values that give the meaning of expressions and statements, where so many forms may be entered.
use Rattle.std.specs.Prelude.{ℕ, ◌≤◌, Result}
use denote.Ref.{Bor, MutBor}
use Rattle.identity_path.specs.Cells.{CellMap}
use Rattle.sv_value.specs.declared.value.Value.{Value}
use Rattle.swift_core.specs.Codes.{Parts as Program}
use Rattle.swift_core.specs.declared.stmt.CoreStmt.{CoreStmt}
use Rattle.swift_core.specs.declared.term.Core.{Core}
use Rattle.value_calls.specs.declared.traps.Stop.{Stop}
use Rattle.core_means.specs.declared.parts.Flow.{Flow}
use Rattle.core_means.specs.declared.parts.Run.{Run}
use Rattle.core_means.specs.Asks.{Doing}
use Rattle.core_means.specs.Means.{means, does}
use Rattle.eval_places.specs.declared.setting.Setting.{Setting}
use Rattle.eval_places.specs.Runs.{Can, Does}

-- a function value gives this meaning, at each room up to this
pub record Nests {L C X A : Type 0} (held : L → CellMap) (map : C → CellMap) (room : ℕ) (meaning : Program → ℕ → X → Doing A)
    (pre : Bor (Setting L) → ℕ → Bor X → MutBor Run → MutBor C → Type 0)
    (post : Bor (Setting L) → ℕ → Bor X → MutBor Run → MutBor C → Result A Stop → MutBor Run → MutBor C → Type 0) : Type 0 where
  pub callable : (n : ℕ) → n ≤ room → (setting : Bor (Setting L)) (x : Bor X) (run : MutBor Run) (cells : MutBor C)
      → Can held setting.now run.now (map cells.now) (meaning setting.now.program.now n x.now) → pre setting n x run cells
  pub gives : (n : ℕ) (setting : Bor (Setting L)) (x : Bor X) (run run' : MutBor Run) (cells cells' : MutBor C) (r : Result A Stop)
      → post setting n x run cells r run' cells'
      → Does held setting.now run.now (map cells.now) (meaning setting.now.program.now n x.now) r run'.now (map cells'.now)

-- both of them
pub record Knot {L C : Type 0} (held : L → CellMap) (map : C → CellMap) (room : ℕ)
    (eval_pre : Bor (Setting L) → ℕ → Bor Core → MutBor Run → MutBor C → Type 0)
    (eval_post : Bor (Setting L) → ℕ → Bor Core → MutBor Run → MutBor C → Result Value Stop → MutBor Run → MutBor C → Type 0)
    (exec_pre : Bor (Setting L) → ℕ → Bor CoreStmt → MutBor Run → MutBor C → Type 0)
    (exec_post : Bor (Setting L) → ℕ → Bor CoreStmt → MutBor Run → MutBor C → Result Flow Stop → MutBor Run → MutBor C → Type 0) : Type 0 where
  pub evals : Nests held map room means eval_pre eval_post
  pub execs : Nests held map room does exec_pre exec_post
