-- What may be called where more forms may be entered may be called where fewer may.
use Rattle.std.proofs.Common.{ℕ, ◌≤◌, arith, Result}
use denote.Ref.{Bor, MutBor}
use Rattle.identity_path.specs.Cells.{CellMap}
use Rattle.sv_value.specs.declared.value.Value.{Value}
use Rattle.swift_core.specs.Codes.{Parts as Program}
use Rattle.swift_core.specs.declared.stmt.CoreStmt.{CoreStmt}
use Rattle.swift_core.specs.declared.term.Core.{Core}
use Rattle.value_calls.specs.declared.traps.Stop.{Stop}
use Rattle.core_means.specs.declared.parts.Flow.{Flow}
use Rattle.core_means.specs.declared.parts.Run.{Run}
use Rattle.core_means.specs.Asks.{Doing}
use Rattle.eval_places.specs.declared.setting.Setting.{Setting}
use Rattle.eval_terms.specs.Nests.{Nests, Knot}

le_trans : (a b c : ℕ) → a ≤ b → b ≤ c → a ≤ c
le_trans a b c h k = omega arith

lower_nests : {L C X A : Type 0} {held : L → CellMap} {map : C → CellMap} {room : ℕ} {meaning : Program → ℕ → X → Doing A}
    {pre : Bor (Setting L) → ℕ → Bor X → MutBor Run → MutBor C → Type 0}
    {post : Bor (Setting L) → ℕ → Bor X → MutBor Run → MutBor C → Result A Stop → MutBor Run → MutBor C → Type 0}
    (less : ℕ) → less ≤ room → Nests held map room meaning pre post → Nests held map less meaning pre post
lower_nests {room = room} less h nests = record {
  callable = λ n k. nests.callable n (le_trans n less room k h);
  gives = nests.gives;
}

pub lower : {L C : Type 0} {held : L → CellMap} {map : C → CellMap} {room : ℕ}
    {eval_pre : Bor (Setting L) → ℕ → Bor Core → MutBor Run → MutBor C → Type 0}
    {eval_post : Bor (Setting L) → ℕ → Bor Core → MutBor Run → MutBor C → Result Value Stop → MutBor Run → MutBor C → Type 0}
    {exec_pre : Bor (Setting L) → ℕ → Bor CoreStmt → MutBor Run → MutBor C → Type 0}
    {exec_post : Bor (Setting L) → ℕ → Bor CoreStmt → MutBor Run → MutBor C → Result Flow Stop → MutBor Run → MutBor C → Type 0}
    (less : ℕ) → less ≤ room → Knot held map room eval_pre eval_post exec_pre exec_post → Knot held map less eval_pre eval_post exec_pre exec_post
lower less h knot = record { evals = lower_nests less h knot.evals; execs = lower_nests less h knot.execs }
