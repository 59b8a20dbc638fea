-- What a function of the evaluator can be called for, and what it does.
use Rattle.std.specs.Prelude.{◌≡◌, Option, Some, None, Result, Ok, Err, ⊤}
use Rattle.identity_path.specs.declared.input.Input.{Input}
use Rattle.identity_path.specs.Cells.{CellMap}
use Rattle.sv_value.specs.declared.hop.Missing.{Missing}
use Rattle.value_calls.specs.declared.traps.TrapKind.TheVariants.{Index}
use Rattle.value_calls.specs.declared.traps.Stop.{Stop}
use Rattle.value_calls.specs.declared.traps.Stop.TheVariants.{Trap, OutOfMemory}
use Rattle.core_means.specs.declared.parts.Run.{Run}
use Rattle.core_means.specs.Asks.{Doing, World, Look, IsRight, Leaves, under, world}
use Rattle.core_means.specs.Sources.{Found, seen}
use Rattle.eval_places.specs.declared.setting.Setting.{Setting}

-- what a body's look-ups find
abbrev pub look_of : {L : Type 0} → (L → CellMap) → Setting L → Look
look_of held setting = seen setting.frame.now (held setting.held.now)

-- the meaning's answer is not wrong
abbrev pub Can : {L A : Type 0} → (L → CellMap) → Setting L → Run → CellMap → Doing A → Type 0
Can held setting run cells m = IsRight (under (look_of held setting) run.reads (m (world run setting.is_block setting.frame.now cells)))

-- the result, and what the run left, are the meaning's answer, unless memory ran out
abbrev pub Does : {L A : Type 0} → (L → CellMap) → Setting L → Run → CellMap → Doing A → Result A Stop → Run → CellMap → Type 0
Does held setting run cells m result run' cells' =
    Leaves result (world run' setting.is_block setting.frame.now cells') run'.reads
    (under (look_of held setting) run.reads (m (world run setting.is_block setting.frame.now cells)))

-- The result is what was found; an index that is out of range is the trap `index`.
abbrev pub Shows : Result Input Stop → Found → Type 0
Shows (Ok v) found = found ≡ Some (Ok v)
Shows (Err (Trap k)) found = (missing : Missing) × (found ≡ Some (Err missing)) × (k ≡ Index)
Shows (Err OutOfMemory) found = ⊤
