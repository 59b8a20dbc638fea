-- The inputs of what a block keeps, place by place.
use Rattle.std.specs.Prelude.{◌≡◌, ℕ, List, [], ◌∷◌, map, Some, slice_get}
use Rattle.std.proofs.Common.{sym, subst, ◌∙◌}
use Rattle.identity_path.specs.declared.input.Input.{Input}
use Rattle.swift_core.specs.Context.{Local}
use Rattle.swift_core.specs.Typing.{AreKept}
use Rattle.swift_core.specs.declared.table.Table.{Table}
use Rattle.swift_core.specs.declared.ty.Ty.{Ty}
use Rattle.value_fits.specs.Cells.{SlotTypes}
use Rattle.world_fits.specs.Frames.{InputHas}
use Rattle.world_fits.specs.Lists.{some_same}
use Rattle.world_fits.specs.Runs.{InputsHave}

-- The inputs are those of the locals that are kept, and after them the parameters.
abbrev pub KeptHave : Table → SlotTypes → List Local → List ℕ → List Ty → List Input → Type 0
KeptHave table types locals [] parameters xs = InputsHave table types (map Local.valued parameters) xs
KeptHave table types locals (k ∷ ks) parameters [] = ⊥
KeptHave table types locals (k ∷ ks) parameters (x ∷ xs) = ((l : Local) × (slice_get locals k ≡ Some l) × InputHas table types l x) × KeptHave table types locals ks parameters xs

-- what the code says of them is what they are
pub kept_have : (table : Table) (types : SlotTypes) (locals : List Local) (ks : List ℕ) (parameters : List Ty) (ls : List Local) (xs : List Input) → AreKept locals ks parameters ls → InputsHave table types ls xs
    → KeptHave table types locals ks parameters xs
kept_have table types locals [] parameters ls xs are h = subst (λ (ms : List Local). InputsHave table types ms xs) are h
kept_have table types locals (k ∷ ks) parameters [] xs are h = absurd are
kept_have table types locals (k ∷ ks) parameters (l ∷ ls) [] are h = absurd h
kept_have table types locals (k ∷ ks) parameters (l ∷ ls) (x ∷ xs) are h = ((l, are.0, h.0), kept_have table types locals ks parameters ls xs are.1 h.1)

-- and the other way round
pub have_kept : (table : Table) (types : SlotTypes) (locals : List Local) (ks : List ℕ) (parameters : List Ty) (ls : List Local) (xs : List Input) → AreKept locals ks parameters ls
    → KeptHave table types locals ks parameters xs → InputsHave table types ls xs
have_kept table types locals [] parameters ls xs are h = subst (λ (ms : List Local). InputsHave table types ms xs) (sym are) h
have_kept table types locals (k ∷ ks) parameters [] xs are h = absurd are
have_kept table types locals (k ∷ ks) parameters (l ∷ ls) [] are h = absurd h
have_kept table types locals (k ∷ ks) parameters (l ∷ ls) (x ∷ xs) are h = (
  subst (λ (m : Local). InputHas table types m x) (some_same h.0.0 l (sym h.0.1 ∙ are.0)) h.0.2,
  have_kept table types locals ks parameters ls xs are.1 h.1,
)
