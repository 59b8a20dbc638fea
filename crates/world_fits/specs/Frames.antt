-- Frames with values of the types that a view asks for.
use Rattle.std.specs.Prelude.{◌≡◌, ℕ, List, Some, slice_get}
use Rattle.identity_path.specs.declared.input.Input.{Input}
use Rattle.identity_path.specs.declared.input.Input.TheVariants as input
use Rattle.sv_value.specs.declared.value.Value.{Value}
use Rattle.swift_ast.specs.declared.tree.Binder.{Binder}
use Rattle.swift_core.specs.Context.{Local, HasMember}
use Rattle.swift_core.specs.Values.{HasValue}
use Rattle.swift_core.specs.declared.table.Argument.{Argument}
use Rattle.swift_core.specs.declared.table.EnvironmentKey.{EnvironmentKey}
use Rattle.swift_core.specs.declared.table.Signature.{Signature}
use Rattle.swift_core.specs.declared.table.SignatureForm.TheVariants as form
use Rattle.swift_core.specs.declared.table.Table.{Table}
use Rattle.swift_core.specs.declared.ty.Ty.{Ty}
use Rattle.core_means.specs.declared.parts.Frame.{Frame}
use Rattle.value_fits.specs.Cells.{SlotTypes, PlaceFits}

-- what a local or an input is: a value of the type, or a place whose value has it
abbrev pub InputHas : Table → SlotTypes → Local → Input → Type 0
InputHas table types (Local.valued t) (input.Value v) = HasValue table t v
InputHas table types (Local.valued t) (input.Place p) = ⊥
InputHas table types (Local.placed t) (input.Value v) = ⊥
InputHas table types (Local.placed t) (input.Place p) = PlaceFits table types p t

-- The list has such an element at this place.
abbrev pub HasAt : {A : Type 0} → (A → Type 0) → List A → ℕ → Type 0
HasAt {A} P xs i = (x : A) × (slice_get xs i ≡ Some x) × P x

-- The frame is that of a view: each stored property, binding, state slot and environment key has its type.
pub record FrameHas (table : Table) (types : SlotTypes) (d : ℕ) (frame : Frame) : Type 0 where
  pub stored : (s : Signature) (n : ℕ) (b : Binder) (t : Ty) (a : Argument) → HasMember table d s → s.form ≡ form.Stored n b (Some t) a → HasAt (InputHas table types (Local.valued t)) frame.inputs n
  pub bound : (s : Signature) (n : ℕ) (t : Ty) → HasMember table d s → s.form ≡ form.Binding n (Some t) → HasAt (InputHas table types (Local.placed t)) frame.inputs n
  pub slots : (s : Signature) (n : ℕ) (t : Ty) (a : Argument) → HasMember table d s → s.form ≡ form.State n (Some t) a → types frame.path n ≡ Some t
  pub keys : (k : ℕ) (key : EnvironmentKey) (t : Ty) → slice_get table.environment k ≡ Some key → key.ty ≡ Some t → HasAt (HasValue table t) frame.env k
