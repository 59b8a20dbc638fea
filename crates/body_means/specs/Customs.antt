-- The use of a custom view: what fills its stored properties, its bindings and its state slots.
use Rattle.std.specs.Prelude.{ℕ, Bool, true, false, List, [], ◌∷◌, ◌++◌, Option, Some, None, codes, slice_get}
use Rattle.std.specs.List.{filter_map}
use Rattle.std.specs.FinMap as fin
use Rattle.identity_path.specs.declared.input.Input.{Input}
use Rattle.identity_path.specs.declared.input.Input.TheVariants as input
use Rattle.sv_value.specs.declared.value.Value.{Value}
use Rattle.sv_value.specs.declared.value.Value.TheVariants as whole
use Rattle.swift_core.specs.declared.ids.CodeId.{CodeId}
use Rattle.swift_core.specs.declared.table.Declaration.{Declaration}
use Rattle.swift_core.specs.declared.table.Signature.{Signature}
use Rattle.swift_core.specs.declared.table.SignatureForm.{SignatureForm}
use Rattle.swift_core.specs.declared.table.SignatureForm.TheVariants as form
use Rattle.swift_core.specs.declared.term.ChangeCall.{ChangeCall}
use Rattle.swift_core.specs.declared.term.ChangeCall.TheOpen.{Filling-F}
use Rattle.swift_core.specs.declared.term.Change.{Change}
use Rattle.swift_core.specs.declared.term.Core.{Core}
use Rattle.swift_core.specs.declared.term.CoreHop.{CoreHop}
use Rattle.swift_core.specs.declared.term.Filling.{Filling, out-Filling}
use Rattle.swift_core.specs.declared.term.Invocation.{Invocation}
use Rattle.swift_core.specs.declared.term.Piece.{Piece}
use Rattle.swift_core.specs.declared.term.Receiver.{Receiver}
use Rattle.swift_core.specs.declared.term.Target.{Target}
use Rattle.core_means.specs.Asks.{Doing, ◌>>=◌, give, wrong, found}
use Rattle.core_means.specs.Means.{initial}
use Rattle.view_nodes.specs.declared.node.Custom.{Custom}
use Rattle.view_nodes.specs.declared.node.Element.{Element}
use Rattle.body_means.specs.Building.{Building}
use Rattle.body_means.specs.Elements.{custom}

-- ---- inputs and slots

-- Of what an initialiser fills, whether it is a state slot.
abbrev pub slot_kind : SignatureForm → Option Bool
slot_kind (form.Stored n b t a) = Some false
slot_kind (form.Binding n t) = Some false
slot_kind (form.State n t a) = Some true
slot_kind other = None

abbrev pub slot_kinds : List Signature → List Bool
slot_kinds = filter_map (λ s. slot_kind s.form)

-- the stored properties and bindings by their places, and the initial values of the slots by theirs
pub record Filled : Type 0 where
  pub inputs : List Input
  pub initials : List Value

abbrev pub with_part : Bool → Input → Filled → Option Filled
with_part false v filled = Some (record filled { inputs = filled.inputs ++ v ∷ [] })
with_part true (input.Value v) filled = Some (record filled { initials = filled.initials ++ v ∷ [] })
with_part true (input.Place p) filled = None

abbrev pub parted_next : Option Filled → (Filled → Option Filled) → Option Filled
parted_next None f = None
parted_next (Some filled) f = f filled

unfoldable pub parted_from : Filled → List Bool → List Input → Option Filled
parted_from filled [] [] = Some filled
parted_from filled (is_slot ∷ rest) (v ∷ vs) = parted_next (with_part is_slot v filled) (λ more. parted_from more rest vs)
parted_from filled [] (v ∷ vs) = None
parted_from filled (is_slot ∷ rest) [] = None

-- ---- the unit

abbrev pub code_in : Option Signature → Option CodeId
code_in None = None
code_in (Some s) = Some s.code

abbrev pub member_at : Declaration → Option ℕ → Option CodeId
member_at declaration None = None
member_at declaration (Some at) = code_in (slice_get declaration.members at)

-- the code of the body of a view or an app
abbrev pub body_of : Declaration → Option CodeId
body_of declaration = member_at declaration (fin.get declaration.names (codes "body"))

abbrev pub custom_with : Option CodeId → Option Filled → Option Custom
custom_with None filled = None
custom_with (Some code) None = None
custom_with (Some code) (Some filled) = Some (record { unit = record { number = code.number }; inputs = filled.inputs; initials = filled.initials })

-- the use of the view, by what fills what its initialiser takes, in order
abbrev pub custom_of : Declaration → List Input → Option Custom
custom_of declaration vs = custom_with (body_of declaration) (parted_from (record { inputs = []; initials = [] }) (slot_kinds declaration.members) vs)

-- ---- the constructor call

abbrev pub Fills : Type 0
Fills = Filling-F ChangeCall Core CoreHop Filling Piece Receiver Change Invocation Target

module _ (b : Building) where
  -- An argument is a value, or for a binding the place that it is.
  abbrev pub argument_at : Fills → Doing (Option Input)
  argument_at (Filling-F.Given e) = b.inside.eval e >>= λ v. give (Some (input.Value v))
  argument_at (Filling-F.Place t) = b.place t >>= λ p. give (Some (input.Place p))
  argument_at (Filling-F.Initial id) = give None
  argument_at Filling-F.Nil = give None

  unfoldable pub argument : Filling → Doing (Option Input)
  argument f = argument_at (out-Filling f)

  unfoldable pub arguments_from : List (Option Input) → List Filling → Doing (List (Option Input))
  arguments_from done [] = give done
  arguments_from done (f ∷ fs) = argument f >>= λ o. arguments_from (done ++ o ∷ []) fs

  -- What got no argument has its initial value.
  abbrev pub filled_at : Fills → Option Input → Doing Input
  filled_at f (Some v) = give v
  filled_at (Filling-F.Initial id) None = initial b.inside id.number >>= λ v. give (input.Value v)
  filled_at Filling-F.Nil None = give (input.Value (whole.Opt None))
  filled_at (Filling-F.Given e) None = wrong
  filled_at (Filling-F.Place t) None = wrong

  unfoldable pub filled : Filling → Option Input → Doing Input
  filled f o = filled_at (out-Filling f) o

  unfoldable pub filled_from : List Input → List Filling → List (Option Input) → Doing (List Input)
  filled_from done [] [] = give done
  filled_from done (f ∷ fs) (o ∷ os) = filled f o >>= λ v. filled_from (done ++ v ∷ []) fs os
  filled_from done [] (o ∷ os) = wrong
  filled_from done (f ∷ fs) [] = wrong

  -- First the arguments from left to right, and then the initial values, in the order of the properties.
  unfoldable pub fillings : List Filling → Doing (List Input)
  fillings fs = arguments_from [] fs >>= λ os. filled_from [] fs os

  unfoldable pub custom_node : ℕ → List Input → Doing Element
  custom_node d vs = found (slice_get b.inside.program.table.declarations d) (λ declaration. found (custom_of declaration vs) (λ c. custom d c))

  -- The node holds all stored properties, bindings and initial values.
  unfoldable pub custom_view : ℕ → List Filling → Doing Element
  custom_view d fs = fillings fs >>= λ vs. custom_node d vs
