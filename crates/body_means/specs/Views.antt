-- What a view expression means before its modifiers.
use Rattle.std.specs.Prelude.{ℕ, ℤ, List, [], ◌∷◌, Option, Some, None}
use Rattle.align_guides.specs.declared.Axis.{Axis}
use Rattle.align_guides.specs.declared.Axis.TheVariants as axis
use Rattle.identity_path.specs.declared.input.Input.TheVariants as input
use Rattle.identity_path.specs.declared.step.Step.TheVariants as step
use Rattle.sv_value.specs.declared.value.Value.{Value, out-Value}
use Rattle.sv_value.specs.declared.value.Value.TheOpen as one
use Rattle.sv_value.specs.declared.value.Value.TheOpen.{Value-F}
use Rattle.swift_core.specs.declared.code.Code.{Code}
use Rattle.swift_core.specs.declared.code.CodeForm.{CodeForm}
use Rattle.swift_core.specs.declared.code.CodeForm.TheVariants as code_form
use Rattle.swift_core.specs.declared.ids.BlockId.{BlockId}
use Rattle.swift_core.specs.declared.ids.CodeId.{CodeId}
use Rattle.swift_core.specs.declared.item.Alignment.{Alignment}
use Rattle.swift_core.specs.declared.item.CoreItem.{CoreItem}
use Rattle.swift_core.specs.declared.item.CoreItem.TheOpen.{Label-F, ViewCall-F}
use Rattle.swift_core.specs.declared.item.ItemArm.{ItemArm}
use Rattle.swift_core.specs.declared.item.ItemCase.{ItemCase}
use Rattle.swift_core.specs.declared.item.Label.{Label, out-Label}
use Rattle.swift_core.specs.declared.item.ModifierCall.{ModifierCall}
use Rattle.swift_core.specs.declared.item.ViewCall.{ViewCall, out-ViewCall}
use Rattle.swift_core.specs.declared.term.Core.{Core}
use Rattle.swift_core.specs.declared.term.Target.{Target}
use Rattle.swift_core.specs.Codes.{Parts as Program}
use Rattle.core_means.specs.Asks.{Doing, ◌>>=◌, give, given, found}
use Rattle.core_means.specs.Means.{code_of, held, values_from, within}
use Rattle.view_nodes.specs.declared.kind.NodeKind.TheVariants as node
use Rattle.view_nodes.specs.declared.node.Element.{Element}
use Rattle.body_means.specs.Building.{Building, Bound, bound, content, views_from}
use Rattle.body_means.specs.Customs.{custom_view}
use Rattle.body_means.specs.Each.{for_each}
use Rattle.body_means.specs.Kept.{handler}
use Rattle.body_means.specs.Elements.{view, text, led}

-- ---- numbers

abbrev pub number_at : Value-F Value → Option ℤ
number_at (one.Int n) = Some n
number_at v = None

unfoldable pub number : Value → Option ℤ
number v = number_at (out-Value v)

-- A stack along an axis has a spacing, given or left out; one along `Z` has none.
abbrev pub spacings : Axis → Option ℤ → List (Option ℤ)
spacings axis.H n = n ∷ []
spacings axis.V n = n ∷ []
spacings axis.Z n = []

-- ---- properties and functions that give views

abbrev pub items_in : CodeForm → Option (List CoreItem)
items_in (code_form.Value e) = None
items_in (code_form.Statements ss) = None
items_in (code_form.Builder xs) = Some xs

abbrev pub items_of : Option Code → Option (List CoreItem)
items_of None = None
items_of (Some c) = items_in c.form

-- the items of a piece of code that gives views
abbrev pub items_at : Program → ℕ → Option (List CoreItem)
items_at p id = items_of (code_of p id)

-- ---- views

abbrev pub LabelForm : Type 0
LabelForm = Label-F CoreItem Label ViewCall ItemArm ItemCase ModifierCall

abbrev pub ViewForm : Type 0
ViewForm = ViewCall-F CoreItem Label ViewCall ItemArm ItemCase ModifierCall

module _ (b : Building) where
  abbrev pub number_from : Option Core → Doing (Option ℤ)
  number_from None = give None
  number_from (Some e) = b.inside.eval e >>= λ v. given (number v) >>= λ n. give (Some n)

  -- A number that may be left out. It is kept as it is: what is negative counts as 0 where it is laid out.
  unfoldable pub number_of : Option Core → Doing (Option ℤ)
  number_of o = number_from o

  -- `Text(s)`
  unfoldable pub text_view : Core → Doing Element
  text_view e = b.inside.eval e >>= λ v. text v

  -- `Image(systemName: s)`
  unfoldable pub image : Core → Doing Element
  image e = b.inside.eval e >>= λ v. view node.Image (input.Value v ∷ []) [] [] []

  -- A label that is a string is a builder of that one text, which is no item and spends no fuel of its own.
  unfoldable pub text_label : Core → Doing (List Element)
  text_label e = text_view e >>= λ t. give (led (step.Child 0 ∷ []) t ∷ [])

  abbrev pub label_at : LabelForm → Doing (List Element)
  label_at (Label-F.«Label::Text» e) = text_label e
  label_at (Label-F.Content xs) = content b xs

  unfoldable pub label : Label → Doing (List Element)
  label l = label_at (out-Label l)

  -- The views of the label first, then the action with the locals that it keeps.
  unfoldable pub button : BlockId → Label → Doing Element
  button id l = label l >>= λ views. handler b id >>= λ h. view node.Button [] [] (h ∷ []) views

  -- A toggle holds its place and the value that is looked up there.
  unfoldable pub toggle_node : List Element → Bound → Doing Element
  toggle_node views x = view node.Toggle (input.Place x.place ∷ input.Value x.value ∷ []) [] [] views

  -- In the order in which they are written: `Toggle(s, isOn: b)`, and `Toggle(isOn: b) { B }`.
  abbrev pub toggle_at : Target → LabelForm → Doing Element
  toggle_at t (Label-F.«Label::Text» e) = text_label e >>= λ views. bound b t >>= λ x. toggle_node views x
  toggle_at t (Label-F.Content xs) = bound b t >>= λ x. content b xs >>= λ views. toggle_node views x

  unfoldable pub toggle : Target → Label → Doing Element
  toggle t l = toggle_at t (out-Label l)

  unfoldable pub spacer : Option Core → Doing Element
  spacer o = number_of o >>= λ n. view node.Spacer [] (n ∷ []) [] []

  -- the spacing, and then the content
  unfoldable pub stack : Axis → Alignment → Option Core → List CoreItem → Doing Element
  stack a alignment o xs = number_of o >>= λ n. content b xs >>= λ views. view (node.Stack a alignment) [] (spacings a n) [] views

  unfoldable pub group : List CoreItem → Doing Element
  group xs = content b xs >>= λ views. view node.Group [] [] [] views

  -- The views of a property or a function of the program, whose locals are its arguments alone.
  unfoldable pub views_of : CodeId → List Value → Doing (List Element)
  views_of id vs = found (items_at b.inside.program id.number) (λ xs. within (held vs) None (views_from (b.item id.number) [] xs))

  -- A use of one is a `Group` round its builder. It does not hold the arguments.
  unfoldable pub builder : CodeId → List Core → Doing Element
  builder id es = values_from b.inside [] es >>= λ vs. views_of id vs >>= λ views. view node.Group [] [] [] views

  abbrev pub view_at : ViewForm → Doing Element
  view_at (ViewCall-F.«ViewCall::Text» e) = text_view e
  view_at (ViewCall-F.Image e) = image e
  view_at (ViewCall-F.Button id l) = button id l
  view_at (ViewCall-F.Toggle t l) = toggle t l
  view_at (ViewCall-F.Spacer o) = spacer o
  view_at ViewCall-F.Rectangle = view node.Rectangle [] [] [] []
  view_at ViewCall-F.Empty = view node.Empty [] [] [] []
  view_at (ViewCall-F.Stack a alignment o xs) = stack a alignment o xs
  view_at (ViewCall-F.Group xs) = group xs
  view_at (ViewCall-F.ForEach o xs) = for_each b o xs
  view_at (ViewCall-F.Custom d fs) = custom_view b d fs
  view_at (ViewCall-F.Builder id es) = builder id es

  unfoldable pub view_form : ViewCall → Doing Element
  view_form v = view_at (out-ViewCall v)
