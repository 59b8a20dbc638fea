-- What modifiers make of a view. Each modifier is a node round its content. The innermost comes first: its arguments from left to
-- right, then its views or the locals that its block keeps, and then its node.
use Rattle.std.specs.Prelude.{ℕ, ◌+◌, ℤ, true, List, [], ◌∷◌, ◌++◌, Option, Some, None}
use Rattle.align_guides.specs.declared.GuideExpr.{GuideExpr}
use Rattle.align_guides.specs.declared.GuideKind.{GuideKind}
use Rattle.identity_path.specs.declared.input.Input.{Input}
use Rattle.identity_path.specs.declared.input.Input.TheVariants as input
use Rattle.identity_path.specs.declared.step.Step.{Step}
use Rattle.identity_path.specs.declared.step.Step.TheVariants as step
use Rattle.sv_value.specs.declared.value.Value.{Value}
use Rattle.sv_value.specs.declared.value.Value.TheVariants as whole
use Rattle.swift_core.specs.declared.ids.BlockId.{BlockId}
use Rattle.swift_core.specs.declared.item.CoreItem.{CoreItem}
use Rattle.swift_core.specs.declared.item.ModifierCall.{ModifierCall}
use Rattle.swift_core.specs.declared.item.ModifierKind.{ModifierKind as CallKind}
use Rattle.swift_core.specs.declared.item.ModifierKind.TheVariants as call
use Rattle.swift_core.specs.declared.term.Core.{Core}
use Rattle.core_means.specs.Asks.{Doing, ◌>>=◌, give, found}
use Rattle.view_nodes.specs.declared.kind.ModifierKind.{ModifierKind}
use Rattle.view_nodes.specs.declared.kind.ModifierKind.TheVariants as kind
use Rattle.view_nodes.specs.declared.kind.ReaderKind.{ReaderKind}
use Rattle.view_nodes.specs.declared.kind.ReaderKind.TheVariants.{Overlay, Background}
use Rattle.view_nodes.specs.declared.node.Element.{Element}
use Rattle.view_nodes.specs.Guides.{checked}
use Rattle.body_means.specs.Building.{Building, content}
use Rattle.body_means.specs.Kept.{block_at, captured_from, handler}
use Rattle.body_means.specs.Elements.{led, all_led, narrow, modifier, reader}
use Rattle.body_means.specs.Views.{number}

-- ---- what the arguments are

abbrev pub option_then : {A B : Type 0} → Option A → (A → Option B) → Option B
option_then None f = None
option_then (Some x) f = f x

-- a number, given or left out
abbrev pub number_in : Option Value → Option (Option ℤ)
number_in None = Some None
number_in (Some v) = option_then (number v) (λ n. Some (Some n))

-- Numbers are kept as they are given: how they are held to limits is a matter of layout.
unfoldable pub numbers_in : List (Option Value) → Option (List (Option ℤ))
numbers_in [] = Some []
numbers_in (o ∷ os) = option_then (number_in o) (λ n. option_then (numbers_in os) (λ ns. Some (n ∷ ns)))

-- a value, or what stands for it where it is left out
abbrev pub value_in : Option Value → Option Value → Option Input
value_in default (Some v) = Some (input.Value v)
value_in None None = None
value_in (Some v) None = Some (input.Value v)

unfoldable pub values_in : Option Value → List (Option Value) → Option (List Input)
values_in default [] = Some []
values_in default (o ∷ os) = option_then (value_in default o) (λ v. option_then (values_in default os) (λ vs. Some (v ∷ vs)))

-- the value of a modifier that has one
abbrev pub only_value : List (Option Value) → Option Value
only_value (Some v ∷ []) = Some v
only_value (Some v ∷ o ∷ os) = None
only_value (None ∷ os) = None
only_value [] = None

-- ---- decorations

-- Overlays, backgrounds and preference readers are decorations, which are counted from the inside.
abbrev pub decorations_in : CallKind → ℕ
decorations_in (call.Overlay a) = 1
decorations_in (call.Background a) = 1
decorations_in (call.OverlayReader k b) = 1
decorations_in (call.BackgroundReader k b) = 1
decorations_in other = 0

-- where a modifier stands: the content that it has, its number on the view expression, and its number among the decorations there
pub record Standing : Type 0 where
  pub wrapped : Element
  pub number : ℕ
  pub decoration : ℕ

module _ (b : Building) (s : Standing) where
  -- only numbers, each given or left out
  unfoldable pub with_numbers : ModifierKind → List (Option Value) → Doing Element
  with_numbers k os = found (numbers_in os) (λ ns. modifier k s.number [] ns [] (s.wrapped ∷ []))

  -- Only truth values. What is left out is true.
  unfoldable pub with_truths : ModifierKind → List (Option Value) → Doing Element
  with_truths k os = found (values_in (Some (whole.Bool true)) os) (λ vs. modifier k s.number vs [] [] (s.wrapped ∷ []))

  -- one value
  unfoldable pub with_value : ModifierKind → List (Option Value) → Doing Element
  with_value k os = found (values_in None os) (λ vs. modifier k s.number vs [] [] (s.wrapped ∷ []))

  -- `.id(v)`: the content stands under the id.
  unfoldable pub with_id : List (Option Value) → Doing Element
  with_id os = found (only_value os) (λ v. modifier kind.Id s.number (input.Value v ∷ []) [] [] (led (step.Id v ∷ []) s.wrapped ∷ []))

  -- A guide divides by no zero.
  unfoldable pub with_guide : GuideKind → GuideExpr → Doing Element
  with_guide g e = found (checked e) (λ expr. modifier (kind.AlignmentGuide g expr) s.number [] [] [] (s.wrapped ∷ []))

  -- An overlay or a background: its views stand behind the content, under the step of the decoration.
  unfoldable pub decorated : ModifierKind → Step → List CoreItem → Doing Element
  decorated k at xs = content b xs >>= λ views. modifier k s.number [] [] [] (s.wrapped ∷ all_led (at ∷ []) views)

  -- A preference reader. What its closure uses of the locals is captured as the reader is made; its builder is a unit of its own.
  unfoldable pub reading : ReaderKind → ℕ → BlockId → Doing Element
  reading k key id = found (block_at b.inside.program b.code id) (λ block. captured_from [] block.code.kept >>= λ captured.
      reader (record { kind = k; number = s.number; decoration = s.decoration; key = key; unit = record { number = block.number }; captured = captured }) s.wrapped)

  -- a block with the locals that it keeps
  unfoldable pub with_block : ModifierKind → List Input → BlockId → Doing Element
  with_block k vs id = handler b id >>= λ h. modifier k s.number vs [] (h ∷ []) (s.wrapped ∷ [])

  -- `.onChange(of: v) { }`
  unfoldable pub on_change : BlockId → List (Option Value) → Doing Element
  on_change id os = found (values_in None os) (λ vs. with_block kind.OnChange vs id)

  abbrev pub modified_at : CallKind → List (Option Value) → List CoreItem → Doing Element
  modified_at (call.FixedFrame a) os xs = with_numbers (kind.FixedFrame a) os
  modified_at (call.FlexibleFrame a) os xs = with_numbers (kind.FlexibleFrame a) os
  modified_at (call.Padding edges) os xs = with_numbers (kind.Padding edges) os
  modified_at call.FixedSize os xs = with_truths kind.FixedSize os
  modified_at call.Offset os xs = with_numbers kind.Offset os
  modified_at call.LayoutPriority os xs = with_numbers kind.LayoutPriority os
  modified_at call.LineLimit os xs = with_numbers kind.LineLimit os
  modified_at (call.AlignmentGuide g e) os xs = with_guide g e
  modified_at (call.Overlay a) os xs = decorated (kind.Overlay a) (step.Overlay s.decoration) xs
  modified_at (call.Background a) os xs = decorated (kind.Background a) (step.Background s.decoration) xs
  modified_at call.Id os xs = with_id os
  modified_at (call.Environment key) os xs = with_value (kind.Environment key) os
  modified_at call.Disabled os xs = with_value kind.Disabled os
  modified_at call.AllowsHitTesting os xs = with_value kind.AllowsHitTesting os
  modified_at (call.Preference key) os xs = with_value (kind.Preference key) os
  modified_at (call.OverlayReader key id) os xs = reading Overlay key id
  modified_at (call.BackgroundReader key id) os xs = reading Background key id
  modified_at (call.OnAppear id) os xs = with_block kind.OnAppear [] id
  modified_at (call.OnDisappear id) os xs = with_block kind.OnDisappear [] id
  modified_at (call.OnChange id) os xs = on_change id os
  modified_at (call.OnPreferenceChange key id) os xs = with_block (kind.OnPreferenceChange key) [] id
  modified_at (call.OnTapGesture id) os xs = with_block kind.OnTapGesture [] id

  unfoldable pub modified : CallKind → List (Option Value) → List CoreItem → Doing Element
  modified k os xs = modified_at k os xs

module _ (b : Building) where
  -- an argument, given or left out
  abbrev pub option_at : Option Core → Doing (Option Value)
  option_at None = give None
  option_at (Some e) = b.inside.eval e >>= λ v. give (Some v)

  unfoldable pub options_from : List (Option Value) → List (Option Core) → Doing (List (Option Value))
  options_from done [] = give done
  options_from done (e ∷ es) = option_at e >>= λ o. options_from (done ++ o ∷ []) es

  unfoldable pub one_modifier : Standing → ModifierCall → Doing Element
  one_modifier s m = options_from [] m.arguments >>= λ os. modified b s m.kind os m.content

  -- the modifiers of a view expression, from the inside
  unfoldable pub modifiers_from : Standing → List ModifierCall → Doing Element
  modifiers_from s [] = give s.wrapped
  modifiers_from s (m ∷ ms) = one_modifier s m >>= λ e. modifiers_from (record { wrapped = e; number = narrow (s.number + 1); decoration = narrow (s.decoration + decorations_in m.kind) }) ms
