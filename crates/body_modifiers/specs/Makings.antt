-- What kinds of modifiers are made of.
use Rattle.std.specs.Prelude.{ℕ, List, [], Option}
use Rattle.identity_path.specs.declared.step.Step.TheVariants as step
use Rattle.sv_value.specs.declared.value.Value.{Value}
use Rattle.swift_core.specs.declared.item.CoreItem.{CoreItem}
use Rattle.swift_core.specs.declared.item.ModifierKind.{ModifierKind as CallKind}
use Rattle.swift_core.specs.declared.item.ModifierKind.TheVariants as call
use Rattle.core_means.specs.Asks.{Doing}
use Rattle.view_nodes.specs.declared.kind.ModifierKind.TheVariants as kind
use Rattle.view_nodes.specs.declared.kind.ReaderKind.TheVariants.{Overlay, Background}
use Rattle.view_nodes.specs.declared.node.Element.{Element}
use Rattle.body_means.specs.Building.{Building}
use Rattle.body_means.specs.Modified.{Standing, with_numbers, with_truths, with_value, with_id, with_guide, decorated, reading, with_block, on_change}
use Rattle.body_modifiers.specs.declared.makes.Makes.{Makes}
use Rattle.body_modifiers.specs.declared.makes.Makes.TheVariants as makes_kind

-- what a kind is made of, where so many decorations stand before it
unfoldable pub makes : ℕ → CallKind → Makes
makes n (call.FixedFrame a) = makes_kind.Numbers (kind.FixedFrame a)
makes n (call.FlexibleFrame a) = makes_kind.Numbers (kind.FlexibleFrame a)
makes n (call.Padding edges) = makes_kind.Numbers (kind.Padding edges)
makes n call.FixedSize = makes_kind.Truths kind.FixedSize
makes n call.Offset = makes_kind.Numbers kind.Offset
makes n call.LayoutPriority = makes_kind.Numbers kind.LayoutPriority
makes n call.LineLimit = makes_kind.Numbers kind.LineLimit
makes n (call.AlignmentGuide g e) = makes_kind.Guide g e
makes n (call.Overlay a) = makes_kind.Views (kind.Overlay a) (step.Overlay n)
makes n (call.Background a) = makes_kind.Views (kind.Background a) (step.Background n)
makes n call.Id = makes_kind.Id
makes n (call.Environment key) = makes_kind.Value (kind.Environment key)
makes n call.Disabled = makes_kind.Value kind.Disabled
makes n call.AllowsHitTesting = makes_kind.Value kind.AllowsHitTesting
makes n (call.Preference key) = makes_kind.Value (kind.Preference key)
makes n (call.OverlayReader key id) = makes_kind.Reader Overlay key id
makes n (call.BackgroundReader key id) = makes_kind.Reader Background key id
makes n (call.OnAppear id) = makes_kind.Action kind.OnAppear id
makes n (call.OnDisappear id) = makes_kind.Action kind.OnDisappear id
makes n (call.OnChange id) = makes_kind.Change id
makes n (call.OnPreferenceChange key id) = makes_kind.Action (kind.OnPreferenceChange key) id
makes n (call.OnTapGesture id) = makes_kind.Action kind.OnTapGesture id

-- the node of it
unfoldable pub made_by : Building → Standing → Makes → List (Option Value) → List CoreItem → Doing Element
made_by b s (makes_kind.Numbers k) os xs = with_numbers b s k os
made_by b s (makes_kind.Truths k) os xs = with_truths b s k os
made_by b s (makes_kind.Value k) os xs = with_value b s k os
made_by b s makes_kind.Id os xs = with_id b s os
made_by b s (makes_kind.Guide g e) os xs = with_guide b s g e
made_by b s (makes_kind.Views k at) os xs = decorated b s k at xs
made_by b s (makes_kind.Reader k key id) os xs = reading b s k key id
made_by b s (makes_kind.Action k id) os xs = with_block b s k [] id
made_by b s (makes_kind.Change id) os xs = on_change b s id os
