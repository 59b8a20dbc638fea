-- What the items of a builder mention, by the parts of their layers.
use Rattle.std.specs.Prelude.{◌≡◌, [], ◌∷◌, ◌++◌, map, Some, None}
use Rattle.std.specs.List.{flat_map}
use Rattle.std.proofs.Common.{refl, ◌∙◌}
use Rattle.swift_core.specs.Mentions.{Mentions, LabelMentions, joined, core_mentions, filling_mentions, target_mentions, condition_mentions, optional_core_mentions, over_items_mentions, kind_mentions, item_step, label_step, view_step, item_arm_step, item_case_step, modifier_step, item_mentions}
use Rattle.swift_core.specs.Typing.{ItemForm, LabelForm, ViewForm}
use Rattle.swift_core.specs.declared.item.CoreItem.{CoreItem, out-CoreItem}
use Rattle.swift_core.specs.declared.item.CoreItem.TheFolds.{map-CoreItem, map-Label, map-ViewCall, fold_out-CoreItem, fold_out-Label, fold_out-ViewCall, fold_out-ItemArm, fold_out-ItemCase, fold_out-ModifierCall}
use Rattle.swift_core.specs.declared.item.CoreItem.TheOpen.{CoreItem-F, Label-F, ViewCall-F}
use Rattle.swift_core.specs.declared.item.ItemArm.{ItemArm, fold-ItemArm}
use Rattle.swift_core.specs.declared.item.ItemCase.{ItemCase, fold-ItemCase}
use Rattle.swift_core.specs.declared.item.Label.{Label, out-Label, fold-Label}
use Rattle.swift_core.specs.declared.item.ModifierCall.{ModifierCall, fold-ModifierCall}
use Rattle.swift_core.specs.declared.item.ViewCall.{ViewCall, out-ViewCall, fold-ViewCall}
use Rattle.swift_core.specs.declared.mention.Mention.TheVariants as mention

abbrev pub label_mentions : Label → LabelMentions
label_mentions = fold-Label Mentions LabelMentions Mentions Mentions Mentions Mentions item_step label_step view_step item_arm_step item_case_step modifier_step

abbrev pub view_mentions : ViewCall → Mentions
view_mentions = fold-ViewCall Mentions LabelMentions Mentions Mentions Mentions Mentions item_step label_step view_step item_arm_step item_case_step modifier_step

abbrev pub arm_mentions : ItemArm → Mentions
arm_mentions = fold-ItemArm Mentions LabelMentions Mentions Mentions Mentions Mentions item_step label_step view_step item_arm_step item_case_step modifier_step

abbrev pub case_mentions : ItemCase → Mentions
case_mentions = fold-ItemCase Mentions LabelMentions Mentions Mentions Mentions Mentions item_step label_step view_step item_arm_step item_case_step modifier_step

abbrev pub modifier_mentions : ModifierCall → Mentions
modifier_mentions = fold-ModifierCall Mentions LabelMentions Mentions Mentions Mentions Mentions item_step label_step view_step item_arm_step item_case_step modifier_step

-- ---- layers

abbrev pub label_layer : LabelForm → LabelMentions
label_layer (Label-F.«Label::Text» c) = record { before = core_mentions c; after = [] }
label_layer (Label-F.Content items) = record { before = []; after = joined (map item_mentions items) }

abbrev pub view_layer : ViewForm → Mentions
view_layer (ViewCall-F.«ViewCall::Text» c) = core_mentions c
view_layer (ViewCall-F.Image c) = core_mentions c
view_layer (ViewCall-F.Button block label) = (label_mentions label).before ++ (mention.Block block ∷ (label_mentions label).after)
view_layer (ViewCall-F.Toggle target label) = (label_mentions label).before ++ ((target_mentions target).mentions ++ (label_mentions label).after)
view_layer (ViewCall-F.Spacer c) = optional_core_mentions c
view_layer ViewCall-F.Rectangle = []
view_layer ViewCall-F.Empty = []
view_layer (ViewCall-F.Stack axis alignment spacing items) = optional_core_mentions spacing ++ joined (map item_mentions items)
view_layer (ViewCall-F.Group items) = joined (map item_mentions items)
view_layer (ViewCall-F.ForEach over items) = over_items_mentions over ++ joined (map item_mentions items)
view_layer (ViewCall-F.Custom d fillings) = flat_map filling_mentions fillings
view_layer (ViewCall-F.Builder code arguments) = mention.Code code ∷ flat_map core_mentions arguments

abbrev pub item_layer : ItemForm → Mentions
item_layer (CoreItem-F.Local c) = core_mentions c
item_layer (CoreItem-F.If arms None) = joined (map arm_mentions arms) ++ []
item_layer (CoreItem-F.If arms (Some last)) = joined (map arm_mentions arms) ++ joined (map item_mentions last)
item_layer (CoreItem-F.Switch c cases) = core_mentions c ++ joined (map case_mentions cases)
item_layer (CoreItem-F.View view modifiers) = view_mentions view ++ joined (map modifier_mentions modifiers)

-- ---- each is what its layer mentions

label_steps : (l : LabelForm) → label_step (map-Label CoreItem Label ViewCall ItemArm ItemCase ModifierCall Mentions LabelMentions Mentions Mentions Mentions Mentions item_mentions label_mentions view_mentions arm_mentions case_mentions modifier_mentions l) ≡ label_layer l
label_steps (Label-F.«Label::Text» c) = refl
label_steps (Label-F.Content items) = refl

pub label_is : (x : Label) → label_mentions x ≡ label_layer (out-Label x)
label_is x = fold_out-Label Mentions LabelMentions Mentions Mentions Mentions Mentions item_step label_step view_step item_arm_step item_case_step modifier_step x ∙ label_steps (out-Label x)

view_steps : (l : ViewForm) → view_step (map-ViewCall CoreItem Label ViewCall ItemArm ItemCase ModifierCall Mentions LabelMentions Mentions Mentions Mentions Mentions item_mentions label_mentions view_mentions arm_mentions case_mentions modifier_mentions l) ≡ view_layer l
view_steps (ViewCall-F.«ViewCall::Text» c) = refl
view_steps (ViewCall-F.Image c) = refl
view_steps (ViewCall-F.Button block label) = refl
view_steps (ViewCall-F.Toggle target label) = refl
view_steps (ViewCall-F.Spacer c) = refl
view_steps ViewCall-F.Rectangle = refl
view_steps ViewCall-F.Empty = refl
view_steps (ViewCall-F.Stack axis alignment spacing items) = refl
view_steps (ViewCall-F.Group items) = refl
view_steps (ViewCall-F.ForEach over items) = refl
view_steps (ViewCall-F.Custom d fillings) = refl
view_steps (ViewCall-F.Builder code arguments) = refl

pub view_is : (x : ViewCall) → view_mentions x ≡ view_layer (out-ViewCall x)
view_is x = fold_out-ViewCall Mentions LabelMentions Mentions Mentions Mentions Mentions item_step label_step view_step item_arm_step item_case_step modifier_step x ∙ view_steps (out-ViewCall x)

item_steps : (l : ItemForm) → item_step (map-CoreItem CoreItem Label ViewCall ItemArm ItemCase ModifierCall Mentions LabelMentions Mentions Mentions Mentions Mentions item_mentions label_mentions view_mentions arm_mentions case_mentions modifier_mentions l) ≡ item_layer l
item_steps (CoreItem-F.Local c) = refl
item_steps (CoreItem-F.If arms None) = refl
item_steps (CoreItem-F.If arms (Some last)) = refl
item_steps (CoreItem-F.Switch c cases) = refl
item_steps (CoreItem-F.View view modifiers) = refl

pub item_is : (x : CoreItem) → item_mentions x ≡ item_layer (out-CoreItem x)
item_is x = fold_out-CoreItem Mentions LabelMentions Mentions Mentions Mentions Mentions item_step label_step view_step item_arm_step item_case_step modifier_step x ∙ item_steps (out-CoreItem x)

pub arm_is : (a : ItemArm) → arm_mentions a ≡ flat_map condition_mentions a.conditions ++ joined (map item_mentions a.body)
arm_is a = fold_out-ItemArm Mentions LabelMentions Mentions Mentions Mentions Mentions item_step label_step view_step item_arm_step item_case_step modifier_step a

pub case_is : (c : ItemCase) → case_mentions c ≡ joined (map item_mentions c.body)
case_is c = fold_out-ItemCase Mentions LabelMentions Mentions Mentions Mentions Mentions item_step label_step view_step item_arm_step item_case_step modifier_step c

pub modifier_is : (m : ModifierCall) → modifier_mentions m ≡ flat_map optional_core_mentions m.arguments ++ (kind_mentions m.kind ++ joined (map item_mentions m.content))
modifier_is m = fold_out-ModifierCall Mentions LabelMentions Mentions Mentions Mentions Mentions item_step label_step view_step item_arm_step item_case_step modifier_step m
