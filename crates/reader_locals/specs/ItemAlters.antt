-- What the items of a builder alter, by the parts of their layers.
use Rattle.std.specs.Prelude.{◌≡◌, [], ◌++◌, map, Some, None}
use Rattle.std.specs.List.{flat_map}
use Rattle.std.proofs.Common.{refl, ◌∙◌}
use Rattle.swift_core.specs.Typing.{ItemForm, LabelForm, ViewForm}
use Rattle.swift_core.specs.declared.item.CoreItem.{CoreItem, out-CoreItem}
use Rattle.swift_core.specs.declared.item.CoreItem.TheFolds.{map-CoreItem, map-Label, map-ViewCall, fold_out-CoreItem, fold_out-Label, fold_out-ViewCall, fold_out-ItemArm, fold_out-ItemCase, fold_out-ModifierCall}
use Rattle.swift_core.specs.declared.item.CoreItem.TheOpen.{CoreItem-F, Label-F, ViewCall-F}
use Rattle.swift_core.specs.declared.item.ItemArm.{ItemArm, fold-ItemArm}
use Rattle.swift_core.specs.declared.item.ItemCase.{ItemCase, fold-ItemCase}
use Rattle.swift_core.specs.declared.item.Label.{Label, out-Label, fold-Label}
use Rattle.swift_core.specs.declared.item.ModifierCall.{ModifierCall, fold-ModifierCall}
use Rattle.swift_core.specs.declared.item.ViewCall.{ViewCall, out-ViewCall, fold-ViewCall}
use Rattle.swift_core.specs.Alters.{Alters, all_of, core_alters, filling_alters, target_alters, condition_alters, optional_alters, over_items_alters, item_step, label_step, view_step, item_arm_step, item_case_step, modifier_step, item_alters}

abbrev pub label_alters : Label → Alters
label_alters = fold-Label Alters Alters Alters Alters Alters Alters item_step label_step view_step item_arm_step item_case_step modifier_step

abbrev pub view_alters : ViewCall → Alters
view_alters = fold-ViewCall Alters Alters Alters Alters Alters Alters item_step label_step view_step item_arm_step item_case_step modifier_step

abbrev pub arm_alters : ItemArm → Alters
arm_alters = fold-ItemArm Alters Alters Alters Alters Alters Alters item_step label_step view_step item_arm_step item_case_step modifier_step

abbrev pub case_alters : ItemCase → Alters
case_alters = fold-ItemCase Alters Alters Alters Alters Alters Alters item_step label_step view_step item_arm_step item_case_step modifier_step

abbrev pub modifier_alters : ModifierCall → Alters
modifier_alters = fold-ModifierCall Alters Alters Alters Alters Alters Alters item_step label_step view_step item_arm_step item_case_step modifier_step

-- ---- layers

abbrev pub label_layer : LabelForm → Alters
label_layer (Label-F.«Label::Text» c) = core_alters c
label_layer (Label-F.Content items) = all_of (map item_alters items)

abbrev pub view_layer : ViewForm → Alters
view_layer (ViewCall-F.«ViewCall::Text» c) = core_alters c
view_layer (ViewCall-F.Image c) = core_alters c
view_layer (ViewCall-F.Button block label) = label_alters label
view_layer (ViewCall-F.Toggle target label) = (target_alters target).indexes ++ label_alters label
view_layer (ViewCall-F.Spacer c) = optional_alters c
view_layer ViewCall-F.Rectangle = []
view_layer ViewCall-F.Empty = []
view_layer (ViewCall-F.Stack axis alignment spacing items) = optional_alters spacing ++ all_of (map item_alters items)
view_layer (ViewCall-F.Group items) = all_of (map item_alters items)
view_layer (ViewCall-F.ForEach over items) = over_items_alters over ++ all_of (map item_alters items)
view_layer (ViewCall-F.Custom d fillings) = flat_map filling_alters fillings
view_layer (ViewCall-F.Builder code arguments) = flat_map core_alters arguments

abbrev pub item_layer : ItemForm → Alters
item_layer (CoreItem-F.Local c) = core_alters c
item_layer (CoreItem-F.If arms None) = all_of (map arm_alters arms) ++ []
item_layer (CoreItem-F.If arms (Some last)) = all_of (map arm_alters arms) ++ all_of (map item_alters last)
item_layer (CoreItem-F.Switch c cases) = core_alters c ++ all_of (map case_alters cases)
item_layer (CoreItem-F.View view modifiers) = view_alters view ++ all_of (map modifier_alters modifiers)

-- ---- each is what its layer alters

label_steps : (l : LabelForm) → label_step (map-Label CoreItem Label ViewCall ItemArm ItemCase ModifierCall Alters Alters Alters Alters Alters Alters item_alters label_alters view_alters arm_alters case_alters modifier_alters l) ≡ label_layer l
label_steps (Label-F.«Label::Text» c) = refl
label_steps (Label-F.Content items) = refl

pub label_is : (x : Label) → label_alters x ≡ label_layer (out-Label x)
label_is x = fold_out-Label Alters Alters Alters Alters Alters Alters item_step label_step view_step item_arm_step item_case_step modifier_step x ∙ label_steps (out-Label x)

view_steps : (l : ViewForm) → view_step (map-ViewCall CoreItem Label ViewCall ItemArm ItemCase ModifierCall Alters Alters Alters Alters Alters Alters item_alters label_alters view_alters arm_alters case_alters modifier_alters l) ≡ view_layer l
view_steps (ViewCall-F.«ViewCall::Text» c) = refl
view_steps (ViewCall-F.Image c) = refl
view_steps (ViewCall-F.Button block label) = refl
view_steps (ViewCall-F.Toggle target label) = refl
view_steps (ViewCall-F.Spacer c) = refl
view_steps ViewCall-F.Rectangle = refl
view_steps ViewCall-F.Empty = refl
view_steps (ViewCall-F.Stack axis alignment spacing items) = refl
view_steps (ViewCall-F.Group items) = refl
view_steps (ViewCall-F.ForEach over items) = refl
view_steps (ViewCall-F.Custom d fillings) = refl
view_steps (ViewCall-F.Builder code arguments) = refl

pub view_is : (x : ViewCall) → view_alters x ≡ view_layer (out-ViewCall x)
view_is x = fold_out-ViewCall Alters Alters Alters Alters Alters Alters item_step label_step view_step item_arm_step item_case_step modifier_step x ∙ view_steps (out-ViewCall x)

item_steps : (l : ItemForm) → item_step (map-CoreItem CoreItem Label ViewCall ItemArm ItemCase ModifierCall Alters Alters Alters Alters Alters Alters item_alters label_alters view_alters arm_alters case_alters modifier_alters l) ≡ item_layer l
item_steps (CoreItem-F.Local c) = refl
item_steps (CoreItem-F.If arms None) = refl
item_steps (CoreItem-F.If arms (Some last)) = refl
item_steps (CoreItem-F.Switch c cases) = refl
item_steps (CoreItem-F.View view modifiers) = refl

pub item_is : (x : CoreItem) → item_alters x ≡ item_layer (out-CoreItem x)
item_is x = fold_out-CoreItem Alters Alters Alters Alters Alters Alters item_step label_step view_step item_arm_step item_case_step modifier_step x ∙ item_steps (out-CoreItem x)

pub arm_is : (a : ItemArm) → arm_alters a ≡ flat_map condition_alters a.conditions ++ all_of (map item_alters a.body)
arm_is a = fold_out-ItemArm Alters Alters Alters Alters Alters Alters item_step label_step view_step item_arm_step item_case_step modifier_step a

pub case_is : (c : ItemCase) → case_alters c ≡ all_of (map item_alters c.body)
case_is c = fold_out-ItemCase Alters Alters Alters Alters Alters Alters item_step label_step view_step item_arm_step item_case_step modifier_step c

pub modifier_is : (m : ModifierCall) → modifier_alters m ≡ flat_map optional_alters m.arguments ++ all_of (map item_alters m.content)
modifier_is m = fold_out-ModifierCall Alters Alters Alters Alters Alters Alters item_step label_step view_step item_arm_step item_case_step modifier_step m
