-- Which locals of a builder its terms alter: those that a call which changes a value stands on. The code that a term runs has locals
-- of its own.
use Rattle.std.specs.Prelude.{ℕ, List, [], ◌∷◌, ◌++◌, Option, Some, None}
use Rattle.std.specs.List.{flat_map}
use Rattle.swift_core.specs.declared.item.CoreItem.{CoreItem, fold-CoreItem}
use Rattle.swift_core.specs.declared.item.CoreItem.TheOpen.{CoreItem-F, Label-F, ViewCall-F, ItemArm-F, ItemCase-F, ModifierCall-F}
use Rattle.swift_core.specs.declared.item.ForEachOver.{ForEachOver}
use Rattle.swift_core.specs.declared.item.ForEachOver.TheVariants as over_items
use Rattle.swift_core.specs.declared.stmt.Condition.{Condition}
use Rattle.swift_core.specs.declared.stmt.Condition.TheVariants as condition
use Rattle.swift_core.specs.declared.stmt.Over.{Over}
use Rattle.swift_core.specs.declared.stmt.Over.TheVariants as over
use Rattle.swift_core.specs.declared.term.ChangeCall.TheOpen.{Core-F, ChangeCall-F, CoreHop-F, Filling-F, Piece-F, Receiver-F, Change-F, Invocation-F, Target-F}
use Rattle.swift_core.specs.declared.term.Core.{Core, fold-Core}
use Rattle.swift_core.specs.declared.term.Filling.{Filling, fold-Filling}
use Rattle.swift_core.specs.declared.term.Root.{Root}
use Rattle.swift_core.specs.declared.term.Root.TheVariants as root
use Rattle.swift_core.specs.declared.term.Target.{Target, fold-Target}

-- locals by their places
abbrev pub Alters : Type 0
Alters = List ℕ

-- the local that a target begins with, if it does, and what its indexes alter
pub record TargetAlters : Type 0 where
  pub root : Alters
  pub indexes : Alters

abbrev pub all_of : List Alters → Alters
all_of = flat_map (λ ns. ns)

-- ---- terms that give a value

abbrev pub root_alters : Root → Alters
root_alters (root.Local i) = i ∷ []
root_alters other = []

abbrev pub core_step : Core-F Alters Alters Alters Alters Alters Alters Alters Alters TargetAlters → Alters
core_step (Core-F.Literal v) = []
core_step (Core-F.Look l) = []
core_step (Core-F.«Core::Text» pieces) = all_of pieces
core_step (Core-F.List parts) = all_of parts
core_step (Core-F.Promote a) = a
core_step (Core-F.Unary op a) = a
core_step (Core-F.Binary op a b) = a ++ b
core_step (Core-F.Choose c a b) = c ++ (a ++ b)
core_step (Core-F.Make d fillings) = all_of fillings
core_step (Core-F.Static code) = []
core_step (Core-F.Invoke invocation) = invocation
core_step (Core-F.Change change) = change

abbrev pub piece_step : Piece-F Alters Alters Alters Alters Alters Alters Alters Alters TargetAlters → Alters
piece_step (Piece-F.«Piece::Text» w) = []
piece_step (Piece-F.Hole c) = c

abbrev pub filling_step : Filling-F Alters Alters Alters Alters Alters Alters Alters Alters TargetAlters → Alters
filling_step (Filling-F.Given c) = c
filling_step (Filling-F.Place target) = target.indexes
filling_step (Filling-F.Initial code) = []
filling_step Filling-F.Nil = []

abbrev pub receiver_step : Receiver-F Alters Alters Alters Alters Alters Alters Alters Alters TargetAlters → Alters
receiver_step Receiver-F.Same = []
receiver_step (Receiver-F.Value c) = c

abbrev pub hop_step : CoreHop-F Alters Alters Alters Alters Alters Alters Alters Alters TargetAlters → Alters
hop_step (CoreHop-F.Field n) = []
hop_step (CoreHop-F.Index c) = c

abbrev pub call_step : ChangeCall-F Alters Alters Alters Alters Alters Alters Alters Alters TargetAlters → Alters
call_step ChangeCall-F.Toggle = []
call_step (ChangeCall-F.Append c) = c
call_step (ChangeCall-F.AppendAll c) = c
call_step (ChangeCall-F.Insert c i) = c ++ i
call_step (ChangeCall-F.Remove i) = i
call_step ChangeCall-F.RemoveFirst = []
call_step ChangeCall-F.RemoveLast = []
call_step ChangeCall-F.RemoveAll = []
call_step (ChangeCall-F.SwapAt i j) = i ++ j
call_step (ChangeCall-F.Mutate code arguments) = all_of arguments

abbrev pub invocation_step : Invocation-F Alters Alters Alters Alters Alters Alters Alters Alters TargetAlters → Alters
invocation_step i = i.receiver ++ all_of i.arguments

abbrev pub target_step : Target-F Alters Alters Alters Alters Alters Alters Alters Alters TargetAlters → TargetAlters
target_step t = record { root = root_alters t.root; indexes = all_of t.hops }

-- A call that changes a value alters the local that its target begins with.
abbrev pub change_step : Change-F Alters Alters Alters Alters Alters Alters Alters Alters TargetAlters → Alters
change_step c = c.target.root ++ (c.target.indexes ++ c.call)

abbrev pub core_alters : Core → Alters
core_alters = fold-Core Alters Alters Alters Alters Alters Alters Alters Alters TargetAlters call_step core_step hop_step filling_step piece_step receiver_step change_step invocation_step target_step

abbrev pub filling_alters : Filling → Alters
filling_alters = fold-Filling Alters Alters Alters Alters Alters Alters Alters Alters TargetAlters call_step core_step hop_step filling_step piece_step receiver_step change_step invocation_step target_step

abbrev pub target_alters : Target → TargetAlters
target_alters = fold-Target Alters Alters Alters Alters Alters Alters Alters Alters TargetAlters call_step core_step hop_step filling_step piece_step receiver_step change_step invocation_step target_step

-- ---- the items of a builder

abbrev pub condition_alters : Condition → Alters
condition_alters (condition.Test c) = core_alters c
condition_alters (condition.Bind c) = core_alters c

abbrev pub over_alters : Over → Alters
over_alters (over.UpTo a b) = core_alters a ++ core_alters b
over_alters (over.Through a b) = core_alters a ++ core_alters b
over_alters (over.Indices c) = core_alters c
over_alters (over.List c) = core_alters c

abbrev pub optional_alters : Option Core → Alters
optional_alters None = []
optional_alters (Some c) = core_alters c

abbrev pub over_items_alters : ForEachOver → Alters
over_items_alters (over_items.Numbers o) = over_alters o
over_items_alters (over_items.Values c rule) = core_alters c
over_items_alters (over_items.Places target rule) = (target_alters target).indexes

abbrev pub else_alters : Option (List Alters) → Alters
else_alters None = []
else_alters (Some body) = all_of body

abbrev pub label_step : Label-F Alters Alters Alters Alters Alters Alters → Alters
label_step (Label-F.«Label::Text» c) = core_alters c
label_step (Label-F.Content items) = all_of items

abbrev pub view_step : ViewCall-F Alters Alters Alters Alters Alters Alters → Alters
view_step (ViewCall-F.«ViewCall::Text» c) = core_alters c
view_step (ViewCall-F.Image c) = core_alters c
view_step (ViewCall-F.Button block label) = label
view_step (ViewCall-F.Toggle target label) = (target_alters target).indexes ++ label
view_step (ViewCall-F.Spacer c) = optional_alters c
view_step ViewCall-F.Rectangle = []
view_step ViewCall-F.Empty = []
view_step (ViewCall-F.Stack axis alignment spacing items) = optional_alters spacing ++ all_of items
view_step (ViewCall-F.Group items) = all_of items
view_step (ViewCall-F.ForEach over items) = over_items_alters over ++ all_of items
view_step (ViewCall-F.Custom d fillings) = flat_map filling_alters fillings
view_step (ViewCall-F.Builder code arguments) = flat_map core_alters arguments

abbrev pub item_step : CoreItem-F Alters Alters Alters Alters Alters Alters → Alters
item_step (CoreItem-F.Local c) = core_alters c
item_step (CoreItem-F.If arms last) = all_of arms ++ else_alters last
item_step (CoreItem-F.Switch c cases) = core_alters c ++ all_of cases
item_step (CoreItem-F.View view modifiers) = view ++ all_of modifiers

abbrev pub item_arm_step : ItemArm-F Alters Alters Alters Alters Alters Alters → Alters
item_arm_step a = flat_map condition_alters a.conditions ++ all_of a.body

abbrev pub item_case_step : ItemCase-F Alters Alters Alters Alters Alters Alters → Alters
item_case_step c = all_of c.body

abbrev pub modifier_step : ModifierCall-F Alters Alters Alters Alters Alters Alters → Alters
modifier_step m = flat_map optional_alters m.arguments ++ all_of m.content

abbrev pub item_alters : CoreItem → Alters
item_alters = fold-CoreItem Alters Alters Alters Alters Alters Alters item_step label_step view_step item_arm_step item_case_step modifier_step

-- the locals that the items of a builder alter
abbrev pub items_alter : List CoreItem → Alters
items_alter = flat_map item_alters
