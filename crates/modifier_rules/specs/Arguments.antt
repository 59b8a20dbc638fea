-- The modifiers whose arguments are lengths, numbers and truth values: one table of what each takes, and one rule over it.
use Rattle.std.specs.Prelude.{◌≡◌, ◌⊎◌, Bool, true, ◌&&◌, ◌||◌, not, List, [], ◌∷◌, Option, Some, None, is_some, codes, if◌then◌else◌, Result, Ok, Err, ⊤}
use denote.Ref.{Bor}
use Rattle.type_base.specs.declared.fault.Fault.{Fault}
use Rattle.type_base.specs.declared.fault.Fault.TheVariants.{NotTyped, OutOfMemory}
use Rattle.swift_ast.specs.declared.tree.Expr.{Expr}
use Rattle.swift_ast.specs.declared.tree.Arg.{Arg, out-Arg}
use Rattle.swift_core.specs.declared.ty.Ty.TheVariants as ty
use Rattle.swift_core.specs.declared.term.Core.{Core}
use Rattle.swift_core.specs.declared.item.Alignment.{Alignment}
use Rattle.swift_core.specs.declared.item.Edges.{Edges}
use Rattle.swift_core.specs.declared.item.CoreItem.{CoreItem}
use Rattle.swift_core.specs.declared.item.ModifierCall.{ModifierCall, roll-ModifierCall}
use Rattle.swift_core.specs.declared.item.ModifierKind.{ModifierKind}
use Rattle.swift_core.specs.declared.item.ModifierKind.TheVariants as kind
use Rattle.type_base.specs.Claims.{Then, and_then, when, reads_then, reads_give, reads_is, reads_when, reads_cases, bool_is}
use Rattle.type_base.specs.Rules.{PartRule, FindPart, ExactPart}
use Rattle.value_rules.specs.Values.{TypedWanted, infer_wanted, wanted_exact}
use Rattle.modifier_rules.specs.Parts.{Word, label_is, is_plain, expr_at}
use Rattle.modifier_rules.specs.Named.{centre, every_edge, take_edges, last_alignment}
use Rattle.modifier_rules.specs.Lengths.{Length, find_length, length_exact}
use Rattle.modifier_rules.specs.declared.names.Plain.{Plain}
use Rattle.modifier_rules.specs.declared.names.Plain.TheVariants as plain
use Rattle.modifier_rules.specs.declared.names.Slot.{Slot}
use Rattle.modifier_rules.specs.declared.names.Slot.TheVariants as slot

-- ---- the table

-- the label of an argument
abbrev pub slot_label : Slot → Option Word
slot_label slot.Width = Some (codes "width")
slot_label slot.Height = Some (codes "height")
slot_label slot.MinWidth = Some (codes "minWidth")
slot_label slot.IdealWidth = Some (codes "idealWidth")
slot_label slot.MaxWidth = Some (codes "maxWidth")
slot_label slot.MinHeight = Some (codes "minHeight")
slot_label slot.IdealHeight = Some (codes "idealHeight")
slot_label slot.MaxHeight = Some (codes "maxHeight")
slot_label slot.X = Some (codes "x")
slot_label slot.Y = Some (codes "y")
slot_label slot.Spacing = Some (codes "spacing")
slot_label slot.MinLength = Some (codes "minLength")
slot_label slot.Horizontal = Some (codes "horizontal")
slot_label slot.Vertical = Some (codes "vertical")
slot_label slot.Amount = None
slot_label slot.Number = None
slot_label slot.Truth = None

-- what is expected of an argument: a truth value, an Int that is no length, or else a length
abbrev pub SlotValue : Slot → Expr → PartRule Core
SlotValue slot.Horizontal e = TypedWanted e ty.Bool
SlotValue slot.Vertical e = TypedWanted e ty.Bool
SlotValue slot.Truth e = TypedWanted e ty.Bool
SlotValue slot.Number e = TypedWanted e ty.Int
SlotValue _ e = Length e

abbrev pub slot_value : Slot → Expr → FindPart Core
slot_value slot.Horizontal e = infer_wanted e ty.Bool
slot_value slot.Vertical e = infer_wanted e ty.Bool
slot_value slot.Truth e = infer_wanted e ty.Bool
slot_value slot.Number e = infer_wanted e ty.Int
slot_value _ e = find_length e

-- the arguments of a modifier, in order
abbrev pub slots_of : Plain → List Slot
slots_of plain.FixedFrame = slot.Width ∷ slot.Height ∷ []
slots_of plain.FlexibleFrame = slot.MinWidth ∷ slot.IdealWidth ∷ slot.MaxWidth ∷ slot.MinHeight ∷ slot.IdealHeight ∷ slot.MaxHeight ∷ []
slots_of plain.Padding = slot.Amount ∷ []
slots_of plain.FixedSize = slot.Horizontal ∷ slot.Vertical ∷ []
slots_of plain.Offset = slot.X ∷ slot.Y ∷ []
slots_of plain.LayoutPriority = slot.Number ∷ []
slots_of plain.LineLimit = slot.Number ∷ []
slots_of plain.Disabled = slot.Truth ∷ []
slots_of plain.AllowsHitTesting = slot.Truth ∷ []

abbrev pub all_given : List (Option Core) → Bool
all_given [] = true
all_given (x ∷ xs) = is_some x && all_given xs

abbrev pub none_given : List (Option Core) → Bool
none_given [] = true
none_given (x ∷ xs) = not (is_some x) && none_given xs

-- which arguments may be left out: of frames, padding and offset any, of `fixedSize` both or neither, of the others none
abbrev pub is_complete : Plain → List (Option Core) → Bool
is_complete plain.FixedFrame xs = true
is_complete plain.FlexibleFrame xs = true
is_complete plain.Padding xs = true
is_complete plain.Offset xs = true
is_complete plain.FixedSize xs = all_given xs || none_given xs
is_complete _ xs = all_given xs

abbrev pub all_edges : Edges
all_edges = every_edge

-- the edges of a padding stand in front
abbrev pub front_of : Plain → List Arg → Edges × List Arg
front_of plain.Padding args = take_edges args
front_of _ args = (all_edges, args)

abbrev pub no_more : List Arg → Option Alignment
no_more [] = Some centre
no_more (a ∷ rest) = None

-- the alignment of a frame stands behind
abbrev pub back_of : Plain → List Arg → Option Alignment
back_of plain.FixedFrame args = last_alignment args
back_of plain.FlexibleFrame args = last_alignment args
back_of _ args = no_more args

abbrev pub kind_of : Plain → Edges → Alignment → ModifierKind
kind_of plain.FixedFrame e a = kind.FixedFrame a
kind_of plain.FlexibleFrame e a = kind.FlexibleFrame a
kind_of plain.Padding e a = kind.Padding e
kind_of plain.FixedSize e a = kind.FixedSize
kind_of plain.Offset e a = kind.Offset
kind_of plain.LayoutPriority e a = kind.LayoutPriority
kind_of plain.LineLimit e a = kind.LineLimit
kind_of plain.Disabled e a = kind.Disabled
kind_of plain.AllowsHitTesting e a = kind.AllowsHitTesting

abbrev pub call : ModifierKind → List (Option Core) → List CoreItem → ModifierCall
call k arguments content = roll-ModifierCall (record { kind = k; arguments = arguments; content = content })

-- what was found and the arguments behind it, which are lent
abbrev pub Leaves : {A : Type 0} → Result (A × Bor (List Arg)) Fault → Option (A × List Arg) → Type 0
Leaves (Ok r) found = found ≡ Some (r.0, r.1.now)
Leaves (Err NotTyped) found = found ≡ None
Leaves (Err OutOfMemory) found = ⊤

-- ---- the rule

abbrev pub fits : Slot → Arg → Bool
fits s a = elim (slot_label s) [ Some l ↦ label_is a l | None ↦ is_plain a ]

-- the argument, if the first one is it, and the arguments behind it
unfoldable pub Slotted : Slot → List Arg → PartRule (Option Core × List Arg)
Slotted s [] cx r = r ≡ (None, [])
Slotted s (a ∷ rest) cx r =
    ((fits s a ≡ true) × ((e : Expr) × (expr_at (out-Arg a).value ≡ Some e) × ((c : Core) × SlotValue s e cx c × (r ≡ (Some c, rest)))))
    ⊎ (((fits s a ≡ true) → ⊥) × (r ≡ (None, a ∷ rest)))

unfoldable pub slotted : Slot → List Arg → FindPart (Option Core × List Arg)
slotted s [] cx = Some (None, [])
slotted s (a ∷ rest) cx =
    if fits s a then and_then {B = Option Core × List Arg} (expr_at (out-Arg a).value) (λ e. and_then {B = Option Core × List Arg} (slot_value s e cx) (λ c. Some (Some c, rest)))
    else Some (None, a ∷ rest)

-- the arguments in order, each given or left out, and those that are left over
unfoldable pub AllSlotted : List Slot → List Arg → PartRule (List (Option Core) × List Arg)
AllSlotted [] args cx r = r ≡ ([], args)
AllSlotted (s ∷ ss) args cx r =
    (x : Option Core × List Arg) × Slotted s args cx x ×
    ((more : List (Option Core) × List Arg) × AllSlotted ss x.1 cx more ×
    (r ≡ (x.0 ∷ more.0, more.1)))

unfoldable pub all_slotted : List Slot → List Arg → FindPart (List (Option Core) × List Arg)
all_slotted [] args cx = Some ([], args)
all_slotted (s ∷ ss) args cx =
    and_then {B = List (Option Core) × List Arg} (slotted s args cx) (λ x.
    and_then {B = List (Option Core) × List Arg} (all_slotted ss x.1 cx) (λ more.
    Some (x.0 ∷ more.0, more.1)))

unfoldable pub PlainCall : Plain → List Arg → PartRule ModifierCall
PlainCall p args cx r =
    (x : List (Option Core) × List Arg) × AllSlotted (slots_of p) (front_of p args).1 cx x ×
    ((a : Alignment) × (back_of p x.1 ≡ Some a) ×
    ((is_complete p x.0 ≡ true) ×
    (r ≡ call (kind_of p (front_of p args).0 a) x.0 [])))

unfoldable pub plain_call : Plain → List Arg → FindPart ModifierCall
plain_call p args cx =
    and_then (all_slotted (slots_of p) (front_of p args).1 cx) (λ x.
    and_then (back_of p x.1) (λ a.
    when (is_complete p x.0) (
    Some (call (kind_of p (front_of p args).0 a) x.0 []))))

-- ---- laws

slot_value_exact : (s : Slot) (e : Expr) → ExactPart (slot_value s e) (SlotValue s e)
slot_value_exact slot.Horizontal e = wanted_exact e ty.Bool
slot_value_exact slot.Vertical e = wanted_exact e ty.Bool
slot_value_exact slot.Truth e = wanted_exact e ty.Bool
slot_value_exact slot.Number e = wanted_exact e ty.Int
slot_value_exact _ e = length_exact e

pub slotted_exact : (s : Slot) (args : List Arg) → ExactPart (slotted s args) (Slotted s args)
unfolding slotted Slotted Then
slotted_exact s [] cx = reads_give _
slotted_exact s (a ∷ rest) cx = reads_cases bool_is (reads_then (reads_is _) (λ e. reads_then (slot_value_exact s e cx) (λ c. reads_give _))) (reads_give _)

all_slotted_exact : (ss : List Slot) (args : List Arg) → ExactPart (all_slotted ss args) (AllSlotted ss args)
unfolding all_slotted AllSlotted Then
all_slotted_exact [] args cx = reads_give _
all_slotted_exact (s ∷ ss) args cx = reads_then (slotted_exact s args cx) (λ x. reads_then (all_slotted_exact ss x.1 cx) (λ more. reads_give _))

pub plain_call_exact : (p : Plain) (args : List Arg) → ExactPart (plain_call p args) (PlainCall p args)
unfolding plain_call PlainCall Then
plain_call_exact p args cx = reads_then (all_slotted_exact _ _ cx) (λ x. reads_then (reads_is _) (λ a. reads_when bool_is (reads_give _)))
