-- Views with content, and what a view expression is.
-- After The Swift Programming Language, 'Result-Building Methods', and the views of SwiftUI.
use Rattle.std.specs.Prelude.{◌≡◌, ℕ, Bool, true, false, List, length, Option, Some, None, is_some, if◌then◌else◌}
use Rattle.align_guides.specs.declared.Axis.{Axis}
use Rattle.std.proofs.Common.{refl}
use Rattle.align_guides.specs.declared.Axis.TheVariants as axis
use Rattle.swift_ast.specs.declared.tree.Expr.{Expr}
use Rattle.swift_ast.specs.declared.tree.Arg.{Arg}
use Rattle.swift_ast.specs.declared.tree.Tail.{Tail}
use Rattle.swift_ast.specs.declared.tree.Stmt.{Stmt}
use Rattle.swift_ast.specs.declared.tree.Selector.{Selector}
use Rattle.swift_ast.specs.declared.tree.Closure.{Closure, out-Closure}
use Rattle.swift_ast.specs.declared.tree.ClosureParam.{ClosureParam}
use Rattle.swift_ast.specs.declared.tree.ClosureParam.TheVariants as param
use Rattle.swift_core.specs.declared.ids.BlockId.{BlockId}
use Rattle.swift_core.specs.declared.item.Alignment.{Alignment}
use Rattle.swift_core.specs.declared.item.CoreItem.{CoreItem}
use Rattle.swift_core.specs.declared.item.ForEachOver.{ForEachOver}
use Rattle.swift_core.specs.declared.item.ForEachOver.TheVariants as each
use Rattle.swift_core.specs.declared.item.IdRule.{IdRule}
use Rattle.swift_core.specs.declared.item.Label.TheVariants as label
use Rattle.swift_core.specs.declared.item.ViewCall.{ViewCall}
use Rattle.swift_core.specs.declared.item.ViewCall.TheVariants as call
use Rattle.swift_core.specs.declared.stmt.Over.{Over}
use Rattle.swift_core.specs.declared.table.Declaration.{Declaration}
use Rattle.swift_core.specs.declared.term.Core.{Core}
use Rattle.swift_core.specs.declared.term.Target.{Target}
use Rattle.swift_core.specs.declared.ty.Ty.{Ty, out-Ty}
use Rattle.swift_core.specs.declared.ty.Ty.TheVariants as ty
use Rattle.swift_core.specs.Types.{element_at}
use Rattle.type_base.specs.declared.scope.LocalKind.TheVariants as local_kind
use Rattle.type_base.specs.Claims.{Reads, Then, and_then, when, reads_then, reads_give, reads_none, reads_is, reads_when, bool_is}
use Rattle.type_base.specs.Context.{Context}
use Rattle.type_base.specs.Scopes.{entered}
use Rattle.type_base.specs.Names.{local_of, own_of, declaration_of}
use Rattle.type_base.specs.Rules.{PartRule, FindPart, ExactPart}
use Rattle.value_rules.specs.Values.{TypedWanted, infer_wanted, wanted_exact, TypedBinding, infer_binding, binding_exact}
use Rattle.case_rules.specs.Overs.{OverRule, find_over, over_exact}
use Rattle.modifier_rules.specs.Parts.{Word, sole_expr, sole_closure}
use Rattle.modifier_rules.specs.Named.{take_alignment}
use Rattle.modifier_rules.specs.Arguments.{Slotted, slotted, slotted_exact}
use Rattle.modifier_rules.specs.declared.names.Slot.TheVariants as slot
use Rattle.view_rules.specs.Builds.{BuildRule, FindBuild, ExactBuild, ItemsRule, FindItems, ExactItems, Blocks, local, with_item, Action, action, action_exact}
use Rattle.view_rules.specs.Forms.{is_empty, tail_body, button_bodies, toggle_arguments, toggle_argument, each_arguments, each_param, behind_dollar, id_rule, each_over, view_named}
use Rattle.view_rules.specs.Simple.{SimpleCall, simple_call, simple_exact, CustomCall, custom_call, custom_exact, FunctionCall, function_call, function_exact, PropertyUse, property_use, property_exact, TruthPlace, truth_place, truth_exact}
use Rattle.view_rules.specs.declared.names.ViewName.{ViewName}
use Rattle.view_rules.specs.declared.names.ViewName.TheVariants as view

-- a part without blocks
abbrev pub Still : {A : Type 0} → PartRule A → BuildRule A
Still {A = A} R cx bs r = (x : A) × R cx x × (r ≡ (x, bs))

abbrev pub still : {A : Type 0} → FindPart A → FindBuild A
still {A = A} f cx bs = and_then {B = A × Blocks} (f cx) (λ x. Some (x, bs))

-- the action of a button or a modifier without parameters
abbrev pub Acts : List Stmt → BuildRule BlockId
Acts ss cx bs r = Action 0 ss (length cx.locals) (entered cx) bs r

abbrev pub acts : List Stmt → FindBuild BlockId
acts ss cx bs = action 0 ss (length cx.locals) (entered cx) bs

-- ---- buttons and toggles

-- `Button(s) { A }`
unfoldable pub TitledButton : Expr → Tail → BuildRule ViewCall
TitledButton e tail cx bs r =
    (ss : List Stmt) × (tail_body tail ≡ Some ss) ×
    ((c : Core) × TypedWanted e ty.Text cx c ×
    ((b : BlockId × Blocks) × Acts ss cx bs b ×
    (r ≡ (call.Button b.0 (label.Text c), b.1))))

unfoldable pub titled_button : Expr → Tail → FindBuild ViewCall
titled_button e tail cx bs =
    and_then {B = ViewCall × Blocks} (tail_body tail) (λ ss.
    and_then {B = ViewCall × Blocks} (infer_wanted e ty.Text cx) (λ c.
    and_then {B = ViewCall × Blocks} (acts ss cx bs) (λ b.
    Some (call.Button b.0 (label.Text c), b.1))))

-- `Button { A } label: { B }` and `Button(action: { A }) { B }`
unfoldable pub LabelledButton : ItemsRule → List Arg → Tail → BuildRule ViewCall
LabelledButton k args tail cx bs r =
    (ss : List Stmt × List Stmt) × (button_bodies args tail ≡ Some ss) ×
    ((b : BlockId × Blocks) × Acts ss.0 cx bs b ×
    ((x : List CoreItem × Blocks) × k ss.1 cx b.1 x ×
    (r ≡ (call.Button b.0 (label.Content x.0), x.1))))

unfoldable pub labelled_button : FindItems → List Arg → Tail → FindBuild ViewCall
labelled_button f args tail cx bs =
    and_then {B = ViewCall × Blocks} (button_bodies args tail) (λ ss.
    and_then {B = ViewCall × Blocks} (acts ss.0 cx bs) (λ b.
    and_then {B = ViewCall × Blocks} (f ss.1 cx b.1) (λ x.
    Some (call.Button b.0 (label.Content x.0), x.1))))

abbrev pub button_rule : ItemsRule → List Arg → Tail → Option Expr → BuildRule ViewCall
button_rule k args tail (Some e) = TitledButton e tail
button_rule k args tail None = LabelledButton k args tail

abbrev pub button_at : FindItems → List Arg → Tail → Option Expr → FindBuild ViewCall
button_at f args tail (Some e) = titled_button e tail
button_at f args tail None = labelled_button f args tail

abbrev pub button_in : FindItems → List Arg → Tail → FindBuild ViewCall
button_in f args tail = button_at f args tail (sole_expr args)

-- `Toggle(s, isOn: b)`
unfoldable pub TitledToggle : List Arg → PartRule ViewCall
TitledToggle args cx r =
    (x : Expr × Expr) × (toggle_arguments args ≡ Some x) ×
    ((c : Core) × TypedWanted x.0 ty.Text cx c ×
    ((p : Target) × TruthPlace x.1 cx p ×
    (r ≡ call.Toggle p (label.Text c))))

unfoldable pub titled_toggle : List Arg → FindPart ViewCall
titled_toggle args cx =
    and_then (toggle_arguments args) (λ x.
    and_then (infer_wanted x.0 ty.Text cx) (λ c.
    and_then (truth_place x.1 cx) (λ p.
    Some (call.Toggle p (label.Text c)))))

-- `Toggle(isOn: b) { B }`
unfoldable pub LabelledToggle : ItemsRule → List Arg → Tail → BuildRule ViewCall
LabelledToggle k args tail cx bs r =
    (e : Expr) × (toggle_argument args ≡ Some e) ×
    ((ss : List Stmt) × (tail_body tail ≡ Some ss) ×
    ((p : Target) × TruthPlace e cx p ×
    ((x : List CoreItem × Blocks) × k ss cx bs x ×
    (r ≡ (call.Toggle p (label.Content x.0), x.1)))))

unfoldable pub labelled_toggle : FindItems → List Arg → Tail → FindBuild ViewCall
labelled_toggle f args tail cx bs =
    and_then {B = ViewCall × Blocks} (toggle_argument args) (λ e.
    and_then {B = ViewCall × Blocks} (tail_body tail) (λ ss.
    and_then {B = ViewCall × Blocks} (truth_place e cx) (λ p.
    and_then {B = ViewCall × Blocks} (f ss cx bs) (λ x.
    Some (call.Toggle p (label.Content x.0), x.1)))))

-- ---- stacks and groups

-- the spacing, which a ZStack has not
abbrev pub Spaced : Axis → List Arg → PartRule (Option Core × List Arg)
Spaced axis.Z args cx r = r ≡ (None, args)
Spaced axis.V args cx r = Slotted slot.Spacing args cx r
Spaced axis.H args cx r = Slotted slot.Spacing args cx r

abbrev pub spaced : Axis → List Arg → FindPart (Option Core × List Arg)
spaced axis.Z args cx = Some (None, args)
spaced axis.V args cx = slotted slot.Spacing args cx
spaced axis.H args cx = slotted slot.Spacing args cx

-- `VStack(alignment: a, spacing: n) { B }` and the like
unfoldable pub StackCall : ItemsRule → Axis → List Arg → Tail → BuildRule ViewCall
StackCall k axis args tail cx bs r =
    (a : Alignment × List Arg) × (take_alignment axis args ≡ Some a) ×
    ((s : Option Core × List Arg) × Spaced axis a.1 cx s ×
    ((is_empty s.1 ≡ true) ×
    ((ss : List Stmt) × (tail_body tail ≡ Some ss) ×
    ((x : List CoreItem × Blocks) × k ss cx bs x ×
    (r ≡ (call.Stack axis a.0 s.0 x.0, x.1))))))

unfoldable pub stack_call : FindItems → Axis → List Arg → Tail → FindBuild ViewCall
stack_call f axis args tail cx bs =
    and_then {B = ViewCall × Blocks} (take_alignment axis args) (λ a.
    and_then {B = ViewCall × Blocks} (spaced axis a.1 cx) (λ s.
    when (is_empty s.1) (
    and_then {B = ViewCall × Blocks} (tail_body tail) (λ ss.
    and_then {B = ViewCall × Blocks} (f ss cx bs) (λ x.
    Some (call.Stack axis a.0 s.0 x.0, x.1))))))

-- `Group { B }`
unfoldable pub GroupCall : ItemsRule → List Arg → Tail → BuildRule ViewCall
GroupCall k args tail cx bs r =
    (is_empty args ≡ true) ×
    ((ss : List Stmt) × (tail_body tail ≡ Some ss) ×
    ((x : List CoreItem × Blocks) × k ss cx bs x ×
    (r ≡ (call.Group x.0, x.1))))

unfoldable pub group_call : FindItems → List Arg → Tail → FindBuild ViewCall
group_call f args tail cx bs =
    when (is_empty args) (
    and_then {B = ViewCall × Blocks} (tail_body tail) (λ ss.
    and_then {B = ViewCall × Blocks} (f ss cx bs) (λ x.
    Some (call.Group x.0, x.1))))

-- ---- ForEach

-- over a range or a list: the item is a value
unfoldable pub EachValue : ItemsRule → Expr → Option Selector → Word → List Stmt → BuildRule ViewCall
EachValue k e id w ss cx bs r =
    (o : Over × Ty) × OverRule e cx o ×
    ((over : ForEachOver) × (each_over cx.table o.0 o.1 id ≡ Some over) ×
    ((x : List CoreItem × Blocks) × k ss (with_item cx (local w o.1 local_kind.Let)) bs x ×
    (r ≡ (call.ForEach over x.0, x.1))))

unfoldable pub each_value : FindItems → Expr → Option Selector → Word → List Stmt → FindBuild ViewCall
each_value f e id w ss cx bs =
    and_then {B = ViewCall × Blocks} (find_over e cx) (λ o.
    and_then {B = ViewCall × Blocks} (each_over cx.table o.0 o.1 id) (λ over.
    and_then {B = ViewCall × Blocks} (f ss (with_item cx (local w o.1 local_kind.Let)) bs) (λ x.
    Some (call.ForEach over x.0, x.1))))

-- over the places of a list's elements: the item is a place
unfoldable pub EachPlace : ItemsRule → Expr → Option Selector → Word → List Stmt → BuildRule ViewCall
EachPlace k e id w ss cx bs r =
    (p : Target × Ty) × TypedBinding e cx p ×
    ((t : Ty) × (element_at (out-Ty p.1) ≡ Some t) ×
    ((i : IdRule) × (id_rule cx.table t id ≡ Some i) ×
    ((x : List CoreItem × Blocks) × k ss (with_item cx (local (behind_dollar w) t local_kind.Place)) bs x ×
    (r ≡ (call.ForEach (each.Places p.0 i) x.0, x.1)))))

unfoldable pub each_place : FindItems → Expr → Option Selector → Word → List Stmt → FindBuild ViewCall
each_place f e id w ss cx bs =
    and_then {B = ViewCall × Blocks} (infer_binding e cx) (λ p.
    and_then {B = ViewCall × Blocks} (element_at (out-Ty p.1)) (λ t.
    and_then {B = ViewCall × Blocks} (id_rule cx.table t id) (λ i.
    and_then {B = ViewCall × Blocks} (f ss (with_item cx (local (behind_dollar w) t local_kind.Place)) bs) (λ x.
    Some (call.ForEach (each.Places p.0 i) x.0, x.1)))))

abbrev pub each_rule : ItemsRule → Expr → Option Selector → List Stmt → ClosureParam → BuildRule ViewCall
each_rule k e id ss (param.Name w) = EachValue k e id w ss
each_rule k e id ss (param.Dollar w) = EachPlace k e id w ss

abbrev pub each_at : FindItems → Expr → Option Selector → List Stmt → ClosureParam → FindBuild ViewCall
each_at f e id ss (param.Name w) = each_value f e id w ss
each_at f e id ss (param.Dollar w) = each_place f e id w ss

-- the parameter of the closure tells which it is
unfoldable pub EachClosure : ItemsRule → Expr → Option Selector → Closure → BuildRule ViewCall
EachClosure k e id c cx bs r = (p : ClosureParam) × (each_param c ≡ Some p) × each_rule k e id (out-Closure c).body p cx bs r

abbrev pub each_closure : FindItems → Expr → Option Selector → Closure → FindBuild ViewCall
each_closure f e id c cx bs = and_then {B = ViewCall × Blocks} (each_param c) (λ p. each_at f e id (out-Closure c).body p cx bs)

-- `ForEach(l, id: \.p) { x in B }`
unfoldable pub EachCall : ItemsRule → List Arg → Tail → BuildRule ViewCall
EachCall k args tail cx bs r =
    (a : Expr × Option Selector) × (each_arguments args ≡ Some a) ×
    ((c : Closure) × (sole_closure tail ≡ Some c) ×
    EachClosure k a.0 a.1 c cx bs r)

unfoldable pub each_call : FindItems → List Arg → Tail → FindBuild ViewCall
each_call f args tail cx bs =
    and_then {B = ViewCall × Blocks} (each_arguments args) (λ a.
    and_then {B = ViewCall × Blocks} (sole_closure tail) (λ c.
    each_closure f a.0 a.1 c cx bs))

-- ---- a view by its name

-- a built-in view with trailing closures
unfoldable pub BuiltInWith : ItemsRule → ViewName → List Arg → Tail → BuildRule ViewCall
BuiltInWith k view.Button args tail cx bs r = button_rule k args tail (sole_expr args) cx bs r
BuiltInWith k view.Toggle args tail cx bs r = LabelledToggle k args tail cx bs r
BuiltInWith k (view.Stack axis) args tail cx bs r = StackCall k axis args tail cx bs r
BuiltInWith k view.Group args tail cx bs r = GroupCall k args tail cx bs r
BuiltInWith k view.ForEach args tail cx bs r = EachCall k args tail cx bs r
BuiltInWith k n args tail cx bs r = ⊥

unfoldable pub built_in_with : FindItems → ViewName → List Arg → Tail → FindBuild ViewCall
built_in_with f view.Button args tail cx bs = button_at f args tail (sole_expr args) cx bs
built_in_with f view.Toggle args tail cx bs = labelled_toggle f args tail cx bs
built_in_with f (view.Stack axis) args tail cx bs = stack_call f axis args tail cx bs
built_in_with f view.Group args tail cx bs = group_call f args tail cx bs
built_in_with f view.ForEach args tail cx bs = each_call f args tail cx bs
built_in_with f n args tail cx bs = None

-- a built-in view without them
unfoldable pub BuiltInAlone : ViewName → List Arg → PartRule ViewCall
BuiltInAlone view.Toggle args = TitledToggle args
BuiltInAlone n args = SimpleCall n args

unfoldable pub built_in_alone : ViewName → List Arg → FindPart ViewCall
built_in_alone view.Toggle args = titled_toggle args
built_in_alone n args = simple_call n args

abbrev pub BuiltIn : ItemsRule → ViewName → List Arg → Option Tail → BuildRule ViewCall
BuiltIn k n args (Some tail) = BuiltInWith k n args tail
BuiltIn k n args None = Still (BuiltInAlone n args)

abbrev pub built_in : FindItems → ViewName → List Arg → Option Tail → FindBuild ViewCall
built_in f n args (Some tail) = built_in_with f n args tail
built_in f n args None = still (built_in_alone n args)

-- what a called name stands for: a local is no view, a member of self is a function of `some View`, then a custom view or a built-in one
pub data Meaning : Type 0 where
  Hidden : Meaning
  Member : Meaning
  Declared : ℕ → Declaration → Meaning
  Builtin : ViewName → Meaning

abbrev pub builtin_meaning : Word → Meaning
builtin_meaning w = elim (view_named w) [ Some n ↦ Builtin n | None ↦ Hidden ]

abbrev pub outer_meaning : Word → Context → Meaning
outer_meaning w cx = elim (declaration_of w cx.table) [ Some d ↦ Declared d.0 d.1 | None ↦ builtin_meaning w ]

abbrev pub free_meaning : Word → Context → Meaning
free_meaning w cx = if is_some (own_of w cx) then Member else outer_meaning w cx

abbrev pub bare_meaning : Word → Context → Meaning
bare_meaning w cx = if is_some (local_of w cx) then Hidden else free_meaning w cx

abbrev pub meaning : Bool → Word → Context → Meaning
meaning own w cx = if own then Member else bare_meaning w cx

abbrev pub builtin_of : Meaning → Option ViewName
builtin_of (Builtin n) = Some n
builtin_of _ = None

-- a member of self or a custom view, which have no trailing closures
unfoldable pub MeantAlone : Meaning → Word → List Arg → Option Tail → PartRule ViewCall
MeantAlone Member w args None cx r = FunctionCall w args cx r
MeantAlone (Declared n d) w args None cx r = CustomCall n d args cx r
MeantAlone _ w args tail cx r = ⊥

unfoldable pub meant_alone : Meaning → Word → List Arg → Option Tail → FindPart ViewCall
meant_alone Member w args None cx = function_call w args cx
meant_alone (Declared n d) w args None cx = custom_call n d args cx
meant_alone _ w args tail cx = None

abbrev pub NamedBy : ItemsRule → Option ViewName → Meaning → Word → List Arg → Option Tail → BuildRule ViewCall
NamedBy k (Some n) m w args tail = BuiltIn k n args tail
NamedBy k None m w args tail = Still (MeantAlone m w args tail)

abbrev pub named_by : FindItems → Option ViewName → Meaning → Word → List Arg → Option Tail → FindBuild ViewCall
named_by f (Some n) m w args tail = built_in f n args tail
named_by f None m w args tail = still (meant_alone m w args tail)

unfoldable pub NamedCall : ItemsRule → Bool → Word → List Arg → Option Tail → BuildRule ViewCall
NamedCall k own w args tail cx bs r = NamedBy k (builtin_of (meaning own w cx)) (meaning own w cx) w args tail cx bs r

unfoldable pub named_call : FindItems → Bool → Word → List Arg → Option Tail → FindBuild ViewCall
named_call f own w args tail cx bs = named_by f (builtin_of (meaning own w cx)) (meaning own w cx) w args tail cx bs

abbrev pub is_hidden : Bool → Word → Context → Bool
is_hidden own w cx = if own then false else is_some (local_of w cx)

-- a name that is not called: a property of `some View`
unfoldable pub NamedUse : Bool → Word → PartRule ViewCall
NamedUse own w cx r = (is_hidden own w cx ≡ false) × PropertyUse w cx r

unfoldable pub named_use : Bool → Word → FindPart ViewCall
named_use own w cx = if is_hidden own w cx then None else property_use w cx

-- ---- laws

-- neither a member nor a custom view has a trailing closure
pub tail_alone : (m : Meaning) (w : Word) (args : List Arg) (tail : Tail) (cx : Context) → meant_alone m w args (Some tail) cx ≡ None
unfolding meant_alone
tail_alone Hidden w args tail cx = refl
tail_alone Member w args tail cx = refl
tail_alone (Declared n d) w args tail cx = refl
tail_alone (Builtin n) w args tail cx = refl

pub still_exact : {A : Type 0} {f : FindPart A} {R : PartRule A} → ExactPart f R → ExactBuild (still f) (Still R)
unfolding Then
still_exact h cx bs = reads_then (h cx) (λ x. reads_give _)

titled_button_exact : (e : Expr) (tail : Tail) → ExactBuild (titled_button e tail) (TitledButton e tail)
unfolding titled_button TitledButton Then
titled_button_exact e tail cx bs =
    reads_then (reads_is _) (λ ss. reads_then (wanted_exact e ty.Text cx) (λ c. reads_then (action_exact 0 ss _ _ bs) (λ b. reads_give _)))

titled_toggle_exact : (args : List Arg) → ExactPart (titled_toggle args) (TitledToggle args)
unfolding titled_toggle TitledToggle Then
titled_toggle_exact args cx =
    reads_then (reads_is _) (λ x. reads_then (wanted_exact x.0 ty.Text cx) (λ c. reads_then (truth_exact x.1 cx) (λ p. reads_give _)))

spaced_exact : (x : Axis) (args : List Arg) → ExactPart (spaced x args) (Spaced x args)
spaced_exact axis.Z args cx = reads_give _
spaced_exact axis.V args cx = slotted_exact slot.Spacing args cx
spaced_exact axis.H args cx = slotted_exact slot.Spacing args cx

built_in_alone_exact : (n : ViewName) (args : List Arg) → ExactPart (built_in_alone n args) (BuiltInAlone n args)
unfolding built_in_alone BuiltInAlone
built_in_alone_exact view.Toggle args = titled_toggle_exact args
built_in_alone_exact n args = simple_exact n args

alone_exact : (m : Meaning) (w : Word) (args : List Arg) (tail : Option Tail) → ExactPart (meant_alone m w args tail) (MeantAlone m w args tail)
unfolding meant_alone MeantAlone
alone_exact Member w args None cx = function_exact w args cx
alone_exact (Declared n d) w args None cx = custom_exact n d args cx
alone_exact _ w args tail cx = reads_none

module _ (f : FindItems) (k : ItemsRule) (h : ExactItems f k) where
  labelled_button_exact : (args : List Arg) (tail : Tail) → ExactBuild (labelled_button f args tail) (LabelledButton k args tail)
  unfolding labelled_button LabelledButton Then
  labelled_button_exact args tail cx bs =
      reads_then (reads_is _) (λ ss. reads_then (action_exact 0 ss.0 _ _ bs) (λ b. reads_then (h ss.1 cx b.1) (λ x. reads_give _)))

  button_exact : (args : List Arg) (tail : Tail) (o : Option Expr) → ExactBuild (button_at f args tail o) (button_rule k args tail o)
  button_exact args tail (Some e) = titled_button_exact e tail
  button_exact args tail None = labelled_button_exact args tail

  labelled_toggle_exact : (args : List Arg) (tail : Tail) → ExactBuild (labelled_toggle f args tail) (LabelledToggle k args tail)
  unfolding labelled_toggle LabelledToggle Then
  labelled_toggle_exact args tail cx bs =
      reads_then (reads_is _) (λ e. reads_then (reads_is _) (λ ss. reads_then (truth_exact e cx) (λ p. reads_then (h ss cx bs) (λ x. reads_give _))))

  stack_exact : (x : Axis) (args : List Arg) (tail : Tail) → ExactBuild (stack_call f x args tail) (StackCall k x args tail)
  unfolding stack_call StackCall Then
  stack_exact x args tail cx bs =
      reads_then (reads_is _) (λ a. reads_then (spaced_exact x a.1 cx) (λ s. reads_when bool_is (reads_then (reads_is _) (λ ss. reads_then (h ss cx bs) (λ y. reads_give _)))))

  group_exact : (args : List Arg) (tail : Tail) → ExactBuild (group_call f args tail) (GroupCall k args tail)
  unfolding group_call GroupCall Then
  group_exact args tail cx bs = reads_when bool_is (reads_then (reads_is _) (λ ss. reads_then (h ss cx bs) (λ x. reads_give _)))

  each_value_exact : (e : Expr) (id : Option Selector) (w : Word) (ss : List Stmt) → ExactBuild (each_value f e id w ss) (EachValue k e id w ss)
  unfolding each_value EachValue Then
  each_value_exact e id w ss cx bs = reads_then (over_exact e cx) (λ o. reads_then (reads_is _) (λ over. reads_then (h ss _ bs) (λ x. reads_give _)))

  each_place_exact : (e : Expr) (id : Option Selector) (w : Word) (ss : List Stmt) → ExactBuild (each_place f e id w ss) (EachPlace k e id w ss)
  unfolding each_place EachPlace Then
  each_place_exact e id w ss cx bs =
      reads_then (binding_exact e cx) (λ p. reads_then (reads_is _) (λ t. reads_then (reads_is _) (λ i. reads_then (h ss _ bs) (λ x. reads_give _))))

  each_param_exact : (e : Expr) (id : Option Selector) (ss : List Stmt) (p : ClosureParam) → ExactBuild (each_at f e id ss p) (each_rule k e id ss p)
  each_param_exact e id ss (param.Name w) = each_value_exact e id w ss
  each_param_exact e id ss (param.Dollar w) = each_place_exact e id w ss

  each_closure_exact : (e : Expr) (id : Option Selector) (c : Closure) → ExactBuild (each_closure f e id c) (EachClosure k e id c)
  unfolding EachClosure Then
  each_closure_exact e id c cx bs = reads_then (reads_is _) (λ p. each_param_exact e id (out-Closure c).body p cx bs)

  each_exact : (args : List Arg) (tail : Tail) → ExactBuild (each_call f args tail) (EachCall k args tail)
  unfolding each_call EachCall Then
  each_exact args tail cx bs =
      reads_then (reads_is _) (λ a. reads_then (reads_is _) (λ c. each_closure_exact a.0 a.1 c cx bs))

  built_in_with_exact : (n : ViewName) (args : List Arg) (tail : Tail) → ExactBuild (built_in_with f n args tail) (BuiltInWith k n args tail)
  unfolding built_in_with BuiltInWith
  built_in_with_exact view.Button args tail cx bs = button_exact args tail (sole_expr args) cx bs
  built_in_with_exact view.Toggle args tail cx bs = labelled_toggle_exact args tail cx bs
  built_in_with_exact (view.Stack x) args tail cx bs = stack_exact x args tail cx bs
  built_in_with_exact view.Group args tail cx bs = group_exact args tail cx bs
  built_in_with_exact view.ForEach args tail cx bs = each_exact args tail cx bs
  built_in_with_exact n args tail cx bs = reads_none

  built_in_exact : (n : ViewName) (args : List Arg) (tail : Option Tail) → ExactBuild (built_in f n args tail) (BuiltIn k n args tail)
  built_in_exact n args (Some tail) = built_in_with_exact n args tail
  built_in_exact n args None = still_exact (built_in_alone_exact n args)

  named_by_exact : (o : Option ViewName) (m : Meaning) (w : Word) (args : List Arg) (tail : Option Tail) → ExactBuild (named_by f o m w args tail) (NamedBy k o m w args tail)
  named_by_exact (Some n) m w args tail = built_in_exact n args tail
  named_by_exact None m w args tail = still_exact (alone_exact m w args tail)

  pub named_call_exact : (own : Bool) (w : Word) (args : List Arg) (tail : Option Tail) → ExactBuild (named_call f own w args tail) (NamedCall k own w args tail)
  unfolding named_call NamedCall
  named_call_exact own w args tail cx bs = named_by_exact (builtin_of (meaning own w cx)) (meaning own w cx) w args tail cx bs

use_at : {b : Bool} {o : Option ViewCall} {P : ViewCall → Type 0} → Reads o P → Reads (if b then None else o) (λ r. (b ≡ false) × P r)
use_at {b = true} h r = (λ e. cc, λ w. let n = w.0 in cc)
use_at {b = false} h r = (λ e. (refl, (h r).0 e), λ w. (h r).1 w.1)

pub named_use_exact : (own : Bool) (w : Word) → ExactPart (named_use own w) (NamedUse own w)
unfolding named_use NamedUse
named_use_exact own w cx = use_at {b = is_hidden own w cx} (property_exact w cx)
