-- The items of a builder. After The Swift Programming Language, 'resultBuilder'.
use Rattle.std.specs.Prelude.{◌≡◌, ℕ, ◌-◌, zero, suc, Bool, List, [], ◌∷◌, length, ◌==◌, ◌<◌, Option, Some, None, Result, if◌then◌else◌}
use Rattle.std.proofs.Common.{ap, subst, arith}
use Rattle.swift_ast.specs.declared.tree.Expr.{Expr}
use Rattle.swift_ast.specs.declared.tree.Part.{Part}
use Rattle.swift_ast.specs.declared.tree.Arg.{Arg}
use Rattle.swift_ast.specs.declared.tree.Tail.{Tail}
use Rattle.swift_ast.specs.declared.tree.Arm.{Arm, out-Arm}
use Rattle.swift_ast.specs.declared.tree.Binder.{Binder}
use Rattle.swift_ast.specs.declared.tree.Binder.TheVariants as binder
use Rattle.swift_ast.specs.declared.tree.Stmt.{Stmt, out-Stmt}
use Rattle.swift_ast.specs.declared.tree.StmtForm.{out-StmtForm}
use Rattle.swift_ast.specs.declared.tree.SwitchCase.{SwitchCase, out-SwitchCase}
use Rattle.swift_ast.specs.declared.tree.ArgValue.TheOpen.{StmtForm-F}
use Rattle.swift_ast.specs.declared.type_name.TypeName.{TypeName}
use Rattle.swift_core.specs.declared.item.CoreItem.{CoreItem}
use Rattle.swift_core.specs.declared.item.CoreItem.TheVariants as item
use Rattle.swift_core.specs.declared.item.ItemArm.{ItemArm, roll-ItemArm}
use Rattle.swift_core.specs.declared.item.ItemCase.{ItemCase, roll-ItemCase}
use Rattle.swift_core.specs.declared.item.ModifierCall.{ModifierCall}
use Rattle.swift_core.specs.declared.item.ViewCall.{ViewCall}
use Rattle.swift_core.specs.declared.stmt.Condition.{Condition}
use Rattle.swift_core.specs.declared.term.Core.{Core}
use Rattle.swift_core.specs.declared.ty.Ty.{Ty}
use Rattle.type_base.specs.declared.scope.Local.{Local}
use Rattle.type_base.specs.declared.scope.Scope.{Scope}
use Rattle.type_base.specs.declared.fault.Fault.{Fault}
use Rattle.type_base.specs.declared.scope.LocalKind.TheVariants as local_kind
use Rattle.type_base.specs.Claims.{Then, and_then, when, reads_then, reads_give, reads_none, reads_is, reads_when}
use Rattle.type_base.specs.Context.{Context}
use Rattle.type_base.specs.Names.{IsNew, is_new, new_decides}
use Rattle.type_base.specs.Rules.{PartRule, FindPart, ExactPart}
use Rattle.type_base.specs.Scopes.{entered}
use Rattle.type_base.specs.TypeNames.{type_of}
use Rattle.value_rules.specs.Values.{Typed, infer, infer_exact, TypedWanted, infer_wanted, wanted_exact}
use Rattle.case_rules.specs.Cases.{Label, SubjectRule, find_subject, subject_exact}
use Rattle.case_rules.specs.Conditions.{CheckedAll, ConditionsRule, find_conditions, conditions_exact}
use Rattle.case_rules.specs.Scopes.{with_any, with_locals}
use Rattle.modifier_rules.specs.Parts.{Word, called_at}
use Rattle.view_rules.specs.Builds.{BuildRule, FindBuild, ExactBuild, ItemsRule, FindItems, ExactItems, Blocks, Builds, EachBuild, every_build, every_build_exact, local}
use Rattle.view_rules.specs.Forms.{Head, Named, Inside, Nothing, head_of}
use Rattle.view_rules.specs.Views.{Still, still, still_exact, NamedCall, named_call, named_call_exact, NamedUse, named_use, named_use_exact}
use Rattle.view_rules.specs.Modifiers.{ModifiersRule, find_modifiers, modifiers_exact}

-- ---- view expressions

-- a view, and its modifiers from the inside out
abbrev pub Viewed : Type 0
Viewed = ViewCall × List ModifierCall

abbrev pub call_part : List Part → Option ((List Arg × Option Tail) × List Part)
call_part [] = None
call_part (p ∷ parts) = and_then {B = (List Arg × Option Tail) × List Part} (called_at p) (λ c. Some (c, parts))

-- a name that is called, or one that is not, and then modifiers
unfoldable pub NamedView : ItemsRule → Bool → Word → List Part → Option ((List Arg × Option Tail) × List Part) → BuildRule Viewed
NamedView k own w parts (Some c) cx bs r =
    (x : ViewCall × Blocks) × NamedCall k own w c.0.0 c.0.1 cx bs x ×
    ((ms : List ModifierCall × Blocks) × ModifiersRule k [] c.1 cx x.1 ms ×
    (r ≡ ((x.0, ms.0), ms.1)))
NamedView k own w parts None cx bs r =
    (x : ViewCall) × NamedUse own w cx x ×
    ((ms : List ModifierCall × Blocks) × ModifiersRule k [] parts cx bs ms ×
    (r ≡ ((x, ms.0), ms.1)))

unfoldable pub named_view : FindItems → Bool → Word → List Part → Option ((List Arg × Option Tail) × List Part) → FindBuild Viewed
named_view f own w parts (Some c) cx bs =
    and_then {B = Viewed × Blocks} (named_call f own w c.0.0 c.0.1 cx bs) (λ x.
    and_then {B = Viewed × Blocks} (find_modifiers f [] c.1 cx x.1) (λ ms.
    Some ((x.0, ms.0), ms.1)))
named_view f own w parts None cx bs =
    and_then {B = Viewed × Blocks} (named_use own w cx) (λ x.
    and_then {B = Viewed × Blocks} (find_modifiers f [] parts cx bs) (λ ms.
    Some ((x, ms.0), ms.1)))

abbrev pub headed_view : FindItems → Bool → Word → List Part → FindBuild Viewed
headed_view f own w parts = named_view f own w parts (call_part parts)

abbrev pub head_in : Expr → Head
head_in e = head_of e

-- k is the rule of the items inside, v that of a view expression in brackets
unfoldable pub HeadRule : ItemsRule → (Expr → BuildRule Viewed) → Head → BuildRule Viewed
HeadRule k v (Named own w parts) cx bs r = NamedView k own w parts (call_part parts) cx bs r
HeadRule k v (Inside e parts) cx bs r =
    (x : Viewed × Blocks) × v e cx bs x ×
    ((ms : List ModifierCall × Blocks) × ModifiersRule k x.0.1 parts cx x.1 ms ×
    (r ≡ ((x.0.0, ms.0), ms.1)))
HeadRule k v Nothing cx bs r = ⊥

unfoldable pub find_head : FindItems → (Expr → FindBuild Viewed) → Head → FindBuild Viewed
find_head f g (Named own w parts) cx bs = named_view f own w parts (call_part parts) cx bs
find_head f g (Inside e parts) cx bs =
    and_then {B = Viewed × Blocks} (g e cx bs) (λ x.
    and_then {B = Viewed × Blocks} (find_modifiers f x.0.1 parts cx x.1) (λ ms.
    Some ((x.0.0, ms.0), ms.1)))
find_head f g Nothing cx bs = None

-- how deep brackets and braces nest at most
unfoldable pub levels : ℕ
levels = 128

unfoldable pub ViewTo : ItemsRule → ℕ → Expr → BuildRule Viewed
ViewTo k zero e cx bs r = ⊥
ViewTo k (suc n) e cx bs r = HeadRule k (ViewTo k n) (head_of e) cx bs r

unfoldable pub view_to : FindItems → ℕ → Expr → FindBuild Viewed
view_to f zero e cx bs = None
view_to f (suc n) e cx bs = find_head f (view_to f n) (head_of e) cx bs

-- ---- items

-- an item, and the local that it adds
abbrev pub Made : Type 0
Made = CoreItem × Option Local

-- the value of `let`, whose type may be written
unfoldable pub LetValue : Option TypeName → Expr → PartRule (Core × Ty)
LetValue None e cx r = Typed e cx None r
LetValue (Some name) e cx r =
    (t : Ty) × (type_of cx.table name ≡ Some t) ×
    ((c : Core) × TypedWanted e t cx c × (r ≡ (c, t)))

unfoldable pub let_value : Option TypeName → Expr → FindPart (Core × Ty)
let_value None e cx = infer e cx None
let_value (Some name) e cx = and_then {B = Core × Ty} (type_of cx.table name) (λ t. and_then {B = Core × Ty} (infer_wanted e t cx) (λ c. Some (c, t)))

-- `let w = e`
unfoldable pub LetItem : Word → Option TypeName → Expr → PartRule Made
LetItem w name e cx r =
    (x : Core × Ty) × LetValue name e cx x ×
    (IsNew w cx ×
    (r ≡ (item.Local x.0, Some (local w x.1 local_kind.Let))))

unfoldable pub let_item : Word → Option TypeName → Expr → FindPart Made
let_item w name e cx =
    and_then (let_value name e cx) (λ x.
    when (is_new w cx) (
    Some (item.Local x.0, Some (local w x.1 local_kind.Let))))

abbrev pub arm : List Condition → List CoreItem → ItemArm
arm cs body = roll-ItemArm (record { conditions = cs; body = body })

-- the conditions of an arm and its items; a scope of its own holds what the conditions bind
unfoldable pub ArmRule : ItemsRule → Arm → BuildRule ItemArm
ArmRule k a cx bs r =
    (c : CheckedAll) × ConditionsRule (out-Arm a).conditions (entered cx) c ×
    ((x : List CoreItem × Blocks) × k (out-Arm a).body (with_locals (entered cx) c.1) bs x ×
    (r ≡ (arm c.0 x.0, x.1)))

unfoldable pub find_arm : FindItems → Arm → FindBuild ItemArm
find_arm f a cx bs =
    and_then {B = ItemArm × Blocks} (find_conditions (out-Arm a).conditions (entered cx)) (λ c.
    and_then {B = ItemArm × Blocks} (f (out-Arm a).body (with_locals (entered cx) c.1) bs) (λ x.
    Some (arm c.0 x.0, x.1)))

-- the items of a last `else`, if there is one
unfoldable pub ElseRule : ItemsRule → Option (List Stmt) → BuildRule (Option (List CoreItem))
ElseRule k None cx bs r = r ≡ (None, bs)
ElseRule k (Some ss) cx bs r = (x : List CoreItem × Blocks) × k ss cx bs x × (r ≡ (Some x.0, x.1))

unfoldable pub find_else : FindItems → Option (List Stmt) → FindBuild (Option (List CoreItem))
find_else f None cx bs = Some (None, bs)
find_else f (Some ss) cx bs = and_then {B = Option (List CoreItem) × Blocks} (f ss cx bs) (λ x. Some (Some x.0, x.1))

unfoldable pub IfItem : ItemsRule → List Arm → Option (List Stmt) → BuildRule Made
IfItem k arms last cx bs r =
    (x : List ItemArm × Blocks) × EachBuild (ArmRule k) arms cx bs x ×
    ((y : Option (List CoreItem) × Blocks) × ElseRule k last cx x.1 y ×
    (r ≡ ((item.If x.0 y.0, None), y.1)))

unfoldable pub if_item : FindItems → List Arm → Option (List Stmt) → FindBuild Made
if_item f arms last cx bs =
    and_then {B = Made × Blocks} (every_build (find_arm f) arms cx bs) (λ x.
    and_then {B = Made × Blocks} (find_else f last cx x.1) (λ y.
    Some ((item.If x.0 y.0, None), y.1)))

abbrev pub item_case : Label → List CoreItem → ItemCase
item_case l body = roll-ItemCase (record { patterns = l; body = body })

abbrev pub case_body : SwitchCase → List Stmt
case_body c = (out-SwitchCase c).body

-- the items of a case
abbrev pub CaseItems : ItemsRule → SwitchCase → BuildRule (List CoreItem)
CaseItems k c = k (case_body c)

abbrev pub case_items : FindItems → SwitchCase → FindBuild (List CoreItem)
case_items f c = f (case_body c)

-- each label with its items
abbrev pub all_cases : List Label → List (List CoreItem) → List ItemCase
all_cases (l ∷ ls) (b ∷ bodies) = item_case l b ∷ all_cases ls bodies
all_cases _ _ = []

abbrev pub cases_of : List Label → List (List CoreItem) → Option (List ItemCase)
cases_of ls bodies = if length ls == length bodies then Some (all_cases ls bodies) else None

unfoldable pub SwitchItem : ItemsRule → Expr → List SwitchCase → BuildRule Made
SwitchItem k e cases cx bs r =
    (s : Core × List Label) × SubjectRule e cases cx s ×
    ((x : List (List CoreItem) × Blocks) × EachBuild (CaseItems k) cases cx bs x ×
    ((cs : List ItemCase) × (cases_of s.1 x.0 ≡ Some cs) ×
    (r ≡ ((item.Switch s.0 cs, None), x.1))))

unfoldable pub switch_item : FindItems → Expr → List SwitchCase → FindBuild Made
switch_item f e cases cx bs =
    and_then {B = Made × Blocks} (find_subject e cases cx) (λ s.
    and_then {B = Made × Blocks} (every_build (case_items f) cases cx bs) (λ x.
    and_then {B = Made × Blocks} (cases_of s.1 x.0) (λ cs.
    Some ((item.Switch s.0 cs, None), x.1))))

-- a view expression
unfoldable pub ViewItem : ItemsRule → Expr → BuildRule Made
ViewItem k e cx bs r = (x : Viewed × Blocks) × ViewTo k levels e cx bs x × (r ≡ ((item.View x.0.0 x.0.1, None), x.1))

unfoldable pub view_item : FindItems → Expr → FindBuild Made
view_item f e cx bs = and_then {B = Made × Blocks} (view_to f levels e cx bs) (λ x. Some ((item.View x.0.0 x.0.1, None), x.1))

pub data ItemForm : Type 0 where
  LetForm : Word → Option TypeName → Expr → ItemForm
  IfForm : List Arm → Option (List Stmt) → ItemForm
  SwitchForm : Expr → List SwitchCase → ItemForm
  ViewForm : Expr → ItemForm
  NoForm : ItemForm

abbrev pub let_form : Binder → Word → Option TypeName → Expr → ItemForm
let_form binder.Let w name e = LetForm w name e
let_form binder.Var w name e = NoForm

-- a builder holds view expressions, `let`, `if` and `switch`, and nothing else
abbrev pub item_form : Stmt → ItemForm
item_form s = elim (out-StmtForm (out-Stmt s).form) [
  | StmtForm-F.Local b w name e ↦ let_form b w name e
  | StmtForm-F.If arms last ↦ IfForm arms last
  | StmtForm-F.Switch e cases ↦ SwitchForm e cases
  | StmtForm-F.StmtForm::Expr e ↦ ViewForm e
  | _ ↦ NoForm
]

unfoldable pub ItemRule : ItemsRule → ItemForm → BuildRule Made
ItemRule k (LetForm w name e) cx bs r = Still (LetItem w name e) cx bs r
ItemRule k (IfForm arms last) cx bs r = IfItem k arms last cx bs r
ItemRule k (SwitchForm e cases) cx bs r = SwitchItem k e cases cx bs r
ItemRule k (ViewForm e) cx bs r = ViewItem k e cx bs r
ItemRule k NoForm cx bs r = ⊥

unfoldable pub find_item : FindItems → ItemForm → FindBuild Made
find_item f (LetForm w name e) cx bs = still (let_item w name e) cx bs
find_item f (IfForm arms last) cx bs = if_item f arms last cx bs
find_item f (SwitchForm e cases) cx bs = switch_item f e cases cx bs
find_item f (ViewForm e) cx bs = view_item f e cx bs
find_item f NoForm cx bs = None

-- items in order, each in the scope of those before it
unfoldable pub ListRule : ItemsRule → List Stmt → BuildRule (List CoreItem)
ListRule k [] cx bs r = r ≡ ([], bs)
ListRule k (s ∷ ss) cx bs r =
    (x : Made × Blocks) × ItemRule k (item_form s) cx bs x ×
    ((more : List CoreItem × Blocks) × ListRule k ss (with_any cx x.0.1) x.1 more ×
    (r ≡ (x.0.0 ∷ more.0, more.1)))

unfoldable pub find_list : FindItems → List Stmt → FindBuild (List CoreItem)
find_list f [] cx bs = Some ([], bs)
find_list f (s ∷ ss) cx bs =
    and_then {B = List CoreItem × Blocks} (find_item f (item_form s) cx bs) (λ x.
    and_then {B = List CoreItem × Blocks} (find_list f ss (with_any cx x.0.1) x.1) (λ more.
    Some (x.0.0 ∷ more.0, more.1)))

-- the items in braces, which are a scope
unfoldable pub ItemsTo : ℕ → ItemsRule
ItemsTo zero ss cx bs r = ⊥
ItemsTo (suc n) ss cx bs r = ListRule (ItemsTo n) ss (entered cx) bs r

unfoldable pub items_to : ℕ → FindItems
items_to zero ss cx bs = None
items_to (suc n) ss cx bs = find_list (items_to n) ss (entered cx) bs

-- the items of a builder
unfoldable pub Built : ItemsRule
Built = ItemsTo levels

unfoldable pub find_built : FindItems
find_built = items_to levels

-- ---- laws

let_value_exact : (name : Option TypeName) (e : Expr) → ExactPart (let_value name e) (LetValue name e)
unfolding let_value LetValue Then
let_value_exact None e cx = infer_exact e cx None
let_value_exact (Some name) e cx = reads_then (reads_is _) (λ t. reads_then (wanted_exact e t cx) (λ c. reads_give _))

let_exact : (w : Word) (name : Option TypeName) (e : Expr) → ExactPart (let_item w name e) (LetItem w name e)
unfolding let_item LetItem Then
let_exact w name e cx = reads_then (let_value_exact name e cx) (λ x. reads_when (new_decides w cx) (reads_give _))

module _ (f : FindItems) (k : ItemsRule) (h : ExactItems f k) where
  named_view_exact : (own : Bool) (w : Word) (parts : List Part) (c : Option ((List Arg × Option Tail) × List Part)) → ExactBuild (named_view f own w parts c) (NamedView k own w parts c)
  unfolding named_view NamedView Then
  named_view_exact own w parts (Some c) cx bs =
      reads_then (named_call_exact f k h own w c.0.0 c.0.1 cx bs) (λ x. reads_then (modifiers_exact f k h [] c.1 cx x.1) (λ ms. reads_give _))
  named_view_exact own w parts None cx bs =
      reads_then (named_use_exact own w cx) (λ x. reads_then (modifiers_exact f k h [] parts cx bs) (λ ms. reads_give _))

  head_exact : (g : Expr → FindBuild Viewed) (v : Expr → BuildRule Viewed) → ((e : Expr) → ExactBuild (g e) (v e)) → (head : Head) → ExactBuild (find_head f g head) (HeadRule k v head)
  unfolding find_head HeadRule Then
  head_exact g v i (Named own w parts) cx bs = named_view_exact own w parts (call_part parts) cx bs
  head_exact g v i (Inside e parts) cx bs = reads_then (i e cx bs) (λ x. reads_then (modifiers_exact f k h x.0.1 parts cx x.1) (λ ms. reads_give _))
  head_exact g v i Nothing cx bs = reads_none

  view_to_exact : (n : ℕ) (e : Expr) → ExactBuild (view_to f n e) (ViewTo k n e)
  unfolding view_to ViewTo
  view_to_exact zero e cx bs = reads_none
  view_to_exact (suc n) e cx bs = head_exact (view_to f n) (ViewTo k n) (view_to_exact n) (head_of e) cx bs

  arm_exact : (a : Arm) → ExactBuild (find_arm f a) (ArmRule k a)
  unfolding find_arm ArmRule Then
  arm_exact a cx bs = reads_then (conditions_exact _ _) (λ c. reads_then (h _ _ bs) (λ x. reads_give _))

  else_exact : (last : Option (List Stmt)) → ExactBuild (find_else f last) (ElseRule k last)
  unfolding find_else ElseRule Then
  else_exact None cx bs = reads_give _
  else_exact (Some ss) cx bs = reads_then (h ss cx bs) (λ x. reads_give _)

  if_exact : (arms : List Arm) (last : Option (List Stmt)) → ExactBuild (if_item f arms last) (IfItem k arms last)
  unfolding if_item IfItem Then
  if_exact arms last cx bs = reads_then (every_build_exact arm_exact arms cx bs) (λ x. reads_then (else_exact last cx x.1) (λ y. reads_give _))

  switch_exact : (e : Expr) (cases : List SwitchCase) → ExactBuild (switch_item f e cases) (SwitchItem k e cases)
  unfolding switch_item SwitchItem Then
  switch_exact e cases cx bs = reads_then (subject_exact e cases cx) (λ s. reads_then (every_build_exact {f = case_items f} {R = CaseItems k} (λ c. h (case_body c)) cases cx bs) (λ x. reads_then (reads_is _) (λ cs. reads_give _)))

  view_item_exact : (e : Expr) → ExactBuild (view_item f e) (ViewItem k e)
  unfolding view_item ViewItem Then
  view_item_exact e cx bs = reads_then (view_to_exact levels e cx bs) (λ x. reads_give _)

  item_exact : (form : ItemForm) → ExactBuild (find_item f form) (ItemRule k form)
  unfolding find_item ItemRule
  item_exact (LetForm w name e) cx bs = still_exact (let_exact w name e) cx bs
  item_exact (IfForm arms last) cx bs = if_exact arms last cx bs
  item_exact (SwitchForm e cases) cx bs = switch_exact e cases cx bs
  item_exact (ViewForm e) cx bs = view_item_exact e cx bs
  item_exact NoForm cx bs = reads_none

  list_exact : (ss : List Stmt) → ExactBuild (find_list f ss) (ListRule k ss)
  unfolding find_list ListRule Then
  list_exact [] cx bs = reads_give _
  list_exact (s ∷ ss) cx bs = reads_then (item_exact (item_form s) cx bs) (λ x. reads_then (list_exact ss _ x.1) (λ more. reads_give _))

items_to_exact : (n : ℕ) → ExactItems (items_to n) (ItemsTo n)
unfolding items_to ItemsTo
items_to_exact zero ss cx bs = reads_none
items_to_exact (suc n) ss cx bs = list_exact (items_to n) (ItemsTo n) (items_to_exact n) ss (entered cx) bs

pub built_exact : ExactItems find_built Built
unfolding find_built Built
built_exact = items_to_exact levels

-- one level of the searches
view_suc : (result : Result Viewed Fault) (old new : Scope) (blocks : Blocks) (f : FindItems) (m n : ℕ) (e : Expr) (cx : Context) (bs : Blocks) → suc m ≡ n
    → Builds result old new blocks (find_head f (view_to f m) (head_of e) cx bs) → Builds result old new blocks (view_to f n e cx bs)
unfolding view_to
view_suc result old new blocks f m n e cx bs h p = subst (λ k. Builds result old new blocks (view_to f k e cx bs)) h p

pub view_level : (result : Result Viewed Fault) (old new : Scope) (blocks : Blocks) (f : FindItems) (room : ℕ) (e : Expr) (cx : Context) (bs : Blocks) → 0 < room
    → Builds result old new blocks (find_head f (view_to f (room - 1)) (head_of e) cx bs) → Builds result old new blocks (view_to f room e cx bs)
view_level result old new blocks f room e cx bs h p = view_suc result old new blocks f (room - 1) room e cx bs (omega arith) p

pub view_empty : (f : FindItems) (room : ℕ) (e : Expr) (cx : Context) (bs : Blocks) → room ≡ 0 → view_to f room e cx bs ≡ None
unfolding view_to
view_empty f room e cx bs h = ap (λ n. view_to f n e cx bs) h

items_suc : (result : Result (List CoreItem) Fault) (old new : Scope) (blocks : Blocks) (m n : ℕ) (ss : List Stmt) (cx : Context) (bs : Blocks) → suc m ≡ n
    → Builds result old new blocks (find_list (items_to m) ss (entered cx) bs) → Builds result old new blocks (items_to n ss cx bs)
unfolding items_to
items_suc result old new blocks m n ss cx bs h p = subst (λ k. Builds result old new blocks (items_to k ss cx bs)) h p

pub items_level : (result : Result (List CoreItem) Fault) (old new : Scope) (blocks : Blocks) (room : ℕ) (ss : List Stmt) (cx : Context) (bs : Blocks) → 0 < room
    → Builds result old new blocks (find_list (items_to (room - 1)) ss (entered cx) bs) → Builds result old new blocks (items_to room ss cx bs)
items_level result old new blocks room ss cx bs h p = items_suc result old new blocks (room - 1) room ss cx bs (omega arith) p

pub items_empty : (room : ℕ) (ss : List Stmt) (cx : Context) (bs : Blocks) → room ≡ 0 → items_to room ss cx bs ≡ None
unfolding items_to
items_empty room ss cx bs h = ap (λ n. items_to n ss cx bs) h
