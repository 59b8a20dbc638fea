-- What `.name` leads to, by what it stands on, and what the names of a program stand for where a chain begins.
-- After The Swift Programming Language, 'Explicit Member Expression', 'Self Expression' and 'Properties'.
use Rattle.std.specs.Prelude.{ℕ, zero, suc, pos, negsuc, Bool, true, false, List, [], ◌∷◌, ◌++◌, Option, Some, None, slice_get, codes, if◌then◌else◌}
use Rattle.std.specs.Str.{bytes_eq}
use Rattle.sv_value.specs.declared.value.Value.{Value}
use Rattle.sv_value.specs.declared.value.Value.TheVariants as value
use Rattle.value_calls.specs.declared.calls.Property.{Property}
use Rattle.value_calls.specs.declared.calls.Property.TheVariants.{Count, IsEmpty, First, Last}
use Rattle.swift_ast.specs.declared.tree.Binder.TheVariants.{Var}
use Rattle.swift_core.specs.declared.ids.CodeId.{CodeId}
use Rattle.swift_core.specs.declared.ids.PlaceRule.TheVariants.{Own}
use Rattle.swift_core.specs.declared.table.EnvironmentKey.{EnvironmentKey}
use Rattle.swift_core.specs.declared.table.Kind.{Kind}
use Rattle.swift_core.specs.declared.table.Kind.TheVariants as kind
use Rattle.swift_core.specs.declared.table.Signature.{Signature}
use Rattle.swift_core.specs.declared.table.SignatureForm.{SignatureForm}
use Rattle.swift_core.specs.declared.table.SignatureForm.TheVariants as form
use Rattle.swift_core.specs.declared.table.Table.{Table}
use Rattle.swift_core.specs.declared.term.Core.{Core}
use Rattle.swift_core.specs.declared.term.Core.TheVariants as core
use Rattle.swift_core.specs.declared.term.CoreHop.TheVariants as hop
use Rattle.swift_core.specs.declared.term.Lookup.TheVariants as lookup
use Rattle.swift_core.specs.declared.term.Receiver.TheVariants as receiver
use Rattle.swift_core.specs.declared.term.Root.TheVariants as root
use Rattle.swift_core.specs.declared.term.Target.{Target}
use Rattle.swift_core.specs.declared.term.Unary.TheVariants as unary
use Rattle.swift_core.specs.declared.ty.Ty.{Ty, out-Ty}
use Rattle.swift_core.specs.declared.ty.Ty.TheOpen.{Ty-F}
use Rattle.swift_core.specs.declared.ty.Ty.TheVariants as ty
use Rattle.swift_core.specs.Types.{named_at}
use Rattle.type_base.specs.declared.scope.Local.{Local}
use Rattle.type_base.specs.declared.scope.LocalKind.{LocalKind}
use Rattle.type_base.specs.declared.scope.LocalKind.TheVariants as kept
use Rattle.type_base.specs.declared.scope.Stance.{Stance}
use Rattle.type_base.specs.declared.scope.Stance.TheVariants as stance
use Rattle.type_base.specs.Claims.{and_then, when}
use Rattle.type_base.specs.Names.{member_of}
use Rattle.post_rules.specs.declared.chained.BuiltIn.{BuiltIn}
use Rattle.post_rules.specs.declared.chained.BuiltIn.TheVariants as built_in
use Rattle.post_rules.specs.declared.chained.Chained.{Chained}
use Rattle.post_rules.specs.declared.chained.Chained.TheVariants as chained
use Rattle.post_rules.specs.declared.chained.Method.{Method}
use Rattle.post_rules.specs.declared.chained.Method.TheVariants as method
use Rattle.post_rules.specs.Places.{whole, then_hop, read, invocation}

-- ---- the built-in names

-- the properties of strings and lists
abbrev pub property_named : List ℕ → Option Property
property_named w =
    if bytes_eq w (codes "count") then Some Count
    else if bytes_eq w (codes "isEmpty") then Some IsEmpty
    else if bytes_eq w (codes "first") then Some First
    else if bytes_eq w (codes "last") then Some Last
    else None

-- the functions of lists that change nothing
abbrev pub asking_named : List ℕ → Option Method
asking_named w =
    if bytes_eq w (codes "contains") then Some method.Contains
    else if bytes_eq w (codes "firstIndex") then Some method.FirstIndex
    else None

-- the functions of lists that change the list
abbrev pub changing_named : List ℕ → Option Method
changing_named w =
    if bytes_eq w (codes "append") then Some method.Append
    else if bytes_eq w (codes "insert") then Some method.Insert
    else if bytes_eq w (codes "remove") then Some method.Remove
    else if bytes_eq w (codes "removeFirst") then Some method.RemoveFirst
    else if bytes_eq w (codes "removeLast") then Some method.RemoveLast
    else if bytes_eq w (codes "removeAll") then Some method.RemoveAll
    else if bytes_eq w (codes "swapAt") then Some method.SwapAt
    else None

-- the names that stand alone
abbrev pub built_in_named : List ℕ → Option BuiltIn
built_in_named w =
    if bytes_eq w (codes "Int") then Some built_in.Int
    else if bytes_eq w (codes "String") then Some built_in.Text
    else if bytes_eq w (codes "abs") then Some built_in.Absolute
    else if bytes_eq w (codes "min") then Some built_in.Min
    else if bytes_eq w (codes "max") then Some built_in.Max
    else None

-- ---- values

-- a property or a function of the program that a value has
abbrev pub member_at : Core → ℕ → ℕ → CodeId → SignatureForm → Option Chained
member_at c d m code (form.Stored at binder (Some t) argument) = Some (chained.Value (core.Unary (unary.Field at) c) t)
member_at c d m code (form.Computed (Some t)) = Some (chained.Value (core.Invoke (invocation code (receiver.Value c) [])) t)
member_at c d m code (form.Function parameters result false) = Some (chained.Function (receiver.Value c) d m)
member_at c d m code _ = None

abbrev pub member_in : Core → ℕ → Option (ℕ × Signature) → Option Chained
member_in c d None = None
member_in c d (Some m) = member_at c d m.0 m.1.code m.1.form

abbrev pub property_of_text : Core → Property → Option Chained
property_of_text c Count = Some (chained.Value (core.Unary (unary.Look Count) c) ty.Int)
property_of_text c IsEmpty = Some (chained.Value (core.Unary (unary.Look IsEmpty) c) ty.Bool)
property_of_text c _ = None

abbrev pub property_ty : Ty → Property → Ty
property_ty t Count = ty.Int
property_ty t IsEmpty = ty.Bool
property_ty t First = ty.Optional t
property_ty t Last = ty.Optional t

-- what else a list has
abbrev pub asked_of_list : Core → Ty → List ℕ → Option Method → Option Chained
asked_of_list c t w (Some asked) = Some (chained.Asks c t asked)
asked_of_list c t w None = when (bytes_eq w (codes "indices")) (Some (chained.Indices c))

abbrev pub property_of_list : Core → Ty → List ℕ → Option Property → Option Chained
property_of_list c t w (Some asked) = Some (chained.Value (core.Unary (unary.Look asked) c) (property_ty t asked))
property_of_list c t w None = asked_of_list c t w (asking_named w)

-- `.w` on a value, by one level of its type
abbrev pub value_member_at : Table → Core → List ℕ → Ty-F Ty → Option Chained
value_member_at table c w (Ty-F.Named d) = and_then (slice_get table.declarations d) (λ declaration. member_in c d (member_of w declaration))
value_member_at table c w (Ty-F.List t) = property_of_list c t w (property_named w)
value_member_at table c w Ty-F.Text = and_then (property_named w) (property_of_text c)
value_member_at table c w _ = None

unfoldable pub value_member : Table → Core → Ty → List ℕ → Option Chained
value_member table c t w = value_member_at table c w (out-Ty t)

-- ---- places

-- a property or a function of the program that the value at a place has; a `var` leads to a place within it
abbrev pub place_member_in : Target → ℕ → ℕ → CodeId → SignatureForm → Option Chained
place_member_in p d m code (form.Stored at Var (Some t) argument) = Some (chained.Place (then_hop p (hop.Field at)) t)
place_member_in p d m code (form.Function parameters result true) = Some (chained.Mutating p d m)
place_member_in p d m code form = member_at (read p) d m code form

abbrev pub place_member_of : Target → ℕ → Option (ℕ × Signature) → Option Chained
place_member_of p d None = None
place_member_of p d (Some m) = place_member_in p d m.0 m.1.code m.1.form

-- a function that changes a list needs its place
abbrev pub changed_at_list : Target → Ty → List ℕ → Option Method → Option Chained
changed_at_list p t w (Some changing) = Some (chained.Changes p t changing)
changed_at_list p t w None = property_of_list (read p) t w (property_named w)

-- `.w` on a place, by one level of its type
abbrev pub place_member_at : Table → Target → List ℕ → Ty-F Ty → Option Chained
place_member_at table p w (Ty-F.Named d) = and_then (slice_get table.declarations d) (λ declaration. place_member_of p d (member_of w declaration))
place_member_at table p w (Ty-F.List t) = changed_at_list p t w (changing_named w)
place_member_at table p w Ty-F.Bool = when (bytes_eq w (codes "toggle")) (Some (chained.Toggles p))
place_member_at table p w Ty-F.Text = and_then (property_named w) (property_of_text (read p))
place_member_at table p w _ = None

unfoldable pub place_member : Table → Target → Ty → List ℕ → Option Chained
place_member table p t w = place_member_at table p w (out-Ty t)

-- the `var` property of the value at a place: its place among the fields, and its type
abbrev pub field_in : SignatureForm → Option (ℕ × Ty)
field_in (form.Stored at Var (Some t) argument) = Some (at, t)
field_in _ = None

abbrev pub field_at : Option (ℕ × Signature) → Option (ℕ × Ty)
field_at None = None
field_at (Some m) = field_in m.1.form

unfoldable pub var_field : Table → Ty → List ℕ → Option (ℕ × Ty)
var_field table t w = and_then (named_at (out-Ty t)) (λ d. and_then (slice_get table.declarations d) (λ declaration. field_at (member_of w declaration)))

-- ---- members of `self`

-- in a view the stored properties are only read; state slots and bindings are places
abbrev pub own_of_view : Table → ℕ → ℕ → CodeId → SignatureForm → Option Chained
own_of_view table d m code (form.Stored at binder (Some t) argument) = Some (chained.Value (core.Look (lookup.Input at)) t)
own_of_view table d m code (form.State at (Some t) argument) = Some (chained.Place (whole (root.Slot (Own at))) t)
own_of_view table d m code (form.Binding at (Some t)) = Some (chained.Place (whole (root.BoundInput at)) t)
own_of_view table d m code (form.Environment key) =
    and_then (slice_get table.environment key) (λ (k : EnvironmentKey). and_then k.ty (λ t. Some (chained.Value (core.Look (lookup.Environment key)) t)))
own_of_view table d m code (form.Computed (Some t)) = Some (chained.Value (core.Invoke (invocation code receiver.Same [])) t)
own_of_view table d m code (form.Function parameters result false) = Some (chained.Function receiver.Same d m)
own_of_view table d m code _ = None

-- in a data struct or an enum
abbrev pub own_of_data : ℕ → ℕ → CodeId → SignatureForm → Option Chained
own_of_data d m code (form.Stored at binder (Some t) argument) = Some (chained.Value (core.Look (lookup.OwnField at)) t)
own_of_data d m code (form.Computed (Some t)) = Some (chained.Value (core.Invoke (invocation code receiver.Same [])) t)
own_of_data d m code (form.Function parameters result false) = Some (chained.Function receiver.Same d m)
own_of_data d m code _ = None

-- in a `mutating` function the `var` properties of `self` are places
abbrev pub own_of_mutating : ℕ → ℕ → CodeId → SignatureForm → Option Chained
own_of_mutating d m code (form.Stored at Var (Some t) argument) = Some (chained.Place (then_hop (whole root.Itself) (hop.Field at)) t)
own_of_mutating d m code (form.Function parameters result true) = Some (chained.Mutating (whole root.Itself) d m)
own_of_mutating d m code form = own_of_data d m code form

-- in a static member of a preference key
abbrev pub own_of_key : CodeId → SignatureForm → Option Chained
own_of_key code (form.Static (Some t)) = Some (chained.Value (core.Static code) t)
own_of_key code _ = None

-- the member m of `self`, by what `self` is; an initial value names none
abbrev pub own_at : Table → ℕ → Stance → ℕ × Signature → Option Chained
own_at table d stance.View m = own_of_view table d m.0 m.1.code m.1.form
own_at table d stance.Data m = own_of_data d m.0 m.1.code m.1.form
own_at table d stance.Mutating m = own_of_mutating d m.0 m.1.code m.1.form
own_at table d stance.Key m = own_of_key m.1.code m.1.form
own_at table d _ m = None

-- `self` stands before a member's name in an instance member
abbrev pub has_self : Stance → Bool
has_self stance.View = true
has_self stance.Data = true
has_self stance.Mutating = true
has_self _ = false

-- a case of an enum is no member of `self`
abbrev pub is_case : SignatureForm → Bool
is_case (form.Case at) = true
is_case _ = false

-- ---- locals

abbrev pub local_at : ℕ → Local → LocalKind → Chained
local_at at l kept.Let = chained.Value (core.Look (lookup.Local at)) l.ty
local_at at l kept.Var = chained.Place (whole (root.Local at)) l.ty
local_at at l kept.Place = chained.Place (whole (root.BoundLocal at)) l.ty
local_at at l kept.Next = chained.Next at l.ty

-- ---- members of a declaration

-- the cases of an enum in order, up to n
abbrev pub cases : ℕ → ℕ → List Value
cases d zero = []
cases d (suc n) = cases d n ++ value.Case d n ∷ []

-- a static property or a case
abbrev pub type_member_at : ℕ → CodeId → SignatureForm → Option Chained
type_member_at d code (form.Static (Some t)) = Some (chained.Value (core.Static code) t)
type_member_at d code (form.Case at) = Some (chained.Value (core.Literal (value.Case d at)) (ty.Named d))
type_member_at d code _ = None

abbrev pub all_cases : ℕ → Kind → Option Chained
all_cases d (kind.Enum true n) = Some (chained.Value (core.Literal (value.List (cases d n))) (ty.List (ty.Named d)))
all_cases d _ = None

abbrev pub type_member_in : ℕ → Kind → List ℕ → Option (ℕ × Signature) → Option Chained
type_member_in d kind w (Some m) = type_member_at d m.1.code m.1.form
type_member_in d kind w None = when (bytes_eq w (codes "allCases")) (all_cases d kind)

unfoldable pub type_member : Table → ℕ → List ℕ → Option Chained
type_member table d w = and_then (slice_get table.declarations d) (λ declaration. type_member_in d declaration.kind w (member_of w declaration))

-- `Int.max` and `Int.min`
abbrev pub built_in_member : BuiltIn → List ℕ → Option Chained
built_in_member built_in.Int w =
    if bytes_eq w (codes "max") then Some (chained.Value (core.Literal (value.Int (pos 9223372036854775807))) ty.Int)
    else if bytes_eq w (codes "min") then Some (chained.Value (core.Literal (value.Int (negsuc 9223372036854775807))) ty.Int)
    else None
built_in_member _ w = None
