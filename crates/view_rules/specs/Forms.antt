-- How views are written: names, arguments and closures.
use Rattle.std.specs.Prelude.{Bool, true, false, List, [], ◌∷◌, Option, Some, None, codes, if◌then◌else◌, slice_get}
use Rattle.std.specs.Str.{bytes_eq}
use Rattle.align_guides.specs.declared.Axis.TheVariants as axis
use Rattle.swift_ast.specs.declared.tree.Expr.{Expr, out-Expr}
use Rattle.swift_ast.specs.declared.tree.ExprForm.{out-ExprForm}
use Rattle.swift_ast.specs.declared.tree.ArgValue.TheOpen.{ExprForm-F}
use Rattle.swift_ast.specs.declared.tree.Arg.{Arg}
use Rattle.swift_ast.specs.declared.tree.Part.{Part}
use Rattle.swift_ast.specs.declared.tree.Selector.{Selector}
use Rattle.swift_ast.specs.declared.tree.Selector.TheVariants as selector
use Rattle.swift_ast.specs.declared.tree.Stmt.{Stmt}
use Rattle.swift_ast.specs.declared.tree.Tail.{Tail, out-Tail}
use Rattle.swift_ast.specs.declared.tree.LabelledClosure.{LabelledClosure, out-LabelledClosure}
use Rattle.swift_ast.specs.declared.tree.Closure.{Closure, out-Closure}
use Rattle.swift_ast.specs.declared.tree.ClosureParam.{ClosureParam}
use Rattle.swift_core.specs.declared.ids.CodeId.{CodeId}
use Rattle.swift_core.specs.declared.item.IdRule.{IdRule}
use Rattle.swift_core.specs.declared.item.IdRule.TheVariants as id
use Rattle.swift_core.specs.declared.item.ForEachOver.{ForEachOver}
use Rattle.swift_core.specs.declared.item.ForEachOver.TheVariants as each
use Rattle.swift_core.specs.declared.stmt.Over.{Over}
use Rattle.swift_core.specs.declared.stmt.Over.TheVariants as over
use Rattle.swift_core.specs.declared.table.Declaration.{Declaration}
use Rattle.swift_core.specs.declared.table.Kind.{Kind}
use Rattle.swift_core.specs.declared.table.Kind.TheVariants as kind
use Rattle.swift_core.specs.declared.table.ParamSignature.{ParamSignature}
use Rattle.swift_core.specs.declared.table.SignatureForm.{SignatureForm}
use Rattle.swift_core.specs.declared.table.SignatureForm.TheVariants as form
use Rattle.swift_core.specs.declared.table.Table.{Table}
use Rattle.swift_core.specs.declared.ty.Ty.{Ty, out-Ty}
use Rattle.swift_core.specs.declared.ty.Ty.TheOpen.{Ty-F}
use Rattle.value_calls.specs.declared.calls.Property.TheVariants as property
use Rattle.type_base.specs.Claims.{and_then, or_else}
use Rattle.type_base.specs.Context.{Context}
use Rattle.type_base.specs.Names.{member_of, owner_of}
use Rattle.modifier_rules.specs.Parts.{Word, sole, name_of, selector_at, word_of, plain_expr, labelled_expr, labelled_value, closure_at, path_at, sole_closure, body_of}
use Rattle.view_rules.specs.declared.names.ViewName.{ViewName}
use Rattle.view_rules.specs.declared.names.ViewName.TheVariants as view

-- ---- names

abbrev pub stack_named : Word → Option ViewName
stack_named w =
    if bytes_eq w (codes "VStack") then Some (view.Stack axis.V)
    else (if bytes_eq w (codes "HStack") then Some (view.Stack axis.H)
    else (if bytes_eq w (codes "ZStack") then Some (view.Stack axis.Z)
    else (if bytes_eq w (codes "Group") then Some view.Group
    else (if bytes_eq w (codes "ForEach") then Some view.ForEach else None))))

-- the built-in view of the name
abbrev pub view_named : Word → Option ViewName
view_named w =
    if bytes_eq w (codes "Text") then Some view.Text
    else (if bytes_eq w (codes "Image") then Some view.Image
    else (if bytes_eq w (codes "Button") then Some view.Button
    else (if bytes_eq w (codes "Toggle") then Some view.Toggle
    else (if bytes_eq w (codes "Spacer") then Some view.Spacer
    else (if bytes_eq w (codes "Rectangle") then Some view.Rectangle
    else (if bytes_eq w (codes "EmptyView") then Some view.Empty else stack_named w))))))

-- ---- a view expression: its head, and the postfix parts behind it

pub data Head : Type 0 where
  Named : Bool → Word → List Part → Head  -- a name, and whether `self.` stands before it
  Inside : Expr → List Part → Head  -- a view expression in brackets
  Nothing : Head

abbrev pub is_itself : Expr → Bool
is_itself e = elim (out-ExprForm (out-Expr e).form) [ ExprForm-F.Itself ↦ true | _ ↦ false ]

abbrev pub dot_name : Part → Option Word
dot_name p = and_then (selector_at p) word_of

abbrev pub own_part : Expr → List Part → Option Word
own_part o parts = if is_itself o then and_then (sole parts) dot_name else None

-- `self.name`
abbrev pub own_name : Expr → Option Word
own_name e = elim (out-ExprForm (out-Expr e).form) [ ExprForm-F.Post o parts ↦ own_part o parts | _ ↦ None ]

abbrev pub inside_head : Expr → List Part → Head
inside_head o parts = elim (own_name o) [ Some w ↦ Named true w parts | None ↦ Inside o parts ]

abbrev pub self_head : List Part → Head
self_head [] = Nothing
self_head (p ∷ parts) = elim (dot_name p) [ Some w ↦ Named true w parts | None ↦ Nothing ]

abbrev pub plain_head : Expr → List Part → Head
plain_head o parts = elim (name_of o) [ Some w ↦ Named false w parts | None ↦ inside_head o parts ]

abbrev pub post_head : Expr → List Part → Head
post_head o parts = if is_itself o then self_head parts else plain_head o parts

abbrev pub head_of : Expr → Head
head_of e = elim (out-ExprForm (out-Expr e).form) [ ExprForm-F.Name w ↦ Named false w [] | ExprForm-F.Post o parts ↦ post_head o parts | _ ↦ Nothing ]

-- ---- arguments

abbrev pub is_empty : {A : Type 0} → List A → Bool
is_empty [] = true
is_empty (x ∷ xs) = false

-- the statements of the one trailing closure, which has no parameters
abbrev pub tail_body : Tail → Option (List Stmt)
tail_body t = and_then (sole_closure t) body_of

abbrev pub some_body : Option Tail → Option (List Stmt)
some_body t = and_then t tail_body

-- `Text(s)` and `Text(verbatim: s)`
abbrev pub text_argument : List Arg → Option Expr
text_argument args = and_then (sole args) (λ a. or_else (plain_expr a) (labelled_expr (codes "verbatim") a))

abbrev pub image_argument : List Arg → Option Expr
image_argument args = and_then (sole args) (labelled_expr (codes "systemName"))

abbrev pub labelled_body : LabelledClosure → Option (List Stmt)
labelled_body c = if bytes_eq (out-LabelledClosure c).label (codes "label") then body_of (out-LabelledClosure c).closure else None

-- `{ A } label: { B }`
abbrev pub labelled_bodies : Tail → Option (List Stmt × List Stmt)
labelled_bodies t =
    and_then {B = List Stmt × List Stmt} (body_of (out-Tail t).closure) (λ a.
    and_then {B = List Stmt × List Stmt} (sole (out-Tail t).others) (λ c.
    and_then {B = List Stmt × List Stmt} (labelled_body c) (λ b. Some (a, b))))

abbrev pub action_body : Arg → Option (List Stmt)
action_body a = and_then (labelled_value (codes "action") a) (λ v. and_then (closure_at v) body_of)

-- the action and the label of `Button { A } label: { B }` and `Button(action: { A }) { B }`
abbrev pub button_bodies : List Arg → Tail → Option (List Stmt × List Stmt)
button_bodies [] t = labelled_bodies t
button_bodies (a ∷ []) t =
    and_then {B = List Stmt × List Stmt} (action_body a) (λ x.
    and_then {B = List Stmt × List Stmt} (tail_body t) (λ y. Some (x, y)))
button_bodies (a ∷ b ∷ more) t = None

-- `(s, isOn: b)`
abbrev pub toggle_arguments : List Arg → Option (Expr × Expr)
toggle_arguments (a ∷ b ∷ []) =
    and_then {B = Expr × Expr} (plain_expr a) (λ s.
    and_then {B = Expr × Expr} (labelled_expr (codes "isOn") b) (λ e. Some (s, e)))
toggle_arguments _ = None

-- `(isOn: b)`
abbrev pub toggle_argument : List Arg → Option Expr
toggle_argument args = and_then (sole args) (labelled_expr (codes "isOn"))

-- ---- ForEach

-- `id: \.name` or `id: \.self`
abbrev pub id_argument : Arg → Option Selector
id_argument a = and_then (labelled_value (codes "id") a) path_at

-- what it goes over, and what tells the ids apart, if that is written
abbrev pub each_arguments : List Arg → Option (Expr × Option Selector)
each_arguments (a ∷ []) = and_then {B = Expr × Option Selector} (plain_expr a) (λ e. Some (e, None))
each_arguments (a ∷ b ∷ []) =
    and_then {B = Expr × Option Selector} (plain_expr a) (λ e.
    and_then {B = Expr × Option Selector} (id_argument b) (λ s. Some (e, Some s)))
each_arguments _ = None

abbrev pub each_closure : Option Tail → Option Closure
each_closure t = and_then t sole_closure

-- its one parameter
abbrev pub each_param : Closure → Option ClosureParam
each_param c = and_then (out-Closure c).params sole

-- the name behind the `$`
abbrev pub behind_dollar : Word → Word
behind_dollar [] = []
behind_dollar (c ∷ w) = w

abbrev pub id_by : SignatureForm → CodeId → Option IdRule
id_by (form.Stored n binder (Some t) argument) c = Some (id.Field n)
id_by (form.Computed (Some t)) c = Some (id.Computed c)
id_by _ c = None

abbrev pub text_id : Word → Option IdRule
text_id w =
    if bytes_eq w (codes "count") then Some (id.Look property.Count)
    else (if bytes_eq w (codes "isEmpty") then Some (id.Look property.IsEmpty) else None)

abbrev pub list_id : Word → Option IdRule
list_id w =
    if bytes_eq w (codes "first") then Some (id.Look property.First)
    else (if bytes_eq w (codes "last") then Some (id.Look property.Last) else text_id w)

abbrev pub member_id : Declaration → Word → Option IdRule
member_id d w = and_then (member_of w d) (λ m. id_by m.1.form m.1.code)

-- a property of values of a type: one of the program, or a built-in one
abbrev pub id_at : Table → Word → Ty-F Ty → Option IdRule
id_at table w Ty-F.Text = text_id w
id_at table w (Ty-F.List t) = list_id w
id_at table w (Ty-F.Named d) = and_then (slice_get table.declarations d) (λ x. member_id x w)
id_at table w _ = None

abbrev pub identifies : Kind → Bool
identifies (kind.Data b) = b
identifies _ = false

-- `id` of a data struct that names Identifiable
abbrev pub own_id_at : Table → Ty-F Ty → Option IdRule
own_id_at table (Ty-F.Named d) = and_then (slice_get table.declarations d) (λ x. if identifies x.kind then member_id x (codes "id") else None)
own_id_at table _ = None

abbrev pub written_id : Table → Ty → Selector → Option IdRule
written_id table t (selector.Name w) = id_at table w (out-Ty t)
written_id table t selector.Itself = Some id.Itself

-- what tells the elements of this type apart
unfoldable pub id_rule : Table → Ty → Option Selector → Option IdRule
id_rule table t None = own_id_at table (out-Ty t)
id_rule table t (Some s) = written_id table t s

abbrev pub is_own : Option Selector → Bool
is_own None = true
is_own (Some selector.Itself) = true
is_own (Some (selector.Name w)) = false

abbrev pub is_written : Option Selector → Bool
is_written (Some selector.Itself) = true
is_written _ = false

-- a range has numbers as its ids, and one with its end only where that is written
unfoldable pub each_over : Table → Over → Ty → Option Selector → Option ForEachOver
each_over table (over.UpTo a b) t s = if is_own s then Some (each.Numbers (over.UpTo a b)) else None
each_over table (over.Indices l) t s = if is_own s then Some (each.Numbers (over.Indices l)) else None
each_over table (over.Through a b) t s = if is_written s then Some (each.Numbers (over.Through a b)) else None
each_over table (over.List l) t s = and_then (id_rule table t s) (λ i. Some (each.Values l i))

-- ---- members that give views

abbrev pub is_view : Kind → Bool
is_view kind.View = true
is_view _ = false

-- the code is a member's of a view
abbrev pub in_view : Context → Bool
in_view cx = elim (owner_of cx) [ Some d ↦ is_view d.1.kind | None ↦ false ]

abbrev pub gives_views : SignatureForm → Bool
gives_views form.BuilderProperty = true
gives_views _ = false

abbrev pub builder_parameters : SignatureForm → Option (List ParamSignature)
builder_parameters (form.BuilderFunction ps) = Some ps
builder_parameters _ = None
