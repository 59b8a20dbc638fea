-- What a member is by its form alone: its modifiers, whether it is `let`, `var` or `func`, stored or computed, with or without an initial value.
use Rattle.std.specs.Prelude.{◌≡◌, Bool, true, false, not, ◌&&◌, ◌||◌, List, [], ◌∷◌, Option, Some, None, is_some, ℕ, codes, if◌then◌else◌}
use Rattle.std.specs.Str.{bytes_eq}
use Rattle.swift_ast.specs.declared.tree.Binder.{Binder}
use Rattle.swift_ast.specs.declared.tree.Binder.TheVariants.{Let, Var}
use Rattle.swift_ast.specs.declared.tree.Expr.{Expr}
use Rattle.swift_ast.specs.declared.type_name.TypeName.{TypeName, out-TypeName}
use Rattle.swift_ast.specs.declared.type_name.TypeName.TheOpen.{TypeName-F}
use Rattle.swift_ast.specs.declared.piece.Modifier.{Modifier}
use Rattle.swift_ast.specs.declared.piece.Member.{Member}
use Rattle.swift_ast.specs.declared.piece.MemberForm.{MemberForm}
use Rattle.swift_ast.specs.declared.piece.MemberForm.TheVariants as member
use Rattle.swift_ast.specs.declared.piece.ResultName.{ResultName}
use Rattle.swift_ast.specs.declared.piece.ResultName.TheVariants.{Plain, Opaque}
use Rattle.swift_ast.specs.declared.piece.Param.{Param}
use Rattle.swift_ast.specs.declared.piece.ParamForm.{ParamForm}
use Rattle.swift_ast.specs.declared.piece.ParamForm.TheVariants as param
use Rattle.member_forms.specs.declared.marks.Mark.TheVariants as mark
use Rattle.member_forms.specs.declared.role.Sort.{Sort}
use Rattle.member_forms.specs.declared.role.Sort.TheVariants as sort
use Rattle.member_forms.specs.declared.role.Role.{Role}
use Rattle.member_forms.specs.declared.role.Role.TheVariants as role
use Rattle.member_forms.specs.Marks.{bare, marked, is_private}

abbrev pub when_fits : Bool → Role → Role
when_fits fits r = if fits then r else role.Unfit

abbrev pub is_var : Binder → Bool
is_var Var = true
is_var Let = false

-- a type that is written with a `?` behind it
abbrev pub is_optional_at : TypeName-F TypeName → Bool
is_optional_at (TypeName-F.Optional t n) = true
is_optional_at _ = false

-- a property has an initial value: a written one, or nil for a `var` of an optional type
abbrev pub starts : Binder → Option TypeName → Option Expr → Bool
starts b t (Some e) = true
starts Var (Some t) None = is_optional_at (out-TypeName t)
starts b t None = false

-- a `private` property has an initial value
abbrev pub may_start : List Modifier → Binder → Option TypeName → Option Expr → Bool
may_start ms b t v = not (is_private ms) || starts b t v

-- A stored member of a view is a stored property, `@State var`, `@Binding var`, `@Environment(\.key) var` or `static let`.
-- A binding has no initial value and is not private, an environment property has none either, and a static has one.
abbrev pub stored_in_view : List Modifier → Binder → Option TypeName → Option Expr → Role
stored_in_view ms b t v =
    if bare ms then when_fits (may_start ms b t v) role.Stored
    else if marked mark.State ms then when_fits (is_var b && may_start ms b t v) role.State
    else if marked mark.Binding ms then when_fits (is_var b && not (is_some v) && not (is_private ms)) role.Binding
    else if marked mark.Environment ms then when_fits (is_var b && not (is_some v)) role.Environment
    else if marked mark.Static ms then when_fits (not (is_var b) && is_some v) role.Static
    else role.Unfit

-- what gives views may have `@ViewBuilder` before it
abbrev pub builder : List Modifier → Role → Role
builder ms r = when_fits (bare ms || marked mark.ViewBuilder ms) r

abbrev pub in_view_at : List Modifier → MemberForm → Role
in_view_at ms (member.Stored b w t v) = stored_in_view ms b t v
in_view_at ms (member.Computed w (Plain t) body) = when_fits (bare ms) role.Computed
in_view_at ms (member.Computed w (Opaque name) body) = if bytes_eq name (codes "View") then builder ms role.BuilderProperty else role.Unfit
in_view_at ms (member.Function w ps (Some (Opaque name)) body) = if bytes_eq name (codes "View") then builder ms role.BuilderFunction else role.Unfit
in_view_at ms (member.Function w ps r body) = when_fits (bare ms) role.Function

abbrev pub in_view : Member → Role
in_view m = in_view_at m.modifiers m.form

abbrev pub function_in_data : List Modifier → Role
function_in_data ms = if bare ms then role.Function else when_fits (marked mark.Mutating ms) role.Mutating

-- a data struct has stored and computed properties, functions and `mutating` functions; nothing in it gives views
abbrev pub in_data_at : List Modifier → MemberForm → Role
in_data_at ms (member.Stored b w t v) = when_fits (bare ms && may_start ms b t v) role.Stored
in_data_at ms (member.Computed w (Plain t) body) = when_fits (bare ms) role.Computed
in_data_at ms (member.Computed w (Opaque name) body) = role.Unfit
in_data_at ms (member.Function w ps (Some (Opaque name)) body) = role.Unfit
in_data_at ms (member.Function w ps r body) = function_in_data ms

abbrev pub in_data : Member → Role
in_data m = in_data_at m.modifiers m.form

-- an enum has computed properties and functions besides its cases
abbrev pub in_enum_at : List Modifier → MemberForm → Role
in_enum_at ms (member.Stored b w t v) = role.Unfit
in_enum_at ms (member.Computed w (Plain t) body) = when_fits (bare ms) role.Computed
in_enum_at ms (member.Computed w (Opaque name) body) = role.Unfit
in_enum_at ms (member.Function w ps (Some (Opaque name)) body) = role.Unfit
in_enum_at ms (member.Function w ps r body) = when_fits (bare ms) role.Function

abbrev pub in_enum : Member → Role
in_enum m = in_enum_at m.modifiers m.form

-- an app has `var body: some Scene` alone, without an attribute
abbrev pub in_app_at : List Modifier → MemberForm → Role
in_app_at ms (member.Computed w (Opaque scene) body) = when_fits (bytes_eq w (codes "body") && bytes_eq scene (codes "Scene") && bare ms) role.BuilderProperty
in_app_at ms _ = role.Unfit

abbrev pub in_app : Member → Role
in_app m = in_app_at m.modifiers m.form

abbrev pub label_or : Option (List ℕ) → List ℕ → List ℕ
label_or (Some label) name = label
label_or None name = name

-- the label of a parameter: the first of two names, or the only one
abbrev pub label_of : Param → List ℕ
label_of p = label_or p.label p.name

abbrev pub is_inout : ParamForm → Bool
is_inout (param.Inout t) = true
is_inout _ = false

abbrev pub is_function : ParamForm → Bool
is_function (param.Function t) = true
is_function _ = false

abbrev pub is_value_param : Param → Bool
is_value_param p = is_inout p.form && bytes_eq (label_of p) (codes "value")

abbrev pub is_next_param : Param → Bool
is_next_param p = is_function p.form && bytes_eq (label_of p) (codes "nextValue")

-- `(value: inout V, nextValue: () -> V)`
abbrev pub reduce_params : List Param → Bool
reduce_params (p ∷ q ∷ []) = is_value_param p && is_next_param q
reduce_params _ = false

-- a preference key has `static let` or `static var defaultValue`, stored with a value or computed, and `static func reduce` without a result
abbrev pub in_key_at : List Modifier → MemberForm → Role
in_key_at ms (member.Stored b w t v) = when_fits (marked mark.Static ms && bytes_eq w (codes "defaultValue") && is_some v) role.Static
in_key_at ms (member.Computed w (Plain t) body) = when_fits (marked mark.Static ms && bytes_eq w (codes "defaultValue")) role.Static
in_key_at ms (member.Computed w (Opaque name) body) = role.Unfit
in_key_at ms (member.Function w ps None body) = when_fits (marked mark.Static ms && bytes_eq w (codes "reduce") && reduce_params ps) role.Reduce
in_key_at ms (member.Function w ps (Some r) body) = role.Unfit

abbrev pub in_key : Member → Role
in_key m = in_key_at m.modifiers m.form

-- what a member is in a declaration of this sort
abbrev pub role_of : Sort → Member → Role
role_of sort.Data m = in_data m
role_of sort.Enum m = in_enum m
role_of sort.View m = in_view m
role_of sort.App m = in_app m
role_of sort.Key m = in_key m
