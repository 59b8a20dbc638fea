-- The signatures of the members of a declaration: what each is, with its place among the fields, inputs or slots, and its written type.
use Rattle.std.specs.Prelude.{◌≡◌, ℕ, suc, ◌+◌, Bool, true, false, not, ◌||◌, List, [], ◌∷◌, ◌++◌, Option, Some, None, length, map, codes, if◌then◌else◌}
use Rattle.std.specs.List.{sum_by, count_by}
use Rattle.std.specs.Str.{bytes_eq}
use Rattle.std.specs.FinMap as fin
use Rattle.swift_ast.specs.declared.tree.Binder.{Binder}
use Rattle.swift_ast.specs.declared.tree.Binder.TheVariants.{Let, Var}
use Rattle.swift_ast.specs.declared.tree.Expr.{Expr}
use Rattle.swift_ast.specs.declared.type_name.TypeName.{TypeName, out-TypeName}
use Rattle.swift_ast.specs.declared.type_name.TypeName.TheOpen.{TypeName-F}
use Rattle.swift_ast.specs.declared.piece.Modifier.{Modifier}
use Rattle.swift_ast.specs.declared.piece.Member.{Member}
use Rattle.swift_ast.specs.declared.piece.MemberForm.{MemberForm}
use Rattle.swift_ast.specs.declared.piece.MemberForm.TheVariants as member
use Rattle.swift_ast.specs.declared.piece.CaseName.{CaseName}
use Rattle.swift_ast.specs.declared.piece.EnumItem.{EnumItem}
use Rattle.swift_ast.specs.declared.piece.EnumItem.TheVariants as item
use Rattle.swift_ast.specs.declared.piece.ResultName.{ResultName}
use Rattle.swift_ast.specs.declared.piece.ResultName.TheVariants.{Plain, Opaque}
use Rattle.swift_ast.specs.declared.piece.Param.{Param}
use Rattle.swift_ast.specs.declared.piece.ParamForm.{ParamForm}
use Rattle.swift_ast.specs.declared.piece.ParamForm.TheVariants as param
use Rattle.swift_core.specs.declared.ty.Ty.{Ty}
use Rattle.swift_core.specs.declared.table.Table.{Table}
use Rattle.swift_core.specs.declared.table.Signature.{Signature}
use Rattle.swift_core.specs.declared.table.SignatureForm.{SignatureForm}
use Rattle.swift_core.specs.declared.table.SignatureForm.TheVariants as form
use Rattle.swift_core.specs.declared.table.Argument.{Argument}
use Rattle.swift_core.specs.declared.table.Argument.TheVariants as argument
use Rattle.swift_core.specs.declared.table.Initial.{Initial}
use Rattle.swift_core.specs.declared.table.Initial.TheVariants as initial
use Rattle.swift_core.specs.declared.table.ParamSignature.{ParamSignature}
use Rattle.type_base.specs.TypeNames.{type_of}
use Rattle.member_forms.specs.declared.role.Sort.{Sort}
use Rattle.member_forms.specs.declared.role.Sort.TheVariants as sort
use Rattle.member_forms.specs.declared.role.Role.{Role}
use Rattle.member_forms.specs.declared.role.Role.TheVariants as role
use Rattle.member_forms.specs.Marks.{is_private, environment_key}
use Rattle.member_forms.specs.Roles.{role_of, label_of}
use Rattle.member_forms.specs.Whole.{member_name}
use Rattle.type_table.specs.Along.{narrow, wide, along}

-- a member before it has a number
pub record Draft : Type 0 where
  pub name : List ℕ
  pub form : SignatureForm

-- the type that is written, if one is written and it is one
abbrev pub declared_type : Table → Option TypeName → Option Ty
declared_type heads None = None
declared_type heads (Some t) = type_of heads t

abbrev pub nil_at : TypeName-F TypeName → Option Initial
nil_at (TypeName-F.Optional t n) = Some initial.Nil
nil_at _ = None

-- the initial value of a property: the written one, or nil for a `var` of a type that is written with a `?`
abbrev pub initial_of : Binder → Option TypeName → Option Expr → Option Initial
initial_of b t (Some e) = Some initial.Written
initial_of Var (Some t) None = nil_at (out-TypeName t)
initial_of b t None = None

abbrev pub is_let : Binder → Bool
is_let Let = true
is_let Var = false

abbrev pub argument_by : Bool → Option Initial → Argument
argument_by never None = argument.Required
argument_by true (Some i) = argument.Never i
argument_by false (Some i) = argument.Optional i

-- A property without an initial value is an argument that is always given. One with an initial value may be left out,
-- and is no argument where it is a `let` or `private`.
abbrev pub argument_of : Bool → Binder → Option TypeName → Option Expr → Argument
argument_of private b t v = argument_by (private || is_let b) (initial_of b t v)

-- an argument has no label where `_` is the first or only name of the parameter
abbrev pub label_word : List ℕ → Option (List ℕ)
label_word w = if bytes_eq w (codes "_") then None else Some w

abbrev pub param_type : Table → ParamForm → Option Ty
param_type heads (param.Plain t) = type_of heads t
param_type heads _ = None

abbrev pub param_signature : Table → Param → ParamSignature
param_signature heads p = record { label = label_word (label_of p); ty = param_type heads p.form }

abbrev pub params_of : Table → List Param → List ParamSignature
params_of heads ps = map (param_signature heads) ps

-- a key that is declared
abbrev pub key_form : Option ℕ → SignatureForm
key_form None = form.Unfit
key_form (Some k) = form.Environment k

abbrev pub key_at : Table → Option (List ℕ) → SignatureForm
key_at heads None = form.Unfit
key_at heads (Some w) = key_form (fin.get heads.keys w)

-- a stored member; `inputs` and `slots` are the numbers of the next ones
abbrev pub stored_form : Table → ℕ → ℕ → Role → List Modifier → Binder → Option TypeName → Option Expr → SignatureForm
stored_form heads inputs slots role.Stored ms b t v = form.Stored inputs b (declared_type heads t) (argument_of (is_private ms) b t v)
stored_form heads inputs slots role.State ms b t v = form.State slots (declared_type heads t) (argument_of (is_private ms) b t v)
stored_form heads inputs slots role.Binding ms b t v = form.Binding inputs (declared_type heads t)
stored_form heads inputs slots role.Environment ms b t v = key_at heads (environment_key ms)
stored_form heads inputs slots role.Static ms b t v = form.Static (declared_type heads t)
stored_form heads inputs slots _ ms b t v = form.Unfit

abbrev pub computed_form : Table → Role → ResultName → SignatureForm
computed_form heads role.Computed (Plain t) = form.Computed (type_of heads t)
computed_form heads role.Static (Plain t) = form.Static (type_of heads t)
computed_form heads role.BuilderProperty r = form.BuilderProperty
computed_form heads _ r = form.Unfit

-- a function whose written result is no type has no signature
abbrev pub result_form : List ParamSignature → Bool → Option Ty → SignatureForm
result_form ps mutating None = form.Unfit
result_form ps mutating (Some t) = form.Function ps (Some t) mutating

abbrev pub valued_form : Table → List Param → Bool → Option ResultName → SignatureForm
valued_form heads ps mutating None = form.Function (params_of heads ps) None mutating
valued_form heads ps mutating (Some (Plain t)) = result_form (params_of heads ps) mutating (type_of heads t)
valued_form heads ps mutating (Some (Opaque w)) = form.Unfit

abbrev pub function_form : Table → Role → List Param → Option ResultName → SignatureForm
function_form heads role.Function ps r = valued_form heads ps false r
function_form heads role.Mutating ps r = valued_form heads ps true r
function_form heads role.BuilderFunction ps r = form.BuilderFunction (params_of heads ps)
function_form heads role.Reduce ps r = form.Reduce
function_form heads _ ps r = form.Unfit

abbrev pub member_form : Table → ℕ → ℕ → Role → List Modifier → MemberForm → SignatureForm
member_form heads inputs slots r ms (member.Stored b w t v) = stored_form heads inputs slots r ms b t v
member_form heads inputs slots r ms (member.Computed w t body) = computed_form heads r t
member_form heads inputs slots r ms (member.Function w ps t body) = function_form heads r ps t

abbrev pub is_input_role : Role → Bool
is_input_role role.Stored = true
is_input_role role.Binding = true
is_input_role _ = false

abbrev pub is_slot_role : Role → Bool
is_slot_role role.State = true
is_slot_role _ = false

-- the fields of a data struct, and the inputs of a view
abbrev pub is_input : Sort → Member → Bool
is_input s m = is_input_role (role_of s m)

abbrev pub is_slot : Sort → Member → Bool
is_slot s m = is_slot_role (role_of s m)

-- a member of a struct, by the members before it
abbrev pub struct_draft : Table → Sort → List Member → Member → Draft
struct_draft heads s before m = record {
  name = member_name m;
  form = member_form heads (narrow (count_by (is_input s) before)) (narrow (count_by (is_slot s) before)) (role_of s m) m.modifiers m.form;
}

abbrev pub struct_drafts : Table → Sort → List Member → List Draft
struct_drafts heads s = along (λ before m. struct_draft heads s before m ∷ [])

-- a case, by how many cases stand before its line and which before it on the line
abbrev pub case_draft : ℕ → List CaseName → CaseName → Draft
case_draft cases before c = record { name = c.name; form = form.Case (narrow (cases + length before)) }

abbrev pub case_drafts : ℕ → List CaseName → List Draft
case_drafts cases = along (λ before c. case_draft cases before c ∷ [])

abbrev pub enum_member : Table → Member → Draft
enum_member heads m = record { name = member_name m; form = member_form heads 0 0 (role_of sort.Enum m) m.modifiers m.form }

abbrev pub item_drafts : Table → ℕ → EnumItem → List Draft
item_drafts heads cases (item.Cases cs) = case_drafts cases cs
item_drafts heads cases (item.Member m) = enum_member heads m ∷ []

abbrev pub item_cases : EnumItem → ℕ
item_cases (item.Cases cs) = length cs
item_cases (item.Member m) = 0

-- how many cases the lines have
abbrev pub case_count : List EnumItem → ℕ
case_count items = narrow (sum_by item_cases items)

abbrev pub enum_drafts : Table → List EnumItem → List Draft
enum_drafts heads = along (λ before i. item_drafts heads (case_count before) i)

abbrev pub signature_at : ℕ → ℕ → List ℕ → SignatureForm → Signature
signature_at first at name f = record { name = name; code = record { number = wide (first + at) }; form = f }

-- more members behind some that stand already: the codes count up from `first`
abbrev pub more_signatures : ℕ → List Signature → List Draft → List Signature
more_signatures first done [] = done
more_signatures first done (d ∷ ds) = more_signatures first (done ++ signature_at first (length done) d.name d.form ∷ []) ds

-- the members with the numbers of their codes, where that of the first one is `first`
unfoldable pub signatures : ℕ → List Draft → List Signature
signatures first ds = more_signatures first [] ds
