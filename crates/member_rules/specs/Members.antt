-- What the members of a declaration become: one rule for each form of a member.
use Rattle.std.specs.Prelude.{◌≡◌, ℕ, Bool, true, false, not, ◌&&◌, List, [], ◌∷◌, map, codes, find, nat_eq, Option, Some, None, slice_get}
use Rattle.std.specs.Str.{bytes_eq}
use Rattle.swift_core.specs.declared.ty.Ty.{Ty}
use Rattle.swift_core.specs.Types.{same_ty}
use Rattle.swift_core.specs.declared.table.Table.{Table}
use Rattle.swift_core.specs.declared.table.Declaration.{Declaration}
use Rattle.swift_core.specs.declared.table.Kind.{Kind}
use Rattle.swift_core.specs.declared.table.Kind.TheVariants as kind
use Rattle.swift_core.specs.declared.table.Signature.{Signature}
use Rattle.swift_core.specs.declared.table.SignatureForm.{SignatureForm}
use Rattle.swift_core.specs.declared.table.SignatureForm.TheVariants as sig
use Rattle.swift_core.specs.declared.table.ParamSignature.{ParamSignature}
use Rattle.swift_core.specs.declared.table.MemberPlace.{MemberPlace}
use Rattle.swift_core.specs.declared.code.Code.{Code}
use Rattle.swift_core.specs.declared.code.CoreMember.{CoreMember}
use Rattle.swift_core.specs.declared.term.Core.{Core}
use Rattle.swift_core.specs.declared.stmt.CoreStmt.{CoreStmt}
use Rattle.swift_core.specs.declared.item.CoreItem.{CoreItem}
use Rattle.swift_ast.specs.declared.tree.Expr.{Expr}
use Rattle.swift_ast.specs.declared.tree.Stmt.{Stmt}
use Rattle.swift_ast.specs.declared.type_name.TypeName.{TypeName}
use Rattle.swift_ast.specs.declared.piece.Member.{Member}
use Rattle.swift_ast.specs.declared.piece.MemberForm.{MemberForm}
use Rattle.swift_ast.specs.declared.piece.MemberForm.TheVariants as member
use Rattle.swift_ast.specs.declared.piece.ResultName.{ResultName}
use Rattle.swift_ast.specs.declared.piece.ResultName.TheVariants as result
use Rattle.swift_ast.specs.declared.piece.Param.{Param}
use Rattle.swift_ast.specs.declared.piece.ParamForm.{ParamForm}
use Rattle.swift_ast.specs.declared.piece.ParamForm.TheVariants as param
use Rattle.swift_ast.specs.declared.piece.Entry.{Entry}
use Rattle.type_base.specs.declared.scope.Local.{Local}
use Rattle.type_base.specs.declared.scope.LocalKind.{LocalKind}
use Rattle.type_base.specs.declared.scope.LocalKind.TheVariants as local
use Rattle.type_base.specs.declared.scope.Stance.{Stance}
use Rattle.type_base.specs.declared.scope.Stance.TheVariants as stance
use Rattle.type_base.specs.Context.{Context}
use Rattle.type_base.specs.LocalTypes.{local_type}
use Rattle.type_base.specs.Names.{is_new}
use Rattle.type_base.specs.Scopes.{with_local, entered}
use Rattle.type_base.specs.TypeNames.{type_of}
use Rattle.type_base.specs.Claims.{and_then, when}
use Rattle.type_base.specs.Rules.{PartRule}
use Rattle.value_rules.specs.Values.{TypedWanted}
use Rattle.stmt_rules.specs.Rules.{TypedBody}
use Rattle.view_rules.specs.Builds.{BuildRule}
use Rattle.view_rules.specs.Items.{Built}
use Rattle.view_rules.specs.Scenes.{Scene}
use Rattle.member_rules.specs.Shapes.{without_code, of_value, of_statements, of_builder, inside, stance_of, function_stance}

-- ---- properties

-- a property with a type: its initial value, if it is written, stands where that type is expected
unfoldable pub InitialOf : Option Ty → Option Expr → PartRule CoreMember
InitialOf t None cx m = (u : Ty) × (t ≡ Some u) × (m ≡ without_code)
InitialOf t (Some e) cx m = (u : Ty) × (t ≡ Some u) × ((c : Core) × TypedWanted e u cx c × (m ≡ of_value c))

-- the type that is written, if one is, is this one
abbrev pub same_as : Option Ty → Ty → Bool
same_as None t = false
same_as (Some u) t = same_ty u t

abbrev pub is_written : Table → Option TypeName → Ty → Bool
is_written table None t = true
is_written table (Some n) t = same_as (type_of table n) t

-- the type of an environment key
abbrev pub environment_type : Table → ℕ → Option Ty
environment_type table k = and_then (slice_get table.environment k) (λ key. key.ty)

-- what reads an environment key, which has the type that is written, if one is
unfoldable pub ReadsKey : ℕ → Option TypeName → PartRule CoreMember
ReadsKey k declared cx m =
    (t : Ty) × (environment_type cx.table k ≡ Some t) × ((is_written cx.table declared t ≡ true) × (m ≡ without_code))

-- a computed property of a type: its statements give a value of the type
unfoldable pub ComputedOf : Option Ty → List Stmt → PartRule CoreMember
ComputedOf t ss cx m =
    (u : Ty) × (t ≡ Some u) ×
    ((body : List CoreStmt) × TypedBody (Some u) ss cx body × (m ≡ of_statements [] body))

-- ---- functions

abbrev pub parameter : Param → LocalKind → Ty → Local
parameter p k t = record { name = p.name; ty = t; kind = k }

-- the parameters as locals: each has a type, and none has the name of one before it
abbrev pub with_parameters : List ParamSignature → List Param → Context → Option Context
with_parameters [] [] cx = Some cx
with_parameters (s ∷ ss) (p ∷ ps) cx = and_then s.ty (λ t. when (is_new p.name cx) (with_parameters ss ps (with_local cx (parameter p local.Let t))))
with_parameters _ _ cx = None

-- a function without a written result has none, and one with a written type has a result
abbrev pub has_result : Option ResultName → Option Ty → Bool
has_result None None = true
has_result (Some (result.Plain n)) (Some t) = true
has_result _ _ = false

-- a function: the statements of its body stand under its parameters
unfoldable pub FunctionOf : List ParamSignature → Option Ty → List Param → Option ResultName → List Stmt → PartRule CoreMember
FunctionOf signatures t params r ss cx m =
    (has_result r t ≡ true) ×
    ((inner : Context) × (with_parameters signatures params cx ≡ Some inner) ×
    ((body : List CoreStmt) × TypedBody t ss (entered inner) body × (m ≡ of_statements (map local_type inner.locals) body)))

-- ---- views

-- a property that gives views
unfoldable pub BuilderOf : BuildRule (List CoreItem) → PartRule CoreMember
BuilderOf R cx m = (r : List CoreItem × List Code) × R cx [] r × (m ≡ of_builder [] r.0 r.1)

-- the builder of an app is its scene
abbrev pub BuilderIn : Kind → List Stmt → BuildRule (List CoreItem)
BuilderIn kind.App ss = Scene ss
BuilderIn _ ss = Built ss

-- a function that gives views
unfoldable pub BuilderFunctionOf : List ParamSignature → List Param → BuildRule (List CoreItem) → PartRule CoreMember
BuilderFunctionOf signatures params R cx m =
    (inner : Context) × (with_parameters signatures params cx ≡ Some inner) ×
    ((r : List CoreItem × List Code) × R (entered inner) [] r × (m ≡ of_builder (map local_type inner.locals) r.0 r.1))

-- ---- preference keys

-- the type of the values of a preference key
abbrev pub key_type : Table → Kind → Option Ty
key_type table (kind.Key k) = and_then (slice_get table.preferences k) (λ key. key.ty)
key_type table _ = None

abbrev pub inout_type : Table → ParamForm → Option Ty
inout_type table (param.Inout n) = type_of table n
inout_type table _ = None

abbrev pub next_type : Table → ParamForm → Option Ty
next_type table (param.Function n) = type_of table n
next_type table _ = None

-- the parameters of `reduce` over values of this type as locals: the value so far, which can be written, and a function that gives the next value
abbrev pub with_folding : Ty → List Param → Context → Option Context
with_folding t (p ∷ q ∷ []) cx =
    when (same_as (inout_type cx.table p.form) t && same_as (next_type cx.table q.form) t)
    (when (is_new p.name cx) (when (is_new q.name (with_local cx (parameter p local.Var t))) (Some (with_local (with_local cx (parameter p local.Var t)) (parameter q local.Next t)))))
with_folding t _ cx = None

unfoldable pub ReduceOf : Kind → List Param → List Stmt → PartRule CoreMember
ReduceOf k params ss cx m =
    (t : Ty) × (key_type cx.table k ≡ Some t) ×
    ((inner : Context) × (with_folding t params cx ≡ Some inner) ×
    ((body : List CoreStmt) × TypedBody None ss (entered inner) body × (m ≡ of_statements (map local_type inner.locals) body)))

-- ---- members

-- a property that is written with its type or its initial value, or with both
abbrev pub PropertyOf : Context → SignatureForm → Option TypeName → Option Expr → CoreMember → Type 0
PropertyOf cx (sig.Stored at binder t argument) declared value = InitialOf t value cx
PropertyOf cx (sig.State slot t argument) declared value = InitialOf t value cx
PropertyOf cx (sig.Binding at t) declared None = InitialOf t None cx
PropertyOf cx (sig.Environment key) declared None = ReadsKey key declared cx
PropertyOf cx (sig.Static t) declared (Some e) = InitialOf t (Some e) cx
PropertyOf cx _ declared value = λ m. ⊥

-- a property that is written with statements
abbrev pub StatementsOf : (Stance → Context) → Kind → SignatureForm → List Stmt → CoreMember → Type 0
StatementsOf at k (sig.Static t) ss = ComputedOf t ss (at stance.Key)
StatementsOf at k (sig.Computed t) ss = ComputedOf t ss (at (stance_of k))
StatementsOf at k sig.BuilderProperty ss = BuilderOf (BuilderIn k ss) (at (stance_of k))
StatementsOf at k _ ss = λ m. ⊥

-- a function
abbrev pub CallOf : (Stance → Context) → Kind → SignatureForm → List Param → Option ResultName → List Stmt → CoreMember → Type 0
CallOf at k (sig.Function signatures t mutating) params r ss = FunctionOf signatures t params r ss (at (function_stance mutating k))
CallOf at k (sig.BuilderFunction signatures) params r ss = BuilderFunctionOf signatures params (Built ss) (at (stance_of k))
CallOf at k sig.Reduce params r ss = ReduceOf k params ss (at stance.Key)
CallOf at k _ params r ss = λ m. ⊥

-- a member of what its declaration says it is, by what is written
abbrev pub MemberOf : Table → Option ℕ → Kind → SignatureForm → MemberForm → CoreMember → Type 0
MemberOf table d k s (member.Stored b name declared value) = PropertyOf (inside table d stance.Initial) s declared value
MemberOf table d k s (member.Computed name r ss) = StatementsOf (inside table d) k s ss
MemberOf table d k s (member.Function name params r ss) = CallOf (inside table d) k s params r ss

abbrev pub name_of : MemberForm → List ℕ
name_of (member.Stored b name declared value) = name
name_of (member.Computed name r ss) = name
name_of (member.Function name params r ss) = name

-- `_` names nothing
abbrev pub names_something : List ℕ → Bool
names_something w = not (bytes_eq w (codes "_"))

-- the member at this place has this core: it has a name, and it is what its declaration says that it is
unfoldable pub TypedAt : Table → MemberPlace → MemberForm → CoreMember → Type 0
TypedAt table place f m =
    (names_something (name_of f) ≡ true) ×
    ((d : ℕ) × (place.declaration ≡ Some d) ×
    ((owner : Declaration) × (slice_get table.declarations d ≡ Some owner) ×
    ((s : Signature) × (slice_get owner.members place.at ≡ Some s) ×
    MemberOf table (Some d) owner.kind s.form f m)))

-- where the table says that a member begins with this token: the first such place
abbrev pub begins : ℕ → MemberPlace → Bool
begins token p = nat_eq p.first token

abbrev pub place_of : Table → ℕ → Option MemberPlace
place_of table token = find (begins token) table.members

-- the member of a declaration of this table has this core
unfoldable pub TypedMember : Table → Member → CoreMember → Type 0
TypedMember table x m = (place : MemberPlace) × (place_of table x.span.first ≡ Some place) × TypedAt table place x.form m

-- the environment key at this place has this default
unfoldable pub TypedEntry : Table → MemberPlace → Entry → CoreMember → Type 0
TypedEntry table place x m =
    (names_something x.name ≡ true) ×
    ((t : Ty) × (environment_type table place.at ≡ Some t) ×
    ((c : Core) × TypedWanted x.value t (inside table None stance.Outside) c × (m ≡ of_value c)))
