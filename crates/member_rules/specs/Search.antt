-- What the search for the core of a member finds, and that it is what the rules relate.
use Rattle.std.specs.Prelude.{ℕ, List, [], map, Option, Some, None, slice_get}
use Rattle.swift_core.specs.declared.ty.Ty.{Ty}
use Rattle.swift_core.specs.declared.table.Table.{Table}
use Rattle.swift_core.specs.declared.table.Kind.{Kind}
use Rattle.swift_core.specs.declared.table.Kind.TheVariants as kind
use Rattle.swift_core.specs.declared.table.SignatureForm.{SignatureForm}
use Rattle.swift_core.specs.declared.table.SignatureForm.TheVariants as sig
use Rattle.swift_core.specs.declared.table.ParamSignature.{ParamSignature}
use Rattle.swift_core.specs.declared.table.MemberPlace.{MemberPlace}
use Rattle.swift_core.specs.declared.code.CoreMember.{CoreMember}
use Rattle.swift_core.specs.declared.item.CoreItem.{CoreItem}
use Rattle.swift_ast.specs.declared.tree.Expr.{Expr}
use Rattle.swift_ast.specs.declared.tree.Stmt.{Stmt}
use Rattle.swift_ast.specs.declared.type_name.TypeName.{TypeName}
use Rattle.swift_ast.specs.declared.piece.Member.{Member}
use Rattle.swift_ast.specs.declared.piece.MemberForm.{MemberForm}
use Rattle.swift_ast.specs.declared.piece.MemberForm.TheVariants as member
use Rattle.swift_ast.specs.declared.piece.ResultName.{ResultName}
use Rattle.swift_ast.specs.declared.piece.Param.{Param}
use Rattle.swift_ast.specs.declared.piece.Entry.{Entry}
use Rattle.type_base.specs.declared.scope.Stance.{Stance}
use Rattle.type_base.specs.declared.scope.Stance.TheVariants as stance
use Rattle.type_base.specs.Context.{Context}
use Rattle.type_base.specs.LocalTypes.{local_type}
use Rattle.type_base.specs.Scopes.{entered}
use Rattle.type_base.specs.Claims.{Reads, Then, and_then, when, reads_give, reads_none, reads_then, reads_when, reads_is, bool_is}
use Rattle.type_base.specs.Rules.{FindPart, ExactPart}
use Rattle.value_rules.specs.Values.{infer_wanted, wanted_exact}
use Rattle.stmt_rules.specs.Search.{find_body}
use Rattle.stmt_rules.specs.Exacts.{body_exact}
use Rattle.view_rules.specs.Builds.{BuildRule, FindBuild, ExactBuild}
use Rattle.view_rules.specs.Items.{find_built, built_exact}
use Rattle.view_rules.specs.Scenes.{find_scene, scene_exact}
use Rattle.member_rules.specs.Shapes.{without_code, of_value, of_statements, of_builder, inside, stance_of, function_stance}
use Rattle.member_rules.specs.Members.{InitialOf, ReadsKey, ComputedOf, FunctionOf, BuilderOf, BuilderIn, BuilderFunctionOf, ReduceOf, PropertyOf, StatementsOf, CallOf, MemberOf, TypedAt, TypedMember, TypedEntry, environment_type, is_written, with_parameters, has_result, key_type, with_folding, name_of, names_something, place_of}

-- ---- one search for each rule

unfoldable pub initial_of : Option Ty → Option Expr → FindPart CoreMember
initial_of t None cx = and_then t (λ u. Some without_code)
initial_of t (Some e) cx = and_then t (λ u. and_then (infer_wanted e u cx) (λ c. Some (of_value c)))

pub initial_exact : (t : Option Ty) (value : Option Expr) → ExactPart (initial_of t value) (InitialOf t value)
unfolding initial_of InitialOf Then
initial_exact t None cx = reads_then (reads_is t) (λ u. reads_give _)
initial_exact t (Some e) cx = reads_then (reads_is t) (λ u. reads_then (wanted_exact e u cx) (λ c. reads_give _))

unfoldable pub reads_key : ℕ → Option TypeName → FindPart CoreMember
reads_key k declared cx = and_then (environment_type cx.table k) (λ t. when (is_written cx.table declared t) (Some without_code))

pub reads_key_exact : (k : ℕ) (declared : Option TypeName) → ExactPart (reads_key k declared) (ReadsKey k declared)
unfolding reads_key ReadsKey Then
reads_key_exact k declared cx = reads_then (reads_is _) (λ t. reads_when bool_is (reads_give _))

unfoldable pub computed_of : Option Ty → List Stmt → FindPart CoreMember
computed_of t ss cx = and_then t (λ u. and_then (find_body (Some u) ss cx) (λ body. Some (of_statements [] body)))

pub computed_exact : (t : Option Ty) (ss : List Stmt) → ExactPart (computed_of t ss) (ComputedOf t ss)
unfolding computed_of ComputedOf Then
computed_exact t ss cx = reads_then (reads_is t) (λ u. reads_then (body_exact (Some u) ss cx) (λ body. reads_give _))

unfoldable pub function_of : List ParamSignature → Option Ty → List Param → Option ResultName → List Stmt → FindPart CoreMember
function_of signatures t params r ss cx =
    when (has_result r t) (and_then (with_parameters signatures params cx) (λ inner.
    and_then (find_body t ss (entered inner)) (λ body. Some (of_statements (map local_type inner.locals) body))))

pub function_exact : (signatures : List ParamSignature) (t : Option Ty) (params : List Param) (r : Option ResultName) (ss : List Stmt)
    → ExactPart (function_of signatures t params r ss) (FunctionOf signatures t params r ss)
unfolding function_of FunctionOf Then
function_exact signatures t params r ss cx =
    reads_when bool_is (reads_then (reads_is _) (λ inner. reads_then (body_exact t ss (entered inner)) (λ body. reads_give _)))

unfoldable pub builder_of : FindBuild (List CoreItem) → FindPart CoreMember
builder_of f cx = and_then (f cx []) (λ r. Some (of_builder [] r.0 r.1))

pub builder_of_exact : {f : FindBuild (List CoreItem)} {R : BuildRule (List CoreItem)} → ExactBuild f R → ExactPart (builder_of f) (BuilderOf R)
unfolding builder_of BuilderOf Then
builder_of_exact h cx = reads_then (h cx []) (λ r. reads_give _)

abbrev pub builder_in : Kind → List Stmt → FindBuild (List CoreItem)
builder_in kind.App ss = find_scene ss
builder_in _ ss = find_built ss

pub builder_in_exact : (k : Kind) (ss : List Stmt) → ExactBuild (builder_in k ss) (BuilderIn k ss)
builder_in_exact kind.App ss = scene_exact ss
builder_in_exact _ ss = built_exact ss

unfoldable pub builder_function_of : List ParamSignature → List Param → FindBuild (List CoreItem) → FindPart CoreMember
builder_function_of signatures params f cx =
    and_then (with_parameters signatures params cx) (λ inner. and_then (f (entered inner) []) (λ r. Some (of_builder (map local_type inner.locals) r.0 r.1)))

pub builder_function_exact : {f : FindBuild (List CoreItem)} {R : BuildRule (List CoreItem)} (signatures : List ParamSignature) (params : List Param) → ExactBuild f R
    → ExactPart (builder_function_of signatures params f) (BuilderFunctionOf signatures params R)
unfolding builder_function_of BuilderFunctionOf Then
builder_function_exact signatures params h cx = reads_then (reads_is _) (λ inner. reads_then (h (entered inner) []) (λ r. reads_give _))

unfoldable pub reduce_of : Kind → List Param → List Stmt → FindPart CoreMember
reduce_of k params ss cx =
    and_then (key_type cx.table k) (λ t. and_then (with_folding t params cx) (λ inner.
    and_then (find_body None ss (entered inner)) (λ body. Some (of_statements (map local_type inner.locals) body))))

pub reduce_exact : (k : Kind) (params : List Param) (ss : List Stmt) → ExactPart (reduce_of k params ss) (ReduceOf k params ss)
unfolding reduce_of ReduceOf Then
reduce_exact k params ss cx =
    reads_then (reads_is _) (λ t. reads_then (reads_is _) (λ inner. reads_then (body_exact None ss (entered inner)) (λ body. reads_give _)))

-- ---- a member

abbrev pub property_of : Context → SignatureForm → Option TypeName → Option Expr → Option CoreMember
property_of cx (sig.Stored at binder t argument) declared value = initial_of t value cx
property_of cx (sig.State slot t argument) declared value = initial_of t value cx
property_of cx (sig.Binding at t) declared None = initial_of t None cx
property_of cx (sig.Environment key) declared None = reads_key key declared cx
property_of cx (sig.Static t) declared (Some e) = initial_of t (Some e) cx
property_of cx _ declared value = None

pub property_exact : (cx : Context) (s : SignatureForm) (declared : Option TypeName) (value : Option Expr) → Reads (property_of cx s declared value) (PropertyOf cx s declared value)
property_exact cx (sig.Stored at binder t argument) declared value = initial_exact t value cx
property_exact cx (sig.State slot t argument) declared value = initial_exact t value cx
property_exact cx (sig.Binding at t) declared None = initial_exact t None cx
property_exact cx (sig.Environment key) declared None = reads_key_exact key declared cx
property_exact cx (sig.Static t) declared (Some e) = initial_exact t (Some e) cx
property_exact cx _ declared value = reads_none

abbrev pub statements_of : (Stance → Context) → Kind → SignatureForm → List Stmt → Option CoreMember
statements_of at k (sig.Static t) ss = computed_of t ss (at stance.Key)
statements_of at k (sig.Computed t) ss = computed_of t ss (at (stance_of k))
statements_of at k sig.BuilderProperty ss = builder_of (builder_in k ss) (at (stance_of k))
statements_of at k _ ss = None

pub statements_exact : (at : Stance → Context) (k : Kind) (s : SignatureForm) (ss : List Stmt) → Reads (statements_of at k s ss) (StatementsOf at k s ss)
statements_exact at k (sig.Static t) ss = computed_exact t ss _
statements_exact at k (sig.Computed t) ss = computed_exact t ss _
statements_exact at k sig.BuilderProperty ss = builder_of_exact (builder_in_exact k ss) _
statements_exact at k _ ss = reads_none

abbrev pub call_of : (Stance → Context) → Kind → SignatureForm → List Param → Option ResultName → List Stmt → Option CoreMember
call_of at k (sig.Function signatures t mutating) params r ss = function_of signatures t params r ss (at (function_stance mutating k))
call_of at k (sig.BuilderFunction signatures) params r ss = builder_function_of signatures params (find_built ss) (at (stance_of k))
call_of at k sig.Reduce params r ss = reduce_of k params ss (at stance.Key)
call_of at k _ params r ss = None

pub call_exact : (at : Stance → Context) (k : Kind) (s : SignatureForm) (params : List Param) (r : Option ResultName) (ss : List Stmt)
    → Reads (call_of at k s params r ss) (CallOf at k s params r ss)
call_exact at k (sig.Function signatures t mutating) params r ss = function_exact signatures t params r ss _
call_exact at k (sig.BuilderFunction signatures) params r ss = builder_function_exact signatures params (built_exact ss) _
call_exact at k sig.Reduce params r ss = reduce_exact k params ss _
call_exact at k _ params r ss = reads_none

abbrev pub member_of : Table → Option ℕ → Kind → SignatureForm → MemberForm → Option CoreMember
member_of table d k s (member.Stored b name declared value) = property_of (inside table d stance.Initial) s declared value
member_of table d k s (member.Computed name r ss) = statements_of (inside table d) k s ss
member_of table d k s (member.Function name params r ss) = call_of (inside table d) k s params r ss

pub member_exact : (table : Table) (d : Option ℕ) (k : Kind) (s : SignatureForm) (f : MemberForm) → Reads (member_of table d k s f) (MemberOf table d k s f)
member_exact table d k s (member.Stored b name declared value) = property_exact _ s declared value
member_exact table d k s (member.Computed name r ss) = statements_exact (inside table d) k s ss
member_exact table d k s (member.Function name params r ss) = call_exact (inside table d) k s params r ss

unfoldable pub find_at : Table → MemberPlace → MemberForm → Option CoreMember
find_at table place f =
    when (names_something (name_of f)) (and_then place.declaration (λ d.
    and_then (slice_get table.declarations d) (λ owner. and_then (slice_get owner.members place.at) (λ s.
    member_of table (Some d) owner.kind s.form f))))

pub find_at_exact : (table : Table) (place : MemberPlace) (f : MemberForm) → Reads (find_at table place f) (TypedAt table place f)
unfolding find_at TypedAt Then
find_at_exact table place f =
    reads_when bool_is (reads_then (reads_is _) (λ d. reads_then (reads_is _) (λ owner. reads_then (reads_is _) (λ s. member_exact table (Some d) owner.kind s.form f))))

unfoldable pub find_member : Table → Member → Option CoreMember
find_member table x = and_then (place_of table x.span.first) (λ place. find_at table place x.form)

pub find_member_exact : (table : Table) (x : Member) → Reads (find_member table x) (TypedMember table x)
unfolding find_member TypedMember Then
find_member_exact table x = reads_then (reads_is _) (λ place. find_at_exact table place x.form)

unfoldable pub find_entry : Table → MemberPlace → Entry → Option CoreMember
find_entry table place x =
    when (names_something x.name) (and_then (environment_type table place.at) (λ t.
    and_then (infer_wanted x.value t (inside table None stance.Outside)) (λ c. Some (of_value c))))

pub find_entry_exact : (table : Table) (place : MemberPlace) (x : Entry) → Reads (find_entry table place x) (TypedEntry table place x)
unfolding find_entry TypedEntry Then
find_entry_exact table place x = reads_when bool_is (reads_then (reads_is _) (λ t. reads_then (wanted_exact x.value t _) (λ c. reads_give _)))
