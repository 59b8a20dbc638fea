-- A member that fits its declaration has a form that stands in the declaration's kind, and its signature says how it begins.
use Rattle.std.specs.Prelude.{◌≡◌, ◌⊎◌, ℕ, zero, suc, ◌+◌, ◌<◌, Bool, true, false, ◌&&◌, ◌||◌, List, [], ◌∷◌, Option, Some, None, is_some, length, codes, if◌then◌else◌, slice_get}
use Rattle.std.specs.FinMap as fin
use Rattle.std.specs.Str.{bytes_eq}
use Rattle.std.proofs.Common.{refl, sym, ap, subst, ◌∙◌, inl, inr, cond}
use Rattle.std.proofs.lemmas.Bool.{lt-ltb}
use Rattle.swift_ast.specs.declared.piece.EnumItem.{EnumItem}
use Rattle.swift_ast.specs.declared.piece.EnumItem.TheVariants as item
use Rattle.swift_ast.specs.declared.piece.Member.{Member}
use Rattle.swift_ast.specs.declared.piece.MemberForm.{MemberForm}
use Rattle.swift_ast.specs.declared.piece.MemberForm.TheVariants as member
use Rattle.swift_ast.specs.declared.piece.Modifier.{Modifier}
use Rattle.swift_ast.specs.declared.piece.Param.{Param}
use Rattle.swift_ast.specs.declared.piece.PieceForm.{PieceForm}
use Rattle.swift_ast.specs.declared.piece.PieceForm.TheVariants as piece
use Rattle.swift_ast.specs.declared.piece.ResultName.{ResultName}
use Rattle.swift_ast.specs.declared.piece.ResultName.TheVariants.{Plain, Opaque}
use Rattle.swift_ast.specs.declared.piece.Source.{Source}
use Rattle.swift_ast.specs.declared.piece.StructBody.{StructBody}
use Rattle.swift_ast.specs.declared.piece.StructBody.TheVariants.{Members, LeftAside}
use Rattle.swift_ast.specs.declared.piece.StructPiece.{StructPiece}
use Rattle.swift_ast.specs.declared.tree.Binder.{Binder}
use Rattle.swift_ast.specs.declared.tree.Expr.{Expr}
use Rattle.swift_ast.specs.declared.type_name.TypeName.{TypeName}
use Rattle.swift_core.specs.Typing.{stands_in}
use Rattle.swift_core.specs.declared.table.Declaration.{Declaration}
use Rattle.swift_core.specs.declared.table.Kind.{Kind}
use Rattle.swift_core.specs.declared.table.Kind.TheVariants as kind
use Rattle.swift_core.specs.declared.table.ParamSignature.{ParamSignature}
use Rattle.swift_core.specs.declared.table.Signature.{Signature}
use Rattle.swift_core.specs.declared.table.SignatureForm.{SignatureForm}
use Rattle.swift_core.specs.declared.table.SignatureForm.TheVariants as form
use Rattle.swift_core.specs.declared.table.Table.{Table}
use Rattle.swift_core.specs.declared.ty.Ty.{Ty}
use Rattle.type_base.specs.TypeNames.{type_of}
use Rattle.member_forms.specs.declared.marks.Mark.TheVariants as mark
use Rattle.member_forms.specs.declared.role.Role.{Role}
use Rattle.member_forms.specs.declared.role.Role.TheVariants as role
use Rattle.member_forms.specs.declared.role.Sort.{Sort}
use Rattle.member_forms.specs.declared.role.Sort.TheVariants as sort
use Rattle.member_forms.specs.Marks.{bare, marked, environment_key}
use Rattle.member_forms.specs.Roles.{when_fits, may_start, builder, function_in_data, reduce_params, role_of}
use Rattle.member_forms.specs.Whole as whole
use Rattle.member_forms.specs.Whole.{sort_of}
use Rattle.type_table.specs.Along.{narrow}
use Rattle.type_table.specs.Heads.{heads_table, next_key, struct_kind, enum_kind}
use Rattle.type_table.specs.Signatures.{Draft, signature_at, key_form, key_at, stored_form, computed_form, result_form, valued_form, function_form, member_form, params_of, case_draft, enum_member, item_drafts, case_count, enum_drafts}
use Rattle.type_table.specs.Tables.{first_code, struct_declaration, declarations_at}
use Rattle.table_names.specs.Lists.{each_at, given_by}
use Rattle.table_names.specs.Pieces.{declared_by, made_struct, made_enum, signatures_along}
use Rattle.table_places.specs.Places.{role_at, role_is}
use Rattle.table_places.specs.Members.{of_member, stands_there}
use Rattle.table_fits.specs.Fitting.{cases_fit}
use Rattle.table_names.specs.Tables.{IsTableOf, IsSmall, bare_form, declaration_alike, signature_alike}

-- a form stands in a kind, or it is one that fits no declaration
abbrev Stood : Kind → SignatureForm → Type 0
Stood k f = (f ≡ form.Unfit) ⊎ (stands_in k f ≡ true)

-- ---- it doesn't depend on types

stood_bare : (k : Kind) (f : SignatureForm) → stands_in k (bare_form f) ≡ stands_in k f
stood_bare (kind.Data b) (form.Stored n c t a) = refl
stood_bare (kind.Enum b m) (form.Stored n c t a) = refl
stood_bare kind.View (form.Stored n c t a) = refl
stood_bare kind.App (form.Stored n c t a) = refl
stood_bare (kind.Key m) (form.Stored n c t a) = refl
stood_bare (kind.Data b) (form.State n t a) = refl
stood_bare (kind.Enum b m) (form.State n t a) = refl
stood_bare kind.View (form.State n t a) = refl
stood_bare kind.App (form.State n t a) = refl
stood_bare (kind.Key m) (form.State n t a) = refl
stood_bare (kind.Data b) (form.Static t) = refl
stood_bare (kind.Enum b m) (form.Static t) = refl
stood_bare kind.View (form.Static t) = refl
stood_bare kind.App (form.Static t) = refl
stood_bare (kind.Key m) (form.Static t) = refl
stood_bare k (form.Binding n t) = refl
stood_bare k (form.Environment n) = refl
stood_bare k (form.Case n) = refl
stood_bare k (form.Computed t) = refl
stood_bare k (form.Function ps t m) = refl
stood_bare k form.BuilderProperty = refl
stood_bare k (form.BuilderFunction ps) = refl
stood_bare k form.Reduce = refl
stood_bare k form.Unfit = refl

unfit_bare : (f : SignatureForm) → bare_form f ≡ form.Unfit → f ≡ form.Unfit
unfit_bare (form.Stored n c t a) e = cc
unfit_bare (form.State n t a) e = cc
unfit_bare (form.Static t) e = cc
unfit_bare (form.Binding n t) e = e
unfit_bare (form.Environment n) e = e
unfit_bare (form.Case n) e = e
unfit_bare (form.Computed t) e = e
unfit_bare (form.Function ps t m) e = e
unfit_bare form.BuilderProperty e = e
unfit_bare (form.BuilderFunction ps) e = e
unfit_bare form.Reduce e = e
unfit_bare form.Unfit e = e

stood_alike : (k l : Kind) (f g : SignatureForm) → k ≡ l → bare_form f ≡ bare_form g → Stood l g → Stood k f
stood_alike k l f g e h (inl u) = inl (unfit_bare f (h ∙ ap bare_form u))
stood_alike k l f g e h (inr s) = inr (sym (stood_bare k f) ∙ ap (stands_in k) h ∙ stood_bare k g ∙ ap (λ x. stands_in x g) e ∙ s)

-- ---- by the roles of members

stood_if : (k : Kind) (make : Role → SignatureForm) (b : Bool) (x y : Role) → Stood k (make x) → Stood k (make y) → Stood k (make (cond b x y))
stood_if k make true x y u v = u
stood_if k make false x y u v = v

key_stood : (o : Option ℕ) → Stood kind.View (key_form o)
key_stood None = inl refl
key_stood (Some k) = inr refl

read_stood : (heads : Table) (o : Option (List ℕ)) → Stood kind.View (key_at heads o)
read_stood heads None = inl refl
read_stood heads (Some w) = key_stood (fin.get heads.keys w)

-- every stored member of a view
view_stored : (heads : Table) (i j : ℕ) (r : Role) (ms : List Modifier) (b : Binder) (t : Option TypeName) (v : Option Expr) → Stood kind.View (stored_form heads i j r ms b t v)
view_stored heads i j role.Stored ms b t v = inr refl
view_stored heads i j role.State ms b t v = inr refl
view_stored heads i j role.Binding ms b t v = inr refl
view_stored heads i j role.Environment ms b t v = read_stood heads (environment_key ms)
view_stored heads i j role.Static ms b t v = inr refl
view_stored heads i j role.Computed ms b t v = inl refl
view_stored heads i j role.Function ms b t v = inl refl
view_stored heads i j role.Mutating ms b t v = inl refl
view_stored heads i j role.BuilderProperty ms b t v = inl refl
view_stored heads i j role.BuilderFunction ms b t v = inl refl
view_stored heads i j role.Reduce ms b t v = inl refl
view_stored heads i j role.Unfit ms b t v = inl refl

-- functions that change nothing stand in data structs, enums and views
abbrev Calls : Kind → Type 0
Calls k = (ps : List ParamSignature) (t : Option Ty) → stands_in k (form.Function ps t false) ≡ true

result_stood : (k : Kind) → Calls k → (ps : List ParamSignature) (t : Option Ty) → Stood k (result_form ps false t)
result_stood k calls ps None = inl refl
result_stood k calls ps (Some t) = inr (calls ps (Some t))

valued_stood : (k : Kind) → Calls k → (heads : Table) (ps : List Param) (r : Option ResultName) → Stood k (valued_form heads ps false r)
valued_stood k calls heads ps None = inr (calls (params_of heads ps) None)
valued_stood k calls heads ps (Some (Plain t)) = result_stood k calls (params_of heads ps) (type_of heads t)
valued_stood k calls heads ps (Some (Opaque w)) = inl refl

mutating_stood : (b : Bool) (heads : Table) (ps : List Param) (r : Option ResultName) → Stood (kind.Data b) (valued_form heads ps true r)
mutating_stood b heads ps None = inr refl
mutating_stood b heads ps (Some (Plain t)) = by (type_of heads t)
  where
    by : (o : Option Ty) → Stood (kind.Data b) (result_form (params_of heads ps) true o)
    by None = inl refl
    by (Some u) = inr refl
mutating_stood b heads ps (Some (Opaque w)) = inl refl

data_functions : (b : Bool) (heads : Table) (ms : List Modifier) (ps : List Param) (r : Option ResultName) → Stood (kind.Data b) (function_form heads (function_in_data ms) ps r)
data_functions b heads ms ps r =
    stood_if (kind.Data b) (λ x. function_form heads x ps r) (bare ms) role.Function (when_fits (marked mark.Mutating ms) role.Mutating) (valued_stood (kind.Data b) (λ ps t. refl) heads ps r)
    (stood_if (kind.Data b) (λ x. function_form heads x ps r) (marked mark.Mutating ms) role.Mutating role.Unfit (mutating_stood b heads ps r) (inl refl))

bare_function : (k : Kind) → Calls k → (heads : Table) (ms : List Modifier) (ps : List Param) (r : Option ResultName) → Stood k (function_form heads (cond (bare ms) role.Function role.Unfit) ps r)
bare_function k calls heads ms ps r = stood_if k (λ x. function_form heads x ps r) (bare ms) role.Function role.Unfit (valued_stood k calls heads ps r) (inl refl)

bare_computed : (k : Kind) → ((t : Option Ty) → stands_in k (form.Computed t) ≡ true) → (heads : Table) (ms : List Modifier) (t : TypeName)
    → Stood k (computed_form heads (cond (bare ms) role.Computed role.Unfit) (Plain t))
bare_computed k calls heads ms t = stood_if k (λ x. computed_form heads x (Plain t)) (bare ms) role.Computed role.Unfit (inr (calls (type_of heads t))) (inl refl)

-- a member of a data struct
data_stood : (x : Bool) (heads : Table) (i j : ℕ) (ms : List Modifier) (f : MemberForm) → Stood (kind.Data x) (member_form heads i j (role_at sort.Data ms f) ms f)
data_stood x heads i j ms (member.Stored b w t v) =
    stood_if (kind.Data x) (λ r. stored_form heads i j r ms b t v) (bare ms && may_start ms b t v) role.Stored role.Unfit (inr refl) (inl refl)
data_stood x heads i j ms (member.Computed w (Plain t) body) = bare_computed (kind.Data x) (λ t. refl) heads ms t
data_stood x heads i j ms (member.Computed w (Opaque v) body) = inl refl
data_stood x heads i j ms (member.Function w ps None body) = data_functions x heads ms ps None
data_stood x heads i j ms (member.Function w ps (Some (Plain t)) body) = data_functions x heads ms ps (Some (Plain t))
data_stood x heads i j ms (member.Function w ps (Some (Opaque v)) body) = inl refl

-- a member of an enum that is no case: the same stands in a data struct
enum_stood : (k : Kind) → Calls k → ((t : Option Ty) → stands_in k (form.Computed t) ≡ true) → (heads : Table) (i j : ℕ) (ms : List Modifier) (f : MemberForm)
    → Stood k (member_form heads i j (role_at sort.Enum ms f) ms f)
enum_stood k calls computes heads i j ms (member.Stored b w t v) = inl refl
enum_stood k calls computes heads i j ms (member.Computed w (Plain t) body) = bare_computed k computes heads ms t
enum_stood k calls computes heads i j ms (member.Computed w (Opaque v) body) = inl refl
enum_stood k calls computes heads i j ms (member.Function w ps None body) = bare_function k calls heads ms ps None
enum_stood k calls computes heads i j ms (member.Function w ps (Some (Plain t)) body) = bare_function k calls heads ms ps (Some (Plain t))
enum_stood k calls computes heads i j ms (member.Function w ps (Some (Opaque v)) body) = inl refl

view_stood : (heads : Table) (i j : ℕ) (ms : List Modifier) (f : MemberForm) → Stood kind.View (member_form heads i j (role_at sort.View ms f) ms f)
view_stood heads i j ms (member.Stored b w t v) = view_stored heads i j (role_at sort.View ms (member.Stored b w t v)) ms b t v
view_stood heads i j ms (member.Computed w (Plain t) body) = bare_computed kind.View (λ t. refl) heads ms t
view_stood heads i j ms (member.Computed w (Opaque v) body) =
    stood_if kind.View (λ r. computed_form heads r (Opaque v)) (bytes_eq v (codes "View")) (builder ms role.BuilderProperty) role.Unfit
    (stood_if kind.View (λ r. computed_form heads r (Opaque v)) (bare ms || marked mark.ViewBuilder ms) role.BuilderProperty role.Unfit (inr refl) (inl refl)) (inl refl)
view_stood heads i j ms (member.Function w ps None body) = bare_function kind.View (λ ps t. refl) heads ms ps None
view_stood heads i j ms (member.Function w ps (Some (Plain t)) body) = bare_function kind.View (λ ps t. refl) heads ms ps (Some (Plain t))
view_stood heads i j ms (member.Function w ps (Some (Opaque v)) body) =
    stood_if kind.View (λ r. function_form heads r ps (Some (Opaque v))) (bytes_eq v (codes "View")) (builder ms role.BuilderFunction) role.Unfit
    (stood_if kind.View (λ r. function_form heads r ps (Some (Opaque v))) (bare ms || marked mark.ViewBuilder ms) role.BuilderFunction role.Unfit (inr refl) (inl refl)) (inl refl)

app_stood : (heads : Table) (i j : ℕ) (ms : List Modifier) (f : MemberForm) → Stood kind.App (member_form heads i j (role_at sort.App ms f) ms f)
app_stood heads i j ms (member.Stored b w t v) = inl refl
app_stood heads i j ms (member.Computed w (Plain t) body) = inl refl
app_stood heads i j ms (member.Computed w (Opaque v) body) =
    stood_if kind.App (λ r. computed_form heads r (Opaque v)) (bytes_eq w (codes "body") && bytes_eq v (codes "Scene") && bare ms) role.BuilderProperty role.Unfit (inr refl) (inl refl)
app_stood heads i j ms (member.Function w ps t body) = inl refl

key_form_stood : (n : ℕ) (heads : Table) (i j : ℕ) (ms : List Modifier) (f : MemberForm) → Stood (kind.Key n) (member_form heads i j (role_at sort.Key ms f) ms f)
key_form_stood n heads i j ms (member.Stored b w t v) =
    stood_if (kind.Key n) (λ r. stored_form heads i j r ms b t v) (marked mark.Static ms && bytes_eq w (codes "defaultValue") && is_some v) role.Static role.Unfit (inr refl) (inl refl)
key_form_stood n heads i j ms (member.Computed w (Plain t) body) =
    stood_if (kind.Key n) (λ r. computed_form heads r (Plain t)) (marked mark.Static ms && bytes_eq w (codes "defaultValue")) role.Static role.Unfit (inr refl) (inl refl)
key_form_stood n heads i j ms (member.Computed w (Opaque v) body) = inl refl
key_form_stood n heads i j ms (member.Function w ps None body) =
    stood_if (kind.Key n) (λ r. function_form heads r ps None) (marked mark.Static ms && bytes_eq w (codes "reduce") && reduce_params ps) role.Reduce role.Unfit (inr refl) (inl refl)
key_form_stood n heads i j ms (member.Function w ps (Some (Plain t)) body) = inl refl
key_form_stood n heads i j ms (member.Function w ps (Some (Opaque t)) body) = inl refl

struct_stood : (key : ℕ) (names : List (List ℕ)) (s : Sort) (heads : Table) (i j : ℕ) (ms : List Modifier) (f : MemberForm)
    → Stood (struct_kind key names s) (member_form heads i j (role_at s ms f) ms f)
struct_stood key names sort.Data heads i j ms f = data_stood (whole.is_named names (codes "Identifiable")) heads i j ms f
struct_stood key names sort.Enum heads i j ms f = enum_stood (kind.Data (whole.is_named names (codes "Identifiable"))) (λ ps t. refl) (λ t. refl) heads i j ms f
struct_stood key names sort.View heads i j ms f = view_stood heads i j ms f
struct_stood key names sort.App heads i j ms f = app_stood heads i j ms f
struct_stood key names sort.Key heads i j ms f = key_form_stood key heads i j ms f

-- ---- in a table

-- a case of an enum, or a member that stands in its kind
abbrev CaseOrStood : Kind → SignatureForm → Type 0
CaseOrStood k f = ((n : ℕ) × (f ≡ form.Case n)) ⊎ Stood k f

enum_form : (heads : Table) (m : Member) (k : Kind) → Calls k → ((t : Option Ty) → stands_in k (form.Computed t) ≡ true) → Stood k (member_form heads 0 0 (role_of sort.Enum m) m.modifiers m.form)
enum_form heads m k calls computes = enum_stood k calls computes heads 0 0 m.modifiers m.form

item_stood : (heads : Table) (b : Bool) (n cases : ℕ) (i : EnumItem) (at : ℕ) (d : Draft) → slice_get (item_drafts heads cases i) at ≡ Some d → CaseOrStood (kind.Enum b n) d.form
item_stood heads b n cases (item.Cases cs) at d e = let r = each_at (case_draft cases) cs at d e in inl (narrow (cases + length r.stands.before), ap (λ (x : Draft). x.form) r.is)
item_stood heads b n cases (item.Member m) zero d e =
    let h : enum_member heads m ≡ d = cc in inr (subst (λ (x : Draft). Stood (kind.Enum b n) x.form) h (enum_form heads m (kind.Enum b n) (λ ps t. refl) (λ t. refl)))
item_stood heads b n cases (item.Member m) (suc at) d e = cc

struct_form : (heads : Table) (first key : ℕ) (p : StructPiece) (b : StructBody) (d : Declaration) (at : ℕ) (s : Signature) → struct_declaration heads first key p b ≡ d ∷ []
    → slice_get d.members at ≡ Some s → Stood d.kind s.form
struct_form heads first key p LeftAside d at s e h = cc
struct_form heads first key p (Members ms) d at s e h =
    let made : made_struct heads first key p ms ≡ d = cc in
    let m = of_member heads first (sort_of p.names) ms at s (ap (λ (x : Declaration). slice_get x.members at) made ∙ h) in
    let r = role_is (sort_of p.names) m.written in
    let t = struct_stood key p.names (sort_of p.names) heads m.inputs m.slots m.written.modifiers m.written.form in
    subst (λ (x : Declaration). Stood x.kind s.form) made
    (subst (Stood (struct_kind key p.names (sort_of p.names))) (sym (m.form_is ∙ ap (λ x. member_form heads m.inputs m.slots x m.written.modifiers m.written.form) r)) t)

piece_form : (heads : Table) (first key : ℕ) (x : PieceForm) (d : Declaration) (at : ℕ) (s : Signature) → declarations_at heads first key x ≡ d ∷ []
    → slice_get d.members at ≡ Some s → CaseOrStood d.kind s.form
piece_form heads first key (piece.Struct p) d at s e h = inr (struct_form heads first key p p.body d at s e h)
piece_form heads first key (piece.Enum p) d at s e h =
    let made : made_enum heads first p ≡ d = cc in
    let ds = enum_drafts heads p.items in
    let r = each_at (λ b x. signature_at first (length b) x.name x.form) ds at s
    (ap (λ xs. slice_get xs at) (sym (signatures_along first ds)) ∙ ap (λ (x : Declaration). slice_get x.members at) made ∙ h) in
    let q = given_by (λ b i. item_drafts heads (case_count b) i) p.items at r.one (stands_there ds at r.one r.stands) in
    let k = item_stood heads (whole.is_named p.names (codes "CaseIterable")) (case_count p.items) (case_count q.before) q.one q.at r.one q.stands in
    subst (λ (x : Declaration). CaseOrStood x.kind s.form) made (subst (CaseOrStood (enum_kind p)) (sym (ap (λ (x : Signature). x.form) r.is)) k)
piece_form heads first key (piece.Import w) d at s e h = cc
piece_form heads first key (piece.Environment es) d at s e h = cc
piece_form heads first key (piece.Preview w) d at s e h = cc

case_bare_is : (f : SignatureForm) (n : ℕ) → bare_form f ≡ form.Case n → f ≡ form.Case n
case_bare_is (form.Stored m c t a) n e = cc
case_bare_is (form.State m t a) n e = cc
case_bare_is (form.Static t) n e = cc
case_bare_is (form.Binding m t) n e = e
case_bare_is (form.Environment m) n e = e
case_bare_is (form.Case m) n e = e
case_bare_is (form.Computed t) n e = e
case_bare_is (form.Function ps t m) n e = e
case_bare_is form.BuilderProperty n e = e
case_bare_is (form.BuilderFunction ps) n e = e
case_bare_is form.Reduce n e = e
case_bare_is form.Unfit n e = e

-- A member whose form fits its declaration has a form that stands in the declaration's kind.
abbrev pub FormsStand : Type 0
FormsStand = (source : Source) (table : Table) → IsTableOf source table → IsSmall table
    → (d at : ℕ) (declaration : Declaration) (s : Signature) → slice_get table.declarations d ≡ Some declaration → slice_get declaration.members at ≡ Some s
    → (s.form ≡ form.Unfit → ⊥) → stands_in declaration.kind s.form ≡ true

enum_case : (k : Kind) (f : SignatureForm) (n : ℕ) (b : Bool) (m : ℕ) → k ≡ kind.Enum b m → f ≡ form.Case n → n < m → stands_in k f ≡ true
enum_case k f n b m e h lt = (λ i. stands_in (e i) (h i)) ∙ lt-ltb n m lt

stood_there : (k : Kind) (f : SignatureForm) → Stood k f → (f ≡ form.Unfit → ⊥) → stands_in k f ≡ true
stood_there k f (inl u) not = absurd (not u)
stood_there k f (inr s) not = s

pub forms_stand : FormsStand
forms_stand source table is small d at declaration s e h not =
    let x = declaration_alike is d declaration e in
    let y = signature_alike declaration x.0 at s x.2 h in
    let by = declared_by source d x.0 x.1 in
    let same : declaration.kind ≡ x.0.kind = ap (λ (z : Declaration). z.kind) x.2 in
    let bared : bare_form s.form ≡ bare_form y.0.form = ap (λ (z : Signature). z.form) y.2 in
    elim (piece_form (heads_table source.pieces) (first_code by.before) (next_key by.before) by.one.form x.0 at y.0 by.is y.1) [
      | inl w ↦
          let f : s.form ≡ form.Case w.0 = case_bare_is s.form w.0 (bared ∙ ap bare_form w.1) in
          let c = cases_fit source table is small d at w.0 declaration s e h f in
          enum_case declaration.kind s.form w.0 c.0 c.1.0 c.1.1 f c.1.2
      | inr w ↦ stood_there declaration.kind s.form (stood_alike declaration.kind x.0.kind s.form y.0.form same bared w) not
    ]
