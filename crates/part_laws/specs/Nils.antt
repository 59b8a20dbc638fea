-- What is typed has a type: each property that starts with nil has one.
use Rattle.std.specs.Prelude.{◌≡◌, ℕ, true, List, Option, Some, None, slice_get}
use Rattle.std.proofs.Common.{refl, sym, ap, subst, ◌∙◌}
use Rattle.swift_ast.specs.declared.piece.MemberForm.{MemberForm}
use Rattle.swift_ast.specs.declared.piece.MemberForm.TheVariants as member
use Rattle.swift_ast.specs.declared.piece.Source.{Source}
use Rattle.swift_ast.specs.declared.tree.Expr.{Expr}
use Rattle.swift_core.specs.declared.code.CoreMember.{CoreMember}
use Rattle.swift_core.specs.declared.table.Declaration.{Declaration}
use Rattle.swift_core.specs.declared.table.Kind.{Kind}
use Rattle.swift_core.specs.declared.table.MemberPlace.{MemberPlace}
use Rattle.swift_core.specs.declared.table.Signature.{Signature}
use Rattle.swift_core.specs.declared.table.SignatureForm.{SignatureForm}
use Rattle.swift_core.specs.declared.table.SignatureForm.TheVariants as form
use Rattle.swift_core.specs.declared.table.Table.{Table}
use Rattle.swift_core.specs.declared.ty.Ty.{Ty}
use Rattle.type_base.specs.Claims.{some_is}
use Rattle.type_base.specs.Context.{Context}
use Rattle.type_table.specs.Heads.{next_declaration}
use Rattle.type_table.specs.Tables.{first_key}
use Rattle.member_rules.specs.Members.{InitialOf, MemberOf, TypedAt}
use Rattle.source_parts.specs.Parts.{Part}
use Rattle.part_rules.specs.Typed.{TypedPlace}
use Rattle.table_places.specs.Members.{nil_form, form_type}
use Rattle.table_fits.specs.Nils.{same_one}
use Rattle.table_names.specs.Sources.{members_written}
use Rattle.table_fits.specs.Fitting.{NilsTyped}
use Rattle.table_names.specs.Tables.{IsTableOf, IsSmall}
use Rattle.part_laws.specs.Cases.{place_given, entry_owner, CaseAt, case_stands}
use Rattle.part_laws.specs.Found.{HasCores, FoundAt, found_at}

initial_type : (t : Option Ty) (v : Option Expr) (cx : Context) (m : CoreMember) → InitialOf t v cx m → (u : Ty) × (t ≡ Some u)
unfolding InitialOf
initial_type t None cx m (u, e, q) = (u, e)
initial_type t (Some x) cx m (u, e, q) = (u, e)

-- a property that starts with nil
nil_type : (table : Table) (o : Option ℕ) (k : Kind) (F : SignatureForm) (f : MemberForm) (m : CoreMember) → MemberOf table o k F f m → nil_form F ≡ true → (t : Ty) × (form_type F ≡ Some t)
nil_type table o k (form.Stored n b t a) (member.Stored c w u v) m h e = initial_type t v _ m h
nil_type table o k (form.Stored n b t a) (member.Computed w r body) m h e = absurd h
nil_type table o k (form.Stored n b t a) (member.Function w ps r body) m h e = absurd h
nil_type table o k (form.State n t a) (member.Stored c w u v) m h e = initial_type t v _ m h
nil_type table o k (form.State n t a) (member.Computed w r body) m h e = absurd h
nil_type table o k (form.State n t a) (member.Function w ps r body) m h e = absurd h
nil_type table o k (form.Binding n t) f m h e = cc
nil_type table o k (form.Static t) f m h e = cc
nil_type table o k (form.Environment n) f m h e = cc
nil_type table o k (form.Case n) f m h e = cc
nil_type table o k (form.Computed t) f m h e = cc
nil_type table o k (form.Function ps t b) f m h e = cc
nil_type table o k form.BuilderProperty f m h e = cc
nil_type table o k (form.BuilderFunction ps) f m h e = cc
nil_type table o k form.Reduce f m h e = cc
nil_type table o k form.Unfit f m h e = cc

-- the signature that stands at a place
record Standing (table : Table) (place : MemberPlace) (s : Signature) : Type 0 where
  d : ℕ
  owner : place.declaration ≡ Some d
  declaration : Declaration
  declared : slice_get table.declarations d ≡ Some declaration
  stands : slice_get declaration.members place.at ≡ Some s

one_stands : (table : Table) (place : MemberPlace) (s r : Signature) → Standing table place s → Standing table place r → s ≡ r
one_stands table place s r x y =
    let d : x.d ≡ y.d = some_is x.d y.d (sym x.owner ∙ y.owner) in
    let o : x.declaration ≡ y.declaration = same_one (slice_get table.declarations y.d) x.declaration y.declaration (ap (slice_get table.declarations) (sym d) ∙ x.declared) y.declared in
    same_one (slice_get y.declaration.members place.at) s r (ap (λ (z : Declaration). slice_get z.members place.at) (sym o) ∙ x.stands) y.stands

abbrev HasType : Signature → Type 0
HasType s = (t : Ty) × (form_type s.form ≡ Some t)

member_type : (table : Table) (place : MemberPlace) (f : MemberForm) (m : CoreMember) (s : Signature) → TypedAt table place f m → Standing table place s → nil_form s.form ≡ true → HasType s
unfolding TypedAt
member_type table place f m s (n, (d, pd, (owner, so, (r, ss, h)))) st nil =
    let same : s ≡ r = one_stands table place s r st (record { d = d; owner = pd; declaration = owner; declared = so; stands = ss }) in
    subst HasType (sym same) (nil_type table (Some d) owner.kind r.form f m h (ap (λ (x : Signature). nil_form x.form) (sym same) ∙ nil))

case_type : (table : Table) (place : MemberPlace) (s : Signature) → CaseAt table place → Standing table place s → nil_form s.form ≡ true → HasType s
case_type table place s c st nil =
    let same : s ≡ c.signature = one_stands table place s c.signature st (record { d = c.d; owner = c.owner; declaration = c.declaration; declared = c.declared; stands = c.stands }) in
    let no : nil_form (form.Case c.number) ≡ true = ap nil_form (sym (ap (λ (x : Signature). x.form) same ∙ c.is)) ∙ nil in
    cc

pub nils_typed : {source : Source} {table : Table} {cores : List CoreMember} → IsTableOf source table → IsSmall table → HasCores source table cores → NilsTyped table
nils_typed {source = source} {table = table} {cores = cores} is small has d at declaration s e h nil =
    let m = members_written source table is small d declaration at s e h in
    let f = found_at {cores = cores} is has _ m.place m.stands in
    let st : Standing table m.place s = record { d = d; owner = m.owner; declaration = declaration; declared = e; stands = ap (slice_get declaration.members) m.at_is ∙ h } in
    by m.place f st f.part refl f.typed
  where
    by : (place : MemberPlace) {i : ℕ} (f : FoundAt source table cores i place) → Standing table place s → (part : Part) → f.part ≡ part → TypedPlace table place part f.core → HasType s
    by place f st (Part.a_declaration p) w t = absurd t
    by place f st (Part.a_member x) w t = member_type table place x.form f.core s t st nil
    by place f st (Part.a_case n) w t = case_type table place s (case_stands is small f.before f.after f.one f.at n place f.split (f.written ∙ ap Some w) f.stands) st nil
    by place f st (Part.an_entry x) w t =
        let none = entry_owner (next_declaration f.before) (first_key f.before) f.one.form f.at x place (f.written ∙ ap Some w) (place_given is f.before f.after f.one f.at f.part place f.split f.written f.stands) in
        let no : ◌≡◌ {A = Option ℕ} None (Some st.d) = sym none ∙ st.owner in
        cc
