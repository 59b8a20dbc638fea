-- The stored properties of data structs, and structs as they are made.
use Rattle.std.specs.Prelude.{◌≡◌, ℕ, zero, suc, ◌<◌, Bool, true, false, List, [], ◌∷◌, ◌++◌, length, Option, Some, None, IfSome, slice_get, slice_set}
use Rattle.std.specs.List.{All, cons_option}
use Rattle.std.proofs.Common.{refl, sym, ap, subst, ◌∙◌, arith}
use Rattle.std.proofs.lemmas.List.Elements.{All-nil, All-cons}
use Rattle.std.proofs.lemmas.Option.{slice_get_within}
use Rattle.sv_value.specs.declared.value.Value.{Value, out-Value}
use Rattle.sv_value.specs.declared.value.Value.TheOpen.{Value-F}
use Rattle.sv_value.specs.declared.value.Value.TheVariants as whole
use Rattle.sv_value.specs.declared.value.Value.TheViews as value_view
use Rattle.swift_ast.specs.declared.tree.Binder.{Binder}
use Rattle.swift_core.specs.declared.code.CoreMember.{CoreMember}
use Rattle.swift_core.specs.declared.ids.CodeId.{CodeId}
use Rattle.swift_core.specs.declared.table.Argument.{Argument}
use Rattle.swift_core.specs.declared.table.Declaration.{Declaration}
use Rattle.swift_core.specs.declared.table.Kind.{Kind}
use Rattle.swift_core.specs.declared.table.Kind.TheVariants as kind
use Rattle.swift_core.specs.declared.table.MemberPlace.{MemberPlace}
use Rattle.swift_core.specs.declared.table.Signature.{Signature}
use Rattle.swift_core.specs.declared.table.SignatureForm.{SignatureForm}
use Rattle.swift_core.specs.declared.table.SignatureForm.TheVariants as form
use Rattle.swift_core.specs.declared.table.Table.{Table}
use Rattle.swift_core.specs.declared.term.Unary.TheVariants as unary
use Rattle.swift_core.specs.declared.ty.Ty.{Ty, out-Ty}
use Rattle.swift_core.specs.declared.ty.Ty.TheOpen.{Ty-F}
use Rattle.swift_core.specs.declared.ty.Ty.TheVariants as ty
use Rattle.swift_core.specs.declared.ty.Ty.TheViews as ty_view
use Rattle.swift_core.specs.Context.{HasMember, Part, stored_at, part_at, parts_of, inputs_of}
use Rattle.swift_core.specs.Programs.{IsProgram, InItsPlace, StandsAt}
use Rattle.swift_core.specs.Types.{named_at}
use Rattle.swift_core.specs.Typing.{stands_in, IsTypedAt}
use Rattle.swift_core.specs.Values.{HasValue, HasValueAt, FieldsHaveValue}
use Rattle.core_means.specs.Means.{of_one, field_answer}
use Rattle.core_means.specs.Places.{field, field_at}
use Rattle.value_calls.specs.Made.{made}
use Rattle.value_fits.specs.Answers.{AnswersWith}
use Rattle.value_fits.specs.Forms.{is_named, has_value}
use Rattle.value_fits.specs.Lists.{this_element, made_fits}

-- Each member is one that its declaration may have, and each stored property stands in its place.
pub record Standing (table : Table) : Type 0 where
  pub members : (d at : ℕ) (declaration : Declaration) (s : Signature)
      → slice_get table.declarations d ≡ Some declaration → slice_get declaration.members at ≡ Some s → stands_in declaration.kind s.form ≡ true
  pub places : (d at : ℕ) (declaration : Declaration) (s : Signature)
      → slice_get table.declarations d ≡ Some declaration → slice_get declaration.members at ≡ Some s → InItsPlace declaration.members s.code s.name s.form

-- So it is in each program.
abbrev pub ProgramsStand : Type 0
ProgramsStand = (table : Table) (members : List CoreMember) → IsProgram table members → Standing table

-- the place of a code
place_of_code : (table : Table) (n : ℕ) (o : Option ℕ) (at : ℕ) → StandsAt table n o at
    → (i : ℕ) × (n ≡ suc i) × ((place : MemberPlace) × (slice_get table.members i ≡ Some place) × (place.declaration ≡ o) × (place.at ≡ at))
place_of_code table n o at (StandsAt.stands_at {i = i} {place = place} e) = (i, refl, (place, e, refl, refl))

element_there : {X : Type 0} (xs : List X) (i : ℕ) → i < length xs → (x : X) × (slice_get xs i ≡ Some x)
element_there [] i lt = absurd (omega arith)
element_there (x ∷ xs) zero lt = (x, refl)
element_there (x ∷ xs) (suc i) lt = element_there xs i (omega arith)

stands_typed : (table : Table) (m : CoreMember) (place : MemberPlace) (d : ℕ) (declaration : Declaration) (s : Signature)
    → slice_get table.declarations d ≡ Some declaration → slice_get declaration.members place.at ≡ Some s → place.declaration ≡ Some d → IsTypedAt table m place → stands_in declaration.kind s.form ≡ true
stands_typed table m place d declaration s sd ss pd (IsTypedAt.typed_key e fits) = cc
stands_typed table m place d declaration s sd ss pd (IsTypedAt.typed_member {d = c} {declaration = other} {s = r} pc sc sr h fits) =
    let same_place : c ≡ d = cc in
    let same_declaration : other ≡ declaration = cc in
    let same_member : r ≡ s = cc in
    subst (λ (x : Declaration). stands_in x.kind s.form ≡ true) same_declaration (subst (λ (y : Signature). stands_in other.kind y.form ≡ true) same_member h)

pub programs_stand : ProgramsStand
programs_stand table members program = record {
  members = λ d at declaration s sd ss.
      let p = place_of_code table s.code.number (Some d) at (program.codes d declaration at s sd ss) in
      let m = element_there members (suc p.0) (let within = slice_get_within table.members p.0 p.2.0 p.2.1 in omega (arith, program.complete)) in
      stands_typed table m.0 p.2.0 d declaration s sd (subst (λ (k : ℕ). slice_get declaration.members k ≡ Some s) (sym p.2.3) ss) p.2.2 (program.typed p.0 p.2.0 m.0 p.2.1 m.1);
  places = λ d at declaration s sd ss. program.places d declaration at s sd ss;
}

-- What fills a data struct are its stored properties alone, in order, and none is a binding.
abbrev pub DataPartsAre : Type 0
DataPartsAre = (table : Table) → Standing table → (d : ℕ) (declaration : Declaration) (names_identifiable : Bool)
    → slice_get table.declarations d ≡ Some declaration → declaration.kind ≡ kind.Data names_identifiable
    → (parts_of declaration.members ≡ inputs_of declaration.members)
    × ((i : ℕ) (p : Part) → slice_get (inputs_of declaration.members) i ≡ Some p → p.is_binding ≡ false)

-- of a stored property alone
part_is_stored : (b : Bool) (code : CodeId) (f : SignatureForm) → stands_in (kind.Data b) f ≡ true → part_at code f ≡ stored_at code f
part_is_stored b code (form.State at t a) h = cc
part_is_stored b code _ h = refl

is_no_binding : (b : Bool) (code : CodeId) (f : SignatureForm) → stands_in (kind.Data b) f ≡ true → IfSome (stored_at code f) (λ p. p.is_binding ≡ false)
is_no_binding b code (form.Stored at binder t a) h = refl
is_no_binding b code (form.Binding at t) h = cc
is_no_binding b code _ h = tt

all_with : {X : Type 0} (P : X → Type 0) (o : Option X) (xs : List X) → IfSome o P → All P xs → All P (cons_option o xs)
all_with P None xs p h = h
all_with P (Some x) xs p h = All-cons P x xs p h

-- each member of the list may stand in a data struct
abbrev AllStored : Bool → List Signature → Type 0
AllStored b ms = (at : ℕ) (s : Signature) → slice_get ms at ≡ Some s → stands_in (kind.Data b) s.form ≡ true

stored_rest : (b : Bool) (s : Signature) (ms : List Signature) → AllStored b (s ∷ ms) → AllStored b ms
stored_rest b s ms h at r e = h (suc at) r e

parts_are_inputs : (b : Bool) (ms : List Signature) → AllStored b ms → parts_of ms ≡ inputs_of ms
parts_are_inputs b [] h = refl
parts_are_inputs b (s ∷ ms) h =
    ap (λ (o : Option Part). cons_option o (parts_of ms)) (part_is_stored b s.code s.form (h zero s refl))
    ∙ ap (cons_option (stored_at s.code s.form)) (parts_are_inputs b ms (stored_rest b s ms h))

inputs_are_values : (b : Bool) (ms : List Signature) → AllStored b ms → All (λ (p : Part). p.is_binding ≡ false) (inputs_of ms)
inputs_are_values b [] h = All-nil (λ (p : Part). p.is_binding ≡ false)
inputs_are_values b (s ∷ ms) h =
    all_with (λ (p : Part). p.is_binding ≡ false) (stored_at s.code s.form) (inputs_of ms) (is_no_binding b s.code s.form (h zero s refl)) (inputs_are_values b ms (stored_rest b s ms h))

pub data_parts_are : DataPartsAre
data_parts_are table standing d declaration b sd is_data =
    let stored : AllStored b declaration.members = λ at s e. subst (λ (k : Kind). stands_in k s.form ≡ true) is_data (standing.members d at declaration s sd e) in (
      parts_are_inputs b declaration.members stored,
      λ i p e. this_element (λ (q : Part). q.is_binding ≡ false) (inputs_of declaration.members) i p (inputs_are_values b declaration.members stored) e,
    )

-- the type has a stored property in this place, of the second type
pub data IsField (table : Table) : Ty → ℕ → Ty → Type 0 where
  is_field : {t u : Ty} {d n : ℕ} {b : Binder} {a : Argument} {s : Signature}
      → named_at (out-Ty t) ≡ Some d → HasMember table d s → s.form ≡ form.Stored n b (Some u) a → IsField table t n u

-- A value of the type has a field there, of the type of the property.
abbrev pub FieldsAre : Type 0
FieldsAre = (table : Table) → Standing table → (t u : Ty) (n : ℕ) (v : Value) → IsField table t n u → HasValue table t v
    → (x : Value) × (field n v ≡ Some x) × HasValue table u x

-- the value of a field
field_value : (table : Table) (ps : List Part) (vs : List Value) (n : ℕ) (p : Part) (u : Ty) → FieldsHaveValue table ps vs → slice_get ps n ≡ Some p → p.ty ≡ Some u
    → (x : Value) × (slice_get vs n ≡ Some x) × HasValue table u x
field_value table [] vs n p u h e t = cc
field_value table (q ∷ qs) [] n p u h e t = elim h [ ]
field_value table (q ∷ qs) (v ∷ vs) zero p u (FieldsHaveValue.more_fields {t = k} qt h hs) e t =
    let same_part : q ≡ p = cc in
    let same_type : k ≡ u = cc in
    (v, refl, subst (λ (x : Ty). HasValue table x v) same_type h)
field_value table (q ∷ qs) (v ∷ vs) (suc n) p u (FieldsHaveValue.more_fields qt h hs) e t = field_value table qs vs n p u hs e t

-- a new value in a field
pub field_put : (table : Table) (ps : List Part) (vs : List Value) (n : ℕ) (p : Part) (u : Ty) (x : Value) → FieldsHaveValue table ps vs → slice_get ps n ≡ Some p → p.ty ≡ Some u → HasValue table u x
    → FieldsHaveValue table ps (slice_set vs n x)
field_put table [] vs n p u x h e t k = cc
field_put table (q ∷ qs) [] n p u x h e t k = elim h [ ]
field_put table (q ∷ qs) (v ∷ vs) zero p u x (FieldsHaveValue.more_fields qt h hs) e t k =
    let same_part : q ≡ p = cc in
    FieldsHaveValue.more_fields (ap (λ (r : Part). r.ty) same_part ∙ t) k hs
field_put table (q ∷ qs) (v ∷ vs) (suc n) p u x (FieldsHaveValue.more_fields qt h hs) e t k = FieldsHaveValue.more_fields qt h (field_put table qs vs n p u x hs e t k)

-- one more
pub fields_pushed : (table : Table) (ps : List Part) (vs : List Value) (p : Part) (t : Ty) (v : Value) → FieldsHaveValue table ps vs → p.ty ≡ Some t → HasValue table t v → FieldsHaveValue table (ps ++ p ∷ []) (vs ++ v ∷ [])
fields_pushed table [] [] p t v h e k = FieldsHaveValue.more_fields e k h
fields_pushed table [] (w ∷ vs) p t v h e k = elim h [ ]
fields_pushed table (q ∷ qs) [] p t v h e k = elim h [ ]
fields_pushed table (q ∷ qs) (w ∷ vs) p t v (FieldsHaveValue.more_fields qt h hs) e k = FieldsHaveValue.more_fields qt h (fields_pushed table qs vs p t v hs e k)

-- The stored property of a declaration: it stands in its place, and the declaration is no enum.
pub record Property (table : Table) (d n : ℕ) (u : Ty) : Type 0 where
  pub declaration : Declaration
  pub declared : slice_get table.declarations d ≡ Some declaration
  pub part : Part
  pub stands : slice_get (inputs_of declaration.members) n ≡ Some part
  pub typed : part.ty ≡ Some u
  pub no_enum : (b : Bool) (cases : ℕ) → declaration.kind ≡ kind.Enum b cases → ⊥

pub property_of : (table : Table) (d n : ℕ) (u : Ty) (b : Binder) (a : Argument) (s : Signature) → Standing table → HasMember table d s → s.form ≡ form.Stored n b (Some u) a → Property table d n u
property_of table d n u b a s standing (HasMember.member {declaration = declaration} at sd ss) f = record {
  declaration = declaration;
  declared = sd;
  part = record { code = s.code; is_binding = false; ty = Some u; argument = a };
  stands = subst (λ (x : SignatureForm). InItsPlace declaration.members s.code s.name x) f (standing.places d at declaration s sd ss);
  typed = refl;
  no_enum = λ names_all cases is_enum.
      let stands_there = standing.members d at declaration s sd ss in
      let none : false ≡ true = subst (λ (x : SignatureForm). stands_in (kind.Enum names_all cases) x ≡ true) f (subst (λ (k : Kind). stands_in k s.form ≡ true) is_enum stands_there) in
      cc;
}

-- a value of a type that has the property is a struct with the field
pub record Struct (table : Table) (t : Ty) (n : ℕ) (u : Ty) (w : Value-F Value) : Type 0 where
  pub kind : ℕ
  pub fields : List Value
  pub is_struct : w ≡ Value-F.Struct kind fields
  pub value : Value
  pub there : slice_get fields n ≡ Some value
  pub typed : HasValue table u value
  -- and with another value there it has the type too
  pub put : (x : Value) → HasValue table u x → HasValue table t (whole.Struct kind (slice_set fields n x))

struct_layer : (table : Table) (t : Ty) (d n : ℕ) (u : Ty) (w : Value-F Value) → out-Ty t ≡ Ty-F.Named d → Property table d n u → HasValueAt table (Ty-F.Named d) w → Struct table t n u w
struct_layer table t d n u w named p (HasValueAt.made {declaration = other} {vs = vs} so is_data fs) =
    let same_declaration : p.declaration ≡ other = cc in
    let stands = subst (λ (x : Declaration). slice_get (inputs_of x.members) n ≡ Some p.part) same_declaration p.stands in
    let v = field_value table (inputs_of other.members) vs n p.part u fs stands p.typed in
    record {
      kind = d;
      fields = vs;
      is_struct = refl;
      value = v.0;
      there = v.1;
      typed = v.2;
      put = λ x k. has_value table t _ named (value_view.outs-Struct d (slice_set vs n x)) (HasValueAt.made so is_data (field_put table (inputs_of other.members) vs n p.part u x fs stands p.typed k));
    }
struct_layer table t d n u w named p (HasValueAt.case {cases = cases} {names_all = names_all} {declaration = other} so is_enum lt) =
    let same_declaration : other ≡ p.declaration = cc in
    absurd (p.no_enum names_all cases (subst (λ (x : Declaration). x.kind ≡ kind.Enum names_all cases) same_declaration is_enum))

pub struct_form : (table : Table) → Standing table → (t u : Ty) (n : ℕ) (v : Value) → IsField table t n u → HasValue table t v → Struct table t n u (out-Value v)
struct_form table standing t u n v (IsField.is_field {d = d} {b = b} {a = a} {s = s} nd m f) h =
    let named = is_named (out-Ty t) d nd in
    struct_layer table t d n u (out-Value v) named (property_of table d n u b a s standing m f) (subst (λ (x : Ty-F Ty). HasValueAt table x (out-Value v)) named h)

pub fields_are : FieldsAre
unfolding field
fields_are table standing t u n v f h =
    let s = struct_form table standing t u n v f h in
    (s.value, ap (field_at n) s.is_struct ∙ s.there, s.typed)

-- and it is what the property answers
abbrev pub FieldFits : Type 0
FieldFits = (table : Table) → Standing table → (t u : Ty) (n : ℕ) (v : Value) → IsField table t n u → HasValue table t v
    → AnswersWith (HasValue table u) (of_one (unary.Field n) v)

pub field_fits : FieldFits
field_fits table standing t u n v f h =
    let x = fields_are table standing t u n v f h in
    subst (λ (o : Option Value). AnswersWith (HasValue table u) (field_answer o)) (sym x.1) x.2

-- A struct with a value for each stored property is one of its type, unless it is too heavy.
abbrev pub StructMadeFits : Type 0
StructMadeFits = (table : Table) (d : ℕ) (declaration : Declaration) (names_identifiable : Bool) (vs : List Value)
    → slice_get table.declarations d ≡ Some declaration → declaration.kind ≡ kind.Data names_identifiable
    → FieldsHaveValue table (inputs_of declaration.members) vs → AnswersWith (HasValue table (ty.Named d)) (made (whole.Struct d vs))

pub struct_made_fits : StructMadeFits
struct_made_fits table d declaration b vs sd is_data fs =
    made_fits table (ty.Named d) (whole.Struct d vs) (has_value table (ty.Named d) _ (ty_view.outs-Named d) (value_view.outs-Struct d vs) (HasValueAt.made sd is_data fs))
