-- What holds of the declarations and the code of every program.
use Rattle.std.specs.Prelude.{◌≡◌, ℕ, zero, suc, ◌+◌, ◌<◌, ◌≤◌, Bool, true, false, List, [], ◌∷◌, length, map, sum, codes, Option, Some, None, slice_get}
use Rattle.std.specs.List.{filter_map}
use Rattle.std.specs.FinMap as fin
use Rattle.sv_value.specs.declared.value.Value.{Value, out-Value}
use Rattle.sv_value.specs.declared.value.Value.TheOpen.{Value-F}
use Rattle.swift_ast.specs.declared.tree.Binder.{Binder}
use Rattle.swift_core.specs.declared.ty.Ty.{Ty, out-Ty}
use Rattle.swift_core.specs.declared.ty.Ty.TheOpen.{Ty-F}
use Rattle.swift_core.specs.declared.ty.Ty.TheVariants as ty
use Rattle.swift_core.specs.declared.code.Code.{Code}
use Rattle.swift_core.specs.declared.code.CodeForm.TheVariants as code
use Rattle.swift_core.specs.declared.code.CoreMember.{CoreMember}
use Rattle.swift_core.specs.declared.ids.CodeId.{CodeId}
use Rattle.swift_core.specs.declared.table.Argument.{Argument}
use Rattle.swift_core.specs.declared.table.Declaration.{Declaration}
use Rattle.swift_core.specs.declared.table.EnvironmentKey.{EnvironmentKey}
use Rattle.swift_core.specs.declared.table.Kind.{Kind}
use Rattle.swift_core.specs.declared.table.Kind.TheVariants as kind
use Rattle.swift_core.specs.declared.table.MemberPlace.{MemberPlace}
use Rattle.swift_core.specs.declared.table.PreferenceKey.{PreferenceKey}
use Rattle.swift_core.specs.declared.table.Signature.{Signature}
use Rattle.swift_core.specs.declared.table.SignatureForm.{SignatureForm}
use Rattle.swift_core.specs.declared.table.SignatureForm.TheVariants as form
use Rattle.swift_core.specs.declared.table.Table.{Table}
use Rattle.swift_core.specs.declared.term.Core.{Core, out-Core}
use Rattle.swift_core.specs.declared.term.ChangeCall.TheOpen.{Core-F}
use Rattle.swift_core.specs.Context.{HasMember, Part, stored_at, slot_at, inputs_of, slots_of}
use Rattle.swift_core.specs.Typing.{FitsKey, IsTypedAt, IsMain}
use Rattle.swift_core.specs.Uses.{member_writes, member_calls}

-- ---- where things stand

-- The declaration of this number.
pub data Declared (table : Table) (d : ℕ) : Declaration → Type 0 where
  declared : {declaration : Declaration} → slice_get table.declarations d ≡ Some declaration → Declared table d declaration

-- The code of this number is that of the member, or of the environment key, at this place.
pub data StandsAt (table : Table) : ℕ → Option ℕ → ℕ → Type 0 where
  stands_at : {i : ℕ} {place : MemberPlace} → slice_get table.members i ≡ Some place → StandsAt table (suc i) place.declaration place.at

-- the default of an environment key: that of key 0 has the number 0
pub data DefaultStands (table : Table) : ℕ → ℕ → Type 0 where
  built_in_default : DefaultStands table 0 0
  own_default : {k n : ℕ} → StandsAt table n None (suc k) → DefaultStands table n (suc k)

abbrev pub case_at : Signature → SignatureForm → Option (List ℕ)
case_at s (form.Case n) = Some s.name
case_at s other = None

-- the names of the cases, in order
abbrev pub cases_of : List Signature → List (List ℕ)
cases_of = filter_map (λ s. case_at s s.form)

abbrev pub cases_in : Kind → ℕ
cases_in (kind.Enum names_all cases) = cases
cases_in other = 0

-- The place that a signature names is its place among those of its kind.
abbrev pub InItsPlace : List Signature → CodeId → List ℕ → SignatureForm → Type 0
InItsPlace members code name (form.Stored n b t a) = slice_get (inputs_of members) n ≡ stored_at code (form.Stored n b t a)
InItsPlace members code name (form.Binding n t) = slice_get (inputs_of members) n ≡ stored_at code (form.Binding n t)
InItsPlace members code name (form.State n t a) = slice_get (slots_of members) n ≡ slot_at code (form.State n t a)
InItsPlace members code name (form.Case n) = slice_get (cases_of members) n ≡ Some name
InItsPlace members code name other = Unit {0}

-- ---- sizes and depths

-- Declarations, members and keys together. Fields, cases and slots are members.
abbrev pub size_of : Table → ℕ
size_of table = length table.declarations + sum (map (λ (d : Declaration). length d.members) table.declarations) + length table.environment + length table.preferences

-- A type is at most so deep: a number, a truth value, a string and an enum are 1 deep, a list and an optional are one more
-- than what they hold, and a data struct is one more than its deepest stored property.
pub data IsWithin (table : Table) : ℕ → Ty-F Ty → Type 0 where
  int_within : {n : ℕ} → IsWithin table (suc n) Ty-F.Int
  bool_within : {n : ℕ} → IsWithin table (suc n) Ty-F.Bool
  text_within : {n : ℕ} → IsWithin table (suc n) Ty-F.Text
  list_within : {n : ℕ} {t : Ty} → IsWithin table n (out-Ty t) → IsWithin table (suc n) (Ty-F.List t)
  optional_within : {n : ℕ} {t : Ty} → IsWithin table n (out-Ty t) → IsWithin table (suc n) (Ty-F.Optional t)
  enum_within : {n d cases : ℕ} {names_all : Bool} {declaration : Declaration}
      → Declared table d declaration → declaration.kind ≡ kind.Enum names_all cases → IsWithin table (suc n) (Ty-F.Named d)
  struct_within : {n d : ℕ} {names_identifiable : Bool} {declaration : Declaration}
      → Declared table d declaration → declaration.kind ≡ kind.Data names_identifiable
      → ((i : ℕ) (p : Part) (t : Ty) → slice_get (inputs_of declaration.members) i ≡ Some p → p.ty ≡ Some t → IsWithin table n (out-Ty t))
      → IsWithin table (suc n) (Ty-F.Named d)

-- ---- writes

-- A member reaches a write of a state slot or through a binding: it writes one itself outside action blocks, or runs code there
-- that reaches one.
pub data Reaches (members : List CoreMember) : ℕ → Type 0 where
  writes : {i : ℕ} {m : CoreMember} → slice_get members i ≡ Some m → member_writes m ≡ true → Reaches members i
  runs : {i : ℕ} {m : CoreMember} {c : CodeId} (k : ℕ)
      → slice_get members i ≡ Some m → slice_get (member_calls m) k ≡ Some c → Reaches members c.number → Reaches members i

-- a builder or a computed property
abbrev pub is_body : SignatureForm → Bool
is_body (form.Computed t) = true
is_body form.BuilderProperty = true
is_body (form.BuilderFunction ps) = true
is_body other = false

-- ---- programs

-- a view or an app
abbrev pub has_body : Kind → Bool
has_body kind.View = true
has_body kind.App = true
has_body other = false

-- the property `body`, which gives views
pub record HasBody (declaration : Declaration) : Type 0 where
  pub at : ℕ
  pub sign : Signature
  pub stands : slice_get declaration.members at ≡ Some sign
  pub name : sign.name ≡ codes "body"
  pub gives_views : sign.form ≡ form.BuilderProperty

-- What is known of a preference key: its declaration, the static with its default, and its `reduce`.
pub record IsPreference (table : Table) (k : ℕ) (p : PreferenceKey) : Type 0 where
  pub declaration : Declaration
  pub declared : slice_get table.declarations p.declaration ≡ Some declaration
  pub is_key : declaration.kind ≡ kind.Key k
  pub default : Signature
  pub default_stands : HasMember table p.declaration default
  pub default_code : default.code ≡ p.default
  pub default_form : default.form ≡ form.Static p.ty
  pub reduce : Signature
  pub reduce_stands : HasMember table p.declaration reduce
  pub reduce_code : reduce.code ≡ p.reduce
  pub reduce_form : reduce.form ≡ form.Reduce

-- the app
pub record IsApp (table : Table) (d : ℕ) : Type 0 where
  pub declaration : Declaration
  pub declared : slice_get table.declarations d ≡ Some declaration
  pub is_main : declaration.is_main ≡ true
  pub is_app : declaration.kind ≡ kind.App
  -- no other declaration carries `@main` or is an app
  pub alone : (e : ℕ) (other : Declaration) → slice_get table.declarations e ≡ Some other → other.is_main ≡ true → e ≡ d
  pub no_other_app : (e : ℕ) (other : Declaration) → slice_get table.declarations e ≡ Some other → other.kind ≡ kind.App → e ≡ d

pub record IsProgram (table : Table) (members : List CoreMember) : Type 0 where
  -- there is one member for the built-in key, and then one for each place of the table
  pub complete : length members ≡ suc (length table.members)
  -- each is well typed
  pub built_in_typed : (m : CoreMember) → slice_get members 0 ≡ Some m → FitsKey table 0 m
  pub typed : (i : ℕ) (place : MemberPlace) (m : CoreMember) → slice_get table.members i ≡ Some place → slice_get members (suc i) ≡ Some m → IsTypedAt table m place
  -- key 0 is a truth value, and its default is `true`
  pub enabled : (key : EnvironmentKey) × (slice_get table.environment 0 ≡ Some key) × (key.ty ≡ Some ty.Bool)
  pub enabled_default : (m : CoreMember) → slice_get members 0 ≡ Some m → (c : Core) × IsMain m [] (code.Value c) × ((v : Value) × (out-Core c ≡ Core-F.Literal v) × (out-Value v ≡ Value-F.Bool true))
  pub size : size_of table ≤ 1048576
  -- exactly one declaration carries `@main`
  pub app : (d : ℕ) × IsApp table d
  -- names are distinct: each thing is where the map of its name says
  pub declaration_names : (d : ℕ) (declaration : Declaration) → slice_get table.declarations d ≡ Some declaration → fin.get table.names declaration.name ≡ Some d
  pub member_names : (d : ℕ) (declaration : Declaration) (at : ℕ) (s : Signature)
      → slice_get table.declarations d ≡ Some declaration → slice_get declaration.members at ≡ Some s → fin.get declaration.names s.name ≡ Some at
  pub key_names : (k : ℕ) (key : EnvironmentKey) → slice_get table.environment k ≡ Some key → fin.get table.keys key.name ≡ Some k
  -- each code stands where the table says
  pub codes : (d : ℕ) (declaration : Declaration) (at : ℕ) (s : Signature)
      → slice_get table.declarations d ≡ Some declaration → slice_get declaration.members at ≡ Some s → StandsAt table s.code.number (Some d) at
  pub key_codes : (k : ℕ) (key : EnvironmentKey) → slice_get table.environment k ≡ Some key → DefaultStands table key.default.number k
  -- each field, input, slot and case stands where its signature says
  pub places : (d : ℕ) (declaration : Declaration) (at : ℕ) (s : Signature)
      → slice_get table.declarations d ≡ Some declaration → slice_get declaration.members at ≡ Some s → InItsPlace declaration.members s.code s.name s.form
  pub cases : (d : ℕ) (declaration : Declaration) → slice_get table.declarations d ≡ Some declaration → cases_in declaration.kind ≡ length (cases_of declaration.members)
  -- each preference key is a declaration, and the other way round
  pub preferences : (k : ℕ) (p : PreferenceKey) → slice_get table.preferences k ≡ Some p → IsPreference table k p
  pub keys : (d : ℕ) (declaration : Declaration) (k : ℕ)
      → slice_get table.declarations d ≡ Some declaration → declaration.kind ≡ kind.Key k
      → (p : PreferenceKey) × (slice_get table.preferences k ≡ Some p) × (p.declaration ≡ d)
  -- each view has a body, and so has the app
  pub bodies : (d : ℕ) (declaration : Declaration) → slice_get table.declarations d ≡ Some declaration → has_body declaration.kind ≡ true → HasBody declaration
  -- no data struct is deeper than 64, so none holds itself through structs, lists or optionals
  pub shallow : (d : ℕ) (declaration : Declaration) (names_identifiable : Bool)
      → slice_get table.declarations d ≡ Some declaration → declaration.kind ≡ kind.Data names_identifiable → IsWithin table 64 (Ty-F.Named d)
  -- no builder or computed property reaches a write of a state slot or a binding outside action blocks
  pub pure : (d : ℕ) (declaration : Declaration) (at : ℕ) (s : Signature)
      → slice_get table.declarations d ≡ Some declaration → slice_get declaration.members at ≡ Some s → is_body s.form ≡ true → Reaches members s.code.number → ⊥
