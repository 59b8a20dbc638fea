-- What stands at each place of the table is well typed.
use Rattle.std.specs.Prelude.{◌≡◌, ℕ, true, List, [], ◌∷◌, ◌++◌, Option, Some, None, map, slice_get}
use Rattle.std.specs.List.{flat_map}
use Rattle.std.proofs.Common.{refl, sym, ap, subst, ◌∙◌}
use Rattle.std.proofs.lemmas.List.{map-append}
use Rattle.swift_ast.specs.declared.piece.CaseName.{CaseName}
use Rattle.swift_ast.specs.declared.piece.Entry.{Entry}
use Rattle.swift_ast.specs.declared.piece.EnumItem.{EnumItem}
use Rattle.swift_ast.specs.declared.piece.EnumItem.TheVariants as item
use Rattle.swift_ast.specs.declared.piece.Member.{Member}
use Rattle.swift_ast.specs.declared.piece.MemberForm.{MemberForm}
use Rattle.swift_ast.specs.declared.piece.PieceForm.{PieceForm}
use Rattle.swift_ast.specs.declared.piece.PieceForm.TheVariants as piece
use Rattle.swift_ast.specs.declared.piece.Source.{Source}
use Rattle.swift_ast.specs.declared.piece.StructBody.{StructBody}
use Rattle.swift_ast.specs.declared.piece.StructBody.TheVariants.{Members, LeftAside}
use Rattle.swift_core.specs.Typing.{IsTypedAt, stands_in}
use Rattle.swift_core.specs.declared.code.CoreMember.{CoreMember}
use Rattle.swift_core.specs.declared.table.Declaration.{Declaration}
use Rattle.swift_core.specs.declared.table.MemberPlace.{MemberPlace}
use Rattle.swift_core.specs.declared.table.Signature.{Signature}
use Rattle.swift_core.specs.declared.table.SignatureForm.TheVariants as form
use Rattle.swift_core.specs.declared.table.Table.{Table}
use Rattle.type_table.specs.Heads.{next_declaration}
use Rattle.type_table.specs.Tables.{first_key}
use Rattle.member_rules.specs.Members.{TypedAt, TypedEntry}
use Rattle.source_parts.specs.Parts.{Part, member_part, case_part, entry_part, item_parts, body_parts, inner_parts}
use Rattle.part_rules.specs.Typed.{TypedPlace}
use Rattle.expr_cores.specs.Contexts.{Fits}
use Rattle.table_names.specs.Names.{reads}
use Rattle.table_fits.specs.Nils.{same_one}
use Rattle.table_fits.specs.Forms.{forms_stand}
use Rattle.table_fits.specs.Starts.{StartsAsWritten, form_of, no_form_case, no_form_entry, item_written, body_written, written_in, starts_law}
use Rattle.table_names.specs.Tables.{IsTableOf, IsSmall}
use Rattle.part_laws.specs.Cases.{place_given, entry_owner, case_stands, case_typed}
use Rattle.part_laws.specs.Found.{HasCores, FoundAt, found_at}

-- ---- what is asked of the rules of members

-- each member that fits its declaration has a form that stands in the kind of the declaration
abbrev pub FormsStand : Table → Type 0
FormsStand table = (d at : ℕ) (declaration : Declaration) (s : Signature) → slice_get table.declarations d ≡ Some declaration → slice_get declaration.members at ≡ Some s
    → (s.form ≡ form.Unfit → ⊥) → stands_in declaration.kind s.form ≡ true

-- the member at this place begins with what is written exactly where something is written
abbrev pub StartsAt : Table → MemberPlace → MemberForm → Type 0
StartsAt table place f = (d : ℕ) (declaration : Declaration) (s : Signature) → place.declaration ≡ Some d → slice_get table.declarations d ≡ Some declaration
    → slice_get declaration.members place.at ≡ Some s → StartsAsWritten s.form f

-- a member that the rules type is well typed
abbrev pub MembersTyped : Type 0
MembersTyped = (table : Table) (place : MemberPlace) (f : MemberForm) (m : CoreMember) → Fits table → FormsStand table → StartsAt table place f → TypedAt table place f m → IsTypedAt table m place

-- and so is the default of an environment key
abbrev pub DefaultsTyped : Type 0
DefaultsTyped = (table : Table) (place : MemberPlace) (x : Entry) (m : CoreMember) → Fits table → place.declaration ≡ None → TypedEntry table place x m → IsTypedAt table m place

-- ---- what is written

abbrev pub part_form : Part → Option MemberForm
part_form (Part.a_member m) = Some m.form
part_form part = None

members_written_so : (ms : List Member) → map part_form (flat_map member_part ms) ≡ map form_of ms
members_written_so [] = refl
members_written_so (m ∷ ms) = ap (λ r. form_of m ∷ r) (members_written_so ms)

cases_written_so : (cs : List CaseName) → map part_form (flat_map case_part cs) ≡ map no_form_case cs
cases_written_so [] = refl
cases_written_so (c ∷ cs) = ap (λ r. no_form_case c ∷ r) (cases_written_so cs)

entries_written_so : (es : List Entry) → map part_form (flat_map entry_part es) ≡ map no_form_entry es
entries_written_so [] = refl
entries_written_so (e ∷ es) = ap (λ r. no_form_entry e ∷ r) (entries_written_so es)

body_written_so : (b : StructBody) → map part_form (body_parts b) ≡ body_written b
body_written_so LeftAside = refl
body_written_so (Members ms) = members_written_so ms

item_written_so : (i : EnumItem) → map part_form (item_parts i) ≡ item_written i
item_written_so (item.Cases cs) = cases_written_so cs
item_written_so (item.Member m) = refl

items_written_so : (is : List EnumItem) → map part_form (flat_map item_parts is) ≡ flat_map item_written is
items_written_so [] = refl
items_written_so (i ∷ is) =
    map-append part_form (item_parts i) (flat_map item_parts is) ∙ (let a = item_written_so i in let b = items_written_so is in λ j. a j ++ b j)

written_so : (f : PieceForm) → map part_form (inner_parts f) ≡ written_in f
written_so (piece.Struct p) = body_written_so p.body
written_so (piece.Enum p) = items_written_so p.items
written_so (piece.Environment es) = entries_written_so es
written_so (piece.Import w) = refl
written_so (piece.Preview s) = refl

-- ---- each place

module _ (members_typed : MembersTyped) (defaults_typed : DefaultsTyped) {source : Source} {table : Table} {cores : List CoreMember} (is : IsTableOf source table) (small : IsSmall table)
    (has : HasCores source table cores) (fit : Fits table) where
  place_typed : (place : MemberPlace) {i : ℕ} (f : FoundAt source table cores i place) (part : Part) → slice_get (inner_parts f.one.form) f.at ≡ Some part → TypedPlace table place part f.core
      → IsTypedAt table f.core place
  place_typed place f (Part.a_declaration p) w t = absurd t
  place_typed place f (Part.a_member x) w t =
      let written : slice_get (written_in f.one.form) f.at ≡ Some (Some x.form) =
      ap (λ ws. slice_get ws f.at) (sym (written_so f.one.form)) ∙ reads part_form (inner_parts f.one.form) f.at (Part.a_member x) w in
      members_typed table place x.form f.core fit (forms_stand source table is small)
      (λ d declaration s owner e h. starts_law source table is small f.before f.after f.one f.at x.form place f.split written f.stands d declaration s owner e h) t
  place_typed place f (Part.a_case n) w t =
      subst (λ (c : CoreMember). IsTypedAt table c place) (sym t.1) (case_typed is small place (case_stands is small f.before f.after f.one f.at n place f.split w f.stands))
  place_typed place f (Part.an_entry x) w t =
      defaults_typed table place x f.core fit
      (entry_owner (next_declaration f.before) (first_key f.before) f.one.form f.at x place w (place_given is f.before f.after f.one f.at (Part.an_entry x) place f.split w f.stands)) t

  pub all_typed : (i : ℕ) (place : MemberPlace) (m : CoreMember) → slice_get table.members i ≡ Some place → slice_get cores i ≡ Some m → IsTypedAt table m place
  all_typed i place m e h =
      let f = found_at is has i place e in
      let same : f.core ≡ m = same_one (slice_get cores i) f.core m f.given h in
      subst (λ (c : CoreMember). IsTypedAt table c place) same (place_typed place f f.part f.written f.typed)
