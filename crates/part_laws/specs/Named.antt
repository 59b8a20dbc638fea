-- What is typed has a name: no declaration, no member and no key of the table is named `_`.
use Rattle.std.specs.Prelude.{◌≡◌, ℕ, zero, suc, ◌+◌, true, not, ◌&&◌, List, [], ◌∷◌, ◌++◌, Some, length, map, slice_get, codes}
use Rattle.std.specs.Str.{bytes_eq}
use Rattle.std.specs.List.{sum_by, flat_map}
use Rattle.std.proofs.Common.{refl, sym, ap, subst, ◌∙◌}
use Rattle.std.proofs.lemmas.List.{map-append}
use Rattle.swift_ast.specs.declared.piece.CaseName.{CaseName}
use Rattle.swift_ast.specs.declared.piece.Entry.{Entry}
use Rattle.swift_ast.specs.declared.piece.EnumItem.{EnumItem}
use Rattle.swift_ast.specs.declared.piece.EnumItem.TheVariants as item
use Rattle.swift_ast.specs.declared.piece.Member.{Member}
use Rattle.swift_ast.specs.declared.piece.MemberForm.{MemberForm}
use Rattle.swift_ast.specs.declared.piece.MemberForm.TheVariants as member
use Rattle.swift_ast.specs.declared.piece.Piece.{Piece}
use Rattle.swift_ast.specs.declared.piece.PieceForm.{PieceForm}
use Rattle.swift_ast.specs.declared.piece.PieceForm.TheVariants as piece
use Rattle.swift_ast.specs.declared.piece.Source.{Source}
use Rattle.swift_ast.specs.declared.piece.StructBody.{StructBody}
use Rattle.swift_ast.specs.declared.piece.StructBody.TheVariants.{Members, LeftAside}
use Rattle.swift_ast.specs.declared.piece.StructPiece.{StructPiece}
use Rattle.swift_core.specs.declared.code.CoreMember.{CoreMember}
use Rattle.swift_core.specs.declared.table.Declaration.{Declaration}
use Rattle.swift_core.specs.declared.table.EnvironmentKey.{EnvironmentKey}
use Rattle.swift_core.specs.declared.table.MemberPlace.{MemberPlace}
use Rattle.swift_core.specs.declared.table.Signature.{Signature}
use Rattle.swift_core.specs.declared.table.Table.{Table}
use Rattle.member_forms.specs.Whole.{sort_of, member_name, member_name_at, main_fits, head_fits, members_fit, names_fit, is_complete, items_fit, struct_body_fits, enum_fits, declaration_fits_at, declaration_fits}
use Rattle.member_forms.specs.declared.role.Sort.TheVariants as sort
use Rattle.type_table.specs.Heads.{heads_table, next_key}
use Rattle.type_table.specs.Tables.{codes_in, is_enabled, first_code, struct_declaration, declarations_at}
use Rattle.type_twice.specs.Twice.{item_names, struct_names, member_names_at, key_names_at, name_of_named}
use Rattle.member_rules.specs.Members.{TypedAt, TypedEntry, name_of}
use Rattle.source_parts.specs.Parts.{Part, member_part, case_part, entry_part, item_parts, body_parts, inner_parts}
use Rattle.part_rules.specs.Typed.{TypedPlace}
use Rattle.table_names.specs.Lists.{get_middle}
use Rattle.table_names.specs.Pieces.{declared_by, made_struct, made_enum}
use Rattle.table_names.specs.Names.{NamesSomething, read_at}
use Rattle.table_fits.specs.Nils.{same_one}
use Rattle.table_places.specs.Preferences.{AllFit, first_part, last_of}
use Rattle.table_names.specs.Sources.{members_written, keys_written}
use Rattle.table_names.specs.Tables.{IsTableOf, IsSmall, declaration_alike}
use Rattle.part_laws.specs.Found.{HasCores, found_at, part_is}

-- ---- names of parts

abbrev pub part_name : Part → List ℕ
part_name (Part.a_declaration p) = []
part_name (Part.a_member m) = member_name m
part_name (Part.a_case n) = n.name
part_name (Part.an_entry e) = e.name

same_names : (f : MemberForm) → name_of f ≡ member_name_at f
same_names (member.Stored b w t v) = refl
same_names (member.Computed w t body) = refl
same_names (member.Function w ps t body) = refl

-- what is typed has a name
typed_named : (table : Table) (place : MemberPlace) (part : Part) (c : CoreMember) → TypedPlace table place part c → NamesSomething (part_name part)
unfolding TypedAt TypedEntry
typed_named table place (Part.a_declaration p) c t = absurd t
typed_named table place (Part.a_member m) c t = subst NamesSomething (same_names m.form) t.0
typed_named table place (Part.a_case n) c t = t.0
typed_named table place (Part.an_entry e) c t = t.0

-- ---- the names of a piece are those of its parts

members_names : (ms : List Member) → map name_of_named (struct_names (Members ms)) ≡ map part_name (flat_map member_part ms)
members_names [] = refl
members_names (m ∷ ms) = ap (λ ws. member_name m ∷ ws) (members_names ms)

cases_names : (cs : List CaseName) → map name_of_named (item_names (item.Cases cs)) ≡ map part_name (flat_map case_part cs)
cases_names [] = refl
cases_names (c ∷ cs) = ap (λ ws. c.name ∷ ws) (cases_names cs)

entries_names : (es : List Entry) → map name_of_named (key_names_at (piece.Environment es)) ≡ map part_name (flat_map entry_part es)
entries_names [] = refl
entries_names (e ∷ es) = ap (λ ws. e.name ∷ ws) (entries_names es)

body_names : (b : StructBody) → map name_of_named (struct_names b) ≡ map part_name (body_parts b)
body_names LeftAside = refl
body_names (Members ms) = members_names ms

item_names_same : (i : EnumItem) → map name_of_named (item_names i) ≡ map part_name (item_parts i)
item_names_same (item.Cases cs) = cases_names cs
item_names_same (item.Member m) = refl

items_names : (is : List EnumItem) → map name_of_named (flat_map item_names is) ≡ map part_name (flat_map item_parts is)
items_names [] = refl
items_names (i ∷ is) =
    map-append name_of_named (item_names i) (flat_map item_names is)
    ∙ (let a = item_names_same i in let b = items_names is in λ j. a j ++ b j)
    ∙ sym (map-append part_name (item_parts i) (flat_map item_parts is))

member_part_name : (f : PieceForm) (at : ℕ) (w : List ℕ) → slice_get (map name_of_named (member_names_at f)) at ≡ Some w → slice_get (map part_name (inner_parts f)) at ≡ Some w
member_part_name (piece.Struct p) at w e = ap (λ ws. slice_get ws at) (sym (body_names p.body)) ∙ e
member_part_name (piece.Enum p) at w e = ap (λ ws. slice_get ws at) (sym (items_names p.items)) ∙ e
member_part_name (piece.Environment es) at w e = cc
member_part_name (piece.Import v) at w e = cc
member_part_name (piece.Preview v) at w e = cc

key_part_name : (f : PieceForm) (at : ℕ) (w : List ℕ) → slice_get (map name_of_named (key_names_at f)) at ≡ Some w → slice_get (map part_name (inner_parts f)) at ≡ Some w
key_part_name (piece.Struct p) at w e = cc
key_part_name (piece.Enum p) at w e = cc
key_part_name (piece.Environment es) at w e = ap (λ ws. slice_get ws at) (sym (entries_names es)) ∙ e
key_part_name (piece.Import v) at w e = cc
key_part_name (piece.Preview v) at w e = cc

-- ---- in a table

module _ {source : Source} {table : Table} {cores : List CoreMember} (is : IsTableOf source table) (small : IsSmall table) (has : HasCores source table cores) where
  -- what is written at this place of this piece under this name
  place_named : (before after : List Piece) (one : Piece) (at : ℕ) (w : List ℕ) (place : MemberPlace) → source.pieces ≡ before ++ one ∷ after
      → slice_get (map part_name (inner_parts one.form)) at ≡ Some w → slice_get table.members (sum_by codes_in before + at) ≡ Some place → NamesSomething w
  place_named before after one at w place split n e =
      let f = found_at is has (sum_by codes_in before + at) place e in
      let r = read_at part_name (inner_parts one.form) at w n in
      let same = part_is has before after one at r.0 place split r.1 f in
      subst NamesSomething (ap part_name same ∙ r.2) (typed_named table place f.part f.core f.typed)

  pub member_named : (d : ℕ) (declaration : Declaration) (at : ℕ) (s : Signature) → slice_get table.declarations d ≡ Some declaration → slice_get declaration.members at ≡ Some s → NamesSomething s.name
  member_named d declaration at s e h =
      let m = members_written source table is small d declaration at s e h in
      place_named m.before m.after m.one at s.name m.place m.split (member_part_name m.one.form at s.name m.named) m.stands

  pub key_named : (k : ℕ) (key : EnvironmentKey) → slice_get table.environment k ≡ Some key → NamesSomething key.name
  key_named zero key e =
      let same : is_enabled ≡ key = same_one (slice_get table.environment 0) is_enabled key is.enabled e in
      subst NamesSomething (ap (λ (x : EnvironmentKey). x.name) same) refl
  key_named (suc j) key e =
      let m = keys_written source table is small j key e in
      place_named m.before m.after m.one m.at key.name m.place m.split (key_part_name m.one.form m.at key.name m.named) m.stands

-- ---- declarations

struct_named : (heads : Table) (first key : ℕ) (p : StructPiece) (b : StructBody) (d : Declaration) → struct_declaration heads first key p b ≡ d ∷ [] → struct_body_fits p b ≡ true → NamesSomething d.name
struct_named heads first key p LeftAside d e f = cc
struct_named heads first key p (Members ms) d e f =
    let made : made_struct heads first key p ms ≡ d = cc in
    let s = sort_of p.names in
    let front = first_part (head_fits s p && members_fit s ms) (is_complete s p.names ms) f in
    let head = first_part (head_fits s p) (members_fit s ms) front in
    let main = first_part (main_fits s p.is_main && not (bytes_eq p.name (codes "_"))) (names_fit s p.names) head in
    subst NamesSomething (ap (λ (x : Declaration). x.name) made) (last_of (main_fits s p.is_main) (not (bytes_eq p.name (codes "_"))) main)

piece_named : (heads : Table) (first key : ℕ) (x : Piece) (d : Declaration) (f : PieceForm) → x.form ≡ f → declarations_at heads first key f ≡ d ∷ [] → declaration_fits x ≡ true → NamesSomething d.name
piece_named heads first key x d (piece.Struct p) s e fits = struct_named heads first key p p.body d e (ap declaration_fits_at (sym s) ∙ fits)
piece_named heads first key x d (piece.Enum p) s e fits =
    let made : made_enum heads first p ≡ d = cc in
    let all : enum_fits p ≡ true = ap declaration_fits_at (sym s) ∙ fits in
    let front = first_part (not (bytes_eq p.name (codes "_")) && names_fit sort.Enum p.names) (items_fit p.items) all in
    subst NamesSomething (ap (λ (y : Declaration). y.name) made) (first_part (not (bytes_eq p.name (codes "_"))) (names_fit sort.Enum p.names) front)
piece_named heads first key x d (piece.Import w) s e fits = cc
piece_named heads first key x d (piece.Environment es) s e fits = cc
piece_named heads first key x d (piece.Preview w) s e fits = cc

pub declaration_named : {source : Source} {table : Table} → IsTableOf source table → AllFit source → (d : ℕ) (declaration : Declaration) → slice_get table.declarations d ≡ Some declaration → NamesSomething declaration.name
declaration_named {source = source} {table = table} is fit d declaration e =
    let x = declaration_alike is d declaration e in
    let by = declared_by source d x.0 x.1 in
    let there : slice_get source.pieces (length by.before) ≡ Some by.one = ap (λ ps. slice_get ps (length by.before)) by.split ∙ get_middle by.before by.after by.one in
    let n = piece_named (heads_table source.pieces) (first_code by.before) (next_key by.before) by.one x.0 by.one.form refl by.is (fit (length by.before) by.one there) in
    subst NamesSomething (ap (λ (y : Declaration). y.name) (sym x.2)) n
