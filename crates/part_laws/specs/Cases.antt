-- What stands at the places of cases and of environment keys.
use Rattle.std.specs.Prelude.{◌≡◌, ℕ, zero, suc, ◌+◌, Bool, true, false, List, [], ◌∷◌, ◌++◌, Some, None, length, map, slice_get}
use Rattle.std.specs.List.{sum_by, count_by, flat_map}
use Rattle.std.proofs.Common.{refl, sym, ap, subst, ◌∙◌, cond, arith}
use Rattle.std.proofs.lemmas.List.{length-map}
use Rattle.std.proofs.lemmas.List.Concat.{flat_map_single}
use Rattle.std.proofs.lemmas.List.Sums.{sum_by-append}
use Rattle.std.proofs.lemmas.Option.{slice_get_within}
use Rattle.swift_ast.specs.declared.piece.CaseName.{CaseName}
use Rattle.swift_ast.specs.declared.piece.Entry.{Entry}
use Rattle.swift_ast.specs.declared.piece.EnumItem.{EnumItem}
use Rattle.swift_ast.specs.declared.piece.EnumItem.TheVariants as item
use Rattle.swift_ast.specs.declared.piece.EnumPiece.{EnumPiece}
use Rattle.swift_ast.specs.declared.piece.Member.{Member}
use Rattle.swift_ast.specs.declared.piece.Piece.{Piece}
use Rattle.swift_ast.specs.declared.piece.PieceForm.{PieceForm}
use Rattle.swift_ast.specs.declared.piece.PieceForm.TheVariants as piece
use Rattle.swift_ast.specs.declared.piece.Source.{Source}
use Rattle.swift_ast.specs.declared.piece.StructBody.{StructBody}
use Rattle.swift_ast.specs.declared.piece.StructBody.TheVariants.{Members, LeftAside}
use Rattle.swift_core.specs.Typing.{FitsSignature, IsTypedAt}
use Rattle.swift_core.specs.declared.table.Declaration.{Declaration}
use Rattle.swift_core.specs.declared.table.MemberPlace.{MemberPlace}
use Rattle.swift_core.specs.declared.table.Signature.{Signature}
use Rattle.swift_core.specs.declared.table.SignatureForm.{SignatureForm}
use Rattle.swift_core.specs.declared.table.SignatureForm.TheVariants as form
use Rattle.swift_core.specs.declared.table.Table.{Table}
use Rattle.type_table.specs.Along.{narrow, along}
use Rattle.type_table.specs.Heads.{declares, heads_table, next_declaration, next_key}
use Rattle.type_table.specs.Signatures.{Draft, signature_at, signatures, case_draft, case_count, enum_member, item_drafts, enum_drafts}
use Rattle.type_table.specs.Tables.{codes_in, item_size, member_place, member_places, enum_starts, entry_place, first_key, first_code, places_at, places_of, places, declarations_at, declarations_of, declarations, table_of}
use Rattle.member_rules.specs.Shapes.{without_code}
use Rattle.source_parts.specs.Parts.{Part, member_part, case_part, entry_part, item_parts, body_parts, inner_parts}
use Rattle.table_names.specs.Lists.{each_at, gives_at, map_along}
use Rattle.table_names.specs.Numbers.{some_at, alike_at, alike_length}
use Rattle.table_names.specs.Names.{read_at}
use Rattle.table_names.specs.Pieces.{made_enum, signatures_along, length_declarations, length_places, places_length}
use Rattle.table_names.specs.Codes.{narrow_small, places_few}
use Rattle.table_fits.specs.Nils.{same_one}
use Rattle.table_fits.specs.Forms.{forms_stand}
use Rattle.table_names.specs.Tables.{IsTableOf, IsSmall, bare_form, bare_declaration, same_declarations, same_members, signature_alike}
use Rattle.part_laws.specs.Things.{flat_from, flat_follows, inner_length, item_length, things_in}

-- ---- what may stand in a piece

abbrev pub Only : PieceForm → Part → Type 0
Only (piece.Struct p) (Part.a_member m) = Unit {0}
Only (piece.Enum p) (Part.a_member m) = Unit {0}
Only (piece.Enum p) (Part.a_case n) = Unit {0}
Only (piece.Environment es) (Part.an_entry e) = Unit {0}
Only f part = ⊥

members_only : (P : Part → Type 0) → ((m : Member) → P (Part.a_member m)) → (ms : List Member) (at : ℕ) (part : Part) → slice_get (flat_map member_part ms) at ≡ Some part → P part
members_only P is [] at part e = cc
members_only P is (m ∷ ms) zero part e = let h : Part.a_member m ≡ part = cc in subst P h (is m)
members_only P is (m ∷ ms) (suc at) part e = members_only P is ms at part e

cases_only : (P : Part → Type 0) → ((n : CaseName) → P (Part.a_case n)) → (cs : List CaseName) (at : ℕ) (part : Part) → slice_get (flat_map case_part cs) at ≡ Some part → P part
cases_only P is [] at part e = cc
cases_only P is (c ∷ cs) zero part e = let h : Part.a_case c ≡ part = cc in subst P h (is c)
cases_only P is (c ∷ cs) (suc at) part e = cases_only P is cs at part e

entries_only : (P : Part → Type 0) → ((x : Entry) → P (Part.an_entry x)) → (es : List Entry) (at : ℕ) (part : Part) → slice_get (flat_map entry_part es) at ≡ Some part → P part
entries_only P is [] at part e = cc
entries_only P is (x ∷ es) zero part e = let h : Part.an_entry x ≡ part = cc in subst P h (is x)
entries_only P is (x ∷ es) (suc at) part e = entries_only P is es at part e

body_only : (P : Part → Type 0) → ((m : Member) → P (Part.a_member m)) → (b : StructBody) (at : ℕ) (part : Part) → slice_get (body_parts b) at ≡ Some part → P part
body_only P is LeftAside at part e = cc
body_only P is (Members ms) at part e = members_only P is ms at part e

item_only : (P : Part → Type 0) → ((m : Member) → P (Part.a_member m)) → ((n : CaseName) → P (Part.a_case n)) → (i : EnumItem) (at : ℕ) (part : Part) → slice_get (item_parts i) at ≡ Some part → P part
item_only P is cased (item.Cases cs) at part e = cases_only P cased cs at part e
item_only P is cased (item.Member m) zero part e = let h : Part.a_member m ≡ part = cc in subst P h (is m)
item_only P is cased (item.Member m) (suc at) part e = cc

pub inner_only : (f : PieceForm) (at : ℕ) (part : Part) → slice_get (inner_parts f) at ≡ Some part → Only f part
inner_only (piece.Struct p) at part e = body_only (Only (piece.Struct p)) (λ m. tt) p.body at part e
inner_only (piece.Enum p) at part e =
    let r = flat_from item_parts item_size item_length p.items at part e in
    item_only (Only (piece.Enum p)) (λ m. tt) (λ n. tt) r.one r.at part r.stands
inner_only (piece.Environment es) at part e = entries_only (Only (piece.Environment es)) (λ x. tt) es at part e
inner_only (piece.Import w) at part e = cc
inner_only (piece.Preview s) at part e = cc

-- ---- the place of a thing

-- the place of the table behind those of the pieces before is that of the piece
pub place_given : {source : Source} {table : Table} → IsTableOf source table → (before after : List Piece) (one : Piece) (at : ℕ) (part : Part) (place : MemberPlace) → source.pieces ≡ before ++ one ∷ after
    → slice_get (things_in one) at ≡ Some part → slice_get table.members (sum_by codes_in before + at) ≡ Some place → slice_get (places_of before one) at ≡ Some place
unfolding table_of places
place_given {source = source} {table = table} is before after one at part place split w e =
    let lw = slice_get_within (things_in one) at part w in
    let a = inner_length one.form in
    let b = places_length (next_declaration before) (first_key before) one.form in
    let p = some_at (places_of before one) at (omega (arith, lw, a, b)) in
    let l = length_places before in
    let there : slice_get table.members (sum_by codes_in before + at) ≡ Some p.0 =
    ap (λ ms. slice_get ms (sum_by codes_in before + at)) (same_members is) ∙ (λ i. slice_get (along places_of (split i)) (sym l i + at)) ∙ gives_at places_of before after one at p.0 p.1 in
    let same : p.0 ≡ place = same_one (slice_get table.members (sum_by codes_in before + at)) p.0 place there e in
    p.1 ∙ ap Some same

-- the place of an environment key is in no declaration
pub entry_owner : (d key : ℕ) (f : PieceForm) (at : ℕ) (x : Entry) (place : MemberPlace) → slice_get (inner_parts f) at ≡ Some (Part.an_entry x) → slice_get (places_at d key f) at ≡ Some place → place.declaration ≡ None
entry_owner d key (piece.Struct p) at x place w e = absurd (inner_only (piece.Struct p) at (Part.an_entry x) w)
entry_owner d key (piece.Enum p) at x place w e = absurd (inner_only (piece.Enum p) at (Part.an_entry x) w)
entry_owner d key (piece.Environment es) at x place w e = let q = each_at (entry_place key) es at place e in ap (λ (y : MemberPlace). y.declaration) q.is
entry_owner d key (piece.Import v) at x place w e = cc
entry_owner d key (piece.Preview v) at x place w e = cc

-- ---- the signature of a case

abbrev pub is_case_form : SignatureForm → Bool
is_case_form (form.Case n) = true
is_case_form f = false

abbrev signature_test : Signature → Bool
signature_test s = is_case_form s.form

abbrev draft_test : Draft → Bool
draft_test d = is_case_form d.form

abbrev always : CaseName → Bool
always c = true

abbrev item_tests : Table → EnumItem → List Bool
item_tests heads (item.Cases cs) = map always cs
item_tests heads (item.Member m) = draft_test (enum_member heads m) ∷ []

drafts_item : (heads : Table) (cases : ℕ) (i : EnumItem) → map draft_test (item_drafts heads cases i) ≡ item_tests heads i
drafts_item heads cases (item.Cases cs) = map_along (λ before c. case_draft cases before c ∷ []) draft_test (λ c. always c ∷ []) (λ before c. refl) cs ∙ flat_map_single always cs
drafts_item heads cases (item.Member m) = refl

drafts_tests : (heads : Table) (items : List EnumItem) → map draft_test (enum_drafts heads items) ≡ flat_map (item_tests heads) items
drafts_tests heads items = map_along (λ before i. item_drafts heads (case_count before) i) draft_test (item_tests heads) (λ before i. drafts_item heads (case_count before) i) items

signature_tests : (first : ℕ) (ds : List Draft) → map signature_test (signatures first ds) ≡ map draft_test ds
signature_tests first ds =
    ap (map signature_test) (signatures_along first ds)
    ∙ map_along (λ b d. signature_at first (length b) d.name d.form ∷ []) signature_test (λ d. draft_test d ∷ []) (λ b d. refl) ds
    ∙ flat_map_single draft_test ds

tests_length : (heads : Table) (i : EnumItem) → length (item_parts i) ≡ length (item_tests heads i)
tests_length heads (item.Cases cs) = item_length (item.Cases cs) ∙ sym (length-map cs always)
tests_length heads (item.Member m) = refl

abbrev IsCase : Part → Type 0
IsCase (Part.a_case n) = Unit {0}
IsCase part = ⊥

cases_true : (cs : List CaseName) (j : ℕ) (a : Part) → slice_get (flat_map case_part cs) j ≡ Some a → slice_get (map always cs) j ≡ Some true
cases_true [] j a e = cc
cases_true (c ∷ cs) zero a e = refl
cases_true (c ∷ cs) (suc j) a e = cases_true cs j a e

abbrev Tested : List Bool → ℕ → Type 0
Tested bs j = (b : Bool) × (slice_get bs j ≡ Some b) × (b ≡ true)

item_tested : (heads : Table) (i : EnumItem) (j : ℕ) (a : Part) → slice_get (item_parts i) j ≡ Some a → IsCase a → Tested (item_tests heads i) j
item_tested heads (item.Cases cs) j a e p = (true, cases_true cs j a e, refl)
item_tested heads (item.Member m) zero a e p = let h : Part.a_member m ≡ a = cc in absurd (subst IsCase (sym h) p)
item_tested heads (item.Member m) (suc j) a e p = cc

-- the member of an enum that is written as a case is one
made_case : (heads : Table) (first : ℕ) (p : EnumPiece) (at : ℕ) (n : CaseName) → slice_get (flat_map item_parts p.items) at ≡ Some (Part.a_case n)
    → (s : Signature) × (slice_get (made_enum heads first p).members at ≡ Some s) × (is_case_form s.form ≡ true)
made_case heads first p at n e =
    let f = flat_follows item_parts (item_tests heads) IsCase (λ b. b ≡ true) (tests_length heads) (item_tested heads) p.items at (Part.a_case n) e tt in
    let t : slice_get (map signature_test (signatures first (enum_drafts heads p.items))) at ≡ Some f.0 =
    ap (λ bs. slice_get bs at) (signature_tests first (enum_drafts heads p.items) ∙ drafts_tests heads p.items) ∙ f.1 in
    let r = read_at signature_test (signatures first (enum_drafts heads p.items)) at f.0 t in
    (r.0, r.1, r.2 ∙ f.2)

-- ---- a case in a table

case_bare : (f : SignatureForm) → is_case_form (bare_form f) ≡ is_case_form f
case_bare (form.Stored n b t a) = refl
case_bare (form.State n t a) = refl
case_bare (form.Binding n t) = refl
case_bare (form.Static t) = refl
case_bare (form.Environment n) = refl
case_bare (form.Case n) = refl
case_bare (form.Computed t) = refl
case_bare (form.Function ps t m) = refl
case_bare form.BuilderProperty = refl
case_bare (form.BuilderFunction ps) = refl
case_bare form.Reduce = refl
case_bare form.Unfit = refl

case_is : (f : SignatureForm) → is_case_form f ≡ true → (n : ℕ) × (f ≡ form.Case n)
case_is (form.Stored n b t a) e = cc
case_is (form.State n t a) e = cc
case_is (form.Binding n t) e = cc
case_is (form.Static t) e = cc
case_is (form.Environment n) e = cc
case_is (form.Case n) e = (n, refl)
case_is (form.Computed t) e = cc
case_is (form.Function ps t m) e = cc
case_is form.BuilderProperty e = cc
case_is (form.BuilderFunction ps) e = cc
case_is form.Reduce e = cc
case_is form.Unfit e = cc

-- the case at a place of the table
pub record CaseAt (table : Table) (place : MemberPlace) : Type 0 where
  pub d : ℕ
  pub owner : place.declaration ≡ Some d
  pub declaration : Declaration
  pub declared : slice_get table.declarations d ≡ Some declaration
  pub signature : Signature
  pub stands : slice_get declaration.members place.at ≡ Some signature
  pub number : ℕ
  pub is : signature.form ≡ form.Case number

enum_at : (heads : Table) (before after : List Piece) (one : Piece) (p : EnumPiece) → one.form ≡ piece.Enum p
    → slice_get (along (declarations_of heads) (before ++ one ∷ after)) (count_by declares before) ≡ Some (made_enum heads (first_code before) p)
enum_at heads before after one p is =
    let made = made_enum heads (first_code before) p in
    let first : slice_get (declarations_of heads before one) 0 ≡ Some made = ap (λ x. slice_get (declarations_at heads (first_code before) (next_key before) x) 0) is in
    let l = length_declarations heads before in
    let z : count_by declares before ≡ length (along (declarations_of heads) before) + 0 = omega (arith, l) in
    ap (slice_get (along (declarations_of heads) (before ++ one ∷ after))) z ∙ gives_at (declarations_of heads) before after one 0 made first

enum_case_at : {source : Source} {table : Table} → IsTableOf source table → IsSmall table → (before after : List Piece) (one : Piece) (p : EnumPiece) (at : ℕ) (n : CaseName) (place : MemberPlace)
    → source.pieces ≡ before ++ one ∷ after → one.form ≡ piece.Enum p → slice_get (flat_map item_parts p.items) at ≡ Some (Part.a_case n)
    → slice_get table.members (sum_by codes_in before + at) ≡ Some place → slice_get (member_places (next_declaration before) (enum_starts p.items)) at ≡ Some place → CaseAt table place
unfolding table_of declarations member_places
enum_case_at {source = source} {table = table} is small before after one p at n place split form_is w e g =
    let heads = heads_table source.pieces in
    let q = each_at (member_place (next_declaration before)) (enum_starts p.items) at place g in
    let lt = slice_get_within table.members (sum_by codes_in before + at) place e in let few = places_few is in
    let k = alike_length bare_declaration table.declarations (table_of source).declarations (same_declarations is) in
    let ld = length_declarations heads source.pieces in
    let c : count_by declares source.pieces ≡ count_by declares before + count_by declares (one ∷ after) =
    ap (count_by declares) split ∙ sum_by-append (λ x. cond (declares x) 1 0) before (one ∷ after) in
    let at_is : place.at ≡ at = ap (λ (x : MemberPlace). x.at) q.is ∙ ap narrow (sym q.stands.place) ∙ narrow_small at (omega (arith, lt, few, small)) in
    let there : slice_get (table_of source).declarations (count_by declares before) ≡ Some (made_enum heads (first_code before) p) =
    ap (λ ps. slice_get (along (declarations_of heads) ps) (count_by declares before)) split ∙ enum_at heads before after one p form_is in
    let x = alike_at bare_declaration (table_of source).declarations table.declarations (count_by declares before) (made_enum heads (first_code before) p) (sym (same_declarations is)) there in
    let m = made_case heads (first_code before) p at n w in
    let y = signature_alike (made_enum heads (first_code before) p) x.0 at m.0 x.2 m.1 in
    let t : is_case_form y.0.form ≡ true = sym (case_bare y.0.form) ∙ ap (λ (s : Signature). is_case_form s.form) (sym y.2) ∙ case_bare m.0.form ∙ m.2 in
    let number = case_is y.0.form t in
    record {
      d = count_by declares before;
      owner = ap (λ (z : MemberPlace). z.declaration) q.is ∙ ap Some (narrow_small (count_by declares before) (omega (arith, k, ld, c, small)));
      declaration = x.0;
      declared = x.1;
      signature = y.0;
      stands = ap (slice_get x.0.members) at_is ∙ y.1;
      number = number.0;
      is = number.1;
    }

case_in : {source : Source} {table : Table} → IsTableOf source table → IsSmall table → (before after : List Piece) (one : Piece) (x : PieceForm) (at : ℕ) (n : CaseName) (place : MemberPlace)
    → source.pieces ≡ before ++ one ∷ after → one.form ≡ x → slice_get (inner_parts x) at ≡ Some (Part.a_case n)
    → slice_get table.members (sum_by codes_in before + at) ≡ Some place → slice_get (places_at (next_declaration before) (first_key before) x) at ≡ Some place → CaseAt table place
case_in is small before after one (piece.Struct p) at n place split form_is w e g = absurd (inner_only (piece.Struct p) at (Part.a_case n) w)
case_in is small before after one (piece.Enum p) at n place split form_is w e g = enum_case_at is small before after one p at n place split form_is w e g
case_in is small before after one (piece.Environment es) at n place split form_is w e g = absurd (inner_only (piece.Environment es) at (Part.a_case n) w)
case_in is small before after one (piece.Import v) at n place split form_is w e g = cc
case_in is small before after one (piece.Preview v) at n place split form_is w e g = cc

pub case_stands : {source : Source} {table : Table} → IsTableOf source table → IsSmall table → (before after : List Piece) (one : Piece) (at : ℕ) (n : CaseName) (place : MemberPlace)
    → source.pieces ≡ before ++ one ∷ after → slice_get (things_in one) at ≡ Some (Part.a_case n) → slice_get table.members (sum_by codes_in before + at) ≡ Some place → CaseAt table place
case_stands is small before after one at n place split w e =
    case_in is small before after one one.form at n place split refl w e (place_given is before after one at (Part.a_case n) place split w e)

no_unfit : (f : SignatureForm) (n : ℕ) → f ≡ form.Case n → f ≡ form.Unfit → ⊥
no_unfit f n e h = let k : ◌≡◌ {A = SignatureForm} (form.Case n) form.Unfit = sym e ∙ h in cc

-- a case has no code, and is well typed
pub case_typed : {source : Source} {table : Table} → IsTableOf source table → IsSmall table → (place : MemberPlace) → CaseAt table place → IsTypedAt table without_code place
case_typed {source = source} {table = table} is small place c =
    IsTypedAt.typed_member c.owner c.declared c.stands
    (forms_stand source table is small c.d place.at c.declaration c.signature c.declared c.stands (no_unfit c.signature.form c.number c.is))
    (subst (FitsSignature table c.d c.declaration.kind without_code) (sym c.is) (FitsSignature.enum_case refl))
