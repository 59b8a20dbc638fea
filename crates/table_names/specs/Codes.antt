-- The code of each member and key stands where the table says.
use Rattle.std.specs.Prelude.{◌≡◌, ℕ, zero, suc, ◌+◌, ◌<◌, ◌≤◌, List, [], ◌∷◌, ◌++◌, Option, Some, None, length, map, sum, slice_get}
use Rattle.std.specs.List.{sum_by}
use Rattle.std.proofs.Common.{refl, sym, ap, subst, ◌∙◌, arith}
use Rattle.std.proofs.lemmas.List.{length-map}
use Rattle.std.proofs.lemmas.List.Sums.{sum_by-cons}
use Rattle.std.proofs.lemmas.Option.{slice_get_within}
use Rattle.swift_ast.specs.declared.piece.Piece.{Piece}
use Rattle.swift_ast.specs.declared.piece.PieceForm.{PieceForm}
use Rattle.swift_ast.specs.declared.piece.PieceForm.TheVariants as piece
use Rattle.swift_ast.specs.declared.piece.Source.{Source}
use Rattle.swift_ast.specs.declared.piece.StructBody.{StructBody}
use Rattle.swift_ast.specs.declared.piece.StructBody.TheVariants.{Members, LeftAside}
use Rattle.swift_ast.specs.declared.piece.StructPiece.{StructPiece}
use Rattle.swift_core.specs.declared.table.Declaration.{Declaration}
use Rattle.swift_core.specs.declared.ty.Ty.TheVariants as ty
use Rattle.swift_core.specs.declared.table.EnvironmentKey.{EnvironmentKey}
use Rattle.swift_core.specs.declared.table.MemberPlace.{MemberPlace}
use Rattle.swift_core.specs.declared.table.Signature.{Signature}
use Rattle.swift_core.specs.declared.table.Table.{Table}
use Rattle.swift_core.specs.Programs.{StandsAt, DefaultStands, size_of}
use Rattle.member_forms.specs.Whole.{sort_of}
use Rattle.type_table.specs.Along.{greatest, narrow, widest, wide, along}
use Rattle.type_table.specs.Heads.{entries_at, heads_table, next_declaration, next_key}
use Rattle.type_table.specs.Signatures.{Draft, signature_at, signatures, struct_drafts, enum_drafts}
use Rattle.type_table.specs.Tables.{codes_in, first_code, struct_declaration, declarations_at, environment_key_of, environment_keys, environment_of, environment, is_enabled, member_start, member_place, member_places, enum_starts, struct_places, entry_count, first_key, entry_place, entry_places, places_at, places_of, places, table_of}
use Rattle.table_names.specs.Lists.{each_at, given_by, gives_at, length_along, length_each}
use Rattle.table_names.specs.Numbers.{some_at, alike_length, alike_map}
use Rattle.table_names.specs.Pieces.{declared_by, made_struct, made_enum, members_in, signatures_along, length_signatures, length_struct, length_enum, length_starts, length_places, places_counted, keys_length}
use Rattle.table_names.specs.Tables.{IsTableOf, IsSmall, bare_declaration, bare_signature, bare_key, same_declarations, same_environment, same_members, declaration_alike, key_alike, signature_alike}

-- ---- sizes

pub narrow_small : (n : ℕ) → n ≤ 1048576 → narrow n ≡ n
unfolding narrow greatest
narrow_small n le = omega arith

pub wide_small : (n : ℕ) → n ≤ 1048576 → wide n ≡ n
unfolding wide widest
wide_small n le = omega arith

-- a declaration has no more members than all
pub members_few : (ds : List Declaration) (d : ℕ) (declaration : Declaration) → slice_get ds d ≡ Some declaration → length declaration.members ≤ sum (map members_in ds)
members_few [] d declaration e = cc
members_few (x ∷ ds) zero declaration e =
    let h : x ≡ declaration = cc in let l : length x.members ≡ length declaration.members = ap members_in h in let c = sum_by-cons (λ (n : ℕ). n) (members_in x) (map members_in ds) in
    omega (arith, l, c)
members_few (x ∷ ds) (suc d) declaration e = let r = members_few ds d declaration e in let c = sum_by-cons (λ (n : ℕ). n) (members_in x) (map members_in ds) in omega (arith, r, c)

-- there are no more places than declarations, members and keys
pub places_few : {source : Source} {table : Table} → IsTableOf source table → suc (length table.members) ≤ size_of table
places_few {source = source} {table = table} is =
    let a = places_counted source in
    let b : length table.members ≡ length (table_of source).members = ap length (same_members is) in
    let c : sum (map members_in table.declarations) ≡ sum (map members_in (table_of source).declarations) =
    ap sum (alike_map bare_declaration members_in (λ x y e. alike_length bare_signature x.members y.members (ap (λ (d : Declaration). d.members) e)) table.declarations (table_of source).declarations (same_declarations is)) in
    let d : length table.environment ≡ length (table_of source).environment = alike_length bare_key table.environment (table_of source).environment (same_environment is) in
    omega (arith, a, b, c, d)

-- ---- members

-- the place of a member, and the number of its code
pub record CodeAt (first d : ℕ) (ps : List MemberPlace) (at : ℕ) (s : Signature) : Type 0 where
  pub place : MemberPlace
  pub stands : slice_get ps at ≡ Some place
  pub code : s.code.number ≡ wide (first + at)
  pub owner : place.declaration ≡ Some d
  pub at_is : place.at ≡ narrow at

code_of : (first d : ℕ) (ds : List Draft) (starts : List ℕ) (at : ℕ) (s : Signature) → length ds ≡ length starts → slice_get (signatures first ds) at ≡ Some s
    → CodeAt first d (member_places d starts) at s
unfolding member_places
code_of first d ds starts at s same e =
    let r = each_at (λ b x. signature_at first (length b) x.name x.form) ds at s (ap (λ xs. slice_get xs at) (sym (signatures_along first ds)) ∙ e) in
    let lt = slice_get_within (signatures first ds) at s e in
    let a = length_signatures first ds in let b = length_each (member_place d) starts in
    let p = some_at (member_places d starts) at (omega (arith, lt, a, b, same)) in
    let q = each_at (member_place d) starts at p.0 p.1 in
    record {
      place = p.0;
      stands = p.1;
      code = ap (λ (x : Signature). x.code.number) r.is ∙ ap (λ n. wide (first + n)) (sym r.stands.place);
      owner = ap (λ (x : MemberPlace). x.declaration) q.is;
      at_is = ap (λ (x : MemberPlace). x.at) q.is ∙ ap narrow (sym q.stands.place);
    }

struct_code : (heads : Table) (first key d : ℕ) (p : StructPiece) (b : StructBody) (declaration : Declaration) (at : ℕ) (s : Signature)
    → struct_declaration heads first key p b ≡ declaration ∷ [] → slice_get declaration.members at ≡ Some s → CodeAt first d (struct_places d b) at s
struct_code heads first key d p LeftAside declaration at s e h = cc
struct_code heads first key d p (Members ms) declaration at s e h =
    let k : made_struct heads first key p ms ≡ declaration = cc in
    code_of first d (struct_drafts heads (sort_of p.names) ms) (map member_start ms) at s
    (length_struct heads (sort_of p.names) ms ∙ sym (length-map ms member_start))
    (ap (λ (x : Declaration). slice_get x.members at) k ∙ h)

pub member_code : (heads : Table) (first key d k : ℕ) (f : PieceForm) (declaration : Declaration) (at : ℕ) (s : Signature)
    → declarations_at heads first key f ≡ declaration ∷ [] → slice_get declaration.members at ≡ Some s → CodeAt first d (places_at d k f) at s
member_code heads first key d k (piece.Struct p) declaration at s e h = struct_code heads first key d p p.body declaration at s e h
member_code heads first key d k (piece.Enum p) declaration at s e h =
    let n : made_enum heads first p ≡ declaration = cc in
    code_of first d (enum_drafts heads p.items) (enum_starts p.items) at s (length_enum heads p.items ∙ sym (length_starts p.items)) (ap (λ (x : Declaration). slice_get x.members at) n ∙ h)
member_code heads first key d k (piece.Environment es) declaration at s e h = cc
member_code heads first key d k (piece.Import w) declaration at s e h = cc
member_code heads first key d k (piece.Preview w) declaration at s e h = cc

stands : (table : Table) (i n : ℕ) (place : MemberPlace) (o : Option ℕ) (at : ℕ) → slice_get table.members i ≡ Some place → n ≡ suc i → place.declaration ≡ o → place.at ≡ at → StandsAt table n o at
stands table i n place o at e p q r =
    subst (λ m. StandsAt table m o at) (sym p) (subst (λ a. StandsAt table (suc i) o a) r (subst (λ w. StandsAt table (suc i) w place.at) q (StandsAt.stands_at e)))

pub code_number : (before : List Piece) (at : ℕ) → suc (sum_by codes_in before + at) ≤ 1048576 → wide (first_code before + at) ≡ suc (sum_by codes_in before + at)
unfolding first_code
code_number before at le =
    ap (λ n. wide (n + at)) (wide_small (suc (sum_by codes_in before)) (omega (arith, le))) ∙ wide_small (suc (sum_by codes_in before) + at) (omega (arith, le))
    ∙ (let h : suc (sum_by codes_in before) + at ≡ suc (sum_by codes_in before + at) = omega arith in h)

-- The code of each member of a declaration stands where the table says.
abbrev pub CodesStand : Type 0
CodesStand = (source : Source) (table : Table) → IsTableOf source table → IsSmall table
    → (d : ℕ) (declaration : Declaration) (at : ℕ) (s : Signature) → slice_get table.declarations d ≡ Some declaration → slice_get declaration.members at ≡ Some s
    → StandsAt table s.code.number (Some d) at

pub codes_stand : CodesStand
unfolding table_of places
codes_stand source table is small d declaration at s e h =
    let x = declaration_alike is d declaration e in
    let y = signature_alike declaration x.0 at s x.2 h in
    let by = declared_by source d x.0 x.1 in
    let heads = heads_table source.pieces in
    let c = member_code heads (first_code by.before) (next_key by.before) (next_declaration by.before) (first_key by.before) by.one.form x.0 at y.0 by.is y.1 in
    let i = sum_by codes_in by.before + at in
    let l = length_places by.before in
    let g = gives_at places_of by.before by.after by.one at c.place c.stands in
    let here : slice_get table.members i ≡ Some c.place =
    ap (λ ms. slice_get ms i) (same_members is) ∙ ap (λ ps. slice_get (along places_of ps) i) by.split ∙ ap (λ n. slice_get (along places_of (by.before ++ by.one ∷ by.after)) (n + at)) (sym l) ∙ g in
    let lt = slice_get_within table.members i c.place here in
    let few = places_few is in
    let dl = slice_get_within table.declarations d declaration e in
    let num : s.code.number ≡ suc i =
    ap (λ (z : Signature). z.code.number) y.2 ∙ c.code ∙ code_number by.before at (omega (arith, lt, few, small)) in
    let own : c.place.declaration ≡ Some d = c.owner ∙ ap Some (ap narrow (sym by.place) ∙ narrow_small d (omega (arith, dl, small))) in
    let there : c.place.at ≡ at = c.at_is ∙ narrow_small at (omega (arith, lt, few, small)) in
    stands table i s.code.number c.place (Some d) at here num own there

-- The table has a place for each member, case and key that is written.
abbrev pub MembersCounted : Type 0
MembersCounted = (source : Source) (table : Table) → IsTableOf source table → length table.members ≡ sum_by codes_in source.pieces

pub members_counted : MembersCounted
unfolding table_of places
members_counted source table is = ap length (same_members is) ∙ length_places source.pieces

-- ---- environment keys

-- the place of a key, and the number of the code of its default
pub record DefaultAt (first key : ℕ) (ps : List MemberPlace) (at : ℕ) (k : EnvironmentKey) : Type 0 where
  pub place : MemberPlace
  pub stands : slice_get ps at ≡ Some place
  pub code : k.default.number ≡ wide (first + at)
  pub owner : place.declaration ≡ None
  pub at_is : place.at ≡ narrow (key + at)

pub default_at : (heads : Table) (first d key : ℕ) (f : PieceForm) (at : ℕ) (k : EnvironmentKey) → slice_get (environment_keys heads first (entries_at f)) at ≡ Some k → DefaultAt first key (places_at d key f) at k
unfolding along
default_at heads first d key (piece.Environment es) at k e =
    let r = each_at (environment_key_of heads first) es at k e in
    let lt = slice_get_within (environment_keys heads first es) at k e in
    let a = length_each (environment_key_of heads first) es in let b = length_each (entry_place key) es in
    let p = some_at (entry_places key es) at (omega (arith, lt, a, b)) in
    let q = each_at (entry_place key) es at p.0 p.1 in
    record {
      place = p.0;
      stands = p.1;
      code = ap (λ (x : EnvironmentKey). x.default.number) r.is ∙ ap (λ n. wide (first + n)) (sym r.stands.place);
      owner = ap (λ (x : MemberPlace). x.declaration) q.is;
      at_is = ap (λ (x : MemberPlace). x.at) q.is ∙ ap (λ n. narrow (key + n)) (sym q.stands.place);
    }
default_at heads first d key (piece.Struct p) at k e = cc
default_at heads first d key (piece.Enum p) at k e = cc
default_at heads first d key (piece.Import w) at k e = cc
default_at heads first d key (piece.Preview w) at k e = cc

pub key_number : (before : List Piece) (at : ℕ) → suc (sum_by entry_count before + at) ≤ 1048576 → narrow (first_key before + at) ≡ suc (sum_by entry_count before + at)
unfolding first_key
key_number before at le =
    ap (λ n. narrow (n + at)) (narrow_small (suc (sum_by entry_count before)) (omega (arith, le))) ∙ narrow_small (suc (sum_by entry_count before) + at) (omega (arith, le))
    ∙ (let h : suc (sum_by entry_count before) + at ≡ suc (sum_by entry_count before + at) = omega arith in h)

default_stands : (source : Source) (table : Table) → IsTableOf source table → IsSmall table → (k n : ℕ) (key : EnvironmentKey) → k < length table.environment
    → slice_get (table_of source).environment k ≡ Some key → n ≡ key.default.number → DefaultStands table n k
unfolding table_of environment places along
default_stands source table is small zero n key within e p =
    let h : is_enabled ≡ key = cc in
    subst (λ m. DefaultStands table m 0) (ap (λ (x : EnvironmentKey). x.default.number) h ∙ sym p) DefaultStands.built_in_default
default_stands source table is small (suc j) n key within e p =
    let heads = heads_table source.pieces in
    let r = given_by (environment_of heads) source.pieces j key e in
    let c = default_at heads (first_code r.before) (next_declaration r.before) (first_key r.before) r.one.form r.at key r.stands in
    let i = sum_by codes_in r.before + r.at in
    let l = length_places r.before in
    let g = gives_at places_of r.before r.after r.one r.at c.place c.stands in
    let here : slice_get table.members i ≡ Some c.place =
    ap (λ ms. slice_get ms i) (same_members is) ∙ ap (λ ps. slice_get (along places_of ps) i) r.split ∙ ap (λ m. slice_get (along places_of (r.before ++ r.one ∷ r.after)) (m + r.at)) (sym l) ∙ g in
    let lt = slice_get_within table.members i c.place here in
    let few = places_few is in
    let m = length_along (environment_of heads) entry_count (keys_length heads) r.before in
    let num : n ≡ suc i = p ∙ c.code ∙ code_number r.before r.at (omega (arith, lt, few, small)) in
    let w = r.place in
    let there : c.place.at ≡ suc j = c.at_is ∙ key_number r.before r.at (omega (arith, m, w, within, small)) ∙ ap suc (omega (arith, m, w)) in
    DefaultStands.own_default (stands table i n c.place None (suc j) here num c.owner there)

-- The code of the default of each environment key stands where the table says.
abbrev pub DefaultsStand : Type 0
DefaultsStand = (source : Source) (table : Table) → IsTableOf source table → IsSmall table
    → (k : ℕ) (key : EnvironmentKey) → slice_get table.environment k ≡ Some key → DefaultStands table key.default.number k

pub defaults_stand : DefaultsStand
defaults_stand source table is small k key e =
    let x = key_alike is k key e in
    default_stands source table is small k key.default.number x.0 (slice_get_within table.environment k key e) x.1 (ap (λ (y : EnvironmentKey). y.default.number) x.2)

-- Key 0 is a truth value.
abbrev pub EnabledIsBool : Type 0
EnabledIsBool = (source : Source) (table : Table) → IsTableOf source table → (key : EnvironmentKey) × (slice_get table.environment 0 ≡ Some key) × (key.ty ≡ Some ty.Bool)

pub enabled_is_bool : EnabledIsBool
enabled_is_bool source table is = (is_enabled, is.enabled, refl)
