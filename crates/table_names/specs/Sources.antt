-- Where in the source file each member and key of a table is written, and at which place of the table.
use Rattle.std.specs.Prelude.{◌≡◌, ℕ, zero, suc, ◌+◌, ◌<◌, ◌≤◌, List, [], ◌∷◌, ◌++◌, Option, Some, None, length, map, slice_get}
use Rattle.std.specs.List.{sum_by}
use Rattle.std.proofs.Common.{refl, sym, ap, ◌∙◌, arith}
use Rattle.std.proofs.lemmas.Option.{slice_get_within}
use Rattle.swift_ast.specs.declared.piece.Piece.{Piece}
use Rattle.swift_ast.specs.declared.piece.Source.{Source}
use Rattle.swift_core.specs.declared.table.Declaration.{Declaration}
use Rattle.swift_core.specs.declared.table.EnvironmentKey.{EnvironmentKey}
use Rattle.swift_core.specs.declared.table.MemberPlace.{MemberPlace}
use Rattle.swift_core.specs.declared.table.Signature.{Signature}
use Rattle.swift_core.specs.declared.table.Table.{Table}
use Rattle.type_table.specs.Along.{narrow, along}
use Rattle.type_table.specs.Heads.{entries_of, heads_table, next_declaration, next_key}
use Rattle.type_table.specs.Tables.{codes_in, first_code, environment_of, environment, entry_count, first_key, places_of, places, signature_name, table_of}
use Rattle.type_twice.specs.Twice.{member_names_at, key_names_at, name_of_named}
use Rattle.table_names.specs.Lists.{given_by, gives_at, length_along}
use Rattle.table_names.specs.Pieces.{declared_by, keys_length, length_places}
use Rattle.table_names.specs.Codes.{member_code, code_number, default_at, key_number, narrow_small, places_few}
use Rattle.table_names.specs.Names.{key_word, keys_words, made_words, mapped, reads}
use Rattle.table_names.specs.Tables.{IsTableOf, IsSmall, same_members, declaration_alike, key_alike, signature_alike}

-- Member `at` of declaration d is written at place `at` of this piece: its place in the table stands behind those of the pieces before.
pub record MemberSource (source : Source) (table : Table) (d at : ℕ) (s : Signature) : Type 0 where
  pub before : List Piece
  pub one : Piece
  pub after : List Piece
  pub split : source.pieces ≡ before ++ one ∷ after
  pub place : MemberPlace
  pub stands : slice_get table.members (sum_by codes_in before + at) ≡ Some place
  pub owner : place.declaration ≡ Some d
  pub at_is : place.at ≡ at
  pub code_is : s.code.number ≡ suc (sum_by codes_in before + at)
  pub named : slice_get (map name_of_named (member_names_at one.form)) at ≡ Some s.name

-- Environment key k is written at this place of this piece.
pub record KeySource (source : Source) (table : Table) (k : ℕ) (key : EnvironmentKey) : Type 0 where
  pub before : List Piece
  pub one : Piece
  pub after : List Piece
  pub split : source.pieces ≡ before ++ one ∷ after
  pub at : ℕ
  pub place : MemberPlace
  pub stands : slice_get table.members (sum_by codes_in before + at) ≡ Some place
  pub owner : place.declaration ≡ None
  pub at_is : place.at ≡ k
  pub code_is : key.default.number ≡ suc (sum_by codes_in before + at)
  pub named : slice_get (map name_of_named (key_names_at one.form)) at ≡ Some key.name

-- Each member of a declaration of the table is written in the source file.
abbrev pub MembersWritten : Type 0
MembersWritten = (source : Source) (table : Table) → IsTableOf source table → IsSmall table
    → (d : ℕ) (declaration : Declaration) (at : ℕ) (s : Signature) → slice_get table.declarations d ≡ Some declaration → slice_get declaration.members at ≡ Some s
    → MemberSource source table d at s

pub members_written : MembersWritten
unfolding table_of places
members_written source table is small d declaration at s e h =
    let x = declaration_alike is d declaration e in
    let y = signature_alike declaration x.0 at s x.2 h in
    let by = declared_by source d x.0 x.1 in
    let heads = heads_table source.pieces in
    let c = member_code heads (first_code by.before) (next_key by.before) (next_declaration by.before) (first_key by.before) by.one.form x.0 at y.0 by.is y.1 in
    let i = sum_by codes_in by.before + at in
    let l = length_places by.before in
    let g = gives_at places_of by.before by.after by.one at c.place c.stands in
    let here : slice_get table.members i ≡ Some c.place =
    ap (λ ms. slice_get ms i) (same_members is) ∙ ap (λ ps. slice_get (along places_of ps) i) by.split ∙ ap (λ n. slice_get (along places_of (by.before ++ by.one ∷ by.after)) (n + at)) (sym l) ∙ g in
    let lt = slice_get_within table.members i c.place here in
    let few = places_few is in
    let dl = slice_get_within table.declarations d declaration e in
    let m = mapped heads (first_code by.before) (next_key by.before) by.one.form x.0 by.is in
    record {
      before = by.before;
      one = by.one;
      after = by.after;
      split = by.split;
      place = c.place;
      stands = here;
      owner = c.owner ∙ ap Some (ap narrow (sym by.place) ∙ narrow_small d (omega (arith, dl, small)));
      at_is = c.at_is ∙ narrow_small at (omega (arith, lt, few, small));
      code_is = ap (λ (z : Signature). z.code.number) y.2 ∙ c.code ∙ code_number by.before at (omega (arith, lt, few, small));
      named = ap (λ ns. slice_get ns at) (sym m.names_are) ∙ reads signature_name x.0.members at y.0 y.1 ∙ ap Some (sym (ap (λ (z : Signature). z.name) y.2));
    }

key_source : (source : Source) (table : Table) → IsTableOf source table → IsSmall table → (j : ℕ) (key made : EnvironmentKey) → suc j < length table.environment
    → slice_get (table_of source).environment (suc j) ≡ Some made → key.name ≡ made.name → key.default.number ≡ made.default.number → KeySource source table (suc j) key
unfolding table_of environment places along
key_source source table is small j key made within e name number =
    let heads = heads_table source.pieces in
    let r = given_by (environment_of heads) source.pieces j made e in
    let c = default_at heads (first_code r.before) (next_declaration r.before) (first_key r.before) r.one.form r.at made r.stands in
    let i = sum_by codes_in r.before + r.at in
    let l = length_places r.before in
    let g = gives_at places_of r.before r.after r.one r.at c.place c.stands in
    let here : slice_get table.members i ≡ Some c.place =
    ap (λ ms. slice_get ms i) (same_members is) ∙ ap (λ ps. slice_get (along places_of ps) i) r.split ∙ ap (λ m. slice_get (along places_of (r.before ++ r.one ∷ r.after)) (m + r.at)) (sym l) ∙ g in
    let lt = slice_get_within table.members i c.place here in
    let few = places_few is in
    let m = length_along (environment_of heads) entry_count (keys_length heads) r.before in
    let w = r.place in
    let v = keys_words r.one.form in
    record {
      before = r.before;
      one = r.one;
      after = r.after;
      split = r.split;
      at = r.at;
      place = c.place;
      stands = here;
      owner = c.owner;
      at_is = c.at_is ∙ key_number r.before r.at (omega (arith, m, w, within, small)) ∙ ap suc (omega (arith, m, w));
      code_is = number ∙ c.code ∙ code_number r.before r.at (omega (arith, lt, few, small));
      named = ap (λ ns. slice_get ns r.at) (sym v ∙ sym (made_words heads (first_code r.before) (entries_of r.one))) ∙ reads key_word (environment_of heads r.before r.one) r.at made r.stands ∙ ap Some (sym name);
    }

-- Each environment key of the table but `isEnabled` is written in the source file.
abbrev pub KeysWritten : Type 0
KeysWritten = (source : Source) (table : Table) → IsTableOf source table → IsSmall table
    → (j : ℕ) (key : EnvironmentKey) → slice_get table.environment (suc j) ≡ Some key → KeySource source table (suc j) key

pub keys_written : KeysWritten
keys_written source table is small j key e =
    let x = key_alike is (suc j) key e in
    key_source source table is small j key x.0 (slice_get_within table.environment (suc j) key e) x.1 (ap (λ (y : EnvironmentKey). y.name) x.2) (ap (λ (y : EnvironmentKey). y.default.number) x.2)
