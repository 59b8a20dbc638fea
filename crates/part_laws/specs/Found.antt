-- What the parts of a source file have in its table: each place has its part, and each part its core.
use Rattle.std.specs.Prelude.{◌≡◌, ℕ, ◌+◌, List, ◌∷◌, ◌++◌, Some, length, slice_get}
use Rattle.std.specs.List.{sum_by}
use Rattle.std.proofs.Common.{sym, ap, subst, ◌∙◌, arith}
use Rattle.std.proofs.lemmas.Option.{slice_get_within}
use Rattle.swift_ast.specs.declared.piece.Piece.{Piece}
use Rattle.swift_ast.specs.declared.piece.Source.{Source}
use Rattle.swift_core.specs.declared.code.CoreMember.{CoreMember}
use Rattle.swift_core.specs.declared.table.MemberPlace.{MemberPlace}
use Rattle.swift_core.specs.declared.table.Table.{Table}
use Rattle.type_table.specs.Tables.{codes_in}
use Rattle.source_parts.specs.Parts.{Part, parts_of}
use Rattle.part_rules.specs.Typed.{TypedPlace, Typed}
use Rattle.table_names.specs.Codes.{members_counted}
use Rattle.table_fits.specs.Nils.{same_one}
use Rattle.table_places.specs.Preferences.{AllFit}
use Rattle.table_names.specs.Tables.{IsTableOf}
use Rattle.part_laws.specs.Parts.{Cored, cored_at, cored_length, typed_cored, typed_fit}
use Rattle.part_laws.specs.Things.{flat_from, flat_at, inner_length, things_in, things, things_length, inner_things, all_fit}

-- the parts of a source file have these cores in a table of it
pub record HasCores (source : Source) (table : Table) (cores : List CoreMember) : Type 0 where
  pub cored : Cored table 0 (things source.pieces) cores

pub has_cores : (source : Source) (table : Table) (cores : List CoreMember) → Typed table 0 (parts_of source) cores → HasCores source table cores
has_cores source table cores t = record { cored = subst (λ ps. Cored table 0 ps cores) (inner_things source) (typed_cored table 0 (parts_of source) cores t) }

pub declarations_fit : (source : Source) (table : Table) (cores : List CoreMember) → Typed table 0 (parts_of source) cores → AllFit source
declarations_fit source table cores t = all_fit source (typed_fit table 0 (parts_of source) cores t)

pub places_length : {source : Source} {table : Table} → IsTableOf source table → length table.members ≡ length (things source.pieces)
places_length {source = source} {table = table} is = members_counted source table is ∙ sym (things_length source.pieces)

-- there is a core for each place
pub cores_length : {source : Source} {table : Table} {cores : List CoreMember} → IsTableOf source table → HasCores source table cores → length cores ≡ length table.members
cores_length {source = source} {table = table} {cores = cores} is h = cored_length table 0 (things source.pieces) cores h.cored ∙ sym (places_length is)

-- what is written at a place of the table, and its core
pub record FoundAt (source : Source) (table : Table) (cores : List CoreMember) (i : ℕ) (place : MemberPlace) : Type 0 where
  pub part : Part
  pub core : CoreMember
  pub given : slice_get cores i ≡ Some core
  pub typed : TypedPlace table place part core
  pub before : List Piece
  pub one : Piece
  pub after : List Piece
  pub split : source.pieces ≡ before ++ one ∷ after
  pub at : ℕ
  pub number : i ≡ sum_by codes_in before + at
  pub written : slice_get (things_in one) at ≡ Some part
  pub stands : slice_get table.members (sum_by codes_in before + at) ≡ Some place

pub found_at : {source : Source} {table : Table} {cores : List CoreMember} → IsTableOf source table → HasCores source table cores → (i : ℕ) (place : MemberPlace)
    → slice_get table.members i ≡ Some place → FoundAt source table cores i place
found_at {source = source} {table = table} {cores = cores} is h i place e =
    let lt = slice_get_within table.members i place e in
    let l = places_length is in
    let c = cored_at table 0 (things source.pieces) cores h.cored i (omega (arith, lt, l)) in
    let z : 0 + i ≡ i = omega arith in
    let same : c.place ≡ place = same_one (slice_get table.members i) c.place place (ap (slice_get table.members) (sym z) ∙ c.stands) e in
    let f = flat_from things_in codes_in (λ p. inner_length p.form) source.pieces i c.part c.written in
    record {
      part = c.part;
      core = c.core;
      given = c.given;
      typed = subst (λ (p : MemberPlace). TypedPlace table p c.part c.core) same c.typed;
      before = f.before;
      one = f.one;
      after = f.after;
      split = f.split;
      at = f.at;
      number = f.place;
      written = f.stands;
      stands = ap (slice_get table.members) (sym f.place) ∙ e;
    }

-- what is written at this place of this piece has the place of the table behind those of the pieces before
pub part_is : {source : Source} {table : Table} {cores : List CoreMember} → HasCores source table cores → (before after : List Piece) (one : Piece) (at : ℕ) (part : Part) (place : MemberPlace)
    → source.pieces ≡ before ++ one ∷ after → slice_get (things_in one) at ≡ Some part
    → (f : FoundAt source table cores (sum_by codes_in before + at) place) → f.part ≡ part
part_is {source = source} h before after one at part place split w f =
    let here = flat_at things_in codes_in (λ p. inner_length p.form) before after one at part w in
    let there = flat_at things_in codes_in (λ p. inner_length p.form) f.before f.after f.one f.at f.part f.written in
    let i = sum_by codes_in before + at in
    same_one (slice_get (things source.pieces) i) f.part part
    (ap (λ ps. slice_get (things ps) i) f.split ∙ ap (slice_get (things (f.before ++ f.one ∷ f.after))) f.number ∙ there)
    (ap (λ ps. slice_get (things ps) i) split ∙ here)
