-- How many declarations, members and keys a table has, by what is written.
use Rattle.std.specs.Prelude.{◌≡◌, ℕ, suc, ◌+◌, ◌≤◌, Bool, true, false, ◌||◌, List, [], ◌∷◌, Option, Some, None, length, map, sum, slice_get}
use Rattle.std.specs.List.{sum_by, count_by, list_any}
use Rattle.std.proofs.Common.{refl, ap, ◌∙◌, arith}
use Rattle.std.proofs.lemmas.List.{length-map}
use Rattle.swift_ast.specs.declared.piece.Source.{Source}
use Rattle.swift_core.specs.Programs.{size_of}
use Rattle.swift_core.specs.declared.table.Declaration.{Declaration}
use Rattle.swift_core.specs.declared.table.Table.{Table}
use Rattle.type_table.specs.Along.{along}
use Rattle.type_table.specs.Heads.{declares, heads_table}
use Rattle.type_table.specs.Tables.{codes_in, declarations, preference_of, preferences, table_of}
use Rattle.table_names.specs.Numbers.{numbers, alike_length, alike_map}
use Rattle.table_names.specs.Pieces.{members_in, length_declarations, places_counted}
use Rattle.table_names.specs.Codes.{members_counted}
use Rattle.table_places.specs.Preferences.{key_of, preferences_length}
use Rattle.table_names.specs.Tables.{IsTableOf, bare_declaration, bare_signature, bare_key, same_declarations, same_environment, same_members}

-- the test passes at an element
pub record Passes {X : Type 0} (test : X → Bool) (xs : List X) : Type 0 where
  pub at : ℕ
  pub one : X
  pub stands : slice_get xs at ≡ Some one
  pub passes : test one ≡ true

pub any_passes : {X : Type 0} (test : X → Bool) (xs : List X) → list_any test xs ≡ true → Passes test xs
any_passes test [] e = cc
any_passes {X = X} test (x ∷ xs) e = by (test x) refl e (any_passes test xs)
  where
    by : (b : Bool) → test x ≡ b → (b || list_any test xs) ≡ true → (list_any test xs ≡ true → Passes test xs) → Passes test (x ∷ xs)
    by true h e more = record { at = 0; one = x; stands = refl; passes = h }
    by false h e more = let r = more e in record { at = suc r.at; one = r.one; stands = r.stands; passes = r.passes }

numbers_few : (ns : List (Option ℕ)) → numbers ns ≤ length ns
numbers_few [] = omega arith
numbers_few (None ∷ ns) = let h = numbers_few ns in omega (arith, h)
numbers_few (Some n ∷ ns) = let h = numbers_few ns in omega (arith, h)

-- there are as many declarations as pieces that declare
pub declarations_length : {source : Source} {table : Table} → IsTableOf source table → length table.declarations ≡ count_by declares source.pieces
unfolding table_of declarations
declarations_length {source = source} {table = table} is =
    alike_length bare_declaration table.declarations (table_of source).declarations (same_declarations is) ∙ length_declarations (heads_table source.pieces) source.pieces

-- each declaration is a preference key at most
preferences_few : {source : Source} {table : Table} → IsTableOf source table → length table.preferences ≤ length table.declarations
unfolding preferences
preferences_few {source = source} {table = table} is =
    let a : length table.preferences ≡ length (along preference_of table.declarations) = ap length is.preferred in
    let b = preferences_length table.declarations in
    let c = numbers_few (map key_of table.declarations) in
    let d = length-map table.declarations key_of in
    omega (arith, a, b, c, d)

-- two for each declaration, one for each member, case and key, and one for the key that is built in
pub size_few : {source : Source} {table : Table} → IsTableOf source table
    → size_of table ≤ suc (count_by declares source.pieces + count_by declares source.pieces + sum_by codes_in source.pieces)
size_few {source = source} {table = table} is =
    let a = places_counted source in
    let m = members_counted source table is in
    let b : length table.members ≡ length (table_of source).members = ap length (same_members is) in
    let c : sum (map members_in table.declarations) ≡ sum (map members_in (table_of source).declarations) =
    ap sum (alike_map bare_declaration members_in (λ x y e. alike_length bare_signature x.members y.members (ap (λ (d : Declaration). d.members) e)) table.declarations (table_of source).declarations (same_declarations is)) in
    let d : length table.environment ≡ length (table_of source).environment = alike_length bare_key table.environment (table_of source).environment (same_environment is) in
    let n = declarations_length is in
    let p = preferences_few is in
    omega (arith, a, m, b, c, d, n, p)
