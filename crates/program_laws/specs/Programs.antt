-- Every program that a file spells is a program.
use Rattle.std.specs.Prelude.{◌≡◌, ℕ, suc, ◌+◌, ◌*◌, ◌≤◌, Bool, true, false, List, [], ◌∷◌, length, if◌then◌else◌}
use Rattle.std.specs.List.{sum_by, count_by}
use Rattle.std.proofs.Common.{refl, sym, ap, subst, ◌∙◌, cond, arith}
use Rattle.std.proofs.lemmas.List.Sums.{sum_by-cons}
use Rattle.std.proofs.lemmas.Option.{slice_get_within}
use Rattle.swift_ast.specs.declared.piece.Piece.{Piece}
use Rattle.swift_ast.specs.declared.piece.Source.{Source}
use Rattle.swift_core.specs.Programs.{IsProgram}
use Rattle.swift_core.specs.declared.code.CoreMember.{CoreMember}
use Rattle.swift_core.specs.declared.table.Table.{Table}
use Rattle.type_table.specs.Heads.{declares}
use Rattle.type_table.specs.Tables.{codes_in}
use Rattle.source_parts.specs.Parts.{inner_parts, parts_of}
use Rattle.source_sizes.specs.Sizes.{weights, DeclarationsAreFew, TokensAreFew}
use Rattle.verdict_rules.specs.declared.program.Program.{Program}
use Rattle.verdict_rules.specs.Verdict.{table_for, carries_main, SpellsProgram}
use Rattle.table_names.specs.Tables.{IsTableOf, IsSmall}
use Rattle.table_fits.specs.Fills.{completed_is}
use Rattle.table_fits.specs.Fitting.{completed_fits}
use Rattle.table_depths.specs.Shallow.{FoundOfValues, structs_shallow}
use Rattle.part_rules.specs.Typed.{Typed}
use Rattle.part_laws.specs.Things.{inner_length}
use Rattle.part_laws.specs.Found.{has_cores, declarations_fit}
use Rattle.part_laws.specs.Nils.{nils_typed}
use Rattle.part_laws.specs.Members.{MembersTyped, DefaultsTyped}
use Rattle.part_laws.specs.Sizes.{Passes, any_passes, declarations_length, size_few}
use Rattle.part_laws.specs.Programs.{IsSound, is_program}
use Rattle.program_laws.specs.Signs.{types_signed}
use Rattle.program_laws.specs.Spelt.{spelt_by}

-- ---- sizes

one_more : (b : Bool) (n c k w : ℕ) → w ≡ 4 * c + k → (if b then 4 else 0) + n + w ≡ 4 * (cond b 1 0 + c) + (n + k)
one_more true n c k w e = omega (arith, e)
one_more false n c k w e = omega (arith, e)

-- four for each declaration, and one for each member, case and key
weights_are : (ps : List Piece) → weights ps ≡ 4 * count_by declares ps + sum_by codes_in ps
weights_are [] = refl
weights_are (p ∷ ps) =
    let c : count_by declares (p ∷ ps) ≡ cond (declares p) 1 0 + count_by declares ps = sum_by-cons (λ (x : Piece). cond (declares x) 1 0) p ps in
    let d : sum_by codes_in (p ∷ ps) ≡ length (inner_parts p.form) + sum_by codes_in ps =
    sum_by-cons codes_in p ps ∙ ap (λ n. n + sum_by codes_in ps) (sym (inner_length p.form)) in
    one_more (declares p) (length (inner_parts p.form)) (count_by declares ps) (sum_by codes_in ps) (weights ps) (weights_are ps)
    ∙ (λ i. 4 * sym c i + sym d i)

-- a file of a MiB declares little
small_table : {source : Source} {table : Table} → IsTableOf source table → Passes carries_main table.declarations → (n : ℕ) → n ≤ 1048576 → weights source.pieces ≤ suc n → IsSmall table
small_table {source = source} {table = table} is main n le few =
    let w = weights_are source.pieces in
    let s = size_few is in
    let l = declarations_length is in
    let lt = slice_get_within table.declarations main.at main.one main.stands in
    omega (arith, le, few, w, s, l, lt)

-- ---- the law

-- A type that is found of an initial value is a type of values: data structs, enums, and what is made of them.
abbrev pub FoundAreOfValues : Type 0
FoundAreOfValues = (source : Source) (cores : List CoreMember) → IsSmall (table_for source) → Typed (table_for source) 0 (parts_of source) cores → FoundOfValues source

-- Every program that a file of at most 1 MiB spells is a program.
abbrev pub EveryProgramIsOne : Type 0
EveryProgramIsOne = (bytes : List ℕ) (p : Program) → length bytes ≤ 1048576 → SpellsProgram bytes p → IsProgram p.table p.members

-- where the rules of members type well, and find types of values alone
abbrev pub EveryProgram : Type 0
EveryProgram = MembersTyped → DefaultsTyped → FoundAreOfValues → EveryProgramIsOne

pub spelt_is : DeclarationsAreFew → TokensAreFew → EveryProgram
spelt_is declarations_few tokens_few members_typed defaults_typed found bytes p le spells =
    let s = spelt_by bytes p spells in
    let source = s.source in
    let table = table_for source in
    let cores = s.checked.cores in
    let is = completed_is source in
    let has = has_cores source table cores s.checked.typed in
    let main = any_passes carries_main table.declarations s.checked.main in
    let a = declarations_few s.ts source s.spelled.1 in
    let b = tokens_few bytes s.ts s.lexed in
    let small : IsSmall table = small_table is main (length bytes) le (omega (arith, a, b)) in
    let sound : IsSound source table cores = record {
      is = is;
      small = small;
      once = s.once;
      fit = declarations_fit source table cores s.checked.typed;
      has = has;
      fits = completed_fits source small (types_signed s.ts source s.spelled.1) (nils_typed is small has);
      main = (main.at, (main.one, main.stands, main.passes));
      shallow = structs_shallow source small (found source cores small s.checked.typed) s.shallow;
      no_writer = s.checked.no_writer;
    } in
    subst (λ (q : Program). IsProgram q.table q.members) (sym s.checked.is) (is_program members_typed defaults_typed source table cores sound)
