-- A table of a source file, with the cores of its parts, is that of a program.
use Rattle.std.specs.Prelude.{◌≡◌, ℕ, suc, Bool, true, List, [], ◌∷◌, Some, None, slice_get}
use Rattle.std.proofs.Common.{refl, sym, ap, subst}
use Rattle.sv_value.specs.declared.value.Value.{Value, out-Value}
use Rattle.sv_value.specs.declared.value.Value.TheOpen.{Value-F}
use Rattle.sv_value.specs.declared.value.Value.TheVariants as value
use Rattle.sv_value.specs.declared.value.Value.TheViews as value_view
use Rattle.swift_ast.specs.declared.piece.Source.{Source}
use Rattle.swift_core.specs.Context.{Context, Itself}
use Rattle.swift_core.specs.Programs.{IsWithin, IsProgram, IsApp}
use Rattle.swift_core.specs.Typing.{Has, CoreForm, FitsKey, IsMain}
use Rattle.swift_core.specs.Values.{HasValue, HasValueAt}
use Rattle.swift_core.specs.declared.code.CodeForm.TheVariants as code
use Rattle.swift_core.specs.declared.code.CoreMember.{CoreMember}
use Rattle.swift_core.specs.declared.table.Declaration.{Declaration}
use Rattle.swift_core.specs.declared.table.Kind.TheVariants as kind
use Rattle.swift_core.specs.declared.table.Table.{Table}
use Rattle.swift_core.specs.declared.term.ChangeCall.TheOpen.{Core-F}
use Rattle.swift_core.specs.declared.term.ChangeCall.TheViews.{outs-Literal}
use Rattle.swift_core.specs.declared.term.Core.{Core, out-Core}
use Rattle.swift_core.specs.declared.term.Core.TheVariants as core
use Rattle.swift_core.specs.declared.ty.Ty.{Ty}
use Rattle.swift_core.specs.declared.ty.Ty.TheOpen.{Ty-F}
use Rattle.swift_core.specs.declared.ty.Ty.TheVariants as ty
use Rattle.swift_core.specs.declared.ty.Ty.TheViews as ty_view
use Rattle.type_base.specs.Claims.{some_is}
use Rattle.type_table.specs.Tables.{is_enabled}
use Rattle.type_twice.specs.Twice as twice
use Rattle.member_rules.specs.Shapes.{code_of, of_value}
use Rattle.source_parts.specs.Parts.{parts_of}
use Rattle.part_rules.specs.Writers.{NoWriter, member_lines}
use Rattle.expr_cores.specs.Contexts.{Fits}
use Rattle.table_names.specs.Names.{declarations_found, members_found, keys_found}
use Rattle.table_names.specs.Codes.{codes_stand, defaults_stand, enabled_is_bool}
use Rattle.table_places.specs.Places.{places_stand, cases_counted}
use Rattle.table_places.specs.Preferences.{AllFit, keys_placed, preferences_stand}
use Rattle.table_places.specs.Apps.{main_is_the_app}
use Rattle.table_places.specs.Bodies.{bodies_stand}
use Rattle.table_names.specs.Tables.{IsTableOf, IsSmall}
use Rattle.part_laws.specs.Found.{HasCores, cores_length}
use Rattle.part_laws.specs.Named.{declaration_named, member_named, key_named}
use Rattle.part_laws.specs.Members.{MembersTyped, DefaultsTyped, all_typed}
use Rattle.part_laws.specs.Writers.{no_writer_pure}

-- ---- the default of the built-in key

abbrev pub enabled_value : Core
enabled_value = core.Literal (value.Bool true)

abbrev pub enabled_member : CoreMember
enabled_member = of_value enabled_value

true_value : (table : Table) → HasValue table ty.Bool (value.Bool true)
true_value table =
    subst (λ (t : Ty-F Ty). HasValueAt table t (out-Value (value.Bool true))) (sym ty_view.outs-Bool)
    (subst (λ (v : Value-F Value). HasValueAt table Ty-F.Bool v) (sym (value_view.outs-Bool true)) HasValueAt.truth)

true_typed : (cx : Context) → Has cx [] (out-Core enabled_value) ty.Bool
true_typed cx = subst (λ (c : CoreForm). Has cx [] c ty.Bool) (sym (outs-Literal (value.Bool true))) (Has.literal (true_value cx.table))

main_value : IsMain enabled_member [] (code.Value enabled_value)
main_value = IsMain.main {c = code_of [] (code.Value enabled_value)} refl refl refl refl refl

enabled_fits : (table : Table) → slice_get table.environment 0 ≡ Some is_enabled → FitsKey table 0 enabled_member
enabled_fits table e = FitsKey.default_value e refl main_value (true_typed (record { table = table; owner = None; itself = Itself.no_self; blocks = [] }))

-- the default of key 0 is `true`
abbrev pub IsTrue : CoreMember → Type 0
IsTrue m = (c : Core) × IsMain m [] (code.Value c) × ((v : Value) × (out-Core c ≡ Core-F.Literal v) × (out-Value v ≡ Value-F.Bool true))

enabled_true : IsTrue enabled_member
enabled_true = (enabled_value, main_value, (value.Bool true, outs-Literal (value.Bool true), value_view.outs-Bool true))

first_is : (cores : List CoreMember) (m : CoreMember) → slice_get (enabled_member ∷ cores) 0 ≡ Some m → enabled_member ≡ m
first_is cores m e = some_is enabled_member m e

-- ---- the whole

-- what is known of a source file and its table, beside what the table laws say
pub record IsSound (source : Source) (table : Table) (cores : List CoreMember) : Type 0 where
  pub is : IsTableOf source table
  pub small : IsSmall table
  pub once : twice.twice source ≡ None
  pub fit : AllFit source
  pub has : HasCores source table cores
  pub fits : Fits table
  pub main : (d : ℕ) × ((declaration : Declaration) × (slice_get table.declarations d ≡ Some declaration) × (declaration.is_main ≡ true))
  pub shallow : (d : ℕ) (declaration : Declaration) (b : Bool) → slice_get table.declarations d ≡ Some declaration → declaration.kind ≡ kind.Data b → IsWithin table 64 (Ty-F.Named d)
  pub no_writer : NoWriter table (enabled_member ∷ cores) (member_lines (parts_of source))

main_app : (source : Source) (table : Table) (cores : List CoreMember) → IsSound source table cores → (d : ℕ) × IsApp table d
main_app source table cores s = (s.main.0, main_is_the_app source table s.is s.once s.fit s.main.0 s.main.1.0 s.main.1.1 s.main.1.2)

-- Where the rules of members type well, a table with the cores of its parts is that of a program.
abbrev pub SoundIsProgram : Type 0
SoundIsProgram = MembersTyped → DefaultsTyped → (source : Source) (table : Table) (cores : List CoreMember) → IsSound source table cores → IsProgram table (enabled_member ∷ cores)

pub is_program : SoundIsProgram
is_program members_typed defaults_typed source table cores s = record {
  complete = ap suc (cores_length s.is s.has);
  built_in_typed = λ m e. subst (FitsKey table 0) (first_is cores m e) (enabled_fits table s.is.enabled);
  typed = λ i place m e h. all_typed members_typed defaults_typed s.is s.small s.has s.fits i place m e h;
  enabled = enabled_is_bool source table s.is;
  enabled_default = λ m e. subst IsTrue (first_is cores m e) enabled_true;
  size = s.small;
  app = main_app source table cores s;
  declaration_names = λ d declaration e. declarations_found source table s.is s.small s.once d declaration e (declaration_named s.is s.fit d declaration e);
  member_names = λ d declaration at m e h. members_found source table s.is s.small s.once d declaration at m e h (member_named s.is s.small s.has d declaration at m e h);
  key_names = λ k key e. keys_found source table s.is s.small s.once k key e (key_named s.is s.small s.has k key e);
  codes = codes_stand source table s.is s.small;
  key_codes = defaults_stand source table s.is s.small;
  places = places_stand source table s.is s.small;
  cases = cases_counted source table s.is s.small;
  preferences = preferences_stand source table s.is s.small s.fit;
  keys = keys_placed source table s.is s.small;
  bodies = bodies_stand source table s.is s.fit;
  shallow = s.shallow;
  pure = no_writer_pure (enabled_member ∷ cores) s.is s.small s.no_writer;
}
