-- The tables of a source file: the one with the types that are written, and those in which more types are known.
use Rattle.std.specs.Prelude.{◌≡◌, ℕ, ◌≤◌, [], Some, None, map, slice_get}
use Rattle.std.proofs.Common.{refl, ap}
use Rattle.swift_ast.specs.declared.piece.Source.{Source}
use Rattle.swift_core.specs.declared.table.Declaration.{Declaration}
use Rattle.swift_core.specs.declared.table.EnvironmentKey.{EnvironmentKey}
use Rattle.swift_core.specs.declared.table.Signature.{Signature}
use Rattle.swift_core.specs.declared.table.SignatureForm.{SignatureForm}
use Rattle.swift_core.specs.declared.table.SignatureForm.TheVariants as form
use Rattle.swift_core.specs.declared.table.Table.{Table}
use Rattle.swift_core.specs.Programs.{size_of}
use Rattle.type_table.specs.Tables.{is_enabled, environment, preferences, table_of}
use Rattle.table_names.specs.Numbers.{Alike, alike_at}

-- ---- a table without the types that may still be found

abbrev pub bare_form : SignatureForm → SignatureForm
bare_form (form.Stored n b t a) = form.Stored n b None a
bare_form (form.State n t a) = form.State n None a
bare_form (form.Static t) = form.Static None
bare_form f = f

abbrev pub bare_signature : Signature → Signature
bare_signature s = record { name = s.name; code = s.code; form = bare_form s.form }

abbrev pub bare_declaration : Declaration → Declaration
bare_declaration d = record { name = d.name; kind = d.kind; is_main = d.is_main; members = map bare_signature d.members; names = d.names }

abbrev pub bare_key : EnvironmentKey → EnvironmentKey
bare_key k = record { name = k.name; ty = None; default = k.default }

abbrev pub bare_table : Table → Table
bare_table t = record {
  declarations = map bare_declaration t.declarations;
  environment = map bare_key t.environment;
  preferences = [];
  members = t.members;
  names = t.names;
  keys = t.keys;
}

-- ---- tables of a source file

-- A table of the source file has its declarations, members, keys, codes, places and names, and may know more types of
-- properties and keys than are written. Its preference keys are those of its declarations, and key 0 is `isEnabled`.
pub record IsTableOf (source : Source) (table : Table) : Type 0 where
  pub bare : bare_table table ≡ bare_table (table_of source)
  pub preferred : table.preferences ≡ preferences table.declarations
  pub enabled : slice_get table.environment 0 ≡ Some is_enabled

-- declarations, members and keys are few
abbrev pub IsSmall : Table → Type 0
IsSmall table = size_of table ≤ 1048576

-- The table with the types that are written is one of them.
abbrev pub WrittenIs : Type 0
WrittenIs = (source : Source) → IsTableOf source (table_of source)

pub written_is : WrittenIs
unfolding table_of environment
written_is source = record { bare = refl; preferred = refl; enabled = refl }

-- ---- what stands in a table of a source file

module _ {source : Source} {table : Table} (is : IsTableOf source table) where
  pub same_declarations : map bare_declaration table.declarations ≡ map bare_declaration (table_of source).declarations
  same_declarations = ap (λ (t : Table). t.declarations) is.bare

  pub same_environment : map bare_key table.environment ≡ map bare_key (table_of source).environment
  same_environment = ap (λ (t : Table). t.environment) is.bare

  pub same_members : table.members ≡ (table_of source).members
  same_members = ap (λ (t : Table). t.members) is.bare

  pub same_names : table.names ≡ (table_of source).names
  same_names = ap (λ (t : Table). t.names) is.bare

  pub same_keys : table.keys ≡ (table_of source).keys
  same_keys = ap (λ (t : Table). t.keys) is.bare

  -- each declaration is that of the source file, but for its types
  pub declaration_alike : (d : ℕ) (declaration : Declaration) → slice_get table.declarations d ≡ Some declaration → Alike bare_declaration (table_of source).declarations d declaration
  declaration_alike d declaration e = alike_at bare_declaration table.declarations (table_of source).declarations d declaration same_declarations e

  pub key_alike : (k : ℕ) (key : EnvironmentKey) → slice_get table.environment k ≡ Some key → Alike bare_key (table_of source).environment k key
  key_alike k key e = alike_at bare_key table.environment (table_of source).environment k key same_environment e

-- each member of a declaration that is the same but for its types
pub signature_alike : (x y : Declaration) (at : ℕ) (s : Signature) → bare_declaration x ≡ bare_declaration y → slice_get x.members at ≡ Some s → Alike bare_signature y.members at s
signature_alike x y at s e h = alike_at bare_signature x.members y.members at s (ap (λ (d : Declaration). d.members) e) h
