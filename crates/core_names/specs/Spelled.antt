-- The names that values and paths of a program are printed with.
use Rattle.std.specs.Prelude.{ℕ, Bool, true, false, List, [], ◌∷◌, map, if◌then◌else◌}
use Rattle.std.specs.List.{flat_map}
use Rattle.std.specs.Str.Lossy.{utf8_lossy}
use Rattle.core_names.specs.declared.kind.NameKind.{NameKind}
use Rattle.core_names.specs.declared.kind.NameKind.TheVariants as name_kind
use Rattle.sv_value.specs.declared.names.Names.{Names}
use Rattle.swift_core.specs.declared.table.Declaration.{Declaration}
use Rattle.swift_core.specs.declared.table.Signature.{Signature}
use Rattle.swift_core.specs.declared.table.SignatureForm.{SignatureForm}
use Rattle.swift_core.specs.declared.table.SignatureForm.TheVariants as form
use Rattle.swift_core.specs.declared.table.Table.{Table}

-- a stored property is a field, a case is a case, and a state slot is a slot
abbrev pub is_of : NameKind → SignatureForm → Bool
is_of name_kind.Field (form.Stored n binder ty argument) = true
is_of name_kind.Case (form.Case n) = true
is_of name_kind.Slot (form.State n ty argument) = true
is_of kind other = false

-- the name of a member that is of the kind
abbrev pub name_if : NameKind → Signature → List (List ℕ)
name_if kind s = if is_of kind s.form then utf8_lossy s.name ∷ [] else []

-- the names of the members of a kind, in order
abbrev pub names_in : NameKind → List Signature → List (List ℕ)
names_in kind = flat_map (name_if kind)

-- By the number of the declaration: its name, and the names of its fields, its cases and its slots, in order. A name that is no
-- UTF-8 has U+FFFD for what is not.
abbrev pub names_of : Table → Names
names_of table = record {
  views = map (λ (d : Declaration). utf8_lossy d.name) table.declarations;
  kinds = map (λ (d : Declaration). utf8_lossy d.name) table.declarations;
  fields = map (λ (d : Declaration). names_in name_kind.Field d.members) table.declarations;
  cases = map (λ (d : Declaration). names_in name_kind.Case d.members) table.declarations;
  slots = map (λ (d : Declaration). names_in name_kind.Slot d.members) table.declarations;
}
