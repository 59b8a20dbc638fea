-- The names of a table, of their parts.
use Rattle.std.proofs.Common.{◌≡◌, List, map, ap, ◌∙◌}
use Rattle.std.specs.Str.Lossy.{utf8_lossy}
use Rattle.sv_value.specs.declared.names.Names.{Names}
use Rattle.swift_core.specs.declared.table.Declaration.{Declaration}
use Rattle.swift_core.specs.declared.table.Table.{Table}
use Rattle.core_names.specs.declared.kind.NameKind.TheVariants as name_kind
use Rattle.core_names.specs.Spelled.{names_in, names_of}

pub names_made : (table : Table) (ds : List Declaration) (n : Names) → ds ≡ table.declarations →
    n.views ≡ map (λ (d : Declaration). utf8_lossy d.name) ds → n.kinds ≡ map (λ (d : Declaration). utf8_lossy d.name) ds →
    n.fields ≡ map (λ (d : Declaration). names_in name_kind.Field d.members) ds → n.cases ≡ map (λ (d : Declaration). names_in name_kind.Case d.members) ds →
    n.slots ≡ map (λ (d : Declaration). names_in name_kind.Slot d.members) ds → n ≡ names_of table
names_made table ds n e v k f c s = λ i. record {
  views = (v ∙ ap (map (λ (d : Declaration). utf8_lossy d.name)) e) i;
  kinds = (k ∙ ap (map (λ (d : Declaration). utf8_lossy d.name)) e) i;
  fields = (f ∙ ap (map (λ (d : Declaration). names_in name_kind.Field d.members)) e) i;
  cases = (c ∙ ap (map (λ (d : Declaration). names_in name_kind.Case d.members)) e) i;
  slots = (s ∙ ap (map (λ (d : Declaration). names_in name_kind.Slot d.members)) e) i;
}
