-- One level of having a type is having it.
use Rattle.std.specs.Prelude.{◌↔◌, IsTrue}
use Rattle.std.proofs.Common.{◌≡◌, ℕ, ◌<◌, Bool, List, Option, Some, None, slice_get, refl, sym, ap, subst, ◌∙◌, arith}
use Rattle.sv_value.specs.declared.value.Value.{Value, out-Value}
use Rattle.sv_value.specs.declared.value.Value.TheOpen.{Value-F}
use Rattle.swift_core.specs.declared.ty.Ty.{Ty, out-Ty}
use Rattle.swift_core.specs.declared.ty.Ty.TheOpen.{Ty-F}
use Rattle.swift_core.specs.declared.table.Declaration.{Declaration}
use Rattle.swift_core.specs.declared.table.Kind.{Kind}
use Rattle.swift_core.specs.declared.table.Kind.TheVariants as kind
use Rattle.swift_core.specs.declared.table.Table.{Table}
use Rattle.swift_core.specs.Values.{HasValue, HasValueAt}
use Rattle.value_tests.specs.Layers.{LayerHas, FieldsIn, data_in, data_at, cases_in, cases_at}

made_by : (table : Table) (number : ℕ) (values : List Value) (x : Declaration) (k : Kind) → slice_get table.declarations number ≡ Some x → x.kind ≡ k
    → FieldsIn table (data_in x k) values → HasValueAt table (Ty-F.Named number) (Value-F.Struct number values)
made_by table number values x (kind.Data b) e is h = HasValueAt.made e is h
made_by table number values x (kind.Enum b n) e is h = absurd h
made_by table number values x kind.View e is h = absurd h
made_by table number values x kind.App e is h = absurd h
made_by table number values x (kind.Key n) e is h = absurd h

made_in : (table : Table) (number : ℕ) (values : List Value) (o : Option Declaration) → slice_get table.declarations number ≡ o
    → FieldsIn table (data_at o) values → HasValueAt table (Ty-F.Named number) (Value-F.Struct number values)
made_in table number values None e h = absurd h
made_in table number values (Some x) e h = made_by table number values x x.kind e refl h

case_by : (table : Table) (number place : ℕ) (x : Declaration) (k : Kind) → slice_get table.declarations number ≡ Some x → x.kind ≡ k
    → place < cases_in k → HasValueAt table (Ty-F.Named number) (Value-F.Case number place)
case_by table number place x (kind.Data b) e is h = absurd (omega (arith, h))
case_by table number place x (kind.Enum b n) e is h = HasValueAt.case e is h
case_by table number place x kind.View e is h = absurd (omega (arith, h))
case_by table number place x kind.App e is h = absurd (omega (arith, h))
case_by table number place x (kind.Key n) e is h = absurd (omega (arith, h))

case_in : (table : Table) (number place : ℕ) (o : Option Declaration) → slice_get table.declarations number ≡ o
    → place < cases_at o → HasValueAt table (Ty-F.Named number) (Value-F.Case number place)
case_in table number place None e h = absurd (omega (arith, h))
case_in table number place (Some x) e h = case_by table number place x x.kind e refl h

pub to_level : (table : Table) (t : Ty-F Ty) (v : Value-F Value) → HasValueAt table t v → LayerHas table t v
to_level table t v HasValueAt.number = tt
to_level table t v HasValueAt.truth = tt
to_level table t v HasValueAt.text = tt
to_level table t v (HasValueAt.list hs) = hs
to_level table t v (HasValueAt.nothing u) = tt
to_level table t v (HasValueAt.filled h) = h
to_level table t v (HasValueAt.made {declaration = x} {vs = vs} e is h) = (refl, subst (λ (o : Option Declaration). FieldsIn table o vs) (sym (ap data_at e ∙ ap (data_in x) is)) h)
to_level table t v (HasValueAt.case {place = place} e is h) = (refl, subst (λ (n : ℕ). place < n) (sym (ap cases_at e ∙ ap cases_in is)) h)

pub of_level : (table : Table) (t : Ty-F Ty) (v : Value-F Value) → LayerHas table t v → HasValueAt table t v
of_level table Ty-F.Int (Value-F.Int n) h = HasValueAt.number
of_level table Ty-F.Bool (Value-F.Bool b) h = HasValueAt.truth
of_level table Ty-F.Text (Value-F.Str w) h = HasValueAt.text
of_level table (Ty-F.List t) (Value-F.List values) h = HasValueAt.list h
of_level table (Ty-F.Optional t) (Value-F.Opt None) h = HasValueAt.nothing t
of_level table (Ty-F.Optional t) (Value-F.Opt (Some v)) h = HasValueAt.filled h
of_level table (Ty-F.Named named) (Value-F.Struct number values) h =
    subst (λ (d : ℕ). HasValueAt table (Ty-F.Named d) (Value-F.Struct number values)) (sym h.0) (made_in table number values (slice_get table.declarations number) refl h.1)
of_level table (Ty-F.Named named) (Value-F.Case number place) h =
    subst (λ (d : ℕ). HasValueAt table (Ty-F.Named d) (Value-F.Case number place)) (sym h.0) (case_in table number place (slice_get table.declarations number) refl h.1)
of_level table t v h = absurd h

pub level : (table : Table) (t : Ty) (v : Value) (b : Bool) → IsTrue b ↔ LayerHas table (out-Ty t) (out-Value v) → IsTrue b ↔ HasValue table t v
level table t v b h = (λ is. of_level table (out-Ty t) (out-Value v) (h.0 is), λ has. h.1 (to_level table (out-Ty t) (out-Value v) has))

-- a filled optional
pub filled_level : (table : Table) (t u : Ty) (v w : Value) (b : Bool) → out-Ty t ≡ Ty-F.Optional u → out-Value v ≡ Value-F.Opt (Some w) → IsTrue b ↔ LayerHas table (out-Ty u) (out-Value w)
    → IsTrue b ↔ LayerHas table (out-Ty t) (out-Value v)
filled_level table t u v w b e f h =
    subst (λ (x : Ty-F Ty). IsTrue b ↔ LayerHas table x (out-Value v)) (sym e)
    (subst (λ (y : Value-F Value). IsTrue b ↔ LayerHas table (Ty-F.Optional u) y) (sym f) (level table u w b h))
