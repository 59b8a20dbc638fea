-- The form of the values of each type, and the types of the values that are made of nothing else.
use Rattle.std.specs.Prelude.{◌≡◌, ℕ, ℤ, Bool, List, Option, Some, None, IfSome}
use Rattle.std.proofs.Common.{refl, sym, ap, subst}
use Rattle.sv_value.specs.declared.hop.Hop.TheVariants as hop
use Rattle.sv_value.specs.declared.value.Value.{Value, out-Value}
use Rattle.sv_value.specs.declared.value.Value.TheOpen.{Value-F}
use Rattle.sv_value.specs.declared.value.Value.TheVariants as whole
use Rattle.sv_value.specs.declared.value.Value.TheViews as value_view
use Rattle.swift_core.specs.declared.table.Table.{Table}
use Rattle.swift_core.specs.declared.ty.Ty.{Ty, out-Ty}
use Rattle.swift_core.specs.declared.ty.Ty.TheOpen.{Ty-F}
use Rattle.swift_core.specs.declared.ty.Ty.TheVariants as ty
use Rattle.swift_core.specs.declared.ty.Ty.TheViews as ty_view
use Rattle.swift_core.specs.Types.{inside_at, element_at, named_at}
use Rattle.swift_core.specs.Values.{HasValue, HasValueAt, AllHaveValue}
use Rattle.core_means.specs.Means.{truth, truth_at, inside, inside_at as part_inside_at, parts, parts_at, index_of, index_at}

-- ---- types by their parts

pub is_optional : (a : Ty-F Ty) (t : Ty) → inside_at a ≡ Some t → a ≡ Ty-F.Optional t
is_optional (Ty-F.Optional u) t e = let same : u ≡ t = cc in ap Ty-F.Optional same
is_optional _ t e = cc

pub is_list : (a : Ty-F Ty) (t : Ty) → element_at a ≡ Some t → a ≡ Ty-F.List t
is_list (Ty-F.List u) t e = let same : u ≡ t = cc in ap Ty-F.List same
is_list _ t e = cc

pub is_named : (a : Ty-F Ty) (d : ℕ) → named_at a ≡ Some d → a ≡ Ty-F.Named d
is_named (Ty-F.Named k) d e = let same : k ≡ d = cc in ap Ty-F.Named same
is_named _ d e = cc

-- ---- values that are made of nothing else

-- a value has its type by their levels
pub has_value : {a : Ty-F Ty} {w : Value-F Value} (table : Table) (t : Ty) (v : Value) → out-Ty t ≡ a → out-Value v ≡ w → HasValueAt table a w → HasValue table t v
has_value {a = a} table t v e f h = subst (λ (x : Ty-F Ty). HasValueAt table x (out-Value v)) (sym e) (subst (λ (y : Value-F Value). HasValueAt table a y) (sym f) h)

pub truth_value : (table : Table) (b : Bool) → HasValue table ty.Bool (whole.Bool b)
truth_value table b = has_value table _ _ ty_view.outs-Bool (value_view.outs-Bool b) HasValueAt.truth

pub number_value : (table : Table) (n : ℤ) → HasValue table ty.Int (whole.Int n)
number_value table n = has_value table _ _ ty_view.outs-Int (value_view.outs-Int n) HasValueAt.number

pub text_value : (table : Table) (w : List ℕ) → HasValue table ty.Text (whole.Str w)
text_value table w = has_value table _ _ ty_view.outs-Text (value_view.outs-Str w) HasValueAt.text

pub list_value : (table : Table) (l t : Ty) (vs : List Value) → element_at (out-Ty l) ≡ Some t → AllHaveValue table t vs → HasValue table l (whole.List vs)
list_value table l t vs e h = has_value table l _ (is_list (out-Ty l) t e) (value_view.outs-List vs) (HasValueAt.list h)

pub nil_value : (table : Table) (o t : Ty) → inside_at (out-Ty o) ≡ Some t → HasValue table o (whole.Opt None)
nil_value table o t e = has_value table o _ (is_optional (out-Ty o) t e) (value_view.outs-Opt None) (HasValueAt.nothing t)

pub filled_value : (table : Table) (o t : Ty) (v : Value) → inside_at (out-Ty o) ≡ Some t → HasValue table t v → HasValue table o (whole.Opt (Some v))
filled_value table o t v e h = has_value table o _ (is_optional (out-Ty o) t e) (value_view.outs-Opt (Some v)) (HasValueAt.filled h)

-- A truth value, a number, a string and nil have their types, and a value is one of an optional of its type.
pub record Plain (table : Table) : Type 0 where
  pub truths : (b : Bool) → HasValue table ty.Bool (whole.Bool b)
  pub numbers : (n : ℤ) → HasValue table ty.Int (whole.Int n)
  pub texts : (w : List ℕ) → HasValue table ty.Text (whole.Str w)
  pub nils : (o t : Ty) → inside_at (out-Ty o) ≡ Some t → HasValue table o (whole.Opt None)
  pub filled : (o t : Ty) (v : Value) → inside_at (out-Ty o) ≡ Some t → HasValue table t v → HasValue table o (whole.Opt (Some v))

abbrev pub PlainValuesFit : Type 0
PlainValuesFit = (table : Table) → Plain table

pub plain_values_fit : PlainValuesFit
plain_values_fit table = record { truths = truth_value table; numbers = number_value table; texts = text_value table; nils = nil_value table; filled = filled_value table }

-- ---- forms of values

pub truth_layer : (table : Table) (w : Value-F Value) → HasValueAt table Ty-F.Bool w → (b : Bool) × (w ≡ Value-F.Bool b)
truth_layer table w (HasValueAt.truth {b = b}) = (b, refl)

pub number_layer : (table : Table) (w : Value-F Value) → HasValueAt table Ty-F.Int w → (n : ℤ) × (w ≡ Value-F.Int n)
number_layer table w (HasValueAt.number {n = n}) = (n, refl)

pub text_layer : (table : Table) (w : Value-F Value) → HasValueAt table Ty-F.Text w → (x : List ℕ) × (w ≡ Value-F.Str x)
text_layer table w (HasValueAt.text {w = x}) = (x, refl)

pub list_layer : (table : Table) (t : Ty) (w : Value-F Value) → HasValueAt table (Ty-F.List t) w → (vs : List Value) × (w ≡ Value-F.List vs) × AllHaveValue table t vs
list_layer table t w (HasValueAt.list {vs = vs} h) = (vs, refl, h)

pub optional_layer : (table : Table) (t : Ty) (w : Value-F Value) → HasValueAt table (Ty-F.Optional t) w → (part : Option Value) × (w ≡ Value-F.Opt part) × IfSome part (HasValue table t)
optional_layer table t w (HasValueAt.nothing u) = (None, refl, tt)
optional_layer table t w (HasValueAt.filled {v = v} h) = (Some v, refl, h)

pub truth_form : (table : Table) (v : Value) → HasValue table ty.Bool v → (b : Bool) × (out-Value v ≡ Value-F.Bool b)
truth_form table v h = truth_layer table (out-Value v) (subst (λ (x : Ty-F Ty). HasValueAt table x (out-Value v)) ty_view.outs-Bool h)

pub number_form : (table : Table) (v : Value) → HasValue table ty.Int v → (n : ℤ) × (out-Value v ≡ Value-F.Int n)
number_form table v h = number_layer table (out-Value v) (subst (λ (x : Ty-F Ty). HasValueAt table x (out-Value v)) ty_view.outs-Int h)

pub text_form : (table : Table) (v : Value) → HasValue table ty.Text v → (x : List ℕ) × (out-Value v ≡ Value-F.Str x)
text_form table v h = text_layer table (out-Value v) (subst (λ (x : Ty-F Ty). HasValueAt table x (out-Value v)) ty_view.outs-Text h)

pub list_form : (table : Table) (l t : Ty) (v : Value) → element_at (out-Ty l) ≡ Some t → HasValue table l v → (vs : List Value) × (out-Value v ≡ Value-F.List vs) × AllHaveValue table t vs
list_form table l t v e h = list_layer table t (out-Value v) (subst (λ (x : Ty-F Ty). HasValueAt table x (out-Value v)) (is_list (out-Ty l) t e) h)

pub optional_form : (table : Table) (o t : Ty) (v : Value) → inside_at (out-Ty o) ≡ Some t → HasValue table o v → (part : Option Value) × (out-Value v ≡ Value-F.Opt part) × IfSome part (HasValue table t)
optional_form table o t v e h = optional_layer table t (out-Value v) (subst (λ (x : Ty-F Ty). HasValueAt table x (out-Value v)) (is_optional (out-Ty o) t e) h)

-- A value of the type of truth values is one.
abbrev pub TruthsAre : Type 0
TruthsAre = (table : Table) (v : Value) → HasValue table ty.Bool v → (b : Bool) × (truth v ≡ Some b)

pub truths_are : TruthsAre
unfolding truth
truths_are table v h = let f = truth_form table v h in (f.0, ap truth_at f.1)

-- A value of the type of numbers is an index of a list.
abbrev pub IndexesAre : Type 0
IndexesAre = (table : Table) (v : Value) → HasValue table ty.Int v → (n : ℤ) × (index_of v ≡ Some (hop.Index n))

pub indexes_are : IndexesAre
unfolding index_of
indexes_are table v h = let f = number_form table v h in (f.0, ap index_at f.1)

-- A value of an optional type is nil, or has a value of the type inside it.
abbrev pub OptionalsAre : Type 0
OptionalsAre = (table : Table) (o t : Ty) (v : Value) → inside_at (out-Ty o) ≡ Some t → HasValue table o v
    → (part : Option Value) × (inside v ≡ Some part) × IfSome part (HasValue table t)

pub optionals_are : OptionalsAre
unfolding inside
optionals_are table o t v e h = let f = optional_form table o t v e h in (f.0, ap part_inside_at f.1, f.2)

-- A value of a list type is a list of values of the type of its elements.
abbrev pub ListsAre : Type 0
ListsAre = (table : Table) (l t : Ty) (v : Value) → element_at (out-Ty l) ≡ Some t → HasValue table l v
    → (vs : List Value) × (parts v ≡ Some vs) × AllHaveValue table t vs

pub lists_are : ListsAre
unfolding parts
lists_are table l t v e h = let f = list_form table l t v e h in (f.0, ap parts_at f.1, f.2)
