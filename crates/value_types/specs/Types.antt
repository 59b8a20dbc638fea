-- Types of values: the types inside them, and tables all of whose types are types of values.
use Rattle.std.specs.Prelude.{◌≡◌, ℕ, Bool, true, false, Option, Some, None, slice_get, ⊤}
use Rattle.std.proofs.Common.{refl, sym, ap, subst, ◌∙◌}
use Rattle.swift_core.specs.declared.table.Declaration.{Declaration}
use Rattle.swift_core.specs.declared.table.Kind.{Kind}
use Rattle.swift_core.specs.declared.table.Signature.{Signature}
use Rattle.swift_core.specs.declared.table.SignatureForm.{SignatureForm}
use Rattle.swift_core.specs.declared.table.SignatureForm.TheVariants as form
use Rattle.swift_core.specs.declared.table.Table.{Table}
use Rattle.swift_core.specs.declared.ty.Ty.{Ty, out-Ty, fold-Ty}
use Rattle.swift_core.specs.declared.ty.Ty.TheFolds.{map-Ty, fold_out-Ty}
use Rattle.swift_core.specs.declared.ty.Ty.TheOpen.{Ty-F}
use Rattle.swift_core.specs.declared.ty.Ty.TheVariants as ty
use Rattle.swift_core.specs.declared.ty.Ty.TheViews.{outs-Int, outs-Bool, outs-Text, outs-List, outs-Optional, outs-Named}
use Rattle.swift_core.specs.Types.{inside_at, element_at}
use Rattle.type_base.specs.Claims.{some_is}
use Rattle.type_base.specs.Names.{is_data}
use Rattle.expr_rules.specs.Ops.{named_below, named_within}
use Rattle.table_depths.specs.Shallow.{IsOfValues}

-- a type that names data structs and enums alone
abbrev pub Of : Table → Ty → Type 0
Of table t = IsOfValues table (out-Ty t)

-- no type, or one of values
abbrev pub OptionOf : Table → Option Ty → Type 0
OptionOf table None = ⊤
OptionOf table (Some t) = Of table t

-- ---- types that are made

of_layer : (table : Table) (t : Ty) {l : Ty-F Ty} → out-Ty t ≡ l → IsOfValues table l → Of table t
of_layer table t e v = subst (IsOfValues table) (sym e) v

pub int_of : (table : Table) → Of table ty.Int
int_of table = of_layer table ty.Int outs-Int IsOfValues.of_int

pub bool_of : (table : Table) → Of table ty.Bool
bool_of table = of_layer table ty.Bool outs-Bool IsOfValues.of_bool

pub text_of : (table : Table) → Of table ty.Text
text_of table = of_layer table ty.Text outs-Text IsOfValues.of_text

pub list_of : (table : Table) (t : Ty) → Of table t → Of table (ty.List t)
list_of table t v = of_layer table (ty.List t) (outs-List t) (IsOfValues.of_list v)

pub optional_of : (table : Table) (t : Ty) → Of table t → Of table (ty.Optional t)
optional_of table t v = of_layer table (ty.Optional t) (outs-Optional t) (IsOfValues.of_optional v)

pub data_of : (table : Table) (d : ℕ) (declaration : Declaration) → slice_get table.declarations d ≡ Some declaration → is_data declaration.kind ≡ true → Of table (ty.Named d)
data_of table d declaration e k = of_layer table (ty.Named d) (outs-Named d) (IsOfValues.of_named e k)

-- ---- types inside

inside_layer : (table : Table) (l : Ty-F Ty) (u : Ty) → IsOfValues table l → inside_at l ≡ Some u → Of table u
inside_layer table (Ty-F.Optional t) u (IsOfValues.of_optional v) e = subst (Of table) (some_is t u e) v
inside_layer table Ty-F.Int u v e = cc
inside_layer table Ty-F.Bool u v e = cc
inside_layer table Ty-F.Text u v e = cc
inside_layer table (Ty-F.List t) u v e = cc
inside_layer table (Ty-F.Named d) u v e = cc

pub inside_of : (table : Table) (t u : Ty) → Of table t → inside_at (out-Ty t) ≡ Some u → Of table u
inside_of table t u v e = inside_layer table (out-Ty t) u v e

element_layer : (table : Table) (l : Ty-F Ty) (u : Ty) → IsOfValues table l → element_at l ≡ Some u → Of table u
element_layer table (Ty-F.List t) u (IsOfValues.of_list v) e = subst (Of table) (some_is t u e) v
element_layer table Ty-F.Int u v e = cc
element_layer table Ty-F.Bool u v e = cc
element_layer table Ty-F.Text u v e = cc
element_layer table (Ty-F.Optional t) u v e = cc
element_layer table (Ty-F.Named d) u v e = cc

pub element_of : (table : Table) (t u : Ty) → Of table t → element_at (out-Ty t) ≡ Some u → Of table u
element_of table t u v e = element_layer table (out-Ty t) u v e

pub some_of : (table : Table) (o : Option Ty) → ((u : Ty) → o ≡ Some u → Of table u) → OptionOf table o
some_of table None f = tt
some_of table (Some u) f = f u refl

within_is : (t : Ty) → named_within t ≡ named_below (map-Ty Ty (Option ℕ) named_within (out-Ty t))
unfolding named_within
within_is = fold_out-Ty (Option ℕ) named_below

within_layer : (table : Table) (l : Ty-F Ty) (d : ℕ) → IsOfValues table l → named_below (map-Ty Ty (Option ℕ) named_within l) ≡ Some d → IsOfValues table (Ty-F.Named d)
within_layer table (Ty-F.Optional t) d (IsOfValues.of_optional v) e = within_layer table (out-Ty t) d v (sym (within_is t) ∙ e)
within_layer table (Ty-F.Named n) d v e = subst (λ (k : ℕ). IsOfValues table (Ty-F.Named k)) (some_is n d e) v
within_layer table Ty-F.Int d v e = cc
within_layer table Ty-F.Bool d v e = cc
within_layer table Ty-F.Text d v e = cc
within_layer table (Ty-F.List t) d v e = cc

-- the declaration that is named behind signs `?`
pub within_of : (table : Table) (t : Ty) (d : ℕ) → Of table t → named_within t ≡ Some d → Of table (ty.Named d)
within_of table t d v e = of_layer table (ty.Named d) (outs-Named d) (within_layer table (out-Ty t) d v (sym (within_is t) ∙ e))

-- ---- tables

-- the types of a member's values are types of values, and a case stands in a declaration of values
abbrev pub FormOf : Table → Kind → SignatureForm → Type 0
FormOf table k (form.Stored n b t a) = OptionOf table t
FormOf table k (form.State n t a) = OptionOf table t
FormOf table k (form.Static t) = OptionOf table t
FormOf table k (form.Case n) = is_data k ≡ true
FormOf table k (form.Computed t) = OptionOf table t
FormOf table k (form.Function ps t m) = OptionOf table t
FormOf table k _ = ⊤

-- it is so of each member of the table
abbrev pub TypesOf : Table → Type 0
TypesOf table = (d at : ℕ) (declaration : Declaration) (s : Signature) → slice_get table.declarations d ≡ Some declaration → slice_get declaration.members at ≡ Some s
    → FormOf table declaration.kind s.form
