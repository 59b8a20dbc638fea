-- The head of a `switch` is well typed, and its labels match each value.
use Rattle.std.specs.Prelude.{◌≡◌, ℕ, zero, suc, ◌<◌, Bool, true, false, List, [], ◌∷◌, ◌++◌, length, Some, None, slice_get, slice_index_or, ◌⊎◌}
use Rattle.std.specs.List.{Contains}
use Rattle.std.proofs.Common.{refl, sym, ap, subst, ◌∙◌, inl, inr, arith}
use Rattle.sv_value.specs.declared.value.Value.{Value, out-Value, roll-Value, roll-out-Value}
use Rattle.sv_value.specs.declared.value.Value.TheOpen.{Value-F}
use Rattle.sv_value.specs.declared.value.Value.TheVariants as value
use Rattle.sv_value.specs.declared.value.Value.TheViews as value_view
use Rattle.swift_ast.specs.declared.tree.Expr.{Expr}
use Rattle.swift_ast.specs.declared.tree.SwitchCase.{SwitchCase}
use Rattle.swift_core.specs.Typing.{Has, Covers}
use Rattle.swift_core.specs.Values.{HasValueAt}
use Rattle.swift_core.specs.declared.code.Code.{Code}
use Rattle.swift_core.specs.declared.table.Declaration.{Declaration}
use Rattle.swift_core.specs.declared.table.Kind.{Kind}
use Rattle.swift_core.specs.declared.table.Kind.TheVariants as kind
use Rattle.swift_core.specs.declared.table.Table.{Table}
use Rattle.swift_core.specs.declared.term.Core.{Core, out-Core}
use Rattle.swift_core.specs.declared.ty.Ty.{Ty, out-Ty}
use Rattle.swift_core.specs.declared.ty.Ty.TheOpen.{Ty-F}
use Rattle.type_base.specs.Claims.{some_is}
use Rattle.type_base.specs.Context.{Context}
use Rattle.case_rules.specs.declared.subject.Subject.{Subject}
use Rattle.case_rules.specs.declared.subject.Subject.TheVariants as subject
use Rattle.case_rules.specs.Cases.{Label, all_patterns, HasDefault, AllNamed, AreCases, enum_at, subject_at, LabelsRule, SubjectRule}
use Rattle.case_rules.specs.Each.{Each}
use Rattle.expr_cores.specs.Contexts.{core_context, core_locals, Fits}
use Rattle.post_cores.specs.Members.{found_so}
use Rattle.value_cores.specs.Values.{value_good}

-- ---- where a value stands among the labels

abbrev pub Labelled : List Label → Value → Type 0
Labelled labels v = (i : ℕ) × ((vs : List Value) × (slice_get labels i ≡ Some (Some vs)) × ((j : ℕ) × (slice_get vs j ≡ Some v)))

got : (xs : List Value) (k : ℕ) (v : Value) → k < length xs → slice_index_or xs k v ≡ v → slice_get xs k ≡ Some v
got [] k v lt e = absurd (omega arith)
got (x ∷ xs) zero v lt e = ap Some e
got (x ∷ xs) (suc k) v lt e = got xs k v (omega arith) e

either_side : (xs ys : List Value) (k : ℕ) (v : Value) → slice_get (xs ++ ys) k ≡ Some v → ((j : ℕ) × (slice_get xs j ≡ Some v)) ⊎ ((j : ℕ) × (slice_get ys j ≡ Some v))
either_side [] ys k v e = inr (k, e)
either_side (x ∷ xs) ys zero v e = inl (zero, e)
either_side (x ∷ xs) ys (suc k) v e = elim (either_side xs ys k v e) [ inl p ↦ inl (suc p.0, p.1) | inr p ↦ inr p ]

labelled_at : (labels : List Label) (k : ℕ) (v : Value) → slice_get (all_patterns labels) k ≡ Some v → Labelled labels v
labelled_at [] k v e = cc
labelled_at (None ∷ labels) k v e = let r = labelled_at labels k v e in (suc r.0, r.1)
labelled_at (Some vs ∷ labels) k v e = elim (either_side vs (all_patterns labels) k v e) [ inl p ↦ (zero, (vs, refl, p)) | inr p ↦ let r = labelled_at labels p.0 v p.1 in (suc r.0, r.1) ]

labelled : (labels : List Label) (v : Value) → Contains (all_patterns labels) v → Labelled labels v
labelled labels v (k, lt, e) = labelled_at labels k v (got (all_patterns labels) k v lt e)

default_at : (labels : List Label) → HasDefault labels → (i : ℕ) × (slice_get labels i ≡ Some None)
default_at [] h = absurd h
default_at (None ∷ labels) h = (zero, refl)
default_at (Some vs ∷ labels) h = let r = default_at labels h in (suc r.0, r.1)

-- ---- each value of the type is among them

same_out : (v w : Value) (l : Value-F Value) → out-Value v ≡ l → out-Value w ≡ l → w ≡ v
same_out v w l e f = sym (roll-out-Value w) ∙ ap roll-Value (f ∙ sym e) ∙ roll-out-Value v

module _ (table : Table) (labels : List Label) where
  truth_there : Contains (all_patterns labels) (value.Bool true) × Contains (all_patterns labels) (value.Bool false) → (v : Value) (w : Value-F Value) → out-Value v ≡ w → HasValueAt table Ty-F.Bool w → Labelled labels v
  truth_there h v w e (HasValueAt.truth {b = true}) = subst (Labelled labels) (same_out v (value.Bool true) _ e (value_view.outs-Bool true)) (labelled labels _ h.0)
  truth_there h v w e (HasValueAt.truth {b = false}) = subst (Labelled labels) (same_out v (value.Bool false) _ e (value_view.outs-Bool false)) (labelled labels _ h.1)

  cases_kind : (d n : ℕ) (k : Kind) (s : Subject) → enum_at d k ≡ Some s → AllNamed s (all_patterns labels)
      → (all : Bool) × ((n : ℕ) × (k ≡ kind.Enum all n) × ((place : ℕ) → place < n → Contains (all_patterns labels) (value.Case d place)))
  cases_kind d n (kind.Enum all m) s e h = (all, (m, refl, subst (λ (x : Subject). AllNamed x (all_patterns labels)) (sym (some_is (subject.Cases d m) s e)) h))
  cases_kind d n _ s e h = cc

  case_there : (d : ℕ) (declaration : Declaration) (all : Bool) (n : ℕ) → slice_get table.declarations d ≡ Some declaration → declaration.kind ≡ kind.Enum all n
      → ((place : ℕ) → place < n → Contains (all_patterns labels) (value.Case d place)) → (v : Value) (w : Value-F Value) → out-Value v ≡ w → HasValueAt table (Ty-F.Named d) w → Labelled labels v
  case_there d declaration all n sd k h v w e (HasValueAt.made {declaration = other} so made fs) =
      let same : other ≡ declaration = some_is other declaration (sym so ∙ sd) in
      let kinds = sym made ∙ ap (λ (x : Declaration). x.kind) same ∙ k in cc
  case_there d declaration all n sd k h v w e (HasValueAt.case {cases = m} {place = place} {names_all = b} {declaration = other} so enum_is lt) =
      let same : other ≡ declaration = some_is other declaration (sym so ∙ sd) in
      let kinds : kind.Enum b m ≡ kind.Enum all n = sym enum_is ∙ ap (λ (x : Declaration). x.kind) same ∙ k in
      let sizes : m ≡ n = cc in
      subst (Labelled labels) (same_out v (value.Case d place) _ e (value_view.outs-Case d place)) (labelled labels _ (h place (subst (λ (j : ℕ). place < j) sizes lt)))

  value_there : (layer : Ty-F Ty) (s : Subject) → subject_at table layer ≡ Some s → AllNamed s (all_patterns labels) → (v : Value) → HasValueAt table layer (out-Value v) → Labelled labels v
  value_there Ty-F.Int s e h v g = absurd (subst (λ (x : Subject). AllNamed x (all_patterns labels)) (sym (some_is subject.Numbers s e)) h)
  value_there Ty-F.Text s e h v g = absurd (subst (λ (x : Subject). AllNamed x (all_patterns labels)) (sym (some_is subject.Texts s e)) h)
  value_there Ty-F.Bool s e h v g = truth_there (subst (λ (x : Subject). AllNamed x (all_patterns labels)) (sym (some_is subject.Truths s e)) h) v (out-Value v) refl g
  value_there (Ty-F.Named d) s e h v g = found_so (Labelled labels v) e (λ declaration sd k.
      let c = cases_kind d 0 declaration.kind s k h in case_there d declaration c.0 c.1.0 sd c.1.1 c.1.2 v (out-Value v) refl g)
  value_there (Ty-F.List t) s e h v g = cc
  value_there (Ty-F.Optional t) s e h v g = cc

  covers : (t : Ty) (s : Subject) → subject_at table (out-Ty t) ≡ Some s → AreCases s labels → Covers table t labels
  covers t s e c = elim c.complete [ inl d ↦ inl (default_at labels d) | inr n ↦ inr (λ v g. value_there (out-Ty t) s e n v g) ]

-- ---- the head of a `switch`

pub each_length : {X Y : Type 0} (R : X → Y → Type 0) (xs : List X) (ys : List Y) → Each R xs ys → length ys ≡ length xs
unfolding Each
each_length R [] ys e = ap length e
each_length R (x ∷ xs) ys (y, r, (rest, h, e)) = ap length e ∙ ap suc (each_length R xs rest h)

-- what is over a `switch`: a value, and labels that match each value of its type, as many as there are cases
abbrev pub GoodSubject : Context → List Code → List SwitchCase → Core × List Label → Type 0
GoodSubject cx blocks cs r = (t : Ty) × Has (core_context cx blocks) (core_locals cx.locals) (out-Core r.0) t × (Covers cx.table t r.1 × (length r.1 ≡ length cs))

pub subject_good : (e : Expr) (cs : List SwitchCase) (blocks : List Code) (cx : Context) (r : Core × List Label) → Fits cx.table → SubjectRule e cs cx r → GoodSubject cx blocks cs r
unfolding SubjectRule LabelsRule
subject_good e cs blocks cx r fit (x, a, (s, sa, (labels, l, (are, q)))) =
    subst (GoodSubject cx blocks cs) (sym q) (x.1, value_good e blocks cx None x fit a, (covers cx.table labels x.1 s sa are, each_length _ cs labels l))
