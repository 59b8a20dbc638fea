-- Values under lists, one level and one value at a time.
use Rattle.std.specs.Prelude.{◌↔◌, IsTrue}
use Rattle.std.proofs.Common.{◌≡◌, ℕ, zero, suc, ◌+◌, ◌-◌, ◌<◌, ◌≤◌, Bool, true, false, List, [], ◌∷◌, ◌++◌, take, length, get_or, refl, sym, ap, subst, ◌∙◌, arith}
use Rattle.std.proofs.lemmas.List.{take_more, take_all}
use Rattle.sv_value.specs.declared.value.Value.{Value, out-Value}
use Rattle.sv_value.specs.declared.value.Value.TheOpen.{Value-F}
use Rattle.swift_core.specs.declared.table.Table.{Table}
use Rattle.swift_core.specs.declared.ty.Ty.{Ty}
use Rattle.swift_core.specs.declared.ty.Ty.TheOpen.{Ty-F}
use Rattle.swift_core.specs.declared.ty.Ty.TheVariants as ty
use Rattle.swift_core.specs.declared.ty.Ty.TheViews as ty_view
use Rattle.swift_core.specs.Values.{HasValue, HasValueAt, AllHaveValue}
use Rattle.place_tests.specs.Nested.{ListHas}
use Rattle.place_tests.specs.Walks.{nest}
use Rattle.place_tests.proofs.Steps.{one_less}

of_list : (table : Table) (t : Ty) (v : Value-F Value) → ListHas table t v → HasValueAt table (Ty-F.List t) v
of_list table t (Value-F.List values) h = HasValueAt.list h
of_list table t _ h = absurd h

to_list : (table : Table) (t : Ty) (v : Value-F Value) → HasValueAt table (Ty-F.List t) v → ListHas table t v
to_list table t v (HasValueAt.list h) = h

list_is : (table : Table) (t : Ty) (v : Value) → HasValue table (ty.List t) v ↔ ListHas table t (out-Value v)
list_is table t v = (
  λ h. to_list table t (out-Value v) (subst (λ (x : Ty-F Ty). HasValueAt table x (out-Value v)) (ty_view.outs-List t) h),
  λ h. subst (λ (x : Ty-F Ty). HasValueAt table x (out-Value v)) (sym (ty_view.outs-List t)) (of_list table t (out-Value v) h),
)

nested_is : (table : Table) (n : ℕ) (b : Ty) (v : Value) → 0 < n → HasValue table (nest n b) v ↔ ListHas table (nest (n - 1) b) (out-Value v)
nested_is table n b v h =
    let e = one_less n b h in
    let one = list_is table (nest (n - 1) b) v in
    (λ k. one.0 (subst (λ (t : Ty). HasValue table t v) e k), λ k. subst (λ (t : Ty). HasValue table t v) (sym e) (one.1 k))

pub no_list : (table : Table) (n : ℕ) (b : Ty) (v : Value) (r : Bool) → n ≡ 0 → IsTrue r ↔ HasValue table b v → IsTrue r ↔ HasValue table (nest n b) v
no_list table n b v r e h = subst (λ (k : ℕ). IsTrue r ↔ HasValue table (nest k b) v) (sym e) h

pub some_list : (table : Table) (n : ℕ) (b : Ty) (v : Value) (r : Bool) → 0 < n → IsTrue r ↔ ListHas table (nest (n - 1) b) (out-Value v) → IsTrue r ↔ HasValue table (nest n b) v
some_list table n b v r h k = let one = nested_is table n b v h in (λ is. one.1 (k.0 is), λ has. k.1 (one.0 has))

-- ---- several values

push : (table : Table) (t : Ty) (vs : List Value) (v : Value) → AllHaveValue table t vs → HasValue table t v → AllHaveValue table t (vs ++ v ∷ [])
push table t [] v hs h = AllHaveValue.more_values h (AllHaveValue.no_values t)
push table t (w ∷ vs) v (AllHaveValue.more_values k hs) h = AllHaveValue.more_values k (push table t vs v hs h)

at_place : (table : Table) (t : Ty) (vs : List Value) (i : ℕ) (d : Value) → AllHaveValue table t vs → i < length vs → HasValue table t (get_or vs i d)
at_place table t [] i d hs h = absurd (omega (arith, h))
at_place table t (w ∷ vs) zero d (AllHaveValue.more_values k hs) h = k
at_place table t (w ∷ vs) (suc i) d (AllHaveValue.more_values k hs) h = at_place table t vs i d hs (omega (arith, h))

pub none_yet : (table : Table) (t : Ty) → AllHaveValue table t []
none_yet table t = AllHaveValue.no_values t

pub all_plain : (table : Table) (n : ℕ) (b : Ty) (vs : List Value) (r : Bool) → n ≡ 0 → IsTrue r ↔ AllHaveValue table b vs → IsTrue r ↔ AllHaveValue table (nest n b) vs
all_plain table n b vs r e h = subst (λ (k : ℕ). IsTrue r ↔ AllHaveValue table (nest k b) vs) (sym e) h

pub all_more : (table : Table) (n : ℕ) (b : Ty) (vs : List Value) (i : ℕ) (v : Value) (r : Bool) → 0 < n → i < length vs → v ≡ get_or vs i v → IsTrue r ↔ ListHas table (nest (n - 1) b) (out-Value v) → r ≡ true
    → AllHaveValue table (nest n b) (take i vs) → AllHaveValue table (nest n b) (take (i + 1) vs)
all_more table n b vs i v r some h e has is hs =
    subst (AllHaveValue table (nest n b)) (sym (take_more vs i v h ∙ ap (λ (x : Value). take i vs ++ x ∷ []) (sym e)))
    (push table (nest n b) (take i vs) v hs ((nested_is table n b v some).1 (has.0 is)))

pub all_end : (table : Table) (t : Ty) (vs : List Value) (i : ℕ) → length vs ≤ i → AllHaveValue table t (take i vs) → IsTrue true ↔ AllHaveValue table t vs
all_end table t vs i h hs = (λ is. subst (AllHaveValue table t) (take_all i vs h) hs, λ all. refl)

pub all_fails : (table : Table) (n : ℕ) (b : Ty) (vs : List Value) (i : ℕ) (v : Value) (r : Bool) → 0 < n → i < length vs → v ≡ get_or vs i v → IsTrue r ↔ ListHas table (nest (n - 1) b) (out-Value v) → r ≡ false
    → IsTrue false ↔ AllHaveValue table (nest n b) vs
all_fails table n b vs i v r some h e has fails = (
  λ is. absurd (cc is),
  λ all.
      let one = at_place table (nest n b) vs i v all h in
      let yes : r ≡ true = has.1 ((nested_is table n b v some).0 (subst (HasValue table (nest n b)) (sym e) one)) in
      let clash : true ≡ false = sym yes ∙ fails in
      absurd (cc clash),
)
