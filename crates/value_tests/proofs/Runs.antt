-- Values tested one after the other.
use Rattle.std.specs.Prelude.{◌↔◌, IsTrue}
use Rattle.std.proofs.Common.{◌≡◌, ℕ, zero, suc, ◌+◌, ◌<◌, ◌≤◌, Bool, true, false, List, [], ◌∷◌, ◌++◌, drop, take, length, get_or, Option, Some, None, slice_get, refl, sym, ap, subst, ◌∙◌, arith}
use Rattle.std.proofs.lemmas.List.{drop_more, drop_all, take_more, take_all}
use Rattle.sv_value.specs.declared.value.Value.{Value, out-Value}
use Rattle.swift_core.specs.declared.table.Declaration.{Declaration}
use Rattle.swift_core.specs.declared.table.Signature.{Signature}
use Rattle.swift_core.specs.declared.table.Table.{Table}
use Rattle.swift_core.specs.declared.ty.Ty.{Ty, out-Ty}
use Rattle.swift_core.specs.Context.{Part, inputs_of}
use Rattle.swift_core.specs.Values.{HasValue, AllHaveValue, FieldsHaveValue}
use Rattle.value_tests.specs.Layers.{LayerHas, FieldsIn, StructHas, NoneSkipped, data_of, type_of_member}
use Rattle.value_tests.proofs.Inputs.{front, none_typed}
use Rattle.value_tests.proofs.Levels.{of_level, to_level}

-- ---- values of one type

all_push : (table : Table) (t : Ty) (vs : List Value) (v : Value) → AllHaveValue table t vs → HasValue table t v → AllHaveValue table t (vs ++ v ∷ [])
all_push table t [] v hs h = AllHaveValue.more_values h (AllHaveValue.no_values t)
all_push table t (w ∷ vs) v (AllHaveValue.more_values k hs) h = AllHaveValue.more_values k (all_push table t vs v hs h)

all_at : (table : Table) (t : Ty) (vs : List Value) (i : ℕ) (d : Value) → AllHaveValue table t vs → i < length vs → HasValue table t (get_or vs i d)
all_at table t [] i d hs h = absurd (omega (arith, h))
all_at table t (w ∷ vs) zero d (AllHaveValue.more_values k hs) h = k
all_at table t (w ∷ vs) (suc i) d (AllHaveValue.more_values k hs) h = all_at table t vs i d hs (omega (arith, h))

pub all_none : (table : Table) (t : Ty) → AllHaveValue table t []
all_none table t = AllHaveValue.no_values t

-- one more that has it
pub all_more : (table : Table) (t : Ty) (vs : List Value) (i : ℕ) (v : Value) (b : Bool) → i < length vs → v ≡ get_or vs i v → IsTrue b ↔ LayerHas table (out-Ty t) (out-Value v) → b ≡ true
    → AllHaveValue table t (take i vs) → AllHaveValue table t (take (i + 1) vs)
all_more table t vs i v b h e has is hs =
    subst (AllHaveValue table t) (sym (take_more vs i v h ∙ ap (λ (x : Value). take i vs ++ x ∷ []) (sym e)))
    (all_push table t (take i vs) v hs (of_level table (out-Ty t) (out-Value v) (has.0 is)))

pub all_end : (table : Table) (t : Ty) (vs : List Value) (i : ℕ) → length vs ≤ i → AllHaveValue table t (take i vs) → IsTrue true ↔ AllHaveValue table t vs
all_end table t vs i h hs = (λ is. subst (AllHaveValue table t) (take_all i vs h) hs, λ all. refl)

-- one that does not
pub all_fails : (table : Table) (t : Ty) (vs : List Value) (i : ℕ) (v : Value) (b : Bool) → i < length vs → v ≡ get_or vs i v → IsTrue b ↔ LayerHas table (out-Ty t) (out-Value v) → b ≡ false
    → IsTrue false ↔ AllHaveValue table t vs
all_fails table t vs i v b h e has fails = (
  λ is. absurd (cc is),
  λ all.
      let one = all_at table t vs i v all h in
      let yes : b ≡ true = has.1 (to_level table (out-Ty t) (out-Value v) (subst (HasValue table t) (sym e) one)) in
      let clash : true ≡ false = sym yes ∙ fails in
      absurd (cc clash),
)

-- ---- fields

-- The first fields fit the first parts exactly where the others fit the others.
pub data Rest (table : Table) (ps : List Part) (vs : List Value) (qs : List Part) (ws : List Value) : Type 0 where
  rest : (FieldsHaveValue table qs ws → FieldsHaveValue table ps vs) → (FieldsHaveValue table ps vs → FieldsHaveValue table qs ws) → Rest table ps vs qs ws

pub rest_start : (table : Table) (ms : List Signature) (vs : List Value) → Rest table (inputs_of ms) vs (inputs_of (drop 0 ms)) (drop 0 vs)
rest_start table ms vs = Rest.rest (λ h. h) (λ h. h)

value_step : (vs : List Value) (i : ℕ) (v : Value) → i < length vs → v ≡ get_or vs i v → drop i vs ≡ v ∷ drop (i + 1) vs
value_step vs i v h e = drop_more vs i v h ∙ ap (λ (x : Value). x ∷ drop (i + 1) vs) (sym e)

behind : (table : Table) (p : Part) (ps : List Part) (t : Ty) (v : Value) (vs : List Value) → p.ty ≡ Some t → FieldsHaveValue table (p ∷ ps) (v ∷ vs) → HasValue table t v × FieldsHaveValue table ps vs
behind table p ps t v vs e (FieldsHaveValue.more_fields {t = u} is h hs) =
    let both : Some u ≡ Some t = sym is ∙ e in
    let same : u ≡ t = cc in
    (subst (λ (x : Ty). HasValue table x v) same h, hs)

-- both in front of what is left
record Fronts (ms : List Signature) (vs : List Value) (next at i : ℕ) (t : Ty) (v : Value) : Type 0 where
  part : Part
  typed : part.ty ≡ Some t
  parts : inputs_of (drop next ms) ≡ part ∷ inputs_of (drop (at + 1) ms)
  values : drop i vs ≡ v ∷ drop (i + 1) vs

fronts : (ms : List Signature) (vs : List Value) (next at i : ℕ) (t : Ty) (v : Value) → inputs_of (drop at ms) ≡ inputs_of (drop next ms) → type_of_member (slice_get ms at) ≡ Some t → i < length vs → v ≡ get_or vs i v
    → Fronts ms vs next at i t v
fronts ms vs next at i t v same typed h e =
    let f = front ms at t typed in
    let next_at : suc at ≡ at + 1 = omega arith in
    record {
      part = f.part;
      typed = f.typed;
      parts = sym same ∙ f.first ∙ ap (λ (n : ℕ). f.part ∷ inputs_of (drop n ms)) next_at;
      values = value_step vs i v h e;
    }

pub rest_turn : (table : Table) (ms : List Signature) (vs : List Value) (next at i : ℕ) (t : Ty) (v : Value) (b : Bool) → inputs_of (drop at ms) ≡ inputs_of (drop next ms) → type_of_member (slice_get ms at) ≡ Some t
    → i < length vs → v ≡ get_or vs i v → IsTrue b ↔ LayerHas table (out-Ty t) (out-Value v) → b ≡ true → Rest table (inputs_of ms) vs (inputs_of (drop next ms)) (drop i vs)
    → Rest table (inputs_of ms) vs (inputs_of (drop (at + 1) ms)) (drop (i + 1) vs)
rest_turn table ms vs next at i t v b same typed h e has is (Rest.rest to of) =
    let f = fronts ms vs next at i t v same typed h e in
    Rest.rest
    (λ hs. to (subst (λ (ps : List Part). FieldsHaveValue table ps (drop i vs)) (sym f.parts) (subst (FieldsHaveValue table (f.part ∷ inputs_of (drop (at + 1) ms))) (sym f.values) (FieldsHaveValue.more_fields f.typed (of_level table (out-Ty t) (out-Value v) (has.0 is)) hs))))
    (λ hs. (behind table f.part (inputs_of (drop (at + 1) ms)) t v (drop (i + 1) vs) f.typed (subst (FieldsHaveValue table (f.part ∷ inputs_of (drop (at + 1) ms))) f.values (subst (λ (ps : List Part). FieldsHaveValue table ps (drop i vs)) f.parts (of hs)))).1)

-- a field that has not its type
pub rest_fails : (table : Table) (ms : List Signature) (vs : List Value) (next at i : ℕ) (t : Ty) (v : Value) (b : Bool) → inputs_of (drop at ms) ≡ inputs_of (drop next ms) → type_of_member (slice_get ms at) ≡ Some t
    → i < length vs → v ≡ get_or vs i v → IsTrue b ↔ LayerHas table (out-Ty t) (out-Value v) → b ≡ false → Rest table (inputs_of ms) vs (inputs_of (drop next ms)) (drop i vs)
    → FieldsHaveValue table (inputs_of ms) vs → ⊥
rest_fails table ms vs next at i t v b same typed h e has fails (Rest.rest to of) hs =
    let f = fronts ms vs next at i t v same typed h e in
    let one = behind table f.part (inputs_of (drop (at + 1) ms)) t v (drop (i + 1) vs) f.typed (subst (FieldsHaveValue table (f.part ∷ inputs_of (drop (at + 1) ms))) f.values (subst (λ (ps : List Part). FieldsHaveValue table ps (drop i vs)) f.parts (of hs))) in
    let yes : b ≡ true = has.1 (to_level table (out-Ty t) (out-Value v) one.0) in
    let clash : true ≡ false = sym yes ∙ fails in
    cc

-- a value too many, or one in a property that has no type
pub rest_ends : (table : Table) (ms : List Signature) (vs : List Value) (next at i : ℕ) → inputs_of (drop at ms) ≡ inputs_of (drop next ms) → NoneSkipped ms at → type_of_member (slice_get ms at) ≡ None
    → i < length vs → Rest table (inputs_of ms) vs (inputs_of (drop next ms)) (drop i vs) → FieldsHaveValue table (inputs_of ms) vs → ⊥
rest_ends table ms vs next at i same stops none h (Rest.rest to of) hs = first vs i h (of hs)
  where
    left : (ws : List Value) → (ws ≡ [] → ⊥) → FieldsHaveValue table (inputs_of (drop at ms)) ws → ⊥
    left [] more k = more refl
    left (w ∷ ws) more k = none_typed table ms at w ws stops none k

    some : (xs : List Value) (k : ℕ) → k < length xs → drop k xs ≡ [] → ⊥
    some [] k h e = omega (arith, h)
    some (x ∷ xs) zero h e = cc
    some (x ∷ xs) (suc k) h e = some xs k (omega (arith, h)) e

    first : (xs : List Value) (k : ℕ) → k < length xs → FieldsHaveValue table (inputs_of (drop next ms)) (drop k xs) → ⊥
    first xs k h has = left (drop k xs) (some xs k h) (subst (λ (ps : List Part). FieldsHaveValue table ps (drop k xs)) (sym same) has)

-- ---- what a struct has

pub apart : (table : Table) (named number : ℕ) (vs : List Value) → (named ≡ number → ⊥) → IsTrue false ↔ StructHas table named number vs
apart table named number vs differ = (λ is. absurd (cc is), λ has. absurd (differ has.0))

pub no_data : (table : Table) (named number : ℕ) (vs : List Value) → data_of table number ≡ None → IsTrue false ↔ StructHas table named number vs
no_data table named number vs e = (λ is. absurd (cc is), λ has. absurd (subst (λ (o : Option Declaration). FieldsIn table o vs) e has.1))

pub unfit : (table : Table) (named number : ℕ) (vs : List Value) (x : Declaration) (ms : List Signature) → data_of table number ≡ Some x → ms ≡ x.members → (FieldsHaveValue table (inputs_of ms) vs → ⊥)
    → IsTrue false ↔ StructHas table named number vs
unfit table named number vs x ms e m fails =
    (λ is. absurd (cc is), λ has. absurd (fails (subst (λ (ys : List Signature). FieldsHaveValue table (inputs_of ys) vs) (sym m) (subst (λ (o : Option Declaration). FieldsIn table o vs) e has.1))))

nothing_fits : (table : Table) (ps : List Part) → FieldsHaveValue table ps [] → ps ≡ []
nothing_fits table [] h = refl
nothing_fits table (p ∷ ps) h = elim h [ ]

pub fit : (table : Table) (named number : ℕ) (vs : List Value) (x : Declaration) (ms : List Signature) (next i : ℕ) (b : Bool) → named ≡ number → data_of table number ≡ Some x → ms ≡ x.members → length vs ≤ i
    → IsTrue b ↔ (inputs_of (drop next ms) ≡ []) → Rest table (inputs_of ms) vs (inputs_of (drop next ms)) (drop i vs) → IsTrue b ↔ StructHas table named number vs
fit table named number vs x ms next i b same e m h ends (Rest.rest to of) = (
  λ is.
      let no_parts = ends.0 is in
      let fields = to (subst (λ (ps : List Part). FieldsHaveValue table ps (drop i vs)) (sym no_parts) (subst (FieldsHaveValue table []) (sym (drop_all i vs h)) FieldsHaveValue.no_fields)) in
      (same, subst (λ (o : Option Declaration). FieldsIn table o vs) (sym e) (subst (λ (ys : List Signature). FieldsHaveValue table (inputs_of ys) vs) m fields)),
  λ has.
      let all = of (subst (λ (ys : List Signature). FieldsHaveValue table (inputs_of ys) vs) (sym m) (subst (λ (o : Option Declaration). FieldsIn table o vs) e has.1)) in
      ends.1 (nothing_fits table (inputs_of (drop next ms)) (subst (FieldsHaveValue table (inputs_of (drop next ms))) (drop_all i vs h) all)),
)
