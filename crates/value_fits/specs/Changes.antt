-- What the built-in calls make of the value that they stand on.
use Rattle.std.specs.Prelude.{◌≡◌, ℕ, ◌-◌, ◌&&◌, nat_le, nat_lt, Bool, true, false, not, List, [], ◌∷◌, ◌++◌, length, Option, Some, None, Ok, Err, IfSome, slice_get, insert, remove, swap, ⊤}
use Rattle.std.proofs.Common.{sym, subst}
use Rattle.sv_value.specs.declared.value.Value.{Value, out-Value}
use Rattle.sv_value.specs.declared.value.Value.TheOpen.{Value-F}
use Rattle.sv_value.specs.declared.value.Value.TheVariants as whole
use Rattle.swift_core.specs.declared.table.Table.{Table}
use Rattle.swift_core.specs.declared.term.ChangeCall.TheOpen.{ChangeCall-F}
use Rattle.swift_core.specs.declared.term.Core.{Core, out-Core}
use Rattle.swift_core.specs.declared.ty.Ty.{Ty, out-Ty}
use Rattle.swift_core.specs.declared.ty.Ty.TheOpen.{Ty-F}
use Rattle.swift_core.specs.declared.ty.Ty.TheVariants as ty
use Rattle.swift_core.specs.declared.ty.Ty.TheViews as ty_view
use Rattle.swift_core.specs.Context.{Context, Local}
use Rattle.swift_core.specs.Types.{element_at}
use Rattle.swift_core.specs.Typing.{Has, Calls, ChangeForm}
use Rattle.swift_core.specs.Values.{HasValue, HasValueAt, AllHaveValue}
use Rattle.value_calls.specs.declared.changes.Removed.{Removed}
use Rattle.value_calls.specs.declared.operators.Operator.TheVariants.{JoinLists}
use Rattle.value_calls.specs.declared.traps.TrapKind.TheVariants.{Index}
use Rattle.value_calls.specs.Calls as call
use Rattle.value_calls.specs.Calls.{toggled_at, emptied_at, appended_at, inserted_into, inserted_at, without, removed_place, removed_at, removed_first_at, removed_last_at, swapped_places, swapped_at}
use Rattle.value_calls.specs.Integers.{place_of}
use Rattle.value_calls.specs.Made.{made}
use Rattle.value_calls.specs.Operators.{operation}
use Rattle.value_calls.specs.Traps.{Outcome}
use Rattle.core_means.specs.declared.parts.Changed.{Changed}
use Rattle.core_means.specs.Means.{arguments_at, altered_at, value_alone, with_element}
use Rattle.value_fits.specs.Answers.{AnswersWith, chosen}
use Rattle.value_fits.specs.Forms.{is_list, truth_value, list_value, truth_form, number_form, list_form}
use Rattle.value_fits.specs.Lists.{some_element, each_has, all_have, all_pushed, made_fits, All-insert, All-remove, All-swap}
use Rattle.value_fits.specs.Operators.{joined_lists_fit}

-- a call that is not of a function of the program
abbrev pub is_built_in : ChangeForm → Bool
is_built_in (ChangeCall-F.Mutate id arguments) = false
is_built_in other = true

-- The types of the arguments of a built-in call on a value of a type, which stands beside its layer.
abbrev pub argument_types : Ty → Ty-F Ty → ChangeForm → List Ty
argument_types l (Ty-F.List t) (ChangeCall-F.Append x) = t ∷ []
argument_types l (Ty-F.List t) (ChangeCall-F.AppendAll x) = l ∷ []
argument_types l (Ty-F.List t) (ChangeCall-F.Insert x i) = t ∷ ty.Int ∷ []
argument_types l (Ty-F.List t) (ChangeCall-F.Remove i) = ty.Int ∷ []
argument_types l (Ty-F.List t) (ChangeCall-F.SwapAt i j) = ty.Int ∷ ty.Int ∷ []
argument_types l layer c = []

-- each term has the type in its place
abbrev pub HaveTypes : Context → List Local → List Core → List Ty → Type 0
HaveTypes cx locals [] [] = ⊤
HaveTypes cx locals (c ∷ cs) (t ∷ ts) = Has cx locals (out-Core c) t × HaveTypes cx locals cs ts
HaveTypes cx locals cs ts = ⊥

-- each value has the type in its place
abbrev pub ValuesHave : Table → List Ty → List Value → Type 0
ValuesHave table [] [] = ⊤
ValuesHave table (t ∷ ts) (v ∷ vs) = HasValue table t v × ValuesHave table ts vs
ValuesHave table ts vs = ⊥

-- a value where there is one of the type, and none where there is no type
abbrev pub HasResult : Table → Option Ty → Option Value → Type 0
HasResult table None None = ⊤
HasResult table (Some t) (Some v) = HasValue table t v
HasResult table result answer = ⊥

-- The value keeps its type, and the call has a value of its type where it has one.
abbrev pub ChangedFits : Table → Ty → Option Ty → Changed → Type 0
ChangedFits table t result c = HasValue table t c.value × HasResult table result c.answer

-- The arguments of a built-in call have the types that it takes.
abbrev pub ArgumentsTyped : Type 0
ArgumentsTyped = (cx : Context) (locals : List Local) (t : Ty) (c : ChangeForm) (result : Option Ty)
    → Calls cx locals t c result → is_built_in c ≡ true → HaveTypes cx locals (arguments_at c) (argument_types t (out-Ty t) c)

-- what a list takes
of_a_list : (cx : Context) (locals : List Local) (l t : Ty) (c : ChangeForm) → element_at (out-Ty l) ≡ Some t → HaveTypes cx locals (arguments_at c) (argument_types l (Ty-F.List t) c)
    → HaveTypes cx locals (arguments_at c) (argument_types l (out-Ty l) c)
of_a_list cx locals l t c e h = subst (λ (a : Ty-F Ty). HaveTypes cx locals (arguments_at c) (argument_types l a c)) (sym (is_list (out-Ty l) t e)) h

pub arguments_typed : ArgumentsTyped
arguments_typed cx locals l c result Calls.toggle b = subst (λ (a : Ty-F Ty). HaveTypes cx locals [] (argument_types l a ChangeCall-F.Toggle)) (sym ty_view.outs-Bool) tt
arguments_typed cx locals l c result (Calls.append {t = t} {c = x} e hx) b = of_a_list cx locals l t (ChangeCall-F.Append x) e (hx, tt)
arguments_typed cx locals l c result (Calls.append_all {t = t} {c = x} e hx) b = of_a_list cx locals l t (ChangeCall-F.AppendAll x) e (hx, tt)
arguments_typed cx locals l c result (Calls.insert {t = t} {c = x} {i = i} e hx hi) b = of_a_list cx locals l t (ChangeCall-F.Insert x i) e (hx, (hi, tt))
arguments_typed cx locals l c result (Calls.remove {t = t} {i = i} e hi) b = of_a_list cx locals l t (ChangeCall-F.Remove i) e (hi, tt)
arguments_typed cx locals l c result (Calls.remove_first {t = t} e) b = of_a_list cx locals l t ChangeCall-F.RemoveFirst e tt
arguments_typed cx locals l c result (Calls.remove_last {t = t} e) b = of_a_list cx locals l t ChangeCall-F.RemoveLast e tt
arguments_typed cx locals l c result (Calls.remove_all {t = t} e) b = of_a_list cx locals l t ChangeCall-F.RemoveAll e tt
arguments_typed cx locals l c result (Calls.swap_at {t = t} {i = i} {j = j} e hi hj) b = of_a_list cx locals l t (ChangeCall-F.SwapAt i j) e (hi, (hj, tt))
arguments_typed cx locals l c result (Calls.mutate nd m same_code uses args) b = cc

-- With such arguments it answers.
abbrev pub ChangesFit : Type 0
ChangesFit = (cx : Context) (locals : List Local) (t : Ty) (c : ChangeForm) (result : Option Ty) (vs : List Value) (v : Value)
    → Calls cx locals t c result → is_built_in c ≡ true → ValuesHave cx.table (argument_types t (out-Ty t) c) vs → HasValue cx.table t v
    → AnswersWith (ChangedFits cx.table t result) (altered_at c vs v)

alone_fits : (table : Table) (l : Ty) (o : Outcome Value) → AnswersWith (HasValue table l) o → AnswersWith (ChangedFits table l None) (value_alone o)
alone_fits table l None h = h
alone_fits table l (Some (Err k)) h = tt
alone_fits table l (Some (Ok v)) h = (h, tt)

-- a list of the type, and an element of it
abbrev RemovedFits : Table → Ty → Ty → Removed → Type 0
RemovedFits table l t r = HasValue table l r.rest × HasValue table t r.element

element_fits : (table : Table) (l t : Ty) (o : Outcome Removed) → AnswersWith (RemovedFits table l t) o → AnswersWith (ChangedFits table l (Some t)) (with_element o)
element_fits table l t None h = h
element_fits table l t (Some (Err k)) h = tt
element_fits table l t (Some (Ok r)) h = h

toggle_fits : (table : Table) (vs : List Value) (v : Value) → ValuesHave table [] vs → HasValue table ty.Bool v → AnswersWith (ChangedFits table ty.Bool None) (altered_at ChangeCall-F.Toggle vs v)
toggle_fits table [] v k h =
    let f = truth_form table v h in
    alone_fits table ty.Bool (call.toggled v) (subst (λ (w : Value-F Value). AnswersWith (HasValue table ty.Bool) (toggled_at w)) (sym f.1) (truth_value table (not f.0)))
toggle_fits table (y ∷ ys) v k h = absurd k

module _ (table : Table) (l t : Ty) (is : element_at (out-Ty l) ≡ Some t) where
  list_made : (vs : List Value) → AllHaveValue table t vs → AnswersWith (HasValue table l) (made (whole.List vs))
  list_made vs h = made_fits table l (whole.List vs) (list_value table l t vs is h)

  append_fits : (x : Core) (vs : List Value) (v : Value) → ValuesHave table (t ∷ []) vs → HasValue table l v → AnswersWith (ChangedFits table l None) (altered_at (ChangeCall-F.Append x) vs v)
  append_fits x [] v k h = absurd k
  append_fits x (y ∷ []) v k h =
      let f = list_form table l t v is h in
      alone_fits table l (call.appended v y)
      (subst (λ (w : Value-F Value). AnswersWith (HasValue table l) (appended_at w y)) (sym f.1) (list_made (f.0 ++ y ∷ []) (all_pushed table t f.0 y f.2 k.0)))
  append_fits x (y ∷ z ∷ zs) v k h = absurd k.1

  append_all_fits : (x : Core) (vs : List Value) (v : Value) → ValuesHave table (l ∷ []) vs → HasValue table l v → AnswersWith (ChangedFits table l None) (altered_at (ChangeCall-F.AppendAll x) vs v)
  append_all_fits x [] v k h = absurd k
  append_all_fits x (y ∷ []) v k h =
      let layers : (out-Ty l ≡ Ty-F.List t) = is_list (out-Ty l) t is in
      alone_fits table l (operation JoinLists v y)
      (joined_lists_fit table l t (out-Value v) (out-Value y) is (subst (λ (a : Ty-F Ty). HasValueAt table a (out-Value v)) layers h) (subst (λ (a : Ty-F Ty). HasValueAt table a (out-Value y)) layers k.0))
  append_all_fits x (y ∷ z ∷ zs) v k h = absurd k.1

  inserted_fits : (vs : List Value) (y : Value) (place : Option ℕ) → AllHaveValue table t vs → HasValue table t y → AnswersWith (HasValue table l) (inserted_into vs y place)
  inserted_fits vs y None h k = tt
  inserted_fits vs y (Some n) h k =
      chosen (HasValue table l) (nat_le n (length vs)) (made (whole.List (insert vs n y))) (Some (Err Index))
      (list_made (insert vs n y) (all_have table t (insert vs n y) (All-insert (HasValue table t) vs n y (each_has table t vs h) k))) tt

  insert_fits : (x i : Core) (vs : List Value) (v : Value) → ValuesHave table (t ∷ ty.Int ∷ []) vs → HasValue table l v → AnswersWith (ChangedFits table l None) (altered_at (ChangeCall-F.Insert x i) vs v)
  insert_fits x i [] v k h = absurd k
  insert_fits x i (y ∷ []) v k h = absurd k.1
  insert_fits x i (y ∷ z ∷ []) v k h =
      let f = list_form table l t v is h in
      let g = number_form table z k.1.0 in
      alone_fits table l (call.inserted v y z)
      (subst (λ (w : Value-F Value). AnswersWith (HasValue table l) (inserted_at w y (out-Value z))) (sym f.1)
      (subst (λ (w : Value-F Value). AnswersWith (HasValue table l) (inserted_at (Value-F.List f.0) y w)) (sym g.1) (inserted_fits f.0 y (place_of g.0) f.2 k.0)))
  insert_fits x i (y ∷ z ∷ u ∷ us) v k h = absurd k.1.1

  without_fits : (vs : List Value) (n : ℕ) (o : Option Value) → AllHaveValue table t vs → IfSome o (HasValue table t) → AnswersWith (RemovedFits table l t) (without vs n o)
  without_fits vs n None h k = tt
  without_fits vs n (Some x) h k = (list_value table l t (remove vs n) is (all_have table t (remove vs n) (All-remove (HasValue table t) vs n (each_has table t vs h))), k)

  removed_fits : (vs : List Value) (place : Option ℕ) → AllHaveValue table t vs → AnswersWith (RemovedFits table l t) (removed_place vs place)
  removed_fits vs None h = tt
  removed_fits vs (Some n) h = without_fits vs n (slice_get vs n) h (some_element (HasValue table t) vs n (each_has table t vs h))

  remove_fits : (i : Core) (vs : List Value) (v : Value) → ValuesHave table (ty.Int ∷ []) vs → HasValue table l v → AnswersWith (ChangedFits table l (Some t)) (altered_at (ChangeCall-F.Remove i) vs v)
  remove_fits i [] v k h = absurd k
  remove_fits i (y ∷ []) v k h =
      let f = list_form table l t v is h in
      let g = number_form table y k.0 in
      element_fits table l t (call.removed v y)
      (subst (λ (w : Value-F Value). AnswersWith (RemovedFits table l t) (removed_at w (out-Value y))) (sym f.1)
      (subst (λ (w : Value-F Value). AnswersWith (RemovedFits table l t) (removed_at (Value-F.List f.0) w)) (sym g.1) (removed_fits f.0 (place_of g.0) f.2)))
  remove_fits i (y ∷ z ∷ zs) v k h = absurd k.1

  remove_first_fits : (vs : List Value) (v : Value) → ValuesHave table [] vs → HasValue table l v → AnswersWith (ChangedFits table l (Some t)) (altered_at ChangeCall-F.RemoveFirst vs v)
  remove_first_fits [] v k h =
      let f = list_form table l t v is h in
      element_fits table l t (call.removed_first v)
      (subst (λ (w : Value-F Value). AnswersWith (RemovedFits table l t) (removed_first_at w)) (sym f.1) (removed_fits f.0 (Some 0) f.2))
  remove_first_fits (y ∷ ys) v k h = absurd k

  remove_last_fits : (vs : List Value) (v : Value) → ValuesHave table [] vs → HasValue table l v → AnswersWith (ChangedFits table l (Some t)) (altered_at ChangeCall-F.RemoveLast vs v)
  remove_last_fits [] v k h =
      let f = list_form table l t v is h in
      element_fits table l t (call.removed_last v)
      (subst (λ (w : Value-F Value). AnswersWith (RemovedFits table l t) (removed_last_at w)) (sym f.1) (removed_fits f.0 (Some (length f.0 - 1)) f.2))
  remove_last_fits (y ∷ ys) v k h = absurd k

  remove_all_fits : (vs : List Value) (v : Value) → ValuesHave table [] vs → HasValue table l v → AnswersWith (ChangedFits table l None) (altered_at ChangeCall-F.RemoveAll vs v)
  remove_all_fits [] v k h =
      let f = list_form table l t v is h in
      alone_fits table l (call.emptied v)
      (subst (λ (w : Value-F Value). AnswersWith (HasValue table l) (emptied_at w)) (sym f.1) (list_value table l t [] is (AllHaveValue.no_values t)))
  remove_all_fits (y ∷ ys) v k h = absurd k

  swapped_fits : (vs : List Value) (i j : Option ℕ) → AllHaveValue table t vs → AnswersWith (HasValue table l) (swapped_places vs i j)
  swapped_fits vs None j h = tt
  swapped_fits vs (Some i) None h = tt
  swapped_fits vs (Some i) (Some j) h =
      chosen (HasValue table l) (nat_lt i (length vs) && nat_lt j (length vs)) (Some (Ok (whole.List (swap vs i j)))) (Some (Err Index))
      (list_value table l t (swap vs i j) is (all_have table t (swap vs i j) (All-swap (HasValue table t) vs i j (each_has table t vs h)))) tt

  swap_fits : (i j : Core) (vs : List Value) (v : Value) → ValuesHave table (ty.Int ∷ ty.Int ∷ []) vs → HasValue table l v → AnswersWith (ChangedFits table l None) (altered_at (ChangeCall-F.SwapAt i j) vs v)
  swap_fits i j [] v k h = absurd k
  swap_fits i j (y ∷ []) v k h = absurd k.1
  swap_fits i j (y ∷ z ∷ []) v k h =
      let f = list_form table l t v is h in
      let g = number_form table y k.0 in
      let m = number_form table z k.1.0 in
      alone_fits table l (call.swapped v y z)
      (subst (λ (w : Value-F Value). AnswersWith (HasValue table l) (swapped_at w (out-Value y) (out-Value z))) (sym f.1)
      (subst (λ (w : Value-F Value). AnswersWith (HasValue table l) (swapped_at (Value-F.List f.0) w (out-Value z))) (sym g.1)
      (subst (λ (w : Value-F Value). AnswersWith (HasValue table l) (swapped_at (Value-F.List f.0) (Value-F.Int g.0) w)) (sym m.1) (swapped_fits f.0 (place_of g.0) (place_of m.0) f.2))))
  swap_fits i j (y ∷ z ∷ u ∷ us) v k h = absurd k.1.1

  -- the arguments that a list takes
  taken : (c : ChangeForm) (vs : List Value) → ValuesHave table (argument_types l (out-Ty l) c) vs → ValuesHave table (argument_types l (Ty-F.List t) c) vs
  taken c vs h = subst (λ (a : Ty-F Ty). ValuesHave table (argument_types l a c) vs) (is_list (out-Ty l) t is) h

pub changes_fit : ChangesFit
changes_fit cx locals l c result vs v Calls.toggle b k h = toggle_fits cx.table vs v (subst (λ (a : Ty-F Ty). ValuesHave cx.table (argument_types ty.Bool a ChangeCall-F.Toggle) vs) ty_view.outs-Bool k) h
changes_fit cx locals l c result vs v (Calls.append {t = t} {c = x} e hx) b k h = append_fits cx.table l t e x vs v (taken cx.table l t e (ChangeCall-F.Append x) vs k) h
changes_fit cx locals l c result vs v (Calls.append_all {t = t} {c = x} e hx) b k h = append_all_fits cx.table l t e x vs v (taken cx.table l t e (ChangeCall-F.AppendAll x) vs k) h
changes_fit cx locals l c result vs v (Calls.insert {t = t} {c = x} {i = i} e hx hi) b k h = insert_fits cx.table l t e x i vs v (taken cx.table l t e (ChangeCall-F.Insert x i) vs k) h
changes_fit cx locals l c result vs v (Calls.remove {t = t} {i = i} e hi) b k h = remove_fits cx.table l t e i vs v (taken cx.table l t e (ChangeCall-F.Remove i) vs k) h
changes_fit cx locals l c result vs v (Calls.remove_first {t = t} e) b k h = remove_first_fits cx.table l t e vs v (taken cx.table l t e ChangeCall-F.RemoveFirst vs k) h
changes_fit cx locals l c result vs v (Calls.remove_last {t = t} e) b k h = remove_last_fits cx.table l t e vs v (taken cx.table l t e ChangeCall-F.RemoveLast vs k) h
changes_fit cx locals l c result vs v (Calls.remove_all {t = t} e) b k h = remove_all_fits cx.table l t e vs v (taken cx.table l t e ChangeCall-F.RemoveAll vs k) h
changes_fit cx locals l c result vs v (Calls.swap_at {t = t} {i = i} {j = j} e hi hj) b k h = swap_fits cx.table l t e i j vs v (taken cx.table l t e (ChangeCall-F.SwapAt i j) vs k) h
changes_fit cx locals l c result vs v (Calls.mutate nd m same_code uses args) b k h = cc
