-- Lists of values of one type, and values as they are made.
use Rattle.std.specs.Prelude.{◌≡◌, ℕ, zero, suc, nat_le, List, [], ◌∷◌, ◌++◌, Option, Some, Ok, Err, IfSome, take, drop, slice_get, slice_set, slice_index_or, insert, remove, swap}
use Rattle.std.specs.List.{All}
use Rattle.std.proofs.Common.{ap, subst}
use Rattle.std.proofs.lemmas.List.Elements.{All-nil, All-cons, All-head, All-tail, All-append, All-set, All-take, All-drop}
use Rattle.sv_value.specs.declared.value.Value.{Value}
use Rattle.sv_value.specs.declared.value.Value.TheVariants as whole
use Rattle.sv_value.specs.Value.{weight}
use Rattle.swift_core.specs.declared.table.Table.{Table}
use Rattle.swift_core.specs.declared.ty.Ty.{Ty}
use Rattle.swift_core.specs.declared.ty.Ty.TheVariants as ty
use Rattle.swift_core.specs.declared.ty.Ty.TheViews as ty_view
use Rattle.swift_core.specs.Types.{element_at}
use Rattle.swift_core.specs.Values.{HasValue, AllHaveValue}
use Rattle.value_calls.specs.declared.traps.TrapKind.TheVariants.{Weight}
use Rattle.value_calls.specs.Made.{made}
use Rattle.value_fits.specs.Answers.{AnswersWith, chosen}
use Rattle.value_fits.specs.Forms.{list_value}

-- ---- lists whose elements all have a property

module _ {X : Type 0} (P : X → Type 0) where
  -- the element at a place, if there is one
  pub some_element : (xs : List X) (i : ℕ) → All P xs → IfSome (slice_get xs i) P
  some_element [] i h = tt
  some_element (x ∷ xs) zero h = All-head P x xs h
  some_element (x ∷ xs) (suc i) h = some_element xs i (All-tail P x xs h)

  pub this_element : (xs : List X) (i : ℕ) (x : X) → All P xs → slice_get xs i ≡ Some x → P x
  this_element xs i x h e = subst (λ (o : Option X). IfSome o P) e (some_element xs i h)

  element_or : (xs : List X) (i : ℕ) (d : X) → P d → All P xs → P (slice_index_or xs i d)
  element_or [] i d p h = p
  element_or (x ∷ xs) zero d p h = All-head P x xs h
  element_or (x ∷ xs) (suc i) d p h = element_or xs i d p (All-tail P x xs h)

  pub All-insert : (xs : List X) (i : ℕ) (x : X) → All P xs → P x → All P (insert xs i x)
  All-insert xs i x h p = All-append P (take i xs) (x ∷ drop i xs) (All-take P i xs h) (All-cons P x (drop i xs) p (All-drop P i xs h))

  pub All-remove : (xs : List X) (i : ℕ) → All P xs → All P (remove xs i)
  All-remove xs i h = All-append P (take i xs) (drop (suc i) xs) (All-take P i xs h) (All-drop P (suc i) xs h)

  pub All-swap : (xs : List X) (i j : ℕ) → All P xs → All P (swap xs i j)
  All-swap [] i j h = h
  All-swap (d ∷ ys) i j h =
      let first : P d = All-head P d ys h in
      All-set P (slice_set (d ∷ ys) i (slice_index_or (d ∷ ys) j d)) j (slice_index_or (d ∷ ys) i d) (element_or (d ∷ ys) i d first h)
      (All-set P (d ∷ ys) i (slice_index_or (d ∷ ys) j d) (element_or (d ∷ ys) j d first h) h)

  -- An element in place of another keeps the property; where there is none, nothing is put.
  pub All-put : (xs : List X) (i : ℕ) (f : X → X) (d : X) → ((x : X) → P x → P (f x)) → All P xs → All P (slice_set xs i (f (slice_index_or xs i d)))
  All-put [] i f d k h = All-nil P
  All-put (x ∷ xs) zero f d k h = All-cons P (f x) xs (k x (All-head P x xs h)) (All-tail P x xs h)
  All-put (x ∷ xs) (suc i) f d k h = All-cons P x (slice_set xs i (f (slice_index_or xs i d))) (All-head P x xs h) (All-put xs i f d k (All-tail P x xs h))

-- ---- lists of values of one type

pub each_has : (table : Table) (t : Ty) (vs : List Value) → AllHaveValue table t vs → All (HasValue table t) vs
each_has table t [] h = All-nil (HasValue table t)
each_has table t (v ∷ vs) (AllHaveValue.more_values h hs) = All-cons (HasValue table t) v vs h (each_has table t vs hs)

pub all_have : (table : Table) (t : Ty) (vs : List Value) → All (HasValue table t) vs → AllHaveValue table t vs
all_have table t [] h = AllHaveValue.no_values t
all_have table t (v ∷ vs) h = AllHaveValue.more_values (All-head (HasValue table t) v vs h) (all_have table t vs (All-tail (HasValue table t) v vs h))

-- one more
pub all_pushed : (table : Table) (t : Ty) (vs : List Value) (v : Value) → AllHaveValue table t vs → HasValue table t v → AllHaveValue table t (vs ++ v ∷ [])
all_pushed table t [] v h k = AllHaveValue.more_values k h
all_pushed table t (w ∷ vs) v (AllHaveValue.more_values h hs) k = AllHaveValue.more_values h (all_pushed table t vs v hs k)

-- ---- values as they are made

-- A value that is made keeps its type, unless it is too heavy.
abbrev pub MadeFits : Type 0
MadeFits = (table : Table) (t : Ty) (v : Value) → HasValue table t v → AnswersWith (HasValue table t) (made v)

pub made_fits : MadeFits
unfolding made
made_fits table t v h = chosen (HasValue table t) (nat_le (weight v) 65536) (Some (Ok v)) (Some (Err Weight)) h tt

-- A list of values of one type is a value of the type of such lists.
abbrev pub ListMadeFits : Type 0
ListMadeFits = (table : Table) (t : Ty) (vs : List Value) → AllHaveValue table t vs → AnswersWith (HasValue table (ty.List t)) (made (whole.List vs))

pub list_made_fits : ListMadeFits
list_made_fits table t vs h = made_fits table (ty.List t) (whole.List vs) (list_value table (ty.List t) t vs (ap element_at (ty_view.outs-List t)) h)
