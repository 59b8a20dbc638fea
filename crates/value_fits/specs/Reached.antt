-- Parts of a value, reached by hops that fit its type.
use Rattle.std.specs.Prelude.{◌≡◌, ℕ, ℤ, pos, negsuc, List, [], ◌∷◌, ◌++◌, Option, Some, None, Result, Ok, Err, IfSome, slice_get, slice_set, slice_index_or}
use Rattle.std.proofs.Common.{sym, subst}
use Rattle.std.proofs.lemmas.Option.{get_or_from_slice_get}
use Rattle.sv_value.specs.declared.hop.Hop.{Hop}
use Rattle.sv_value.specs.declared.hop.Hop.TheVariants.{Field, Index}
use Rattle.sv_value.specs.declared.hop.Missing.{Missing}
use Rattle.sv_value.specs.declared.value.Value.{Value, out-Value}
use Rattle.sv_value.specs.declared.value.Value.TheOpen.{Value-F}
use Rattle.sv_value.specs.Hops.{element, element_or, field_or, hop_from, then_part, part_at, changed_by, with_part}
use Rattle.swift_core.specs.declared.table.Table.{Table}
use Rattle.swift_core.specs.declared.ty.Ty.{Ty, out-Ty}
use Rattle.swift_core.specs.Types.{element_at}
use Rattle.swift_core.specs.Values.{HasValue, AllHaveValue}
use Rattle.core_means.specs.Places.{part, part_in, renewed, renewed_from}
use Rattle.value_fits.specs.Answers.{AnswersWith}
use Rattle.value_fits.specs.Fields.{Standing, IsField, Struct, struct_form}
use Rattle.value_fits.specs.Forms.{list_value, list_form}
use Rattle.value_fits.specs.Lists.{some_element, each_has, all_have, made_fits, All-put}
use Rattle.value_calls.specs.Made.{made}
use Rattle.value_calls.specs.Traps.{Outcome}

-- A hop from a value of the first type leads to one of the second: to a stored property, or to an element.
pub data HopFits (table : Table) : Ty → Hop → Ty → Type 0 where
  to_field : {t u : Ty} {n : ℕ} → IsField table t n u → HopFits table t (Field n) u
  to_element : {t u : Ty} {i : ℤ} → element_at (out-Ty t) ≡ Some u → HopFits table t (Index i) u

-- the hops lead from a value of the first type to one of the second
pub data HopsFit (table : Table) : Ty → List Hop → Ty → Type 0 where
  no_hops : {t : Ty} → HopsFit table t [] t
  more_hops : {t u w : Ty} {h : Hop} {hs : List Hop} → HopFits table t h u → HopsFit table u hs w → HopsFit table t (h ∷ hs) w

-- one path after another
abbrev pub HopsJoin : Type 0
HopsJoin = (table : Table) (t u w : Ty) (hs ks : List Hop) → HopsFit table t hs u → HopsFit table u ks w → HopsFit table t (hs ++ ks) w

pub hops_join : HopsJoin
hops_join table t u w [] ks HopsFit.no_hops k = k
hops_join table t u w (h ∷ hs) ks (HopsFit.more_hops {u = m} f fs) k = HopsFit.more_hops f (hops_join table m u w hs ks fs k)

-- The part there has the type, or an index is out of range.
abbrev pub PartFits : Type 0
PartFits = (table : Table) → Standing table → (t u : Ty) (hs : List Hop) (v : Value) → HopsFit table t hs u → HasValue table t v
    → AnswersWith (HasValue table u) (part_at hs v)

element_fits : (P : Value → Type 0) (index : ℤ) (o : Option Value) → IfSome o P → AnswersWith {E = Missing} P (Some (element_or index o))
element_fits P index None h = tt
element_fits P index (Some x) h = h

list_part_fits : (P : Value → Type 0) (vs : List Value) (index : ℤ) → ((n : ℕ) → IfSome (slice_get vs n) P) → AnswersWith {E = Missing} P (Some (element vs index))
list_part_fits P vs (pos n) h = element_fits P (pos n) (slice_get vs n) (h n)
list_part_fits P vs (negsuc n) h = tt

hop_fits : (table : Table) → Standing table → (t u : Ty) (h : Hop) (v : Value) → HopFits table t h u → HasValue table t v → AnswersWith (HasValue table u) (hop_from h (out-Value v))
hop_fits table standing t u h v (HopFits.to_field {n = n} f) k =
    let s = struct_form table standing t u n v f k in
    subst (λ (w : Value-F Value). AnswersWith (HasValue table u) (hop_from (Field n) w)) (sym s.is_struct)
    (subst (λ (o : Option Value). AnswersWith (HasValue table u) (field_or o)) (sym s.there) s.typed)
hop_fits table standing t u h v (HopFits.to_element {i = i} e) k =
    let f = list_form table t u v e k in
    subst (λ (w : Value-F Value). AnswersWith (HasValue table u) (hop_from (Index i) w)) (sym f.1)
    (list_part_fits (HasValue table u) f.0 i (λ n. some_element (HasValue table u) f.0 n (each_has table u f.0 f.2)))

then_fits : (P Q : Value → Type 0) (next : Value → Option (Result Value Missing)) (o : Option (Result Value Missing)) → AnswersWith P o → ((x : Value) → P x → AnswersWith Q (next x)) → AnswersWith Q (then_part next o)
then_fits P Q next None h k = h
then_fits P Q next (Some (Err missing)) h k = tt
then_fits P Q next (Some (Ok x)) h k = k x h

pub part_fits : PartFits
part_fits table standing t u [] v HopsFit.no_hops k = k
part_fits table standing t u (h ∷ hs) v (HopsFit.more_hops {u = m} f fs) k =
    then_fits (HasValue table m) (HasValue table u) (part_at hs) (hop_from h (out-Value v)) (hop_fits table standing t m h v f k) (λ x p. part_fits table standing m u hs x fs p)

-- the same as it is read
abbrev pub ReadFits : Type 0
ReadFits = (table : Table) → Standing table → (t u : Ty) (hs : List Hop) (v : Value) → HopsFit table t hs u → HasValue table t v
    → AnswersWith (HasValue table u) (part_in hs (Some v))

read_answer : (P : Value → Type 0) (o : Option (Result Value Missing)) → AnswersWith P o → AnswersWith P (part o)
read_answer P None h = h
read_answer P (Some (Err missing)) h = tt
read_answer P (Some (Ok x)) h = h

pub read_fits : ReadFits
read_fits table standing t u hs v f k = read_answer (HasValue table u) (part_at hs v) (part_fits table standing t u hs v f k)

-- With a new part of its type the whole keeps its type.
abbrev pub WithPartFits : Type 0
WithPartFits = (table : Table) → Standing table → (t u : Ty) (hs : List Hop) (new v : Value) → HopsFit table t hs u → HasValue table t v → HasValue table u new
    → HasValue table t (with_part hs new v)

field_changed : (table : Table) (t u : Ty) (n : ℕ) (f : Value → Value) (v : Value) (w : Value-F Value) → ((x : Value) → HasValue table u x → HasValue table u (f x)) → Struct table t n u w
    → HasValue table t (changed_by (Field n) f v w)
field_changed table t u n f v w keeps s =
    let same_field = get_or_from_slice_get s.fields n s.value v s.there in
    let new = s.put (f (slice_index_or s.fields n v)) (subst (λ (x : Value). HasValue table u (f x)) (sym same_field) (keeps s.value s.typed)) in
    subst (λ (y : Value-F Value). HasValue table t (changed_by (Field n) f v y)) (sym s.is_struct) new

element_changed : (table : Table) (t u : Ty) (i : ℤ) (f : Value → Value) (v : Value) (vs : List Value) → element_at (out-Ty t) ≡ Some u → ((x : Value) → HasValue table u x → HasValue table u (f x))
    → HasValue table t v → AllHaveValue table u vs → HasValue table t (changed_by (Index i) f v (Value-F.List vs))
element_changed table t u (pos n) f v vs e keeps h hs =
    let new = slice_set vs n (f (slice_index_or vs n v)) in
    list_value table t u new e (all_have table u new (All-put (HasValue table u) vs n f v keeps (each_has table u vs hs)))
element_changed table t u (negsuc n) f v vs e keeps h hs = h

part_changed : (table : Table) → Standing table → (t u : Ty) (h : Hop) (f : Value → Value) (v : Value) → HopFits table t h u → ((x : Value) → HasValue table u x → HasValue table u (f x)) → HasValue table t v
    → HasValue table t (changed_by h f v (out-Value v))
part_changed table standing t u h f v (HopFits.to_field {n = n} property) keeps k = field_changed table t u n f v (out-Value v) keeps (struct_form table standing t u n v property k)
part_changed table standing t u h f v (HopFits.to_element {i = i} e) keeps k =
    let l = list_form table t u v e k in
    subst (λ (w : Value-F Value). HasValue table t (changed_by (Index i) f v w)) (sym l.1) (element_changed table t u i f v l.0 e keeps k l.2)

pub with_part_fits : WithPartFits
with_part_fits table standing t u [] new v HopsFit.no_hops k new_fits = new_fits
with_part_fits table standing t u (h ∷ hs) new v (HopsFit.more_hops {u = m} f fs) k new_fits =
    part_changed table standing t m h (with_part hs new) v f (λ x p. with_part_fits table standing m u hs new x fs p new_fits) k

-- the same as it is written
abbrev pub RenewedFits : Type 0
RenewedFits = (table : Table) → Standing table → (t u : Ty) (hs : List Hop) (new v : Value) → HopsFit table t hs u → HasValue table t v → HasValue table u new
    → AnswersWith (HasValue table t) (renewed hs new (Some v))

renewed_answer : (P Q : Value → Type 0) (hs : List Hop) (new v : Value) (o : Outcome Value) → AnswersWith P o → AnswersWith Q (made (with_part hs new v)) → AnswersWith Q (renewed_from hs new v o)
renewed_answer P Q hs new v None h k = h
renewed_answer P Q hs new v (Some (Err trap)) h k = tt
renewed_answer P Q hs new v (Some (Ok old)) h k = k

pub renewed_fits : RenewedFits
renewed_fits table standing t u hs new v f k new_fits =
    renewed_answer (HasValue table u) (HasValue table t) hs new v (part (part_at hs v)) (read_fits table standing t u hs v f k)
    (made_fits table t (with_part hs new v) (with_part_fits table standing t u hs new v f k new_fits))
