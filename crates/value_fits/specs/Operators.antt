-- What operators and built-in calls answer of values of their types.
use Rattle.std.specs.Prelude.{◌≡◌, ℕ, ◌-◌, ◌++◌, ℤ, pos, neg_ℤ, ◌+ℤ◌, ◌-ℤ◌, ◌*ℤ◌, unsigned_abs, int_lt, Bool, true, false, not, List, [], ◌∷◌, length, Option, Some, None, Ok, Err, IfSome, position, slice_get, if◌then◌else◌}
use Rattle.std.specs.Fmt.{signed_decimal}
use Rattle.std.specs.List.{All, list_any, repeat}
use Rattle.std.proofs.Common.{refl, sym, ap, subst, ◌∙◌}
use Rattle.std.proofs.lemmas.List.Elements.{All-head, All-tail, All-append}
use Rattle.unicode_segmentation.specs.Grapheme.{graphemes}
use Rattle.sv_value.specs.declared.value.Value.{Value, out-Value}
use Rattle.sv_value.specs.declared.value.Value.TheOpen.{Value-F}
use Rattle.sv_value.specs.declared.value.Value.TheVariants as whole
use Rattle.swift_core.specs.declared.table.Table.{Table}
use Rattle.swift_core.specs.declared.term.Binary.TheVariants as two
use Rattle.swift_core.specs.declared.term.Unary.TheVariants as one
use Rattle.swift_core.specs.declared.ty.Ty.{Ty, out-Ty}
use Rattle.swift_core.specs.declared.ty.Ty.TheOpen.{Ty-F}
use Rattle.swift_core.specs.declared.ty.Ty.TheVariants as ty
use Rattle.swift_core.specs.declared.ty.Ty.TheViews as ty_view
use Rattle.swift_core.specs.Operators.{unary_type, binary_type, property_type, is_printed}
use Rattle.swift_core.specs.Types.{inside_at, element_at}
use Rattle.swift_core.specs.Values.{HasValue, HasValueAt, AllHaveValue}
use Rattle.value_calls.specs.declared.calls.Bounds.{Bounds}
use Rattle.value_calls.specs.declared.calls.Property.{Property}
use Rattle.value_calls.specs.declared.calls.Property.TheVariants.{Count, IsEmpty, First, Last}
use Rattle.value_calls.specs.declared.operators.Arithmetic.{Arithmetic}
use Rattle.value_calls.specs.declared.operators.Arithmetic.TheVariants.{Plus, Minus, Times, Divide, Remainder, Min, Max}
use Rattle.value_calls.specs.declared.operators.Comparison.{Comparison}
use Rattle.value_calls.specs.declared.operators.Operator.{Operator}
use Rattle.value_calls.specs.declared.operators.Operator.TheVariants.{Compute, Compare, Equal, NotEqual, JoinTexts, JoinLists}
use Rattle.value_calls.specs.declared.operators.Unary.{Unary}
use Rattle.value_calls.specs.declared.operators.Unary.TheVariants.{Negate, Absolute, Not, Describe}
use Rattle.value_calls.specs.declared.traps.TrapKind.TheVariants.{Zero, Range}
use Rattle.value_calls.specs.Calls as call
use Rattle.value_calls.specs.Calls.{is_empty, optional, property_at, at_place, indexed, element_at as element_of, contains_at, some_number, place_found, first_index_at, copies_of, repeated_at, unwrapped_part, unwrapped_at, range_of, bounds_at, piece_at, before_text, before_pieces, text_of_pieces, string_of}
use Rattle.value_calls.specs.Integers.{is_zero, within, quotient_of, remainder_of, place_of}
use Rattle.value_calls.specs.Made.{made}
use Rattle.value_calls.specs.Operators.{number, arithmetic, comparison, computed, compared, joined_texts, joined_lists, unary_at, truth_text}
use Rattle.value_calls.specs.Same.{same}
use Rattle.value_calls.specs.Traps.{Outcome}
use Rattle.core_means.specs.Means.{of_one, of_two}
use Rattle.value_fits.specs.Answers.{AnswersWith, chosen}
use Rattle.value_fits.specs.Forms.{truth_value, number_value, text_value, list_value, nil_value, filled_value, number_layer, text_layer, list_layer, number_form, text_form, list_form, optional_form}
use Rattle.value_fits.specs.Lists.{some_element, each_has, all_have, made_fits}

-- the same answer by an equal type
answers_as : (table : Table) (o : Outcome Value) (t u : Ty) → Some t ≡ Some u → AnswersWith (HasValue table t) o → AnswersWith (HasValue table u) o
answers_as table o t u e h = let same_type : t ≡ u = cc in subst (λ (x : Ty). AnswersWith (HasValue table x) o) same_type h

pub number_fits : (table : Table) (o : Option ℤ) → AnswersWith (HasValue table ty.Int) (number o)
number_fits table None = tt
number_fits table (Some n) = number_value table n

-- an optional of a part of its type
pub optional_fits : (table : Table) (o t : Ty) (part : Option Value) → inside_at (out-Ty o) ≡ Some t → IfSome part (HasValue table t) → AnswersWith (HasValue table o) (optional part)
optional_fits table o t None e h = made_fits table o (whole.Opt None) (nil_value table o t e)
optional_fits table o t (Some v) e h = made_fits table o (whole.Opt (Some v)) (filled_value table o t v e h)

inside-optional : (t : Ty) → inside_at (out-Ty (ty.Optional t)) ≡ Some t
inside-optional t = ap inside_at (ty_view.outs-Optional t)

-- ---- one operand

abbrev pub UnaryFits : Type 0
UnaryFits = (table : Table) (op : Unary) (t u : Ty) (v : Value)
    → unary_type op (out-Ty t) ≡ Some u → HasValue table t v → AnswersWith (HasValue table u) (of_one (one.Operate op) v)

unary_layer : (table : Table) (op : Unary) (a : Ty-F Ty) (w : Value-F Value) (u : Ty) → unary_type op a ≡ Some u → HasValueAt table a w → AnswersWith (HasValue table u) (unary_at op w)
unary_layer table Negate a w u e (HasValueAt.number {n = n}) = answers_as table (number (within (neg_ℤ n))) ty.Int u e (number_fits table (within (neg_ℤ n)))
unary_layer table Absolute a w u e (HasValueAt.number {n = n}) = answers_as table (number (within (pos (unsigned_abs n)))) ty.Int u e (number_fits table (within (pos (unsigned_abs n))))
unary_layer table Not a w u e (HasValueAt.truth {b = b}) = answers_as table (Some (Ok (whole.Bool (not b)))) ty.Bool u e (truth_value table (not b))
unary_layer table Describe a w u e (HasValueAt.number {n = n}) = answers_as table (made (whole.Str (signed_decimal n))) ty.Text u e (made_fits table ty.Text (whole.Str (signed_decimal n)) (text_value table (signed_decimal n)))
unary_layer table Describe a w u e (HasValueAt.truth {b = b}) = answers_as table (made (whole.Str (truth_text b))) ty.Text u e (made_fits table ty.Text (whole.Str (truth_text b)) (text_value table (truth_text b)))
unary_layer table op a w u e h = cc

pub unary_fits : UnaryFits
unary_fits table op t u v e h = unary_layer table op (out-Ty t) (out-Value v) u e h

abbrev pub ForceFits : Type 0
ForceFits = (table : Table) (o t : Ty) (v : Value)
    → inside_at (out-Ty o) ≡ Some t → HasValue table o v → AnswersWith (HasValue table t) (of_one one.Force v)

force_part : (table : Table) (t : Ty) (part : Option Value) → IfSome part (HasValue table t) → AnswersWith (HasValue table t) (unwrapped_part part)
force_part table t None h = tt
force_part table t (Some v) h = h

pub force_fits : ForceFits
force_fits table o t v e h =
    let f = optional_form table o t v e h in
    subst (λ (w : Value-F Value). AnswersWith (HasValue table t) (unwrapped_at w)) (sym f.1) (force_part table t f.0 f.2)

abbrev pub PropertyFits : Type 0
PropertyFits = (table : Table) (p : Property) (t u : Ty) (v : Value)
    → property_type p (out-Ty t) ≡ Some u → HasValue table t v → AnswersWith (HasValue table u) (of_one (one.Look p) v)

property_layer : (table : Table) (p : Property) (a : Ty-F Ty) (w : Value-F Value) (u : Ty) → property_type p a ≡ Some u → HasValueAt table a w → AnswersWith (HasValue table u) (property_at p w)
property_layer table Count a w u e (HasValueAt.text {w = x}) =
    let n : Option ℤ = within (pos (length (graphemes true x))) in
    answers_as table (number n) ty.Int u e (number_fits table n)
property_layer table Count a w u e (HasValueAt.list {vs = vs} h) =
    let n : Option ℤ = within (pos (length vs)) in
    answers_as table (number n) ty.Int u e (number_fits table n)
property_layer table IsEmpty a w u e (HasValueAt.text {w = x}) = answers_as table (Some (Ok (whole.Bool (is_empty x)))) ty.Bool u e (truth_value table (is_empty x))
property_layer table IsEmpty a w u e (HasValueAt.list {vs = vs} h) = answers_as table (Some (Ok (whole.Bool (is_empty vs)))) ty.Bool u e (truth_value table (is_empty vs))
property_layer table First a w u e (HasValueAt.list {t = t} {vs = vs} h) =
    let part : Option Value = slice_get vs 0 in
    answers_as table (optional part) (ty.Optional t) u e (optional_fits table (ty.Optional t) t part (inside-optional t) (some_element (HasValue table t) vs 0 (each_has table t vs h)))
property_layer table Last a w u e (HasValueAt.list {t = t} {vs = vs} h) =
    let part : Option Value = slice_get vs (length vs - 1) in
    answers_as table (optional part) (ty.Optional t) u e (optional_fits table (ty.Optional t) t part (inside-optional t) (some_element (HasValue table t) vs (length vs - 1) (each_has table t vs h)))
property_layer table p a w u e h = cc

pub property_fits : PropertyFits
property_fits table p t u v e h = property_layer table p (out-Ty t) (out-Value v) u e h

abbrev pub PromotedFits : Type 0
PromotedFits = (table : Table) (o t : Ty) (v : Value)
    → inside_at (out-Ty o) ≡ Some t → HasValue table t v → AnswersWith (HasValue table o) (call.promoted v)

pub promoted_fits : PromotedFits
promoted_fits table o t v e h = optional_fits table o t (Some v) e h

-- ---- two operands

abbrev pub BinaryFits : Type 0
BinaryFits = (table : Table) (op : Operator) (t u : Ty) (v w : Value)
    → binary_type op (out-Ty t) ≡ Some u → HasValue table t v → HasValue table t w → AnswersWith (HasValue table u) (of_two (two.Operate op) v w)

arithmetic_fits : (table : Table) (op : Arithmetic) (a b : ℤ) → AnswersWith (HasValue table ty.Int) (arithmetic op a b)
arithmetic_fits table Plus a b = number_fits table (within (a +ℤ b))
arithmetic_fits table Minus a b = number_fits table (within (a -ℤ b))
arithmetic_fits table Times a b = number_fits table (within (a *ℤ b))
arithmetic_fits table Divide a b = chosen (HasValue table ty.Int) (is_zero b) (Some (Err Zero)) (number (quotient_of a b)) tt (number_fits table (quotient_of a b))
arithmetic_fits table Remainder a b = chosen (HasValue table ty.Int) (is_zero b) (Some (Err Zero)) (number (remainder_of a b)) tt (number_fits table (remainder_of a b))
arithmetic_fits table Min a b = number_value table (if int_lt b a then b else a)
arithmetic_fits table Max a b = number_value table (if int_lt b a then a else b)

computed_layer : (table : Table) (op : Arithmetic) (a : Ty-F Ty) (w x : Value-F Value) (u : Ty) → binary_type (Compute op) a ≡ Some u → HasValueAt table a w → HasValueAt table a x → AnswersWith (HasValue table u) (computed op w x)
computed_layer table op a w x u e (HasValueAt.number {n = n}) k =
    let f = number_layer table x k in
    subst (λ (y : Value-F Value). AnswersWith (HasValue table u) (computed op (Value-F.Int n) y)) (sym f.1) (answers_as table (arithmetic op n f.0) ty.Int u e (arithmetic_fits table op n f.0))
computed_layer table op a w x u e h k = cc

compared_layer : (table : Table) (op : Comparison) (a : Ty-F Ty) (w x : Value-F Value) (u : Ty) → binary_type (Compare op) a ≡ Some u → HasValueAt table a w → HasValueAt table a x → AnswersWith (HasValue table u) (compared op w x)
compared_layer table op a w x u e (HasValueAt.number {n = n}) k =
    let f = number_layer table x k in
    subst (λ (y : Value-F Value). AnswersWith (HasValue table u) (compared op (Value-F.Int n) y)) (sym f.1) (answers_as table (Some (Ok (whole.Bool (comparison op n f.0)))) ty.Bool u e (truth_value table (comparison op n f.0)))
compared_layer table op a w x u e h k = cc

joined_text_layer : (table : Table) (a : Ty-F Ty) (w x : Value-F Value) (u : Ty) → binary_type JoinTexts a ≡ Some u → HasValueAt table a w → HasValueAt table a x → AnswersWith (HasValue table u) (joined_texts w x)
joined_text_layer table a w x u e (HasValueAt.text {w = s}) k =
    let f = text_layer table x k in
    subst (λ (y : Value-F Value). AnswersWith (HasValue table u) (joined_texts (Value-F.Str s) y)) (sym f.1) (answers_as table (made (whole.Str (s ++ f.0))) ty.Text u e (made_fits table ty.Text (whole.Str (s ++ f.0)) (text_value table (s ++ f.0))))
joined_text_layer table a w x u e h k = cc

-- two lists of one type, one after the other
pub joined_lists_fit : (table : Table) (l t : Ty) (w x : Value-F Value) → element_at (out-Ty l) ≡ Some t → HasValueAt table (Ty-F.List t) w → HasValueAt table (Ty-F.List t) x → AnswersWith (HasValue table l) (joined_lists w x)
joined_lists_fit table l t w x e h k =
    let f = list_layer table t w h in
    let g = list_layer table t x k in
    let both = all_have table t (f.0 ++ g.0) (All-append (HasValue table t) f.0 g.0 (each_has table t f.0 f.2) (each_has table t g.0 g.2)) in
    subst (λ (y : Value-F Value). AnswersWith (HasValue table l) (joined_lists y x)) (sym f.1)
    (subst (λ (y : Value-F Value). AnswersWith (HasValue table l) (joined_lists (Value-F.List f.0) y)) (sym g.1)
    (made_fits table l (whole.List (f.0 ++ g.0)) (list_value table l t (f.0 ++ g.0) e both)))

joined_list_layer : (table : Table) (a : Ty-F Ty) (w x : Value-F Value) (u : Ty) → binary_type JoinLists a ≡ Some u → HasValueAt table a w → HasValueAt table a x → AnswersWith (HasValue table u) (joined_lists w x)
joined_list_layer table (Ty-F.List t) w x u e h k = answers_as table (joined_lists w x) (ty.List t) u e (joined_lists_fit table (ty.List t) t w x (ap element_at (ty_view.outs-List t)) h k)
joined_list_layer table a w x u e h k = cc

pub binary_fits : BinaryFits
binary_fits table (Compute op) t u v w e h k = computed_layer table op (out-Ty t) (out-Value v) (out-Value w) u e h k
binary_fits table (Compare op) t u v w e h k = compared_layer table op (out-Ty t) (out-Value v) (out-Value w) u e h k
binary_fits table Equal t u v w e h k = answers_as table (Some (Ok (whole.Bool (same v w)))) ty.Bool u e (truth_value table (same v w))
binary_fits table NotEqual t u v w e h k = answers_as table (Some (Ok (whole.Bool (not (same v w))))) ty.Bool u e (truth_value table (not (same v w)))
binary_fits table JoinTexts t u v w e h k = joined_text_layer table (out-Ty t) (out-Value v) (out-Value w) u e h k
binary_fits table JoinLists t u v w e h k = joined_list_layer table (out-Ty t) (out-Value v) (out-Value w) u e h k

abbrev pub ElementFits : Type 0
ElementFits = (table : Table) (l t : Ty) (v w : Value)
    → element_at (out-Ty l) ≡ Some t → HasValue table l v → HasValue table ty.Int w → AnswersWith (HasValue table t) (of_two two.Element v w)

indexed_fits : (table : Table) (t : Ty) (o : Option Value) → IfSome o (HasValue table t) → AnswersWith (HasValue table t) (indexed o)
indexed_fits table t None h = tt
indexed_fits table t (Some v) h = h

placed_element : (table : Table) (t : Ty) (vs : List Value) (place : Option ℕ) → AllHaveValue table t vs → IfSome (at_place vs place) (HasValue table t)
placed_element table t vs None h = tt
placed_element table t vs (Some n) h = some_element (HasValue table t) vs n (each_has table t vs h)

pub element_fits : ElementFits
element_fits table l t v w e h k =
    let f = list_form table l t v e h in
    let g = number_form table w k in
    subst (λ (y : Value-F Value). AnswersWith (HasValue table t) (element_of y (out-Value w))) (sym f.1)
    (subst (λ (y : Value-F Value). AnswersWith (HasValue table t) (element_of (Value-F.List f.0) y)) (sym g.1)
    (indexed_fits table t (at_place f.0 (place_of g.0)) (placed_element table t f.0 (place_of g.0) f.2)))

abbrev pub ContainsFits : Type 0
ContainsFits = (table : Table) (l t : Ty) (v w : Value)
    → element_at (out-Ty l) ≡ Some t → HasValue table l v → HasValue table t w → AnswersWith (HasValue table ty.Bool) (of_two two.Contains v w)

pub contains_fits : ContainsFits
contains_fits table l t v w e h k =
    let f = list_form table l t v e h in
    subst (λ (y : Value-F Value). AnswersWith (HasValue table ty.Bool) (contains_at y w)) (sym f.1) (truth_value table (list_any (same w) f.0))

abbrev pub FirstIndexFits : Type 0
FirstIndexFits = (table : Table) (l t : Ty) (v w : Value)
    → element_at (out-Ty l) ≡ Some t → HasValue table l v → HasValue table t w → AnswersWith (HasValue table (ty.Optional ty.Int)) (of_two two.FirstIndex v w)

some_number_fits : (table : Table) (o : Option ℤ) → AnswersWith (HasValue table (ty.Optional ty.Int)) (some_number o)
some_number_fits table None = tt
some_number_fits table (Some n) = optional_fits table (ty.Optional ty.Int) ty.Int (Some (whole.Int n)) (inside-optional ty.Int) (number_value table n)

place_found_fits : (table : Table) (o : Option ℕ) → AnswersWith (HasValue table (ty.Optional ty.Int)) (place_found o)
place_found_fits table None = optional_fits table (ty.Optional ty.Int) ty.Int None (inside-optional ty.Int) tt
place_found_fits table (Some n) = some_number_fits table (within (pos n))

pub first_index_fits : FirstIndexFits
first_index_fits table l t v w e h k =
    let f = list_form table l t v e h in
    subst (λ (y : Value-F Value). AnswersWith (HasValue table (ty.Optional ty.Int)) (first_index_at y w)) (sym f.1) (place_found_fits table (position (same w) f.0))

abbrev pub RepeatFits : Type 0
RepeatFits = (table : Table) (v w : Value)
    → HasValue table ty.Text v → HasValue table ty.Int w → AnswersWith (HasValue table ty.Text) (of_two two.Repeat v w)

copies_fit : (table : Table) (w : List ℕ) (times : Option ℕ) → AnswersWith (HasValue table ty.Text) (copies_of w times)
copies_fit table w None = tt
copies_fit table w (Some n) = made_fits table ty.Text (whole.Str (repeat n w)) (text_value table (repeat n w))

pub repeat_fits : RepeatFits
repeat_fits table v w h k =
    let f = text_form table v h in
    let g = number_form table w k in
    subst (λ (y : Value-F Value). AnswersWith (HasValue table ty.Text) (repeated_at y (out-Value w))) (sym f.1)
    (subst (λ (y : Value-F Value). AnswersWith (HasValue table ty.Text) (repeated_at (Value-F.Str f.0) y)) (sym g.1) (copies_fit table f.0 (place_of g.0)))

-- ---- ranges and strings

-- the lower bound is not above the upper one
abbrev pub InOrder : Bounds → Type 0
InOrder b = int_lt b.upper b.lower ≡ false

-- The bounds of a range are in order.
abbrev pub BoundsFit : Type 0
BoundsFit = (table : Table) (v w : Value)
    → HasValue table ty.Int v → HasValue table ty.Int w → AnswersWith InOrder (call.bounds_of v w)

range_fits : (a b : ℤ) → AnswersWith InOrder (range_of a b)
range_fits a b = go (int_lt b a) refl
  where
    go : (test : Bool) → int_lt b a ≡ test → AnswersWith InOrder (if test then Some (Err Range) else Some (Ok (record { lower = a; upper = b })))
    go true e = tt
    go false e = e

pub bounds_fit : BoundsFit
bounds_fit table v w h k =
    let f = number_form table v h in
    let g = number_form table w k in
    subst (λ (y : Value-F Value). AnswersWith InOrder (bounds_at y (out-Value w))) (sym f.1)
    (subst (λ (y : Value-F Value). AnswersWith InOrder (bounds_at (Value-F.Int f.0) y)) (sym g.1) (range_fits f.0 g.0))

-- a value that may stand in a hole of a string
pub data IsPrintable (table : Table) : Value → Type 0 where
  is_printable : (t : Ty) {v : Value} → is_printed (out-Ty t) ≡ true → HasValue table t v → IsPrintable table v

abbrev pub InterpolatedFits : Type 0
InterpolatedFits = (table : Table) (vs : List Value) → All (IsPrintable table) vs → AnswersWith (HasValue table ty.Text) (call.interpolated vs)

printed_layer : (table : Table) (a : Ty-F Ty) (w : Value-F Value) → is_printed a ≡ true → HasValueAt table a w → (x : List ℕ) × (piece_at w ≡ Some x)
printed_layer table a w e (HasValueAt.number {n = n}) = (signed_decimal n, refl)
printed_layer table a w e (HasValueAt.truth {b = b}) = (truth_text b, refl)
printed_layer table a w e (HasValueAt.text {w = x}) = (x, refl)
printed_layer table a w e h = cc

printed : (table : Table) (v : Value) → IsPrintable table v → (x : List ℕ) × (call.piece_of v ≡ Some x)
printed table v (IsPrintable.is_printable t e h) = printed_layer table (out-Ty t) (out-Value v) e h

all_printed : (table : Table) (vs : List Value) → All (IsPrintable table) vs → (x : List ℕ) × (text_of_pieces vs ≡ Some x)
all_printed table [] h = ([], refl)
all_printed table (v ∷ vs) h =
    let front = printed table v (All-head (IsPrintable table) v vs h) in
    let rest = all_printed table vs (All-tail (IsPrintable table) v vs h) in
    (front.0 ++ rest.0, ap (λ (o : Option (List ℕ)). before_pieces o (text_of_pieces vs)) front.1 ∙ ap (before_text front.0) rest.1)

pub interpolated_fits : InterpolatedFits
interpolated_fits table vs h =
    let x = all_printed table vs h in
    subst (λ (o : Option (List ℕ)). AnswersWith (HasValue table ty.Text) (string_of o)) (sym x.1) (made_fits table ty.Text (whole.Str x.0) (text_value table x.0))
