-- The built-in calls on strings, lists and optionals, the making of values, and the bounds of ranges.
use Rattle.std.specs.Prelude.{ℕ, ◌+◌, ◌-◌, ◌==◌, ℤ, pos, int_lt, Bool, true, not, ◌&&◌, Option, Some, None, Ok, Err, List, [], ◌∷◌, ◌++◌, length, slice_get, insert, remove, swap, position, nat_lt, nat_le, if◌then◌else◌}
use Rattle.std.specs.Fmt.{signed_decimal}
use Rattle.std.specs.List.{repeat, list_any}
use Rattle.unicode_segmentation.specs.Grapheme.{graphemes}
use Rattle.sv_value.specs.declared.value.Value.{Value, out-Value}
use Rattle.sv_value.specs.declared.value.Value.TheOpen as one
use Rattle.sv_value.specs.declared.value.Value.TheOpen.{Value-F}
use Rattle.sv_value.specs.declared.value.Value.TheVariants as whole
use Rattle.value_calls.specs.declared.traps.TrapKind.TheVariants.{Overflow, Index, Nil, Range, Weight}
use Rattle.value_calls.specs.declared.calls.Property.{Property}
use Rattle.value_calls.specs.declared.calls.Property.TheVariants.{Count, IsEmpty, First, Last}
use Rattle.value_calls.specs.declared.changes.Removed.{Removed}
use Rattle.value_calls.specs.declared.calls.Bounds.{Bounds}
use Rattle.value_calls.specs.Integers.{within, place_of}
use Rattle.value_calls.specs.Made.{made}
use Rattle.value_calls.specs.Operators.{number, truth, truth_text}
use Rattle.value_calls.specs.Same.{same}
use Rattle.value_calls.specs.Traps.{Outcome}

abbrev pub is_empty : {X : Type 0} → List X → Bool
is_empty xs = length xs == 0

-- The optional of a part, or nil.
abbrev pub optional : Option Value → Outcome Value
optional part = made (whole.Opt part)

abbrev pub property_at : Property → Value-F Value → Outcome Value
property_at Count (one.Str text) = number (within (pos (length (graphemes true text))))
property_at Count (one.List parts) = number (within (pos (length parts)))
property_at IsEmpty (one.Str text) = truth (is_empty text)
property_at IsEmpty (one.List parts) = truth (is_empty parts)
property_at First (one.List parts) = optional (slice_get parts 0)
property_at Last (one.List parts) = optional (slice_get parts (length parts - 1))
property_at asked value = None

-- what a built-in property of a string or a list is
abbrev pub property : Property → Value → Outcome Value
property asked value = property_at asked (out-Value value)

abbrev pub at_place : List Value → Option ℕ → Option Value
at_place parts None = None
at_place parts (Some n) = slice_get parts n

abbrev pub indexed : Option Value → Outcome Value
indexed None = Some (Err Index)
indexed (Some part) = Some (Ok part)

abbrev pub element_at : Value-F Value → Value-F Value → Outcome Value
element_at (one.List parts) (one.Int index) = indexed (at_place parts (place_of index))
element_at list index = None

-- the element of a list at an index
abbrev pub element : Value → Value → Outcome Value
element list index = element_at (out-Value list) (out-Value index)

abbrev pub contains_at : Value-F Value → Value → Outcome Value
contains_at (one.List parts) item = truth (list_any (same item) parts)
contains_at list item = None

-- whether a list has an equal element
abbrev pub contains : Value → Value → Outcome Value
contains list item = contains_at (out-Value list) item

abbrev pub some_number : Option ℤ → Outcome Value
some_number None = Some (Err Overflow)
some_number (Some n) = made (whole.Opt (Some (whole.Int n)))

abbrev pub place_found : Option ℕ → Outcome Value
place_found None = optional None
place_found (Some n) = some_number (within (pos n))

abbrev pub first_index_at : Value-F Value → Value → Outcome Value
first_index_at (one.List parts) item = place_found (position (same item) parts)
first_index_at list item = None

-- the index of the first equal element of a list, or nil
abbrev pub first_index : Value → Value → Outcome Value
first_index list item = first_index_at (out-Value list) item

abbrev pub copies_of : List ℕ → Option ℕ → Outcome Value
copies_of text None = Some (Err Range)
copies_of text (Some n) = made (whole.Str (repeat n text))

abbrev pub repeated_at : Value-F Value → Value-F Value → Outcome Value
repeated_at (one.Str text) (one.Int times) = copies_of text (place_of times)
repeated_at text times = None

-- a string so many times in a row
abbrev pub repeated : Value → Value → Outcome Value
repeated text times = repeated_at (out-Value text) (out-Value times)

-- ---- optionals

-- a value as an optional
abbrev pub promoted : Value → Outcome Value
promoted value = optional (Some value)

abbrev pub unwrapped_part : Option Value → Outcome Value
unwrapped_part None = Some (Err Nil)
unwrapped_part (Some part) = Some (Ok part)

abbrev pub unwrapped_at : Value-F Value → Outcome Value
unwrapped_at (one.Opt part) = unwrapped_part part
unwrapped_at value = None

-- the value of a filled optional
abbrev pub unwrapped : Value → Outcome Value
unwrapped value = unwrapped_at (out-Value value)

-- ---- ranges

abbrev pub range_of : ℤ → ℤ → Outcome Bounds
range_of a b = if int_lt b a then Some (Err Range) else Some (Ok (record { lower = a; upper = b }))

abbrev pub bounds_at : Value-F Value → Value-F Value → Outcome Bounds
bounds_at (one.Int a) (one.Int b) = range_of a b
bounds_at lower upper = None

-- The bounds of a range, of `...` and `..<` alike.
abbrev pub bounds_of : Value → Value → Outcome Bounds
bounds_of lower upper = bounds_at (out-Value lower) (out-Value upper)

-- ---- interpolation

abbrev pub piece_at : Value-F Value → Option (List ℕ)
piece_at (one.Int n) = Some (signed_decimal n)
piece_at (one.Bool b) = Some (truth_text b)
piece_at (one.Str text) = Some text
piece_at value = None

-- the text of a value in a string
abbrev pub piece_of : Value → Option (List ℕ)
piece_of value = piece_at (out-Value value)

abbrev pub before_text : List ℕ → Option (List ℕ) → Option (List ℕ)
before_text front None = None
before_text front (Some text) = Some (front ++ text)

abbrev pub before_pieces : Option (List ℕ) → Option (List ℕ) → Option (List ℕ)
before_pieces None rest = None
before_pieces (Some front) rest = before_text front rest

-- the texts of values in a row
abbrev pub text_of_pieces : List Value → Option (List ℕ)
text_of_pieces [] = Some []
text_of_pieces (piece ∷ pieces) = before_pieces (piece_of piece) (text_of_pieces pieces)

-- a text with one more piece, while a string of it is not too heavy
abbrev pub grown : List ℕ → Option (List ℕ) → Outcome (List ℕ)
grown front None = None
grown front (Some more) = if nat_lt (length front + length more) 65536 then Some (Ok (front ++ more)) else Some (Err Weight)

abbrev pub string_of : Option (List ℕ) → Outcome Value
string_of None = None
string_of (Some text) = made (whole.Str text)

-- a string of its pieces
abbrev pub interpolated : List Value → Outcome Value
interpolated pieces = string_of (text_of_pieces pieces)

-- ---- changed values

abbrev pub toggled_at : Value-F Value → Outcome Value
toggled_at (one.Bool b) = truth (not b)
toggled_at value = None

-- after `toggle()`
abbrev pub toggled : Value → Outcome Value
toggled value = toggled_at (out-Value value)

abbrev pub emptied_at : Value-F Value → Outcome Value
emptied_at (one.List parts) = Some (Ok (whole.List []))
emptied_at list = None

-- after `removeAll()`
abbrev pub emptied : Value → Outcome Value
emptied list = emptied_at (out-Value list)

abbrev pub appended_at : Value-F Value → Value → Outcome Value
appended_at (one.List parts) item = made (whole.List (parts ++ item ∷ []))
appended_at list item = None

-- after `append(item)`
abbrev pub appended : Value → Value → Outcome Value
appended list item = appended_at (out-Value list) item

-- The index is tested before the weight.
abbrev pub inserted_into : List Value → Value → Option ℕ → Outcome Value
inserted_into parts item None = Some (Err Index)
inserted_into parts item (Some n) = if nat_le n (length parts) then made (whole.List (insert parts n item)) else Some (Err Index)

abbrev pub inserted_at : Value-F Value → Value → Value-F Value → Outcome Value
inserted_at (one.List parts) item (one.Int index) = inserted_into parts item (place_of index)
inserted_at list item index = None

-- after `insert(item, at: index)`
abbrev pub inserted : Value → Value → Value → Outcome Value
inserted list item index = inserted_at (out-Value list) item (out-Value index)

abbrev pub without : List Value → ℕ → Option Value → Outcome Removed
without parts n None = Some (Err Index)
without parts n (Some element) = Some (Ok (record { rest = whole.List (remove parts n); element = element }))

abbrev pub removed_place : List Value → Option ℕ → Outcome Removed
removed_place parts None = Some (Err Index)
removed_place parts (Some n) = without parts n (slice_get parts n)

abbrev pub removed_at : Value-F Value → Value-F Value → Outcome Removed
removed_at (one.List parts) (one.Int index) = removed_place parts (place_of index)
removed_at list index = None

-- after `remove(at: index)`
abbrev pub removed : Value → Value → Outcome Removed
removed list index = removed_at (out-Value list) (out-Value index)

abbrev pub removed_first_at : Value-F Value → Outcome Removed
removed_first_at (one.List parts) = removed_place parts (Some 0)
removed_first_at list = None

-- after `removeFirst()`
abbrev pub removed_first : Value → Outcome Removed
removed_first list = removed_first_at (out-Value list)

abbrev pub removed_last_at : Value-F Value → Outcome Removed
removed_last_at (one.List parts) = removed_place parts (Some (length parts - 1))
removed_last_at list = None

-- after `removeLast()`
abbrev pub removed_last : Value → Outcome Removed
removed_last list = removed_last_at (out-Value list)

abbrev pub swapped_places : List Value → Option ℕ → Option ℕ → Outcome Value
swapped_places parts (Some i) (Some j) = if nat_lt i (length parts) && nat_lt j (length parts) then Some (Ok (whole.List (swap parts i j))) else Some (Err Index)
swapped_places parts i j = Some (Err Index)

abbrev pub swapped_at : Value-F Value → Value-F Value → Value-F Value → Outcome Value
swapped_at (one.List parts) (one.Int i) (one.Int j) = swapped_places parts (place_of i) (place_of j)
swapped_at list i j = None

-- after `swapAt(i, j)`
abbrev pub swapped : Value → Value → Value → Outcome Value
swapped list i j = swapped_at (out-Value list) (out-Value i) (out-Value j)
