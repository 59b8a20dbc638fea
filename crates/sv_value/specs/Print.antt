-- The printed text of a value, as its bytes.
use Rattle.std.specs.Prelude.{ℕ, true, false, Option, Some, None, List, [], ◌∷◌, ◌++◌, codes, if◌then◌else◌, ◌==◌, slice_index_or, encode_utf8}
use Rattle.std.specs.List.{join_by, flat_map}
use Rattle.std.specs.Fmt.{signed_decimal, digits}
use Rattle.std.specs.Char.{is_control}
use Rattle.std.specs.Str.{chars}
use Rattle.sv_value.specs.Names.{fields_of, cases_of}
use Rattle.sv_value.specs.declared.names.Names.{Names}
use Rattle.sv_value.specs.declared.value.Value.{Value}
use Rattle.sv_value.specs.declared.value.Value.TheOpen as one
use Rattle.sv_value.specs.declared.value.Value.TheOpen.{Value-F}
use Rattle.sv_value.specs.declared.value.Value.TheFolds.{fold-Value}

-- A character of a string, as it stands between the quotes: the quote, the backslash, line feed, carriage return, tab and
-- NUL have a letter of their own, other control characters their number in hexadecimal, and all others stand as they are.
abbrev pub escaped : ℕ → List ℕ
escaped c =
    if c == 34 then codes "\\\"" else
    (if c == 92 then codes "\\\\" else
    (if c == 10 then codes "\\n" else
    (if c == 13 then codes "\\r" else
    (if c == 9 then codes "\\t" else
    (if c == 0 then codes "\\0" else
    (if is_control c then codes "\\u{" ++ digits 16 false c ++ codes "}" else
    encode_utf8 c))))))

-- a text in quotes
abbrev pub quoted : List ℕ → List ℕ
quoted text = codes "\"" ++ flat_map escaped (chars text) ++ codes "\""

-- the pieces in a row, with a comma and a space between each two
abbrev pub listed : List (List ℕ) → List ℕ
listed = join_by (λ p. p) (codes ", ")

-- each part after its field's name
abbrev pub labelled : List (List ℕ) → List (List ℕ) → List (List ℕ)
labelled names [] = []
labelled [] (part ∷ parts) = []
labelled (name ∷ names) (part ∷ parts) = (name ++ codes ": " ++ part) ∷ labelled names parts

-- an optional: `nil`, or the text of its value
abbrev pub some_text : Option (List ℕ) → List ℕ
some_text None = codes "nil"
some_text (Some text) = text

-- one level, with the text of each part in its place
abbrev pub print_step : Names → Value-F (List ℕ) → List ℕ
print_step names (one.Int n) = signed_decimal n
print_step names (one.Bool b) = if b then codes "true" else codes "false"
print_step names (one.Str text) = quoted text
print_step names (one.List parts) = codes "[" ++ listed parts ++ codes "]"
print_step names (one.Opt part) = some_text part
print_step names (one.Struct kind parts) =
    slice_index_or names.kinds kind [] ++ codes "(" ++ listed (labelled (fields_of names kind) parts) ++ codes ")"
print_step names (one.Case kind place) = codes "." ++ slice_index_or (cases_of names kind) place []

-- the printed text of a value
abbrev pub print : Names → Value → List ℕ
print names = fold-Value (List ℕ) (print_step names)
