-- The words of a line, and the number that a word spells.
use Rattle.std.specs.Prelude.{ℕ, ◌+◌, ◌-◌, ◌*◌, ◌==◌, ◌||◌, ◌&&◌, Bool, List, length, filter, fold, nat_lt, nat_le, Option, Some, None, if◌then◌else◌}
use Rattle.std.specs.List.{slice_split, list_all}
use Rattle.std.specs.Char.{is_ascii_digit}

-- a space or a tab
abbrev pub is_blank : ℕ → Bool
is_blank byte = (byte == 32) || (byte == 9)

-- what stands between blanks, but for what is empty
abbrev pub words : List ℕ → List (List ℕ)
words line = filter (λ part. nat_lt 0 (length part)) (slice_split is_blank line)

-- the number that decimal digits spell, where they continue the digits of this value
abbrev pub decimal : ℕ → List ℕ → ℕ
decimal value digits = fold (λ before digit. 10 * before + (digit - 48)) value digits

-- the number of a word of one to four digits
abbrev pub number_of : List ℕ → Option ℕ
number_of word =
    if nat_lt 0 (length word) && nat_le (length word) 4 && list_all is_ascii_digit word
    then Some (decimal 0 word) else None
