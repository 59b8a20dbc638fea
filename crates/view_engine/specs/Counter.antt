-- What a counter shows: a text with a number in row 11, and a button in row 12, of 80 columns and 24 rows.
use Rattle.std.specs.Prelude.{◌≡◌, ℕ, ◌+◌, ◌-◌, ◌*◌, ◌/◌, ◌<◌, ◌≤◌, ◌==◌, ◌&&◌, not, nat_le, nat_lt, if◌then◌else◌, Bool, true, List, [], ◌∷◌, ◌++◌, length, replicate, decimal, count_by}
use Rattle.std.specs.List.{list_all}
use Rattle.view_engine.specs.Joined.{joined}
use Rattle.view_engine.specs.declared.form.Form.{Form}
use Rattle.view_engine.specs.declared.form.Event.{Event}
use Rattle.view_engine.specs.declared.form.Event.TheVariants.{Tap}

-- a program of one counter: its first number, what a tap on the button adds, the text before the number, the button's label
pub record Shape : Type 0 where
  pub init : ℕ
  pub step : ℕ
  pub prefix : List ℕ
  pub label : List ℕ

abbrev pub shape_of : Form → Shape
shape_of form = record { init = form.init; step = form.step; prefix = form.prefix.items; label = form.label.items }

-- a byte from the space to `~` that is neither `"` nor `\`
abbrev pub is_plain : ℕ → Bool
is_plain b = nat_le 32 b && nat_le b 126 && not (b == 34) && not (b == 92)

-- the parts are in their limits
pub record IsInLimits (shape : Shape) : Type 0 where
  pub init : shape.init < 1000000000
  pub step : shape.step < 1000000000
  pub prefix_short : length shape.prefix ≤ 40
  pub prefix_plain : list_all is_plain shape.prefix ≡ true
  pub label_short : length shape.label ≤ 40
  pub label_plain : list_all is_plain shape.label ≡ true

-- the text with the number
abbrev pub title : Shape → ℕ → List ℕ
title shape number = shape.prefix ++ decimal number

-- the label in brackets
abbrev pub button : Shape → List ℕ
button shape = 91 ∷ shape.label ++ 93 ∷ []

-- the column in which a text of this width begins
abbrev pub left_of : ℕ → ℕ
left_of width = 40 - width / 2

-- 80 cells: the text in the middle, and blanks in all others
unfoldable pub centered : List ℕ → List ℕ
centered text = replicate (left_of (length text)) 32 ++ text ++ replicate (80 - left_of (length text) - length text) 32

-- the cells of row y, of a canvas that shows these two texts
unfoldable pub row_of : List ℕ → List ℕ → ℕ → List ℕ
row_of above below y = if y == 11 then centered above else if y == 12 then centered below else replicate 80 32

-- the cells of row y
abbrev pub row : Shape → ℕ → ℕ → List ℕ
row shape number = row_of (title shape number) (button shape)

-- all cells, row after row
abbrev pub cells : Shape → ℕ → List ℕ
cells shape number = joined (row shape number) 24

-- whether a tap is on the button: in row 12, and in one of its columns
abbrev pub hits : Shape → Event → Bool
hits shape (Tap x y) =
    let width = length shape.label + 2 in y == 12 && (nat_le (left_of width) x && nat_lt x (left_of width + width))

-- the number after these events
abbrev pub number_after : Shape → List Event → ℕ
number_after shape events = shape.init + shape.step * count_by (hits shape) events

-- what one event adds to the number
abbrev pub gain : Shape → Event → ℕ
gain shape event = if hits shape event then shape.step else 0

-- the bodies that one event runs: that of the view, where the number changes
abbrev pub runs_at : Shape → Event → ℕ
runs_at shape event = if gain shape event == 0 then 0 else 1
