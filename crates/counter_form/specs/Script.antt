-- How a script of taps is spelled.
use Rattle.std.specs.Prelude.{◌≡◌, ◌≤◌, ℕ, true, List, [], ◌∷◌, ◌++◌, length}
use Rattle.view_engine.specs.declared.form.Event.{Event}
use Rattle.view_engine.specs.declared.form.Event.TheVariants.{Tap as TapOn}
use Rattle.counter_form.specs.Pieces.{is_of, value, word_of}
use Rattle.counter_form.specs.declared.pieces.Kind.TheVariants.{Coordinate}
use Rattle.counter_form.specs.declared.pieces.Piece.TheVariants.{Tap, Gap, TapEnd}

-- the bytes are a line `tap X Y` with its LF, and then the rest
pub record SpellsTap (event : Event) (bytes rest : List ℕ) : Type 0 where
  pub x : List ℕ
  pub y : List ℕ
  pub x_digits : is_of Coordinate x ≡ true
  pub y_digits : is_of Coordinate y ≡ true
  pub event_is : event ≡ TapOn (value x) (value y)
  pub whole : bytes ≡ word_of Tap ++ (x ++ (word_of Gap ++ (y ++ (word_of TapEnd ++ rest))))

-- the bytes are a line for each of these events, in their order
abbrev pub SpellsTaps : List Event → List ℕ → Type 0
SpellsTaps [] bytes = bytes ≡ []
SpellsTaps (event ∷ events) bytes = (rest : List ℕ) × SpellsTap event bytes rest × SpellsTaps events rest

-- at most 10,000 lines `tap X Y`
pub record SpellsScript (bytes : List ℕ) (events : List Event) : Type 0 where
  pub taps : SpellsTaps events bytes
  pub few : length events ≤ 10000
