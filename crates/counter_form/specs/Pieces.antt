-- The pieces of the two forms: each is a text that may vary, of some kind, and then a fixed word.
use Rattle.std.specs.Prelude.{◌≡◌, ℕ, ◌+◌, ◌-◌, ◌*◌, ◌==◌, ◌&&◌, nat_le, Bool, true, false, List, ◌++◌, length, fold, codes}
use Rattle.std.specs.List.{list_all}
use Rattle.view_engine.specs.Counter.{is_plain}
use Rattle.counter_form.specs.declared.pieces.Kind.{Kind}
use Rattle.counter_form.specs.declared.pieces.Kind.TheVariants.{Nothing, Spaces, Caption, Number, Coordinate}
use Rattle.counter_form.specs.declared.pieces.Piece.{Piece}
use Rattle.counter_form.specs.declared.pieces.Piece.TheVariants.{AppLine, ViewLine, BeforeInit, AfterInit, BeforePrefix, BeforeLabel, BeforeStep, AfterStep, LastLine, Tap, Gap, TapEnd}

-- a decimal digit
abbrev pub is_digit : ℕ → Bool
is_digit b = nat_le 48 b && nat_le b 57

-- the bytes of which a text of this kind is made
abbrev pub is_in : Kind → ℕ → Bool
is_in Nothing b = false
is_in Spaces b = b == 32
is_in Caption b = is_plain b
is_in Number b = is_digit b
is_in Coordinate b = is_digit b

-- how long such a text may be
abbrev pub has_length : Kind → ℕ → Bool
has_length Nothing n = true
has_length Spaces n = true
has_length Caption n = nat_le n 40
has_length Number n = nat_le 1 n && nat_le n 9
has_length Coordinate n = nat_le 1 n && nat_le n 4

-- a text of this kind
abbrev pub is_of : Kind → List ℕ → Bool
is_of kind text = list_all (is_in kind) text && has_length kind (length text)

-- the number that decimal digits spell
abbrev pub value : List ℕ → ℕ
value digits = fold (λ n digit. 10 * n + (digit - 48)) 0 digits

-- the kind of a piece's text
abbrev pub kind_of : Piece → Kind
kind_of AppLine = Spaces
kind_of ViewLine = Spaces
kind_of BeforeInit = Spaces
kind_of AfterInit = Number
kind_of BeforePrefix = Spaces
kind_of BeforeLabel = Caption
kind_of BeforeStep = Caption
kind_of AfterStep = Number
kind_of LastLine = Spaces
kind_of Tap = Nothing
kind_of Gap = Coordinate
kind_of TapEnd = Coordinate

-- a piece's word, with `\n` for the end of a line
unfoldable pub word_of : Piece → List ℕ
word_of AppLine = codes "@main struct A: App { var body: some Scene { WindowGroup { Main() } } }\n"
word_of ViewLine = codes "struct Main: View {\n"
word_of BeforeInit = codes "@State private var n = "
word_of AfterInit = codes "\n"
word_of BeforePrefix = codes "var body: some View { VStack { Text(\""
word_of BeforeLabel = codes "\\(n)\"); Button(\""
word_of BeforeStep = codes "\") { n += "
word_of AfterStep = codes " } } }\n"
word_of LastLine = codes "}"
word_of Tap = codes "tap "
word_of Gap = codes " "
word_of TapEnd = codes "\n"

-- the bytes are a piece with this text, and then the rest
pub record Cut (piece : Piece) (bytes text rest : List ℕ) : Type 0 where
  pub kind : is_of (kind_of piece) text ≡ true
  pub whole : bytes ≡ text ++ (word_of piece ++ rest)
