-- How a program of one counter is spelled.
use Rattle.std.specs.Prelude.{◌≡◌, ◌==◌, ℕ, Bool, true, false, List, [], ◌∷◌, ◌++◌}
use Rattle.view_engine.specs.Counter.{Shape}
use Rattle.counter_form.specs.Pieces.{is_of, value, word_of}
use Rattle.counter_form.specs.declared.pieces.Kind.TheVariants.{Spaces, Caption, Number}
use Rattle.counter_form.specs.declared.pieces.Piece.TheVariants.{AppLine, ViewLine, BeforeInit, AfterInit, BeforePrefix, BeforeLabel, BeforeStep, AfterStep, LastLine}

-- what may stand behind the last brace: an LF, or nothing
abbrev pub is_ending : List ℕ → Bool
is_ending [] = true
is_ending (b ∷ []) = b == 10
is_ending (b ∷ c ∷ bs) = false

-- Five lines, each with any number of spaces before it and LF after it; the last LF may be missing:
--
--     @main struct A: App { var body: some Scene { WindowGroup { Main() } } }
--     struct Main: View {
--     @State private var n = INIT
--     var body: some View { VStack { Text("P\(n)"); Button("L") { n += D } } }
--     }
--
-- INIT and D are decimal digits as they are written, P and L texts.
pub record SpellsApp (bytes : List ℕ) (shape : Shape) : Type 0 where
  pub spaces1 : List ℕ
  pub spaces2 : List ℕ
  pub spaces3 : List ℕ
  pub spaces4 : List ℕ
  pub spaces5 : List ℕ
  pub init : List ℕ
  pub step : List ℕ
  pub ending : List ℕ
  pub blank1 : is_of Spaces spaces1 ≡ true
  pub blank2 : is_of Spaces spaces2 ≡ true
  pub blank3 : is_of Spaces spaces3 ≡ true
  pub blank4 : is_of Spaces spaces4 ≡ true
  pub blank5 : is_of Spaces spaces5 ≡ true
  pub init_digits : is_of Number init ≡ true
  pub init_value : shape.init ≡ value init
  pub step_digits : is_of Number step ≡ true
  pub step_value : shape.step ≡ value step
  pub prefix_text : is_of Caption shape.prefix ≡ true
  pub label_text : is_of Caption shape.label ≡ true
  pub last : is_ending ending ≡ true
  pub whole : bytes ≡ spaces1 ++ (word_of AppLine ++ (spaces2 ++ (word_of ViewLine
      ++ (spaces3 ++ (word_of BeforeInit ++ (init ++ (word_of AfterInit
      ++ (spaces4 ++ (word_of BeforePrefix ++ (shape.prefix ++ (word_of BeforeLabel ++ (shape.label ++ (word_of BeforeStep ++ (step ++ (word_of AfterStep
      ++ (spaces5 ++ (word_of LastLine ++ ending)))))))))))))))))
