-- What the words ask for.
use Rattle.std.specs.Prelude.{ℕ, ◌==◌, ◌||◌, if◌then◌else◌, Bool, false, List, [], ◌∷◌, Option, Some, None}

-- the names of the two files
pub record Names : Type 0 where
  pub app : List ℕ
  pub script : List ℕ

-- a word that begins with `-`
abbrev pub is_option : List ℕ → Bool
is_option [] = false
is_option (b ∷ bs) = b == 45

-- the program's name, APP and SCRIPT
abbrev pub form_of : List (List ℕ) → Option Names
form_of (program ∷ app ∷ script ∷ []) = if is_option app || is_option script then None else Some (record { app = app; script = script })
form_of _ = None
