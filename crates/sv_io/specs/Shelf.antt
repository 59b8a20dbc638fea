-- What a contract sees of a shelf of files.
use Rattle.std.specs.Prelude.{◌≡◌, ℕ, ◌+◌, ◌≤◌, Bool, false, List, [], length, take, drop, Option, None, Some}

pub record ShelfState : Type 0 where
  -- from a name to the bytes of that file, where the shelf tells
  pub holds : Option (List ℕ → Option (List ℕ))
  -- the name last handed to `choose`
  pub asked : List ℕ
  -- a file is chosen
  pub chosen : Bool
  -- the bytes taken since that `choose`
  pub offset : ℕ
  -- the last call failed
  pub failed : Bool
  -- how often a call failed
  pub faults : ℕ

-- no call was made yet of the shelf that holds these files
pub record IsNewShelf (files : Option (List ℕ → Option (List ℕ))) (shelf : ShelfState) : Type 0 where
  pub told : shelf.holds ≡ files
  pub unasked : shelf.asked ≡ []
  pub unchosen : shelf.chosen ≡ false
  pub start : shelf.offset ≡ 0
  pub whole : shelf.failed ≡ false
  pub none : shelf.faults ≡ 0

-- the bytes of a file, where the shelf tells them
abbrev pub content : Option (List ℕ → Option (List ℕ)) → List ℕ → Option (List ℕ)
content None name = None
content (Some files) name = files name

-- the piece is what a file has from this place on, and it is empty only at the file's end
pub record NextPiece (file : List ℕ) (place : ℕ) (piece : List ℕ) : Type 0 where
  pub same : take (length piece) (drop place file) ≡ piece
  pub within : place + length piece ≤ length file
  pub end : length piece ≡ 0 → place ≡ length file
