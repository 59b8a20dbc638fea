-- Files by their names.
use Rattle.std.specs.Prelude.{◌≢◌, ℕ, Bool, ◌==◌, All, List, [], ◌∷◌, Option, Some, None, if◌then◌else◌, nat_eq}
use Rattle.std.specs.List.{list_any}
use lib.Pointwise.{pointwise}

-- the bytes of the first file of this name
abbrev pub file_in : {F : Type 0} → (F → List ℕ) → (F → List ℕ) → List F → List ℕ → Option (List ℕ)
file_in name_of bytes_of [] name = None
file_in name_of bytes_of (file ∷ files) name =
    if pointwise nat_eq (name_of file) name then Some (bytes_of file) else file_in name_of bytes_of files name

-- no two of these files have one name
abbrev pub NamesDiffer : {F : Type 0} → (F → List ℕ) → List F → Type 0
NamesDiffer name_of [] = Unit {0}
NamesDiffer name_of (file ∷ files) = All (λ other. name_of other ≢ name_of file) files × NamesDiffer name_of files

-- the number of this call is in the list of those that are to fail
abbrev pub is_listed : ℕ → List ℕ → Bool
is_listed call fails = list_any (λ listed. listed == call) fails
