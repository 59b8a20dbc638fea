-- The modifiers and attributes before a member.
use Rattle.std.specs.Prelude.{◌≡◌, Bool, true, false, ◌&&◌, ◌||◌, List, [], ◌∷◌, Option, Some, None, ℕ, codes}
use Rattle.std.specs.List.{list_any}
use Rattle.std.specs.Str.{bytes_eq}
use Rattle.swift_ast.specs.declared.piece.Access.{Access}
use Rattle.swift_ast.specs.declared.piece.Access.TheVariants.{Private}
use Rattle.swift_ast.specs.declared.piece.Modifier.{Modifier}
use Rattle.swift_ast.specs.declared.piece.Modifier.TheVariants as word
use Rattle.member_forms.specs.declared.marks.Mark.{Mark}
use Rattle.member_forms.specs.declared.marks.Mark.TheVariants as mark

-- `private`, `fileprivate`, `internal` or `public`
abbrev pub is_access : Modifier → Bool
is_access (word.Access a) = true
is_access _ = false

abbrev pub is_mark : Mark → Modifier → Bool
is_mark mark.Static word.Static = true
is_mark mark.Mutating word.Mutating = true
is_mark mark.State (word.Attribute a) = bytes_eq a.name (codes "@State")
is_mark mark.Binding (word.Attribute a) = bytes_eq a.name (codes "@Binding")
is_mark mark.Environment (word.Attribute a) = bytes_eq a.name (codes "@Environment")
is_mark mark.ViewBuilder (word.Attribute a) = bytes_eq a.name (codes "@ViewBuilder")
is_mark _ _ = false

-- nothing stands there but one word of access at most
abbrev pub bare : List Modifier → Bool
bare [] = true
bare (m ∷ []) = is_access m
bare _ = false

-- the mark stands there once, and nothing else but one word of access at most, before it or after it
abbrev pub marked : Mark → List Modifier → Bool
marked k (m ∷ []) = is_mark k m
marked k (m ∷ n ∷ []) = (is_access m && is_mark k n) || (is_mark k m && is_access n)
marked k _ = false

abbrev pub is_private_word : Modifier → Bool
is_private_word (word.Access Private) = true
is_private_word _ = false

-- `private` stands there; the other words of access restrict nothing
abbrev pub is_private : List Modifier → Bool
is_private = list_any is_private_word

abbrev pub first_some : Option (List ℕ) → Option (List ℕ) → Option (List ℕ)
first_some (Some w) o = Some w
first_some None o = o

abbrev pub argument_of : Modifier → Option (List ℕ)
argument_of (word.Attribute a) = a.argument
argument_of _ = None

-- the name in `@Environment(\.name)`, where a word of access at most stands beside it
abbrev pub environment_key : List Modifier → Option (List ℕ)
environment_key (m ∷ []) = argument_of m
environment_key (m ∷ n ∷ []) = first_some (argument_of m) (argument_of n)
environment_key _ = None
