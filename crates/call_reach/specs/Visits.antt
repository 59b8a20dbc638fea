-- Marks that are set, and the numbers of those marked whose callers are still to be marked.
use Rattle.std.specs.Prelude.{ℕ, Bool, true, false, not, List, [], ◌∷◌, ◌++◌, Option, Some, None, slice_get, slice_set, if◌then◌else◌}

abbrev pub open_mark : Option Bool → Bool
open_mark None = false
open_mark (Some b) = not b

-- there is a mark of this number, and it is not set
abbrev pub is_open : List Bool → ℕ → Bool
is_open marks i = open_mark (slice_get marks i)

abbrev pub marks_with : List Bool → ℕ → List Bool
marks_with marks i = if is_open marks i then slice_set marks i true else marks

abbrev pub work_with : List Bool → List ℕ → ℕ → List ℕ
work_with marks work i = if is_open marks i then work ++ i ∷ [] else work

-- the marks of these numbers are set
abbrev pub visit_marks : List Bool → List ℕ → List Bool
visit_marks marks [] = marks
visit_marks marks (i ∷ is) = visit_marks (marks_with marks i) is

-- and those that were not set before are to be followed
abbrev pub visit_work : List Bool → List ℕ → List ℕ → List ℕ
visit_work marks work [] = work
visit_work marks work (i ∷ is) = visit_work (marks_with marks i) (work_with marks work i) is
