-- Lists of one item and of two.
use Rattle.std.specs.Prelude.{List, [], ◌∷◌, Option, Some, None}
use Rattle.post_rules.specs.declared.chained.BuiltIn.{BuiltIn}
use Rattle.post_rules.specs.declared.chained.BuiltIn.TheVariants as built_in
use Rattle.post_rules.specs.declared.chained.Method.{Method}
use Rattle.post_rules.specs.declared.chained.Method.TheVariants as method

-- the item of a list of one
abbrev pub first_of_one : {A : Type 0} → List A → Option A
first_of_one (x ∷ []) = Some x
first_of_one _ = None

-- both items of a list of two
abbrev pub both_of_two : {A : Type 0} → List A → Option (A × A)
both_of_two (x ∷ y ∷ []) = Some (x, y)
both_of_two _ = None

-- of the functions without arguments alone
abbrev pub if_bare : {A : Type 0} → Method → Option A → Option A
if_bare method.RemoveFirst o = o
if_bare method.RemoveLast o = o
if_bare method.RemoveAll o = o
if_bare _ o = None

-- of the functions with two arguments alone
abbrev pub if_two : {A : Type 0} → BuiltIn → Option A → Option A
if_two built_in.Text o = o
if_two built_in.Min o = o
if_two built_in.Max o = o
if_two _ o = None
