-- What an operator or a built-in call answers, and the printed words of the traps.
use Rattle.std.specs.Prelude.{◌≡◌, ℕ, List, Option, Some, Result, Ok, Err, codes, ⊤}
use Rattle.value_calls.specs.declared.traps.TrapKind.{TrapKind}
use Rattle.value_calls.specs.declared.traps.TrapKind.TheVariants.{Overflow, Zero, Index, Nil, Range, Fuel, Calls, Weight, Depth, Nodes}
use Rattle.value_calls.specs.declared.traps.Stop.{Stop}
use Rattle.value_calls.specs.declared.traps.Stop.TheVariants.{Trap, OutOfMemory}

-- an answer or a trap, and nothing where the operands are of other types
abbrev pub Outcome : Type 0 → Type 0
Outcome A = Option (Result A TrapKind)

-- The result is that of the definition, the kind of a trap too. Of memory the definition knows nothing.
abbrev pub Answers : {A : Type 0} → Result A Stop → Outcome A → Type 0
Answers (Ok answer) outcome = outcome ≡ Some (Ok answer)
Answers (Err (Trap kind)) outcome = outcome ≡ Some (Err kind)
Answers (Err OutOfMemory) outcome = ⊤

-- the word that a trap prints
abbrev pub word_of : TrapKind → List ℕ
word_of Overflow = codes "overflow"
word_of Zero = codes "zero"
word_of Index = codes "index"
word_of Nil = codes "nil"
word_of Range = codes "range"
word_of Fuel = codes "fuel"
word_of Calls = codes "calls"
word_of Weight = codes "weight"
word_of Depth = codes "depth"
word_of Nodes = codes "nodes"
