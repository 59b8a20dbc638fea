-- Pieces one after another.
use Rattle.std.specs.Prelude.{ℕ, zero, suc, List, [], ◌++◌}

-- what `piece` gives at 0, at 1 and so on, for all numbers below this one, one after another
unfoldable pub joined : (ℕ → List ℕ) → ℕ → List ℕ
joined piece zero = []
joined piece (suc n) = joined piece n ++ piece n
