-- One piece more, and a row of blanks.
use Rattle.std.proofs.Common.{◌≡◌, ℕ, ◌+◌, ◌≤◌, List, ◌++◌, take, replicate, add-one}
use Rattle.std.proofs.lemmas.List.{take-replicate}
use Rattle.view_engine.specs.Joined.{joined}

pub joined_more : (piece : ℕ → List ℕ) (n : ℕ) → joined piece (n + 1) ≡ joined piece n ++ piece n
unfolding joined
joined_more piece n = rw add-one

pub blanks : (n : ℕ) → n ≤ 80 → take {A = ℕ} n (replicate {A = ℕ} 80 32) ≡ replicate {A = ℕ} n 32
blanks n fits = take-replicate {X = ℕ} n 80 32 fits
