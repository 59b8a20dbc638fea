use Rattle.std.proofs.Common.{◌≡◌, ℕ, zero, suc, ◌+◌, ◌<◌, ◌≤◌, List, [], ◌∷◌, length, get_or, drop, refl, arith, add-one, drop-cons}
use Rattle.swift_lex.specs.declared.place.Place.{Place}
use Rattle.swift_lex.specs.Tokens.{moved, past}

pub moved_turn : (bs : List ℕ) (i : ℕ) (p : Place) → i < length bs → moved (drop i bs) p ≡ moved (drop (i + 1) bs) (past (get_or bs i 0) p)
moved_turn bs i p lt = rw (add-one, drop-cons bs i 0) refl

pub moved_end : (bs : List ℕ) (i : ℕ) (p : Place) → length bs ≤ i → moved (drop i bs) p ≡ p
moved_end [] zero p le = refl
moved_end [] (suc i) p le = refl
moved_end (b ∷ bs) zero p le = absurd (omega arith)
moved_end (b ∷ bs) (suc i) p le = moved_end bs i p (omega arith)
