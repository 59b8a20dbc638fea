-- Hexadecimal digits.
use Rattle.std.proofs.lemmas.Grind.{common_steps}
use Rattle.std.proofs.Common.{◌^◌, ◌≡◌, ℕ, zero, suc, ◌+◌, ◌*◌, ◌<◌, ◌≤◌, List, [], ◌∷◌, length, get_or, drop, refl, arith, add-one, drop-cons}
use Rattle.swift_lex.specs.Spellings.{digit_value, hex_value}

pub hex_step : (bs : List ℕ) (i n : ℕ) → i < length bs → hex_value n (drop i bs) ≡ hex_value (16 * n + digit_value (get_or bs i 0)) (drop (i + 1) bs)
hex_step bs i n lt = rw (add-one, drop-cons bs i 0) refl

pub hex_end : (bs : List ℕ) (i n : ℕ) → length bs ≤ i → hex_value n (drop i bs) ≡ n
hex_end [] zero n le = refl
hex_end [] (suc i) n le = refl
hex_end (b ∷ bs) zero n le = absurd (omega arith)
hex_end (b ∷ bs) (suc i) n le = hex_end bs i n (omega arith)

-- up to eight digits stay small
pub hex_small : (n i : ℕ) → i < 8 → n < 17 ^ i → 16 * n + 16 < 2 ^ 64
hex_small n zero lt h = omega arith
hex_small n (suc zero) lt h = omega arith
hex_small n (suc (suc zero)) lt h = omega arith
hex_small n (suc (suc (suc zero))) lt h = omega arith
hex_small n (suc (suc (suc (suc zero)))) lt h = omega arith
hex_small n (suc (suc (suc (suc (suc zero))))) lt h = omega arith
hex_small n (suc (suc (suc (suc (suc (suc zero)))))) lt h = omega arith
hex_small n (suc (suc (suc (suc (suc (suc (suc zero))))))) lt h = omega arith
hex_small n (suc (suc (suc (suc (suc (suc (suc (suc i)))))))) lt h = absurd (omega arith)

pub hex_grows : (n i d : ℕ) → n < 17 ^ i → d ≤ 16 → 16 * n + d < 17 ^ (i + 1)
hex_grows n i d h le = let e : 17 ^ (i + 1) ≡ 17 ^ i * 17 = grind (arith, common_steps) in omega arith
