-- A piece of a file that was copied.
use Rattle.std.proofs.Common.{◌≡◌, ℕ, ◌+◌, ◌-◌, ◌<◌, ◌≤◌, min, List, ◌++◌, length, take, drop, Option, Some, sym, ◌∙◌, ap, arith, length-take, length-drop}
use Rattle.std.proofs.lemmas.List.{take_all, take_at}
use Rattle.sv_io.specs.Shelf.{NextPiece}

module _ (file bytes : List ℕ) (o : Option (List ℕ)) (told : o ≡ Some file) (known : o ≡ Some bytes) (place n : ℕ) (buf : List ℕ)
    (within : place ≤ length file) (is : n ≡ min (length (take (length bytes - place) (drop place bytes))) (length buf)) where
  same : bytes ≡ file
  same = cc

  rest : take (length bytes - place) (drop place bytes) ≡ drop place file
  rest = take_all (length bytes - place) (drop place bytes) (omega (arith, length-drop place bytes)) ∙ ap (drop place) same

  count : n ≡ min (length file - place) (length buf)
  count = omega (arith, is, ap length rest, length-drop place file)

  -- as much was taken as there is and fits
  pub taken : n ≡ min (length buf) (length file - place)
  taken = omega (arith, count)

  pub fits : place + n ≤ length file
  fits = omega (arith, count)

  pub copied : (out tail : List ℕ) → 0 < length buf → out ≡ take n (take (length bytes - place) (drop place bytes)) → NextPiece file place (take n (out ++ tail))
  copied out tail room out_is =
      let front : out ≡ take n (drop place file) = out_is ∙ ap (take n) rest in
      let len : length out ≡ n = omega (arith, ap length front, length-take n (drop place file), length-drop place file, count) in
      let piece : take n (out ++ tail) ≡ out = take_at out tail n len in
      let whole : length (take n (out ++ tail)) ≡ n = ap length piece ∙ len in
      record {
        same = ap (λ (k : ℕ). take k (drop place file)) whole ∙ sym front ∙ sym piece;
        within = omega (arith, whole, fits);
        end = λ none. omega (arith, whole, none, count);
      }
