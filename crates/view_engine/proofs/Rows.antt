-- The rows of a canvas.
use Rattle.std.proofs.Common.{◌≡◌, ℕ, zero, suc, ◌+◌, ◌-◌, ◌*◌, ◌/◌, ◌<◌, ◌≤◌, inl, inr, ◌==◌, Bool, true, false, if◌then◌else◌, List, ◌++◌, length, take, drop, replicate, sym, ◌∙◌, ap, arith, length-append, length-drop}
use Rattle.std.proofs.Math.Nat.{mul-le-mul_left}
use Rattle.std.proofs.Math.Seq.{drop-append_seam}
use Rattle.std.proofs.lemmas.Bool.{cases_lt}
use Rattle.std.proofs.lemmas.List.{take-append-le, drop-append-le, take_all, length-replicate}
use Rattle.view_engine.specs.Joined.{joined}
use Rattle.view_engine.specs.Counter.{Shape, centered, row_of, left_of, row, title, button}
use Rattle.view_engine.specs.Moments.{Shows}
use Rattle.view_engine.specs.declared.form.Canvas.{Canvas}

-- pieces of one length make a list that many times as long
pub length-joined : (piece : ℕ → List ℕ) (width n : ℕ) → ((k : ℕ) → k < n → length (piece k) ≡ width) → length (joined piece n) ≡ width * n
unfolding joined
length-joined piece width zero each = omega arith
length-joined piece width (suc n) each =
    let before : length (joined piece n) ≡ width * n = length-joined piece width n (λ k below. each k (omega arith)) in
    let last : length (piece n) ≡ width = each n (omega arith) in
    omega (arith, length-append (joined piece n) (piece n))

module _ (piece : ℕ → List ℕ) (width n y : ℕ) (long : length (joined piece n) ≡ width * n) where
  -- a piece that stands before the last one
  take-joined-before : y < n → (last : List ℕ) → take width (drop (width * y) (joined piece n ++ last)) ≡ take width (drop (width * y) (joined piece n))
  take-joined-before below last =
      let more : width * (y + 1) ≤ width * n = mul-le-mul_left width (omega arith) in
      let front : width * y ≤ length (joined piece n) = omega arith in
      let room : width ≤ length (drop (width * y) (joined piece n)) = omega (arith, length-drop (width * y) (joined piece n)) in
      ap (take width) (drop-append-le (width * y) (joined piece n) last front) ∙ take-append-le width (drop (width * y) (joined piece n)) last room

  -- the last piece
  take-joined-last : y ≡ n → (last : List ℕ) → length last ≡ width → take width (drop (width * y) (joined piece n ++ last)) ≡ last
  take-joined-last is last wide =
      let place : width * y ≡ length (joined piece n) = ap (λ (k : ℕ). width * k) is ∙ sym long in
      ap (λ (k : ℕ). take width (drop k (joined piece n ++ last))) place ∙ ap (take width) (drop-append_seam (joined piece n) last)
      ∙ take_all width last (omega arith)

-- each piece can be read at its place
pub take-joined : (piece : ℕ → List ℕ) (width n y : ℕ) → ((k : ℕ) → k < n → length (piece k) ≡ width) → y < n
    → take width (drop (width * y) (joined piece n)) ≡ piece y
unfolding joined
take-joined piece width zero y each below = absurd (omega arith)
take-joined piece width (suc n) y each below =
    let each_before : (k : ℕ) → k < n → length (piece k) ≡ width = λ k h. each k (omega arith) in
    let long = length-joined piece width n each_before in
    elim (cases_lt y n) [
      | inl before ↦ take-joined-before piece width n y long before (piece n) ∙ take-joined piece width n y each_before before
      | inr not_before ↦
          let is : y ≡ n = omega arith in
          take-joined-last piece width n y long is (piece n) (each n (omega arith)) ∙ ap piece (sym is)
    ]

length-padded : (left right : ℕ) (text : List ℕ) → left + length text + right ≡ 80 → length (replicate {A = ℕ} left 32 ++ text ++ replicate {A = ℕ} right 32) ≡ 80
length-padded left right text all =
    let before : length (replicate {A = ℕ} left 32) ≡ left = length-replicate {A = ℕ} left 32 in
    let after : length (replicate {A = ℕ} right 32) ≡ right = length-replicate {A = ℕ} right 32 in
    length-append (replicate {A = ℕ} left 32 ++ text) (replicate {A = ℕ} right 32)
    ∙ omega (arith, length-append (replicate {A = ℕ} left 32) text)

margins : (width : ℕ) → width ≤ 80 → 40 - width / 2 + width + (80 - (40 - width / 2) - width) ≡ 80
margins width fits = omega arith

length-centered : (text : List ℕ) → length text ≤ 80 → length (centered text) ≡ 80
unfolding centered
length-centered text fits = length-padded (left_of (length text)) (80 - left_of (length text) - length text) text (margins (length text) fits)

pub length-row_of : (above below : List ℕ) (y : ℕ) → length above ≤ 80 → length below ≤ 80 → length (row_of above below y) ≡ 80
unfolding row_of
length-row_of above below y a b =
    elim (y == 11) as (λ (t : Bool). length (if t then centered above else if y == 12 then centered below else replicate 80 32) ≡ 80) [
      | true ↦ length-centered above a
      | false ↦ elim (y == 12) as (λ (t : Bool). length (if t then centered below else replicate 80 32) ≡ 80) [
        | true ↦ length-centered below b
        | false ↦ length-replicate {A = ℕ} 80 32
      ]
    ]

-- a canvas made of these rows shows the number
pub shown : (canvas : Canvas) (shape : Shape) (number : ℕ) (above below : List ℕ) → above ≡ title shape number → below ≡ button shape
    → length above ≤ 80 → length below ≤ 80 → canvas.size.w ≡ 80 → canvas.size.h ≡ 24 → canvas.cells.items ≡ joined (row_of above below) 24 → Shows canvas shape number
shown canvas shape number above below above_is below_is above_short below_short width height made =
    let rows_are : row_of above below ≡ row shape number = λ i. row_of (above_is i) (below_is i) in
    record {
      width = width;
      height = height;
      cells_are = made ∙ ap (λ (f : ℕ → List ℕ). joined f 24) rows_are;
      rows = λ y inside. ap (λ (l : List ℕ). take 80 (drop (80 * y) l)) made
          ∙ take-joined (row_of above below) 80 24 y (λ k _. length-row_of above below k above_short below_short) inside
          ∙ ap (λ (f : ℕ → List ℕ). f y) rows_are;
    }
