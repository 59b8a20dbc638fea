-- One frame after another.
use Rattle.std.proofs.Common.{◌≡◌, ℕ, zero, suc, ◌+◌, ◌*◌, ◌<◌, ◌≤◌, inl, inr, ◌==◌, if◌then◌else◌, Bool, true, false, List, [], ◌∷◌, ◌++◌, length, get_or, take, drop, decimal, codes, Option, refl, sym, ◌∙◌, ap, subst, arith, append_assoc, append-nil, count_by, replicate, ◌-◌, slice_range, length-take, length-drop}
use Rattle.std.specs.Io.KnownBytes.{append_known}
use Rattle.std.proofs.lemmas.Bool.{cases_lt}
use Rattle.std.proofs.lemmas.List.Sums.{count_by_more_yes, count_by_more_no}
use Rattle.sv_io.specs.Sink.{SentAll, SentPart}
use Rattle.sv_io.proofs.Sending.{sent_part, sent_some, append_known-nil, append_known-more}
use Rattle.view_engine.specs.Joined.{joined}
use Rattle.view_engine.specs.Counter.{Shape, row, row_of, hits, gain, runs_at, number_after}
use Rattle.view_engine.specs.Moments.{Moment, Shows, delivered, first_of}
use Rattle.view_engine.specs.declared.form.Event.{Event}
use Rattle.view_engine.specs.declared.form.Canvas.{Canvas}
use Rattle.view_engine.proofs.Joining.{joined_more}
use Rattle.std.proofs.lemmas.List.{length-replicate}
use Rattle.app_top.specs.Output.{frame_text, frame_at, bodies_run}

-- the moment after the first k events
abbrev pub moment_at : Shape → List Event → ℕ → Moment
moment_at shape events k = record { shape = shape; number = number_after shape (take k events); deliveries = k; halted = false }

-- pieces that are the same make the same list
pub joined_same : (f g : ℕ → List ℕ) (n : ℕ) → ((k : ℕ) → k < n → f k ≡ g k) → joined f n ≡ joined g n
unfolding joined
joined_same f g zero same = refl
joined_same f g (suc n) same =
    let before = joined_same f g n (λ k below. same k (omega arith)) in
    let last : f n ≡ g n = same n (omega arith) in
    λ i. before i ++ last i

-- a list of pieces goes on with the next one
pub joined_split : (piece : ℕ → List ℕ) (k n : ℕ) → k < n → (rest : List ℕ) × (joined piece n ≡ joined piece k ++ (piece k ++ rest))
unfolding joined
joined_split piece k zero below = absurd (omega arith)
joined_split piece k (suc n) below =
    elim (cases_lt k n) [
      | inl before ↦
          let more = joined_split piece k n before in (
            more.0 ++ piece n,
            ap (λ (l : List ℕ). l ++ piece n) more.1 ∙ append_assoc (joined piece k) (piece k ++ more.0) (piece n)
                ∙ ap (λ (l : List ℕ). joined piece k ++ l) (append_assoc (piece k) more.0 (piece n)),
          )
      | inr past ↦
          let is : n ≡ k = omega arith in
          ([], (λ i. joined piece (is i) ++ piece (is i)) ∙ ap (λ (l : List ℕ). joined piece k ++ l) (sym (append-nil (piece k))))
    ]

-- a piece more
pub joined_sent : (before mid after : Option (List ℕ)) (piece : ℕ → List ℕ) (k : ℕ) → SentAll before mid (joined piece k) → SentAll mid after (piece k)
    → SentAll before after (joined piece (k + 1))
joined_sent before mid after piece k so_far sent =
    sent ∙ ap (λ (o : Option (List ℕ)). append_known o (piece k)) so_far ∙ append_known-more before (joined piece k) (piece k)
    ∙ ap (append_known before) (sym (joined_more piece k))

-- a part of a piece more is a part of all
pub joined_part : (before mid after : Option (List ℕ)) (piece : ℕ → List ℕ) (k n : ℕ) → SentAll before mid (joined piece k) → k < n → SentPart mid after (piece k)
    → SentPart before after (joined piece n)
joined_part before mid after piece k n so_far below part =
    let split = joined_split piece k n below in
    sent_part (piece k) split.0 (record { sent = joined piece k; whole = sym split.1; told = so_far }) refl part

-- so much is a part of all
pub joined_some : (before mid : Option (List ℕ)) (piece : ℕ → List ℕ) (k n : ℕ) → SentAll before mid (joined piece k) → k < n → SentPart before mid (joined piece n)
joined_some before mid piece k n so_far below =
    let split = joined_split piece k n below in
    sent_some {rest = piece k ++ split.0} (record { sent = joined piece k; whole = sym split.1; told = so_far })

-- the first piece
pub none_sent : (before : Option (List ℕ)) (piece : ℕ → List ℕ) → SentAll before before (joined piece 0)
unfolding joined
none_sent before piece = sym (append_known-nil before)

count_by_case : (p : Event → Bool) (events : List Event) (i : ℕ) (d event : Event) → i < length events → event ≡ get_or events i d → (b : Bool) → p event ≡ b
    → count_by p (take (i + 1) events) ≡ count_by p (take i events) + (if b then 1 else 0)
count_by_case p events i d event below is true passes = count_by_more_yes p events i d below (ap p (sym is) ∙ passes)
count_by_case p events i d event below is false fails =
    let same = count_by_more_no p events i d below (ap p (sym is) ∙ fails) in
    omega arith

number_by : (step before now : ℕ) (b : Bool) → now ≡ before + (if b then 1 else 0) → step * now ≡ step * before + (if b then step else 0)
number_by step before now true is = ap (λ (n : ℕ). step * n) is ∙ omega arith
number_by step before now false is = ap (λ (n : ℕ). step * n) is ∙ omega arith

runs_by_zero : (before now : ℕ) (zero_step : Bool) → now ≡ before + 1
    → 2 + (if zero_step then 0 else now) ≡ 2 + (if zero_step then 0 else before) + (if zero_step then 0 else 1)
runs_by_zero before now true is = refl
runs_by_zero before now false is = omega arith

runs_by : (step before now : ℕ) (b : Bool) → now ≡ before + (if b then 1 else 0)
    → 2 + (if step == 0 then 0 else now) ≡ 2 + (if step == 0 then 0 else before) + (if (if b then step else 0) == 0 then 0 else 1)
runs_by step before now true is = runs_by_zero before now (step == 0) is
runs_by step before now false is =
    let same : now ≡ before = omega arith in
    let P : ℕ → Type 0 = λ n. 2 + (if step == 0 then 0 else n) ≡ 2 + (if step == 0 then 0 else before) + 0 in
    subst P (sym same) (omega arith)

module _ (shape : Shape) (events : List Event) (i : ℕ) (d event : Event) (below : i < length events) (is : event ≡ get_or events i d) where
  pub number_more : number_after shape (take (i + 1) events) ≡ number_after shape (take i events) + gain shape event
  number_more =
      let count = count_by_case (hits shape) events i d event below is (hits shape event) refl in
      let product = number_by shape.step (count_by (hits shape) (take i events)) (count_by (hits shape) (take (i + 1) events)) (hits shape event) count in
      omega arith

  pub runs_more : bodies_run shape (take (i + 1) events) ≡ bodies_run shape (take i events) + runs_at shape event
  runs_more = runs_by shape.step (count_by (hits shape) (take i events)) (count_by (hits shape) (take (i + 1) events)) (hits shape event)
      (count_by_case (hits shape) events i d event below is (hits shape event) refl)

  pub moment_more : (old new : Moment) → old ≡ moment_at shape events i → new ≡ delivered old event → new ≡ moment_at shape events (i + 1)
  moment_more old new at next = next ∙ ap (λ (m : Moment). delivered m event) at
      ∙ (λ j. record { shape = shape; number = (sym number_more) j; deliveries = i + 1; halted = false })

pub moment_first : (shape : Shape) (events : List Event) → first_of shape ≡ moment_at shape events 0
moment_first shape events =
    let number : shape.init ≡ number_after shape (take 0 events) = omega arith in
    λ j. record { shape = shape; number = number j; deliveries = 0; halted = false }

-- what an engine shows at a moment is that moment's frame
pub frame_is : (shape : Shape) (events : List Event) (k i : ℕ) (now : Moment) → now ≡ moment_at shape events i → k ≡ i
    → frame_text k now.shape now.number ≡ frame_at shape events i
frame_is shape events k i now at is = λ j. frame_text (is j) (at j).shape (at j).number

-- no event ran no body but the two at launch
pub runs_none : (shape : Shape) → bodies_run shape [] ≡ 2
runs_none shape = elim (shape.step == 0) as (λ (b : Bool). 2 + (if b then 0 else 0) ≡ 2) [ true ↦ refl | false ↦ refl ]

-- the canvas's rows, line by line, are the frame
pub rows_shown : (canvas : Canvas) (k : ℕ) (shape : Shape) (number : ℕ) (cells : List ℕ) → cells ≡ canvas.cells.items → Shows canvas shape number
    → codes "frame " ++ decimal k ++ 10 ∷ [] ++ joined (λ y. take 80 (drop (80 * y) cells) ++ 10 ∷ []) 24 ≡ frame_text k shape number
unfolding frame_text
rows_shown canvas k shape number cells same shows = ap (λ (l : List ℕ). codes "frame " ++ decimal k ++ 10 ∷ [] ++ l)
    (joined_same (λ y. take 80 (drop (80 * y) cells) ++ 10 ∷ []) (λ y. row shape number y ++ 10 ∷ []) 24
    (λ y below. ap (λ (l : List ℕ). l ++ 10 ∷ []) (ap (λ (l : List ℕ). take 80 (drop (80 * y) l)) same ∙ shows.rows y below)))

-- so a canvas has that many cells
pub cells_enough : (canvas : Canvas) (shape : Shape) (number : ℕ) → Shows canvas shape number → 1920 ≤ length canvas.cells.items
unfolding row_of
cells_enough canvas shape number shows =
    let last : take 80 (drop 1840 canvas.cells.items) ≡ replicate {A = ℕ} 80 32 = shows.rows 23 (omega arith) in
    let long : length (take 80 (drop 1840 canvas.cells.items)) ≡ 80 = ap length last ∙ length-replicate {A = ℕ} 80 32 in
    omega (arith, length-take 80 (drop 1840 canvas.cells.items), length-drop 1840 canvas.cells.items)

-- one line more of them
pub line_more : (text text' text'' cells line : List ℕ) (y : ℕ) → text' ≡ text ++ line → text'' ≡ text' ++ 10 ∷ [] → line ≡ slice_range cells (80 * y) (80 * y + 80)
    → (start : List ℕ) → text ≡ start ++ joined (λ k. take 80 (drop (80 * k) cells) ++ 10 ∷ []) y
    → text'' ≡ start ++ joined (λ k. take 80 (drop (80 * k) cells) ++ 10 ∷ []) (y + 1)
line_more text text' text'' cells line y added ended is start so_far =
    let width : 80 * y + 80 - 80 * y ≡ 80 = omega arith in
    let row_is : line ≡ take 80 (drop (80 * y) cells) = is ∙ ap (λ (w : ℕ). take w (drop (80 * y) cells)) width in
    ended ∙ ap (λ (l : List ℕ). l ++ 10 ∷ []) (added ∙ (λ i. so_far i ++ row_is i))
    ∙ ap (λ (l : List ℕ). l ++ 10 ∷ []) (append_assoc start (joined (λ k. take 80 (drop (80 * k) cells) ++ 10 ∷ []) y) (take 80 (drop (80 * y) cells)))
    ∙ append_assoc start (joined (λ k. take 80 (drop (80 * k) cells) ++ 10 ∷ []) y ++ take 80 (drop (80 * y) cells)) (10 ∷ [])
    ∙ ap (λ (l : List ℕ). start ++ l) (append_assoc (joined (λ k. take 80 (drop (80 * k) cells) ++ 10 ∷ []) y) (take 80 (drop (80 * y) cells)) (10 ∷ [])
    ∙ sym (joined_more (λ k. take 80 (drop (80 * k) cells) ++ 10 ∷ []) y))

pub line_none : (text cells : List ℕ) → text ≡ text ++ joined (λ k. take 80 (drop (80 * k) cells) ++ 10 ∷ []) 0
unfolding joined
line_none text cells = sym (append-nil text)
