-- A piece can be cut off in one way alone.
use Rattle.std.proofs.Common.{◌≡◌, ℕ, ◌≤◌, inl, inr, ◌&&◌, if◌then◌else◌, Bool, true, false, List, [], ◌∷◌, ◌++◌, length, get_or, take, drop, refl, sym, ◌∙◌, ap, arith, drop-cons, take-append-drop, subst, Option, None, MatchOption}
use Rattle.std.specs.List.{list_all, prefix_len, take_while}
use Rattle.std.proofs.lemmas.Bool.{cases_lt}
use Rattle.std.proofs.lemmas.List.{append_cancel_left, length-take-le, drop_all}
use Rattle.std.proofs.lemmas.List.Sums.{take_while-cons, prefix_len-le-length, prefix_len_stops}
use Rattle.counter_form.specs.Pieces.{is_in, has_length, kind_of, word_of, Cut}
use Rattle.counter_form.specs.declared.pieces.Piece.{Piece}
use Rattle.counter_form.specs.declared.pieces.Piece.TheVariants.{AppLine, ViewLine, BeforeInit, AfterInit, BeforePrefix, BeforeLabel, BeforeStep, AfterStep, LastLine, Tap, Gap, TapEnd}

pub and_left : (a b : Bool) → (a && b) ≡ true → a ≡ true
and_left true b both = refl
and_left false b both = both

pub and_right : (a b : Bool) → (a && b) ≡ true → b ≡ true
and_right true b both = both
and_right false b both = absurd (cc both)

pub and_both : (a b : Bool) → a ≡ true → b ≡ true → (a && b) ≡ true
and_both a b left right = λ i. left i && right i

-- what holds where nothing was found
pub on_none : {A P : Type 0} (Q : A → Type 0) {found : Option A} → found ≡ None → P → MatchOption found P Q
on_none {A} {P} Q {found} none p = subst (λ (o : Option A). MatchOption o P Q) (sym none) p

-- the first byte passes
abbrev pub begins : (ℕ → Bool) → List ℕ → Bool
begins p [] = false
begins p (x ∷ xs) = p x

all_pass_front : (p : ℕ → Bool) (x : ℕ) (xs : List ℕ) (b : Bool) → p x ≡ b → list_all p xs ≡ true → list_all p (if b then x ∷ xs else []) ≡ true
all_pass_front p x xs true passes more = and_both (p x) (list_all p xs) passes more
all_pass_front p x xs false fails more = refl

all_pass : (p : ℕ → Bool) (xs : List ℕ) → list_all p (take_while p xs) ≡ true
all_pass p [] = refl
all_pass p (x ∷ xs) = ap (list_all p) (take_while-cons p x xs) ∙ all_pass_front p x (take_while p xs) (p x) refl (all_pass p xs)

stops : (p : ℕ → Bool) (xs : List ℕ) → begins p (drop (prefix_len p xs) xs) ≡ false
stops p xs =
    elim (cases_lt (prefix_len p xs) (length xs)) [
      | inl inside ↦ ap (begins p) (drop-cons xs (prefix_len p xs) 0 inside) ∙ prefix_len_stops p xs 0 inside
      | inr past ↦ ap (begins p) (drop_all (prefix_len p xs) xs past)
    ]

-- two ways to split off a run of bytes that pass are the same
pub same_run : (p : ℕ → Bool) (t r t' r' : List ℕ) → t ++ r ≡ t' ++ r' → list_all p t ≡ true → list_all p t' ≡ true → begins p r ≡ false → begins p r' ≡ false
    → (t ≡ t') × (r ≡ r')
same_run p [] r [] r' same a a' b b' = (refl, same)
same_run p [] r (y ∷ t') r' same a a' b b' =
    let passes : p y ≡ true = and_left (p y) (list_all p t') a' in
    let first : begins p r ≡ p y = ap (begins p) same in
    absurd (cc (passes, first, b))
same_run p (x ∷ t) r [] r' same a a' b b' =
    let passes : p x ≡ true = and_left (p x) (list_all p t) a in
    let first : p x ≡ begins p r' = ap (begins p) same in
    absurd (cc (passes, first, b'))
same_run p (x ∷ t) r (y ∷ t') r' same a a' b b' =
    let heads : x ≡ y = ap (λ (l : List ℕ). get_or l 0 0) same in
    let tails : t ++ r ≡ t' ++ r' = ap (drop 1) same in
    let more = same_run p t r t' r' tails (and_right (p x) (list_all p t) a) (and_right (p y) (list_all p t') a') b b' in
    (λ i. heads i ∷ more.0 i, more.1)

-- a piece's word begins with a byte that its text can't have
pub begins_word : (piece : Piece) (rest : List ℕ) → begins (is_in (kind_of piece)) (word_of piece ++ rest) ≡ false
unfolding word_of
begins_word AppLine rest = refl
begins_word ViewLine rest = refl
begins_word BeforeInit rest = refl
begins_word AfterInit rest = refl
begins_word BeforePrefix rest = refl
begins_word BeforeLabel rest = refl
begins_word BeforeStep rest = refl
begins_word AfterStep rest = refl
begins_word LastLine rest = refl
begins_word Tap rest = refl
begins_word Gap rest = refl
begins_word TapEnd rest = refl

-- the bytes of a text are of its kind
text_made_of : {piece : Piece} {bytes text rest : List ℕ} → Cut piece bytes text rest → list_all (is_in (kind_of piece)) text ≡ true
text_made_of {piece} {bytes} {text} {rest} cut = and_left (list_all (is_in (kind_of piece)) text) (has_length (kind_of piece) (length text)) cut.kind

pub same_cut : {piece : Piece} {bytes bytes' text rest text' rest' : List ℕ} → bytes ≡ bytes' → Cut piece bytes text rest → Cut piece bytes' text' rest'
    → (text ≡ text') × (rest ≡ rest')
same_cut {piece} {bytes} {bytes'} {text} {rest} {text'} {rest'} same cut cut' =
    let run = same_run (is_in (kind_of piece)) text (word_of piece ++ rest) text' (word_of piece ++ rest') (sym cut.whole ∙ same ∙ cut'.whole)
    (text_made_of cut) (text_made_of cut') (begins_word piece rest) (begins_word piece rest') in
    (run.0, append_cancel_left (word_of piece) rest rest' run.1)

-- what can't be cut can't be cut where it stands again
pub no_cut : {piece : Piece} {bytes bytes' text rest : List ℕ} → bytes ≡ bytes' → ((text rest : List ℕ) → Cut piece bytes text rest → ⊥) → Cut piece bytes' text rest → ⊥
no_cut {piece} {bytes} {bytes'} {text} {rest} same none cut = none text rest (record { kind = cut.kind; whole = same ∙ cut.whole })

-- the longest run at the front, and what stands behind it
module _ (piece : Piece) (bytes : List ℕ) (n : ℕ) (is : n ≡ length (take_while (is_in (kind_of piece)) bytes)) where
  n_is : n ≡ prefix_len (is_in (kind_of piece)) bytes
  n_is = is ∙ length-take-le (prefix_len (is_in (kind_of piece)) bytes) bytes (prefix_len-le-length (is_in (kind_of piece)) bytes)

  pub run_passes : list_all (is_in (kind_of piece)) (take n bytes) ≡ true
  run_passes = ap (λ (k : ℕ). list_all (is_in (kind_of piece)) (take k bytes)) n_is ∙ all_pass (is_in (kind_of piece)) bytes

  pub run_stops : begins (is_in (kind_of piece)) (drop n bytes) ≡ false
  run_stops = ap (λ (k : ℕ). begins (is_in (kind_of piece)) (drop k bytes)) n_is ∙ stops (is_in (kind_of piece)) bytes

  only_run : {text rest : List ℕ} → Cut piece bytes text rest → (text ≡ take n bytes) × (word_of piece ++ rest ≡ drop n bytes)
  only_run {text} {rest} cut = same_run (is_in (kind_of piece)) text (word_of piece ++ rest) (take n bytes) (drop n bytes)
      (sym cut.whole ∙ sym (take-append-drop n bytes)) (text_made_of cut) run_passes (begins_word piece rest) run_stops

  run_length_is : length (take n bytes) ≡ n
  run_length_is =
      let same = n_is in
      let inside : n ≤ length bytes = omega (arith, prefix_len-le-length (is_in (kind_of piece)) bytes) in
      length-take-le n bytes inside

  -- the run has no length of its kind
  pub too_long : has_length (kind_of piece) n ≡ false → (text rest : List ℕ) → Cut piece bytes text rest → ⊥
  too_long wrong text rest cut =
      let right : has_length (kind_of piece) (length text) ≡ true = and_right (list_all (is_in (kind_of piece)) text) (has_length (kind_of piece) (length text)) cut.kind in
      let same : length text ≡ n = ap length (only_run cut).0 ∙ run_length_is in
      let moved : has_length (kind_of piece) (length text) ≡ has_length (kind_of piece) n = ap (has_length (kind_of piece)) same in
      cc (right, moved, wrong)

  -- the word doesn't follow
  pub no_word : ((rest : List ℕ) → drop n bytes ≡ word_of piece ++ rest → ⊥) → (text rest : List ℕ) → Cut piece bytes text rest → ⊥
  no_word none text rest cut = none rest (sym (only_run cut).1)

  pub is_cut : has_length (kind_of piece) n ≡ true → (rest : List ℕ) → drop n bytes ≡ word_of piece ++ rest → Cut piece bytes (take n bytes) rest
  is_cut right rest follows = record {
    kind = and_both (list_all (is_in (kind_of piece)) (take n bytes)) (has_length (kind_of piece) (length (take n bytes))) run_passes
        (ap (has_length (kind_of piece)) run_length_is ∙ right);
    whole = sym (take-append-drop n bytes) ∙ ap (λ (l : List ℕ). take n bytes ++ l) follows;
  }
