-- How lines and words are taken from the front.
use Rattle.std.proofs.Common.{◌≡◌, ℕ, ◌+◌, ◌-◌, ◌<◌, ◌≤◌, ◌==◌, Bool, true, false, not, cond, arith, List, [], ◌∷◌, length, take, drop, filter, nat_lt, get_or, ◌≢◌, Some, None, refl, sym, ◌∙◌, ap, length-take, length-drop, add-one, drop-cons}
use Rattle.std.specs.List.{slice_split, onto_first, position, position_or_len}
use Rattle.std.specs.Str.Lines.{lines, lines_of_parts, strip_carriage_return}
use Rattle.std.proofs.lemmas.List.{drop_all, take_rest}
use Rattle.std.proofs.lemmas.List.Quantifiers.{position-Some}
use Rattle.std.proofs.lemmas.List.Splits.{slice_split_first, length-slice_split}
use Rattle.std.proofs.lemmas.Grind.{common_steps}
use Rattle.std.proofs.lemmas.Bool.Decides.{nat_tests}
use Rattle.event_script.specs.Words.{is_blank, words}

-- what `position` gives, from its test
some_place : (a n i : ℕ) (t : Bool) → nat_lt a n ≡ t → cond t (Some a) None ≡ Some i → (a ≡ i) × (i < n)
some_place a n i true below is = let same : a ≡ i = cc in (same, grind (arith, nat_tests))
some_place a n i false below is = absurd (cc is)

no_place : (a n : ℕ) (t : Bool) → nat_lt a n ≡ t → cond t (Some a) None ≡ None → n ≤ a
no_place a n true below is = absurd (cc is)
no_place a n false below is = grind (arith, nat_tests)

module _ {X : Type 0} (p : X → Bool) where
  -- the place that was found
  pub place_found : (xs : List X) (i : ℕ) → position p xs ≡ Some i → (position_or_len p xs ≡ i) × (i < length xs)
  place_found xs i is = some_place (position_or_len p xs) (length xs) i (nat_lt (position_or_len p xs) (length xs)) refl is

  -- no place was found
  pub place_missed : (xs : List X) → position p xs ≡ None → length xs ≤ position_or_len p xs
  place_missed xs is = no_place (position_or_len p xs) (length xs) (nat_lt (position_or_len p xs) (length xs)) refl is

  one_part-cons : (x : X) (xs : List X) → (length xs ≤ position_or_len p xs → slice_split p xs ≡ xs ∷ []) → (t : Bool)
      → 1 + length xs ≤ cond (not t) (1 + position_or_len p xs) 0
      → cond t ([] ∷ slice_split p xs) (onto_first x (slice_split p xs)) ≡ (x ∷ xs) ∷ []
  one_part-cons x xs rest true none = absurd (omega arith)
  one_part-cons x xs rest false none = ap (onto_first x) (rest (omega arith))

  -- where nothing passes there is one part
  pub one_part : (xs : List X) → length xs ≤ position_or_len p xs → slice_split p xs ≡ xs ∷ []
  one_part [] none = refl
  one_part (x ∷ xs) none = one_part-cons x xs (one_part xs) (p x) (omega (arith, none))

-- a line that ends
lines_of_parts-first : (part : List ℕ) (parts : List (List ℕ)) → 0 < length parts
    → lines_of_parts (part ∷ parts) ≡ strip_carriage_return part ∷ lines_of_parts parts
lines_of_parts-first part [] some = absurd (omega arith)
lines_of_parts-first part (next ∷ parts) some = refl

pub lines_first : (bytes : List ℕ) (end : ℕ) → position (λ b. b == 10) bytes ≡ Some end
    → lines bytes ≡ strip_carriage_return (take end bytes) ∷ lines (drop (end + 1) bytes)
lines_first bytes end is =
    let found = place_found (λ b. b == 10) bytes end is in
    let below : position_or_len (λ b. b == 10) bytes < length bytes = omega (arith, found.0, found.1) in
    let parts : slice_split (λ b. b == 10) bytes ≡ take end bytes ∷ slice_split (λ b. b == 10) (drop (end + 1) bytes) =
    slice_split_first (λ b. b == 10) bytes 0 below ∙ ap (λ (n : ℕ). take n bytes ∷ slice_split (λ b. b == 10) (drop (n + 1) bytes)) found.0 in
    ap lines_of_parts parts ∙ lines_of_parts-first (take end bytes) (slice_split (λ b. b == 10) (drop (end + 1) bytes)) (omega (arith, length-slice_split (λ b. b == 10) (drop (end + 1) bytes)))

pub lines_cut : (bytes line : List ℕ) (end : ℕ) → position (λ b. b == 10) bytes ≡ Some end → line ≡ strip_carriage_return (take end bytes)
    → lines bytes ≡ line ∷ lines (take (length bytes - (end + 1)) (drop (end + 1) bytes))
lines_cut bytes line end is same =
    lines_first bytes end is ∙ (λ i. sym same i ∷ lines (sym (take_rest bytes (end + 1)) i))

-- the last line, which doesn't end
pub lines_last : (bytes : List ℕ) → position (λ b. b == 10) bytes ≡ None → 0 < length bytes → lines bytes ≡ bytes ∷ []
lines_last [] is some = absurd (omega arith)
lines_last (b ∷ bytes) is some =
    ap lines_of_parts (one_part (λ c. c == 10) (b ∷ bytes) (place_missed (λ c. c == 10) (b ∷ bytes) is)) ∙ grind (arith, common_steps)

drop-one : (n b : ℕ) (line : List ℕ) → drop (1 + n) (b ∷ line) ≡ drop n line
drop-one n b line = grind (arith, common_steps)

-- blanks at the front make no word
words-blank : (b : ℕ) (line : List ℕ) → is_blank b ≡ true → words (b ∷ line) ≡ words line
words-blank b line is =
    ap (λ (t : Bool). filter (λ (part : List ℕ). nat_lt 0 (length part)) (cond t ([] ∷ slice_split is_blank line) (onto_first b (slice_split is_blank line)))) is

words_skip-cons : (b : ℕ) (line : List ℕ) → words (drop (position_or_len (λ c. not (is_blank c)) line) line) ≡ words line → (t : Bool) → is_blank b ≡ t
    → words (drop (cond (not (not t)) (1 + position_or_len (λ c. not (is_blank c)) line) 0) (b ∷ line)) ≡ words (b ∷ line)
words_skip-cons b line rest true is =
    ap words (drop-one (position_or_len (λ c. not (is_blank c)) line) b line) ∙ rest ∙ sym (words-blank b line is)
words_skip-cons b line rest false is = refl

pub words_skip : (line : List ℕ) → words (drop (position_or_len (λ c. not (is_blank c)) line) line) ≡ words line
words_skip [] = refl
words_skip (b ∷ line) = words_skip-cons b line (words_skip line) (is_blank b) refl

-- a line of blanks has no word
pub words_none : (line : List ℕ) → position (λ b. not (is_blank b)) line ≡ None → words line ≡ []
words_none line is =
    sym (words_skip line) ∙ ap words (drop_all (position_or_len (λ b. not (is_blank b)) line) line (place_missed (λ b. not (is_blank b)) line is))

-- the words after the blanks at the front
pub words_from : (line : List ℕ) (start : ℕ) → position (λ b. not (is_blank b)) line ≡ Some start → words (drop start line) ≡ words line
words_from line start is =
    ap (λ (n : ℕ). words (drop n line)) (sym (place_found (λ b. not (is_blank b)) line start is).0) ∙ words_skip line

filter_first : (part : List ℕ) (parts : List (List ℕ)) → 0 < length part
    → filter (λ (p : List ℕ). nat_lt 0 (length p)) (part ∷ parts) ≡ part ∷ filter (λ (p : List ℕ). nat_lt 0 (length p)) parts
filter_first [] parts some = absurd (omega arith)
filter_first (b ∷ part) parts some = grind (arith, nat_tests, common_steps)

-- a word that ends at a blank
pub words_first : (line : List ℕ) (end : ℕ) → position is_blank line ≡ Some end → 0 < end → words line ≡ take end line ∷ words (drop (end + 1) line)
words_first line end is some =
    let found = place_found is_blank line end is in
    let below : position_or_len is_blank line < length line = omega (arith, found.0, found.1) in
    let parts : slice_split is_blank line ≡ take end line ∷ slice_split is_blank (drop (end + 1) line) =
    slice_split_first is_blank line 0 below ∙ ap (λ (n : ℕ). take n line ∷ slice_split is_blank (drop (n + 1) line)) found.0 in
    let long : 0 < length (take end line) = omega (arith, length-take end line, found.1) in
    ap (filter (λ (part : List ℕ). nat_lt 0 (length part))) parts ∙ filter_first (take end line) (slice_split is_blank (drop (end + 1) line)) long

-- a word that the line ends with
pub words_last : (line : List ℕ) → position is_blank line ≡ None → 0 < length line → words line ≡ line ∷ []
words_last line is some =
    ap (filter (λ (part : List ℕ). nat_lt 0 (length part))) (one_part is_blank line (place_missed is_blank line is)) ∙ filter_first line [] some

not_first : (b : ℕ) (line : List ℕ) → is_blank b ≡ false → position is_blank (b ∷ line) ≢ Some 0
not_first b line is zero =
    let found = place_found is_blank (b ∷ line) 0 zero in
    let one : cond (not (is_blank b)) (1 + position_or_len is_blank line) 0 ≡ 1 + position_or_len is_blank line =
    ap (λ (t : Bool). cond (not t) (1 + position_or_len is_blank line) 0) is in
    omega (arith, one, found.0)

elsewhere : (n : ℕ) → (n ≡ 0 → ⊥) → 0 < n
elsewhere n some = omega (arith, some)

-- what stands at the place that was found begins with no blank
pub starts_word : (line : List ℕ) (start : ℕ) → position (λ b. not (is_blank b)) line ≡ Some start → (0 < length (drop start line)) × (position is_blank (drop start line) ≢ Some 0)
starts_word line start is =
    let found = position-Some (λ b. not (is_blank b)) line start 0 is in
    let word : is_blank (get_or line start 0) ≡ false = grind (arith, found.1) in
    let rest : drop start line ≡ get_or line start 0 ∷ drop (start + 1) line = rw (add-one) (drop-cons line start 0 found.0) in (
      omega (arith, length-drop start line, found.0),
      λ zero. not_first (get_or line start 0) (drop (start + 1) line) word (ap (position is_blank) (sym rest) ∙ zero),
    )

-- the first word of a line, which ends at a blank
pub word_cut : (line rest : List ℕ) (start end : ℕ) → rest ≡ take (length line - start) (drop start line) → position (λ b. not (is_blank b)) line ≡ Some start
    → position is_blank rest ≡ Some end
    → (words line ≡ take end rest ∷ words (take (length rest - (end + 1)) (drop (end + 1) rest))) × (0 < length (take end rest))
word_cut line rest start end is begins ends =
    let same : rest ≡ drop start line = is ∙ take_rest line start in
    let starts = starts_word line start begins in
    let some : 0 < end = elsewhere end (λ (zero : end ≡ 0). starts.1 (ap (position is_blank) (sym same) ∙ ends ∙ ap Some zero)) in
    let found = place_found is_blank rest end ends in (
      sym (words_from line start begins) ∙ ap words (sym same) ∙ words_first rest end ends some ∙ (λ i. take end rest ∷ words (sym (take_rest rest (end + 1)) i)),
      omega (arith, length-take end rest, found.1),
    )

-- the first word of a line, which ends with it
pub word_end : (line rest : List ℕ) (start : ℕ) → rest ≡ take (length line - start) (drop start line) → position (λ b. not (is_blank b)) line ≡ Some start
    → position is_blank rest ≡ None → (words line ≡ rest ∷ []) × (0 < length rest)
word_end line rest start is begins ends =
    let same : rest ≡ drop start line = is ∙ take_rest line start in
    let starts = starts_word line start begins in
    let some : 0 < length rest = omega (arith, ap length same, starts.0) in
    (sym (words_from line start begins) ∙ ap words (sym same) ∙ words_last rest ends some, some)
