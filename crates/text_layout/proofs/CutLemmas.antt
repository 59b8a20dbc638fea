-- The cuts of a paragraph.
use Rattle.std.proofs.Common.{◌≡◌, ℕ, zero, suc, ◌+◌, ◌-◌, ◌<◌, ◌≤◌, Bool, true, false, cond, List, [], ◌∷◌, ◌++◌, append_assoc, length, take, drop, get_or, refl, sym, ap, ◌∙◌, arith, add-one, length-drop, ◌≢◌, true≢false, eq-eqb, eqb-true}
use Rattle.std.specs.Prelude.{Option, Some, None, ◌==◌, nat_le}
use Rattle.std.specs.List.{prefix_len, suffix_len}
use Rattle.std.proofs.lemmas.List.{take-take, drop-drop, length-take-le}
use Rattle.std.proofs.Math.Seq.{take-length}
use Rattle.text_layout.specs.declared.pieces.Cluster.{Cluster}
use Rattle.text_layout.specs.Clusters.{is_space}
use Rattle.text_layout.specs.Cuts.{last_space, or_here, cut_soft, without_trailing, without_leading, Cut, Row, cut_at, cut_hard, first_cut, fit, rows_up_to}

last_more_at : (b : Bool) (i : ℕ) (o : Option ℕ) (s : Bool) → or_here (cond b (Some i) o) s ≡ cond b (Some (suc i)) (or_here o s)
last_more_at true i o s = refl
last_more_at false i o s = refl

-- one more cluster
pub last_more : (xs : List Cluster) (i : ℕ) (d : Cluster) → i < length xs → last_space (take (suc i) xs) ≡ cond (is_space (get_or xs i d)) (Some i) (last_space (take i xs))
last_more [] i d h = absurd (omega arith)
last_more (x ∷ xs) zero d h = refl
last_more (x ∷ xs) (suc i) d h = ap (λ o. or_here o (is_space x)) (last_more xs i d (omega arith)) ∙ last_more_at (is_space (get_or xs i d)) i (last_space (take i xs)) (is_space x)

-- the same, as the code reads the cluster
pub last_before : (cs : List Cluster) (k i : ℕ) (d : Cluster) → k ≡ suc i → i < length cs → d ≡ get_or cs i d → last_space (take k cs) ≡ cond (is_space d) (Some i) (last_space (take i cs))
last_before cs k i d e h is = ap (λ n. last_space (take n cs)) e ∙ last_more cs i d h ∙ ap (λ x. cond (is_space x) (Some i) (last_space (take i cs))) (sym is)

pub soft_taken : (k : ℕ) (cs line rest : List Cluster) → 0 < length line → cut_soft k cs line rest ≡ record { line = line; rest = rest }
soft_taken k cs [] rest h = absurd (omega arith)
soft_taken k cs (c ∷ line) rest h = refl

-- the line before the space at i, as the code cuts it
pub soft_line : (cs : List Cluster) (i n : ℕ) → i < length cs → n ≡ length (take i cs) - suffix_len is_space (take i cs) → take n cs ≡ without_trailing (take i cs)
soft_line cs i n h e =
    let short : n ≤ i = omega (arith, length-take-le i cs) in
    sym (take-take n i cs short) ∙ ap (λ m. take m (take i cs)) e

pub soft_rest : (cs : List Cluster) (i s : ℕ) → s ≡ prefix_len is_space (drop (suc i) cs) → drop (i + 1 + s) cs ≡ without_leading (drop (suc i) cs)
soft_rest cs i s e = sym (drop-drop s (i + 1) cs) ∙ ap (λ m. drop s (drop m cs)) (add-one i) ∙ ap (λ m. drop m (drop (suc i) cs)) e

pub part_from : {X : Type 0} (ys : List X) (i : ℕ) → take (length ys - i) (drop i ys) ≡ drop i ys
part_from ys i = ap (λ n. take n (drop i ys)) (sym (length-drop i ys)) ∙ take-length (drop i ys)

abbrev soft_facts : List Cluster → ℕ → ℕ → ℕ → ℕ → Type 0
soft_facts cs i k n s = (take n cs ≡ (cut_at (Some i) k cs).line) × (drop (i + 1 + s) cs ≡ (cut_at (Some i) k cs).rest)

pub soft_cut : (cs : List Cluster) (i k n s : ℕ) → i < length cs → 0 < n → n ≡ length (take i cs) - suffix_len is_space (take i cs)
    → s ≡ prefix_len is_space (take (length cs - (i + 1)) (drop (i + 1) cs)) → soft_facts cs i k n s
soft_cut cs i k n s lt some e f =
    let line : take n cs ≡ without_trailing (take i cs) = soft_line cs i n lt e in
    let g : s ≡ prefix_len is_space (drop (suc i) cs) = f ∙ ap (prefix_len is_space) (part_from cs (i + 1) ∙ ap (λ m. drop m cs) (add-one i)) in
    let long : 0 < length (without_trailing (take i cs)) = let l = ap length line in omega (arith, l, length-take-le n cs, length-take-le i cs) in
    let same = soft_taken k cs (without_trailing (take i cs)) (without_leading (drop (suc i) cs)) long in (
      line ∙ sym (ap (λ (c : Cut). c.line) same),
      soft_rest cs i s g ∙ sym (ap (λ (c : Cut). c.rest) same),
    )

-- what is left is shorter
hard_shorter : (k : ℕ) (cs : List Cluster) → k < length cs → length (cut_hard k cs).rest < length cs
hard_shorter zero cs h = omega (arith, length-drop 1 cs)
hard_shorter (suc k) cs h = omega (arith, length-drop (suc k) cs)

soft_shorter : (k : ℕ) (cs line rest : List Cluster) → k < length cs → length rest < length cs → length (cut_soft k cs line rest).rest < length cs
soft_shorter k cs [] rest h b = hard_shorter k cs h
soft_shorter k cs (c ∷ line) rest h b = b

at_shorter : (o : Option ℕ) (k : ℕ) (cs : List Cluster) → k < length cs → length (cut_at o k cs).rest < length cs
at_shorter None k cs h = hard_shorter k cs h
at_shorter (Some i) k cs h = soft_shorter k cs (without_trailing (take i cs)) (without_leading (drop (suc i) cs)) h (omega (arith, length-drop (prefix_len is_space (drop (suc i) cs)) (drop (suc i) cs), length-drop (suc i) cs))

pub rest_shorter : (k : ℕ) (cs : List Cluster) → k < length cs → length (first_cut k cs).rest < length cs
rest_shorter k cs h = at_shorter (last_space (take (k + 1) cs)) k cs h

pub fit_within : (w : ℕ) (cs : List Cluster) → fit w cs ≤ length cs
fit_within w [] = omega arith
fit_within w (c ∷ cs) = case (nat_le c.width w) (fit_within (w - c.width) cs)
  where
    case : (b : Bool) → fit (w - c.width) cs ≤ length cs → cond b (suc (fit (w - c.width) cs)) 0 ≤ suc (length cs)
    case true h = omega arith
    case false h = omega arith

abbrev first_row : ℕ → List Cluster → Row
first_row w cs = record { line = (first_cut (fit w cs) cs).line; onward = cs }

abbrev whole_row : List Cluster → Row
whole_row cs = record { line = cs; onward = cs }

-- more turns than clusters make no difference
pub more_turns : (f g w : ℕ) (cs : List Cluster) → length cs < f → length cs < g → rows_up_to f w cs ≡ rows_up_to g w cs
more_turns zero g w cs h k = absurd (omega arith)
more_turns (suc f) zero w cs h k = absurd (omega arith)
more_turns (suc f) (suc g) w cs h k = case (fit w cs == length cs) refl (λ b c. more_turns f g w (first_cut (fit w cs) cs).rest b c)
  where
    case : (b : Bool) → (fit w cs == length cs) ≡ b
        → (length (first_cut (fit w cs) cs).rest < f → length (first_cut (fit w cs) cs).rest < g → rows_up_to f w (first_cut (fit w cs) cs).rest ≡ rows_up_to g w (first_cut (fit w cs) cs).rest)
        → cond b (whole_row cs ∷ []) (first_row w cs ∷ rows_up_to f w (first_cut (fit w cs) cs).rest) ≡ cond b (whole_row cs ∷ []) (first_row w cs ∷ rows_up_to g w (first_cut (fit w cs) cs).rest)
    case true e ih = refl
    case false e ih =
        let apart : fit w cs ≢ length cs = λ q. true≢false (sym (eq-eqb (fit w cs) (length cs) q) ∙ e) in
        let less : fit w cs < length cs = omega (arith, fit_within w cs) in
        let short = rest_shorter (fit w cs) cs less in
        ap (λ zs. first_row w cs ∷ zs) (ih (omega arith) (omega arith))

-- one more line
pub rows_more : (f w : ℕ) (cs : List Cluster) → fit w cs ≢ length cs → rows_up_to (suc f) w cs ≡ first_row w cs ∷ rows_up_to f w (first_cut (fit w cs) cs).rest
rows_more f w cs apart = case (fit w cs == length cs) refl
  where
    case : (b : Bool) → (fit w cs == length cs) ≡ b → cond b (whole_row cs ∷ []) (first_row w cs ∷ rows_up_to f w (first_cut (fit w cs) cs).rest) ≡ first_row w cs ∷ rows_up_to f w (first_cut (fit w cs) cs).rest
    case true e = absurd (apart (eqb-true (fit w cs) (length cs) e))
    case false e = refl

pub rows_last : (f w : ℕ) (cs : List Cluster) → fit w cs ≡ length cs → rows_up_to (suc f) w cs ≡ whole_row cs ∷ []
rows_last f w cs e = ap (λ b. cond b (whole_row cs ∷ []) (first_row w cs ∷ rows_up_to f w (first_cut (fit w cs) cs).rest)) (eq-eqb (fit w cs) (length cs) e)

-- a turn of the loop that cuts lines
pub turn_more : (w k next : ℕ) (rows all : List Row) (line cs rest : List Cluster) → k ≡ fit w cs → k ≢ length cs
    → rows ++ rows_up_to (suc (length cs)) w cs ≡ all
    → line ≡ (first_cut k cs).line
    → drop next cs ≡ (first_cut k cs).rest
    → rest ≡ drop next cs
    → (rows ++ record { line = line; onward = cs } ∷ []) ++ rows_up_to (suc (length rest)) w rest ≡ all
turn_more w k next rows all line cs rest fits apart told is left from =
    let unfit : fit w cs ≢ length cs = λ q. apart (fits ∙ q) in
    let cut : first_cut k cs ≡ first_cut (fit w cs) cs = ap (λ n. first_cut n cs) fits in
    let less : fit w cs < length cs = omega (arith, fit_within w cs) in
    let same : rest ≡ (first_cut (fit w cs) cs).rest = from ∙ left ∙ ap (λ (c : Cut). c.rest) cut in
    let short : length rest < length cs = let l = ap length same in omega (arith, l, rest_shorter (fit w cs) cs less) in
    let here : first_row w cs ≡ record { line = line; onward = cs } = ap (λ zs. let r : Row = record { line = zs; onward = cs } in r) (sym (is ∙ ap (λ (c : Cut). c.line) cut)) in
    let one : rows_up_to (suc (length cs)) w cs ≡ record { line = line; onward = cs } ∷ rows_up_to (suc (length rest)) w rest =
    rows_more (length cs) w cs unfit
    ∙ ap (λ (r : Row). r ∷ rows_up_to (length cs) w (first_cut (fit w cs) cs).rest) here
    ∙ ap (λ zs. let r : Row = record { line = line; onward = cs } in r ∷ zs) (ap (λ zs. rows_up_to (length cs) w zs) (sym same) ∙ more_turns (length cs) (suc (length rest)) w rest short (omega arith)) in
    append_assoc rows (record { line = line; onward = cs } ∷ []) (rows_up_to (suc (length rest)) w rest)
    ∙ ap (λ zs. rows ++ zs) (sym one) ∙ told

-- the last turn
pub turn_last : (w k : ℕ) (rows all : List Row) (cs : List Cluster) → k ≡ fit w cs → k ≡ length cs
    → rows ++ rows_up_to (suc (length cs)) w cs ≡ all
    → rows ++ record { line = cs; onward = cs } ∷ [] ≡ all
turn_last w k rows all cs fits whole told = ap (λ zs. rows ++ zs) (sym (rows_last (length cs) w cs (sym fits ∙ whole))) ∙ told
