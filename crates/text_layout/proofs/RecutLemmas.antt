-- A text that is cut again, at the width of its widest line and with a limit of as many lines as it has, has the same lines.
use Rattle.std.proofs.Common.{◌≡◌, ℕ, zero, suc, ◌+◌, ◌-◌, ◌<◌, ◌≤◌, Bool, true, false, cond, List, [], ◌∷◌, ◌++◌, subst, length, take, drop, get_or, sym, ap, ◌∙◌, arith, refl, eq-eqb, true≢false, length-append, ◌≢◌}
use Rattle.std.specs.Prelude.{Option, Some, None, ◌==◌, nat_le, map, flat_map, reverse}
use Rattle.std.specs.Option.{ForSome}
use Rattle.std.specs.List.{prefix_len, suffix_len}
use Rattle.std.proofs.lemmas.Bool.{leb-true, leb-false, le-leb, lt-leb, ne_eqb}
use Rattle.std.proofs.lemmas.List.{take-take, length-take, length-take-le, get_or-reverse, length-map}
use Rattle.std.proofs.lemmas.List.Sums.{suffix_len-take_yes, prefix_len_passes, suffix_len-le-length, sum_by-append}
use Rattle.std.proofs.Math.Seq.{take-length, drop-cons}
use Rattle.text_layout.specs.declared.pieces.Cluster.{Cluster}
use Rattle.text_layout.specs.Paragraphs.{paragraphs}
use Rattle.text_layout.specs.Clusters.{clusters_of, is_space, ellipsis}
use Rattle.text_layout.specs.Cuts.{last_space, or_here, cut_soft, without_trailing, without_leading, Cut, Row, cut_at, cut_hard, first_cut, fit, rows_up_to}
use Rattle.text_layout.specs.Lines.{columns, rows_of, line_of, shortened, limited, lines_of, width_of, widest_of, IsCutAgain}
use Rattle.text_layout.proofs.CutLemmas.{fit_within, last_more, rest_shorter, soft_taken}
use Rattle.text_layout.proofs.WidthLemmas.{width-cons, last_within}
use Rattle.text_layout.proofs.CountLemmas.{cut_off_length, cut_some, all_rows_some}

-- fewer columns hold fewer clusters
fit_mono : (v w : ℕ) (cs : List Cluster) → v ≤ w → fit v cs ≤ fit w cs
fit_mono v w [] h = omega arith
fit_mono v w (c ∷ cs) h = case (nat_le c.width v) refl (nat_le c.width w) refl (fit_mono (v - c.width) (w - c.width) cs (omega arith))
  where
    case : (a : Bool) → nat_le c.width v ≡ a → (b : Bool) → nat_le c.width w ≡ b → fit (v - c.width) cs ≤ fit (w - c.width) cs
        → cond a (suc (fit (v - c.width) cs)) 0 ≤ cond b (suc (fit (w - c.width) cs)) 0
    case true e true f ih = omega arith
    case true e false f ih = absurd (omega (arith, leb-true c.width v e, leb-false c.width w f))
    case false e b f ih = omega arith

-- what is no wider than v fits
fit_reach : (n v : ℕ) (cs : List Cluster) → n ≤ length cs → width_of (take n cs) ≤ v → n ≤ fit v cs
fit_reach zero v cs h k = omega arith
fit_reach (suc n) v [] h k = absurd (omega arith)
fit_reach (suc n) v (c ∷ cs) h k = case (nat_le c.width v) refl (fit_reach n (v - c.width) cs (omega arith) (omega (arith, width-cons c (take n cs))))
  where
    case : (a : Bool) → nat_le c.width v ≡ a → n ≤ fit (v - c.width) cs → suc n ≤ cond a (suc (fit (v - c.width) cs)) 0
    case true e ih = omega arith
    case false e ih = absurd (omega (arith, leb-false c.width v e, width-cons c (take n cs)))

-- the last space, in a shorter prefix that still has it
none_here : (o : Option ℕ) (s : Bool) → or_here o s ≡ None → (o ≡ None) × (s ≡ false)
none_here (Some i) s e = absurd (cc)
none_here None true e = absurd (cc)
none_here None false e = (refl, refl)

none_shrinks : (cs : List Cluster) (a b : ℕ) → a ≤ b → last_space (take b cs) ≡ None → last_space (take a cs) ≡ None
none_shrinks cs zero b h e = refl
none_shrinks cs (suc a) zero h e = absurd (omega arith)
none_shrinks [] (suc a) (suc b) h e = refl
none_shrinks (c ∷ cs) (suc a) (suc b) h e =
    let both = none_here (last_space (take b cs)) (is_space c) e in
    ap (λ o. or_here o (is_space c)) (none_shrinks cs a b (omega arith) both.0) ∙ ap (λ s. or_here None s) both.1

shrinks_at : (o p : Option ℕ) (s : Bool) (i a : ℕ) → or_here o s ≡ Some i → i < suc a → ((j : ℕ) → o ≡ Some j → j < a → p ≡ Some j) → (o ≡ None → p ≡ None) → or_here p s ≡ Some i
shrinks_at (Some j) p s i a e h f g = let same : suc j ≡ i = cc in ap (λ q. or_here q s) (f j refl (omega arith)) ∙ e
shrinks_at None p s i a e h f g = ap (λ q. or_here q s) (g refl) ∙ e

last_shrinks : (cs : List Cluster) (a b i : ℕ) → i < a → a ≤ b → last_space (take b cs) ≡ Some i → last_space (take a cs) ≡ Some i
last_shrinks cs zero b i h k e = absurd (omega arith)
last_shrinks cs (suc a) zero i h k e = absurd (omega arith)
last_shrinks [] (suc a) (suc b) i h k e = e
last_shrinks (c ∷ cs) (suc a) (suc b) i h k e =
    shrinks_at (last_space (take b cs)) (last_space (take a cs)) (is_space c) i a e h (λ j q l. last_shrinks cs a b j l (omega arith) q) (λ q. none_shrinks cs a b (omega arith) q)

-- a space stands there
space_at : (o : Option ℕ) (b : Bool) (c : Cluster) (cs : List Cluster) (i : ℕ) → is_space c ≡ b → or_here o b ≡ Some i → ((j : ℕ) → o ≡ Some j → is_space (get_or cs j ellipsis) ≡ true) → is_space (get_or (c ∷ cs) i ellipsis) ≡ true
space_at (Some j) b c cs i s e f = let same : i ≡ suc j = cc in ap (λ n. is_space (get_or (c ∷ cs) n ellipsis)) same ∙ f j refl
space_at None true c cs i s e f = let same : i ≡ 0 = cc in ap (λ n. is_space (get_or (c ∷ cs) n ellipsis)) same ∙ s
space_at None false c cs i s e f = absurd (cc)

last_is_space : (cs : List Cluster) (b i : ℕ) → last_space (take b cs) ≡ Some i → is_space (get_or cs i ellipsis) ≡ true
last_is_space cs zero i e = absurd (cc)
last_is_space [] (suc b) i e = absurd (cc)
last_is_space (c ∷ cs) (suc b) i e = space_at (last_space (take b cs)) (is_space c) c cs i refl e (λ j q. last_is_space cs b j q)

-- what is trimmed is a prefix
trimmed_is : (n : ℕ) (cs : List Cluster) → without_trailing (take n cs) ≡ take (length (take n cs) - suffix_len is_space (take n cs)) cs
trimmed_is n cs = take-take (length (take n cs) - suffix_len is_space (take n cs)) n cs (omega (arith, length-take n cs))

trim_step : (n : ℕ) (cs : List Cluster) → n < length cs → is_space (get_or cs n ellipsis) ≡ true → without_trailing (take n cs) ≡ without_trailing (take (suc n) cs)
trim_step n cs h e =
    let before : suc n - 1 ≡ n = omega arith in
    let here : is_space (get_or cs (suc n - 1) ellipsis) ≡ true = ap (λ m. is_space (get_or cs m ellipsis)) before ∙ e in
    let more : suffix_len is_space (take (suc n) cs) ≡ 1 + suffix_len is_space (take n cs) =
    suffix_len-take_yes is_space cs (suc n) ellipsis (omega arith) h here ∙ ap (λ m. 1 + suffix_len is_space (take m cs)) before in
    trimmed_is n cs
    ∙ ap (λ m. take m cs) (omega (arith, more, length-take-le n cs (omega arith), length-take-le (suc n) cs h))
    ∙ sym (trimmed_is (suc n) cs)

trim_run : (j n : ℕ) (cs : List Cluster) → n + j ≤ length cs → ((p : ℕ) → n ≤ p → p < n + j → is_space (get_or cs p ellipsis) ≡ true)
    → without_trailing (take n cs) ≡ without_trailing (take (n + j) cs)
trim_run zero n cs h f = ap (λ m. without_trailing (take m cs)) (omega arith)
trim_run (suc j) n cs h f =
    trim_run j n cs (omega arith) (λ p a b. f p a (omega arith))
    ∙ trim_step (n + j) cs (omega arith) (f (n + j) (omega arith) (omega arith))
    ∙ (let e : suc (n + j) ≡ n + suc j = omega arith in ap (λ m. without_trailing (take m cs)) e)

suffix_passes : (xs : List Cluster) (p : ℕ) → length xs - suffix_len is_space xs ≤ p → p < length xs → is_space (get_or xs p ellipsis) ≡ true
suffix_passes xs p h k =
    let q = length xs - 1 - p in
    let back : get_or (reverse xs) q ellipsis ≡ get_or xs (length xs - 1 - q) ellipsis = get_or-reverse xs q ellipsis (omega arith) in
    ap is_space (sym (back ∙ ap (λ m. get_or xs m ellipsis) (omega arith))) ∙ prefix_len_passes is_space (reverse xs) q ellipsis (omega (arith, suffix_len-le-length is_space xs))

get_or-take : (n p : ℕ) (cs : List Cluster) → p < n → get_or (take n cs) p ellipsis ≡ get_or cs p ellipsis
get_or-take zero p cs h = absurd (omega arith)
get_or-take (suc n) p [] h = refl
get_or-take (suc n) zero (c ∷ cs) h = refl
get_or-take (suc n) (suc p) (c ∷ cs) h = get_or-take n p cs (omega arith)

trim_between : (n k : ℕ) (cs : List Cluster) → n ≤ k → k ≤ length cs → length (take k cs) - suffix_len is_space (take k cs) ≤ n → without_trailing (take n cs) ≡ without_trailing (take k cs)
trim_between n k cs h l t =
    let long = length-take-le k cs l in
    trim_run (k - n) n cs (omega arith) (λ p a b. sym (ap is_space (get_or-take k p cs (omega arith))) ∙ suffix_passes (take k cs) p (omega arith) (omega (arith, long)))
    ∙ ap (λ m. without_trailing (take m cs)) (omega arith)

length-trimmed : (k : ℕ) (cs : List Cluster) → length (without_trailing (take k cs)) ≡ length (take k cs) - suffix_len is_space (take k cs)
length-trimmed k cs = length-take-le (length (take k cs) - suffix_len is_space (take k cs)) (take k cs) (omega arith)

-- leading spaces
lead_step : (n : ℕ) (cs : List Cluster) → n < length cs → is_space (get_or cs n ellipsis) ≡ true → without_leading (drop n cs) ≡ without_leading (drop (suc n) cs)
lead_step n cs h e =
    let rest = drop (suc n) cs in
    let x = get_or cs n ellipsis in
    let one : 1 + prefix_len is_space rest ≡ suc (prefix_len is_space rest) = omega arith in
    ap without_leading (drop-cons cs n ellipsis h)
    ∙ ap (λ b. drop (cond b (1 + prefix_len is_space rest) 0) (x ∷ rest)) e
    ∙ ap (λ m. drop m (x ∷ rest)) one

lead_run : (j n : ℕ) (cs : List Cluster) → n + j ≤ length cs → ((p : ℕ) → n ≤ p → p < n + j → is_space (get_or cs p ellipsis) ≡ true)
    → without_leading (drop n cs) ≡ without_leading (drop (n + j) cs)
lead_run zero n cs h f = ap (λ m. without_leading (drop m cs)) (omega arith)
lead_run (suc j) n cs h f =
    lead_run j n cs (omega arith) (λ p a b. f p a (omega arith))
    ∙ lead_step (n + j) cs (omega arith) (f (n + j) (omega arith) (omega arith))
    ∙ (let e : suc (n + j) ≡ n + suc j = omega arith in ap (λ m. without_leading (drop m cs)) e)

upto : (p i : ℕ) (cs : List Cluster) → is_space (get_or cs i ellipsis) ≡ true → p < suc i → (p < i → is_space (get_or cs p ellipsis) ≡ true) → is_space (get_or cs p ellipsis) ≡ true
upto p i cs e h f = case (nat_le i p) refl
  where
    case : (b : Bool) → nat_le i p ≡ b → is_space (get_or cs p ellipsis) ≡ true
    case true q = let near = leb-true i p q in let same : p ≡ i = omega arith in ap (λ n. is_space (get_or cs n ellipsis)) same ∙ e
    case false q = f (leb-false i p q)

-- a cut before a space
soft_same : (v w i : ℕ) (cs : List Cluster) → v ≤ w → fit w cs < length cs → last_space (take (fit w cs + 1) cs) ≡ Some i → 0 < length (without_trailing (take i cs))
    → width_of (without_trailing (take i cs)) ≤ v → first_cut (fit v cs) cs ≡ record { line = without_trailing (take i cs); rest = without_leading (drop (suc i) cs) }
soft_same v w i cs h less last some narrow = case (nat_le i (fit v cs)) refl
  where
    case : (b : Bool) → nat_le i (fit v cs) ≡ b → first_cut (fit v cs) cs ≡ record { line = without_trailing (take i cs); rest = without_leading (drop (suc i) cs) }
    case true e =
        let near = leb-true i (fit v cs) e in
        ap (λ o. cut_at o (fit v cs) cs) (last_shrinks cs (fit v cs + 1) (fit w cs + 1) i (omega arith) (omega (arith, fit_mono v w cs h)) last)
        ∙ soft_taken (fit v cs) cs (without_trailing (take i cs)) (without_leading (drop (suc i) cs)) some
    case false e =
        let far = leb-false i (fit v cs) e in
        let near : i < length (take (fit w cs + 1) cs) = last_within (take (fit w cs + 1) cs) i last in
        let within : i < length cs = omega (arith, length-take (fit w cs + 1) cs) in
        let long = length-take-le i cs (omega arith) in
        let m = length (take i cs) - suffix_len is_space (take i cs) in
        let reach : m ≤ fit v cs = fit_reach m v cs (omega arith) (subst (λ zs. width_of zs ≤ v) (trimmed_is i cs) narrow) in
        let spaces : (p : ℕ) → fit v cs ≤ p → p < i → is_space (get_or cs p ellipsis) ≡ true = λ p a b. sym (ap is_space (get_or-take i p cs b)) ∙ suffix_passes (take i cs) p (omega arith) (omega (arith, long)) in
        let all : (p : ℕ) → fit v cs ≤ p → p < suc i → is_space (get_or cs p ellipsis) ≡ true = λ p a b. upto p i cs (last_is_space cs (fit w cs + 1) i last) b (λ q. spaces p a q) in
        let line : without_trailing (take (fit v cs) cs) ≡ without_trailing (take i cs) = trim_between (fit v cs) i cs (omega arith) (omega arith) reach in
        let rest : without_leading (drop (suc (fit v cs)) cs) ≡ without_leading (drop (suc i) cs) =
        lead_run (i - fit v cs) (suc (fit v cs)) cs (omega arith) (λ p a b. all p (omega arith) (omega arith))
        ∙ (let q : suc (fit v cs) + (i - fit v cs) ≡ suc i = omega arith in ap (λ z. without_leading (drop z cs)) q) in
        let here : last_space (take (fit v cs + 1) cs) ≡ Some (fit v cs) =
        (let q : fit v cs + 1 ≡ suc (fit v cs) = omega arith in ap (λ z. last_space (take z cs)) q) ∙ last_more cs (fit v cs) ellipsis (omega arith) ∙ ap (λ b. cond b (Some (fit v cs)) (last_space (take (fit v cs) cs))) (all (fit v cs) (omega arith) (omega arith)) in
        ap (λ o. cut_at o (fit v cs) cs) here
        ∙ soft_taken (fit v cs) cs (without_trailing (take (fit v cs) cs)) (without_leading (drop (suc (fit v cs)) cs)) (subst (λ zs. 0 < length zs) (sym line) some)
        ∙ ap (λ zs. let c : Cut = record { line = zs; rest = without_leading (drop (suc (fit v cs)) cs) } in c) line
        ∙ ap (λ zs. let c : Cut = record { line = without_trailing (take i cs); rest = zs } in c) rest

-- a cut after what fits
hard_reach : (k v : ℕ) (cs : List Cluster) → k ≤ length cs → width_of (cut_hard k cs).line ≤ v → k ≤ fit v cs
hard_reach zero v cs h n = omega arith
hard_reach (suc k) v cs h n = fit_reach (suc k) v cs h n

hard_same : (v w : ℕ) (cs : List Cluster) → v ≤ w → fit w cs < length cs → width_of (cut_hard (fit w cs) cs).line ≤ v → first_cut (fit v cs) cs ≡ first_cut (fit w cs) cs
hard_same v w cs h less narrow =
    let reach = hard_reach (fit w cs) v cs (omega arith) narrow in
    ap (λ k. first_cut k cs) (omega (arith, fit_mono v w cs h))

cut_same : (v w : ℕ) (cs : List Cluster) (o : Option ℕ) → last_space (take (fit w cs + 1) cs) ≡ o → v ≤ w → fit w cs < length cs → width_of (cut_at o (fit w cs) cs).line ≤ v
    → first_cut (fit v cs) cs ≡ first_cut (fit w cs) cs
cut_same v w cs None e h less narrow = hard_same v w cs h less narrow
cut_same v w cs (Some i) e h less narrow = case (without_trailing (take i cs)) refl narrow
  where
    case : (line : List Cluster) → without_trailing (take i cs) ≡ line → width_of (cut_soft (fit w cs) cs line (without_leading (drop (suc i) cs))).line ≤ v → first_cut (fit v cs) cs ≡ first_cut (fit w cs) cs
    case [] q n = hard_same v w cs h less n
    case (c ∷ line) q n =
        let long : 0 < length (without_trailing (take i cs)) = subst (λ zs. 0 < length zs) (sym q) (omega arith) in
        soft_same v w i cs h less e long (subst (λ zs. width_of zs ≤ v) (sym q) n)
        ∙ sym (ap (λ z. cut_at z (fit w cs) cs) e ∙ soft_taken (fit w cs) cs (without_trailing (take i cs)) (without_leading (drop (suc i) cs)) long)

-- the first j rows are one, the next ones stand for the same part of a paragraph, and where rows follow in the second list some do in the first
abbrev pub Agree : List Row → List Row → ℕ → Type 0
Agree [] [] j = Unit {0}
Agree [] (b ∷ ys) j = ⊥
Agree (a ∷ xs) [] j = ⊥
Agree (a ∷ xs) (b ∷ ys) zero = (a.onward ≡ b.onward) × (0 < length ys → 0 < length xs)
Agree (a ∷ xs) (b ∷ ys) (suc j) = (a ≡ b) × Agree xs ys j

-- none of the first j lines is wider than v
abbrev pub IsNarrow : List Row → ℕ → ℕ → Type 0
IsNarrow [] v j = Unit {0}
IsNarrow (r ∷ rs) v zero = Unit {0}
IsNarrow (r ∷ rs) v (suc j) = (width_of r.line ≤ v) × IsNarrow rs v j

same_agree : (rows : List Row) (j : ℕ) → Agree rows rows j
same_agree [] j = tt
same_agree (r ∷ rs) zero = (refl, λ h. h)
same_agree (r ∷ rs) (suc j) = (refl, same_agree rs j)

more_of : (a b c d : ℕ) → (0 < a → 0 < b) → (0 < c → 0 < d) → 0 < a + c → 0 < b + d
more_of zero b c d x y q = let l = y (omega arith) in omega arith
more_of (suc a) b c d x y q = let l = x (omega arith) in omega arith

agree_append : (xs ys cs ds : List Row) (j : ℕ) → Agree xs ys j → (length ys ≤ j → Agree cs ds (j - length ys)) → (0 < length ds → 0 < length cs) → Agree (xs ++ cs) (ys ++ ds) j
agree_append [] [] cs ds j h f g = subst (Agree cs ds) (omega arith) (f (omega arith))
agree_append [] (b ∷ ys) cs ds j h f g = absurd h
agree_append (a ∷ xs) [] cs ds j h f g = absurd h
agree_append (a ∷ xs) (b ∷ ys) cs ds zero h f g =
    (h.0, λ q. let l = more_of (length ys) (length xs) (length ds) (length cs) h.1 g (omega (arith, length-append ys ds)) in omega (arith, length-append xs cs))
agree_append (a ∷ xs) (b ∷ ys) cs ds (suc j) h f g = (h.0, agree_append xs ys cs ds j h.1 (λ q. subst (Agree cs ds) (omega arith) (f (omega arith))) g)

narrow_left : (xs cs : List Row) (v j : ℕ) → IsNarrow (xs ++ cs) v j → IsNarrow xs v j
narrow_left [] cs v j h = tt
narrow_left (a ∷ xs) cs v zero h = tt
narrow_left (a ∷ xs) cs v (suc j) h = (h.0, narrow_left xs cs v j h.1)

narrow_right : (xs cs : List Row) (v j : ℕ) → IsNarrow (xs ++ cs) v j → length xs ≤ j → IsNarrow cs v (j - length xs)
narrow_right [] cs v j h l = subst (IsNarrow cs v) (omega arith) h
narrow_right (a ∷ xs) cs v zero h l = absurd (omega arith)
narrow_right (a ∷ xs) cs v (suc j) h l = subst (IsNarrow cs v) (omega arith) (narrow_right xs cs v j h.1 (omega arith))

agree_whole : (xs ys : List Row) (j : ℕ) → Agree xs ys j → length ys ≤ j → xs ≡ ys
agree_whole [] [] j h l = refl
agree_whole [] (b ∷ ys) j h l = absurd h
agree_whole (a ∷ xs) [] j h l = absurd h
agree_whole (a ∷ xs) (b ∷ ys) zero h l = absurd (omega arith)
agree_whole (a ∷ xs) (b ∷ ys) (suc j) h l = ap (λ (x : Row). x ∷ xs) h.0 ∙ ap (λ xs. b ∷ xs) (agree_whole xs ys j h.1 (omega arith))

agree_longer : (xs ys : List Row) (j : ℕ) → Agree xs ys j → suc j < length ys → suc j < length xs
agree_longer [] [] j h l = absurd (omega arith)
agree_longer [] (b ∷ ys) j h l = absurd h
agree_longer (a ∷ xs) [] j h l = absurd h
agree_longer (a ∷ xs) (b ∷ ys) zero h l = let more = h.1 (omega arith) in omega arith
agree_longer (a ∷ xs) (b ∷ ys) (suc j) h l = let more = agree_longer xs ys j h.1 (omega arith) in omega arith

-- the rows of a paragraph at both widths
whole_fits : (v : ℕ) (cs : List Cluster) → width_of cs ≤ v → (fit v cs == length cs) ≡ true
whole_fits v cs h = eq-eqb (fit v cs) (length cs) (omega (arith, fit_within v cs, fit_reach (length cs) v cs (omega arith) (subst (λ zs. width_of zs ≤ v) (sym (take-length cs)) h)))

abbrev whole : List Cluster → Row
whole cs = record { line = cs; onward = cs }

abbrev first : ℕ → List Cluster → Row
first w cs = record { line = (first_cut (fit w cs) cs).line; onward = cs }

abbrev left : ℕ → List Cluster → List Cluster
left w cs = (first_cut (fit w cs) cs).rest

-- the rows of at most n + 1, by whether all fits
abbrev turn : Bool → ℕ → ℕ → List Cluster → List Row
turn b n w cs = cond b (whole cs ∷ []) (first w cs ∷ rows_up_to n w (left w cs))

rows_nonempty : (n w : ℕ) (cs : List Cluster) → 0 < n → 0 < length (rows_up_to n w cs)
rows_nonempty zero w cs h = absurd (omega arith)
rows_nonempty (suc n) w cs h = cut_some n w cs

whole_agrees : (b : Bool) (n v : ℕ) (cs : List Cluster) → Agree (turn b n v cs) (whole cs ∷ []) 0
whole_agrees true n v cs = (refl, λ h. h)
whole_agrees false n v cs = (refl, λ h. absurd (omega arith))

-- a paragraph that is one line
whole_turn : (n v : ℕ) (cs : List Cluster) (j : ℕ) → IsNarrow (whole cs ∷ []) v j → Agree (turn (fit v cs == length cs) n v cs) (whole cs ∷ []) j
whole_turn n v cs zero narrow = whole_agrees (fit v cs == length cs) n v cs
whole_turn n v cs (suc j) narrow = subst (λ b. Agree (turn b n v cs) (whole cs ∷ []) (suc j)) (sym (whole_fits v cs narrow.0)) (same_agree (whole cs ∷ []) (suc j))

-- what does not fit w does not fit v
unfit : (v w : ℕ) (cs : List Cluster) → v ≤ w → (fit w cs == length cs) ≡ false → (fit w cs < length cs) × ((fit v cs == length cs) ≡ false)
unfit v w cs h e =
    let apart : fit w cs ≢ length cs = λ q. true≢false (sym (eq-eqb (fit w cs) (length cs) q) ∙ e) in
    let less : fit w cs < length cs = omega (arith, fit_within w cs) in
    (less, ne_eqb (fit v cs) (length cs) (λ q. absurd (omega (arith, fit_mono v w cs h))))

agree_turn : (b : Bool) (n v w : ℕ) (cs : List Cluster) (j : ℕ) → (fit w cs == length cs) ≡ b → length cs < suc n → v ≤ w
    → ((i : ℕ) → length (left w cs) < n → IsNarrow (rows_up_to n w (left w cs)) v i → Agree (rows_up_to n v (left w cs)) (rows_up_to n w (left w cs)) i)
    → IsNarrow (turn b n w cs) v j → Agree (turn (fit v cs == length cs) n v cs) (turn b n w cs) j
agree_turn true n v w cs j e l h ih narrow = whole_turn n v cs j narrow
agree_turn false n v w cs zero e l h ih narrow =
    let both = unfit v w cs h e in
    subst (λ b. Agree (turn b n v cs) (first w cs ∷ rows_up_to n w (left w cs)) 0) (sym both.1) (refl, λ q. rows_nonempty n v (left v cs) (omega arith))
agree_turn false n v w cs (suc j) e l h ih narrow =
    let both = unfit v w cs h e in
    let cut : first_cut (fit v cs) cs ≡ first_cut (fit w cs) cs = cut_same v w cs (last_space (take (fit w cs + 1) cs)) refl h both.0 narrow.0 in
    let rest : left v cs ≡ left w cs = ap (λ (c : Cut). c.rest) cut in
    let here : first v cs ≡ first w cs = ap (λ (c : Cut). let r : Row = record { line = c.line; onward = cs } in r) cut in
    let on : Agree (rows_up_to n v (left w cs)) (rows_up_to n w (left w cs)) j = ih j (omega (arith, rest_shorter (fit w cs) cs both.0)) narrow.1 in
    subst (λ b. Agree (turn b n v cs) (first w cs ∷ rows_up_to n w (left w cs)) (suc j)) (sym both.1)
    (here, subst (λ zs. Agree (rows_up_to n v zs) (rows_up_to n w (left w cs)) j) (sym rest) on)

rows_agree : (n v w : ℕ) (cs : List Cluster) (j : ℕ) → length cs < n → v ≤ w → IsNarrow (rows_up_to n w cs) v j → Agree (rows_up_to n v cs) (rows_up_to n w cs) j
rows_agree zero v w cs j l h narrow = absurd (omega arith)
rows_agree (suc n) v w cs j l h narrow = agree_turn (fit w cs == length cs) n v w cs j refl l h (λ i m k. rows_agree n v w (left w cs) i m h k) narrow

nonempty_from : (width : Option ℕ) (ps : List (List Cluster)) → 0 < length (flat_map (rows_of width) ps) → 0 < length ps
nonempty_from width [] h = h
nonempty_from width (p ∷ ps) h = omega arith

paragraph_agrees : (v : ℕ) (width : Option ℕ) (p : List Cluster) (j : ℕ) → v ≤ columns width → IsNarrow (rows_of width p) v j → Agree (rows_of (Some v) p) (rows_of width p) j
paragraph_agrees v None p j h narrow = whole_turn (length p) v p j narrow
paragraph_agrees v (Some w) p j h narrow = rows_agree (suc (length p)) v w p j (omega arith) h narrow

-- the rows of all paragraphs at both widths
all_agree : (v : ℕ) (width : Option ℕ) (ps : List (List Cluster)) (j : ℕ) → v ≤ columns width → IsNarrow (flat_map (rows_of width) ps) v j → Agree (flat_map (rows_of (Some v)) ps) (flat_map (rows_of width) ps) j
all_agree v width [] j h narrow = tt
all_agree v width (p ∷ ps) j h narrow =
    agree_append (rows_of (Some v) p) (rows_of width p) (flat_map (rows_of (Some v)) ps) (flat_map (rows_of width) ps) j
    (paragraph_agrees v width p j h (narrow_left (rows_of width p) (flat_map (rows_of width) ps) v j narrow))
    (λ l. all_agree v width ps (j - length (rows_of width p)) h (narrow_right (rows_of width p) (flat_map (rows_of width) ps) v j narrow l))
    (λ q. all_rows_some (Some v) ps (nonempty_from width ps q))

-- a shortened line that is no wider than v
shortened_same : (v w : ℕ) (r : Row) → v ≤ w → width_of (shortened w r) ≤ v → shortened v r ≡ shortened w r
shortened_same v w r h narrow =
    let cs = r.onward in
    let k = fit (w - 1) cs in
    let n = fit (v - 1) cs in
    let wide = sum_by-append (λ (c : Cluster). c.width) (without_trailing (take k cs)) (ellipsis ∷ []) in
    let m = length (take k cs) - suffix_len is_space (take k cs) in
    let within = fit_within (w - 1) cs in
    let long = length-take-le k cs within in
    let reach : m ≤ n = fit_reach m (v - 1) cs (omega arith) (subst (λ zs. width_of zs ≤ v - 1) (trimmed_is k cs) (omega arith)) in
    ap (λ zs. zs ++ ellipsis ∷ []) (trim_between n k cs (fit_mono (v - 1) (w - 1) cs (omega arith)) within reach)

-- the lines shown, and the last one shortened
abbrev shown : ℕ → ℕ → List Row → List (List Cluster)
shown w j rows = map line_of (take j rows) ++ map (shortened w) (take 1 (drop j rows))

shown_same : (v w : ℕ) (xs ys : List Row) (j : ℕ) → v ≤ w → Agree xs ys j → widest_of (shown w j ys) ≤ v → shown v j xs ≡ shown w j ys
shown_same v w [] [] zero h agree narrow = refl
shown_same v w [] [] (suc j) h agree narrow = refl
shown_same v w [] (b ∷ ys) j h agree narrow = absurd agree
shown_same v w (a ∷ xs) [] j h agree narrow = absurd agree
shown_same v w (a ∷ xs) (b ∷ ys) zero h agree narrow =
    ap (λ zs. zs ∷ []) (ap (λ cs. without_trailing (take (fit (v - 1) cs) cs) ++ ellipsis ∷ []) agree.0 ∙ shortened_same v w b h (omega arith))
shown_same v w (a ∷ xs) (b ∷ ys) (suc j) h agree narrow =
    ap (λ (x : Row). x.line ∷ shown v j xs) agree.0 ∙ ap (λ zs. b.line ∷ zs) (shown_same v w xs ys j h agree.1 (omega arith))

narrow_from_shown : (v w : ℕ) (rows : List Row) (j : ℕ) → widest_of (shown w j rows) ≤ v → IsNarrow rows v j
narrow_from_shown v w [] j h = tt
narrow_from_shown v w (r ∷ rs) zero h = tt
narrow_from_shown v w (r ∷ rs) (suc j) h = (omega arith, narrow_from_shown v w rs j (omega arith))

narrow_from_all : (v : ℕ) (rows : List Row) (j : ℕ) → widest_of (map line_of rows) ≤ v → IsNarrow rows v j
narrow_from_all v [] j h = tt
narrow_from_all v (r ∷ rs) zero h = tt
narrow_from_all v (r ∷ rs) (suc j) h = (omega arith, narrow_from_all v rs j (omega arith))

-- all rows are shown
all_shown : (v : ℕ) (width : Option ℕ) (ps : List (List Cluster)) → v ≤ columns width → widest_of (map line_of (flat_map (rows_of width) ps)) ≤ v
    → limited (Some (length (map line_of (flat_map (rows_of width) ps)))) v (flat_map (rows_of (Some v)) ps) ≡ map line_of (flat_map (rows_of width) ps)
all_shown v width ps h narrow =
    let ys = flat_map (rows_of width) ps in
    let same : flat_map (rows_of (Some v)) ps ≡ ys = agree_whole (flat_map (rows_of (Some v)) ps) ys (length ys) (all_agree v width ps (length ys) h (narrow_from_all v ys (length ys) narrow)) (omega arith) in
    let n = length (map line_of ys) in
    ap (limited (Some n) v) same ∙ ap (λ b. cond b (map line_of ys) (shown v (n - 1) ys)) (le-leb (length ys) n (omega (arith, length-map ys line_of)))

-- the last row that is shown is shortened
some_shown : (v n : ℕ) (width : Option ℕ) (ps : List (List Cluster)) → v ≤ columns width → 0 < n → n < length (flat_map (rows_of width) ps)
    → widest_of (shown (columns width) (n - 1) (flat_map (rows_of width) ps)) ≤ v
    → limited (Some (length (shown (columns width) (n - 1) (flat_map (rows_of width) ps)))) v (flat_map (rows_of (Some v)) ps) ≡ shown (columns width) (n - 1) (flat_map (rows_of width) ps)
some_shown v n width ps h some more narrow =
    let xs = flat_map (rows_of (Some v)) ps in
    let ys = flat_map (rows_of width) ps in
    let agree = all_agree v width ps (n - 1) h (narrow_from_shown v (columns width) ys (n - 1) narrow) in
    let long : n < length xs = let l = agree_longer xs ys (n - 1) agree (omega arith) in omega arith in
    ap (λ m. limited (Some m) v xs) (cut_off_length n (columns width) ys some more)
    ∙ ap (λ b. cond b (map line_of xs) (shown v (n - 1) xs)) (lt-leb (length xs) n long)
    ∙ shown_same v (columns width) xs ys (n - 1) h agree narrow

limited_again : (most : Option ℕ) (v : ℕ) (width : Option ℕ) (ps : List (List Cluster)) → ForSome most (λ n. 0 < n) → v ≤ columns width
    → widest_of (limited most (columns width) (flat_map (rows_of width) ps)) ≤ v
    → limited (Some (length (limited most (columns width) (flat_map (rows_of width) ps)))) v (flat_map (rows_of (Some v)) ps) ≡ limited most (columns width) (flat_map (rows_of width) ps)
limited_again None v width ps allowed h narrow = all_shown v width ps h narrow
limited_again (Some n) v width ps allowed h narrow = case (nat_le (length (flat_map (rows_of width) ps)) n) refl narrow
  where
    case : (b : Bool) → nat_le (length (flat_map (rows_of width) ps)) n ≡ b
        → widest_of (cond b (map line_of (flat_map (rows_of width) ps)) (shown (columns width) (n - 1) (flat_map (rows_of width) ps))) ≤ v
        → limited (Some (length (cond b (map line_of (flat_map (rows_of width) ps)) (shown (columns width) (n - 1) (flat_map (rows_of width) ps))))) v (flat_map (rows_of (Some v)) ps)
        ≡ cond b (map line_of (flat_map (rows_of width) ps)) (shown (columns width) (n - 1) (flat_map (rows_of width) ps))
    case true e narrow = all_shown v width ps h narrow
    case false e narrow = some_shown v n width ps h (allowed n refl) (leb-false (length (flat_map (rows_of width) ps)) n e) narrow

text_again : (text : List ℕ) (width most : Option ℕ) → ForSome most (λ n. 0 < n) → 0 < widest_of (lines_of text width most) → widest_of (lines_of text width most) ≤ columns width
    → lines_of text (Some (widest_of (lines_of text width most))) (Some (length (lines_of text width most))) ≡ lines_of text width most
text_again text width most allowed some fits = case (columns width == 0) some fits
  where
    case : (b : Bool) → (let lines = cond b ([] ∷ []) (limited most (columns width) (flat_map (rows_of width) (map clusters_of (paragraphs text)))) in
        0 < widest_of lines → widest_of lines ≤ columns width → lines_of text (Some (widest_of lines)) (Some (length lines)) ≡ lines)
    case true some fits = absurd (omega arith)
    case false some fits =
        let ps = map clusters_of (paragraphs text) in
        let lines = limited most (columns width) (flat_map (rows_of width) ps) in
        let v = widest_of lines in
        ap (λ b. cond b ([] ∷ []) (limited (Some (length lines)) v (flat_map (rows_of (Some v)) ps))) (ne_eqb v 0 (λ q. absurd (omega arith)))
        ∙ limited_again most v width ps allowed fits (omega arith)

-- the law as the contract says it
pub lines-again : (text : List ℕ) (width most : Option ℕ) (lines : List (List Cluster)) → ForSome most (λ n. 0 < n) → lines ≡ lines_of text width most → IsCutAgain text width lines
lines-again text width most lines allowed e = subst (IsCutAgain text width) (sym e) (text_again text width most allowed)
