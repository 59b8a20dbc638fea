-- No line is wider than the width.
use Rattle.std.proofs.Common.{◌≡◌, ℕ, zero, suc, ◌+◌, ◌-◌, ◌<◌, ◌≤◌, Bool, true, false, cond, List, [], ◌∷◌, ◌++◌, subst, length, take, drop, sym, ap, ◌∙◌, arith, refl, eqb-true}
use Rattle.std.specs.Prelude.{Option, Some, None, ◌==◌, nat_le, map, flat_map, IfSome}
use Rattle.std.specs.List.{suffix_len}
use Rattle.std.proofs.lemmas.Bool.{leb-true}
use Rattle.std.proofs.lemmas.List.{take-take, length-take, map-append, take-map}
use Rattle.std.proofs.lemmas.List.Sums.{sum_by-append, sum_by-cons, sum_by-take-le}
use Rattle.std.proofs.Math.Seq.{take-length}
use Rattle.text_layout.specs.declared.pieces.Cluster.{Cluster}
use Rattle.text_layout.specs.Paragraphs.{paragraphs}
use Rattle.text_layout.specs.Clusters.{clusters_of, is_space, ellipsis}
use Rattle.text_layout.specs.Cuts.{last_space, or_here, cut_soft, without_trailing, without_leading, Row, cut_at, cut_hard, first_cut, fit, rows_up_to, cut_rows}
use Rattle.text_layout.specs.Lines.{rows_of, line_of, shortened, limited, lines_of, width_of, widest_of}

pub width-cons : (c : Cluster) (cs : List Cluster) → width_of (c ∷ cs) ≡ c.width + width_of cs
width-cons c cs = sum_by-cons (λ (x : Cluster). x.width) c cs

pub width-take : (n : ℕ) (cs : List Cluster) → width_of (take n cs) ≤ width_of cs
width-take n cs = sum_by-take-le (λ (x : Cluster). x.width) cs n

width_shorter : (n m : ℕ) (cs : List Cluster) → n ≤ m → width_of (take n cs) ≤ width_of (take m cs)
width_shorter n m cs h = subst (λ zs. width_of zs ≤ width_of (take m cs)) (take-take n m cs h) (width-take n (take m cs))

pub width-fit : (w : ℕ) (cs : List Cluster) → width_of (take (fit w cs) cs) ≤ w
width-fit w [] = omega arith
width-fit w (c ∷ cs) = case (nat_le c.width w) refl (width-fit (w - c.width) cs)
  where
    case : (b : Bool) → nat_le c.width w ≡ b → width_of (take (fit (w - c.width) cs) cs) ≤ w - c.width → width_of (take (cond b (suc (fit (w - c.width) cs)) 0) (c ∷ cs)) ≤ w
    case true e h = omega (arith, leb-true c.width w e, width-cons c (take (fit (w - c.width) cs) cs))
    case false e h = omega arith

width_upto_fit : (n w : ℕ) (cs : List Cluster) → n ≤ fit w cs → width_of (take n cs) ≤ w
width_upto_fit n w cs h = omega (arith, width_shorter n (fit w cs) cs h, width-fit w cs)

width-without_trailing : (cs : List Cluster) → width_of (without_trailing cs) ≤ width_of cs
width-without_trailing cs = width-take (length cs - suffix_len is_space cs) cs

-- the last space stands in the list
or_here_within : (o : Option ℕ) (b : Bool) (n i : ℕ) → ((j : ℕ) → o ≡ Some j → j < n) → or_here o b ≡ Some i → i < suc n
or_here_within (Some j) b n i h e = let inner : j < n = h j refl in let same : suc j ≡ i = cc in omega arith
or_here_within None true n i h e = let same : 0 ≡ i = cc in omega arith
or_here_within None false n i h e = absurd (cc)

pub last_within : (cs : List Cluster) (i : ℕ) → last_space cs ≡ Some i → i < length cs
last_within [] i e = absurd (cc)
last_within (c ∷ cs) i e = or_here_within (last_space cs) (is_space c) (length cs) i (λ j q. last_within cs j q) e

hard_width : (k w : ℕ) (cs : List Cluster) → 0 < w → k ≤ fit w cs → width_of (cut_hard k cs).line ≤ w
hard_width zero w cs some h = omega arith
hard_width (suc k) w cs some h = width_upto_fit (suc k) w cs h

soft_width : (k w : ℕ) (cs line rest : List Cluster) → 0 < w → k ≤ fit w cs → width_of line ≤ w → width_of (cut_soft k cs line rest).line ≤ w
soft_width k w cs [] rest some h b = hard_width k w cs some h
soft_width k w cs (c ∷ line) rest some h b = b

at_width : (o : Option ℕ) (k w : ℕ) (cs : List Cluster) → 0 < w → k ≤ fit w cs → ((i : ℕ) → o ≡ Some i → i ≤ k) → width_of (cut_at o k cs).line ≤ w
at_width None k w cs some h within = hard_width k w cs some h
at_width (Some i) k w cs some h within =
    let near : i ≤ k = within i refl in
    soft_width k w cs (without_trailing (take i cs)) (without_leading (drop (suc i) cs)) some h
    (omega (arith, width-without_trailing (take i cs), width_upto_fit i w cs (omega arith)))

first_width : (w : ℕ) (cs : List Cluster) → 0 < w → width_of (first_cut (fit w cs) cs).line ≤ w
first_width w cs some =
    let k = fit w cs in
    at_width (last_space (take (k + 1) cs)) k w cs some (omega arith)
    (λ i q. let near : i < length (take (k + 1) cs) = last_within (take (k + 1) cs) i q in omega (arith, length-take (k + 1) cs))

pub rows_width : (n w : ℕ) (cs : List Cluster) → 0 < w → widest_of (map line_of (rows_up_to n w cs)) ≤ w
rows_width zero w cs some = omega arith
rows_width (suc n) w cs some = case (fit w cs == length cs) refl (rows_width n w (first_cut (fit w cs) cs).rest some)
  where
    case : (b : Bool) → (fit w cs == length cs) ≡ b → widest_of (map line_of (rows_up_to n w (first_cut (fit w cs) cs).rest)) ≤ w
        → widest_of (map line_of (cond b (record { line = cs; onward = cs } ∷ []) (record { line = (first_cut (fit w cs) cs).line; onward = cs } ∷ rows_up_to n w (first_cut (fit w cs) cs).rest))) ≤ w
    case true e h =
        let all : take (fit w cs) cs ≡ cs = ap (λ m. take m cs) (eqb-true (fit w cs) (length cs) e) ∙ take-length cs in
        let fits : width_of cs ≤ w = subst (λ zs. width_of zs ≤ w) all (width-fit w cs) in
        omega arith
    case false e h = omega (arith, first_width w cs some)

pub widest-append : (w : ℕ) (xs ys : List (List Cluster)) → widest_of xs ≤ w → widest_of ys ≤ w → widest_of (xs ++ ys) ≤ w
widest-append w [] ys h k = k
widest-append w (x ∷ xs) ys h k = omega (arith, widest-append w xs ys (omega arith) k)

pub widest-take : (w n : ℕ) (xs : List (List Cluster)) → widest_of xs ≤ w → widest_of (take n xs) ≤ w
widest-take w zero xs h = omega arith
widest-take w (suc n) [] h = omega arith
widest-take w (suc n) (x ∷ xs) h = omega (arith, widest-take w n xs (omega arith))

all_rows_width : (w : ℕ) (ps : List (List Cluster)) → 0 < w → widest_of (map line_of (flat_map (rows_of (Some w)) ps)) ≤ w
all_rows_width w [] some = omega arith
all_rows_width w (p ∷ ps) some =
    subst (λ zs. widest_of zs ≤ w) (sym (map-append line_of (cut_rows w p) (flat_map (rows_of (Some w)) ps)))
    (widest-append w (map line_of (cut_rows w p)) (map line_of (flat_map (rows_of (Some w)) ps)) (rows_width (suc (length p)) w p some) (all_rows_width w ps some))

shortened_width : (w : ℕ) (r : Row) → 0 < w → width_of (shortened w r) ≤ w
shortened_width w r some =
    let kept = take (fit (w - 1) r.onward) r.onward in
    omega (arith, sum_by-append (λ (c : Cluster). c.width) (without_trailing kept) (ellipsis ∷ []), width-without_trailing kept, width-fit (w - 1) r.onward)

all_shortened_width : (w : ℕ) (rs : List Row) → 0 < w → widest_of (map (shortened w) rs) ≤ w
all_shortened_width w [] some = omega arith
all_shortened_width w (r ∷ rs) some = omega (arith, shortened_width w r some, all_shortened_width w rs some)

limited_width : (most : Option ℕ) (w : ℕ) (rows : List Row) → 0 < w → widest_of (map line_of rows) ≤ w → widest_of (limited most w rows) ≤ w
limited_width None w rows some h = h
limited_width (Some n) w rows some h = case (nat_le (length rows) n)
  where
    case : (b : Bool) → widest_of (cond b (map line_of rows) (map line_of (take (n - 1) rows) ++ map (shortened w) (take 1 (drop (n - 1) rows)))) ≤ w
    case true = h
    case false = widest-append w (map line_of (take (n - 1) rows)) (map (shortened w) (take 1 (drop (n - 1) rows)))
        (subst (λ zs. widest_of zs ≤ w) (take-map line_of (n - 1) rows) (widest-take w (n - 1) (map line_of rows) h))
        (all_shortened_width w (take 1 (drop (n - 1) rows)) some)

pos_from : (w : ℕ) → (w == 0) ≡ false → 0 < w
pos_from zero e = absurd (cc)
pos_from (suc w) e = omega arith

text_width : (text : List ℕ) (w : ℕ) (most : Option ℕ) → widest_of (lines_of text (Some w) most) ≤ w
text_width text w most = case (w == 0) refl
  where
    case : (b : Bool) → (w == 0) ≡ b → widest_of (cond b ([] ∷ []) (limited most w (flat_map (rows_of (Some w)) (map clusters_of (paragraphs text))))) ≤ w
    case true e = omega arith
    case false e =
        let some : 0 < w = pos_from w e in
        limited_width most w (flat_map (rows_of (Some w)) (map clusters_of (paragraphs text))) some (all_rows_width w (map clusters_of (paragraphs text)) some)

-- the law as the contract says it
pub lines-fit : (text : List ℕ) (width most : Option ℕ) (lines : List (List Cluster)) → lines ≡ lines_of text width most → IfSome width (λ w. widest_of lines ≤ w)
lines-fit text None most lines e = tt
lines-fit text (Some w) most lines e = subst (λ zs. widest_of zs ≤ w) (sym e) (text_width text w most)
