-- How many lines there are: at least one, and at most as many as are allowed.
use Rattle.std.proofs.Common.{◌≡◌, ℕ, suc, ◌+◌, ◌-◌, ◌<◌, ◌≤◌, Bool, true, false, cond, List, [], ◌∷◌, ◌++◌, subst, length, take, drop, sym, ap, ◌∙◌, arith, refl, length-append, length-drop}
use Rattle.std.specs.Prelude.{Option, Some, None, ◌==◌, nat_le, map, flat_map, IfSome, encode_utf8_all, chars}
use Rattle.std.specs.Option.{ForSome}
use Rattle.std.proofs.lemmas.Bool.{leb-true, leb-false}
use Rattle.std.proofs.lemmas.List.{length-map, length-take-le}
use Rattle.text_layout.specs.declared.pieces.Cluster.{Cluster}
use Rattle.text_layout.specs.Paragraphs.{parts_of, put_before, cleaned, paragraphs}
use Rattle.text_layout.specs.Clusters.{clusters_of}
use Rattle.text_layout.specs.Cuts.{Row, fit, first_cut, rows_up_to}
use Rattle.text_layout.specs.Lines.{columns, rows_of, line_of, shortened, limited, lines_of}

put_some : (xs : List ℕ) (ps : List (List ℕ)) → 0 < length (put_before xs ps)
put_some xs [] = omega arith
put_some xs (p ∷ ps) = omega arith

parts_some : (cs : List ℕ) → 0 < length (parts_of cs)
parts_some [] = omega arith
parts_some (c ∷ cs) = case (c == 10)
  where
    case : (b : Bool) → 0 < length (cond b ([] ∷ parts_of cs) (put_before (c ∷ []) (parts_of cs)))
    case true = omega arith
    case false = put_some (c ∷ []) (parts_of cs)

pub cut_some : (n w : ℕ) (cs : List Cluster) → 0 < length (rows_up_to (suc n) w cs)
cut_some n w cs = case (fit w cs == length cs)
  where
    case : (b : Bool) → 0 < length (cond b (record { line = cs; onward = cs } ∷ []) (record { line = (first_cut (fit w cs) cs).line; onward = cs } ∷ rows_up_to n w (first_cut (fit w cs) cs).rest))
    case true = omega arith
    case false = omega arith

rows_some : (width : Option ℕ) (cs : List Cluster) → 0 < length (rows_of width cs)
rows_some None cs = omega arith
rows_some (Some w) cs = cut_some (length cs) w cs

pub all_rows_some : (width : Option ℕ) (ps : List (List Cluster)) → 0 < length ps → 0 < length (flat_map (rows_of width) ps)
all_rows_some width [] h = absurd (omega arith)
all_rows_some width (p ∷ ps) h = omega (arith, length-append (rows_of width p) (flat_map (rows_of width) ps), rows_some width p)

pub cut_off_length : (n w : ℕ) (rows : List Row) → 0 < n → n < length rows → length (map line_of (take (n - 1) rows) ++ map (shortened w) (take 1 (drop (n - 1) rows))) ≡ n
cut_off_length n w rows some more =
    length-append (map line_of (take (n - 1) rows)) (map (shortened w) (take 1 (drop (n - 1) rows)))
    ∙ ap (λ k. k + length (map (shortened w) (take 1 (drop (n - 1) rows)))) (length-map (take (n - 1) rows) line_of ∙ length-take-le (n - 1) rows (omega arith))
    ∙ ap (λ k. (n - 1) + k) (length-map (take 1 (drop (n - 1) rows)) (shortened w) ∙ length-take-le 1 (drop (n - 1) rows) (omega (arith, length-drop (n - 1) rows)))
    ∙ omega arith

limited_some : (most : Option ℕ) (w : ℕ) (rows : List Row) → ForSome most (λ n. 0 < n) → 0 < length rows → 0 < length (limited most w rows)
limited_some None w rows allowed h = omega (arith, length-map rows line_of)
limited_some (Some n) w rows allowed h = case (nat_le (length rows) n) refl
  where
    case : (b : Bool) → nat_le (length rows) n ≡ b → 0 < length (cond b (map line_of rows) (map line_of (take (n - 1) rows) ++ map (shortened w) (take 1 (drop (n - 1) rows))))
    case true e = omega (arith, length-map rows line_of)
    case false e = let some : 0 < n = allowed n refl in omega (arith, cut_off_length n w rows some (leb-false (length rows) n e))

limited_most : (n w : ℕ) (rows : List Row) → 0 < n → length (limited (Some n) w rows) ≤ n
limited_most n w rows some = case (nat_le (length rows) n) refl
  where
    case : (b : Bool) → nat_le (length rows) n ≡ b → length (cond b (map line_of rows) (map line_of (take (n - 1) rows) ++ map (shortened w) (take 1 (drop (n - 1) rows)))) ≤ n
    case true e = omega (arith, length-map rows line_of, leb-true (length rows) n e)
    case false e = omega (arith, cut_off_length n w rows some (leb-false (length rows) n e))

text_some : (text : List ℕ) (width most : Option ℕ) → ForSome most (λ n. 0 < n) → 0 < length (lines_of text width most)
text_some text width most allowed = case (columns width == 0)
  where
    case : (b : Bool) → 0 < length (cond b ([] ∷ []) (limited most (columns width) (flat_map (rows_of width) (map clusters_of (paragraphs text)))))
    case true = omega arith
    case false =
        let parts = parts_of (cleaned (chars text)) in
        let many : 0 < length (map clusters_of (paragraphs text)) = omega (arith, length-map (paragraphs text) clusters_of, length-map parts encode_utf8_all, parts_some (cleaned (chars text))) in
        limited_some most (columns width) (flat_map (rows_of width) (map clusters_of (paragraphs text))) allowed (all_rows_some width (map clusters_of (paragraphs text)) many)

text_most : (text : List ℕ) (width : Option ℕ) (n : ℕ) → 0 < n → length (lines_of text width (Some n)) ≤ n
text_most text width n some = case (columns width == 0)
  where
    case : (b : Bool) → length (cond b ([] ∷ []) (limited (Some n) (columns width) (flat_map (rows_of width) (map clusters_of (paragraphs text))))) ≤ n
    case true = omega arith
    case false = limited_most n (columns width) (flat_map (rows_of width) (map clusters_of (paragraphs text))) some

-- the laws as the contract says them
pub lines-some : (text : List ℕ) (width most : Option ℕ) (lines : List (List Cluster)) → ForSome most (λ n. 0 < n) → lines ≡ lines_of text width most → 0 < length lines
lines-some text width most lines allowed e = subst (λ zs. 0 < length zs) (sym e) (text_some text width most allowed)

pub lines-at_most : (text : List ℕ) (width most : Option ℕ) (lines : List (List Cluster)) → ForSome most (λ n. 0 < n) → lines ≡ lines_of text width most → IfSome most (λ n. length lines ≤ n)
lines-at_most text width None lines allowed e = tt
lines-at_most text width (Some n) lines allowed e = subst (λ zs. length zs ≤ n) (sym e) (text_most text width n (allowed n refl))
