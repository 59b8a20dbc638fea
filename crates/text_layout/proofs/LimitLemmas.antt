-- The limit on the number of lines.
use Rattle.std.proofs.Common.{◌≡◌, ℕ, ◌-◌, ◌<◌, cond, List, [], ◌∷◌, ◌++◌, length, take, drop, get_or, sym, ap, ◌∙◌, arith, false}
use Rattle.std.specs.Prelude.{map, Some, nat_le}
use Rattle.std.proofs.lemmas.Bool.{lt-leb}
use Rattle.std.proofs.lemmas.List.{length-map, take-map, get_or-map}
use Rattle.std.proofs.Math.Seq.{drop-cons}
use Rattle.text_layout.specs.declared.pieces.Cluster.{Cluster}
use Rattle.text_layout.specs.declared.cutting.CutLine.{CutLine}
use Rattle.text_layout.specs.Cuts.{Row}
use Rattle.text_layout.specs.CutLines.{row_of}
use Rattle.text_layout.specs.Lines.{line_of, shortened, limited}

pub cut_off : (n w : ℕ) (rows : List CutLine) (row : CutLine) (lines : List (List Cluster)) (last : List Cluster) → 0 < n → n < length rows
    → row ≡ get_or rows (n - 1) row
    → lines ≡ map line_of (map row_of (take (n - 1) rows)) → last ≡ shortened w (row_of row)
    → lines ++ last ∷ [] ≡ limited (Some n) w (map row_of rows)
cut_off n w rows row lines last some more is told end =
    let all : List Row = map row_of rows in
    let long : length all ≡ length rows = length-map rows row_of in
    let here : get_or all (n - 1) (row_of row) ≡ row_of row = get_or-map row_of rows (n - 1) row (row_of row) (omega arith) ∙ ap row_of (sym is) in
    let left : take 1 (drop (n - 1) all) ≡ row_of row ∷ [] = ap (take 1) (drop-cons all (n - 1) (row_of row) (omega arith)) ∙ ap (λ (r : Row). r ∷ []) here in
    let over : nat_le (length all) n ≡ false = lt-leb (length all) n (omega arith) in
    ap (λ zs. zs ++ last ∷ []) told
    ∙ ap (λ z. map line_of (map row_of (take (n - 1) rows)) ++ z ∷ []) end
    ∙ ap (λ zs. map line_of zs ++ shortened w (row_of row) ∷ []) (sym (take-map row_of (n - 1) rows))
    ∙ ap (λ zs. map line_of (take (n - 1) all) ++ map (shortened w) zs) (sym left)
    ∙ ap (λ b. cond b (map line_of all) (map line_of (take (n - 1) all) ++ map (shortened w) (take 1 (drop (n - 1) all)))) (sym over)
