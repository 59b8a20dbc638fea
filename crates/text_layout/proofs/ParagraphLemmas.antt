-- The paragraphs of a text, a scalar at a time.
use Rattle.std.proofs.Common.{◌≡◌, ℕ, Bool, true, false, cond, List, [], ◌∷◌, ◌++◌, append_assoc, append-nil, refl, sym, ap, ◌∙◌, ◌≢◌, eqb-true}
use Rattle.std.proofs.lemmas.Bool.{ne_eqb}
use Rattle.std.specs.Prelude.{map, ◌==◌, ◌&&◌, encode_utf8, encode_utf8_all}
use Rattle.text_layout.specs.Paragraphs.{is_control, printable, begins_with_feed, cleaned, put_before, parts_of}

abbrev pub bytes_of : List (List ℕ) → List (List ℕ)
bytes_of parts = map encode_utf8_all parts

nothing_before : (xs : List ℕ) (ps : List (List ℕ)) → put_before [] (bytes_of (put_before xs ps)) ≡ bytes_of (put_before xs ps)
nothing_before xs [] = refl
nothing_before xs (p ∷ ps) = refl

pub put_nothing : (cs : List ℕ) → put_before [] (bytes_of (parts_of cs)) ≡ bytes_of (parts_of cs)
put_nothing [] = refl
put_nothing (c ∷ cs) = case (c == 10)
  where
    case : (b : Bool) → put_before [] (bytes_of (cond b ([] ∷ parts_of cs) (put_before (c ∷ []) (parts_of cs)))) ≡ bytes_of (cond b ([] ∷ parts_of cs) (put_before (c ∷ []) (parts_of cs)))
    case true = refl
    case false = nothing_before (c ∷ []) (parts_of cs)

-- a scalar that stays goes to the paragraph at hand
put_scalar : (xs : List ℕ) (c : ℕ) (ps : List (List ℕ)) → put_before xs (bytes_of (put_before (c ∷ []) ps)) ≡ put_before (xs ++ encode_utf8 c) (bytes_of ps)
put_scalar xs c [] = ap (λ zs. (xs ++ zs) ∷ []) (append-nil (encode_utf8 c))
put_scalar xs c (p ∷ ps) = ap (λ zs. (xs ++ zs) ∷ bytes_of ps) refl ∙ ap (λ zs. zs ∷ bytes_of ps) (sym (append_assoc xs (encode_utf8 c) (encode_utf8_all p)))

printable_at : (b : Bool) (c : ℕ) → (c == 10) ≡ false → (cond b 63 c == 10) ≡ false
printable_at true c h = refl
printable_at false c h = h

-- what comes of the paragraphs done, the one at hand and the scalars to come
abbrev pub whole_of : List (List ℕ) → List ℕ → List ℕ → List (List ℕ)
whole_of done cur cs = done ++ put_before cur (bytes_of (parts_of (cleaned cs)))

pub feed_step : (done : List (List ℕ)) (cur cs ds : List ℕ) (c : ℕ) (all : List (List ℕ)) → ds ≡ c ∷ cs → c ≡ 10
    → whole_of done cur ds ≡ all → whole_of (done ++ cur ∷ []) [] cs ≡ all
feed_step done cur cs ds c all d e told =
    let at_feed : whole_of done cur (10 ∷ cs) ≡ all = ap (λ n. whole_of done cur (n ∷ cs)) (sym e) ∙ ap (whole_of done cur) (sym d) ∙ told in
    append_assoc done (cur ∷ []) (put_before [] (bytes_of (parts_of (cleaned cs))))
    ∙ ap (λ zs. done ++ cur ∷ zs) (put_nothing (cleaned cs))
    ∙ ap (λ zs. done ++ zs ∷ bytes_of (parts_of (cleaned cs))) (sym (append-nil cur))
    ∙ at_feed

pub dropped_step : (done : List (List ℕ)) (cur cs ds : List ℕ) (c : ℕ) (all : List (List ℕ)) → ds ≡ c ∷ cs → (c == 13 && begins_with_feed cs) ≡ true
    → whole_of done cur ds ≡ all → whole_of done cur cs ≡ all
dropped_step done cur cs ds c all d e told =
    ap (λ b. done ++ put_before cur (bytes_of (parts_of (cond b (cleaned cs) (cond (c == 10) 10 (printable c) ∷ cleaned cs))))) (sym e) ∙ ap (whole_of done cur) (sym d) ∙ told

pub kept_step : (done : List (List ℕ)) (cur cs ds : List ℕ) (c : ℕ) (all : List (List ℕ)) → ds ≡ c ∷ cs → c ≢ 10 → (c == 13 && begins_with_feed cs) ≡ false
    → whole_of done cur ds ≡ all → whole_of done (cur ++ encode_utf8 (printable c)) cs ≡ all
kept_step done cur cs ds c all d apart e told =
    let f : (c == 10) ≡ false = ne_eqb c 10 apart in
    ap (λ zs. done ++ zs) (
    sym (put_scalar cur (printable c) (parts_of (cleaned cs)))
    ∙ ap (λ b. put_before cur (bytes_of (cond b ([] ∷ parts_of (cleaned cs)) (put_before (printable c ∷ []) (parts_of (cleaned cs)))))) (sym (printable_at (is_control c) c f))
    ∙ ap (λ b. put_before cur (bytes_of (parts_of (cond b 10 (printable c) ∷ cleaned cs)))) (sym f)
    ∙ ap (λ b. put_before cur (bytes_of (parts_of (cond b (cleaned cs) (cond (c == 10) 10 (printable c) ∷ cleaned cs))))) (sym e)
    ) ∙ ap (whole_of done cur) (sym d) ∙ told

pub end_step : (done : List (List ℕ)) (cur ds : List ℕ) (all : List (List ℕ)) → ds ≡ [] → whole_of done cur ds ≡ all → done ++ cur ∷ [] ≡ all
end_step done cur ds all d told = ap (λ zs. done ++ zs ∷ []) (sym (append-nil cur)) ∙ ap (whole_of done cur) (sym d) ∙ told

-- what comes of a name on one line
abbrev pub name_of : List ℕ → List ℕ → List ℕ
name_of out cs = out ++ encode_utf8_all (map printable (cleaned cs))

twice_at : (b : Bool) (c : ℕ) → is_control c ≡ b → printable (cond b 63 c) ≡ cond b 63 c
twice_at true c e = refl
twice_at false c e = ap (λ b. cond b 63 c) e

once_at : (b : Bool) (c : ℕ) → (c == 10) ≡ b → printable (cond b 10 (printable c)) ≡ printable c
once_at true c e = ap printable (sym (eqb-true c 10 e))
once_at false c e = twice_at (is_control c) c refl

pub name_dropped : (out cs ds : List ℕ) (c : ℕ) (all : List ℕ) → ds ≡ c ∷ cs → (c == 13 && begins_with_feed cs) ≡ true → name_of out ds ≡ all → name_of out cs ≡ all
name_dropped out cs ds c all d e told =
    ap (λ b. out ++ encode_utf8_all (map printable (cond b (cleaned cs) (cond (c == 10) 10 (printable c) ∷ cleaned cs)))) (sym e) ∙ ap (name_of out) (sym d) ∙ told

pub name_kept : (out cs ds : List ℕ) (c : ℕ) (all : List ℕ) → ds ≡ c ∷ cs → (c == 13 && begins_with_feed cs) ≡ false → name_of out ds ≡ all
    → name_of (out ++ encode_utf8 (printable c)) cs ≡ all
name_kept out cs ds c all d e told =
    append_assoc out (encode_utf8 (printable c)) (encode_utf8_all (map printable (cleaned cs)))
    ∙ ap (λ n. out ++ (encode_utf8 n ++ encode_utf8_all (map printable (cleaned cs)))) (sym (once_at (c == 10) c refl))
    ∙ ap (λ b. out ++ encode_utf8_all (map printable (cond b (cleaned cs) (cond (c == 10) 10 (printable c) ∷ cleaned cs)))) (sym e)
    ∙ ap (name_of out) (sym d) ∙ told
