-- Each label with its items, from the left.
use Rattle.std.proofs.Common.{◌≡◌, ℕ, zero, suc, ◌≤◌, ◌+◌, List, [], ◌∷◌, ◌++◌, length, drop, Some, None, slice_get, slice_set, refl, sym, ap, subst, ◌∙◌, arith, append_assoc, length-set}
use Rattle.std.proofs.lemmas.List.{append-nil, drop-set-lt}
use Rattle.std.proofs.lemmas.Bool.{eq-eqb}
use Rattle.std.specs.Prelude.{Bool, if◌then◌else◌}
use Rattle.std.proofs.lemmas.Option.{slice_get_within, get_or_from_slice_get}
use Rattle.swift_core.specs.declared.item.CoreItem.{CoreItem}
use Rattle.swift_core.specs.declared.item.ItemCase.{ItemCase}
use Rattle.case_rules.specs.Cases.{Label}
use Rattle.case_rules.specs.Each.{opened, ended}
use Rattle.view_rules.specs.Items.{all_cases, item_case, cases_of}

got : {A : Type 0} (xs : List A) (i : ℕ) (x : A) → slice_get xs i ≡ Some x → drop i xs ≡ x ∷ drop (i + 1) xs
got xs i x e = opened xs i x (slice_get_within xs i x e) ∙ ap (λ y. y ∷ drop (i + 1) xs) (get_or_from_slice_get xs i x x e)

next_suc : {A : Type 0} (xs : List A) (i : ℕ) → drop (suc i) xs ≡ drop 1 (drop i xs)
next_suc [] zero = refl
next_suc [] (suc i) = refl
next_suc (x ∷ xs) zero = refl
next_suc (x ∷ xs) (suc i) = next_suc xs i

next : {A : Type 0} (xs ys : List A) (i : ℕ) → drop i xs ≡ drop i ys → drop (i + 1) xs ≡ drop (i + 1) ys
next xs ys i h = let e : suc i ≡ i + 1 = omega arith in subst (λ n. drop n xs ≡ drop n ys) e (next_suc xs i ∙ ap (λ zs. drop 1 zs) h ∙ sym (next_suc ys i))

-- so many labels have their items, and the rest is untouched
pub record Paired (labels : List Label) (bodies : List (List CoreItem)) (at : ℕ) (ls : List Label) (bs : List (List CoreItem)) (done : List ItemCase) : Type 0 where
  pub same_labels : length ls ≡ length labels
  pub same_bodies : length bs ≡ length bodies
  pub left_labels : drop at ls ≡ drop at labels
  pub left_bodies : drop at bs ≡ drop at bodies
  pub so_far : all_cases labels bodies ≡ done ++ all_cases (drop at labels) (drop at bodies)

pub paired_start : (labels : List Label) (bodies : List (List CoreItem)) (done : List ItemCase) → done ≡ [] → Paired labels bodies 0 labels bodies done
paired_start labels bodies done e = record { same_labels = refl; same_bodies = refl; left_labels = refl; left_bodies = refl; so_far = ap (λ (t : List ItemCase). t ++ all_cases labels bodies) (sym e) }

pub paired_turn : (labels : List Label) (bodies : List (List CoreItem)) (at : ℕ) (ls ls' : List Label) (bs bs' : List (List CoreItem)) (done done' : List ItemCase) (l : Label) (b : List CoreItem)
    → slice_get ls at ≡ Some l → slice_get bs at ≡ Some b → ls' ≡ slice_set ls at None → bs' ≡ slice_set bs at [] → done' ≡ done ++ item_case l b ∷ [] → Paired labels bodies at ls bs done
    → Paired labels bodies (at + 1) ls' bs' done'
paired_turn labels bodies at ls ls' bs bs' done done' l b got_label got_body put_label put_body pushed p =
    let lab : drop at labels ≡ l ∷ drop (at + 1) labels = sym p.left_labels ∙ got ls at l got_label ∙ ap (λ (t : List Label). l ∷ t) (next ls labels at p.left_labels) in
    let bod : drop at bodies ≡ b ∷ drop (at + 1) bodies = sym p.left_bodies ∙ got bs at b got_body ∙ ap (λ (t : List (List CoreItem)). b ∷ t) (next bs bodies at p.left_bodies) in
    let rest : List ItemCase = all_cases (drop (at + 1) labels) (drop (at + 1) bodies) in
    let step : done ++ all_cases (drop at labels) (drop at bodies) ≡ done ++ (item_case l b ∷ rest) = λ i. done ++ all_cases (lab i) (bod i) in
    record {
      same_labels = ap length put_label ∙ length-set ls at None ∙ p.same_labels;
      same_bodies = ap length put_body ∙ length-set bs at [] ∙ p.same_bodies;
      left_labels = ap (drop (at + 1)) put_label ∙ drop-set-lt (at + 1) ls at None (omega arith) ∙ next ls labels at p.left_labels;
      left_bodies = ap (drop (at + 1)) put_body ∙ drop-set-lt (at + 1) bs at [] (omega arith) ∙ next bs bodies at p.left_bodies;
      so_far = p.so_far ∙ step ∙ sym (append_assoc done (item_case l b ∷ []) rest) ∙ ap (λ (t : List ItemCase). t ++ rest) (sym pushed);
    }

paired_end : (labels : List Label) (bodies : List (List CoreItem)) (at : ℕ) (ls : List Label) (bs : List (List CoreItem)) (done : List ItemCase)
    → length labels ≤ at → Paired labels bodies at ls bs done → all_cases labels bodies ≡ done
paired_end labels bodies at ls bs done le p = p.so_far ∙ ap (λ (t : List Label). done ++ all_cases t (drop at bodies)) (ended labels at le) ∙ append-nil done

pub cases_found : (labels : List Label) (bodies : List (List CoreItem)) (at : ℕ) (ls : List Label) (bs : List (List CoreItem)) (done : List ItemCase)
    → length labels ≡ length bodies → length labels ≤ at → Paired labels bodies at ls bs done → cases_of labels bodies ≡ Some done
cases_found labels bodies at ls bs done same le p =
    ap (λ (b : Bool). if b then Some (all_cases labels bodies) else None) (eq-eqb (length labels) (length bodies) same) ∙ ap Some (paired_end labels bodies at ls bs done le p)
