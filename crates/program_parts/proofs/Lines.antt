-- The lines of the members, one part after another.
use Rattle.std.proofs.Common.{◌≡◌, ℕ, zero, suc, ◌+◌, ◌<◌, List, [], ◌∷◌, ◌++◌, length, take, Option, Some, None, slice_get, get_or, refl, ap, subst, ◌∙◌, arith}
use Rattle.std.specs.List.{cons_option}
use Rattle.std.specs.Option.{option_to_list}
use Rattle.std.proofs.lemmas.Option.{slice_get_read}
use Rattle.source_parts.specs.declared.part_ref.PartRef.{PartRef}
use Rattle.source_parts.specs.Parts.{part_at, parts_at}
use Rattle.part_rules.specs.Writers.{member_line, member_lines}

cons_append : (o : Option ℕ) (xs ys : List ℕ) → cons_option o (xs ++ ys) ≡ cons_option o xs ++ ys
cons_append None xs ys = refl
cons_append (Some x) xs ys = refl

cons_nil : (o : Option ℕ) → cons_option o [] ≡ option_to_list o
cons_nil None = refl
cons_nil (Some x) = refl

pub lines_start : member_lines [] ≡ []
unfolding member_lines
lines_start = refl

one_line : (refs : List PartRef) (i : ℕ) (r : PartRef) → slice_get refs i ≡ Some r
    → member_lines (parts_at (take (suc i) refs)) ≡ member_lines (parts_at (take i refs)) ++ option_to_list (member_line (part_at r))
unfolding member_lines
one_line [] i r e = cc
one_line (x ∷ refs) zero r e = let h : x ≡ r = cc in ap (λ (v : PartRef). cons_option (member_line (part_at v)) []) h ∙ cons_nil (member_line (part_at r))
one_line (x ∷ refs) (suc i) r e =
    ap (λ (v : List ℕ). cons_option (member_line (part_at x)) v) (one_line refs i r e)
    ∙ cons_append (member_line (part_at x)) (member_lines (parts_at (take i refs))) (option_to_list (member_line (part_at r)))

pub lines_turn : (refs : List PartRef) (i : ℕ) (r : PartRef) → i < length refs → r ≡ get_or refs i r
    → member_lines (parts_at (take (i + 1) refs)) ≡ member_lines (parts_at (take i refs)) ++ option_to_list (member_line (part_at r))
lines_turn refs i r l e =
    let n : suc i ≡ i + 1 = omega arith in
    subst (λ (j : ℕ). member_lines (parts_at (take j refs)) ≡ member_lines (parts_at (take i refs)) ++ option_to_list (member_line (part_at r))) n
    (one_line refs i r (slice_get_read refs (length refs) i r refl l e))
