-- The parts are checked one after another.
use Rattle.std.proofs.Common.{◌≡◌, ℕ, zero, suc, ◌+◌, ◌<◌, ◌≤◌, List, [], ◌∷◌, ◌++◌, length, drop, Option, Some, None, Ok, Err, slice_get, get_or, refl, ap, subst, ◌∙◌, arith}
use Rattle.std.proofs.lemmas.Option.{slice_get_read}
use Rattle.swift_core.specs.declared.table.Table.{Table}
use Rattle.swift_core.specs.declared.code.CoreMember.{CoreMember}
use Rattle.source_parts.specs.declared.part_ref.PartRef.{PartRef}
use Rattle.source_parts.specs.Parts.{line_of, part_at, parts_at}
use Rattle.part_rules.specs.Checks.{find_part, Found, by_part, check_from}

one_by : (o : Option (List CoreMember)) (line : ℕ) (cores new : List CoreMember) (f : List CoreMember → Found)
    → by_part o line cores (λ next. Ok next) ≡ Ok new → by_part o line cores f ≡ f new
one_by None line cores new f e = cc
one_by (Some front) line cores new f e = let h : cores ++ front ≡ new = cc in ap f h

none_by : (o : Option (List CoreMember)) (line at : ℕ) (cores : List CoreMember) (f : List CoreMember → Found)
    → by_part o line cores (λ next. Ok next) ≡ Err at → by_part o line cores f ≡ Err at
none_by None line at cores f e = e
none_by (Some front) line at cores f e = cc

taken : (table : Table) (refs : List PartRef) (i : ℕ) (r : PartRef) (cores new : List CoreMember) → slice_get refs i ≡ Some r
    → check_from table cores (part_at r ∷ []) ≡ Ok new
    → check_from table cores (parts_at (drop i refs)) ≡ check_from table new (parts_at (drop (suc i) refs))
unfolding check_from
taken table [] i r cores new s e = cc
taken table (x ∷ refs) zero r cores new s e =
    let h : x ≡ r = cc in
    ap (λ (v : PartRef). check_from table cores (part_at v ∷ parts_at refs)) h
    ∙ one_by (find_part table (length cores) (part_at r)) (line_of (part_at r)) cores new (λ next. check_from table next (parts_at refs)) e
taken table (x ∷ refs) (suc i) r cores new s e = taken table refs i r cores new s e

refused : (table : Table) (refs : List PartRef) (i : ℕ) (r : PartRef) (cores : List CoreMember) (line : ℕ) → slice_get refs i ≡ Some r
    → check_from table cores (part_at r ∷ []) ≡ Err line
    → check_from table cores (parts_at (drop i refs)) ≡ Err line
unfolding check_from
refused table [] i r cores line s e = cc
refused table (x ∷ refs) zero r cores line s e =
    let h : x ≡ r = cc in
    ap (λ (v : PartRef). check_from table cores (part_at v ∷ parts_at refs)) h
    ∙ none_by (find_part table (length cores) (part_at r)) (line_of (part_at r)) line cores (λ next. check_from table next (parts_at refs)) e
refused table (x ∷ refs) (suc i) r cores line s e = refused table refs i r cores line s e

-- a turn: one more part is typed
pub part_turn : (table : Table) (refs : List PartRef) (i : ℕ) (r : PartRef) (cores new : List CoreMember)
    → i < length refs → r ≡ get_or refs i r → check_from table cores (part_at r ∷ []) ≡ Ok new
    → check_from table cores (parts_at (drop i refs)) ≡ check_from table new (parts_at (drop (i + 1) refs))
part_turn table refs i r cores new l e t =
    let n : suc i ≡ i + 1 = omega arith in
    subst (λ (j : ℕ). check_from table cores (parts_at (drop i refs)) ≡ check_from table new (parts_at (drop j refs))) n
    (taken table refs i r cores new (slice_get_read refs (length refs) i r refl l e) t)

-- a turn that ends the loop: the part is not typed
pub part_refused : (table : Table) (refs : List PartRef) (i : ℕ) (r : PartRef) (cores : List CoreMember) (line : ℕ)
    → i < length refs → r ≡ get_or refs i r → check_from table cores (part_at r ∷ []) ≡ Err line
    → check_from table cores (parts_at (drop i refs)) ≡ Err line
part_refused table refs i r cores line l e t = refused table refs i r cores line (slice_get_read refs (length refs) i r refl l e) t

none_left : (refs : List PartRef) (i : ℕ) → length refs ≤ i → drop i refs ≡ []
none_left [] zero l = refl
none_left [] (suc i) l = refl
none_left (x ∷ refs) zero l = absurd (omega arith)
none_left (x ∷ refs) (suc i) l = none_left refs i (omega arith)

-- the loop ends: no part is left
pub parts_end : (table : Table) (refs : List PartRef) (i : ℕ) (cores : List CoreMember) → length refs ≤ i
    → check_from table cores (parts_at (drop i refs)) ≡ Ok cores
unfolding check_from
parts_end table refs i cores l = ap (λ (v : List PartRef). check_from table cores (parts_at v)) (none_left refs i l)
