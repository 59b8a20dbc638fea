-- The parts of a source file that are typed: each member, case and environment key has a core, and each declaration fits.
use Rattle.std.specs.Prelude.{◌≡◌, ℕ, zero, suc, ◌+◌, ◌<◌, true, List, [], ◌∷◌, ◌++◌, Some, length, slice_get}
use Rattle.std.specs.List.{flat_map}
use Rattle.std.proofs.Common.{refl, sym, ap, subst, ◌∙◌, arith}
use Rattle.swift_core.specs.declared.code.CoreMember.{CoreMember}
use Rattle.swift_core.specs.declared.table.MemberPlace.{MemberPlace}
use Rattle.swift_core.specs.declared.table.Table.{Table}
use Rattle.source_parts.specs.Parts.{Part}
use Rattle.part_rules.specs.Typed.{fits, TypedPlace, TypedMember, Typed}

-- a member, a case and an environment key stand in a declaration or an extension
abbrev pub inner_part : Part → List Part
inner_part (Part.a_declaration p) = []
inner_part part = part ∷ []

-- ---- cores

-- The parts stand in the table from this place on, each has its core, and there are no other cores.
abbrev pub Cored : Table → ℕ → List Part → List CoreMember → Type 0
Cored table i [] [] = Unit {0}
Cored table i (p ∷ ps) (c ∷ cs) = (place : MemberPlace) × (slice_get table.members i ≡ Some place) × TypedPlace table place p c × Cored table (suc i) ps cs
Cored table i ps cs = ⊥

one_cored : (table : Table) (i : ℕ) (p : Part) (ps : List Part) (cs front rest : List CoreMember) → TypedMember table i p front → Cored table (i + length front) ps rest → cs ≡ front ++ rest
    → Cored table i (p ∷ ps) cs
unfolding TypedMember
one_cored table i p ps cs front rest (place, stands, (c, typed, e)) h q =
    let f : cs ≡ c ∷ rest = q ∙ ap (λ (xs : List CoreMember). xs ++ rest) e in
    let one : length front ≡ 1 = ap length e in
    let n : i + length front ≡ suc i = omega (arith, one) in
    subst (Cored table i (p ∷ ps)) (sym f) (place, stands, typed, subst (λ k. Cored table k ps rest) n h)

none_cored : (table : Table) (i : ℕ) (ps : List Part) (cs front rest : List CoreMember) → front ≡ [] → Cored table (i + length front) ps rest → cs ≡ front ++ rest → Cored table i ps cs
none_cored table i ps cs front rest e h q =
    let f : cs ≡ rest = q ∙ ap (λ (xs : List CoreMember). xs ++ rest) e in
    let none : length front ≡ 0 = ap length e in
    let n : i + length front ≡ i = omega (arith, none) in
    subst (Cored table i ps) (sym f) (subst (λ k. Cored table k ps rest) n h)

-- what is typed gives a core for each inner part
pub typed_cored : (table : Table) (i : ℕ) (parts : List Part) (cs : List CoreMember) → Typed table i parts cs → Cored table i (flat_map inner_part parts) cs
unfolding Typed
typed_cored table i [] cs e = subst (Cored table i []) (sym e) tt
typed_cored table i (Part.a_declaration p ∷ ps) cs (front, t, (rest, ts, q)) =
    none_cored table i (flat_map inner_part ps) cs front rest t.1 (typed_cored table (i + length front) ps rest ts) q
typed_cored table i (Part.a_member m ∷ ps) cs (front, t, (rest, ts, q)) =
    one_cored table i (Part.a_member m) (flat_map inner_part ps) cs front rest t (typed_cored table (i + length front) ps rest ts) q
typed_cored table i (Part.a_case n ∷ ps) cs (front, t, (rest, ts, q)) =
    one_cored table i (Part.a_case n) (flat_map inner_part ps) cs front rest t (typed_cored table (i + length front) ps rest ts) q
typed_cored table i (Part.an_entry e ∷ ps) cs (front, t, (rest, ts, q)) =
    one_cored table i (Part.an_entry e) (flat_map inner_part ps) cs front rest t (typed_cored table (i + length front) ps rest ts) q

pub cored_length : (table : Table) (i : ℕ) (ps : List Part) (cs : List CoreMember) → Cored table i ps cs → length cs ≡ length ps
cored_length table i [] [] h = refl
cored_length table i (p ∷ ps) (c ∷ cs) h = ap suc (cored_length table (suc i) ps cs h.3)
cored_length table i [] (c ∷ cs) h = absurd h
cored_length table i (p ∷ ps) [] h = absurd h

-- the part, its place in the table, and its core
pub record CoreAt (table : Table) (i : ℕ) (ps : List Part) (cs : List CoreMember) (j : ℕ) : Type 0 where
  pub part : Part
  pub written : slice_get ps j ≡ Some part
  pub place : MemberPlace
  pub stands : slice_get table.members (i + j) ≡ Some place
  pub core : CoreMember
  pub given : slice_get cs j ≡ Some core
  pub typed : TypedPlace table place part core

pub cored_at : (table : Table) (i : ℕ) (ps : List Part) (cs : List CoreMember) → Cored table i ps cs → (j : ℕ) → j < length ps → CoreAt table i ps cs j
cored_at table i [] [] h j lt = absurd (omega arith)
cored_at table i (p ∷ ps) (c ∷ cs) h zero lt =
    let n : i + 0 ≡ i = omega arith in
    record { part = p; written = refl; place = h.0; stands = ap (slice_get table.members) n ∙ h.1; core = c; given = refl; typed = h.2 }
cored_at table i (p ∷ ps) (c ∷ cs) h (suc j) lt =
    let r = cored_at table (suc i) ps cs h.3 j (omega arith) in
    let n : i + suc j ≡ suc i + j = omega arith in
    record { part = r.part; written = r.written; place = r.place; stands = ap (slice_get table.members) n ∙ r.stands; core = r.core; given = r.given; typed = r.typed }
cored_at table i [] (c ∷ cs) h j lt = absurd h
cored_at table i (p ∷ ps) [] h j lt = absurd h

-- ---- declarations

-- each declaration as a whole fits
abbrev pub WholesFit : List Part → Type 0
WholesFit [] = Unit {0}
WholesFit (Part.a_declaration p ∷ ps) = (fits p ≡ true) × WholesFit ps
WholesFit (part ∷ ps) = WholesFit ps

pub typed_fit : (table : Table) (i : ℕ) (parts : List Part) (cs : List CoreMember) → Typed table i parts cs → WholesFit parts
unfolding Typed
typed_fit table i [] cs e = tt
typed_fit table i (Part.a_declaration p ∷ ps) cs (front, t, (rest, ts, q)) = (t.0, typed_fit table (i + length front) ps rest ts)
typed_fit table i (Part.a_member m ∷ ps) cs (front, t, (rest, ts, q)) = typed_fit table (i + length front) ps rest ts
typed_fit table i (Part.a_case n ∷ ps) cs (front, t, (rest, ts, q)) = typed_fit table (i + length front) ps rest ts
typed_fit table i (Part.an_entry e ∷ ps) cs (front, t, (rest, ts, q)) = typed_fit table (i + length front) ps rest ts

pub fit_behind : (xs ys : List Part) → WholesFit (xs ++ ys) → WholesFit ys
fit_behind [] ys h = h
fit_behind (Part.a_declaration p ∷ xs) ys h = fit_behind xs ys h.1
fit_behind (Part.a_member m ∷ xs) ys h = fit_behind xs ys h
fit_behind (Part.a_case n ∷ xs) ys h = fit_behind xs ys h
fit_behind (Part.an_entry e ∷ xs) ys h = fit_behind xs ys h
