-- The calls are followed backwards, until nothing is left to be followed: then the marks are those that reach a write.
use Rattle.std.proofs.Common.{◌≡◌, ◌⊎◌, ◌↔◌, ℕ, zero, suc, ◌+◌, ◌<◌, Bool, true, false, List, [], ◌∷◌, ◌++◌, replicate, length, refl, sym, ap, subst, ◌∙◌, arith, inl, inr}
use Rattle.std.proofs.lemmas.List.{length-replicate, length_push}
use Rattle.std.proofs.lemmas.Option.{slice_get_within}
use Rattle.call_reach.specs.declared.search.Conduct.{Conduct}
use Rattle.call_reach.specs.Reaching.{Reaches, itself, through, is_marked}
use Rattle.call_reach.specs.Callers.{row, callers_of, writers_from}
use Rattle.call_reach.specs.Visits.{visit_marks, visit_work}
use Rattle.call_reach.proofs.Members.{In, in_left, in_right, in_either, in_get, get_in, Calls, Writes, is_caller, has_caller, is_writer, has_writer}
use Rattle.call_reach.proofs.Marking.{unmarked, marked_within, Visit, visits}

-- all callers of a member are marked
abbrev Closed : List Conduct → List Bool → ℕ → Type 0
Closed members marks j = (i : ℕ) → Calls members i j → is_marked marks i ≡ true

-- what holds before each turn
pub record Going (members : List Conduct) (marks : List Bool) (work : List ℕ) : Type 0 where
  pub whole : length marks ≡ length members
  pub reach : (i : ℕ) → is_marked marks i ≡ true → Reaches members i
  pub listed : (i : ℕ) → In i work → is_marked marks i ≡ true
  pub writers : (i : ℕ) → Writes members i → is_marked marks i ≡ true
  pub followed : (i : ℕ) → is_marked marks i ≡ true → In i work ⊎ Closed members marks i

calls_reach : (members : List Conduct) (i j : ℕ) → Calls members i j → Reaches members j → Reaches members i
calls_reach members i j c r = let k = get_in c.member.calls j c.calls in through k.0 c.stands k.1 r

none_marked : (n i : ℕ) → is_marked (replicate n false) i ≡ true → ⊥
none_marked zero i e = cc
none_marked (suc n) zero e = cc
none_marked (suc n) (suc i) e = none_marked n i e

-- what writes is marked first
start_with : (members : List Conduct) (marks marks' : List Bool) (work' : List ℕ) → length marks ≡ length members → ((i : ℕ) → is_marked marks i ≡ true → ⊥)
    → Visit marks [] (writers_from 0 members) marks' work' → Going members marks' work'
start_with members marks marks' work' n none v = record {
  whole = v.whole ∙ n;
  reach = λ i h. elim (v.new i h) [ inl a ↦ absurd (none i a) | inr b ↦ let w = is_writer members i b.0 in itself w.stands w.writes ];
  listed = λ i h. elim (v.listed i h) [ inl a ↦ absurd a | inr b ↦ b ];
  writers = λ i w. let lt = slice_get_within members i w.member w.stands in v.took i (has_writer members i w) (omega arith);
  followed = λ i h. elim (v.new i h) [ inl a ↦ absurd (none i a) | inr b ↦ inl b.1 ];
}

pub going_start : (members : List Conduct) (n : ℕ) (marks : List Bool) → n ≡ length members → marks ≡ replicate n false
    → Going members (visit_marks marks (writers_from 0 members)) (visit_work marks [] (writers_from 0 members))
going_start members n marks s e =
    let size : length marks ≡ length members = ap length e ∙ length-replicate n false ∙ s in
    start_with members marks _ _ size (λ i h. none_marked n i (subst (λ (v : List Bool). is_marked v i ≡ true) e h)) (visits marks [] (writers_from 0 members))

-- a turn: all callers of one are marked
turn_with : (members : List Conduct) (marks marks' : List Bool) (rest work' : List ℕ) (at : ℕ) → Going members marks (rest ++ at ∷ [])
    → Visit marks rest (row (callers_of members) at) marks' work' → Going members marks' work'
turn_with members marks marks' rest work' at g v = record {
  whole = v.whole ∙ g.whole;
  reach = λ i h. elim (v.new i h) [ inl a ↦ g.reach i a | inr b ↦ calls_reach members i at (is_caller members i at b.0) (g.reach at marked) ];
  listed = λ i h. elim (v.listed i h) [ inl a ↦ v.grows i (g.listed i (in_left i rest (at ∷ []) a)) | inr b ↦ b ];
  writers = λ i w. v.grows i (g.writers i w);
  followed = λ i h. elim (v.new i h) [ inl a ↦ kept i (g.followed i a) | inr b ↦ inl b.1 ];
}
  where
    marked : is_marked marks at ≡ true
    marked = g.listed at (in_right at rest (at ∷ []) (inl refl))

    closed : Closed members marks' at
    closed i c =
        let stands = slice_get_within members i c.member c.stands in
        let lt = marked_within marks at marked in
        let size = g.whole in
        v.took i (has_caller members i at c (omega arith)) (omega arith)

    listed_or : (i : ℕ) → In i rest ⊎ In i (at ∷ []) → In i work' ⊎ Closed members marks' i
    listed_or i (inl a) = inl (v.stays i a)
    listed_or i (inr (inl e)) = inr (subst (λ (n : ℕ). Closed members marks' n) e closed)
    listed_or i (inr (inr h)) = absurd h

    kept : (i : ℕ) → In i (rest ++ at ∷ []) ⊎ Closed members marks i → In i work' ⊎ Closed members marks' i
    kept i (inl a) = listed_or i (in_either i rest (at ∷ []) a)
    kept i (inr c) = inr (λ k h. v.grows k (c k h))

pub going_turn : (members : List Conduct) (marks : List Bool) (work rest : List ℕ) (at : ℕ) → Going members marks work → work ≡ rest ++ at ∷ []
    → Going members (visit_marks marks (row (callers_of members) at)) (visit_work marks rest (row (callers_of members) at))
going_turn members marks work rest at g e =
    turn_with members marks _ rest _ at (subst (λ (v : List ℕ). Going members marks v) e g) (visits marks rest (row (callers_of members) at))

-- each turn takes one from what is to be followed, and marks one for each that it adds
pub going_falls : (marks : List Bool) (work rest cs : List ℕ) (at : ℕ) → work ≡ rest ++ at ∷ []
    → unmarked (visit_marks marks cs) + length (visit_work marks rest cs) < unmarked marks + length work
going_falls marks work rest cs at e =
    let n = (visits marks rest cs).count in
    let l = length_push rest at in
    let k : length work ≡ length (rest ++ at ∷ []) = ap length e in
    omega arith

-- nothing is left to be followed
complete : (members : List Conduct) (marks : List Bool) → Going members marks [] → (i : ℕ) → Reaches members i → is_marked marks i ≡ true
complete members marks g i (itself {m = m} s w) = g.writers i (record { member = m; stands = s; writes = w })
complete members marks g i (through {j = j} {m = m} k s c r) = elim (g.followed j (complete members marks g j r)) [
  | inl a ↦ absurd a
  | inr b ↦ b i (record { member = m; stands = s; calls = in_get m.calls k j c })
]

pub going_end : (members : List Conduct) (marks : List Bool) (work : List ℕ) → Going members marks work → work ≡ [] → (i : ℕ) → (is_marked marks i ≡ true) ↔ Reaches members i
going_end members marks work g e i =
    let h = subst (λ (v : List ℕ). Going members marks v) e g in
    (h.reach i, complete members marks h i)

-- the same, as the code has it
pub going_step : (members : List Conduct) (marks marks' : List Bool) (work rest work' : List ℕ) (callers : List (List ℕ)) (cs : List ℕ) (at : ℕ) → Going members marks work
    → work ≡ rest ++ at ∷ [] → callers ≡ callers_of members → cs ≡ row callers at → marks' ≡ visit_marks marks cs → work' ≡ visit_work marks rest cs → Going members marks' work'
going_step members marks marks' work rest work' callers cs at g e f r m w =
    let same : row (callers_of members) at ≡ cs = ap (λ (v : List (List ℕ)). row v at) (sym f) ∙ sym r in
    let h : Going members (visit_marks marks cs) (visit_work marks rest cs)
    = subst (λ (v : List ℕ). Going members (visit_marks marks v) (visit_work marks rest v)) same (going_turn members marks work rest at g e) in
    subst (λ (v : List Bool). Going members v work') (sym m) (subst (λ (v : List ℕ). Going members (visit_marks marks cs) v) (sym w) h)
