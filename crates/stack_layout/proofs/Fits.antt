-- A stack whose views take no more than the room, which is what the spacings leave, fits its proposal.
use Rattle.std.proofs.Common.{◌≡◌, ℕ, ℤ, ◌+◌, ◌-◌, ◌≤◌, List, [], ◌∷◌, length, arith, sym, ap, ◌∙◌, subst}
use Rattle.std.proofs.lemmas.List.{length-map}
use Rattle.std.specs.Prelude.{Option, Some, None, Result, Ok, Err, OnOk, map, sum_by}
use Rattle.align_guides.specs.declared.Axis.{Axis}
use Rattle.align_guides.specs.declared.Axis.TheVariants.{H, V, Z}
use Rattle.align_guides.specs.declared.Proposal.{Proposal}
use Rattle.align_guides.specs.declared.Size.{Size}
use Rattle.align_guides.specs.Lengths.{limit, saturated, IsProposed, IsProposal}
use Rattle.stack_layout.specs.declared.Slot.{Slot}
use Rattle.stack_layout.specs.Views.{Views}
use Rattle.stack_layout.specs.Stacks.{along, gaps_of, whole_size, proposed_along, Yields, FitsWithin, FitsAlong, FitsProposal}
use Rattle.stack_layout.specs.Slots.{size_of, priority_of, FitsSlots}

pub proposed_le : (axis : Axis) (p : Proposal) (n : ℕ) → IsProposal p → Some n ≡ proposed_along axis p → n ≤ limit
proposed_le H p n h e = subst IsProposed (sym e) h.w
proposed_le V p n h e = subst IsProposed (sym e) h.h
proposed_le Z p n h e = subst IsProposed (sym e) h.w

pub share_fits : {T E : Type 0} (r : Result T E) (v : Views) (axis : Axis) (qs : List ℤ) (P c d : Option ℕ) (length gaps room held used : ℕ)
    → Some length ≡ P → d ≡ c → length ≤ limit → held ≡ saturated gaps → room ≡ length - held
    → OnOk r (Yields v axis d qs room → used ≤ room) → OnOk r (FitsWithin v axis gaps qs P c (used + gaps))
share_fits (Err e) v axis qs P c d length gaps room held used is across low keeps leaves h = tt
share_fits (Ok x) v axis qs P c d length gaps room held used is across low keeps leaves h =
    subst (λ (q : Option ℕ). FitsWithin v axis gaps qs q c (used + gaps)) is
    (λ fit yields.
    let same : length - gaps ≡ room = omega arith in
    let within : used ≤ room = h (subst (λ (e : Option ℕ). Yields v axis e qs room) (sym across) (subst (λ (n : ℕ). Yields v axis c qs n) same yields)) in
    omega arith)

module _ (v : Views) (axis : Axis) (gaps : ℕ) (qs : List ℤ) where
  fits_saturated : (P c : Option ℕ) (n : ℕ) → FitsWithin v axis gaps qs P c n → FitsWithin v axis gaps qs P c (saturated n)
  fits_saturated None c n h = tt
  fits_saturated (Some p) c n h = λ fit yields. let within : n ≤ p = h fit yields in omega arith

  nothing_fits : (P c : Option ℕ) → FitsWithin v axis gaps qs P c 0
  nothing_fits None c = tt
  nothing_fits (Some p) c = λ fit yields. omega arith

pub whole_fits : (v : Views) (axis : Axis) (spacing : ℕ) (qs : List ℤ) (p : Proposal) (ss : List Slot) → length ss ≡ length qs → FitsSlots v axis spacing qs p ss
    → FitsProposal v axis spacing qs p (whole_size v axis spacing (map size_of ss))
whole_fits v H spacing qs p [] long h = nothing_fits v H (gaps_of spacing (length qs)) qs p.w p.h
whole_fits v V spacing qs p [] long h = nothing_fits v V (gaps_of spacing (length qs)) qs p.h p.w
whole_fits v Z spacing qs p [] long h = tt
whole_fits v Z spacing qs p (s ∷ ss) long h = tt
whole_fits v H spacing qs p (s ∷ ss) long h =
    let many : length (map size_of (s ∷ ss)) ≡ length qs = length-map (s ∷ ss) size_of ∙ long in
    fits_saturated v H (gaps_of spacing (length qs)) qs p.w p.h _
    (subst (λ (n : ℕ). FitsAlong v H spacing qs p (sum_by (along H) (map size_of (s ∷ ss)) + gaps_of spacing n)) (sym many) h)
whole_fits v V spacing qs p (s ∷ ss) long h =
    let many : length (map size_of (s ∷ ss)) ≡ length qs = length-map (s ∷ ss) size_of ∙ long in
    fits_saturated v V (gaps_of spacing (length qs)) qs p.h p.w _
    (subst (λ (n : ℕ). FitsAlong v V spacing qs p (sum_by (along V) (map size_of (s ∷ ss)) + gaps_of spacing n)) (sym many) h)

pub plan_fits : (v w : Views) (axis : Axis) (spacing : ℕ) (xs : List Slot) (p : Proposal) (s : Size) (ss : List Slot) → w ≡ v → length ss ≡ length xs
    → s ≡ whole_size w axis spacing (map size_of ss) → FitsSlots v axis spacing (map priority_of xs) p ss → FitsProposal v axis spacing (map priority_of xs) p s
plan_fits v w axis spacing xs p s ss same long e h =
    subst (FitsProposal v axis spacing (map priority_of xs) p) (sym (e ∙ ap (λ (u : Views). whole_size u axis spacing (map size_of ss)) same))
    (whole_fits v axis spacing (map priority_of xs) p ss (long ∙ sym (length-map xs priority_of)) h)
