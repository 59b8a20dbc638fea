-- The locals that a reader's body begins with.
use Rattle.std.specs.Prelude.{◌≡◌, ℕ, zero, suc, ◌+◌, ◌-◌, ◌<◌, Bool, true, false, not, ◌||◌, nat_eq, nat_lt, List, [], ◌∷◌, ◌++◌, length, map, Option, Some, slice_get, slice_set, ◌⊎◌}
use Rattle.std.specs.List.{list_any}
use Rattle.std.proofs.Common.{refl, sym, ap, subst, ◌∙◌, arith, inl, inr}
use Rattle.std.proofs.lemmas.Bool.{cases_eq, ltb-false}
use Rattle.std.proofs.lemmas.Bool.Decides.{Decides-eqb}
use Rattle.std.proofs.lemmas.List.{length-set, length-append}
use Rattle.std.proofs.lemmas.Option.{slice_get_within}
use Rattle.identity_path.specs.declared.input.Input.{Input}
use Rattle.swift_core.specs.Context.{Local}
use Rattle.swift_core.specs.declared.ty.Ty.{Ty}
use Rattle.core_means.specs.declared.parts.Local.{Local as Held}
use Rattle.core_means.specs.declared.parts.Local.TheVariants as held
use Rattle.core_means.specs.Public.{absent}
use Rattle.body_means.specs.Bodies.{with_captured, parameters}
use Rattle.world_fits.specs.Frames.{HasAt}
use Rattle.world_fits.specs.Lists.{some_same, at_front, at_back, at_either, set_here, set_there}
use Rattle.world_fits.specs.Kept.{KeptHave}
use Rattle.world_fits.specs.Runs.{InputsHave}
use Rattle.world_fits.specs.Sites.{Site, Holds, LocalHas, LocalsFit}
use Rattle.meaning_rights.specs.Actions.{shown_of}
use Rattle.reader_locals.specs.Filled.{held_input, filled_local, filled_option, filled_get, map_length}

differ : (i k : ℕ) (b : Bool) → nat_eq i k ≡ b → (k ≡ i → ⊥) → (ks : List ℕ) → (b || list_any (nat_eq i) ks) ≡ true → list_any (nat_eq i) ks ≡ true
differ i k true e other ks h = absurd (other (sym ((Decides-eqb i k).0 e)))
differ i k false e other ks h = h

none_there : (n i : ℕ) → i < n → slice_get (absent n) i ≡ Some held.Absent
none_there zero i h = absurd (omega (arith, h))
none_there (suc n) zero h = refl
none_there (suc n) (suc i) h = none_there n i (omega (arith, h))

many_absent : (n : ℕ) → length (absent n) ≡ n
many_absent zero = refl
many_absent (suc n) = ap suc (many_absent n)

captured_length : (ks : List ℕ) (here : List Held) (n : ℕ) → length (with_captured here n ks) ≡ length here
unfolding with_captured
captured_length [] here n = refl
captured_length (k ∷ ks) here n = captured_length ks (slice_set here k (held.Captured n)) (n + 1) ∙ length-set here k (held.Captured n)

many_parameters : (n : ℕ) → length (parameters n) ≡ n
unfolding parameters
many_parameters zero = refl
many_parameters (suc n) = ap suc (many_parameters n)

-- how many locals a body begins with
pub begins_with : (outer n : ℕ) (kept : List ℕ) → length (with_captured (absent outer) 0 kept ++ parameters n) ≡ outer + n
begins_with outer n kept = length-append (with_captured (absent outer) 0 kept) (parameters n) ∙ (λ j. (captured_length kept (absent outer) 0 ∙ many_absent outer) j + many_parameters n j)

-- ---- none of them is there

abbrev NoneHeld : List Held → Type 0
NoneHeld here = (i : ℕ) (x : Input) → slice_get here i ≡ Some (held.Holds x) → ⊥

set_either : {X : Type 0} (xs : List X) (i j : ℕ) (x y : X) → slice_get (slice_set xs i y) j ≡ Some x → (y ≡ x) ⊎ (slice_get xs j ≡ Some x)
set_either [] i j x y e = inr e
set_either (z ∷ xs) zero zero x y e = inl (some_same y x e)
set_either (z ∷ xs) zero (suc j) x y e = inr e
set_either (z ∷ xs) (suc i) zero x y e = inr e
set_either (z ∷ xs) (suc i) (suc j) x y e = set_either xs i j x y e

absent_none : (n : ℕ) → NoneHeld (absent n)
absent_none zero i x e = cc
absent_none (suc n) zero x e = cc
absent_none (suc n) (suc i) x e = absent_none n i x e

parameters_none : (n : ℕ) → NoneHeld (parameters n)
unfolding parameters
parameters_none zero i x e = cc
parameters_none (suc n) zero x e = cc
parameters_none (suc n) (suc i) x e = parameters_none n i x e

captured_none : (ks : List ℕ) (here : List Held) (n : ℕ) → NoneHeld here → NoneHeld (with_captured here n ks)
unfolding with_captured
captured_none [] here n h = h
captured_none (k ∷ ks) here n h = captured_none ks (slice_set here k (held.Captured n)) (n + 1) (λ i x e. go i x (set_either here k i (held.Holds x) (held.Captured n) e))
  where
    go : (i : ℕ) (x : Input) → (held.Captured n ≡ held.Holds x) ⊎ (slice_get here i ≡ Some (held.Holds x)) → ⊥
    go i x (inl e) = cc
    go i x (inr e) = h i x e

pub none_held : (outer n : ℕ) (kept : List ℕ) (i : ℕ) (x : Input) → slice_get (with_captured (absent outer) 0 kept ++ parameters n) i ≡ Some (held.Holds x) → ⊥
none_held outer n kept i x e = go (at_either (with_captured (absent outer) 0 kept) (parameters n) i (held.Holds x) e)
  where
    go : (slice_get (with_captured (absent outer) 0 kept) i ≡ Some (held.Holds x)) ⊎ ((j : ℕ) × (i ≡ length (with_captured (absent outer) 0 kept) + j) × (slice_get (parameters n) j ≡ Some (held.Holds x))) → ⊥
    go (inl f) = captured_none kept (absent outer) 0 (absent_none outer) i x f
    go (inr f) = parameters_none n f.0 x f.2

module _ (site : Site) (inputs : List Input) (locals : List Local) (kept : List ℕ) where
  -- those that are left have not been captured yet
  abbrev PartlyHas : List ℕ → ℕ → Local → Held → Type 0
  PartlyHas rest i l (held.Holds x) = ⊥
  PartlyHas rest i l (held.Captured n) = (x : Input) × (slice_get inputs n ≡ Some x) × Holds site l x
  PartlyHas rest i l held.Preference = ⊥
  PartlyHas rest i l held.Absent = list_any (nat_eq i) kept ≡ true → list_any (nat_eq i) rest ≡ true

  record Partly (rest : List ℕ) (here : List Held) : Type 0 where
    as_many : length here ≡ length locals
    each : (i : ℕ) (l : Local) → slice_get locals i ≡ Some l → HasAt (PartlyHas rest i l) here i

  begins : (n : ℕ) → n ≡ length locals → Partly kept (absent n)
  begins n e = record { as_many = many_absent n ∙ e; each = λ i l at. (held.Absent, none_there n i (omega (arith, e, slice_get_within locals i l at)), λ h. h) }

  step : (k n : ℕ) (rest : List ℕ) (here : List Held) (l : Local) (x : Input) → slice_get locals k ≡ Some l → slice_get inputs n ≡ Some x → Holds site l x → Partly (k ∷ rest) here
      → Partly rest (slice_set here k (held.Captured n))
  step k n rest here l x at there h partly = record { as_many = length-set here k (held.Captured n) ∙ partly.as_many; each = λ i m e. each i m e (cases_eq k i) }
    where
      kept_on : (i : ℕ) (m : Local) (y : Held) → (k ≡ i → ⊥) → PartlyHas (k ∷ rest) i m y → PartlyHas rest i m y
      kept_on i m (held.Holds y) other p = p
      kept_on i m (held.Captured j) other p = p
      kept_on i m held.Preference other p = p
      kept_on i m held.Absent other p = λ e. differ i k (nat_eq i k) refl other rest (p e)

      each : (i : ℕ) (m : Local) → slice_get locals i ≡ Some m → (k ≡ i) ⊎ (k ≡ i → ⊥) → HasAt (PartlyHas rest i m) (slice_set here k (held.Captured n)) i
      each i m e (inl same) =
          let old = partly.each k l at in (
            held.Captured n,
            ap (slice_get (slice_set here k (held.Captured n))) (sym same) ∙ set_here here k old.0 (held.Captured n) old.1,
            (x, there, subst (λ (y : Local). Holds site y x) (some_same l m (sym at ∙ ap (slice_get locals) same ∙ e)) h),
          )
      each i m e (inr other) = let old = partly.each i m e in (old.0, set_there here k i (held.Captured n) other ∙ old.1, kept_on i m old.0 other old.2)

  -- all are captured
  ends : (t : Ty) (xs : List Input) (here : List Held) (n outer : ℕ) → outer ≡ length locals → ((j : ℕ) → slice_get inputs (n + j) ≡ slice_get xs j) → length inputs ≡ n + length xs
      → InputsHave site.program.table site.types (Local.valued t ∷ []) xs → Partly [] here
      → LocalsFit site (shown_of outer kept) (locals ++ Local.valued t ∷ []) (map (filled_local inputs) (here ++ held.Preference ∷ []))
  ends t [] here n outer out stand long h partly = absurd h
  ends t (x ∷ (y ∷ xs)) here n outer out stand long h partly = absurd h.1
  ends t (x ∷ []) here n outer out stand long h partly = record {
    as_many = map_length inputs (here ++ held.Preference ∷ []) ∙ length-append here (held.Preference ∷ []) ∙ ap (λ m. m + 1) partly.as_many ∙ sym (length-append locals (Local.valued t ∷ []));
    each = λ i l e. each i l (at_either locals (Local.valued t ∷ []) i l e);
  }
    where
      preference : held_input inputs (slice_get inputs (length inputs - 1)) ≡ held.Holds x
      preference = ap (λ m. held_input inputs (slice_get inputs m)) (omega (arith, long)) ∙ ap (held_input inputs) (stand 0)

      absent_hidden : (i : ℕ) → i < outer → (b c : Bool) → nat_lt i outer ≡ b → list_any (nat_eq i) kept ≡ c → (c ≡ true → false ≡ true) → (not b || c) ≡ false
      absent_hidden i within true true e f no_more = absurd (cc (no_more refl))
      absent_hidden i within true false e f no_more = refl
      absent_hidden i within false c e f no_more = absurd (omega (arith, within, ltb-false i outer e))

      here_has : (i : ℕ) (l : Local) (y : Held) → i < outer → PartlyHas [] i l y → LocalHas site (shown_of outer kept i) l (filled_local inputs y)
      here_has i l (held.Holds y) within p = absurd p
      here_has i l (held.Captured j) within p = subst (λ (o : Option Input). LocalHas site (shown_of outer kept i) l (held_input inputs o)) (sym p.1) p.2
      here_has i l held.Preference within p = absurd p
      here_has i l held.Absent within p = absent_hidden i within (nat_lt i outer) (list_any (nat_eq i) kept) refl refl p

      last_has : (i j : ℕ) (l : Local) → i ≡ length locals + j → slice_get (Local.valued t ∷ []) j ≡ Some l → HasAt (LocalHas site (shown_of outer kept i) l) (map (filled_local inputs) (here ++ held.Preference ∷ [])) i
      last_has i zero l e f =
          let same : Local.valued t ≡ l = some_same (Local.valued t) l f in (
            held.Holds x,
            filled_get inputs (here ++ held.Preference ∷ []) i
                ∙ ap (filled_option inputs) (ap (slice_get (here ++ held.Preference ∷ [])) (e ∙ ap (λ m. m + 0) (sym partly.as_many)) ∙ at_back here (held.Preference ∷ []) 0) ∙ ap Some preference,
            subst (λ (m : Local). Holds site m x) same h.0,
          )
      last_has i (suc j) l e f = absurd (cc f)

      each : (i : ℕ) (l : Local) → (slice_get locals i ≡ Some l) ⊎ ((j : ℕ) × (i ≡ length locals + j) × (slice_get (Local.valued t ∷ []) j ≡ Some l))
          → HasAt (LocalHas site (shown_of outer kept i) l) (map (filled_local inputs) (here ++ held.Preference ∷ [])) i
      each i l (inl e) =
          let old = partly.each i l e in (
            filled_local inputs old.0,
            filled_get inputs (here ++ held.Preference ∷ []) i ∙ ap (filled_option inputs) (at_front here (held.Preference ∷ []) i old.0 old.1),
            here_has i l old.0 (omega (arith, out, slice_get_within locals i l e)) old.2,
          )
      each i l (inr e) = last_has i e.0 l e.1 e.2

  captures : (t : Ty) (ks : List ℕ) (xs : List Input) (here : List Held) (n outer : ℕ) → outer ≡ length locals → ((j : ℕ) → slice_get inputs (n + j) ≡ slice_get xs j) → length inputs ≡ n + length xs
      → KeptHave site.program.table site.types locals ks (t ∷ []) xs → Partly ks here
      → LocalsFit site (shown_of outer kept) (locals ++ Local.valued t ∷ []) (map (filled_local inputs) (with_captured here n ks ++ held.Preference ∷ []))
  unfolding with_captured
  captures t [] xs here n outer out stand long h partly = ends t xs here n outer out stand long h partly
  captures t (k ∷ ks) [] here n outer out stand long h partly = absurd h
  captures t (k ∷ ks) (x ∷ xs) here n outer out stand long h partly =
      captures t ks xs (slice_set here k (held.Captured n)) (n + 1) outer out (λ j. ap (slice_get inputs) (omega arith) ∙ stand (suc j)) (omega (arith, long)) h.1
      (step k n ks here h.0.0 x h.0.1 (ap (slice_get inputs) (omega arith) ∙ stand 0) h.0.2 partly)

  -- With what is captured in their place, the locals that a reader's body begins with are what their types say.
  pub reader_locals : (t : Ty) (outer : ℕ) → outer ≡ length locals → KeptHave site.program.table site.types locals kept (t ∷ []) inputs
      → LocalsFit site (shown_of outer kept) (locals ++ Local.valued t ∷ []) (map (filled_local inputs) (with_captured (absent outer) 0 kept ++ held.Preference ∷ []))
  reader_locals t outer out h = captures t kept inputs (absent outer) 0 outer out (λ j. ap (slice_get inputs) (omega arith)) (omega arith) h (begins outer out)
