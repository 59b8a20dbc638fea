-- Locals that fit their types, as they are added, dropped and written.
use Rattle.std.specs.Prelude.{◌≡◌, ℕ, ◌+◌, Bool, true, List, [], ◌∷◌, ◌++◌, length, take, map, Some, slice_get, slice_set, ◌⊎◌}
use Rattle.std.proofs.Common.{zero, suc, refl, sym, ap, subst, ◌∙◌, arith, inl, inr}
use Rattle.std.proofs.lemmas.Bool.{cases_eq}
use Rattle.std.proofs.lemmas.List.{length-set, length-append, length-take-le}
use Rattle.std.proofs.lemmas.Option.{slice_get_within}
use Rattle.identity_path.specs.declared.input.Input.{Input}
use Rattle.identity_path.specs.declared.input.Input.TheVariants as input
use Rattle.sv_value.specs.declared.value.Value.{Value}
use Rattle.swift_core.specs.Context.{Local, Itself}
use Rattle.swift_core.specs.declared.ty.Ty.{Ty}
use Rattle.core_means.specs.declared.parts.Local.{Local as Held}
use Rattle.core_means.specs.declared.parts.Local.TheVariants as held
use Rattle.core_means.specs.Asks.{World}
use Rattle.core_means.specs.Means.{held as all_held}
use Rattle.value_fits.specs.Changes.{ValuesHave}
use Rattle.world_fits.specs.Frames.{HasAt}
use Rattle.world_fits.specs.Lists.{at_front, at_end, one_more, taken, set_here, set_there, some_same, append_none, append_twice}
use Rattle.world_fits.specs.Sites.{Site, Scope, ValueHas, Holds, LocalHas, LocalsFit, MayPlace, Fits, Grown, is_view}

valued_is : {t u : Ty} → Local.valued t ≡ Local.placed u → ⊥
valued_is e = cc

module _ (site : Site) where
  -- a local that the code uses holds what its type says
  pub used : {shows : ℕ → Bool} {locals : List Local} {here : List Held} {l : Local} (i : ℕ) → LocalsFit site shows locals here → slice_get locals i ≡ Some l → shows i ≡ true
      → (x : Input) × (slice_get here i ≡ Some (held.Holds x)) × Holds site l x
  used {shows = shows} {here = here} {l = l} i fit e s = go (fit.each i l e)
    where
      go : HasAt (LocalHas site (shows i) l) here i → (x : Input) × (slice_get here i ≡ Some (held.Holds x)) × Holds site l x
      go (held.Holds x, a, h) = (x, a, h)
      go (held.Captured k, a, h) = absurd h
      go (held.Preference, a, h) = absurd h
      go (held.Absent, a, h) = absurd (cc (h, s))

  pub added : {shows : ℕ → Bool} {locals : List Local} {here : List Held} (l : Local) (x : Input) → Holds site l x → LocalsFit site shows locals here
      → LocalsFit site shows (locals ++ l ∷ []) (here ++ held.Holds x ∷ [])
  added {shows = shows} {locals = locals} {here = here} l x h fit = record {
    as_many = length-append here (held.Holds x ∷ []) ∙ ap (λ n. n + 1) fit.as_many ∙ sym (length-append locals (l ∷ []));
    each = λ i k e. each i k (one_more locals l i k e);
  }
    where
      each : (i : ℕ) (k : Local) → (slice_get locals i ≡ Some k) ⊎ ((i ≡ length locals) × (l ≡ k)) → HasAt (LocalHas site (shows i) k) (here ++ held.Holds x ∷ []) i
      each i k (inl e) = let old = fit.each i k e in (old.0, at_front here (held.Holds x ∷ []) i old.0 old.1, old.2)
      each i k (inr (e, f)) = (
        held.Holds x,
        ap (slice_get (here ++ held.Holds x ∷ [])) (e ∙ sym fit.as_many) ∙ at_end here (held.Holds x),
        subst (λ (m : Local). Holds site m x) f h,
      )

  -- the first ones
  pub dropped : {shows : ℕ → Bool} {here : List Held} (locals more : List Local) (n : ℕ) → n ≡ length locals → LocalsFit site shows (locals ++ more) here → LocalsFit site shows locals (take n here)
  dropped {shows = shows} {here = here} locals more n e fit = record {
    as_many = length-take-le n here (omega (arith, e, fit.as_many, length-append locals more)) ∙ e;
    each = λ i k h. let old = fit.each i k (at_front locals more i k h) in
        (old.0, taken n here i (omega (arith, e, slice_get_within locals i k h)) ∙ old.1, old.2);
  }

  -- one of them written
  pub written_local : {shows : ℕ → Bool} {locals : List Local} {here : List Held} {l : Local} (i : ℕ) (x : Input) → slice_get locals i ≡ Some l → Holds site l x → LocalsFit site shows locals here
      → LocalsFit site shows locals (slice_set here i (held.Holds x))
  written_local {shows = shows} {locals = locals} {here = here} {l = l} i x at h fit = record {
    as_many = length-set here i (held.Holds x) ∙ fit.as_many;
    each = λ j k e. each j k e (cases_eq i j);
  }
    where
      each : (j : ℕ) (k : Local) → slice_get locals j ≡ Some k → (i ≡ j) ⊎ (i ≡ j → ⊥) → HasAt (LocalHas site (shows j) k) (slice_set here i (held.Holds x)) j
      each j k e (inl same) = let old = fit.each i l at in (
        held.Holds x,
        ap (slice_get (slice_set here i (held.Holds x))) (sym same) ∙ set_here here i old.0 (held.Holds x) old.1,
        subst (λ (m : Local). Holds site m x) (some_same l k (sym at ∙ ap (slice_get locals) same ∙ e)) h,
      )
      each j k e (inr other) = let old = fit.each j k e in (old.0, set_there here i j (held.Holds x) other ∙ old.1, old.2)

  -- the locals that a function begins with
  pub held_values : (shows : ℕ → Bool) (ts : List Ty) (vs : List Value) → ValuesHave site.program.table ts vs → LocalsFit site shows (map Local.valued ts) (all_held vs)
  held_values shows [] [] h = record { as_many = refl; each = λ i k e. cc }
  held_values shows [] (v ∷ vs) h = absurd h
  held_values shows (t ∷ ts) [] h = absurd h
  held_values shows (t ∷ ts) (v ∷ vs) h =
      let rest = held_values (λ i. shows (suc i)) ts vs h.1 in
      record { as_many = ap suc rest.as_many; each = each rest }
    where
      each : LocalsFit site (λ i. shows (suc i)) (map Local.valued ts) (all_held vs) → (i : ℕ) (k : Local) → slice_get (Local.valued t ∷ map Local.valued ts) i ≡ Some k
          → HasAt (LocalHas site (shows i) k) (held.Holds (input.Value v) ∷ all_held vs) i
      each rest zero k e = (held.Holds (input.Value v), refl, subst (λ (m : Local). Holds site m (input.Value v)) (some_same (Local.valued t) k e) h.0)
      each rest (suc i) k e = rest.each i k e

  -- ---- worlds

  pub no_places : (itself : Itself) (ts : List Ty) → MayPlace site itself (map Local.valued ts)
  no_places _ [] i t e = cc
  no_places _ (u ∷ ts) zero t e = absurd (valued_is (some_same (Local.valued u) (Local.placed t) e))
  no_places itself (u ∷ ts) (suc i) t e = no_places itself ts i t e

  one_place : (itself : Itself) (locals : List Local) (t : Ty) → MayPlace site itself locals → MayPlace site itself (locals ++ Local.valued t ∷ [])
  one_place itself locals t may i u e = go (one_more locals (Local.valued t) i (Local.placed u) e)
    where
      go : (slice_get locals i ≡ Some (Local.placed u)) ⊎ ((i ≡ length locals) × (Local.valued t ≡ Local.placed u)) → (is_view itself ≡ true) ⊎ (site.is_block ≡ true)
      go (inl h) = may i u h
      go (inr h) = absurd (valued_is h.1)

  pub grown : {sc : Scope} {locals : List Local} {w : World} → Fits site sc locals w → Grown site sc locals w
  grown {sc = sc} {locals = locals} {w = w} fit = ([], subst (λ (ls : List Local). Fits site sc ls w) (sym (append_none locals)) fit)

  -- a value more
  pub pushed : {sc : Scope} {locals : List Local} (w : World) (t : Ty) (v : Value) → ValueHas site t v → Fits site sc locals w
      → Fits site sc (locals ++ Local.valued t ∷ []) (record w { locals = w.locals ++ held.Holds (input.Value v) ∷ [] })
  pushed {sc = sc} {locals = locals} w t v h fit = record { here = added (Local.valued t) (input.Value v) h fit.here; places = one_place sc.itself locals t fit.places; itself = fit.itself; home = fit.home; live = fit.live }

  -- the locals that stood before
  pub cut : {sc : Scope} {locals : List Local} (w u : World) → Fits site sc locals w → Grown site sc locals u → Fits site sc locals (record u { locals = take (length w.locals) u.locals })
  cut {sc = sc} {locals = locals} w u fit g = record {
    here = dropped locals g.0 (length w.locals) fit.here.as_many g.1.here;
    places = fit.places;
    itself = g.1.itself;
    home = g.1.home;
    live = g.1.live;
  }

  -- what has grown twice
  pub grown_more : {sc : Scope} {u : World} (locals more : List Local) → Grown site sc (locals ++ more) u → Grown site sc locals u
  grown_more {sc = sc} {u = u} locals more g = (more ++ g.0, subst (λ (ls : List Local). Fits site sc ls u) (append_twice locals more g.0) g.1)

  pub with_fuel : {sc : Scope} {locals : List Local} (w : World) (n : ℕ) → Fits site sc locals w → Fits site sc locals (record w { fuel = n })
  with_fuel w n fit = record { here = fit.here; places = fit.places; itself = fit.itself; home = fit.home; live = fit.live }
