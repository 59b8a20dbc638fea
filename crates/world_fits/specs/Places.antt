-- What names stand for, and places that are read and written, in a world that fits.
use Rattle.std.specs.Prelude.{◌≡◌, ℕ, true, List, Option, Some, None, Result, Ok, Err, slice_get, slice_set, ◌⊎◌}
use Rattle.std.proofs.Common.{refl, sym, ap, subst, ◌∙◌, inl, inr}
use Rattle.identity_path.specs.declared.input.Input.{Input}
use Rattle.identity_path.specs.declared.input.Input.TheVariants as input
use Rattle.identity_path.specs.declared.place.Place.{Place}
use Rattle.identity_path.specs.declared.step.Step.{Step}
use Rattle.identity_path.specs.declared.place.WriteStop.{WriteStop}
use Rattle.identity_path.specs.declared.place.WriteStop.TheVariants as stop
use Rattle.identity_path.specs.Cells.{value_at, write_answer}
use Rattle.sv_value.specs.declared.hop.Hop.{Hop}
use Rattle.sv_value.specs.declared.hop.Missing.{Missing}
use Rattle.sv_value.specs.declared.value.Value.{Value}
use Rattle.swift_core.specs.Context.{Local, Itself}
use Rattle.swift_core.specs.Mentions.{look_mentions, root_mentions, is_among_cells}
use Rattle.swift_core.specs.Types.{named_at}
use Rattle.swift_core.specs.Typing.{Looks, Begins, is_value}
use Rattle.swift_core.specs.Values.{HasValue}
use Rattle.swift_core.specs.declared.mention.Mention.{Mention}
use Rattle.swift_core.specs.declared.ids.PlaceRule.TheVariants as rule
use Rattle.swift_core.specs.declared.term.Lookup.{Lookup}
use Rattle.swift_core.specs.declared.term.Root.{Root}
use Rattle.swift_core.specs.declared.term.Root.TheVariants as root
use Rattle.swift_core.specs.declared.ty.Ty.{Ty}
use Rattle.swift_core.specs.declared.ty.Ty.TheVariants as ty
use Rattle.swift_core.specs.declared.ty.Ty.TheViews as ty_view
use Rattle.core_means.specs.declared.origin.Origin.{Origin}
use Rattle.core_means.specs.declared.origin.Origin.TheVariants as origin
use Rattle.core_means.specs.declared.parts.Local.{Local as Held}
use Rattle.core_means.specs.declared.parts.Local.TheVariants as held
use Rattle.core_means.specs.declared.parts.Spot.{Spot}
use Rattle.core_means.specs.declared.parts.Spot.TheVariants as spot
use Rattle.core_means.specs.Asks.{World, Live, given, answered}
use Rattle.core_means.specs.Sources.{Found, seen}
use Rattle.core_means.specs.Places.{shown, looked, value_of, plain, through, local_from, local_at, plain_of, through_of, plain_local, through_local, field_in, look_up, reached, spot_of, held_value, part_in, read_spot, renewed, set_local, set_itself, stored, put_in, put, write_local, write_self, write_spot}
use Rattle.value_fits.specs.Answers.{AnswersWith}
use Rattle.value_fits.specs.Cells.{PlaceFits}
use Rattle.value_fits.specs.Fields.{IsField}
use Rattle.value_fits.specs.Reached.{HopsFit}
use Rattle.world_fits.specs.Cells.{standing, frame_shows}
use Rattle.world_fits.specs.Laws.{Known}
use Rattle.world_fits.specs.Lists.{some_same, Each}
use Rattle.world_fits.specs.Locals.{used, written_local}
use Rattle.world_fits.specs.Right.{Right, then_right, answered_right, answers_map}
use Rattle.world_fits.specs.Sites.{Site, Scope, context, ValueHas, Holds, SourceHas, ItselfFits, LiveFits, Fits, Allowed, is_view}

-- the property, and the world is as before
abbrev pub Still : {A : Type 0} → (A → Type 0) → World → A → World → Type 0
Still P w x u = P x × (u ≡ w)

-- the spot leads to a value of the type, and may be written
abbrev pub SpotHas : Site → Scope → List Local → Ty → Spot → Type 0
SpotHas site sc locals u (spot.Local i hops) = (t : Ty) × (slice_get locals i ≡ Some (Local.valued t)) × HopsFit site.program.table t hops u × (sc.shows i ≡ true)
SpotHas site sc locals u (spot.Itself hops) = (d : ℕ) × (sc.itself ≡ Itself.a_changed_value) × (sc.owner ≡ Some d) × HopsFit site.program.table (ty.Named d) hops u
SpotHas site sc locals u (spot.Cell p) = PlaceFits site.program.table site.types p u × (site.is_block ≡ true)

-- ---- `self`

module _ (site : Site) where
  own_view : {itself : Itself} {owner : Option ℕ} {d : ℕ} (o : Option Value) → itself ≡ Itself.a_view → owner ≡ Some d → ItselfFits site itself owner o → site.view ≡ Some d
  own_view {owner = owner} {d = d} o is has fits =
      let at : ItselfFits site Itself.a_view owner o = subst (λ (i : Itself). ItselfFits site i owner o) is fits in
      at.2 ∙ sym at.1 ∙ has

  pub own_value : (itself : Itself) {owner : Option ℕ} {o : Option Value} {d : ℕ} → is_value itself ≡ true → owner ≡ Some d → ItselfFits site itself owner o
      → (v : Value) × (o ≡ Some v) × ValueHas site (ty.Named d) v
  own_value Itself.no_self is has fits = cc
  own_value Itself.a_view is has fits = cc
  own_value Itself.a_value is has fits = (fits.2.0, fits.2.1, subst (λ (e : ℕ). ValueHas site (ty.Named e) fits.2.0) (some_same _ _ (sym fits.1 ∙ has)) fits.2.2)
  own_value Itself.a_changed_value is has fits = (fits.2.0, fits.2.1, subst (λ (e : ℕ). ValueHas site (ty.Named e) fits.2.0) (some_same _ _ (sym fits.1 ∙ has)) fits.2.2)

  -- ---- one look-up

  plain_right : (x : Input) (t : Ty) (w : World) → Holds site (Local.valued t) x → Right site (Still (ValueHas site t) w) (plain x w)
  unfolding Right
  plain_right (input.Value v) t w h = (h, refl)
  plain_right (input.Place p) t w h = absurd h

module _ (site : Site) (known : Known site) where
  looked_right : (s : Origin) (l : Local) (o : Option Live) (w : World) → LiveFits site o → LiveFits site w.live → SourceHas site s l → Right site (Still (Holds site l) w) (looked s o w)
  unfolding Right
  looked_right s l None w fits live h = (fits, (l, h), λ v e. (e l h, refl))
  looked_right s l (Some seeing) w fits live h = go (seen seeing.frame seeing.cells s) (frame_shows site known seeing.frame seeing.cells fits.2 fits.3 s l h)
    where
      go : (o : Found) → ((missing : Missing) × (o ≡ Some (Err missing))) ⊎ ((x : Input) × (o ≡ Some (Ok x)) × Holds site l x) → Right site (Still (Holds site l) w) (shown o w)
      go o (inl m) = subst (λ (f : Found). Right site (Still (Holds site l) w) (shown f w)) (sym m.1) live
      go o (inr x) = subst (λ (f : Found). Right site (Still (Holds site l) w) (shown f w)) (sym x.1) (x.2, refl)

  pub value_right : (s : Origin) (l : Local) (w : World) → LiveFits site w.live → SourceHas site s l → Right site (Still (Holds site l) w) (value_of s w)
  unfolding value_of
  value_right s l w live h = looked_right s l w.live w live live h

  pub plain_of_right : (s : Origin) (t : Ty) (w : World) → LiveFits site w.live → SourceHas site s (Local.valued t) → Right site (Still (ValueHas site t) w) (plain_of s w)
  unfolding plain_of
  plain_of_right s t w live h = then_right site _ (value_of s w) plain (value_right s (Local.valued t) w live h)
      (λ x u e. subst (λ (v : World). Right site (Still (ValueHas site t) v) (plain x u)) e.1 (plain_right site x t u e.0))

  -- the value at a place
  pub through_right : (x : Input) (t : Ty) (w : World) → LiveFits site w.live → Holds site (Local.placed t) x → Right site (Still (ValueHas site t) w) (through x w)
  through_right (input.Value v) t w live h = absurd h
  through_right (input.Place p) t w live h = then_right site _ (value_of (origin.Place p) w) plain (value_right (origin.Place p) (Local.valued t) w live (SourceHas.place h))
      (λ x u e. subst (λ (v : World). Right site (Still (ValueHas site t) v) (plain x u)) e.1 (plain_right site x t u e.0))

  through_of_right : (s : Origin) (t : Ty) (w : World) → LiveFits site w.live → SourceHas site s (Local.placed t) → Right site (Still (ValueHas site t) w) (through_of s w)
  unfolding through_of
  through_of_right s t w live h = then_right site _ (value_of s w) through (value_right s (Local.placed t) w live h)
      (λ x u e. subst (λ (v : World). Right site (Still (ValueHas site t) v) (through x u)) e.1
      (through_right x t u (subst (λ (v : World). LiveFits site v.live) (sym e.1) live) e.0))

  module _ (sc : Scope) (locals : List Local) (w : World) (fit : Fits site sc locals w) where
    local_right : (i : ℕ) (l : Local) → slice_get locals i ≡ Some l → sc.shows i ≡ true → Right site (Still (Holds site l) w) (local_at i w)
    unfolding local_at Right
    local_right i l e s = let x = used site i fit.here e s in subst (λ (o : Option Held). Right site (Still (Holds site l) w) (local_from o w)) (sym x.1) (x.2, refl)

    pub plain_local_right : (i : ℕ) (t : Ty) → slice_get locals i ≡ Some (Local.valued t) → sc.shows i ≡ true → Right site (Still (ValueHas site t) w) (plain_local i w)
    unfolding plain_local
    plain_local_right i t e s = then_right site _ (local_at i w) plain (local_right i (Local.valued t) e s)
        (λ x u e. subst (λ (v : World). Right site (Still (ValueHas site t) v) (plain x u)) e.1 (plain_right site x t u e.0))

    through_local_right : (i : ℕ) (t : Ty) → slice_get locals i ≡ Some (Local.placed t) → sc.shows i ≡ true → Right site (Still (ValueHas site t) w) (through_local i w)
    unfolding through_local
    through_local_right i t e s = then_right site _ (local_at i w) through (local_right i (Local.placed t) e s)
        (λ x u e. subst (λ (v : World). Right site (Still (ValueHas site t) v) (through x u)) e.1
        (through_right x t u (subst (λ (v : World). LiveFits site v.live) (sym e.1) fit.live) e.0))

    abbrev pub EachAllowed : List Mention → Type 0
    EachAllowed = Each (Allowed site sc)

    -- what a name stands for
    pub look_right : (l : Lookup) (t : Ty) → Looks (context site sc) locals l t → EachAllowed (look_mentions l) → Right site (Still (ValueHas site t) w) (look_up l w)
    unfolding look_up Right
    look_right l t (Looks.local {i = i} e) h = plain_local_right i t e h.0
    look_right l t (Looks.bound_local {i = i} e) h = through_local_right i t e h.0
    look_right l t (Looks.input {n = n} is own form) h = plain_of_right (origin.Input n) t w fit.live (SourceHas.stored (own_view site w.itself is own.1 fit.itself) own.2 form)
    look_right l t (Looks.bound_input {n = n} is own form) h = through_of_right (origin.Input n) t w fit.live (SourceHas.bound (own_view site w.itself is own.1 fit.itself) own.2 form)
    look_right l t (Looks.slot {n = n} is own form) h = plain_of_right (origin.Slot (rule.Own n)) t w fit.live (SourceHas.slot (own_view site w.itself is own.1 fit.itself) own.2 form)
    look_right l t (Looks.environment {k = k} is at typed) h = plain_of_right (origin.Environment k) t w fit.live (SourceHas.key (a_view is fit.itself).1 at typed)
      where
        a_view : {itself : Itself} → itself ≡ Itself.a_view → ItselfFits site itself sc.owner w.itself → (d : ℕ) × (site.view ≡ Some d)
        a_view is fits = let at : ItselfFits site Itself.a_view sc.owner w.itself = subst (λ (i : Itself). ItselfFits site i sc.owner w.itself) is fits in (at.0, at.2)
    look_right l t (Looks.itself {d = d} is has) h =
        let x = own_value site sc.itself is has fit.itself in
        subst (λ (o : Option Value). Right site (Still (ValueHas site (ty.Named d)) w) (given o w)) (sym x.1) (x.2, refl)
    look_right l t (Looks.own_field {n = n} is own form) h =
        let x = own_value site sc.itself is own.1 fit.itself in
        let f = known.laws.fields site.program.table (standing site known) (ty.Named own.0) t n x.0 (IsField.is_field (ap named_at (ty_view.outs-Named own.0)) own.2 form) x.2 in
        subst (λ (o : Option Value). Right site (Still (ValueHas site t) w) (given o w)) (sym (ap (field_in n) x.1 ∙ f.1)) (f.2, refl)

    -- ---- spots

    reached_right : (hops : List Hop) (t u : Ty) (x : Input) (v : World) → site.is_block ≡ true → HopsFit site.program.table t hops u → Holds site (Local.placed t) x → Right site (Still (SpotHas site sc locals u) v) (reached hops x v)
    unfolding Right
    reached_right hops t u (input.Value y) v block fits h = absurd h
    reached_right hops t u (input.Place p) v block fits (PlaceFits.place_fits {t = whole} typed to) = ((PlaceFits.place_fits typed (known.laws.join site.program.table whole t u p.hops hops to fits), block), refl)

    view_writes : sc.itself ≡ Itself.a_view → (is_view sc.itself ≡ true → site.is_block ≡ true) → site.is_block ≡ true
    view_writes is may = may (ap is_view is)

    placed_writes : (is_view sc.itself ≡ true) ⊎ (site.is_block ≡ true) → (is_view sc.itself ≡ true → site.is_block ≡ true) → site.is_block ≡ true
    placed_writes (inl h) may = may h
    placed_writes (inr h) may = h

    -- where a root and hops lead
    pub spot_right : (r : Root) (hops : List Hop) (t u : Ty) → Begins (context site sc) locals r t → HopsFit site.program.table t hops u → EachAllowed (root_mentions r)
        → (is_among_cells r ≡ true → is_view sc.itself ≡ true → site.is_block ≡ true) → Right site (Still (SpotHas site sc locals u) w) (spot_of r hops w)
    unfolding spot_of Right
    spot_right r hops t u (Begins.at_local e) fits h may = ((t, e, fits, h.0), refl)
    spot_right r hops t u (Begins.at_bound_local {i = i} e) fits h may = then_right site _ (local_at i w) (reached hops) (local_right i (Local.placed t) e h.0)
        (λ x v e'. subst (λ (o : World). Right site (Still (SpotHas site sc locals u) o) (reached hops x v)) e'.1 (reached_right hops t u x v (placed_writes (fit.places i t e) (may refl)) fits e'.0))
    spot_right r hops t u (Begins.at_bound_input {n = n} is own form) fits h may =
        then_right site _ (value_of (origin.Input n) w) (reached hops) (value_right (origin.Input n) (Local.placed t) w fit.live (SourceHas.bound (own_view site w.itself is own.1 fit.itself) own.2 form))
        (λ x v e'. subst (λ (o : World). Right site (Still (SpotHas site sc locals u) o) (reached hops x v)) e'.1 (reached_right hops t u x v (view_writes is (may refl)) fits e'.0))
    spot_right r hops t u (Begins.at_slot {n = n} {a = a} {s = s} is own form) fits h may =
        ((PlaceFits.place_fits (ap (λ (path : List Step). site.types path n) fit.home ∙ known.slots own.0 n t a s (own_view site w.itself is own.1 fit.itself) own.2 form) fits, view_writes is (may refl)), refl)
    spot_right r hops t u (Begins.at_itself {d = d} is has) fits h may = ((d, is, has, fits), refl)

    held_is : (i : ℕ) (t : Ty) → slice_get locals i ≡ Some (Local.valued t) → sc.shows i ≡ true → (v : Value) × (held_value (slice_get w.locals i) ≡ Some v) × ValueHas site t v
    held_is i t e s = go (used site i fit.here e s)
      where
        go : (x : Input) × (slice_get w.locals i ≡ Some (held.Holds x)) × Holds site (Local.valued t) x → (v : Value) × (held_value (slice_get w.locals i) ≡ Some v) × ValueHas site t v
        go (input.Value v, at, h) = (v, ap held_value at, h)
        go (input.Place p, at, h) = absurd h

    itself_is : (d : ℕ) → sc.itself ≡ Itself.a_changed_value → sc.owner ≡ Some d → (v : Value) × (w.itself ≡ Some v) × ValueHas site (ty.Named d) v
    itself_is d is has = own_value site sc.itself (ap is_value is) has fit.itself

    -- what is read there
    pub read_right : (s : Spot) (u : Ty) → SpotHas site sc locals u s → Right site (Still (ValueHas site u) w) (read_spot s w)
    unfolding read_spot
    read_right (spot.Local i hops) u (t, e, fits, s) =
        let x = held_is i t e s in
        subst (λ (o : Option Value). Right site (Still (ValueHas site u) w) (answered (part_in hops o) w)) (sym x.1)
        (answered_right site _ (part_in hops (Some x.0)) w fit.live (answers_map site (part_in hops (Some x.0)) (known.laws.read site.program.table (standing site known) t u hops x.0 fits x.2) (λ v h. (h, refl))))
    read_right (spot.Itself hops) u (d, is, has, fits) =
        let x = itself_is d is has in
        subst (λ (o : Option Value). Right site (Still (ValueHas site u) w) (answered (part_in hops o) w)) (sym x.1)
        (answered_right site _ (part_in hops (Some x.0)) w fit.live (answers_map site (part_in hops (Some x.0)) (known.laws.read site.program.table (standing site known) (ty.Named d) u hops x.0 fits x.2) (λ v h. (h, refl))))
    read_right (spot.Cell p) u h = plain_of_right (origin.Place p) u w fit.live (SourceHas.place h.0)

    set_itself_fits : (d : ℕ) (v : Value) → sc.itself ≡ Itself.a_changed_value → sc.owner ≡ Some d → ValueHas site (ty.Named d) v → Fits site sc locals (record w { itself = Some v })
    set_itself_fits d v is has h = record {
      here = fit.here;
      places = fit.places;
      itself = subst (λ (i : Itself). ItselfFits site i sc.owner (Some v)) (sym is) (d, has, (v, refl, h));
      home = fit.home;
      live = fit.live;
    }

    stored_right : (p : Place) (u : Ty) (v : Value) (live : Live) (old : Option (Result Value Missing)) (answer : Result (Unit {0}) WriteStop) → PlaceFits site.program.table site.types p u → ValueHas site u v
        → LiveFits site (Some live) → AnswersWith (HasValue site.program.table u) old → Right site (λ x o. Fits site sc locals o) (stored p v live old answer w)
    unfolding Right
    stored_right p u v live None answer place h fits there = absurd there
    stored_right p u v live (Some old) (Err (stop.Missing index)) place h fits there = fit.live
    stored_right p u v live (Some old) (Err (stop.Heavy total)) place h fits there = fit.live
    stored_right p u v live (Some old) (Ok x) place h fits there = record {
      here = fit.here;
      places = fit.places;
      itself = fit.itself;
      home = fit.home;
      live = (fits.0, fits.1, fits.2, known.laws.cells_written site.program.table (standing site known) site.types live.cells p u v fits.3 place h);
    }

    put_right : (p : Place) (u : Ty) (v : Value) (o : Option Live) → LiveFits site o → PlaceFits site.program.table site.types p u → site.is_block ≡ true → ValueHas site u v
        → Right site (λ x o. Fits site sc locals o) (put_in p v o w)
    put_right p u v None fits place block h = absurd (cc (fits, block))
    put_right p u v (Some live) fits place block h =
        stored_right p u v live (value_at live.cells p) (write_answer live.cells p v) place h fits (known.laws.cells_read site.program.table (standing site known) site.types live.cells p u fits.3 place)

    -- what is written there
    pub write_right : (s : Spot) (u : Ty) (v : Value) → SpotHas site sc locals u s → ValueHas site u v → Right site (λ x o. Fits site sc locals o) (write_spot s v w)
    unfolding write_spot write_local write_self put Right
    write_right (spot.Local i hops) u v (t, e, fits, s) h =
        let x = held_is i t e s in
        then_right site _ (answered (renewed hops v (held_value (slice_get w.locals i))) w) (set_local i)
        (subst (λ (o : Option Value). Right site (Still (ValueHas site t) w) (answered (renewed hops v o) w)) (sym x.1)
        (answered_right site _ (renewed hops v (Some x.0)) w fit.live (answers_map site (renewed hops v (Some x.0)) (known.laws.renewed site.program.table (standing site known) t u hops v x.0 fits x.2 h) (λ y k. (k, refl)))))
        (λ y o k. let same : w ≡ o = sym k.1 in
        subst (λ (q : World). Fits site sc locals (record q { locals = slice_set q.locals i (held.Holds (input.Value y)) })) same
        (record { here = written_local site i (input.Value y) e k.0 fit.here; places = fit.places; itself = fit.itself; home = fit.home; live = fit.live }))
    write_right (spot.Itself hops) u v (d, is, has, fits) h =
        let x = itself_is d is has in
        then_right site _ (answered (renewed hops v w.itself) w) set_itself
        (subst (λ (o : Option Value). Right site (Still (ValueHas site (ty.Named d)) w) (answered (renewed hops v o) w)) (sym x.1)
        (answered_right site _ (renewed hops v (Some x.0)) w fit.live (answers_map site (renewed hops v (Some x.0)) (known.laws.renewed site.program.table (standing site known) (ty.Named d) u hops v x.0 fits x.2 h) (λ y k. (k, refl)))))
        (λ y o k. let same : w ≡ o = sym k.1 in subst (λ (q : World). Fits site sc locals (record q { itself = Some y })) same (set_itself_fits d y is has k.0))
    write_right (spot.Cell p) u v h k = put_right p u v w.live fit.live h.0 h.1 k
