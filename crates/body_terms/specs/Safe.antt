-- Steps of a body that are right in each world that fits, and leave one that fits.
use Rattle.std.specs.Prelude.{◌≡◌, ℕ, Bool, true, false, List, [], ◌∷◌, ◌++◌, length, take, Option, Some, None, Ok, Err, slice_get, ◌⊎◌, ⊤}
use Rattle.std.proofs.Common.{sym, subst, inl, inr}
use Rattle.identity_path.specs.declared.input.Input.{Input}
use Rattle.identity_path.specs.declared.input.Input.TheVariants as input
use Rattle.sv_value.specs.declared.value.Value.{Value}
use Rattle.swift_core.specs.Context.{Local, Itself}
use Rattle.swift_core.specs.declared.ty.Ty.{Ty}
use Rattle.value_calls.specs.Traps.{Outcome}
use Rattle.value_calls.specs.declared.traps.TrapKind.{TrapKind}
use Rattle.core_means.specs.Asks.{World, Done, Doing, and_then, ◌>>=◌, ◌>>◌, give, trap, spend, given, found, answered, choose}
use Rattle.core_means.specs.Means.{push, framed}
use Rattle.core_means.specs.declared.parts.Local.{Local as Held}
use Rattle.core_means.specs.declared.parts.Local.TheVariants as held
use Rattle.body_means.specs.Building.{push_input}
use Rattle.value_fits.specs.Answers.{AnswersWith}
use Rattle.world_fits.specs.Lists.{one_more, append_none, append_twice}
use Rattle.world_fits.specs.Locals.{added, cut}
use Rattle.world_fits.specs.Right.{GivesSome}
use Rattle.world_fits.specs.Sites.{Site, Scope, ValueHas, Holds, LocalsFit, MayPlace, Fits, is_view}
use Rattle.form_rights.specs.Good.{Good}
use Rattle.reader_locals.specs.Filled.{fill, Settled, Calm, with_fuel, settled_push, settled_take, filled_push, filled_take}
use Rattle.body_terms.specs.Sound.{Sound, then_sound, sound_weaker, done_sound, trap_sound, spend_sound, sound_of}

module _ (site : Site) (inputs : List Input) (limit : ℕ) where
  -- With what is captured in its place the world fits. The locals from the limit on are there.
  pub record Fitting (sc : Scope) (locals : List Local) (w : World) : Type 0 where
    pub fits : Fits site sc locals (fill inputs w)
    pub settled : Settled inputs limit w

  -- Locals may have been added.
  abbrev pub Grown : Scope → List Local → World → Type 0
  Grown sc locals w = (more : List Local) × Fitting sc (locals ++ more) w

  pub grown : {sc : Scope} {locals : List Local} {w : World} → Fitting sc locals w → Grown sc locals w
  grown {sc = sc} {locals = locals} {w = w} fit = ([], subst (λ (ls : List Local). Fitting sc ls w) (sym (append_none locals)) fit)

  pub grown_more : {sc : Scope} {u : World} (locals more : List Local) → Grown sc (locals ++ more) u → Grown sc locals u
  grown_more {sc = sc} {u = u} locals more g = (more ++ g.0, subst (λ (ls : List Local). Fitting sc ls u) (append_twice locals more g.0) g.1)

  fits_fuel : {sc : Scope} {locals : List Local} (w : World) (n : ℕ) → Fitting sc locals w → Fitting sc locals (record w { fuel = n })
  fits_fuel w n fit = record {
    fits = record { here = fit.fits.here; places = fit.fits.places; itself = fit.fits.itself; home = fit.fits.home; live = fit.fits.live };
    settled = with_fuel inputs limit w n fit.settled;
  }

  pub fits_nodes : {sc : Scope} {locals : List Local} (w : World) (n : ℕ) → Fitting sc locals w → Fitting sc locals (record w { nodes = n })
  fits_nodes w n fit = record {
    fits = record { here = fit.fits.here; places = fit.fits.places; itself = fit.fits.itself; home = fit.fits.home; live = fit.fits.live };
    settled = record { quiet = fit.settled.quiet; stands = fit.settled.stands; long = fit.settled.long; veiled = fit.settled.veiled };
  }

  -- ---- locals that are added, and end

  -- a local that holds a place stands where there is a view
  abbrev pub MayStand : Itself → Local → Type 0
  MayStand its (Local.valued t) = ⊤
  MayStand its (Local.placed t) = is_view its ≡ true

  placed_stands : (its : Itself) (l : Local) (t : Ty) → MayStand its l → l ≡ Local.placed t → is_view its ≡ true
  placed_stands its (Local.valued u) t h e = cc
  placed_stands its (Local.placed u) t h e = h

  one_place : (its : Itself) (locals : List Local) (l : Local) → MayStand its l → MayPlace site its locals → MayPlace site its (locals ++ l ∷ [])
  one_place its locals l h may i t e = go (one_more locals l i (Local.placed t) e)
    where
      go : (slice_get locals i ≡ Some (Local.placed t)) ⊎ ((i ≡ length locals) × (l ≡ Local.placed t)) → (is_view its ≡ true) ⊎ (site.is_block ≡ true)
      go (inl k) = may i t k
      go (inr k) = inl (placed_stands its l t h k.1)

  pub fits_pushed : {sc : Scope} {locals : List Local} (w : World) (l : Local) (x : Input) → MayStand sc.itself l → Holds site l x → Fitting sc locals w
      → Fitting sc (locals ++ l ∷ []) (record w { locals = w.locals ++ held.Holds x ∷ [] })
  fits_pushed {sc = sc} {locals = locals} w l x stands h fit = record {
    fits = record {
      here = subst (LocalsFit site sc.shows (locals ++ l ∷ [])) (sym (filled_push inputs limit w x)) (added site l x h fit.fits.here);
      places = one_place sc.itself locals l stands fit.fits.places;
      itself = fit.fits.itself;
      home = fit.fits.home;
      live = fit.fits.live;
    };
    settled = settled_push inputs limit w x fit.settled;
  }

  fits_cut : {sc : Scope} {locals : List Local} (w u : World) → Fitting sc locals w → Grown sc locals u → Fitting sc locals (record u { locals = take (length w.locals) u.locals })
  fits_cut {sc = sc} {locals = locals} w u fit g = record {
    fits = subst (λ (ls : List Held). Fits site sc locals (record u { locals = ls })) (sym (filled_take inputs limit w u)) (cut site (fill inputs w) (fill inputs u) fit.fits (g.0, g.1.fits));
    settled = settled_take inputs limit u (length w.locals) fit.settled.long g.1.settled;
  }

  -- ---- steps

  module _ (sc : Scope) (locals : List Local) where
    -- It is right wherever the locals fit, gives what has the property, and leaves them so.
    abbrev pub Safe : {A : Type 0} → (A → Type 0) → Doing A → Type 0
    Safe P m = (w : World) → Fitting sc locals w → Sound site inputs (λ x u. P x × Fitting sc locals u) (m w)

    -- what asks for captured locals, and is right where they have what they hold
    pub safe_of : {A : Type 0} (P : A → Type 0) (m : Doing A) → Good site sc locals P m → Calm inputs limit m → Safe P m
    safe_of P m h calm w fit =
        sound_weaker site inputs (m w) (sound_of site inputs _ limit (m w) (m (fill inputs w)) (calm w fit.settled) (h (fill inputs w) fit.fits)) (λ x u e. (e.0.0, record { fits = e.0.1; settled = e.1 }))

    pub safe_then : {A B : Type 0} {P : A → Type 0} (Q : B → Type 0) (m : Doing A) (f : A → Doing B) → Safe P m → ((x : A) → P x → Safe Q (f x)) → Safe Q (m >>= f)
    safe_then Q m f h k w fit = then_sound site inputs _ (m w) f (h w fit) (λ x u e. k x e.0 u e.1)

    pub safe_give : {A : Type 0} (P : A → Type 0) (x : A) → P x → Safe P (give x)
    safe_give P x h w fit = done_sound site inputs _ x w (h, fit)

    pub safe_given : {A : Type 0} (P : A → Type 0) (o : Option A) → GivesSome site P o → Safe P (given o)
    safe_given P None h w fit = absurd h
    safe_given P (Some x) h w fit = done_sound site inputs _ x w (h, fit)

    pub safe_answered : {A : Type 0} (P : A → Type 0) (o : Outcome A) → AnswersWith P o → Safe P (answered o)
    safe_answered P None h w fit = absurd h
    safe_answered P (Some (Ok x)) h w fit = done_sound site inputs _ x w (h, fit)
    safe_answered P (Some (Err k)) h w fit = trap_sound site inputs _ k w

    pub safe_found : {A B : Type 0} (P : B → Type 0) (o : Option A) (x : A) (f : A → Doing B) → o ≡ Some x → Safe P (f x) → Safe P (found o f)
    safe_found {A = A} P o x f e h = subst (λ (y : Option A). Safe P (found y f)) (sym e) h

    pub safe_choose : {A : Type 0} (P : A → Type 0) (b : Bool) (m n : Doing A) → Safe P m → Safe P n → Safe P (choose b m n)
    safe_choose P true m n h k = h
    safe_choose P false m n h k = k

    pub safe_weaker : {A : Type 0} {P Q : A → Type 0} (m : Doing A) → Safe P m → ((x : A) → P x → Q x) → Safe Q m
    safe_weaker m h k w fit = sound_weaker site inputs (m w) (h w fit) (λ x u e. (k x e.0, e.1))

    pub safe_trap : {A : Type 0} (P : A → Type 0) (k : TrapKind) → Safe P (trap k)
    safe_trap P k w fit = trap_sound site inputs _ k w

    pub safe_spend : {A : Type 0} (P : A → Type 0) (m : Doing A) → Safe P m → Safe P (spend >> m)
    safe_spend P m h w fit = spend_sound site inputs _ w m (λ n. h (record w { fuel = n }) (fits_fuel w n fit))

    pub spend_grows : {A : Type 0} (Q : A → World → Type 0) (m : Doing A) (w : World) → Fitting sc locals w → ((u : World) → Fitting sc locals u → Sound site inputs Q (m u)) → Sound site inputs Q ((spend >> m) w)
    spend_grows Q m w fit more = spend_sound site inputs _ w m (λ n. more (record w { fuel = n }) (fits_fuel w n fit))

    -- a further local
    pub push_sound : {A : Type 0} (Q : A → World → Type 0) (t : Ty) (v : Value) (m : Doing A) (w : World) → ValueHas site t v → Fitting sc locals w
        → ((u : World) → Fitting sc (locals ++ Local.valued t ∷ []) u → Sound site inputs Q (m u)) → Sound site inputs Q ((push v >> m) w)
    unfolding and_then
    push_sound Q t v m w h fit more = more (record w { locals = w.locals ++ held.Holds (input.Value v) ∷ [] }) (fits_pushed w (Local.valued t) (input.Value v) tt h fit)

    pub push_input_sound : {A : Type 0} (Q : A → World → Type 0) (l : Local) (x : Input) (m : Doing A) (w : World) → MayStand sc.itself l → Holds site l x → Fitting sc locals w
        → ((u : World) → Fitting sc (locals ++ l ∷ []) u → Sound site inputs Q (m u)) → Sound site inputs Q ((push_input x >> m) w)
    unfolding and_then
    push_input_sound Q l x m w stands h fit more = more (record w { locals = w.locals ++ held.Holds x ∷ [] }) (fits_pushed w l x stands h fit)

    -- the locals that stood before
    pub safe_framed : {A : Type 0} (P : A → Type 0) (m : Doing A) → ((w : World) → Fitting sc locals w → Sound site inputs (λ x u. P x × Grown sc locals u) (m w)) → Safe P (framed m)
    unfolding framed
    safe_framed P m h w fit = then_sound site inputs _ (m w) (λ x u. Done x (record u { locals = take (length w.locals) u.locals })) (h w fit)
        (λ x u e. done_sound site inputs _ x (record u { locals = take (length w.locals) u.locals }) (e.0, fits_cut w u fit e.1))
