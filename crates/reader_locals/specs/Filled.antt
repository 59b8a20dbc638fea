-- A run that asks for the locals that a reader captured, beside the same run with what they hold in their place.
use Rattle.std.specs.Prelude.{◌≡◌, ℕ, zero, suc, ◌+◌, ◌-◌, ◌<◌, ◌≤◌, Bool, true, false, List, [], ◌∷◌, ◌++◌, length, map, take, Option, Some, None, Ok, Err, slice_get, slice_set, ◌⊎◌, ⊤}
use Rattle.std.proofs.Common.{refl, sym, ap, subst, ◌∙◌, arith, inl, inr}
use Rattle.std.proofs.lemmas.List.{length-append, length-set}
use Rattle.identity_path.specs.declared.input.Input.{Input}
use Rattle.identity_path.specs.declared.input.Input.TheVariants as input
use Rattle.sv_value.specs.declared.value.Value.{Value}
use Rattle.value_calls.specs.Traps.{Outcome}
use Rattle.value_calls.specs.declared.traps.TrapKind.{TrapKind}
use Rattle.core_means.specs.declared.origin.Origin.{Origin}
use Rattle.core_means.specs.declared.origin.Origin.TheVariants as origin
use Rattle.core_means.specs.declared.parts.Local.{Local as Held}
use Rattle.core_means.specs.declared.parts.Local.TheVariants as held
use Rattle.core_means.specs.Asks.{World, Asks, Done, Trapped, Wrong, Ask, Doing, and_then, ◌>>=◌, ◌>>◌, give, trap, spend, spent, given, found, answered, choose}
use Rattle.core_means.specs.Means.{held as all_held, push, within, framed}
use Rattle.world_fits.specs.Lists.{one_more, some_same, set_there}

-- ---- what captured locals hold

module _ (inputs : List Input) where
  abbrev pub held_input : Option Input → Held
  held_input None = held.Absent
  held_input (Some v) = held.Holds v

  -- the captured locals, and behind them the preference
  abbrev pub filled_local : Held → Held
  filled_local (held.Holds v) = held.Holds v
  filled_local (held.Captured i) = held_input (slice_get inputs i)
  filled_local held.Preference = held_input (slice_get inputs (length inputs - 1))
  filled_local held.Absent = held.Absent

  abbrev pub fill : World → World
  fill w = record w { locals = map filled_local w.locals }

  -- what is known of a source
  abbrev pub known_at : Origin → Option Input
  known_at (origin.Captured i) = slice_get inputs i
  known_at origin.Preference = slice_get inputs (length inputs - 1)
  known_at (origin.Input i) = None
  known_at (origin.Slot rule) = None
  known_at (origin.Place p) = None
  known_at (origin.Environment k) = None

  -- A body runs. Its locals from this place on are there, and none before it is.
  pub record Settled (limit : ℕ) (w : World) : Type 0 where
    pub quiet : w.live ≡ None
    pub stands : (i : ℕ) (l : Held) → limit ≤ i → slice_get w.locals i ≡ Some l → filled_local l ≡ l
    pub long : limit ≤ length w.locals
    pub veiled : (i : ℕ) (x : Input) → i < limit → slice_get w.locals i ≡ Some (held.Holds x) → ⊥

  -- The first run asks for captured locals where the second has them, and else both do the same. Nothing is said where the second is
  -- wrong.
  pub data Agree (limit : ℕ) (A : Type 0) (P : A → Type 0) : Asks A → Asks A → Type 0 where
    ends : {x : A} {u : World} → P x → Settled limit u → Agree limit A P (Done x u) (Done x (fill u))
    traps : {k : TrapKind} {u v : World} → Agree limit A P (Trapped k u) (Trapped k v)
    fails : {m : Asks A} → Agree limit A P m Wrong
    asks : {s : Origin} {u v : World} {g h : Input → Asks A} → ((x : Input) → Agree limit A P (g x) (h x)) → Agree limit A P (Ask s u g) (Ask s v h)
    knows : {s : Origin} {u : World} {g : Input → Asks A} {n : Asks A} (x : Input) → known_at s ≡ Some x → Agree limit A P (g x) n → Agree limit A P (Ask s u g) n

  -- one step after another
  pub agree_then : {A B : Type 0} {P : A → Type 0} (Q : B → Type 0) (limit after : ℕ) (m n : Asks A) (f g : A → Doing B) → Agree limit A P m n
      → ((x : A) (u : World) → P x → Settled limit u → Agree after B Q (f x u) (g x (fill u))) → Agree after B Q (and_then m f) (and_then n g)
  unfolding and_then
  agree_then Q limit after m n f g (Agree.ends {x = x} {u = u} p settled) k = k x u p settled
  agree_then Q limit after m n f g Agree.traps k = Agree.traps
  agree_then Q limit after m n f g Agree.fails k = Agree.fails
  agree_then Q limit after m n f g (Agree.asks {g = a} {h = b} below) k = Agree.asks (λ x. agree_then Q limit after (a x) (b x) f g (below x) k)
  agree_then Q limit after m n f g (Agree.knows {g = a} x e below) k = Agree.knows x e (agree_then Q limit after (a x) n f g below k)

  -- ---- steps that run so

  module _ (limit : ℕ) where
    -- it runs so in each such world, and gives what has the property
    abbrev pub CalmWith : {A : Type 0} → (A → Type 0) → Doing A → Type 0
    CalmWith {A} P m = (w : World) → Settled limit w → Agree limit A P (m w) (m (fill w))

    abbrev pub Calm : {A : Type 0} → Doing A → Type 0
    Calm m = CalmWith (λ x. ⊤) m

    pub with_then : {A B : Type 0} {P : A → Type 0} (m : Doing A) (f : A → Doing B) → CalmWith P m → ((x : A) → P x → Calm (f x)) → Calm (m >>= f)
    with_then m f h k w settled = agree_then (λ x. ⊤) limit limit (m w) (m (fill w)) f f (h w settled) (λ x u p s. k x p u s)

    pub calm_then : {A B : Type 0} (m : Doing A) (f : A → Doing B) → Calm m → ((x : A) → Calm (f x)) → Calm (m >>= f)
    calm_then m f h k w settled = agree_then (λ x. ⊤) limit limit (m w) (m (fill w)) f f (h w settled) (λ x u p s. k x u s)

    pub calm_give : {A : Type 0} (x : A) → Calm (give x)
    calm_give x w settled = Agree.ends tt settled

    pub calm_trap : {A : Type 0} (k : TrapKind) → Calm {A = A} (trap k)
    calm_trap k w settled = Agree.traps

    pub calm_given : {A : Type 0} (o : Option A) → Calm (given o)
    calm_given None w settled = Agree.fails
    calm_given (Some x) w settled = Agree.ends tt settled

    pub calm_answered : {A : Type 0} (o : Outcome A) → Calm (answered o)
    calm_answered None w settled = Agree.fails
    calm_answered (Some (Ok x)) w settled = Agree.ends tt settled
    calm_answered (Some (Err k)) w settled = Agree.traps

    pub calm_found : {A B : Type 0} (o : Option A) (f : A → Doing B) → ((x : A) → Calm (f x)) → Calm (found o f)
    calm_found None f k w settled = Agree.fails
    calm_found (Some x) f k w settled = k x w settled

    pub calm_choose : {A : Type 0} (b : Bool) (m n : Doing A) → Calm m → Calm n → Calm (choose b m n)
    calm_choose true m n h k = h
    calm_choose false m n h k = k

    pub with_fuel : (w : World) (n : ℕ) → Settled limit w → Settled limit (record w { fuel = n })
    with_fuel w n settled = record { quiet = settled.quiet; stands = settled.stands; long = settled.long; veiled = settled.veiled }

    pub calm_spend : {A : Type 0} (m : Doing A) → Calm m → Calm (spend >> m)
    unfolding and_then
    calm_spend {A = A} m h w settled = go w.fuel
      where
        go : (n : ℕ) → Agree limit A (λ x. ⊤) (and_then (spent n w) (λ _. m)) (and_then (spent n (fill w)) (λ _. m))
        go zero = Agree.traps
        go (suc n) = h (record w { fuel = n }) (with_fuel w n settled)

  -- ---- locals that are added, taken and set

  map_append : (xs ys : List Held) → map filled_local (xs ++ ys) ≡ map filled_local xs ++ map filled_local ys
  map_append [] ys = refl
  map_append (x ∷ xs) ys = ap (λ l. filled_local x ∷ l) (map_append xs ys)

  map_take : (n : ℕ) (xs : List Held) → map filled_local (take n xs) ≡ take n (map filled_local xs)
  map_take zero xs = refl
  map_take (suc n) [] = refl
  map_take (suc n) (x ∷ xs) = ap (λ l. filled_local x ∷ l) (map_take n xs)

  map_set : (xs : List Held) (i : ℕ) (v : Input) → map filled_local (slice_set xs i (held.Holds v)) ≡ slice_set (map filled_local xs) i (held.Holds v)
  map_set [] i v = refl
  map_set (x ∷ xs) zero v = refl
  map_set (x ∷ xs) (suc i) v = ap (λ l. filled_local x ∷ l) (map_set xs i v)

  pub map_length : (xs : List Held) → length (map filled_local xs) ≡ length xs
  map_length [] = refl
  map_length (x ∷ xs) = ap suc (map_length xs)

  abbrev pub filled_option : Option Held → Option Held
  filled_option None = None
  filled_option (Some l) = Some (filled_local l)

  pub filled_get : (xs : List Held) (i : ℕ) → slice_get (map filled_local xs) i ≡ filled_option (slice_get xs i)
  filled_get [] i = refl
  filled_get (x ∷ xs) zero = refl
  filled_get (x ∷ xs) (suc i) = filled_get xs i

  -- what is there stays so
  pub same_there : (limit : ℕ) (w : World) (i : ℕ) → Settled limit w → limit ≤ i → slice_get (map filled_local w.locals) i ≡ slice_get w.locals i
  same_there limit w i settled behind = filled_get w.locals i ∙ go (slice_get w.locals i) refl
    where
      go : (o : Option Held) → slice_get w.locals i ≡ o → filled_option o ≡ o
      go None e = refl
      go (Some l) e = ap Some (settled.stands i l behind e)

  in_taken : {X : Type 0} (n : ℕ) (xs : List X) (i : ℕ) (x : X) → slice_get (take n xs) i ≡ Some x → slice_get xs i ≡ Some x
  in_taken zero xs i x e = cc
  in_taken (suc n) [] i x e = e
  in_taken (suc n) (y ∷ xs) zero x e = e
  in_taken (suc n) (y ∷ xs) (suc i) x e = in_taken n xs i x e

  set_among : {X : Type 0} (xs : List X) (i j : ℕ) (x y : X) → slice_get (slice_set xs i y) j ≡ Some x → (y ≡ x) ⊎ (slice_get xs j ≡ Some x)
  set_among [] i j x y e = inr e
  set_among (z ∷ xs) zero zero x y e = inl (some_same y x e)
  set_among (z ∷ xs) zero (suc j) x y e = inr e
  set_among (z ∷ xs) (suc i) zero x y e = inr e
  set_among (z ∷ xs) (suc i) (suc j) x y e = set_among xs i j x y e

  longer : (limit n m : ℕ) → limit ≤ n → m ≡ n + 1 → limit ≤ m
  longer limit n m h e = omega (arith, h, e)

  as_long : (limit n m : ℕ) → limit ≤ n → m ≡ n → limit ≤ m
  as_long limit n m h e = omega (arith, h, e)

  no_end : (limit i n : ℕ) → limit ≤ n → i < limit → i ≡ n → ⊥
  no_end limit i n h before e = omega (arith, h, before, e)

  take_long : {X : Type 0} (n : ℕ) (xs : List X) (m : ℕ) → m ≤ n → m ≤ length xs → m ≤ length (take n xs)
  take_long zero xs m h k = h
  take_long (suc n) [] m h k = k
  take_long (suc n) (x ∷ xs) zero h k = omega arith
  take_long (suc n) (x ∷ xs) (suc m) h k = let rest = take_long n xs m (omega (arith, h)) (omega (arith, k)) in omega (arith, rest)

  module _ (limit : ℕ) where
    pub settled_push : (w : World) (v : Input) → Settled limit w → Settled limit (record w { locals = w.locals ++ held.Holds v ∷ [] })
    settled_push w v settled = record {
      quiet = settled.quiet;
      stands = λ i l behind e. go i l behind (one_more w.locals (held.Holds v) i l e);
      long = longer limit (length w.locals) (length (w.locals ++ held.Holds v ∷ [])) settled.long (length-append w.locals (held.Holds v ∷ []));
      veiled = λ i x before e. old i x before (one_more w.locals (held.Holds v) i (held.Holds x) e);
    }
      where
        old : (i : ℕ) (x : Input) → i < limit → (slice_get w.locals i ≡ Some (held.Holds x)) ⊎ ((i ≡ length w.locals) × (held.Holds v ≡ held.Holds x)) → ⊥
        old i x before (inl e) = settled.veiled i x before e
        old i x before (inr e) = no_end limit i (length w.locals) settled.long before e.0

        go : (i : ℕ) (l : Held) → limit ≤ i → (slice_get w.locals i ≡ Some l) ⊎ ((i ≡ length w.locals) × (held.Holds v ≡ l)) → filled_local l ≡ l
        go i l behind (inl e) = settled.stands i l behind e
        go i l behind (inr e) = subst (λ (k : Held). filled_local k ≡ k) e.1 refl

    pub settled_take : (w : World) (n : ℕ) → limit ≤ n → Settled limit w → Settled limit (record w { locals = take n w.locals })
    settled_take w n many settled = record {
      quiet = settled.quiet;
      stands = λ i l behind e. settled.stands i l behind (in_taken n w.locals i l e);
      long = take_long n w.locals limit many settled.long;
      veiled = λ i x before e. settled.veiled i x before (in_taken n w.locals i (held.Holds x) e);
    }

    pub settled_set : (w : World) (i : ℕ) (v : Input) → limit ≤ i → Settled limit w → Settled limit (record w { locals = slice_set w.locals i (held.Holds v) })
    settled_set w i v there settled = record {
      quiet = settled.quiet;
      stands = λ j l behind e. go j l behind (set_among w.locals i j l (held.Holds v) e);
      long = as_long limit (length w.locals) (length (slice_set w.locals i (held.Holds v))) settled.long (length-set w.locals i (held.Holds v));
      veiled = λ j x before e. settled.veiled j x before (sym (set_there w.locals i j (held.Holds v) (λ same. no_end limit j i there before (sym same))) ∙ e);
    }
      where
        go : (j : ℕ) (l : Held) → limit ≤ j → (held.Holds v ≡ l) ⊎ (slice_get w.locals j ≡ Some l) → filled_local l ≡ l
        go j l behind (inl e) = subst (λ (k : Held). filled_local k ≡ k) e refl
        go j l behind (inr e) = settled.stands j l behind e

    -- an end with other locals
    pub ends_with : {A : Type 0} (P : A → Type 0) (x : A) (u : World) (locals : List Held) → P x → Settled limit u → map filled_local u.locals ≡ locals → Agree limit A P (Done x u) (Done x (record u { locals = locals }))
    ends_with {A = A} P x u locals p settled e = subst (λ (ls : List Held). Agree limit A P (Done x u) (Done x (record u { locals = ls }))) e (Agree.ends p settled)

    pub filled_push : (w : World) (v : Input) → map filled_local (w.locals ++ held.Holds v ∷ []) ≡ map filled_local w.locals ++ held.Holds v ∷ []
    filled_push w v = map_append w.locals (held.Holds v ∷ [])

    pub calm_push : (v : Value) → Calm limit (push v)
    calm_push v w settled =
        ends_with (λ x. ⊤) tt (record w { locals = w.locals ++ held.Holds (input.Value v) ∷ [] }) (map filled_local w.locals ++ held.Holds (input.Value v) ∷ []) tt
        (settled_push w (input.Value v) settled) (filled_push w (input.Value v))

    pub filled_take : (w u : World) → map filled_local (take (length w.locals) u.locals) ≡ take (length (map filled_local w.locals)) (map filled_local u.locals)
    filled_take w u = map_take (length w.locals) u.locals ∙ ap (λ n. take n (map filled_local u.locals)) (sym (map_length w.locals))

    -- the locals that stood before
    pub calm_framed : {A : Type 0} (m : Doing A) → Calm limit m → Calm limit (framed m)
    unfolding framed
    calm_framed m h w settled =
        agree_then (λ x. ⊤) limit limit (m w) (m (fill w)) (λ x u. Done x (record u { locals = take (length w.locals) u.locals })) (λ x u. Done x (record u { locals = take (length (map filled_local w.locals)) u.locals }))
        (h w settled)
        (λ x u p s. ends_with (λ x. ⊤) x (record u { locals = take (length w.locals) u.locals }) (take (length (map filled_local w.locals)) (map filled_local u.locals)) tt (settled_take u (length w.locals) settled.long s) (filled_take w u))

    pub filled_set : (w : World) (i : ℕ) (v : Input) → map filled_local (slice_set w.locals i (held.Holds v)) ≡ slice_set (map filled_local w.locals) i (held.Holds v)
    filled_set w i v = map_set w.locals i v

  -- ---- code with locals of its own

  pub filled_held : (vs : List Value) → map filled_local (all_held vs) ≡ all_held vs
  filled_held [] = refl
  filled_held (v ∷ vs) = ap (λ l. held.Holds (input.Value v) ∷ l) (filled_held vs)

  pub held_open : (vs : List Value) (i : ℕ) (l : Held) → slice_get (all_held vs) i ≡ Some l → filled_local l ≡ l
  held_open [] i l e = cc
  held_open (v ∷ vs) zero l e = subst (λ (k : Held). filled_local k ≡ k) (some_same (held.Holds (input.Value v)) l e) refl
  held_open (v ∷ vs) (suc i) l e = held_open vs i l e

  -- a body whose locals are these values
  pub settled_held : (w : World) (vs : List Value) → w.locals ≡ all_held vs → w.live ≡ None → Settled zero w
  settled_held w vs is quiet = record {
    quiet = quiet;
    stands = λ i l behind e. held_open vs i l (ap (λ (ls : List Held). slice_get ls i) (sym is) ∙ e);
    long = omega arith;
    veiled = λ i x before e. absurd (omega (arith, before));
  }

  -- It has values as its locals. What is done after it has the locals that stood before.
  pub own_locals : {A B : Type 0} {P : A → Type 0} (Q : B → Type 0) (limit : ℕ) (vs : List Value) (itself : Option Value) (m : Doing A) (f g : A → Doing B) (w : World)
      → Settled limit w → CalmWith zero P m → ((x : A) (u : World) → P x → u.live ≡ None → Agree limit B Q (f x u) (g x (fill u)))
      → Agree limit B Q (and_then (m (record w { locals = all_held vs; itself = itself })) f) (and_then (m (record (fill w) { locals = all_held vs; itself = itself })) g)
  own_locals {A = A} {P = P} Q limit vs itself m f g w settled h k =
      agree_then Q zero limit (m (record w { locals = all_held vs; itself = itself })) (m (record w { locals = all_held vs; itself = itself })) f g
      (subst (λ (ls : List Held). Agree zero A P (m (record w { locals = all_held vs; itself = itself })) (m (record w { locals = ls; itself = itself }))) (filled_held vs)
      (h (record w { locals = all_held vs; itself = itself }) (settled_held (record w { locals = all_held vs; itself = itself }) vs refl settled.quiet)))
      (λ x u p s. k x u p s.quiet)

  pub settled_back : (limit : ℕ) (w u : World) (itself : Option Value) → Settled limit w → u.live ≡ None → Settled limit (record u { locals = w.locals; itself = itself })
  settled_back limit w u itself settled quiet = record { quiet = quiet; stands = settled.stands; long = settled.long; veiled = settled.veiled }

  pub calm_within : {A : Type 0} (limit : ℕ) (vs : List Value) (itself : Option Value) (m : Doing A) → Calm zero m → Calm limit (within (all_held vs) itself m)
  unfolding within
  calm_within limit vs itself m h w settled =
      own_locals (λ x. ⊤) limit vs itself m (λ x u. Done x (record u { locals = w.locals; itself = w.itself })) (λ x u. Done x (record u { locals = map filled_local w.locals; itself = w.itself })) w settled h
      (λ x u p quiet. Agree.ends tt (settled_back limit w u w.itself settled quiet))
