-- A script is spelled by its lines, one after another.
use Rattle.std.proofs.Common.{◌≡◌, ℕ, ◌+◌, ◌<◌, ◌==◌, Bool, true, false, List, [], ◌∷◌, ◌++◌, length, refl, sym, ◌∙◌, ap, subst, arith, append_assoc, append-nil, length-append}
use Rattle.std.proofs.Math.Dec.{eqb-suc-zero}
use Rattle.view_engine.specs.declared.form.Event.{Event}
use Rattle.view_engine.specs.declared.form.Event.TheVariants.{Tap as TapOn}
use Rattle.counter_form.specs.Script.{SpellsTap, SpellsTaps, SpellsScript}
use Rattle.counter_form.specs.Pieces.{word_of, value, is_of, Cut}
use Rattle.counter_form.specs.declared.pieces.Kind.TheVariants.{Nothing}
use Rattle.counter_form.specs.declared.pieces.Piece.TheVariants.{Tap, Gap, TapEnd}
use Rattle.counter_form.proofs.Cutting.{same_cut}

module _ {event : Event} {bytes rest : List ℕ} (t : SpellsTap event bytes rest) where
  abbrev pub behind_y : List ℕ
  behind_y = t.y ++ (word_of TapEnd ++ rest)

  abbrev pub behind_tap : List ℕ
  behind_tap = t.x ++ (word_of Gap ++ behind_y)

  pub tap1 : Cut Tap bytes [] behind_tap
  tap1 = record { kind = refl; whole = t.whole }

  pub tap2 : Cut Gap behind_tap t.x behind_y
  tap2 = record { kind = t.x_digits; whole = refl }

  pub tap3 : Cut TapEnd behind_y t.y rest
  tap3 = record { kind = t.y_digits; whole = refl }

  pub tap_shorter : length rest < length bytes
  unfolding word_of
  tap_shorter =
      let whole : length bytes ≡ length (word_of Tap ++ behind_tap) = ap length t.whole in
      let end : length (word_of TapEnd ++ rest) ≡ 1 + length rest = omega arith in
      omega (arith, length-append (word_of Tap) behind_tap, length-append t.x (word_of Gap ++ behind_y), length-append (word_of Gap) behind_y, length-append t.y (word_of TapEnd ++ rest))

-- no text at all
nothing : (text : List ℕ) → is_of Nothing text ≡ true → text ≡ []
nothing [] none = refl
nothing (b ∷ bs) none = absurd (cc none)

pub same_tap : {event event' : Event} {bytes rest rest' : List ℕ} → SpellsTap event bytes rest → SpellsTap event' bytes rest' → (event ≡ event') × (rest ≡ rest')
same_tap {event} {event'} {bytes} {rest} {rest'} t t' =
    let e1 = same_cut refl (tap1 t) (tap1 t') in
    let e2 = same_cut e1.1 (tap2 t) (tap2 t') in
    let e3 = same_cut e2.1 (tap3 t) (tap3 t') in
    (t.event_is ∙ (λ i. TapOn (value (e2.0 i)) (value (e3.0 i))) ∙ sym t'.event_is, e3.1)

-- three cuts, one behind another, spell a tap
pub spelt_tap : (bytes none r1 x r2 y rest : List ℕ) → Cut Tap bytes none r1 → Cut Gap r1 x r2 → Cut TapEnd r2 y rest → SpellsTap (TapOn (value x) (value y)) bytes rest
spelt_tap bytes none r1 x r2 y rest c1 c2 c3 = record {
  x = x;
  y = y;
  x_digits = c2.kind;
  y_digits = c3.kind;
  event_is = refl;
  whole = c1.whole ∙ ap (λ (l : List ℕ). l ++ (word_of Tap ++ r1)) (nothing none c1.kind)
      ∙ ap (λ (l : List ℕ). word_of Tap ++ l) (c2.whole ∙ ap (λ (l : List ℕ). x ++ (word_of Gap ++ l)) c3.whole);
}

-- a line isn't empty
pub not_empty : {event : Event} {bytes rest : List ℕ} → SpellsTap event bytes rest → bytes ≡ [] → ⊥
not_empty {event} {bytes} {rest} t none =
    let shorter : length rest < length bytes = tap_shorter t in
    let empty : length bytes ≡ 0 = ap length none in
    omega arith

pub same_taps : (events events' : List Event) (bytes : List ℕ) → SpellsTaps events bytes → SpellsTaps events' bytes → events ≡ events'
same_taps [] [] bytes s s' = refl
same_taps [] (e' ∷ es') bytes s s' = absurd (not_empty s'.1 s)
same_taps (e ∷ es) [] bytes s s' = absurd (not_empty s.1 s')
same_taps (e ∷ es) (e' ∷ es') bytes s s' =
    let first = same_tap s.1 s'.1 in
    let more = same_taps es es' s.0 s.2 (subst (SpellsTaps es') (sym first.1) s'.2) in
    λ i. first.0 i ∷ more i

pub same_script : {bytes : List ℕ} {events events' : List Event} → SpellsScript bytes events → SpellsScript bytes events' → events ≡ events'
same_script {bytes} {events} {events'} s s' = same_taps events events' bytes s.taps s'.taps

-- the events so far, and what is left
pub record SoFar (bytes : List ℕ) (events : List Event) (rest : List ℕ) : Type 0 where
  pub onward : (tail : List Event) → SpellsTaps tail rest → SpellsTaps (events ++ tail) bytes
  pub back : (all : List Event) → SpellsTaps all bytes → (tail : List Event) × (all ≡ events ++ tail) × SpellsTaps tail rest

pub none_so_far : (bytes : List ℕ) → SoFar bytes [] bytes
none_so_far bytes = record { onward = λ tail s. s; back = λ all s. (all, refl, s) }

-- a line more
pub one_more : {bytes rest behind : List ℕ} {events : List Event} {event : Event} → SoFar bytes events rest → SpellsTap event rest behind → SoFar bytes (events ++ event ∷ []) behind
one_more {bytes} {rest} {behind} {events} {event} so_far t = record {
  onward = λ tail s. subst (λ (l : List Event). SpellsTaps l bytes) (sym (append_assoc events (event ∷ []) tail)) (so_far.onward (event ∷ tail) (behind, t, s));
  back = λ all s. let b = so_far.back all s in split all b.0 b.1 b.2;
}
  where
    split : (all tail : List Event) → all ≡ events ++ tail → SpellsTaps tail rest → (left : List Event) × (all ≡ (events ++ event ∷ []) ++ left) × SpellsTaps left behind
    split all [] is s = absurd (not_empty t s)
    split all (e ∷ es) is s =
        let first = same_tap s.1 t in (
          es,
          is ∙ ap (λ (x : Event). events ++ x ∷ es) first.0 ∙ sym (append_assoc events (event ∷ []) es),
          subst (SpellsTaps es) first.1 s.2,
        )

-- nothing is left
pub all_so_far : {bytes rest : List ℕ} {events : List Event} → SoFar bytes events rest → rest ≡ [] → SpellsTaps events bytes
all_so_far {bytes} {rest} {events} so_far none = subst (λ (l : List Event). SpellsTaps l bytes) (append-nil events) (so_far.onward [] none)

-- what is left begins with no line
pub no_line : {bytes rest : List ℕ} {events : List Event} → SoFar bytes events rest → (rest ≡ [] → ⊥) → ((event : Event) (behind : List ℕ) → SpellsTap event rest behind → ⊥)
    → (all : List Event) → SpellsScript bytes all → ⊥
no_line {bytes} {rest} {events} so_far left none all s = let b = so_far.back all s.taps in stuck b.0 b.2
  where
    stuck : (tail : List Event) → SpellsTaps tail rest → ⊥
    stuck [] is = left is
    stuck (e ∷ es) s = none e s.0 s.1

-- a line more than a script may have
pub too_many : {bytes rest behind : List ℕ} {events : List Event} {event : Event} → SoFar bytes events rest → SpellsTap event rest behind → length events ≡ 10000
    → (all : List Event) → SpellsScript bytes all → ⊥
too_many {bytes} {rest} {behind} {events} {event} so_far t full all s =
    let b = (one_more so_far t).back all s.taps in
    let longer : length all ≡ length ((events ++ event ∷ []) ++ b.0) = ap length b.1 in
    let few = s.few in
    omega (arith, length-append (events ++ event ∷ []) b.0, length-append events (event ∷ []))

pub not_nothing : (rest : List ℕ) (none : Bool) → none ≡ (length rest == 0) → none ≡ false → rest ≡ [] → ⊥
not_nothing [] none is fails same = cc (is, fails)
not_nothing (b ∷ bs) none is fails same = cc same

pub nothing_left : (rest : List ℕ) (none : Bool) → none ≡ (length rest == 0) → none ≡ true → rest ≡ []
nothing_left [] none is holds = refl
nothing_left (b ∷ bs) none is holds =
    let more : (length (b ∷ bs) == 0) ≡ false = eqb-suc-zero (length bs) in
    absurd (cc (is, holds, more))
