-- A meaning is right: it is never wrong.
use Rattle.std.specs.Prelude.{◌≡◌, ℕ, zero, suc, false, Option, Some, None, Result, Ok, Err, ◌⊎◌}
use Rattle.std.proofs.Common.{refl, sym, subst, ◌∙◌, inl, inr}
use Rattle.identity_path.specs.declared.input.Input.{Input}
use Rattle.sv_value.specs.declared.hop.Missing.{Missing}
use Rattle.swift_core.specs.Context.{Local}
use Rattle.value_calls.specs.Traps.{Outcome}
use Rattle.value_calls.specs.declared.traps.TrapKind.{TrapKind}
use Rattle.core_means.specs.declared.origin.Origin.{Origin}
use Rattle.core_means.specs.Sources.{Found}
use Rattle.core_means.specs.Asks.{World, Asks, Done, Trapped, Wrong, Ask, Doing, and_then, trap, spend, spent, given, answered, Look, Reads, asked, under, noted, IsRight}
use Rattle.value_fits.specs.Answers.{AnswersWith}
use Rattle.world_fits.specs.Sites.{Site, Holds, SourceHas, LiveFits}

module _ (site : Site) where
  -- What is done at the end has the property, a trap leaves fitting cells, and only sources that the frame has are asked.
  unfoldable pub Right : {A : Type 0} → (A → World → Type 0) → Asks A → Type 0
  Right P (Done x w) = P x w
  Right P (Trapped k w) = LiveFits site w.live
  Right P Wrong = ⊥
  Right P (Ask s w g) = (site.is_block ≡ false) × ((l : Local) × SourceHas site s l) × ((v : Input) → ((l : Local) → SourceHas site s l → Holds site l v) → Right P (g v))

  -- one step after another
  pub then_right : {A B : Type 0} {P : A → World → Type 0} (Q : B → World → Type 0) (m : Asks A) (f : A → Doing B)
      → Right P m → ((x : A) (w : World) → P x w → Right Q (f x w)) → Right Q (and_then m f)
  unfolding Right and_then
  then_right Q (Done x w) f h k = k x w h
  then_right Q (Trapped t w) f h k = h
  then_right Q Wrong f h k = absurd h
  then_right Q (Ask s w g) f h k = (h.0, h.1, λ v e. then_right Q (g v) f (h.2 v e) k)

  pub weaker : {A : Type 0} {P Q : A → World → Type 0} (m : Asks A) → Right P m → ((x : A) (w : World) → P x w → Q x w) → Right Q m
  unfolding Right
  weaker (Done x w) h k = k x w h
  weaker (Trapped t w) h k = h
  weaker Wrong h k = h
  weaker (Ask s w g) h k = (h.0, h.1, λ v e. weaker (g v) (h.2 v e) k)

  pub done_right : {A : Type 0} (P : A → World → Type 0) (x : A) (w : World) → P x w → Right P (Done x w)
  unfolding Right
  done_right P x w h = h

  pub trap_right : {A : Type 0} (P : A → World → Type 0) (k : TrapKind) (w : World) → LiveFits site w.live → Right P (Trapped k w)
  unfolding Right
  trap_right P k w h = h

  -- what an operator or a built-in call answers
  pub answered_right : {A : Type 0} (P : A → World → Type 0) (o : Outcome A) (w : World) → LiveFits site w.live → AnswersWith (λ x. P x w) o → Right P (answered o w)
  unfolding Right
  answered_right P None w live h = absurd h
  answered_right P (Some (Ok x)) w live h = h
  answered_right P (Some (Err k)) w live h = live

  pub answers_map : {A E : Type 0} {P Q : A → Type 0} (o : Option (Result A E)) → AnswersWith P o → ((x : A) → P x → Q x) → AnswersWith Q o
  answers_map None h k = absurd h
  answers_map (Some (Ok x)) h k = k x h
  answers_map (Some (Err e)) h k = tt

  abbrev pub GivesSome : {A : Type 0} → (A → Type 0) → Option A → Type 0
  GivesSome P None = ⊥
  GivesSome P (Some x) = P x

  pub given_right : {A : Type 0} (P : A → World → Type 0) (o : Option A) (w : World) → GivesSome (λ x. P x w) o → Right P (given o w)
  unfolding Right
  given_right P None w h = absurd h
  given_right P (Some x) w h = h

  pub spend_right : {A : Type 0} (P : A → World → Type 0) (w : World) (f : Doing A) → LiveFits site w.live → ((n : ℕ) → Right P (f (record w { fuel = n }))) → Right P (and_then (spend w) (λ _. f))
  unfolding Right and_then
  spend_right P w f live h = go w.fuel
    where
      go : (n : ℕ) → Right P (and_then (spent n w) (λ _. f))
      go zero = live
      go (suc n) = h n

-- ---- under a look-up

-- Under the look-up each source that the frame has holds what it should, or an index on the way is out of range.
abbrev pub Shows : Site → Look → Type 0
Shows site look = (s : Origin) (l : Local) → SourceHas site s l → ((missing : Missing) × (look s ≡ Some (Err missing))) ⊎ ((x : Input) × (look s ≡ Some (Ok x)) × Holds site l x)

found_same : (x y : Input) → ◌≡◌ {A = Found} (Some (Ok x)) (Some (Ok y)) → x ≡ y
found_same x y e = cc

-- a right meaning gives an answer
pub under_right : (site : Site) (look : Look) → (site.is_block ≡ false → Shows site look) → {A : Type 0} (P : A → World → Type 0) (reads : Reads) (m : Asks A) → Right site P m → IsRight (under look reads m)
unfolding Right under
under_right site look shows P reads (Done x w) h = tt
under_right site look shows P reads (Trapped k w) h = tt
under_right site look shows P reads Wrong h = h
under_right site look shows {A = A} P reads (Ask s w g) h = go (look s) refl (shows h.0 s h.1.0 h.1.1) (λ v. under_right site look shows P (noted s v reads) (g v))
  where
    same : (v : Input) → look s ≡ Some (Ok v) → (l : Local) → SourceHas site s l → Holds site l v
    same v e l k = elim (shows h.0 s l k) [ inl m ↦ absurd (cc (m.1, e)) | inr x ↦ subst (λ (y : Input). Holds site l y) (found_same x.0 v (sym x.1 ∙ e)) x.2 ]

    go : (o : Found) → look s ≡ o → ((missing : Missing) × (o ≡ Some (Err missing))) ⊎ ((x : Input) × (o ≡ Some (Ok x)) × Holds site h.1.0 x)
        → ((v : Input) → Right site P (g v) → IsRight (under look (noted s v reads) (g v))) → IsRight (asked o w reads (λ v. under look (noted s v reads) (g v)))
    go None e f more = absurd (elim f [ inl m ↦ cc (m.1) | inr x ↦ cc (x.1) ])
    go (Some (Err missing)) e f more = tt
    go (Some (Ok v)) e f more = more v (h.2 v (same v e))
