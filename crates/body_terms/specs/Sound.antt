-- A meaning is right where what a preference reader captured is known.
use Rattle.std.specs.Prelude.{◌≡◌, ℕ, zero, suc, Option, Some, None, Ok, Err, List, ⊤}
use Rattle.std.proofs.Common.{refl, sym, subst, ◌∙◌, inl, inr}
use Rattle.identity_path.specs.declared.input.Input.{Input}
use Rattle.swift_core.specs.Context.{Local}
use Rattle.value_calls.specs.declared.traps.TrapKind.{TrapKind}
use Rattle.core_means.specs.declared.origin.Origin.{Origin}
use Rattle.core_means.specs.Sources.{Found}
use Rattle.core_means.specs.Asks.{World, Asks, Done, Trapped, Wrong, Ask, Doing, and_then, spend, spent, given, Look, Reads, Answer, Gave, Stopped, Bad, asked, under, noted, IsRight}
use Rattle.world_fits.specs.Right.{Right, Shows, GivesSome}
use Rattle.world_fits.specs.Sites.{Site, Holds, SourceHas}
use Rattle.reader_locals.specs.Filled.{fill, known_at, Settled, Agree}

found_same : (x y : Input) → ◌≡◌ {A = Found} (Some (Ok x)) (Some (Ok y)) → x ≡ y
found_same x y e = cc

module _ (site : Site) (inputs : List Input) where
  -- It goes on so with what is known of the source. Of another one the frame has something, and it goes on so with whatever that is.
  abbrev pub Answering : Origin → Option Input → (Input → Type 0) → Type 0
  Answering s (Some v) P = P v
  Answering s None P = ((l : Local) × SourceHas site s l) × ((v : Input) → ((l : Local) → SourceHas site s l → Holds site l v) → P v)

  -- What is done at the end has the property, and only sources that the frame has are asked.
  unfoldable pub Sound : {A : Type 0} → (A → World → Type 0) → Asks A → Type 0
  Sound P (Done x w) = P x w
  Sound P (Trapped k w) = ⊤
  Sound P Wrong = ⊥
  Sound P (Ask s w g) = Answering s (known_at inputs s) (λ v. Sound P (g v))

  answering_map : {P Q : Input → Type 0} (s : Origin) (o : Option Input) → Answering s o P → ((v : Input) → P v → Q v) → Answering s o Q
  answering_map s None h k = (h.0, λ v e. k v (h.1 v e))
  answering_map s (Some v) h k = k v h

  -- one step after another
  pub then_sound : {A B : Type 0} {P : A → World → Type 0} (Q : B → World → Type 0) (m : Asks A) (f : A → Doing B)
      → Sound P m → ((x : A) (w : World) → P x w → Sound Q (f x w)) → Sound Q (and_then m f)
  unfolding Sound and_then
  then_sound Q (Done x w) f h k = k x w h
  then_sound Q (Trapped t w) f h k = tt
  then_sound Q Wrong f h k = absurd h
  then_sound Q (Ask s w g) f h k = answering_map s (known_at inputs s) h (λ v e. then_sound Q (g v) f e k)

  pub sound_weaker : {A : Type 0} {P Q : A → World → Type 0} (m : Asks A) → Sound P m → ((x : A) (w : World) → P x w → Q x w) → Sound Q m
  unfolding Sound
  sound_weaker (Done x w) h k = k x w h
  sound_weaker (Trapped t w) h k = tt
  sound_weaker Wrong h k = absurd h
  sound_weaker (Ask s w g) h k = answering_map s (known_at inputs s) h (λ v e. sound_weaker (g v) e k)

  pub done_sound : {A : Type 0} (P : A → World → Type 0) (x : A) (w : World) → P x w → Sound P (Done x w)
  unfolding Sound
  done_sound P x w h = h

  pub trap_sound : {A : Type 0} (P : A → World → Type 0) (k : TrapKind) (w : World) → Sound P (Trapped k w)
  unfolding Sound
  trap_sound P k w = tt

  pub given_sound : {A : Type 0} (P : A → World → Type 0) (o : Option A) (w : World) → GivesSome site (λ x. P x w) o → Sound P (given o w)
  unfolding Sound
  given_sound P None w h = absurd h
  given_sound P (Some x) w h = h

  pub spend_sound : {A : Type 0} (P : A → World → Type 0) (w : World) (f : Doing A) → ((n : ℕ) → Sound P (f (record w { fuel = n }))) → Sound P (and_then (spend w) (λ _. f))
  unfolding Sound and_then
  spend_sound P w f h = go w.fuel
    where
      go : (n : ℕ) → Sound P (and_then (spent n w) (λ _. f))
      go zero = tt
      go (suc n) = h n

  -- a known source
  pub known_sound : {A : Type 0} (P : A → World → Type 0) (s : Origin) (w : World) (g : Input → Asks A) (v : Input) → known_at inputs s ≡ Some v → Sound P (g v) → Sound P (Ask s w g)
  unfolding Sound
  known_sound P s w g v e h = subst (λ (o : Option Input). Answering s o (λ x. Sound P (g x))) (sym e) h

  -- ---- from a run that has what is captured

  unknown : (s : Origin) (l : Local) → SourceHas site s l → known_at inputs s ≡ None
  unknown s l (SourceHas.stored view stands form) = refl
  unknown s l (SourceHas.bound view stands form) = refl
  unknown s l (SourceHas.slot view stands form) = refl
  unknown s l (SourceHas.place h) = refl
  unknown s l (SourceHas.key view at typed) = refl

  pub sound_of : {A : Type 0} (P : A → World → Type 0) (limit : ℕ) (m n : Asks A) → Agree inputs limit A (λ x. ⊤) m n → Right site P n → Sound (λ x u. P x (fill inputs u) × Settled inputs limit u) m
  unfolding Right Sound
  sound_of P limit m n (Agree.ends p settled) h = (h, settled)
  sound_of P limit m n Agree.traps h = tt
  sound_of P limit m n Agree.fails h = absurd h
  sound_of P limit m n (Agree.asks {s = s} {g = g} {h = k} below) h =
      subst (λ (o : Option Input). Answering s o (λ v. Sound (λ x u. P x (fill inputs u) × Settled inputs limit u) (g v))) (sym (unknown s h.1.0 h.1.1))
      (h.1, λ v e. sound_of P limit (g v) (k v) (below v) (h.2 v e))
  sound_of P limit m n (Agree.knows {s = s} {g = g} v e below) h =
      subst (λ (o : Option Input). Answering s o (λ v. Sound (λ x u. P x (fill inputs u) × Settled inputs limit u) (g v))) (sym e) (sound_of P limit (g v) n below h)

-- ---- under a look-up

-- it is no wrong answer, and what it gives has the property
abbrev pub AnswerHas : {A : Type 0} → (A → World → Type 0) → Answer A → Type 0
AnswerHas P (Gave x w reads) = P x w
AnswerHas P (Stopped k w reads) = ⊤
AnswerHas P Bad = ⊥

pub answer_right : {A : Type 0} (P : A → World → Type 0) (a : Answer A) → AnswerHas P a → IsRight a
answer_right P (Gave x w reads) h = tt
answer_right P (Stopped k w reads) h = tt
answer_right P Bad h = h

-- The look-up finds what is known, and what the frame has.
pub sound_under : (site : Site) (inputs : List Input) (look : Look) → Shows site look → ((s : Origin) (v : Input) → known_at inputs s ≡ Some v → look s ≡ Some (Ok v))
    → {A : Type 0} (P : A → World → Type 0) (reads : Reads) (m : Asks A) → Sound site inputs P m → AnswerHas P (under look reads m)
unfolding Sound under
sound_under site inputs look shows knows P reads (Done x w) h = h
sound_under site inputs look shows knows P reads (Trapped k w) h = tt
sound_under site inputs look shows knows P reads Wrong h = h
sound_under site inputs look shows knows {A = A} P reads (Ask s w g) h = go (known_at inputs s) refl h (λ v. sound_under site inputs look shows knows P (noted s v reads) (g v))
  where
    there : (l : Local) → SourceHas site s l → (v : Input) → look s ≡ Some (Ok v) → Holds site l v
    there l k v e = elim (shows s l k) [ inl m ↦ absurd (cc (m.1, e)) | inr x ↦ subst (λ (y : Input). Holds site l y) (found_same x.0 v (sym x.1 ∙ e)) x.2 ]

    unknown_source : (o : Found) → look s ≡ o → (l : Local) → SourceHas site s l → ((v : Input) → ((l : Local) → SourceHas site s l → Holds site l v) → Sound site inputs P (g v))
        → ((v : Input) → Sound site inputs P (g v) → AnswerHas P (under look (noted s v reads) (g v))) → AnswerHas P (asked o w reads (λ v. under look (noted s v reads) (g v)))
    unknown_source None e l k next more = absurd (elim (shows s l k) [ inl m ↦ cc (m.1, e) | inr x ↦ cc (x.1, e) ])
    unknown_source (Some (Err missing)) e l k next more = tt
    unknown_source (Some (Ok v)) e l k next more = more v (next v (λ l h. there l h v e))

    go : (o : Option Input) → known_at inputs s ≡ o → Answering site inputs s o (λ v. Sound site inputs P (g v))
        → ((v : Input) → Sound site inputs P (g v) → AnswerHas P (under look (noted s v reads) (g v))) → AnswerHas P (asked (look s) w reads (λ v. under look (noted s v reads) (g v)))
    go None e h more = unknown_source (look s) refl h.0.0 h.0.1 h.1 more
    go (Some v) e h more = subst (λ (o : Found). AnswerHas P (asked o w reads (λ v. under look (noted s v reads) (g v)))) (sym (knows s v e)) (more v h)
