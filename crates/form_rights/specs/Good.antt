-- Steps that are right in each world that fits, and leave one that fits.
use Rattle.std.specs.Prelude.{Bool, true, false, List, Option, Some, None}
use Rattle.std.proofs.Common.{sym, subst}
use Rattle.swift_core.specs.Context.{Local}
use Rattle.value_calls.specs.Traps.{Outcome}
use Rattle.core_means.specs.Asks.{World, Doing, ◌>>=◌, give, given, answered, choose}
use Rattle.value_fits.specs.Answers.{AnswersWith}
use Rattle.world_fits.specs.Places.{Still}
use Rattle.world_fits.specs.Right.{Right, then_right, weaker, done_right, answered_right, answers_map, GivesSome}
use Rattle.world_fits.specs.Sites.{Site, Scope, Fits}

module _ (site : Site) (sc : Scope) (locals : List Local) where
  -- It is right wherever the locals fit, gives what has the property, and leaves them so.
  abbrev pub Good : {A : Type 0} → (A → Type 0) → Doing A → Type 0
  Good P m = (w : World) → Fits site sc locals w → Right site (λ x u. P x × Fits site sc locals u) (m w)

  pub good_then : {A B : Type 0} {P : A → Type 0} (Q : B → Type 0) (m : Doing A) (f : A → Doing B) → Good P m → ((x : A) → P x → Good Q (f x)) → Good Q (m >>= f)
  good_then Q m f h k w fit = then_right site _ (m w) f (h w fit) (λ x u e. k x e.0 u e.1)

  pub good_give : {A : Type 0} (P : A → Type 0) (x : A) → P x → Good P (give x)
  good_give P x h w fit = done_right site _ x w (h, fit)

  pub good_answered : {A : Type 0} (P : A → Type 0) (o : Outcome A) → AnswersWith P o → Good P (answered o)
  good_answered P o h w fit = answered_right site _ o w fit.live (answers_map site o h (λ x e. (e, fit)))

  pub good_given : {A : Type 0} (P : A → Type 0) (o : Option A) → GivesSome site P o → Good P (given o)
  good_given P None h w fit = absurd h
  good_given P (Some x) h w fit = done_right site _ x w (h, fit)

  pub good_choose : {A : Type 0} (P : A → Type 0) (b : Bool) (m n : Doing A) → Good P m → Good P n → Good P (choose b m n)
  good_choose P true m n h k = h
  good_choose P false m n h k = k

  pub good_weaker : {A : Type 0} {P Q : A → Type 0} (m : Doing A) → Good P m → ((x : A) → P x → Q x) → Good Q m
  good_weaker m h k w fit = weaker site (m w) (h w fit) (λ x u e. (k x e.0, e.1))

  -- what leaves the world as it is
  pub good_still : {A : Type 0} (P : A → Type 0) (m : Doing A) → ((w : World) → Fits site sc locals w → Right site (Still P w) (m w)) → Good P m
  good_still P m h w fit = weaker site (m w) (h w fit) (λ x u e. (e.0, subst (λ (v : World). Fits site sc locals v) (sym e.1) fit))
