-- An expression in one more promotion, and one in none.
use Rattle.std.specs.Prelude.{◌≡◌, ◌≢◌, ℕ, suc, ◌-◌, Result, Ok, Err}
use Rattle.std.proofs.Common.{ap, sym, subst, ◌∙◌, arith, refl}
use Rattle.std.specs.Result.{IsErrAnd}
use Rattle.sv_value.specs.declared.value.Value.{Value}
use Rattle.swift_core.specs.declared.term.Change.{Change}
use Rattle.swift_core.specs.declared.term.ChangeCall.{ChangeCall}
use Rattle.swift_core.specs.declared.term.ChangeCall.TheOpen.{Core-F}
use Rattle.swift_core.specs.declared.term.ChangeCall.TheViews.{sized-Promote, outs-Promote}
use Rattle.swift_core.specs.declared.term.Core.{Core, out-Core, roll-Core, roll-out-Core, size-Core, size_is-Core}
use Rattle.swift_core.specs.declared.term.Core.TheVariants as core
use Rattle.swift_core.specs.declared.term.CoreHop.{CoreHop}
use Rattle.swift_core.specs.declared.term.Filling.{Filling}
use Rattle.swift_core.specs.declared.term.Invocation.{Invocation}
use Rattle.swift_core.specs.declared.term.Piece.{Piece}
use Rattle.swift_core.specs.declared.term.Receiver.{Receiver}
use Rattle.swift_core.specs.declared.term.Target.{Target}
use Rattle.value_calls.specs.Calls.{promoted}
use Rattle.value_calls.specs.declared.traps.Stop.{Stop}
use Rattle.value_calls.specs.declared.traps.Stop.TheVariants.{Trap, OutOfMemory}
use Rattle.value_calls.specs.Traps.{Outcome, Answers}
use Rattle.core_means.specs.Asks.{World, and_then, answered, Look, Reads, Answer, Gave, Leaves, under, after}
use Rattle.core_means.specs.Trees.{under_then}
use Rattle.eval_forms.proofs.Stops.{after_stop}
use Rattle.core_means.specs.Means.{Inside, value_form, eval_form, promoted_to, promoting}

pub size_promote : (x : Core) → size-Core (core.Promote x) ≡ suc (size-Core x)
size_promote x = let e = sized-Promote x in omega arith

-- an outcome is left as it is
leaves_outcome : {A : Type 0} (r : Result A Stop) (o : Outcome A) (look : Look) (reads : Reads) (w : World) → Answers r o → Leaves r w reads (under look reads (answered o w))
unfolding under
leaves_outcome (Ok x) o look reads w e = ap (λ p. under look reads (answered p w)) e
leaves_outcome (Err (Trap k)) o look reads w e = ap (λ p. under look reads (answered p w)) e
leaves_outcome (Err OutOfMemory) o look reads w e = tt

module _ (i : Inside) where
  pub of_promotion : (x : Core) (w : World) → value_form i (core.Promote x) w ≡ and_then (value_form i x w) (λ v. answered (promoted v))
  unfolding value_form promoted_to
  of_promotion x w = ap (λ n. promoted_to i n (core.Promote x) w) (size_promote x) ∙ ap (λ l. promoting i (promoted_to i (size-Core x)) (core.Promote x) l w) (outs-Promote x)

  opens : (look : Look) (reads : Reads) (e x : Core) (w : World) → e ≡ core.Promote x
      → under look reads (value_form i e w) ≡ after (under look reads (value_form i x w)) (λ v u r. under look r (answered (promoted v) u))
  opens look reads e x w is =
      ap (λ y. under look reads (value_form i y w)) is ∙ ap (under look reads) (of_promotion x w) ∙ under_then look reads (value_form i x w) (λ v. answered (promoted v))

  -- what the form in a promotion leaves, and then the promotion
  pub promotion_stops : (look : Look) (reads reads' : Reads) (e x : Core) (w w' : World) (stop : Stop) (r : Result Value Stop) → e ≡ core.Promote x
      → IsErrAnd r (λ s. s ≡ stop) → Leaves {A = Value} (Err stop) w' reads' (under look reads (value_form i x w)) → Leaves r w' reads' (under look reads (value_form i e w))
  promotion_stops look reads reads' e x w w' stop r is err h =
      subst (λ (a : Answer Value). Leaves r w' reads' a) (sym (opens look reads e x w is))
      (after_stop stop r (under look reads (value_form i x w)) (λ v u z. under look z (answered (promoted v) u)) w' reads' err h)

  pub promotion_leaves : (look : Look) (reads reads' : Reads) (e x : Core) (w w' : World) (v : Value) (r : Result Value Stop) → e ≡ core.Promote x
      → under look reads (value_form i x w) ≡ Gave v w' reads' → Answers r (promoted v) → Leaves r w' reads' (under look reads (value_form i e w))
  promotion_leaves look reads reads' e x w w' v r is h k =
      subst (λ (a : Answer Value). Leaves r w' reads' a) (sym (opens look reads e x w is ∙ ap (λ a. after a (λ u z s. under look s (answered (promoted u) z))) h))
      (leaves_outcome r (promoted v) look reads' w' k)

  other_from : (n : ℕ) (e : Core) (w : World) → ((x : Core) → e ≢ core.Promote x) → (m : ℕ) → n ≡ suc m → promoted_to i n e w ≡ eval_form i e w
  unfolding promoted_to
  other_from n e w none m k = ap (λ o. promoted_to i o e w) k ∙ go (out-Core e) refl
    where
      go : (l : Core-F ChangeCall Core CoreHop Filling Piece Receiver Change Invocation Target) → out-Core e ≡ l → promoting i (promoted_to i m) e l w ≡ eval_form i e w
      go (Core-F.Promote x) h = absurd (none x (sym (roll-out-Core e) ∙ ap roll-Core h ∙ core.rolls-Promote x))
      go l h = refl

  pub of_others : (e : Core) (w : World) → ((x : Core) → e ≢ core.Promote x) → value_form i e w ≡ eval_form i e w
  unfolding value_form
  of_others e w none = other_from (size-Core e) e w none (size-Core e - 1) (let k = size_is-Core e in omega arith)
