-- One step after another, seen from its first step and from what is left.
use Rattle.std.proofs.Common.{◌≡◌, Result, Ok, Err, ap, sym, subst, ◌∙◌, refl}
use Rattle.std.specs.Result.{IsErrAnd}
use Rattle.value_calls.specs.declared.traps.Stop.{Stop}
use Rattle.value_calls.specs.declared.traps.Stop.TheVariants.{Trap, OutOfMemory}
use Rattle.core_means.specs.Asks.{World, Asks, Doing, and_then, Look, Reads, Answer, Gave, Stopped, Bad, IsRight, Leaves, under, after}
use Rattle.core_means.specs.Trees.{under_then}
use Rattle.eval_terms.proofs.Steps.{goes_on}

right_after : {A B : Type 0} (a : Answer A) (f : A → World → Reads → Answer B) → IsRight (after a f) → IsRight a
right_after (Gave x w reads) f h = tt
right_after (Stopped k w reads) f h = tt
right_after Bad f h = h

-- where the whole is not wrong, its first step is not
pub right_first : {A B : Type 0} (look : Look) (reads : Reads) (m : Asks A) (f : A → Doing B) → IsRight (under look reads (and_then m f)) → IsRight (under look reads m)
right_first look reads m f h = right_after (under look reads m) (λ x w r. under look r (f x w)) (subst IsRight (under_then look reads m f) h)

-- nor is what is left, once the first step is done
pub right_rest : {A B : Type 0} (look : Look) (reads reads' : Reads) (m : Asks A) (f : A → Doing B) (x : A) (w : World)
    → under look reads m ≡ Gave x w reads' → IsRight (under look reads (and_then m f)) → IsRight (under look reads' (f x w))
right_rest look reads reads' m f x w h right = subst IsRight (sym (goes_on look reads reads' m f x w (under look reads (and_then m f)) h refl)) right

-- what the rest leaves, the whole leaves
pub leaves_rest : {A B : Type 0} (look : Look) (reads reads' reads'' : Reads) (m : Asks A) (f : A → Doing B) (x : A) (w w' : World) (r : Result B Stop)
    → under look reads m ≡ Gave x w reads' → Leaves r w' reads'' (under look reads' (f x w)) → Leaves r w' reads'' (under look reads (and_then m f))
leaves_rest {B = B} look reads reads' reads'' m f x w w' r h left =
    subst (λ (a : Answer B). Leaves r w' reads'' a) (goes_on look reads reads' m f x w (under look reads (and_then m f)) h refl) left

-- a first step that stops ends the whole
pub leaves_first : {A B : Type 0} (look : Look) (reads reads' : Reads) (m : Asks A) (f : A → Doing B) (w : World) (stop : Stop)
    → Leaves {A = A} (Err stop) w reads' (under look reads m) → Leaves {A = B} (Err stop) w reads' (under look reads (and_then m f))
leaves_first look reads reads' m f w (Trap k) h = under_then look reads m f ∙ ap (λ a. after a (λ x u r. under look r (f x u))) h
leaves_first look reads reads' m f w OutOfMemory h = tt

-- the same, where what is handed on is that stop
pub leaves_stop : {A B : Type 0} (look : Look) (reads reads' : Reads) (m : Asks A) (f : A → Doing B) (w : World) (stop : Stop) (r : Result B Stop)
    → IsErrAnd r (λ s. s ≡ stop) → Leaves {A = A} (Err stop) w reads' (under look reads m) → Leaves r w reads' (under look reads (and_then m f))
leaves_stop look reads reads' m f w stop (Ok x) is h = absurd is
leaves_stop look reads reads' m f w stop (Err s) is h =
    subst (λ (q : Stop). Leaves (Err q) w reads' (under look reads (and_then m f))) (sym is) (leaves_first look reads reads' m f w stop h)
