-- What is known where an answer is not wrong.
use Rattle.std.proofs.Common.{Option, Some, None, IsSome, refl}
use Rattle.core_means.specs.Asks.{World, Doing, and_then, Look, Reads, IsRight, under, given}

pub right_given_then : {A B : Type 0} (o : Option A) (f : A → Doing B) (look : Look) (reads : Reads) (w : World) → IsRight (under look reads (and_then (given o w) f)) → IsSome o
unfolding under and_then
right_given_then None f look reads w h = absurd h
right_given_then (Some x) f look reads w h = refl
