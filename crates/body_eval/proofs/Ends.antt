-- A body that ends early ends so for its callers.
use Rattle.std.proofs.Common.{Err, ap}
use Rattle.value_calls.specs.declared.traps.Stop.{Stop}
use Rattle.value_calls.specs.declared.traps.Stop.TheVariants.{Trap, OutOfMemory}
use Rattle.value_calls.specs.Traps.{Answers}
use Rattle.core_means.specs.Asks.{World, Reads, Answer, Leaves}
use Rattle.body_means.specs.Bodies.{outcome_of}

pub answers_stop : {A : Type 0} (e : Stop) (w : World) (reads : Reads) (a : Answer A) → Leaves (Err e) w reads a → Answers (Err e) (outcome_of a)
answers_stop (Trap k) w reads a h = ap outcome_of h
answers_stop OutOfMemory w reads a h = tt
