-- A step that stops ends what comes after it, and one that comes before a right answer has a right answer.
use Rattle.std.proofs.Common.{◌≡◌, Result, Ok, Err, ap, sym, subst}
use Rattle.std.specs.Result.{IsErrAnd}
use Rattle.value_calls.specs.declared.traps.Stop.{Stop}
use Rattle.value_calls.specs.declared.traps.Stop.TheVariants.{Trap, OutOfMemory}
use Rattle.core_means.specs.Asks.{World, Reads, Answer, Gave, Stopped, Bad, IsRight, Leaves, after}

pub before_right : {A B : Type 0} (a : Answer A) (f : A → World → Reads → Answer B) → IsRight (after a f) → IsRight a
before_right (Gave x w reads) f h = tt
before_right (Stopped k w reads) f h = tt
before_right Bad f h = h

pub after_stop : {A B : Type 0} (stop : Stop) (r : Result B Stop) (a : Answer A) (f : A → World → Reads → Answer B) (w : World) (reads : Reads)
    → IsErrAnd r (λ s. s ≡ stop) → Leaves {A = A} (Err stop) w reads a → Leaves r w reads (after a f)
after_stop stop (Ok x) a f w reads is h = absurd is
after_stop {A = A} stop (Err s) a f w reads is h = subst (λ (q : Stop). Leaves (Err q) w reads (after a f)) (sym is) (go stop h)
  where
    go : (q : Stop) → Leaves {A = A} (Err q) w reads a → Leaves (Err q) w reads (after a f)
    go (Trap k) e = ap (λ b. after b f) e
    go OutOfMemory e = tt
