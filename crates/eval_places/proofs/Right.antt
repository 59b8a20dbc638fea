-- What is known where an answer is not wrong.
use Rattle.std.proofs.Common.{◌≡◌, ℕ, ◌<◌, List, length, slice_get, Option, Some, None, Result, Ok, Err, IsSome, refl}
use Rattle.std.proofs.lemmas.Option.{slice_get_within}
use Rattle.identity_path.specs.declared.input.Input.{Input}
use Rattle.identity_path.specs.declared.place.Place.{Place}
use Rattle.identity_path.specs.declared.place.WriteStop.{WriteStop}
use Rattle.sv_value.specs.declared.hop.Hop.{Hop}
use Rattle.sv_value.specs.declared.hop.Missing.{Missing}
use Rattle.sv_value.specs.declared.value.Value.{Value}
use Rattle.core_means.specs.declared.parts.Local.{Local}
use Rattle.value_calls.specs.Traps.{Outcome}
use Rattle.core_means.specs.Asks.{World, Live, Asks, and_then, Doing, Done, Look, Reads, Answer, IsRight, under, asked, answered, given, found}
use Rattle.core_means.specs.Places.{shown, stored, renewed, held_value}
use Rattle.core_means.specs.Sources.{Found}

pub right_shown : (o : Found) (look : Look) (reads : Reads) (w : World) → IsRight (under look reads (shown o w)) → IsSome o
unfolding under
right_shown None look reads w h = absurd h
right_shown (Some r) look reads w h = refl

pub right_asked : {A : Type 0} (o : Found) (w : World) (reads : Reads) (f : Input → Answer A) → IsRight (asked o w reads f) → IsSome o
right_asked None w reads f h = absurd h
right_asked (Some r) w reads f h = refl

pub right_given : {A : Type 0} (o : Option A) (look : Look) (reads : Reads) (w : World) → IsRight (under look reads (given o w)) → IsSome o
unfolding under
right_given None look reads w h = absurd h
right_given (Some r) look reads w h = refl

pub right_answered : {A : Type 0} (o : Outcome A) (look : Look) (reads : Reads) (w : World) → IsRight (under look reads (answered o w)) → IsSome o
unfolding under
right_answered None look reads w h = absurd h
right_answered (Some r) look reads w h = refl

pub right_found : {A B : Type 0} (o : Option A) (f : A → Doing B) (look : Look) (reads : Reads) (w : World) → IsRight (under look reads (found o f w)) → IsSome o
unfolding under
right_found None f look reads w h = absurd h
right_found (Some r) f look reads w h = refl

pub right_answered_then : {A B : Type 0} (o : Outcome A) (f : A → Doing B) (look : Look) (reads : Reads) (w : World) → IsRight (under look reads (and_then (answered o w) f)) → IsSome o
unfolding under and_then
right_answered_then None f look reads w h = absurd h
right_answered_then (Some r) f look reads w h = refl

pub right_stored : (place : Place) (v : Value) (live : Live) (o : Option (Result Value Missing)) (answer : Result (Unit {0}) WriteStop) (look : Look) (reads : Reads) (w : World)
    → IsRight (under look reads (stored place v live o answer w)) → IsSome o
unfolding under
right_stored place v live None answer look reads w h = absurd h
right_stored place v live (Some r) answer look reads w h = refl

-- a local whose part is renewed is there
pub holds_local : (locals : List Local) (i : ℕ) (hops : List Hop) (new : Value) (r : Value) → renewed hops new (held_value (slice_get locals i)) ≡ Some (Ok r) → i < length locals
holds_local locals i hops new r e = go (slice_get locals i) refl e
  where
    go : (o : Option Local) → slice_get locals i ≡ o → renewed hops new (held_value o) ≡ Some (Ok r) → i < length locals
    go None k e = absurd (cc e)
    go (Some l) k e = slice_get_within locals i l k
