-- Where code looks things up, and the places that it reads and writes.
use Rattle.std.specs.Prelude.{ℕ, List, ◌++◌, Option, Some, None, Result, Ok, Err, slice_get, slice_set}
use Rattle.identity_path.specs.declared.input.Input.{Input}
use Rattle.identity_path.specs.declared.input.Input.TheVariants as input
use Rattle.identity_path.specs.declared.place.Place.{Place}
use Rattle.identity_path.specs.declared.place.WriteStop.{WriteStop}
use Rattle.identity_path.specs.declared.place.WriteStop.TheVariants as stop
use Rattle.identity_path.specs.Cells.{value_at, written, write_answer}
use Rattle.sv_value.specs.declared.hop.Hop.{Hop}
use Rattle.sv_value.specs.declared.hop.Missing.{Missing}
use Rattle.sv_value.specs.declared.value.Value.{Value, out-Value}
use Rattle.sv_value.specs.declared.value.Value.TheOpen as one
use Rattle.sv_value.specs.declared.value.Value.TheOpen.{Value-F}
use Rattle.sv_value.specs.Hops.{part_at, with_part}
use Rattle.swift_core.specs.declared.term.Lookup.{Lookup}
use Rattle.swift_core.specs.declared.term.Lookup.TheVariants as lookup
use Rattle.swift_core.specs.declared.term.Root.{Root}
use Rattle.swift_core.specs.declared.term.Root.TheVariants as root
use Rattle.value_calls.specs.declared.traps.TrapKind.TheVariants.{Index, Weight}
use Rattle.value_calls.specs.Made.{made}
use Rattle.value_calls.specs.Traps.{Outcome}
use Rattle.core_means.specs.declared.origin.Origin.{Origin}
use Rattle.core_means.specs.declared.origin.Origin.TheVariants as origin
use Rattle.core_means.specs.declared.parts.Local.{Local}
use Rattle.core_means.specs.declared.parts.Local.TheVariants as local
use Rattle.core_means.specs.declared.parts.Spot.{Spot}
use Rattle.core_means.specs.declared.parts.Spot.TheVariants as spot
use Rattle.core_means.specs.Asks.{Live, Done, Ask, Doing, and_then, ◌>>=◌, give, trap, wrong, given, answered}
use Rattle.core_means.specs.Sources.{Found, seen, slot_place}

-- ---- one look-up

abbrev pub shown : Found → Doing Input
shown None = wrong
shown (Some (Err missing)) = trap Index
shown (Some (Ok v)) = give v

abbrev pub looked : Origin → Option Live → Doing Input
looked s None = λ w. Ask s w (λ v. Done v w)
looked s (Some live) = shown (seen live.frame live.cells s)

-- What stands at a source. An action block sees it, which is no read; a body asks.
unfoldable pub value_of : Origin → Doing Input
value_of s = λ w. looked s w.live w

abbrev pub plain : Input → Doing Value
plain (input.Value v) = give v
plain (input.Place p) = wrong

-- the value at the place that is there
abbrev pub through : Input → Doing Value
through (input.Value v) = wrong
through (input.Place p) = λ w. and_then (value_of (origin.Place p) w) plain

abbrev pub local_from : Option Local → Doing Input
local_from None = wrong
local_from (Some (local.Holds v)) = give v
local_from (Some (local.Captured i)) = value_of (origin.Captured i)
local_from (Some local.Preference) = value_of origin.Preference
local_from (Some local.Absent) = wrong

unfoldable pub local_at : ℕ → Doing Input
local_at i = λ w. local_from (slice_get w.locals i) w

-- the value at a source, and through the place at one
unfoldable pub plain_of : Origin → Doing Value
plain_of s = value_of s >>= plain

unfoldable pub through_of : Origin → Doing Value
through_of s = value_of s >>= through

unfoldable pub plain_local : ℕ → Doing Value
plain_local i = local_at i >>= plain

unfoldable pub through_local : ℕ → Doing Value
through_local i = local_at i >>= through

abbrev pub field_at : ℕ → Value-F Value → Option Value
field_at i (one.Struct kind fields) = slice_get fields i
field_at i v = None

-- the field of a struct at a place
unfoldable pub field : ℕ → Value → Option Value
field i v = field_at i (out-Value v)

abbrev pub field_in : ℕ → Option Value → Option Value
field_in i None = None
field_in i (Some v) = field i v

abbrev pub look_up_at : Lookup → Doing Value
look_up_at (lookup.Local i) = plain_local i
look_up_at (lookup.BoundLocal i) = through_local i
look_up_at (lookup.Input i) = plain_of (origin.Input i)
look_up_at (lookup.BoundInput i) = through_of (origin.Input i)
look_up_at (lookup.Slot rule) = plain_of (origin.Slot rule)
look_up_at (lookup.Environment key) = plain_of (origin.Environment key)
look_up_at lookup.Itself = λ w. given w.itself w
look_up_at (lookup.OwnField i) = λ w. given (field_in i w.itself) w

-- what a name stands for
unfoldable pub look_up : Lookup → Doing Value
look_up l = look_up_at l

-- ---- places that are read and written

abbrev pub reached_from : List Hop → Input → Outcome Spot
reached_from hops (input.Value v) = None
reached_from hops (input.Place p) = Some (Ok (spot.Cell (record p { hops = p.hops ++ hops })))

-- further hops from a place
abbrev pub reached : List Hop → Input → Doing Spot
reached hops v = answered (reached_from hops v)

abbrev pub spot_from : Root → List Hop → Doing Spot
spot_from (root.Local i) hops = give (spot.Local i hops)
spot_from (root.BoundLocal i) hops = local_at i >>= reached hops
spot_from (root.BoundInput i) hops = value_of (origin.Input i) >>= reached hops
spot_from (root.Slot rule) hops = λ w. Done (spot.Cell (slot_place w.home rule hops)) w
spot_from root.Itself hops = give (spot.Itself hops)

-- where a root and hops lead
unfoldable pub spot_of : Root → List Hop → Doing Spot
spot_of r hops = spot_from r hops

abbrev pub held_value : Option Local → Option Value
held_value (Some (local.Holds (input.Value v))) = Some v
held_value l = None

-- the part of a value, or the trap at the first index that is out of range
abbrev pub part : Option (Result Value Missing) → Outcome Value
part None = None
part (Some (Err missing)) = Some (Err Index)
part (Some (Ok v)) = Some (Ok v)

abbrev pub part_in : List Hop → Option Value → Outcome Value
part_in hops None = None
part_in hops (Some v) = part (part_at hops v)

abbrev pub read_at : Spot → Doing Value
read_at (spot.Local i hops) = λ w. answered (part_in hops (held_value (slice_get w.locals i))) w
read_at (spot.Itself hops) = λ w. answered (part_in hops w.itself) w
read_at (spot.Cell place) = plain_of (origin.Place place)

unfoldable pub read_spot : Spot → Doing Value
read_spot s = read_at s

-- The whole value with a new part. Its weight is that of the whole.
abbrev pub renewed_from : List Hop → Value → Value → Outcome Value → Outcome Value
renewed_from hops new v None = None
renewed_from hops new v (Some (Err k)) = Some (Err k)
renewed_from hops new v (Some (Ok old)) = made (with_part hops new v)

abbrev pub renewed : List Hop → Value → Option Value → Outcome Value
renewed hops new None = None
renewed hops new (Some v) = renewed_from hops new v (part (part_at hops v))

abbrev pub set_local : ℕ → Value → Doing (Unit {0})
set_local i v = λ w. Done tt (record w { locals = slice_set w.locals i (local.Holds (input.Value v)) })

abbrev pub set_itself : Value → Doing (Unit {0})
set_itself v = λ w. Done tt (record w { itself = Some v })

-- after a write of a cell: the trap, or the cells with the new value
abbrev pub stored : Place → Value → Live → Option (Result Value Missing) → Result (Unit {0}) WriteStop → Doing (Unit {0})
stored place v live None answer = wrong
stored place v live (Some old) (Err (stop.Missing index)) = trap Index
stored place v live (Some old) (Err (stop.Heavy total)) = trap Weight
stored place v live (Some old) (Ok u) = λ w. Done tt (record w { live = Some (record live { cells = written live.cells place v }) })

-- Only an action block writes cells.
abbrev pub put_in : Place → Value → Option Live → Doing (Unit {0})
put_in place v None = wrong
put_in place v (Some live) = stored place v live (value_at live.cells place) (write_answer live.cells place v)

unfoldable pub put : Place → Value → Doing (Unit {0})
put place v = λ w. put_in place v w.live w

unfoldable pub write_local : ℕ → List Hop → Value → Doing (Unit {0})
write_local i hops v = λ w. and_then (answered (renewed hops v (held_value (slice_get w.locals i))) w) (set_local i)

unfoldable pub write_self : List Hop → Value → Doing (Unit {0})
write_self hops v = λ w. and_then (answered (renewed hops v w.itself) w) set_itself

abbrev pub write_at : Spot → Value → Doing (Unit {0})
write_at (spot.Local i hops) v = write_local i hops v
write_at (spot.Itself hops) v = write_self hops v
write_at (spot.Cell place) v = put place v

unfoldable pub write_spot : Spot → Value → Doing (Unit {0})
write_spot s v = write_at s v
