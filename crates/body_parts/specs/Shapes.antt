-- What the code has as structs, as the records of the definitions.
use Rattle.std.specs.Prelude.{Result, Ok, Err}
use Rattle.value_calls.specs.declared.traps.Stop.{Stop}
use Rattle.body_means.specs.Building.{bound_with}
use Rattle.body_means.specs.Building as building
use Rattle.body_means.specs.Each as goes
use Rattle.body_parts.specs.declared.binding.Bound.{Bound}
use Rattle.body_parts.specs.declared.each.Item.{Item}

-- a place and the value there, or the trap
abbrev pub as_bound : Result Bound Stop → Result building.Bound Stop
as_bound (Ok x) = Ok (bound_with x.place x.value)
as_bound (Err stop) = Err stop

-- an item's id and its node
abbrev pub item_of : Item → goes.Item
item_of x = record { id = x.id; made = x.made }

-- these, or the trap
abbrev pub as_item : Result Item Stop → Result goes.Item Stop
as_item (Ok x) = Ok (item_of x)
as_item (Err stop) = Err stop
