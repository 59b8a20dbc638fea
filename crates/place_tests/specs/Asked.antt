-- What is asked of a place, as it is lent.
use Rattle.std.specs.Prelude.{Option, Some, None}
use Rattle.place_tests.specs.Demands.{Demand}
use Rattle.place_tests.specs.declared.asks.Asked.{Asked}

abbrev pub demand_of : Asked → Demand
demand_of a = record { place = record { path = a.path.now; slot = a.slot; hops = a.hops.now }; ty = a.ty.now }

abbrev pub asked : Option Asked → Option Demand
asked None = None
asked (Some a) = Some (demand_of a)
