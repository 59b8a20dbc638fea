-- Cells of no path.
use Rattle.std.proofs.Common.{List, Option, None, IsSome, subst}
use Rattle.std.specs.Prelude.{option_and_then, slice_get}
use Rattle.std.specs.FinMap as fin
use Rattle.std.specs.FinMap.{get-empty}
use Rattle.sv_value.specs.declared.value.Value.{Value}
use Rattle.sv_value.specs.Hops.{part_at}
use Rattle.identity_path.specs.declared.place.Place.{Place}
use Rattle.identity_path.specs.Cells.{value_at}
use Rattle.identity_path.specs.Order.{path_cmp}

-- no path is held, so no place is
pub no_value : (place : Place) → IsSome (value_at fin.empty place) → ⊥
no_value place h =
    let k : IsSome (option_and_then (part_at place.hops) (option_and_then (λ slots. slice_get slots place.slot) None)) =
    subst (λ (o : Option (List Value)). IsSome (option_and_then (part_at place.hops) (option_and_then (λ slots. slice_get slots place.slot) o))) (get-empty path_cmp place.path) h in
    cc
