-- The sources that code looks up, and what stands there under a frame and the cells.
use Rattle.std.specs.Prelude.{◌≡◌, ◌-◌, Bool, List, [], length, Option, Some, None, Result, Ok, Err, slice_get}
use Rattle.std.specs.Bool.{Decides}
use Rattle.std.specs.Ordering.{eq_by_cmp}
use Rattle.identity_path.specs.Code.{code_cmp, code_eq_decides}
use Rattle.identity_path.specs.declared.input.Input.{Input}
use Rattle.identity_path.specs.declared.input.Input.TheVariants as input
use Rattle.identity_path.specs.declared.place.Place.{Place}
use Rattle.identity_path.specs.declared.step.Step.{Step}
use Rattle.identity_path.specs.Cells.{CellMap, value_at}
use Rattle.sv_value.specs.declared.hop.Hop.{Hop}
use Rattle.sv_value.specs.declared.hop.Missing.{Missing}
use Rattle.sv_value.specs.declared.value.Value.{Value}
use Rattle.swift_core.specs.declared.ids.PlaceRule.{PlaceRule}
use Rattle.swift_core.specs.declared.ids.PlaceRule.TheVariants.{Own, Shared}
use Rattle.core_means.specs.contracts.origin.Origin as one
use Rattle.core_means.specs.declared.origin.Origin.{Origin}
use Rattle.core_means.specs.declared.origin.Origin.TheVariants as origin
use Rattle.core_means.specs.declared.parts.Frame.{Frame}

-- two sources are the same
unfoldable pub same_origin : Origin → Origin → Bool
same_origin = eq_by_cmp (code_cmp one.the_row.coded)

pub same_origin_decides : (a b : Origin) → Decides (same_origin a b) (a ≡ b)
unfolding same_origin
same_origin_decides = code_eq_decides one.the_row.coded

-- where a state slot of the view at this path is, and a part of it
abbrev pub slot_place : List Step → PlaceRule → List Hop → Place
slot_place path (Own slot) hops = record { path = path; slot = slot; hops = hops }
slot_place path (Shared slot) hops = record { path = []; slot = slot; hops = hops }

-- What a look-up finds: a value or a place, or the index that is out of range. Nothing where there is no such source.
abbrev pub Found : Type 0
Found = Option (Result Input Missing)

abbrev pub found_input : Option Input → Found
found_input None = None
found_input (Some i) = Some (Ok i)

abbrev pub found_value : Option Value → Found
found_value None = None
found_value (Some v) = Some (Ok (input.Value v))

abbrev pub found_part : Option (Result Value Missing) → Found
found_part None = None
found_part (Some (Err missing)) = Some (Err missing)
found_part (Some (Ok v)) = Some (Ok (input.Value v))

abbrev pub seen_part : CellMap → Place → Found
seen_part cells place = found_part (value_at cells place)

-- what stands at a source under a frame and the cells
abbrev pub seen : Frame → CellMap → Origin → Found
seen frame cells (origin.Input i) = found_input (slice_get frame.inputs i)
seen frame cells (origin.Slot rule) = seen_part cells (slot_place frame.path rule [])
seen frame cells (origin.Place place) = seen_part cells place
seen frame cells (origin.Environment key) = found_value (slice_get frame.env key)
seen frame cells (origin.Captured i) = found_input (slice_get frame.locals i)
seen frame cells origin.Preference = found_input (slice_get frame.locals (length frame.locals - 1))
