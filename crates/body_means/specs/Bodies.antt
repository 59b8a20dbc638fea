-- What the body of a unit means: the questions that it asks, and the description, the reads or the trap that it gives under a frame
-- and cells.
use Rattle.std.specs.Prelude.{ℕ, zero, suc, ◌+◌, List, [], ◌∷◌, ◌++◌, Option, Some, None, Ok, Err, slice_set}
use Rattle.identity_path.specs.declared.step.Step.{Step}
use Rattle.identity_path.specs.Cells.{CellMap}
use Rattle.swift_core.specs.declared.code.Code.{Code}
use Rattle.swift_core.specs.declared.item.CoreItem.{CoreItem}
use Rattle.swift_core.specs.Codes.{Parts as Program}
use Rattle.value_calls.specs.Traps.{Outcome}
use Rattle.core_means.specs.declared.parts.Frame.{Frame}
use Rattle.core_means.specs.declared.parts.Local.{Local}
use Rattle.core_means.specs.declared.parts.Local.TheVariants as local
use Rattle.core_means.specs.Asks.{Asks, Wrong, Doing, found, Answer, Gave, Stopped, Bad, Reads, under}
use Rattle.core_means.specs.Means.{code_of}
use Rattle.core_means.specs.Public.{absent, begin}
use Rattle.core_means.specs.Sources.{seen}
use Rattle.view_nodes.specs.declared.node.Element.{Element}
use Rattle.body_means.specs.Building.{views_from}
use Rattle.body_means.specs.Items.{item_means}
use Rattle.body_means.specs.Views.{items_in}

-- ---- the locals that a body begins with

-- Of the locals that stand where a reader's closure is written, those that it uses are captured, in the order in which it keeps
-- them. The body of an app or of a view stands on none.
unfoldable pub with_captured : List Local → ℕ → List ℕ → List Local
with_captured locals n [] = locals
with_captured locals n (k ∷ ks) = with_captured (slice_set locals k (local.Captured n)) (n + 1) ks

-- The parameter of a reader's closure is the preference.
unfoldable pub parameters : ℕ → List Local
parameters zero = []
parameters (suc n) = local.Preference ∷ parameters n

-- what a body begins with holds no value: it asks for what it uses
abbrev pub body_locals : Code → List Local
body_locals code = with_captured (absent code.outer) 0 code.kept ++ parameters code.parameters

-- ---- the meaning

-- the views of the builder, within 1,000 forms that are entered and not left
abbrev pub root_views : Program → ℕ → List CoreItem → Doing (List Element)
root_views p unit xs = views_from (item_means p 1000 unit) [] xs

abbrev pub asked_by : Program → ℕ → List Step → Option Code → Asks (List Element)
asked_by p unit path None = Wrong
asked_by p unit path (Some code) = found (items_in code.form) (root_views p unit) (begin (body_locals code) path None)

-- The questions that a body asks at a path. They depend on the program, the unit and the path alone.
unfoldable pub Body : Program → ℕ → List Step → Asks (List Element)
Body p unit path = asked_by p unit path (code_of p unit)

-- The description of a unit and its reads, or its trap, in a frame and over cells.
unfoldable pub Describes : Program → ℕ → Frame → CellMap → Answer (List Element)
Describes p unit frame cells = under (seen frame cells) [] (Body p unit frame.path)

-- ---- what the callers see of it

-- the description and the reads, or the trap
abbrev pub outcome_of : {A : Type 0} → Answer A → Outcome (A × Reads)
outcome_of (Gave x w reads) = Some (Ok (x, reads))
outcome_of (Stopped k w reads) = Some (Err k)
outcome_of Bad = None
