-- How much a node counts by itself.
use Rattle.std.specs.Prelude.{ℕ, ◌+◌, ◌/◌, ℤ, List, Option, Some, None, map, sum}
use Rattle.identity_path.specs.declared.input.Input.{Input}
use Rattle.identity_path.specs.declared.input.Input.TheVariants as input
use Rattle.sv_value.specs.Value.{weight}
use Rattle.view_nodes.specs.declared.node.Handler.{Handler}
use Rattle.view_nodes.specs.declared.node.Node.{Node}
use Rattle.view_nodes.specs.declared.node.Modifier.{Modifier}
use Rattle.view_nodes.specs.declared.node.Label.{Label}
use Rattle.view_nodes.specs.declared.node.Label.TheVariants as label
use Rattle.view_nodes.specs.declared.node.Custom.{Custom}
use Rattle.view_nodes.specs.declared.node.Reader.{Reader}

-- ---- the weight of the values that a node holds

-- Places weigh nothing.
abbrev pub input_weight : Input → ℕ
input_weight (input.Value v) = weight v
input_weight (input.Place p) = 0

abbrev pub inputs_weight : List Input → ℕ
inputs_weight inputs = sum (map input_weight inputs)

-- a whole number that is given, or left out
abbrev pub number_weight : Option ℤ → ℕ
number_weight None = 0
number_weight (Some n) = 1

-- the locals that a handler keeps
abbrev pub handler_weight : Handler → ℕ
handler_weight handler = inputs_weight handler.locals

abbrev pub held_weight : List Input → List (Option ℤ) → List Handler → ℕ
held_weight inputs numbers blocks = inputs_weight inputs + sum (map number_weight numbers) + sum (map handler_weight blocks)

-- ---- counts

-- A node counts 1, and 1 more for each whole 64 of the weight of what it holds.
abbrev pub counted : ℕ → ℕ
counted w = 1 + w / 64

abbrev pub label_count : Label → ℕ
label_count (label.View n) = counted (held_weight n.inputs n.numbers n.blocks)
label_count (label.Modifier m) = counted (held_weight m.inputs m.numbers m.blocks)

-- a custom view holds its stored properties and the initial values of its slots
abbrev pub custom_count : Custom → ℕ
custom_count custom = counted (inputs_weight custom.inputs + sum (map weight custom.initials))

-- a reader holds its captured locals
abbrev pub reader_count : Reader → ℕ
reader_count reader = counted (inputs_weight reader.captured)
