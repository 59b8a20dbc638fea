-- The nodes of a description: where they stand, and how they are counted as they are made.
use Rattle.std.specs.Prelude.{ℕ, ◌+◌, ℤ, List, [], ◌∷◌, ◌++◌, length, min, Option, Some, None, nat_lt}
use Rattle.identity_path.specs.declared.input.Input.{Input}
use Rattle.identity_path.specs.declared.input.Input.TheVariants as input
use Rattle.identity_path.specs.declared.step.Step.{Step}
use Rattle.identity_path.specs.declared.step.Step.TheVariants as step
use Rattle.sv_value.specs.declared.value.Value.{Value}
use Rattle.value_calls.specs.declared.traps.TrapKind.TheVariants.{Nodes}
use Rattle.core_means.specs.Asks.{Done, Doing, ◌>>◌, give, trap, choose}
use Rattle.view_nodes.specs.declared.kind.ModifierKind.{ModifierKind}
use Rattle.view_nodes.specs.declared.kind.NodeKind.{NodeKind}
use Rattle.view_nodes.specs.declared.kind.NodeKind.TheVariants as node
use Rattle.view_nodes.specs.declared.node.Custom.{Custom}
use Rattle.view_nodes.specs.declared.node.Element.{Element, out-Element}
use Rattle.view_nodes.specs.declared.node.Element.TheOpen as one
use Rattle.view_nodes.specs.declared.node.Element.TheOpen.{Element-F}
use Rattle.view_nodes.specs.declared.node.Element.TheVariants as element
use Rattle.view_nodes.specs.declared.node.Handler.{Handler}
use Rattle.view_nodes.specs.declared.node.Label.{Label}
use Rattle.view_nodes.specs.declared.node.Label.TheVariants as label
use Rattle.view_nodes.specs.declared.node.Reader.{Reader}
use Rattle.view_nodes.specs.Counts.{label_count, custom_count, reader_count}

-- ---- numbers

-- A number of a step or of a modifier has 32 bits: what is greater stays at the greatest. No description within the limit of 20,000
-- nodes has so many views, items or modifiers, and no source so many branches.
abbrev pub narrow : ℕ → ℕ
narrow n = min n 4294967295

-- ---- steps

abbrev pub led_at : List Step → Element-F Element → Element
led_at steps (one.Plain own l parts) = element.Plain (steps ++ own) l parts
led_at steps (one.Custom own c) = element.Custom (steps ++ own) c
led_at steps (one.Reader own r content) = element.Reader (steps ++ own) r content

-- a node with these steps before its own
unfoldable pub led : List Step → Element → Element
led steps e = led_at steps (out-Element e)

-- each with these steps before its own
unfoldable pub all_led : List Step → List Element → List Element
all_led steps [] = []
all_led steps (e ∷ es) = led steps e ∷ all_led steps es

-- The i-th view of a builder has the step `Child i`. What gives no view, a `let`, is not counted.
abbrev pub with_child : List Element → Option Element → List Element
with_child views None = views
with_child views (Some e) = views ++ led (step.Child (narrow (length views)) ∷ []) e ∷ []

-- ---- counts

abbrev pub set_nodes : ℕ → Doing (Unit {0})
set_nodes n = λ w. Done tt (record w { nodes = n })

-- The nodes of one description count at most 20,000 together. Where a node would pass this, its making is the trap `nodes`.
unfoldable pub tally : ℕ → Doing (Unit {0})
tally n = λ w. choose (nat_lt 20000 (w.nodes + n)) (trap Nodes) (set_nodes (w.nodes + n)) w

-- ---- the making of a node, which is counted once what it holds is there

unfoldable pub plain : Label → List Element → Doing Element
plain l parts = tally (label_count l) >> give (element.Plain [] l parts)

unfoldable pub view : NodeKind → List Input → List (Option ℤ) → List Handler → List Element → Doing Element
view kind inputs numbers blocks parts = plain (label.View (record { kind = kind; inputs = inputs; numbers = numbers; blocks = blocks })) parts

unfoldable pub modifier : ModifierKind → ℕ → List Input → List (Option ℤ) → List Handler → List Element → Doing Element
modifier kind number inputs numbers blocks parts =
    plain (label.Modifier (record { kind = kind; number = number; inputs = inputs; numbers = numbers; blocks = blocks })) parts

-- a use of a custom view, under the step that names it
unfoldable pub custom : ℕ → Custom → Doing Element
custom declaration c = tally (custom_count c) >> give (element.Custom (step.View declaration ∷ []) c)

unfoldable pub reader : Reader → Element → Doing Element
reader r content = tally (reader_count r) >> give (element.Reader [] r content)

-- a text, which holds its string
unfoldable pub text : Value → Doing Element
text v = view node.Text (input.Value v ∷ []) [] [] []
