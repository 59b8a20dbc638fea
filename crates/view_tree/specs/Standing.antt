-- What stands in a tree, in tree order: each node before what it holds, the content of a decoration before its decoration,
-- and the unit of a preference reader where its builder stands.
use Rattle.std.specs.Prelude.{List, [], ◌∷◌, ◌++◌, Some, None, flat_map}
use Rattle.identity_path.specs.declared.step.Step.{Step}
use Rattle.identity_path.specs.declared.step.Step.TheVariants as step
use Rattle.view_nodes.specs.declared.node.Label.{Label}
use Rattle.view_nodes.specs.declared.node.Label.TheVariants as label
use Rattle.view_nodes.specs.declared.node.Reader.{Reader}
use Rattle.view_tree.specs.declared.built.Built.{Built}
use Rattle.view_tree.specs.declared.built.Built.TheOpen as one
use Rattle.view_tree.specs.declared.built.Built.TheOpen.{Built-F}
use Rattle.view_tree.specs.declared.built.Built.TheFolds.{fold-Built}
use Rattle.view_tree.specs.declared.standing.Name.{Name}
use Rattle.view_tree.specs.declared.standing.Standing.{Standing}
use Rattle.view_tree.specs.declared.standing.Standing.TheVariants as standing

abbrev pub label_standing : Label → List Step → Standing
label_standing (label.View n) p = standing.View p
label_standing (label.Modifier m) p = standing.Modifier p m.number

-- what stands below a path, by what stands in each part
abbrev pub below : List Step → List (List Step → List Standing) → List Standing
below p parts = flat_map (λ part. part p) parts

-- the path of a reader's builder, which is that of its unit
abbrev pub builder_path : List Step → Reader → List Step
builder_path p reader = p ++ step.Pref reader.decoration ∷ []

abbrev pub reader_standing : List Step → Reader → (List Step → List Standing) → List (List Step → List Standing) → List Standing
reader_standing p reader content body =
    (standing.Modifier p reader.number ∷ content p) ++ (standing.Reader (builder_path p reader) ∷ below (builder_path p reader) body)

-- The path of a node is that of the node that holds it, and then its own steps.
abbrev pub standing_step : Built-F (List Step → List Standing) → List Step → List Standing
standing_step (one.Plain steps label found parts) at = label_standing label (at ++ steps) ∷ below (at ++ steps) parts
standing_step (one.Custom steps custom last body) at = standing.Custom (at ++ steps) ∷ below (at ++ steps) body
standing_step (one.Reader steps reader content run body) at = reader_standing (at ++ steps) reader content body

-- what stands in a node and all below it, where the node that holds it stands at a path
abbrev pub standing_in : Built → List Step → List Standing
standing_in = fold-Built (List Step → List Standing) standing_step

-- ---- what each of these is, if it is one

-- the name of a node: the path of a view, and the path and the number of a modifier
abbrev pub name_of : Standing → List Name
name_of (standing.View p) = record { path = p; number = None } ∷ []
name_of (standing.Custom p) = record { path = p; number = None } ∷ []
name_of (standing.Modifier p number) = record { path = p; number = Some number } ∷ []
name_of (standing.Reader p) = []

-- the path of a unit: of a custom view, or of a reader's unit
abbrev pub unit_path : Standing → List (List Step)
unit_path (standing.View p) = []
unit_path (standing.Custom p) = p ∷ []
unit_path (standing.Modifier p number) = []
unit_path (standing.Reader p) = p ∷ []

-- the path of a custom view
abbrev pub view_path : Standing → List (List Step)
view_path (standing.View p) = []
view_path (standing.Custom p) = p ∷ []
view_path (standing.Modifier p number) = []
view_path (standing.Reader p) = []
