-- The laws that callers cite.
use Rattle.std.specs.Prelude.{◌≡◌, ℕ, Some}
use Rattle.identity_path.specs.Cells.{CellMap}
use Rattle.swift_core.specs.Codes.{Parts as Program}
use Rattle.swift_core.specs.Programs.{IsProgram}
use Rattle.core_means.specs.Asks.{IsRight}
use Rattle.core_means.specs.Means.{inner}
use Rattle.core_means.specs.Public.{Evaluates, Executes, cells_of}
use Rattle.core_means.specs.declared.parts.Frame.{Frame}
use Rattle.value_fits.specs.Cells as of_cells
use Rattle.value_fits.specs.Changes as of_changes
use Rattle.value_fits.specs.Fields as of_fields
use Rattle.value_fits.specs.Forms as of_forms
use Rattle.value_fits.specs.Lists as of_lists
use Rattle.value_fits.specs.Operators as of_operators
use Rattle.value_fits.specs.Patterns as of_patterns
use Rattle.value_fits.specs.Reached as of_reached
use Rattle.value_fits.specs.Cells.{CellsFit}
use Rattle.world_fits.specs.Laws.{ValueLaws, Known}
use Rattle.world_fits.specs.Runs.{EvalFits, ExecFits}
use Rattle.world_fits.specs.Sites.{Site}
use Rattle.meaning_rights.specs.Actions.{exec_right, exec_keeps}
use Rattle.meaning_rights.specs.Forms.{all_right}
use Rattle.form_rights.specs.Inside.{Rights}
use Rattle.meaning_rights.specs.Runs.{eval_right}

pub value_laws : ValueLaws
value_laws = record {
  arguments = of_changes.arguments_typed;
  changes = of_changes.changes_fit;
  programs = of_fields.programs_stand;
  data_parts = of_fields.data_parts_are;
  fields = of_fields.fields_are;
  field = of_fields.field_fits;
  struct_made = of_fields.struct_made_fits;
  plain = of_forms.plain_values_fit;
  truths = of_forms.truths_are;
  indexes = of_forms.indexes_are;
  optionals = of_forms.optionals_are;
  lists = of_forms.lists_are;
  made = of_lists.made_fits;
  list_made = of_lists.list_made_fits;
  unary = of_operators.unary_fits;
  force = of_operators.force_fits;
  property = of_operators.property_fits;
  promoted = of_operators.promoted_fits;
  binary = of_operators.binary_fits;
  element = of_operators.element_fits;
  contains = of_operators.contains_fits;
  first_index = of_operators.first_index_fits;
  repeated = of_operators.repeat_fits;
  bounds = of_operators.bounds_fit;
  interpolated = of_operators.interpolated_fits;
  cases = of_patterns.cases_match;
  join = of_reached.hops_join;
  read = of_reached.read_fits;
  renewed = of_reached.renewed_fits;
  cells_read = of_cells.cells_read;
  cells_written = of_cells.cells_written;
}

-- A well typed term has a meaning: where the world fits its context, no form is wrong, whatever number of forms may still be entered.
abbrev pub TermsHaveMeanings : Type 0
TermsHaveMeanings = (site : Site) → Known site → (room : ℕ) → Rights site (inner site.program room)

pub terms_have_meanings : TermsHaveMeanings
terms_have_meanings = all_right

-- A piece of code has a value, or traps, where the condition of its evaluation holds.
abbrev pub EvaluationsAreRight : Type 0
EvaluationsAreRight = (p : Program) (n : ℕ) (frame : Frame) (cells : CellMap) → IsProgram p.table p.members → EvalFits p n frame cells → IsRight (Evaluates p n frame cells)

pub evaluations_are_right : EvaluationsAreRight
evaluations_are_right = eval_right value_laws

-- An action block ends, or traps, where the condition of its run holds.
abbrev pub ActionsAreRight : Type 0
ActionsAreRight = (p : Program) (n : ℕ) (frame : Frame) (cells : CellMap) → IsProgram p.table p.members → ExecFits p n frame cells → IsRight (Executes p n frame cells)

pub actions_are_right : ActionsAreRight
actions_are_right = exec_right value_laws

-- And the cells that it leaves, also at a trap, have the types that they had.
abbrev pub ActionsKeepCells : Type 0
ActionsKeepCells = (p : Program) (n : ℕ) (frame : Frame) (cells : CellMap) → IsProgram p.table p.members → (f : ExecFits p n frame cells) (after : CellMap)
    → cells_of (Executes p n frame cells) ≡ Some after → CellsFit p.table f.types after

pub actions_keep_cells : ActionsKeepCells
actions_keep_cells = exec_keeps value_laws
