-- What is known of values and of the program.
use Rattle.std.specs.Prelude.{◌≡◌, ℕ, Some}
use Rattle.swift_core.specs.Context.{HasMember}
use Rattle.swift_core.specs.Programs.{IsProgram}
use Rattle.swift_core.specs.declared.table.Argument.{Argument}
use Rattle.swift_core.specs.declared.table.Signature.{Signature}
use Rattle.swift_core.specs.declared.table.SignatureForm.TheVariants as form
use Rattle.swift_core.specs.declared.ty.Ty.{Ty}
use Rattle.value_fits.specs.Cells as of_cells
use Rattle.value_fits.specs.Changes as of_changes
use Rattle.value_fits.specs.Fields as of_fields
use Rattle.value_fits.specs.Forms as of_forms
use Rattle.value_fits.specs.Lists as of_lists
use Rattle.value_fits.specs.Operators as of_operators
use Rattle.value_fits.specs.Patterns as of_patterns
use Rattle.value_fits.specs.Reached as of_reached
use Rattle.world_fits.specs.Sites.{Site}

-- the laws on values
pub record ValueLaws : Type 0 where
  pub arguments : of_changes.ArgumentsTyped
  pub changes : of_changes.ChangesFit
  pub programs : of_fields.ProgramsStand
  pub data_parts : of_fields.DataPartsAre
  pub fields : of_fields.FieldsAre
  pub field : of_fields.FieldFits
  pub struct_made : of_fields.StructMadeFits
  pub plain : of_forms.PlainValuesFit
  pub truths : of_forms.TruthsAre
  pub indexes : of_forms.IndexesAre
  pub optionals : of_forms.OptionalsAre
  pub lists : of_forms.ListsAre
  pub made : of_lists.MadeFits
  pub list_made : of_lists.ListMadeFits
  pub unary : of_operators.UnaryFits
  pub force : of_operators.ForceFits
  pub property : of_operators.PropertyFits
  pub promoted : of_operators.PromotedFits
  pub binary : of_operators.BinaryFits
  pub element : of_operators.ElementFits
  pub contains : of_operators.ContainsFits
  pub first_index : of_operators.FirstIndexFits
  pub repeated : of_operators.RepeatFits
  pub bounds : of_operators.BoundsFit
  pub interpolated : of_operators.InterpolatedFits
  pub cases : of_patterns.CasesMatch
  pub join : of_reached.HopsJoin
  pub read : of_reached.ReadFits
  pub renewed : of_reached.RenewedFits
  pub cells_read : of_cells.CellsRead
  pub cells_written : of_cells.CellsWritten

-- What holds at a site: the program is one, and the state slots of the view have their types.
pub record Known (site : Site) : Type 0 where
  pub laws : ValueLaws
  pub program : IsProgram site.program.table site.program.members
  pub slots : (d n : ℕ) (t : Ty) (a : Argument) (s : Signature) → site.view ≡ Some d → HasMember site.program.table d s → s.form ≡ form.State n (Some t) a → site.types site.home n ≡ Some t
