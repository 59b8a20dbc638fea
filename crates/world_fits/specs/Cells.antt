-- What a frame and cells of their types show.
use Rattle.std.specs.Prelude.{◌≡◌, ℕ, List, [], Option, Some, None, Result, Ok, Err, slice_get, option_and_then, ◌⊎◌}
use Rattle.std.proofs.Common.{refl, ap, ◌∙◌, inl, inr}
use Rattle.identity_path.specs.declared.input.Input.{Input}
use Rattle.identity_path.specs.declared.input.Input.TheVariants as input
use Rattle.identity_path.specs.Cells.{CellMap, value_at}
use Rattle.sv_value.specs.declared.hop.Missing.{Missing}
use Rattle.sv_value.specs.declared.value.Value.{Value}
use Rattle.sv_value.specs.Hops.{part_at}
use Rattle.swift_core.specs.Context.{Local}
use Rattle.swift_core.specs.Values.{HasValue}
use Rattle.swift_core.specs.declared.ty.Ty.{Ty}
use Rattle.core_means.specs.declared.parts.Frame.{Frame}
use Rattle.core_means.specs.Sources.{Found, found_input, found_value, found_part, seen}
use Rattle.value_fits.specs.Answers.{AnswersWith}
use Rattle.value_fits.specs.Cells.{CellsFit}
use Rattle.value_fits.specs.Fields.{Standing}
use Rattle.world_fits.specs.Frames.{FrameHas}
use Rattle.world_fits.specs.Laws.{Known}
use Rattle.world_fits.specs.Right.{Shows}
use Rattle.world_fits.specs.Sites.{Site, Holds, SourceHas}

module _ (site : Site) (known : Known site) where
  abbrev pub standing : Standing site.program.table
  standing = known.laws.programs site.program.table site.program.members known.program

  abbrev pub Shown : Local → Found → Type 0
  Shown l o = ((missing : Missing) × (o ≡ Some (Err missing))) ⊎ ((x : Input) × (o ≡ Some (Ok x)) × Holds site l x)

  part_shows : (t : Ty) (o : Option (Result Value Missing)) → AnswersWith (HasValue site.program.table t) o → Shown (Local.valued t) (found_part o)
  part_shows t None h = absurd h
  part_shows t (Some (Err missing)) h = inl (missing, refl)
  part_shows t (Some (Ok v)) h = inr (input.Value v, refl, h)

  -- A frame of the view with cells of their types shows each source.
  pub frame_shows : (frame : Frame) (cells : CellMap) → ((d : ℕ) → site.view ≡ Some d → FrameHas site.program.table site.types d frame) → CellsFit site.program.table site.types cells
      → Shows site (seen frame cells)
  frame_shows frame cells has fits s l (SourceHas.stored {d = d} {n = n} {b = b} {t = t} {a = a} {s = sign} view stands form) =
      let x = (has d view).stored sign n b t a stands form in inr (x.0, ap found_input x.1, x.2)
  frame_shows frame cells has fits s l (SourceHas.bound {d = d} {n = n} {t = t} {s = sign} view stands form) =
      let x = (has d view).bound sign n t stands form in inr (x.0, ap found_input x.1, x.2)
  frame_shows frame cells has fits s l (SourceHas.slot {d = d} {n = n} {t = t} {a = a} {s = sign} view stands form) =
      let x = fits frame.path n t ((has d view).slots sign n t a stands form) in
      inr (input.Value x.value, ap (λ (o : Option (List Value)). found_part (option_and_then (part_at []) (option_and_then (λ slots. slice_get slots n) o))) x.held ∙ ap (λ (o : Option Value). found_part (option_and_then (part_at []) o)) x.there, x.typed)
  frame_shows frame cells has fits s l (SourceHas.place {p = p} {t = t} h) = part_shows t (value_at cells p) (known.laws.cells_read site.program.table standing site.types cells p t fits h)
  frame_shows frame cells has fits s l (SourceHas.key {d = d} {k = k} {t = t} {key = key} view at typed) =
      let x = (has d view).keys k key t at typed in inr (input.Value x.0, ap found_value x.1, x.2)
