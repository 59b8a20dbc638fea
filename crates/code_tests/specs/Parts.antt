-- What is tested of the code of a property that gives views, and of the code of a block.
use Rattle.std.specs.Prelude.{◌≡◌, ℕ, map, Option, Some}
use Rattle.identity_path.specs.Cells.{CellMap}
use Rattle.swift_core.specs.Codes.{Parts as Program, member_at}
use Rattle.swift_core.specs.Context.{local_of}
use Rattle.swift_core.specs.declared.code.Code.{Code}
use Rattle.core_means.specs.declared.parts.Frame.{Frame}
use Rattle.frame_tests.specs.Demands.{SomeTypes}
use Rattle.code_tests.specs.Homes.{property_view, views_view}

-- the code of this number is that of a property that gives views, and some types of slots fit
pub data PropertyFits (p : Program) (n : ℕ) (code : Code) (frame : Frame) (cells : CellMap) : Type 0 where
  property_fits : {view : Option ℕ} → property_view p.table n ≡ Some view → SomeTypes p.table cells view frame (map local_of code.types) → PropertyFits p n code frame cells

-- the code of this number is of a member that gives views, and some types of slots fit
pub data BlockFits (p : Program) (n : ℕ) (code : Code) (frame : Frame) (cells : CellMap) : Type 0 where
  block_fits : {member : ℕ} {view : Option ℕ} → member_at p n ≡ Some member → views_view p.table member ≡ Some view → SomeTypes p.table cells view frame (map local_of code.types)
      → BlockFits p n code frame cells
