-- The states of an engine.
use Rattle.std.specs.Prelude.{◌≡◌, ℕ, ◌+◌, ◌*◌, ◌<◌, ◌≤◌, Bool, true, false, take, drop}
use Rattle.view_engine.specs.Counter.{Shape, gain, cells, row, IsInLimits}
use Rattle.view_engine.specs.declared.form.Canvas.{Canvas}
use Rattle.view_engine.specs.declared.form.Event.{Event}
use Rattle.view_engine.specs.declared.form.Halt.{Halt}
use Rattle.view_engine.specs.declared.form.Halt.TheVariants.{Ended, Spent, OutOfMemory}

-- what a caller sees of an engine
pub record Moment : Type 0 where
  pub shape : Shape
  pub number : ℕ
  -- the deliveries that were answered with Ok
  pub deliveries : ℕ
  pub halted : Bool

-- the moment after launch
abbrev pub first_of : Shape → Moment
first_of shape = record { shape = shape; number = shape.init; deliveries = 0; halted = false }

-- the moment after a delivery
abbrev pub delivered : Moment → Event → Moment
delivered moment event = record moment { number = moment.number + gain moment.shape event; deliveries = moment.deliveries + 1 }

-- the moment after a halt
abbrev pub stopped : Moment → Moment
stopped moment = record moment { halted = true }

-- what holds where a delivery halts
abbrev pub HaltedBy : Halt → Moment → Moment → Type 0
HaltedBy Ended old new = (old.halted ≡ true) × (new ≡ stopped old)
HaltedBy (Spent deliveries) old new = (old.halted ≡ false) × (old.deliveries ≡ 1000000) × (deliveries ≡ 1000000) × (new ≡ stopped old)
HaltedBy OutOfMemory old new = (old.halted ≡ false) × (old.deliveries < 1000000) × (new ≡ stopped old)

-- the canvas shows this number
pub record Shows (canvas : Canvas) (shape : Shape) (number : ℕ) : Type 0 where
  pub width : canvas.size.w ≡ 80
  pub height : canvas.size.h ≡ 24
  pub cells_are : canvas.cells.items ≡ cells shape number
  -- so row y is the y-th piece of 80 cells
  pub rows : (y : ℕ) → y < 24 → take 80 (drop (80 * y) canvas.cells.items) ≡ row shape number y

-- an engine's numbers are in their limits
pub record IsRunning (shape : Shape) (number deliveries : ℕ) : Type 0 where
  pub limits : IsInLimits shape
  pub total : number ≤ 1000000000 + 1000000000 * deliveries
  pub count : deliveries ≤ 1000000
