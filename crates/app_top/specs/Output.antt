-- What goes out, and how many bodies run, for a program and its events.
use Rattle.std.specs.Prelude.{◌≡◌, ℕ, ◌+◌, ◌==◌, if◌then◌else◌, List, [], ◌∷◌, ◌++◌, Option, Some, length, take, count_by, codes, decimal}
use Rattle.view_engine.specs.Joined.{joined}
use Rattle.view_engine.specs.Counter.{Shape, row, hits, number_after}
use Rattle.view_engine.specs.declared.form.Event.{Event}
use Rattle.counter_form.specs.App.{SpellsApp}
use Rattle.counter_form.specs.Script.{SpellsScript}
use Rattle.app_top.specs.Words.{Names}

-- frame k of a program that shows this number: a line with k, and then 24 lines of 80 cells
unfoldable pub frame_text : ℕ → Shape → ℕ → List ℕ
frame_text k shape number = codes "frame " ++ decimal k ++ 10 ∷ [] ++ joined (λ y. row shape number y ++ 10 ∷ []) 24

-- frame k shows the number after the first k events
abbrev pub frame_at : Shape → List Event → ℕ → List ℕ
frame_at shape events k = frame_text k shape (number_after shape (take k events))

-- a frame after launch, and one after each event
abbrev pub frames : Shape → List Event → List ℕ
frames shape events = joined (frame_at shape events) (length events + 1)

-- two bodies at launch, and one for each tap that hits, where it changes the number
abbrev pub bodies_run : Shape → List Event → ℕ
bodies_run shape events = 2 + (if shape.step == 0 then 0 else count_by (hits shape) events)

-- the two files are there, and spell this program and these events
pub record Input (files : List ℕ → Option (List ℕ)) (names : Names) (shape : Shape) (events : List Event) : Type 0 where
  pub app : List ℕ
  pub script : List ℕ
  pub app_is : files names.app ≡ Some app
  pub script_is : files names.script ≡ Some script
  pub app_spelt : SpellsApp app shape
  pub script_spelt : SpellsScript script events
