-- The events of the lines that are read, and what is still to come.
use Rattle.std.proofs.Common.{◌≡◌, ℕ, ◌<◌, ◌≤◌, List, ◌++◌, length, map, Result}
use Rattle.std.specs.Str.Lines.{lines}
use Rattle.event_script.specs.declared.event.Event.{Event}
use Rattle.event_script.specs.declared.event.ScriptFault.{ScriptFault}
use Rattle.event_script.specs.declared.line.Line.{Line}
use Rattle.event_script.specs.Script.{line_of, first_wrong, events_of, judged, script_of}

-- the script, where these events were read, and these lines, from this number on, are left
abbrev pub outcome : ℕ → List Event → List Line → Result (List Event) ScriptFault
outcome number seen said = judged (first_wrong number said) (seen ++ events_of said)

-- how far the reading has come
pub record Progress (bytes left : List ℕ) (number : ℕ) (events : List Event) : Type 0 where
  pub seen : List Event
  pub so_far : script_of bytes ≡ outcome number seen (map line_of (lines left))
  pub kept : length events ≤ 10000 → seen ≡ events
  pub more : 10000 < length events → 10000 < length seen
