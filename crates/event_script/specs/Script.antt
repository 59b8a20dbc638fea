-- What the bytes of a script say.
use Rattle.std.specs.Prelude.{◌≡◌, ℕ, ◌+◌, List, [], ◌∷◌, ◌++◌, length, map, nat_le, nat_eq, codes, Option, Some, None, Result, Ok, Err, Vec, if◌then◌else◌}
use Rattle.std.specs.List.{starts_with}
use Rattle.std.specs.Str.Lines.{lines}
use Rattle.std.specs.declared.alloc.Global.{Global}
use lib.Pointwise.{pointwise}
use Rattle.event_script.specs.declared.event.Event.{Event}
use Rattle.event_script.specs.declared.event.Event.TheVariants.{Tap}
use Rattle.event_script.specs.declared.event.ScriptFault.{ScriptFault}
use Rattle.event_script.specs.declared.event.ScriptFault.TheVariants.{OutOfMemory, NotAnEvent, TooMany}
use Rattle.event_script.specs.declared.line.Line.{Line}
use Rattle.event_script.specs.declared.line.Line.TheVariants.{Silent, Says, Wrong}
use Rattle.event_script.specs.Words.{words, number_of}

abbrev pub tap_at : Option ℕ → Option ℕ → Option Event
tap_at (Some x) (Some y) = Some (Tap x y)
tap_at x y = None

-- the tap that two words name: two numbers, and nothing else
abbrev pub tap_of : List (List ℕ) → Option Event
tap_of (x ∷ y ∷ []) = tap_at (number_of x) (number_of y)
tap_of arguments = None

abbrev pub says : Option Event → Line
says (Some event) = Says event
says None = Wrong

-- what these words say: none of them nothing, nor a first that begins with `#`
abbrev pub said_by : List (List ℕ) → Line
said_by [] = Silent
said_by (word ∷ arguments) =
    if starts_with nat_eq word (codes "#") then Silent
    else (if pointwise nat_eq word (codes "tap") then says (tap_of arguments) else Wrong)

-- what a line says
abbrev pub line_of : List ℕ → Line
line_of line = said_by (words line)

-- the number of the first wrong line, where the first of these has this number
abbrev pub first_wrong : ℕ → List Line → Option ℕ
first_wrong number [] = None
first_wrong number (Wrong ∷ said) = Some number
first_wrong number (Silent ∷ said) = first_wrong (number + 1) said
first_wrong number (Says event ∷ said) = first_wrong (number + 1) said

-- the events of these lines
abbrev pub events_of : List Line → List Event
events_of [] = []
events_of (Says event ∷ said) = event ∷ events_of said
events_of (Silent ∷ said) = events_of said
events_of (Wrong ∷ said) = events_of said

-- the events, unless a line is wrong, or there are too many
abbrev pub judged : Option ℕ → List Event → Result (List Event) ScriptFault
judged (Some line) events = Err (NotAnEvent line)
judged None events = if nat_le (length events) 10000 then Ok events else Err TooMany

-- the events of a script, or why it is none
abbrev pub script_of : List ℕ → Result (List Event) ScriptFault
script_of bytes = let said = map line_of (lines bytes) in judged (first_wrong 1 said) (events_of said)

-- an answer is the script, or want of memory
abbrev pub AnswersScript : List ℕ → Result (Vec Event Global) ScriptFault → Type 0
AnswersScript bytes (Ok events) = script_of bytes ≡ Ok events.items
AnswersScript bytes (Err OutOfMemory) = Unit {0}
AnswersScript bytes (Err (NotAnEvent line)) = script_of bytes ≡ Err (NotAnEvent line)
AnswersScript bytes (Err TooMany) = script_of bytes ≡ Err TooMany

-- the events that are kept after a line: one more than a script may have, at most
abbrev pub kept_after : List Event → Line → List Event
kept_after events (Says event) = if nat_le (length events) 10000 then events ++ event ∷ [] else events
kept_after events Silent = events
kept_after events Wrong = events

-- why a line with this number stopped the reading
abbrev pub StoppedAt : ScriptFault → ℕ → Line → Type 0
StoppedAt OutOfMemory number line = Unit {0}
StoppedAt (NotAnEvent found) number line = (found ≡ number) × (line ≡ Wrong)
StoppedAt TooMany number line = ⊥
