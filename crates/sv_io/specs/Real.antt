-- What a contract sees of real files and real streams: no content.
use Rattle.std.specs.Prelude.{ℕ, Bool, List, Option, None}
use Rattle.sv_io.specs.Shelf.{ShelfState}
use Rattle.sv_io.specs.Sink.{SinkState}

-- what a shelf over real files keeps
pub record FilesSeen : Type 0 where
  -- the name last handed to `choose`
  pub asked : List ℕ
  -- a file is open
  pub chosen : Bool
  -- what the open file itself says of the bytes that it has left: nothing, for a real one
  pub left : Option (List ℕ)
  -- the bytes taken since that `choose`
  pub offset : ℕ
  -- the last call failed
  pub failed : Bool
  -- how often a call failed
  pub faults : ℕ

-- the shelf as any shelf is seen: this one doesn't tell its files
abbrev pub files_state : FilesSeen → ShelfState
files_state files = record {
  holds = None;
  asked = files.asked;
  chosen = files.chosen;
  offset = files.offset;
  failed = files.failed;
  faults = files.faults;
}

-- what a sink over a real stream keeps
pub record StreamSeen : Type 0 where
  -- what the stream itself says of the bytes that it took: nothing, for those of a process
  pub took : Option (List ℕ)
  -- how often a write failed
  pub faults : ℕ

-- the sink as any sink is seen: this one doesn't tell its bytes
abbrev pub stream_state : StreamSeen → SinkState
stream_state stream = record { wrote = None; faults = stream.faults }
