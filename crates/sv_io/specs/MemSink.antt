-- What a contract sees of a sink in memory.
use Rattle.std.specs.Prelude.{◌≡◌, ℕ, List, [], Some}
use Rattle.sv_io.specs.declared.memory_sink.MemSink.{MemSink}
use Rattle.sv_io.specs.Sink.{SinkState}

-- all bytes that were taken
abbrev pub sink_bytes : MemSink → List ℕ
sink_bytes sink = sink.bytes.items

-- the most that one write takes
abbrev pub sink_step : MemSink → ℕ
sink_step sink = sink.step

-- the most that all writes take
abbrev pub sink_room : MemSink → ℕ
sink_room sink = sink.room

-- how many writes were made
abbrev pub sink_calls : MemSink → ℕ
sink_calls sink = sink.calls

-- the numbers of the writes that are to fail
abbrev pub sink_fails : MemSink → List ℕ
sink_fails sink = sink.fails.items

-- the sink as any sink is seen: this one tells its bytes
abbrev pub sink_state : MemSink → SinkState
sink_state sink = record { wrote = Some sink.bytes.items; faults = sink.faults }

-- a sink of this step, room and list, to which nothing was written yet
pub record IsNewSink (sink : MemSink) (step room : ℕ) (fails : List ℕ) : Type 0 where
  pub bytes : sink_bytes sink ≡ []
  pub faults : (sink_state sink).faults ≡ 0
  pub calls : sink_calls sink ≡ 0
  pub same_step : sink_step sink ≡ step
  pub same_room : sink_room sink ≡ room
  pub same_fails : sink_fails sink ≡ fails
