use Rattle.std.proofs.Common.{◌≡◌, ◌+◌, ◌-◌, ◌≤◌, true, length, string_bytes}
use Rattle.sv_io.specs.Counts.{WhenTold}
use Rattle.sv_io.specs.Shelf.{content}
use Rattle.sv_io.proofs.Reading.{Front}
use Rattle.sv_io.proofs.whole.read_whole.Given as goal

abbrev pub invariant-loop-taken : goal.invariant-loop-taken
invariant-loop-taken g l = record {
  holds : (g.F.Shelf.seen l.shelf).holds ≡ (g.F.Shelf.seen l.fn.shelf).holds;
  asked : (g.F.Shelf.seen l.shelf).asked ≡ string_bytes l.fn.name;
  chosen : (g.F.Shelf.seen l.shelf).chosen ≡ true;
  offset : (g.F.Shelf.seen l.shelf).offset ≡ l.taken;
  later : (g.F.Shelf.seen l.fn.shelf).faults ≤ (g.F.Shelf.seen l.shelf).faults;
  within : l.taken ≤ l.limit + 1;
  count : l.taken ≤ l.limit → length l.bytes.items ≡ l.taken;
  front : WhenTold (content (g.F.Shelf.seen l.shelf).holds (g.F.Shelf.seen l.shelf).asked) (λ file. Front file l.taken l.limit l.bytes.items);
}

abbrev pub decreases-loop-taken : goal.decreases-loop-taken
decreases-loop-taken g l = l.limit + 1 - l.taken
