use Rattle.std.proofs.Common.{◌≡◌, ◌≤◌, length, drop}
use Rattle.event_script.specs.Words.{number_of}
use Rattle.event_script.proofs.Numbering.{continued, IsShort}
use Rattle.event_script.proofs.words.number.Given as goal

abbrev pub invariant-loop-byte : goal.invariant-loop-byte
invariant-loop-byte l = record {
  short : length l.word ≤ 4;
  so_far : number_of l.word ≡ continued l.value (drop l.byte-index l.word);
  small : IsShort l.byte-index l.value;
}
