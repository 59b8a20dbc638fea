-- Ranges whose numbers, and the number after them, have a sign and 63 bits or are 2 ^ 63.
use Rattle.std.specs.Prelude.{pos, ◌+ℤ◌, ◌≤ℤ◌}
use Rattle.core_means.specs.declared.parts.Numbers.{Numbers}

abbrev pub IsCounted : Numbers → Type 0
IsCounted numbers = (numbers.first +ℤ pos numbers.count) ≤ℤ pos 9223372036854775808
