use Rattle.std.proofs.Common.{◌≡◌, ◌<◌, ◌^◌, take}
use Rattle.counter_form.specs.Pieces.{value}
use Rattle.counter_form.proofs.pieces.number.Given as goal

abbrev pub invariant-loop-digit : goal.invariant-loop-digit
invariant-loop-digit l = record { so_far : l.number ≡ value (take l.digit-index l.digits); small : l.number < 10 ^ l.digit-index }
