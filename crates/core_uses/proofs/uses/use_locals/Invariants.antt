use Rattle.std.proofs.Common.{◌≡◌, drop}
use Rattle.swift_core.specs.Uses.{first_uses}
use Rattle.core_uses.proofs.uses.use_locals.Given as goal

abbrev pub invariant-loop-at : goal.invariant-loop-at
invariant-loop-at l = first_uses l.outer l.uses (drop l.at-index l.places) ≡ first_uses l.outer l.initial.uses l.places
