use Rattle.std.proofs.Common.{◌≡◌, ◌++◌, drop}
use Rattle.std.specs.List.{flat_map}
use Rattle.swift_core.specs.Uses.{code_of}
use Rattle.core_uses.proofs.uses.codes.Given as goal

abbrev pub invariant-loop-mention : goal.invariant-loop-mention
invariant-loop-mention l = l.calls ++ flat_map code_of (drop l.mention-index l.mentions) ≡ flat_map code_of l.mentions
