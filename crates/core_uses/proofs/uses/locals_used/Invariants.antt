use Rattle.std.proofs.Common.{◌≡◌, [], drop}
use Rattle.std.specs.List.{flat_map}
use Rattle.swift_core.specs.Uses.{first_uses, locals_of}
use Rattle.core_uses.proofs.uses.locals_used.Given as goal

abbrev pub invariant-loop-mention : goal.invariant-loop-mention
invariant-loop-mention l =
    first_uses l.outer l.uses (flat_map (locals_of l.blocks) (drop l.mention-index l.mention-items)) ≡ first_uses l.outer [] (flat_map (locals_of l.blocks) l.mention-items)
