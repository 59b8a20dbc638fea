use Rattle.std.proofs.Common.{◌≡◌, ◌++◌, drop}
use Rattle.core_uses.specs.Runs.{readers_mention}
use Rattle.core_uses.proofs.form_mentions.of_readers.Given as goal

abbrev pub invariant-loop-block : goal.invariant-loop-block
invariant-loop-block l = l.out ++ readers_mention (drop l.block-index l.blocks) ≡ l.initial.out ++ readers_mention l.blocks
