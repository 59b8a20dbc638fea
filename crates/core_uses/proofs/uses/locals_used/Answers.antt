use Rattle.std.proofs.Common.{rules, ap, ◌∙◌, []}
use Rattle.std.specs.List.{flat_map}
use Rattle.swift_core.specs.Uses.{first_uses, locals_of}
use Rattle.swift_core.specs.declared.mention.Mention.TheVariants as mention
use Rattle.core_uses.proofs.UseRuns.{uses_turn, uses_end}
use Rattle.core_uses.proofs.uses.locals_used.Goals as goal

pub loop-mention-preserved : goal.loop-mention-preserved
loop-mention-preserved c = uses_turn c.args.blocks.now c.args.outer c.as_slice-mention-items.result.now c.loop-mention.mention-index (mention.Local 0) c.loop-mention.uses c.use_mention.new.uses _
    (search rules) (search rules) c.loop-mention.invariant

pub returns : goal.returns
returns c = record { value = uses_end c.args.blocks.now c.args.outer c.as_slice-mention-items.result.now c.loop-mention.mention-index _ _ (search rules) c.loop-mention.invariant ∙ ap (λ m. first_uses c.args.outer [] (flat_map (locals_of c.args.blocks.now) m)) (c.as_slice-mention-items.ensures ∙ c.in_ok-mentions.ensures.value) }
