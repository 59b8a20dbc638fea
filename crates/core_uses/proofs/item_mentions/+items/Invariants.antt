use Rattle.std.proofs.Common.{◌≡◌, ◌++◌, map, drop}
use Rattle.core_uses.specs.Parts.{item_arm_mentions, item_case_mentions, modifier_mentions}
use Rattle.swift_core.specs.Mentions.{item_mentions, joined}
use Rattle.core_uses.proofs.item_mentions.+items.Given as goal

abbrev pub invariant-of_items-loop-item : goal.invariant-of_items-loop-item
invariant-of_items-loop-item l = l.out ++ joined (map item_mentions (drop l.item-index l.items)) ≡ l.initial.out ++ joined (map item_mentions l.items)

abbrev pub invariant-of_arms-loop-arm : goal.invariant-of_arms-loop-arm
invariant-of_arms-loop-arm l = l.out ++ joined (map item_arm_mentions (drop l.arm-index l.arms)) ≡ l.initial.out ++ joined (map item_arm_mentions l.arms)

abbrev pub invariant-of_cases-loop-case : goal.invariant-of_cases-loop-case
invariant-of_cases-loop-case l = l.out ++ joined (map item_case_mentions (drop l.case-index l.cases)) ≡ l.initial.out ++ joined (map item_case_mentions l.cases)

abbrev pub invariant-of_modifiers-loop-modifier : goal.invariant-of_modifiers-loop-modifier
invariant-of_modifiers-loop-modifier l = l.out ++ joined (map modifier_mentions (drop l.modifier-index l.modifiers)) ≡ l.initial.out ++ joined (map modifier_mentions l.modifiers)
