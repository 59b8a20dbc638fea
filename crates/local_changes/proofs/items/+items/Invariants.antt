use Rattle.std.proofs.Common.{◌≡◌, ◌++◌, map, drop}
use Rattle.local_changes.specs.Parts.{item_arm_alters, item_case_alters, modifier_alters}
use Rattle.swift_core.specs.Alters.{item_alters, all_of}
use Rattle.local_changes.proofs.items.+items.Given as goal

abbrev pub invariant-of_items-loop-item : goal.invariant-of_items-loop-item
invariant-of_items-loop-item l = l.out ++ all_of (map item_alters (drop l.item-index l.items)) ≡ l.initial.out ++ all_of (map item_alters l.items)

abbrev pub invariant-of_arms-loop-arm : goal.invariant-of_arms-loop-arm
invariant-of_arms-loop-arm l = l.out ++ all_of (map item_arm_alters (drop l.arm-index l.arms)) ≡ l.initial.out ++ all_of (map item_arm_alters l.arms)

abbrev pub invariant-of_cases-loop-case : goal.invariant-of_cases-loop-case
invariant-of_cases-loop-case l = l.out ++ all_of (map item_case_alters (drop l.case-index l.cases)) ≡ l.initial.out ++ all_of (map item_case_alters l.cases)

abbrev pub invariant-of_modifiers-loop-modifier : goal.invariant-of_modifiers-loop-modifier
invariant-of_modifiers-loop-modifier l = l.out ++ all_of (map modifier_alters (drop l.modifier-index l.modifiers)) ≡ l.initial.out ++ all_of (map modifier_alters l.modifiers)
