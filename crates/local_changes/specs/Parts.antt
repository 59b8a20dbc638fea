-- What each kind of part of a term or an item alters: the folds of swift_core's Alters at these types.
use Rattle.swift_core.specs.Alters.{Alters, TargetAlters, call_step, core_step, hop_step, filling_step, piece_step, receiver_step, change_step, invocation_step, target_step, item_step, label_step, view_step, item_arm_step, item_case_step, modifier_step}
use Rattle.swift_core.specs.declared.item.ItemArm.{ItemArm, fold-ItemArm}
use Rattle.swift_core.specs.declared.item.ItemCase.{ItemCase, fold-ItemCase}
use Rattle.swift_core.specs.declared.item.Label.{Label, fold-Label}
use Rattle.swift_core.specs.declared.item.ModifierCall.{ModifierCall, fold-ModifierCall}
use Rattle.swift_core.specs.declared.item.ViewCall.{ViewCall, fold-ViewCall}
use Rattle.swift_core.specs.declared.term.Change.{Change, fold-Change}
use Rattle.swift_core.specs.declared.term.ChangeCall.{ChangeCall, fold-ChangeCall}
use Rattle.swift_core.specs.declared.term.CoreHop.{CoreHop, fold-CoreHop}
use Rattle.swift_core.specs.declared.term.Invocation.{Invocation, fold-Invocation}
use Rattle.swift_core.specs.declared.term.Piece.{Piece, fold-Piece}

-- ---- terms that give a value

abbrev pub piece_alters : Piece → Alters
piece_alters = fold-Piece Alters Alters Alters Alters Alters Alters Alters Alters TargetAlters call_step core_step hop_step filling_step piece_step receiver_step change_step invocation_step target_step

abbrev pub hop_alters : CoreHop → Alters
hop_alters = fold-CoreHop Alters Alters Alters Alters Alters Alters Alters Alters TargetAlters call_step core_step hop_step filling_step piece_step receiver_step change_step invocation_step target_step

abbrev pub call_alters : ChangeCall → Alters
call_alters = fold-ChangeCall Alters Alters Alters Alters Alters Alters Alters Alters TargetAlters call_step core_step hop_step filling_step piece_step receiver_step change_step invocation_step target_step

abbrev pub change_alters : Change → Alters
change_alters = fold-Change Alters Alters Alters Alters Alters Alters Alters Alters TargetAlters call_step core_step hop_step filling_step piece_step receiver_step change_step invocation_step target_step

abbrev pub invocation_alters : Invocation → Alters
invocation_alters = fold-Invocation Alters Alters Alters Alters Alters Alters Alters Alters TargetAlters call_step core_step hop_step filling_step piece_step receiver_step change_step invocation_step target_step

-- ---- the items of a builder

abbrev pub label_alters : Label → Alters
label_alters = fold-Label Alters Alters Alters Alters Alters Alters item_step label_step view_step item_arm_step item_case_step modifier_step

abbrev pub view_alters : ViewCall → Alters
view_alters = fold-ViewCall Alters Alters Alters Alters Alters Alters item_step label_step view_step item_arm_step item_case_step modifier_step

abbrev pub item_arm_alters : ItemArm → Alters
item_arm_alters = fold-ItemArm Alters Alters Alters Alters Alters Alters item_step label_step view_step item_arm_step item_case_step modifier_step

abbrev pub item_case_alters : ItemCase → Alters
item_case_alters = fold-ItemCase Alters Alters Alters Alters Alters Alters item_step label_step view_step item_arm_step item_case_step modifier_step

abbrev pub modifier_alters : ModifierCall → Alters
modifier_alters = fold-ModifierCall Alters Alters Alters Alters Alters Alters item_step label_step view_step item_arm_step item_case_step modifier_step
