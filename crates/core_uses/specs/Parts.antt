-- What each kind of part of a term, a statement or an item mentions: the folds of swift_core's Mentions at these types.
use Rattle.swift_core.specs.Mentions.{Mentions, TargetMentions, LabelMentions, call_step, core_step, hop_step, filling_step, piece_step, receiver_step, change_step, invocation_step, target_step, stmt_step, arm_step, case_step, item_step, label_step, view_step, item_arm_step, item_case_step, modifier_step}
use Rattle.swift_core.specs.declared.item.ItemArm.{ItemArm, fold-ItemArm}
use Rattle.swift_core.specs.declared.item.ItemCase.{ItemCase, fold-ItemCase}
use Rattle.swift_core.specs.declared.item.Label.{Label, fold-Label}
use Rattle.swift_core.specs.declared.item.ModifierCall.{ModifierCall, fold-ModifierCall}
use Rattle.swift_core.specs.declared.item.ViewCall.{ViewCall, fold-ViewCall}
use Rattle.swift_core.specs.declared.stmt.StmtArm.{StmtArm, fold-StmtArm}
use Rattle.swift_core.specs.declared.stmt.StmtCase.{StmtCase, fold-StmtCase}
use Rattle.swift_core.specs.declared.term.ChangeCall.{ChangeCall, fold-ChangeCall}
use Rattle.swift_core.specs.declared.term.CoreHop.{CoreHop, fold-CoreHop}
use Rattle.swift_core.specs.declared.term.Piece.{Piece, fold-Piece}

-- ---- terms that give a value

abbrev pub piece_mentions : Piece → Mentions
piece_mentions = fold-Piece Mentions Mentions Mentions Mentions Mentions Mentions Mentions Mentions TargetMentions call_step core_step hop_step filling_step piece_step receiver_step change_step invocation_step target_step

abbrev pub hop_mentions : CoreHop → Mentions
hop_mentions = fold-CoreHop Mentions Mentions Mentions Mentions Mentions Mentions Mentions Mentions TargetMentions call_step core_step hop_step filling_step piece_step receiver_step change_step invocation_step target_step

abbrev pub call_mentions : ChangeCall → Mentions
call_mentions = fold-ChangeCall Mentions Mentions Mentions Mentions Mentions Mentions Mentions Mentions TargetMentions call_step core_step hop_step filling_step piece_step receiver_step change_step invocation_step target_step

-- ---- statements

abbrev pub arm_mentions : StmtArm → Mentions
arm_mentions = fold-StmtArm Mentions Mentions Mentions stmt_step arm_step case_step

abbrev pub case_mentions : StmtCase → Mentions
case_mentions = fold-StmtCase Mentions Mentions Mentions stmt_step arm_step case_step

-- ---- views

abbrev pub label_mentions : Label → LabelMentions
label_mentions = fold-Label Mentions LabelMentions Mentions Mentions Mentions Mentions item_step label_step view_step item_arm_step item_case_step modifier_step

abbrev pub view_mentions : ViewCall → Mentions
view_mentions = fold-ViewCall Mentions LabelMentions Mentions Mentions Mentions Mentions item_step label_step view_step item_arm_step item_case_step modifier_step

abbrev pub item_arm_mentions : ItemArm → Mentions
item_arm_mentions = fold-ItemArm Mentions LabelMentions Mentions Mentions Mentions Mentions item_step label_step view_step item_arm_step item_case_step modifier_step

abbrev pub item_case_mentions : ItemCase → Mentions
item_case_mentions = fold-ItemCase Mentions LabelMentions Mentions Mentions Mentions Mentions item_step label_step view_step item_arm_step item_case_step modifier_step

abbrev pub modifier_mentions : ModifierCall → Mentions
modifier_mentions = fold-ModifierCall Mentions LabelMentions Mentions Mentions Mentions Mentions item_step label_step view_step item_arm_step item_case_step modifier_step
