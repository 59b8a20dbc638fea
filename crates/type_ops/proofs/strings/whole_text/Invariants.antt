use Rattle.std.proofs.Common.{◌≡◌}
use Rattle.type_ops.proofs.Texts.{TextRest}
use Rattle.type_ops.proofs.strings.whole_text.Given as goal

abbrev pub invariant-loop-part : goal.invariant-loop-part
invariant-loop-part l = TextRest l.parts l.part-index l.bytes.items
