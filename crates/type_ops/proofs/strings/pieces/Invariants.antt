use Rattle.std.proofs.Common.{◌≡◌}
use Rattle.type_base.specs.Context.{seen}
use Rattle.expr_rules.specs.Levels.{infer_to}
use Rattle.type_ops.proofs.Turns.{PiecesRest}
use Rattle.type_ops.proofs.strings.pieces.Given as goal

abbrev pub invariant-loop-part : goal.invariant-loop-part
invariant-loop-part g l = PiecesRest (infer_to l.fn.inner.room) l.parts (seen l.fn.scope) l.part-index l.pieces
