use Rattle.std.proofs.Common.{arith}
use Rattle.swift_lex.proofs.HexRuns.{hex_small}
use Rattle.swift_lex.proofs.text.hex_value.Goals as goal

pub overflow_mul-n : goal.overflow_mul-n
overflow_mul-n c = let h = hex_small c.loop-b.n c.loop-b.b-index (omega arith) c.loop-b.invariant.1 in omega arith

pub overflow_add-n : goal.overflow_add-n
overflow_add-n c = let h = hex_small c.loop-b.n c.loop-b.b-index (omega arith) c.loop-b.invariant.1 in omega arith
