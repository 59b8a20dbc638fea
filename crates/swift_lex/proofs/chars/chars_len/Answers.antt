use Rattle.std.proofs.Common.{length, ◌∙◌, arith}
use Rattle.std.proofs.lemmas.List.{length-drop}
use Rattle.swift_lex.proofs.CharRuns.{chars_step}
use Rattle.swift_lex.proofs.chars.chars_len.Goals as goal

pub loop-turn-preserved : goal.loop-turn-preserved
loop-turn-preserved c =
    let t = chars_step c.args.in_line (length c.args.bytes.now) c.loop-turn._turn c.loop-turn.at c.loop-turn.rest.now c.char_len-len.result c.loop-turn-test.true c.char_len-len.ensures.value c.if-len-eq0.false in
    let len = length-drop c.char_len-len.result c.loop-turn.rest.now in
    let within = c.char_len-len.ensures.within in
    (rw c.split_at.ensures.back (c.loop-turn.invariant.0 ∙ t), rw c.split_at.ensures.back (omega (arith, len, within, c.loop-turn.invariant.1)))
