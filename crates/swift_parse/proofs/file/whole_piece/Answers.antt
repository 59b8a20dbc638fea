use Rattle.std.proofs.Common.{◌<◌, length, arith, sym, ◌∙◌}
use Rattle.std.proofs.lemmas.Bool.{eqb-true, eqb-false}
use Rattle.swift_parse.proofs.Files.{stops_piece, piece_whole, piece_left}
use Rattle.swift_parse.proofs.file.whole_piece.Goals as goal

pub returns-in-Err : goal.returns-in-Err
returns-in-Err c = stops_piece c.args.total c.args.tokens.now c.in-Err.stop c.in-Err.ensures

pub returns-then-is_empty : goal.returns-then-is_empty
returns-then-is_empty c =
    piece_whole c.args.total c.args.tokens.now c.in-Ok.piece c.piece_of.new.tokens.rest.now c.in-Ok.ensures (eqb-true (length c.piece_of.new.tokens.rest.now) 0 (sym c.is_empty.ensures ∙ c.if-is_empty.true))

pub returns-else-is_empty : goal.returns-else-is_empty
returns-else-is_empty c =
    let some = eqb-false (length c.piece_of.new.tokens.rest.now) 0 (sym c.is_empty.ensures ∙ c.if-is_empty.false) in
    piece_left c.args.total c.args.tokens.now c.in-Ok.piece c.piece_of.new.tokens.rest.now c.in-Ok.ensures (omega (arith, some))
