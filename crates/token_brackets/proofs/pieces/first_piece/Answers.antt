use Rattle.token_brackets.proofs.Cuts.{only_cut}
use Rattle.token_brackets.proofs.pieces.first_piece.Goals as goal

pub returns-clause-only : goal.returns-clause-only
returns-clause-only c = only_cut c.args.tokens.now c.split_at.result.0.now c.piece_len.result c.piece_len.ensures.value c.split_at.ensures.front
