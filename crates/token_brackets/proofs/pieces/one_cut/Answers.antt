use Rattle.std.proofs.Common.{length, arith}
use Rattle.token_brackets.proofs.Whole.{cut_all, one_cut}
use Rattle.token_brackets.proofs.pieces.one_cut.Goals as goal

pub returns-clause-cut : goal.returns-clause-cut
returns-clause-cut c = cut_all (length c.args.tokens.now) c.args.tokens.now (omega arith) c.requires

pub returns-clause-one : goal.returns-clause-one
returns-clause-one c pieces others a b = one_cut a b
