use Rattle.std.proofs.Common.{arith}
use Rattle.text_layout.proofs.CutLemmas.{soft_cut}
use Rattle.text_layout.proofs.cutting.cut_soft.Goals as goal

pub returns-else-n-eq0-clause-line : goal.returns-else-n-eq0-clause-line
returns-else-n-eq0-clause-line c = (soft_cut c.args.rest.now c.args.i c.args.k _ _ c.requires.space (omega arith) c.trimmed_len-n.ensures.value c.leading_spaces-skipped.ensures.value).0

pub returns-else-n-eq0-clause-rest : goal.returns-else-n-eq0-clause-rest
returns-else-n-eq0-clause-rest c = (soft_cut c.args.rest.now c.args.i c.args.k _ _ c.requires.space (omega arith) c.trimmed_len-n.ensures.value c.leading_spaces-skipped.ensures.value).1
