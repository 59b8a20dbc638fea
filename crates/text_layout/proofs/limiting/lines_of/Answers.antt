use Rattle.std.proofs.Common.{subst}
use Rattle.text_layout.specs.Lines.{IsCutAgain}
use Rattle.text_layout.proofs.WidthLemmas.{lines-fit}
use Rattle.text_layout.proofs.CountLemmas.{lines-some, lines-at_most}
use Rattle.text_layout.proofs.RecutLemmas.{lines-again}
use Rattle.text_layout.proofs.OkLemmas.{if_ok}
use Rattle.text_layout.proofs.limiting.lines_of.Goals as goal

pub returns-clause-fits : goal.returns-clause-fits
returns-clause-fits c = if_ok _ _ _ c.lines_of_str.ensures (λ lines e. lines-fit c.as_str.result.now c.args.width c.args.max_lines lines e)

pub returns-clause-at_most : goal.returns-clause-at_most
returns-clause-at_most c = if_ok _ _ _ c.lines_of_str.ensures (λ lines e. lines-at_most c.as_str.result.now c.args.width c.args.max_lines lines c.requires e)

pub returns-clause-some : goal.returns-clause-some
returns-clause-some c = if_ok _ _ _ c.lines_of_str.ensures (λ lines e. lines-some c.as_str.result.now c.args.width c.args.max_lines lines c.requires e)

pub returns-clause-again : goal.returns-clause-again
returns-clause-again c = if_ok _ _ _ c.lines_of_str.ensures (λ lines e. subst (λ text. IsCutAgain text c.args.width lines) c.as_str.ensures (lines-again c.as_str.result.now c.args.width c.args.max_lines lines c.requires e))
