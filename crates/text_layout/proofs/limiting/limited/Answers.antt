use Rattle.std.proofs.Common.{◌<◌, ◌∙◌, ap, sym}
use Rattle.std.specs.Prelude.{map}
use Rattle.text_layout.specs.CutLines.{row_of}
use Rattle.text_layout.specs.Lines.{limited}
use Rattle.text_layout.proofs.LimitLemmas.{cut_off}
use Rattle.text_layout.proofs.limiting.limited.Goals as goal

pub returns-in_ok-push-in-Some : goal.returns-in_ok-push-in-Some
returns-in_ok-push-in-Some c =
    let n = c.in-Some.n in
    let rows = c.args.rows.now in
    let some : 0 < n = c.requires n c.in-Some.is in
    c.in_ok-push-in-Some.ensures.items
    ∙ cut_off n c.args.width rows c.index-rows-n.result c.in_ok-lines-in-Some.lines.items _ some c.if-rows-n.false c.index-rows-n.is c.in_ok-lines-in-Some.ensures c.in_ok-shortened-in-Some.ensures
    ∙ ap (λ o. limited o c.args.width (map row_of rows)) (sym c.in-Some.is)
