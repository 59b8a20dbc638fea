use Rattle.std.proofs.Common.{◌++◌, ap, ◌∙◌, suc, length}
use Rattle.std.specs.Prelude.{map}
use Rattle.std.proofs.lemmas.List.{map-append}
use Rattle.text_layout.specs.Cuts.{rows_up_to}
use Rattle.text_layout.specs.CutLines.{row_of}
use Rattle.text_layout.proofs.CutLemmas.{turn_more}
use Rattle.text_layout.proofs.cutting.cut.Goals as goal

pub loop-rest-preserved : goal.loop-rest-preserved
loop-rest-preserved c =
    let rest = c.split_at.result.1.now in
    let said = c.cut_first-step.ensures in
    ap (λ zs. zs ++ rows_up_to (suc (length rest)) c.args.width rest) (ap (map row_of) c.in_ok-push.ensures.items ∙ map-append row_of c.loop-rest.rows.items _)
    ∙ turn_more c.args.width c.count_fitting-k.result c.cut_first-step.result.next (map row_of c.loop-rest.rows.items) _ _ c.loop-rest.rest.now rest c.count_fitting-k.ensures.value c.if-k-rest.false c.loop-rest.invariant said.line said.rest c.split_at.ensures.back
