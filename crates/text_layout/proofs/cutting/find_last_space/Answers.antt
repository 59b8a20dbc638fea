use Rattle.std.proofs.Common.{take, ap, sym, ◌∙◌, arith, cond}
use Rattle.std.specs.Prelude.{Some, ◌-◌}
use Rattle.text_layout.specs.Cuts.{last_space}
use Rattle.text_layout.proofs.CutLemmas.{last_before}
use Rattle.text_layout.proofs.cutting.find_last_space.Goals as goal

pub returns-then-is_space-clause-value : goal.returns-then-is_space-clause-value
returns-then-is_space-clause-value c =
    let cs = c.args.cs.now in
    let i = c.loop-i.i - 1 in
    sym (sym c.loop-i.invariant.told ∙ last_before cs c.loop-i.i i c.index-cs-i.result (omega arith) (omega arith) c.index-cs-i.is ∙ ap (λ b. cond b (Some i) (last_space (take i cs))) (sym c.is_space.ensures ∙ c.if-is_space.true))

pub loop-i-preserved : goal.loop-i-preserved
loop-i-preserved c =
    let cs = c.args.cs.now in
    let i = c.loop-i.i - 1 in
    record {
      within = omega arith;
      told = sym (last_before cs c.loop-i.i i c.index-cs-i.result (omega arith) (omega arith) c.index-cs-i.is ∙ ap (λ b. cond b (Some i) (last_space (take i cs))) (sym c.is_space.ensures ∙ c.if-is_space.false)) ∙ c.loop-i.invariant.told;
    }
