use Rattle.std.proofs.Common.{sym, ap, ◌∙◌, slice_set}
use Rattle.std.proofs.lemmas.Result.{on_ok_weaker, on_err_weaker}
use Rattle.std.proofs.lemmas.List.{set-set, set-get_or}
use Rattle.std.proofs.lemmas.Option.{get_or_from_slice_get}
use Rattle.sv_value.specs.Hops.{with_part}
use Rattle.bindings.proofs.+set.Goals as goal

pub set_in-returns-clause-ok : goal.set_in-returns-clause-ok
set_in-returns-clause-ok t c =
    let xs = c.args.parts.now in
    let i = c.args.at in
    let put = c.set.ensures ∙ ap (λ ys. slice_set ys i c.set_by-answer.new.value) c.replace-part.ensures.put ∙ set-set xs i _ c.set_by-answer.new.value in
    on_ok_weaker c.set_by-answer.result
    (λ e d. put ∙ ap (slice_set xs i) (e ∙ ap (with_part c.args.hops.now c.args.new) (sym (get_or_from_slice_get xs i _ d c.replace-part.ensures.was))))
    c.set_by-answer.ensures.ok

pub set_in-returns-clause-err : goal.set_in-returns-clause-err
set_in-returns-clause-err t c =
    let xs = c.args.parts.now in
    let i = c.args.at in
    let put = c.set.ensures ∙ ap (λ ys. slice_set ys i c.set_by-answer.new.value) c.replace-part.ensures.put ∙ set-set xs i _ c.set_by-answer.new.value in
    on_err_weaker c.set_by-answer.result
    (λ e. put ∙ ap (slice_set xs i) (e ∙ sym (get_or_from_slice_get xs i _ c.replace-part.result c.replace-part.ensures.was)) ∙ set-get_or xs i c.replace-part.result)
    c.set_by-answer.ensures.err
