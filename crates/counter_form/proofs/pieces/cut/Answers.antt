use Rattle.std.proofs.Common.{ℕ, List, sym, ◌∙◌, ap, subst, length}
use Rattle.std.specs.List.{take_while}
use Rattle.counter_form.specs.Pieces.{is_in, has_length, Cut}
use Rattle.counter_form.specs.declared.pieces.Kind.{Kind}
use Rattle.counter_form.proofs.Cutting.{on_none, too_long, no_word, is_cut}
use Rattle.counter_form.proofs.pieces.cut.Goals as goal

pub returns-then-not-may_have : goal.returns-then-not-may_have
returns-then-not-may_have c = too_long c.args.piece c.args.bytes.now c.run_length-length.result
    (c.run_length-length.ensures ∙ ap (λ (k : Kind). length (take_while (is_in k) c.args.bytes.now)) c.text_kind-kind.ensures)
    (sym (c.may_have.ensures ∙ ap (λ (k : Kind). has_length k c.run_length-length.result) c.text_kind-kind.ensures) ∙ c.if-not-may_have.true)

pub returns-in_err-rest : goal.returns-in_err-rest
returns-in_err-rest c = on_none _ c.from_residual.ensures
    (no_word c.args.piece c.args.bytes.now c.run_length-length.result
    (c.run_length-length.ensures ∙ ap (λ (k : Kind). length (take_while (is_in k) c.args.bytes.now)) c.text_kind-kind.ensures)
    (λ rest is. c.in_err-rest.ensures rest (c.split_at.ensures.back ∙ is)))

pub returns : goal.returns
returns c = subst (λ (text : List ℕ). Cut c.args.piece c.args.bytes.now text c.in_ok-rest.rest.now) (sym c.split_at.ensures.front)
    (is_cut c.args.piece c.args.bytes.now c.run_length-length.result
    (c.run_length-length.ensures ∙ ap (λ (k : Kind). length (take_while (is_in k) c.args.bytes.now)) c.text_kind-kind.ensures)
    (sym (c.may_have.ensures ∙ ap (λ (k : Kind). has_length k c.run_length-length.result) c.text_kind-kind.ensures) ∙ c.if-not-may_have.false)
    c.in_ok-rest.rest.now (sym c.split_at.ensures.back ∙ c.in_ok-rest.ensures))
