use Rattle.std.proofs.Common.{ap, ◌∙◌}
use Rattle.std.proofs.lemmas.Result.{IfOk-weaker}
use Rattle.app_words.specs.Forms.{FormOf}
use Rattle.app_words.proofs.Laws.{any_check, any_names}
use Rattle.app_words.proofs.Plain.{two_names}
use Rattle.app_words.proofs.form_of.Goals as goal

pub returns-clause-names : goal.returns-clause-names
returns-clause-names c = IfOk-weaker c.read_form.result _ _ (λ form is. record {
  plain = λ p app script words a s. is ∙ ap FormOf words ∙ two_names p app script a s;
  escaped = λ p app script words. is ∙ ap FormOf words ∙ any_names p app script;
  checked = λ p app words. is ∙ ap FormOf words ∙ any_check p app;
}) c.read_form.ensures.form
