use Rattle.swift_core.specs.declared.term.Core.{size-Core}
use Rattle.eval_forms.proofs.forms.+promotion.Given as goal

abbrev pub decreases-value_form : goal.decreases-value_form
decreases-value_form g l = size-Core l.term.now
