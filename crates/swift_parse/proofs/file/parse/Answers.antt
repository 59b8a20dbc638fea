use Rattle.std.proofs.Common.{List, sym, subst}
use Rattle.swift_lex.specs.declared.token.Token.{Token}
use Rattle.swift_parse.specs.File.{IsAnswer}
use Rattle.swift_parse.proofs.Files.{one_answer}
use Rattle.swift_parse.proofs.file.parse.Goals as goal

pub returns-clause-answer : goal.returns-clause-answer
returns-clause-answer c = subst (λ (v : List Token). IsAnswer v c.answer.result) c.deref.ensures.value c.answer.ensures

pub returns-clause-only : goal.returns-clause-only
returns-clause-only c other e =
    one_answer c.deref.result.now c.answer.result other c.answer.ensures (subst (λ (v : List Token). IsAnswer v other) (sym c.deref.ensures.value) e)
