use Rattle.std.proofs.Common.{◌≡◌, ◌∙◌, map, ap, sym, refl, string_bytes, [], ◌∷◌, Option, None, inl, inr, true, false, true≢false, ◌⊎◌}
use Rattle.clap.specs.Words.{Kinds, IsAmong, fault_of, matches_of}
use Rattle.clap.specs.declared.error.kind.ErrorKind.{ErrorKind}
use Rattle.clap.specs.declared.error.kind.ErrorKind.TheVariants as kind
use Rattle.app_words.specs.Command.{command}
use Rattle.app_words.specs.Given.{given_by}
use Rattle.app_words.specs.Forms.{Form, FormOf, form_by, unless_refused}
use Rattle.app_words.proofs.read_form.Goals as goal

refused : (kinds : Kinds) (k : ErrorKind) (form : Option Form) → (k ≡ kind.OutOfMemory) ⊎ IsAmong k kinds → (k ≡ kind.OutOfMemory → ⊥) → None ≡ unless_refused kinds form
refused [] k form (inl memory) other = absurd (other memory)
refused [] k form (inr among) other = absurd among
refused (x ∷ xs) k form has other = refl

pub returns-in-Ok-clause-form : goal.returns-in-Ok-clause-form
unfolding FormOf
returns-in-Ok-clause-form c =
    let words = map string_bytes c.args.words.now in
    c.form_from.ensures.form ∙ ap form_by (c.given_in.ensures ∙ ap given_by c.in-Ok.ensures.matches)
    ∙ ap (λ kinds. unless_refused kinds (form_by (given_by (matches_of command words)))) (sym c.in-Ok.ensures.fails)

pub returns-clause-form : goal.returns-clause-form
unfolding FormOf
returns-clause-form c =
    let words = map string_bytes c.args.words.now in
    refused (fault_of command words) c.in-Err.error.kind _ c.in-Err.ensures.fails (λ is.
    let memory : c.kind.result ≡ kind.OutOfMemory = c.kind.ensures ∙ is in
    let bad : false ≡ true = rw memory at c.if-eq.ensures in
    absurd (true≢false (sym bad)))
