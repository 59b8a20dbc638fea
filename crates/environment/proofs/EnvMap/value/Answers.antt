use Rattle.std.proofs.Common.{◌<◌, length, slice_get, sym, ap, ◌∙◌, refl, arith}
use Rattle.std.proofs.lemmas.Option.{slice_get_read}
use Rattle.environment.proofs.EnvLemmas.{length-overlaid, slice_get-overlaid, found_or}
use Rattle.environment.proofs.EnvMap.value.Goals as goal

pub bounds-as_slice-key : goal.bounds-as_slice-key
bounds-as_slice-key c =
    let n = length-overlaid c.self.inside.defaults c.self.inside.changed.entries in
    let v = ap length c.self.view_is in
    omega (arith, c.requires, ap length c.as_slice.ensures)

pub returns-in-Some : goal.returns-in-Some
returns-in-Some c =
    let d = c.self.inside.defaults in
    let es = c.self.inside.changed.entries in
    let within : c.args.key < length d = let n = length-overlaid d es in let v = ap length c.self.view_is in omega (arith, c.requires) in
    ap (λ xs. slice_get xs c.args.key) (sym c.self.view_is) ∙ slice_get-overlaid d es c.args.key within ∙ ap (λ o. found_or o (slice_get d c.args.key)) (sym c.in-Some.ensures.value)

pub returns-in-None : goal.returns-in-None
returns-in-None c =
    let d = c.self.inside.defaults in
    let es = c.self.inside.changed.entries in
    let within : c.args.key < length d = let n = length-overlaid d es in let v = ap length c.self.view_is in omega (arith, c.requires) in
    ap (λ xs. slice_get xs c.args.key) (sym c.self.view_is) ∙ slice_get-overlaid d es c.args.key within ∙ ap (λ o. found_or o (slice_get d c.args.key)) (sym c.in-None.ensures.value)
    ∙ ap (λ xs. slice_get xs c.args.key) (sym c.as_slice.ensures) ∙ slice_get_read c.as_slice.result.now _ c.args.key _ refl (omega (arith, ap length c.as_slice.ensures)) c.index-as_slice-key.is
