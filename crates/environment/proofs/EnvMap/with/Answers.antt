use Rattle.std.proofs.Common.{◌<◌, length, slice_set, ap, ◌∙◌, arith}
use Rattle.environment.proofs.EnvLemmas.{length-overlaid, overlaid-put}
use Rattle.environment.proofs.EnvMap.with.Goals as goal

pub returns-in-Ok : goal.returns-in-Ok
returns-in-Ok c =
    let d = c.copy-2.inside.defaults in
    let es = c.copy-2.inside.changed.entries in
    let same = c.copy-2.view_is ∙ c.in_ok-copy.ensures in
    let within : c.args.key < length d = let n = length-overlaid d es in let v = ap length same in omega (arith, c.requires) in
    overlaid-put d es c.insert.new.self.entries c.args.key c.args.value c.in-Ok.ensures.updates.0 within ∙ ap (λ xs. slice_set xs c.args.key c.args.value) same
