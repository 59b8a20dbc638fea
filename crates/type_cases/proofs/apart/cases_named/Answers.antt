use Rattle.std.proofs.Common.{◌∙◌}
use Rattle.type_cases.proofs.KeyLaws.{cases_named}
use Rattle.type_cases.proofs.apart.cases_named.Goals as goal

pub returns : goal.returns
returns c =
    record { value = λ all. c.has_all_below.ensures.value ∙ cases_named c.args.declaration c.args.cases c.args.values.now c.in_ok-keys.keys.items c.in_ok-set.set c.in_ok-keys.ensures.value c.in_ok-set.ensures.value all }
