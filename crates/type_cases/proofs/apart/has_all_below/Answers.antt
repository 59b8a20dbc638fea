use Rattle.std.proofs.Common.{◌∙◌, sym, arith}
use Rattle.std.specs.BTreeSet.{contains}
use Rattle.std.specs.Ordering.{nat_cmp}
use Rattle.type_cases.proofs.KeyLaws.{below_false}
use Rattle.type_cases.proofs.apart.has_all_below.Goals as goal

pub returns-then-not-contains : goal.returns-then-not-contains
returns-then-not-contains c =
    record { value = sym (below_false (λ p. contains nat_cmp c.args.set.now p) c.args.count c.loop-place.place-counter (omega arith) (sym c.contains.ensures ∙ c.if-not-contains.true)) }
