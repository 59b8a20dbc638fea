use Rattle.std.proofs.Common.{◌≡◌, true}
use Rattle.std.specs.BTreeSet.{contains}
use Rattle.std.specs.Ordering.{nat_cmp}
use Rattle.type_cases.specs.Keys.{all_below}
use Rattle.type_cases.proofs.apart.has_all_below.Given as goal

abbrev pub invariant-loop-place : goal.invariant-loop-place
invariant-loop-place l = all_below (λ p. contains nat_cmp l.set p) l.place-counter ≡ true
