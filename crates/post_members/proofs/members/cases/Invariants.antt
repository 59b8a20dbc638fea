use Rattle.std.proofs.Common.{◌≡◌}
use Rattle.post_rules.specs.Members.{cases}
use Rattle.post_members.proofs.members.cases.Given as goal

abbrev pub invariant-loop-place : goal.invariant-loop-place
invariant-loop-place l = l.all ≡ cases l.kind l.place
