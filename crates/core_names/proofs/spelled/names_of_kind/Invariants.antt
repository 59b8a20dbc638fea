use Rattle.std.proofs.Common.{◌≡◌, ◌++◌, drop}
use Rattle.core_names.specs.Spelled.{names_in}
use Rattle.core_names.proofs.spelled.names_of_kind.Given as goal

abbrev pub invariant-loop-member : goal.invariant-loop-member
invariant-loop-member l = l.names ++ names_in l.kind (drop l.member-index l.members) ≡ names_in l.kind l.members
