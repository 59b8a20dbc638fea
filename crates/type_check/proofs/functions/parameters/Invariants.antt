use Rattle.std.proofs.Common.{◌≡◌, drop}
use Rattle.type_base.specs.Context.{seen}
use Rattle.member_rules.specs.Members.{with_parameters}
use Rattle.type_check.proofs.functions.parameters.Given as goal

-- the parameters that are left give what all give
abbrev pub invariant-loop-i : goal.invariant-loop-i
invariant-loop-i l = with_parameters l.signatures l.params (seen l.initial.scope) ≡ with_parameters (drop l.i l.signatures) (drop l.i l.params) (seen l.scope)
