use Rattle.std.proofs.Common.{◌≡◌, map, take}
use Rattle.type_table.specs.Signatures.{param_signature}
use Rattle.type_table.proofs.forms.params_of.Given as goal

abbrev pub invariant-loop-param : goal.invariant-loop-param
invariant-loop-param l = l.out ≡ map (param_signature l.heads) (take l.param-index l.params)
