use Rattle.std.proofs.Common.{◌≡◌, take, drop}
use Rattle.type_twice.specs.Held.{first_held, put_all}
use Rattle.type_twice.proofs.twice.first_repeat.Given as goal

abbrev pub invariant-loop-name : goal.invariant-loop-name
invariant-loop-name l = record {
  rest : first_held l.initial.names l.more ≡ first_held l.names (drop l.name-index l.more);
  so_far : l.names ≡ put_all l.initial.names (take l.name-index l.more);
}
