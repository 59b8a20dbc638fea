use Rattle.std.proofs.Common.{◌≡◌, map, take}
use Rattle.swift_core.specs.declared.table.Declaration.{Declaration}
use Rattle.core_names.specs.Spelled.{names_in}
use Rattle.core_names.proofs.spelled.member_names.Given as goal

abbrev pub invariant-loop-declaration : goal.invariant-loop-declaration
invariant-loop-declaration l = l.names ≡ map (λ (d : Declaration). names_in l.kind d.members) (take l.declaration-index l.declarations)
