use Rattle.std.proofs.Common.{◌≡◌, map, take}
use Rattle.std.specs.Str.Lossy.{utf8_lossy}
use Rattle.swift_core.specs.declared.table.Declaration.{Declaration}
use Rattle.core_names.proofs.spelled.declaration_names.Given as goal

abbrev pub invariant-loop-declaration : goal.invariant-loop-declaration
invariant-loop-declaration l = l.names ≡ map (λ (d : Declaration). utf8_lossy d.name) (take l.declaration-index l.declarations)
