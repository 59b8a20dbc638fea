-- A scope that the code has changed, as a search finds it.
use Rattle.std.specs.Prelude.{◌≡◌, Option, Some, None, Result, Ok, Err, ⊤}
use Rattle.type_base.specs.declared.fault.Fault.{Fault}
use Rattle.type_base.specs.declared.fault.Fault.TheVariants.{NotTyped, OutOfMemory}
use Rattle.type_base.specs.declared.scope.Scope.{Scope}
use Rattle.type_base.specs.Context.{Context, seen}

abbrev pub Scoped : {A : Type 0} → Result A Fault → Scope → Option Context → Type 0
Scoped (Ok r) scope found = found ≡ Some (seen scope)
Scoped (Err NotTyped) scope found = found ≡ None
Scoped (Err OutOfMemory) scope found = ⊤
