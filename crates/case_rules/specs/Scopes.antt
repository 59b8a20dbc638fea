-- The locals that a condition or a statement adds.
use Rattle.std.specs.Prelude.{ℕ, List, [], ◌∷◌, ◌++◌, Option, Some, None}
use Rattle.swift_core.specs.declared.ty.Ty.{Ty}
use Rattle.type_base.specs.declared.scope.Local.{Local}
use Rattle.type_base.specs.declared.scope.LocalKind.{LocalKind}
use Rattle.type_base.specs.Context.{Context}
use Rattle.type_base.specs.declared.scope.Scope.{Scope}
use Rattle.type_base.specs.Scopes.{with_local, pushed}

abbrev pub local : List ℕ → Ty → LocalKind → Local
local name t kind = record { name = name; ty = t; kind = kind }

-- with the local, if there is one
abbrev pub with_any : Context → Option Local → Context
with_any cx None = cx
with_any cx (Some l) = with_local cx l

-- with some more locals
abbrev pub with_locals : Context → List Local → Context
with_locals cx locals = record cx { locals = cx.locals ++ locals }

abbrev pub any_local : Option Local → List Local
any_local None = []
any_local (Some l) = l ∷ []

-- the scope that the code holds, with the local
abbrev pub any_pushed : Scope → Option Local → Scope
any_pushed s None = s
any_pushed s (Some l) = pushed s l
