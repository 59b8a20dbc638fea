-- What a member becomes, put together from its parts, and the context that its code stands in.
use Rattle.std.specs.Prelude.{ℕ, List, [], length, Option, Some, None, Bool, true, false}
use Rattle.swift_core.specs.declared.table.Table.{Table}
use Rattle.swift_core.specs.declared.table.Kind.{Kind}
use Rattle.swift_core.specs.declared.table.Kind.TheVariants as kind
use Rattle.swift_core.specs.declared.code.Code.{Code}
use Rattle.swift_core.specs.declared.code.CodeForm.{CodeForm}
use Rattle.swift_core.specs.declared.code.CodeForm.TheVariants as form
use Rattle.swift_core.specs.declared.code.CoreMember.{CoreMember}
use Rattle.swift_core.specs.declared.code.LocalType.{LocalType}
use Rattle.swift_core.specs.declared.term.Core.{Core}
use Rattle.swift_core.specs.declared.stmt.CoreStmt.{CoreStmt}
use Rattle.swift_core.specs.declared.item.CoreItem.{CoreItem}
use Rattle.type_base.specs.declared.scope.Stance.{Stance}
use Rattle.type_base.specs.declared.scope.Stance.TheVariants as stance
use Rattle.type_base.specs.Context.{Context}

-- ---- what a member becomes

-- the code of a member: nothing stands around it, and these are the types of its parameters
abbrev pub code_of : List LocalType → CodeForm → Code
code_of types f = record { outer = 0; kept = []; types = types; parameters = length types; form = f }

abbrev pub without_code : CoreMember
without_code = record { code = None; blocks = [] }

abbrev pub of_value : Core → CoreMember
of_value c = record { code = Some (code_of [] (form.Value c)); blocks = [] }

abbrev pub of_statements : List LocalType → List CoreStmt → CoreMember
of_statements types ss = record { code = Some (code_of types (form.Statements ss)); blocks = [] }

abbrev pub of_builder : List LocalType → List CoreItem → List Code → CoreMember
of_builder types items blocks = record { code = Some (code_of types (form.Builder items)); blocks = blocks }

-- ---- where its code stands

-- no locals
abbrev pub inside : Table → Option ℕ → Stance → Context
inside table owner s = record { table = table; owner = owner; stance = s; locals = []; floor = 0 }

-- What `self` is in the computed properties, the functions and the builders of a declaration. The body of an app names no
-- member of it.
abbrev pub stance_of : Kind → Stance
stance_of (kind.Data identifiable) = stance.Data
stance_of (kind.Enum iterable cases) = stance.Data
stance_of kind.View = stance.View
stance_of kind.App = stance.Initial
stance_of (kind.Key key) = stance.Key

-- and in a function that may be `mutating`
abbrev pub function_stance : Bool → Kind → Stance
function_stance true k = stance.Mutating
function_stance false k = stance_of k
