-- What is asked of the table and of what is written, so that what the rules of members relate is well typed.
use Rattle.std.specs.Prelude.{◌≡◌, ℕ, true, Option, Some, None, slice_get}
use Rattle.swift_ast.specs.declared.piece.MemberForm.{MemberForm}
use Rattle.swift_ast.specs.declared.piece.MemberForm.TheVariants as member
use Rattle.swift_ast.specs.declared.tree.Expr.{Expr}
use Rattle.swift_core.specs.Context.{initial_of}
use Rattle.swift_core.specs.Typing.{stands_in}
use Rattle.swift_core.specs.declared.table.Argument.{Argument}
use Rattle.swift_core.specs.declared.table.Declaration.{Declaration}
use Rattle.swift_core.specs.declared.table.Initial.TheVariants as initial
use Rattle.swift_core.specs.declared.table.MemberPlace.{MemberPlace}
use Rattle.swift_core.specs.declared.table.Signature.{Signature}
use Rattle.swift_core.specs.declared.table.SignatureForm.{SignatureForm}
use Rattle.swift_core.specs.declared.table.SignatureForm.TheVariants as form
use Rattle.swift_core.specs.declared.table.Table.{Table}

-- each member that fits its declaration has a form that stands in the kind of the declaration
abbrev pub FormsStand : Table → Type 0
FormsStand table = (d at : ℕ) (declaration : Declaration) (s : Signature) → slice_get table.declarations d ≡ Some declaration → slice_get declaration.members at ≡ Some s
    → (s.form ≡ form.Unfit → ⊥) → stands_in declaration.kind s.form ≡ true

-- by its signature a property begins with what is written exactly where something is written
abbrev pub Starts : Argument → Option Expr → Type 0
Starts a (Some e) = initial_of a ≡ Some initial.Written
Starts a None = initial_of a ≡ Some initial.Written → ⊥

-- this is so of a property that is written like this
abbrev pub StartsAsWritten : SignatureForm → MemberForm → Type 0
StartsAsWritten (form.Stored at b t a) (member.Stored binder name declared value) = Starts a value
StartsAsWritten (form.State slot t a) (member.Stored binder name declared value) = Starts a value
StartsAsWritten s f = Unit {0}

-- and of the member at this place
abbrev pub StartsAt : Table → MemberPlace → MemberForm → Type 0
StartsAt table place f = (d : ℕ) (declaration : Declaration) (s : Signature) → place.declaration ≡ Some d → slice_get table.declarations d ≡ Some declaration
    → slice_get declaration.members place.at ≡ Some s → StartsAsWritten s.form f
