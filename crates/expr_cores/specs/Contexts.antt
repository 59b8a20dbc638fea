-- The context of a core term where a part of the source stands, and what is asked of the declarations.
use Rattle.std.specs.Prelude.{◌≡◌, ℕ, ◌<◌, Bool, List, map, Option, Some, slice_get}
use Rattle.swift_core.specs.Context as cores
use Rattle.swift_core.specs.Context.{Itself, Part, part_at, initial_of}
use Rattle.swift_core.specs.Types.{inside_at}
use Rattle.swift_core.specs.Typing.{Has}
use Rattle.swift_core.specs.declared.code.Code.{Code}
use Rattle.swift_core.specs.declared.table.Declaration.{Declaration}
use Rattle.swift_core.specs.declared.table.Initial.TheVariants as initial
use Rattle.swift_core.specs.declared.table.Kind.TheVariants as kind
use Rattle.swift_core.specs.declared.table.Signature.{Signature}
use Rattle.swift_core.specs.declared.table.SignatureForm.TheVariants as form
use Rattle.swift_core.specs.declared.table.Table.{Table}
use Rattle.swift_core.specs.declared.term.Core.{Core, out-Core}
use Rattle.swift_core.specs.declared.ty.Ty.{Ty, out-Ty}
use Rattle.type_base.specs.Context.{Context}
use Rattle.type_base.specs.Rules.{Rule}
use Rattle.type_base.specs.declared.scope.Local.{Local}
use Rattle.type_base.specs.declared.scope.LocalKind.{LocalKind}
use Rattle.type_base.specs.declared.scope.LocalKind.TheVariants as local
use Rattle.type_base.specs.declared.scope.Stance.{Stance}
use Rattle.type_base.specs.declared.scope.Stance.TheVariants as stance

abbrev pub itself_of : Stance → Itself
itself_of stance.View = Itself.a_view
itself_of stance.Data = Itself.a_value
itself_of stance.Mutating = Itself.a_changed_value
itself_of _ = Itself.no_self

-- what `self` is, with the blocks of the member so far
abbrev pub core_context : Context → List Code → cores.Context
core_context cx blocks = record { table = cx.table; owner = cx.owner; itself = itself_of cx.stance; blocks = blocks }

abbrev pub core_local : Ty → LocalKind → cores.Local
core_local t local.Place = cores.Local.placed t
core_local t _ = cores.Local.valued t

abbrev pub core_locals : List Local → List cores.Local
core_locals = map (λ (l : Local). core_local l.ty l.kind)

-- each case that an enum has as a member is one of its cases by number
abbrev pub CasesFit : Table → Type 0
CasesFit table = (d at place : ℕ) (declaration : Declaration) (s : Signature) → slice_get table.declarations d ≡ Some declaration
    → slice_get declaration.members at ≡ Some s → s.form ≡ form.Case place
    → (names_all : Bool) × ((cases : ℕ) × (declaration.kind ≡ kind.Enum names_all cases) × (place < cases))

-- nil fills a property without an argument only where its type is an optional
abbrev pub NilIsOptional : Part → Type 0
NilIsOptional p = initial_of p.argument ≡ Some initial.Nil → (o : Ty) × (p.ty ≡ Some o) × ((t : Ty) × (inside_at (out-Ty o) ≡ Some t))

abbrev pub NilsFit : List Signature → Type 0
NilsFit ms = (at : ℕ) (s : Signature) (p : Part) → slice_get ms at ≡ Some s → part_at s.code s.form ≡ Some p → NilIsOptional p

-- what is asked of the declarations
pub record Fits (table : Table) : Type 0 where
  pub cases : CasesFit table
  -- nil is an initial value of optionals alone, in each declaration
  pub nils : (d : ℕ) (declaration : Declaration) → slice_get table.declarations d ≡ Some declaration → NilsFit declaration.members

-- a rule relates well typed cores alone
abbrev pub Good : Rule → Type 0
Good R = (blocks : List Code) (cx : Context) (want : Option Ty) (r : Core × Ty) → Fits cx.table → R cx want r
    → Has (core_context cx blocks) (core_locals cx.locals) (out-Core r.0) r.1
