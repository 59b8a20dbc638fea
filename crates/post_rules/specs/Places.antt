-- Places that are written, and the values that are read there.
use Rattle.std.specs.Prelude.{List, [], ◌∷◌, ◌++◌}
use Rattle.swift_core.specs.declared.ids.CodeId.{CodeId}
use Rattle.swift_core.specs.declared.term.Binary.TheVariants as binary
use Rattle.swift_core.specs.declared.term.Change.{Change, roll-Change}
use Rattle.swift_core.specs.declared.term.ChangeCall.{ChangeCall}
use Rattle.swift_core.specs.declared.term.ChangeCall.TheOpen.{CoreHop-F}
use Rattle.swift_core.specs.declared.term.Core.{Core}
use Rattle.swift_core.specs.declared.term.Core.TheVariants as core
use Rattle.swift_core.specs.declared.term.CoreHop.{CoreHop, out-CoreHop}
use Rattle.swift_core.specs.declared.term.Filling.{Filling}
use Rattle.swift_core.specs.declared.term.Invocation.{Invocation, roll-Invocation}
use Rattle.swift_core.specs.declared.term.Lookup.{Lookup}
use Rattle.swift_core.specs.declared.term.Lookup.TheVariants as lookup
use Rattle.swift_core.specs.declared.term.Piece.{Piece}
use Rattle.swift_core.specs.declared.term.Receiver.{Receiver}
use Rattle.swift_core.specs.declared.term.Root.{Root}
use Rattle.swift_core.specs.declared.term.Root.TheVariants as root
use Rattle.swift_core.specs.declared.term.Target.{Target, out-Target, roll-Target}
use Rattle.swift_core.specs.declared.term.Unary.TheVariants as unary

abbrev pub target : Root → List CoreHop → Target
target r hops = roll-Target (record { root = r; hops = hops })

-- a place that is a whole variable
abbrev pub whole : Root → Target
whole r = target r []

-- a part of the value at a place
abbrev pub then_hop : Target → CoreHop → Target
then_hop t h = target (out-Target t).root ((out-Target t).hops ++ h ∷ [])

-- ---- the value at a place

abbrev pub look_at : Root → Lookup
look_at (root.Local at) = lookup.Local at
look_at (root.BoundLocal at) = lookup.BoundLocal at
look_at (root.BoundInput at) = lookup.BoundInput at
look_at (root.Slot place) = lookup.Slot place
look_at root.Itself = lookup.Itself

abbrev pub HopForm : Type 0
HopForm = CoreHop-F ChangeCall Core CoreHop Filling Piece Receiver Change Invocation Target

abbrev pub part_at : Core → HopForm → Core
part_at c (CoreHop-F.Field at) = core.Unary (unary.Field at) c
part_at c (CoreHop-F.Index i) = core.Binary binary.Element c i

-- the part of a value that each step leads to
abbrev pub read_on : Core → List CoreHop → Core
read_on c [] = c
read_on c (h ∷ hops) = read_on (part_at c (out-CoreHop h)) hops

-- a property of `self` is looked up by itself
abbrev pub read_own : HopForm → List CoreHop → Core
read_own (CoreHop-F.Field at) hops = read_on (core.Look (lookup.OwnField at)) hops
read_own (CoreHop-F.Index i) hops = read_on (core.Binary binary.Element (core.Look lookup.Itself) i) hops

abbrev pub read_from : Root → List CoreHop → Core
read_from root.Itself (h ∷ hops) = read_own (out-CoreHop h) hops
read_from r hops = read_on (core.Look (look_at r)) hops

unfoldable pub read : Target → Core
read t = read_from (out-Target t).root (out-Target t).hops

-- ---- terms that are records

abbrev pub invocation : CodeId → Receiver → List Core → Invocation
invocation code receiver arguments = roll-Invocation (record { code = code; receiver = receiver; arguments = arguments })

abbrev pub change : Target → ChangeCall → Change
change t call = roll-Change (record { target = t; call = call })
