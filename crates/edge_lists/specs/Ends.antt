-- The ends of the list of a source.
use Rattle.std.specs.Prelude.{Some, None, Option}
use Rattle.edge_lists.specs.declared.node.NodePtr.{NodePtr}
use Rattle.edge_lists.specs.declared.lists.Ends.{Ends}

abbrev pub no_ends : Ends
no_ends = record { first = None; last = None }

-- the first, or else o
abbrev pub or_else : Option NodePtr → Option NodePtr → Option NodePtr
or_else (Some q) o = Some q
or_else None o = o

-- with p linked in last
abbrev pub followed : Ends → NodePtr → Ends
followed e p = record { first = or_else e.first (Some p); last = Some p }

-- with one taken out whose neighbours are these
abbrev pub parted : Ends → Option NodePtr → Option NodePtr → Ends
parted e prev next = record { first = elim prev [ None ↦ next | Some q ↦ e.first ]; last = elim next [ None ↦ prev | Some q ↦ e.last ] }
