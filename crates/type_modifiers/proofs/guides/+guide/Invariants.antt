use Rattle.std.proofs.Common.{◌≡◌, ◌+◌, ◌*◌, drop}
use Rattle.modifier_rules.specs.Guides.{links_by, guide_to}
use Rattle.type_modifiers.proofs.guides.+guide.Given as goal

abbrev pub decreases-guide_to : goal.decreases-guide_to
decreases-guide_to l = 4 * l.room

abbrev pub decreases-guide_at : goal.decreases-guide_at
decreases-guide_at l = 4 * l.room + 3

abbrev pub decreases-links_to : goal.decreases-links_to
decreases-links_to l = 4 * l.room + 2

abbrev pub decreases-link_to : goal.decreases-link_to
decreases-link_to l = 4 * l.room + 1

-- the operators that are left do the rest
abbrev pub invariant-links_to-loop-link : goal.invariant-links_to-loop-link
invariant-links_to-loop-link l = links_by (guide_to l.room l.d) l.fn.left l.links ≡ links_by (guide_to l.room l.d) l.left (drop l.link-index l.links)
