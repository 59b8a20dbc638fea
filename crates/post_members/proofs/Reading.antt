-- The steps of a place, read one after the other.
use Rattle.std.proofs.Common.{◌≡◌, ◌<◌, List, [], ◌∷◌, ◌++◌, length, refl, sym, ap, ◌∙◌, arith, length-append}
use Rattle.swift_core.specs.declared.term.Core.{Core}
use Rattle.swift_core.specs.declared.term.Core.TheVariants as core
use Rattle.swift_core.specs.declared.term.CoreHop.{CoreHop, out-CoreHop}
use Rattle.swift_core.specs.declared.term.ChangeCall.TheOpen.{CoreHop-F}
use Rattle.swift_core.specs.declared.term.Root.{Root}
use Rattle.swift_core.specs.declared.term.Root.TheVariants as root
use Rattle.post_rules.specs.Places.{HopForm, part_at, read_on, read_own, read_from, look_at}

on_more : (c : Core) (hops : List CoreHop) (h : CoreHop) → read_on c (hops ++ h ∷ []) ≡ part_at (read_on c hops) (out-CoreHop h)
on_more c [] h = refl
on_more c (g ∷ hops) h = on_more (part_at c (out-CoreHop g)) hops h

own_more : (g : HopForm) (hops : List CoreHop) (h : CoreHop) → read_own g (hops ++ h ∷ []) ≡ part_at (read_own g hops) (out-CoreHop h)
own_more (CoreHop-F.Field at) hops h = on_more _ hops h
own_more (CoreHop-F.Index i) hops h = on_more _ hops h

from_more : (r : Root) (g : CoreHop) (hops : List CoreHop) (h : CoreHop) → read_from r (g ∷ (hops ++ h ∷ [])) ≡ part_at (read_from r (g ∷ hops)) (out-CoreHop h)
from_more root.Itself g hops h = own_more (out-CoreHop g) hops h
from_more (root.Local at) g hops h = on_more _ (g ∷ hops) h
from_more (root.BoundLocal at) g hops h = on_more _ (g ∷ hops) h
from_more (root.BoundInput at) g hops h = on_more _ (g ∷ hops) h
from_more (root.Slot place) g hops h = on_more _ (g ∷ hops) h

pub read_last : (r : Root) (hops front : List CoreHop) (h : CoreHop) (c : Core) → hops ≡ front ++ h ∷ [] → (front ≡ [] → ⊥) → c ≡ read_from r front → part_at c (out-CoreHop h) ≡ read_from r hops
read_last r hops [] h c e n is = absurd (n refl)
read_last r hops (g ∷ front) h c e n is = ap (λ d. part_at d (out-CoreHop h)) is ∙ sym (from_more r g front h) ∙ ap (read_from r) (sym e)

pub read_one : (r : Root) (hops front : List CoreHop) (h : CoreHop) → hops ≡ front ++ h ∷ [] → front ≡ [] → read_from r (h ∷ []) ≡ read_from r hops
read_one r hops front h e n = ap (λ (hs : List CoreHop). read_from r (hs ++ h ∷ [])) (sym n) ∙ ap (read_from r) (sym e)

none_at : (r : Root) → core.Look (look_at r) ≡ read_from r []
none_at root.Itself = refl
none_at (root.Local at) = refl
none_at (root.BoundLocal at) = refl
none_at (root.BoundInput at) = refl
none_at (root.Slot place) = refl

pub read_none : (r : Root) (hops : List CoreHop) → hops ≡ [] → core.Look (look_at r) ≡ read_from r hops
read_none r hops e = none_at r ∙ ap (read_from r) (sym e)

pub fewer : (hops front : List CoreHop) (h : CoreHop) → hops ≡ front ++ h ∷ [] → length front < length hops
fewer hops front h e = let l = ap length e in let k = length-append front (h ∷ []) in omega (arith, l, k)

pub read_other : (r : Root) (h : CoreHop) → (r ≡ root.Itself → ⊥) → part_at (core.Look (look_at r)) (out-CoreHop h) ≡ read_from r (h ∷ [])
read_other root.Itself h n = absurd (n refl)
read_other (root.Local at) h n = refl
read_other (root.BoundLocal at) h n = refl
read_other (root.BoundInput at) h n = refl
read_other (root.Slot place) h n = refl
