-- What is so far in a chain, where it is none of the kinds that are asked for.
use Rattle.std.proofs.Common.{◌≡◌, None, refl}
use Rattle.swift_core.specs.declared.term.Core.{Core}
use Rattle.swift_core.specs.declared.term.Target.{Target}
use Rattle.swift_core.specs.declared.ty.Ty.{Ty}
use Rattle.post_rules.specs.declared.chained.Chained.{Chained}
use Rattle.post_rules.specs.declared.chained.Chained.TheVariants as chained
use Rattle.post_rules.specs.Chains.{element_of, place_of, bound_of}

pub element_none : (s : Chained) (i : Core) → ((c : Core) (t : Ty) → s ≡ chained.Value c t → ⊥) → ((p : Target) (t : Ty) → s ≡ chained.Place p t → ⊥) → element_of s i ≡ None
element_none (chained.Value c t) i v p = absurd (v c t refl)
element_none (chained.Place q t) i v p = absurd (p q t refl)
element_none chained.Itself i v w = refl
element_none (chained.Named d) i v w = refl
element_none (chained.BuiltIn b) i v w = refl
element_none (chained.Next at t) i v w = refl
element_none (chained.Function r d m) i v w = refl
element_none (chained.Mutating p d m) i v w = refl
element_none (chained.Asks c t m) i v w = refl
element_none (chained.Changes p t m) i v w = refl
element_none (chained.Toggles p) i v w = refl
element_none (chained.Indices c) i v w = refl
element_none (chained.Effect e) i v w = refl

pub place_none : (s : Chained) → ((p : Target) (t : Ty) → s ≡ chained.Place p t → ⊥) → place_of s ≡ None
place_none (chained.Value c t) n = refl
place_none (chained.Place q t) n = absurd (n q t refl)
place_none chained.Itself n = refl
place_none (chained.Named d) n = refl
place_none (chained.BuiltIn b) n = refl
place_none (chained.Next at t) n = refl
place_none (chained.Function r d m) n = refl
place_none (chained.Mutating p d m) n = refl
place_none (chained.Asks c t m) n = refl
place_none (chained.Changes p t m) n = refl
place_none (chained.Toggles p) n = refl
place_none (chained.Indices c) n = refl
place_none (chained.Effect e) n = refl

pub bound_none : (s : Chained) → ((p : Target) (t : Ty) → s ≡ chained.Place p t → ⊥) → bound_of s ≡ None
bound_none (chained.Value c t) n = refl
bound_none (chained.Place q t) n = absurd (n q t refl)
bound_none chained.Itself n = refl
bound_none (chained.Named d) n = refl
bound_none (chained.BuiltIn b) n = refl
bound_none (chained.Next at t) n = refl
bound_none (chained.Function r d m) n = refl
bound_none (chained.Mutating p d m) n = refl
bound_none (chained.Asks c t m) n = refl
bound_none (chained.Changes p t m) n = refl
bound_none (chained.Toggles p) n = refl
bound_none (chained.Indices c) n = refl
bound_none (chained.Effect e) n = refl
