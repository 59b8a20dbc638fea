-- The links of a binding, which are entered from the back.
use Rattle.std.proofs.Common.{◌≡◌, ℕ, zero, suc, ◌+◌, ◌-◌, ◌<◌, ◌≤◌, List, [], ◌∷◌, ◌++◌, length, get_or, take, reverse, Result, Err, ap, sym, subst, ◌∙◌, arith, refl}
use Rattle.std.specs.Result.{IsErrAnd}
use Rattle.std.proofs.lemmas.List.{reverse-append, take_all, take_more}
use Rattle.swift_core.specs.declared.term.CoreHop.{CoreHop}
use Rattle.swift_core.specs.declared.term.Root.{Root}
use Rattle.swift_core.specs.Codes.{Parts as Program}
use Rattle.identity_path.specs.declared.place.Place.{Place}
use Rattle.value_calls.specs.declared.traps.TrapKind.TheVariants.{Calls}
use Rattle.value_calls.specs.declared.traps.Stop.{Stop}
use Rattle.core_means.specs.Asks.{World, Asks, Doing, and_then, spend, trap, Look, Reads, Gave, IsRight, Leaves, under}
use Rattle.core_means.specs.Means.{inner}
use Rattle.body_means.specs.Building.{links, link, root_place}
use Rattle.body_nodes.proofs.Runs.{right_first, right_rest, leaves_rest, leaves_stop}
use Rattle.body_parts.specs.Arms.{linked}

-- all but the last item, and the last one
ends : {X : Type 0} (xs : List X) (x : X) → 1 ≤ length xs → x ≡ get_or xs (length xs - 1) x → xs ≡ take (length xs - 1) xs ++ x ∷ []
ends xs x h e =
    sym (take_all (length xs - 1 + 1) xs (omega arith)) ∙ take_more xs (length xs - 1) x (omega arith)
    ∙ ap (λ z. take (length xs - 1) xs ++ z ∷ []) (sym e)

reverse_ends : {X : Type 0} (xs : List X) (x : X) → 1 ≤ length xs → x ≡ get_or xs (length xs - 1) x → reverse xs ≡ x ∷ reverse (take (length xs - 1) xs)
reverse_ends xs x h e = ap reverse (ends xs x h e) ∙ reverse-append (take (length xs - 1) xs) (x ∷ [])

-- what follows the unit of fuel
abbrev pub links_next : Program → ℕ → Root → List CoreHop → Doing Place
links_next p zero r hs = trap Calls
links_next p (suc room) r hs = linked p room r hs

pub links_pays : (p : Program) (n : ℕ) (r : Root) (hs : List CoreHop) (w : World) → links p n r hs w ≡ and_then (spend w) (λ _. links_next p n r hs)
unfolding links
links_pays p zero r hs w = refl
links_pays p (suc n) r [] w = refl
links_pays p (suc n) r (h ∷ hs) w = refl

pub linked_root : (p : Program) (n : ℕ) (r : Root) (hs : List CoreHop) (w : World) → length hs < 1 → linked p n r (reverse hs) w ≡ root_place r w
linked_root p n r [] w none = refl
linked_root p n r (h ∷ hs) w none = absurd (omega arith)

pub linked_ends : (p : Program) (n : ℕ) (r : Root) (hs : List CoreHop) (h : CoreHop) (w : World) → 1 ≤ length hs → h ≡ get_or hs (length hs - 1) h
    → linked p n r (reverse hs) w ≡ and_then (links p n r (reverse (take (length hs - 1) hs)) w) (λ place. link (inner p n) h place)
linked_ends p n r hs h w long last = ap (λ l. linked p n r l w) (reverse_ends hs h long last)

module _ (p : Program) (n : ℕ) (r : Root) (hs : List CoreHop) (look : Look) where
  -- where the link is not wrong, what is before it is not
  pub linked_right : (reads : Reads) (h : CoreHop) (w : World) → 1 ≤ length hs → h ≡ get_or hs (length hs - 1) h
      → IsRight (under look reads (linked p n r (reverse hs) w)) → IsRight (under look reads (links p n r (reverse (take (length hs - 1) hs)) w))
  linked_right reads h w long last right =
      right_first look reads (links p n r (reverse (take (length hs - 1) hs)) w) (λ place. link (inner p n) h place)
      (subst (λ (m : Asks Place). IsRight (under look reads m)) (linked_ends p n r hs h w long last) right)

  -- nor is the link itself
  pub link_right : (reads reads' : Reads) (h : CoreHop) (place : Place) (w w' : World) → 1 ≤ length hs → h ≡ get_or hs (length hs - 1) h
      → under look reads (links p n r (reverse (take (length hs - 1) hs)) w) ≡ Gave place w' reads'
      → IsRight (under look reads (linked p n r (reverse hs) w)) → IsRight (under look reads' (link (inner p n) h place w'))
  link_right reads reads' h place w w' long last before right =
      right_rest look reads reads' (links p n r (reverse (take (length hs - 1) hs)) w) (λ place. link (inner p n) h place) place w' before
      (subst (λ (m : Asks Place). IsRight (under look reads m)) (linked_ends p n r hs h w long last) right)

  -- where what is before it stops, it does
  pub linked_stops : (reads reads' : Reads) (h : CoreHop) (w w' : World) (stop : Stop) (res : Result Place Stop) → 1 ≤ length hs → h ≡ get_or hs (length hs - 1) h
      → IsErrAnd res (λ s. s ≡ stop) → Leaves {A = Place} (Err stop) w' reads' (under look reads (links p n r (reverse (take (length hs - 1) hs)) w))
      → Leaves res w' reads' (under look reads (linked p n r (reverse hs) w))
  linked_stops reads reads' h w w' stop res long last err stops =
      subst (λ (m : Asks Place). Leaves res w' reads' (under look reads m)) (sym (linked_ends p n r hs h w long last))
      (leaves_stop look reads reads' (links p n r (reverse (take (length hs - 1) hs)) w) (λ place. link (inner p n) h place) w' stop res err stops)

  -- it leaves what the link leaves
  pub linked_leaves : (reads reads' reads'' : Reads) (h : CoreHop) (place : Place) (w w' w'' : World) (res : Result Place Stop) → 1 ≤ length hs → h ≡ get_or hs (length hs - 1) h
      → under look reads (links p n r (reverse (take (length hs - 1) hs)) w) ≡ Gave place w' reads' → Leaves res w'' reads'' (under look reads' (link (inner p n) h place w'))
      → Leaves res w'' reads'' (under look reads (linked p n r (reverse hs) w))
  linked_leaves reads reads' reads'' h place w w' w'' res long last before leaves =
      subst (λ (m : Asks Place). Leaves res w'' reads'' (under look reads m)) (sym (linked_ends p n r hs h w long last))
      (leaves_rest look reads reads' reads'' (links p n r (reverse (take (length hs - 1) hs)) w) (λ place. link (inner p n) h place) place w' w'' res before leaves)
