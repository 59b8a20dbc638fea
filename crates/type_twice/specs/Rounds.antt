-- The depths of the declarations, found one after the other: those that are 1 deep, those that are 2 deep, and so on.
use Rattle.std.specs.Prelude.{◌≡◌, ℕ, zero, suc, ◌+◌, Bool, true, false, not, ◌&&◌, List, [], ◌∷◌, Option, Some, None, map, slice_get, if◌then◌else◌, nat_lt, nat_le}
use Rattle.std.specs.List.{list_all}
use Rattle.swift_core.specs.declared.ty.Ty.{Ty, out-Ty}
use Rattle.swift_core.specs.declared.ty.Ty.TheOpen.{Ty-F}

abbrev pub says_at : Option ℕ → ℕ → Bool
says_at None n = false
says_at (Some k) n = nat_lt 0 k && nat_le k n

-- the depth of declaration d is known, and is at most n; 0 stands for a depth that is not known
abbrev pub says : List ℕ → ℕ → ℕ → Bool
says known n d = says_at (slice_get known d) n

abbrev pub layer_by : (Ty → Bool) → (ℕ → Bool) → Ty-F Ty → Bool
layer_by test named (Ty-F.List t) = test t
layer_by test named (Ty-F.Optional t) = test t
layer_by test named (Ty-F.Named d) = named d
layer_by test named _ = true

-- the type is at most n deep, by the depths that are known
abbrev pub fits_known : List ℕ → ℕ → Ty → Bool
fits_known known zero t = false
fits_known known (suc n) t = layer_by (fits_known known n) (says known (suc n)) (out-Ty t)

abbrev pub found_depth : ℕ → Bool → ℕ
found_depth n b = if b then suc n else 0

-- a depth that is known stays; else it is one more than n where all that is held is at most n deep
abbrev pub next_depth : List ℕ → ℕ → Option ℕ → List Ty → ℕ
next_depth known n (Some (suc k)) ts = suc k
next_depth known n _ ts = found_depth n (list_all (fits_known known n) ts)

abbrev pub next_from : List ℕ → ℕ → ℕ → List (List Ty) → List ℕ
next_from known n at [] = []
next_from known n at (ts ∷ hs) = next_depth known n (slice_get known at) ts ∷ next_from known n (suc at) hs

abbrev pub unknown : List (List Ty) → List ℕ
unknown hs = map (λ ts. 0) hs

-- the depths that are at most n
abbrev pub known_at : List (List Ty) → ℕ → List ℕ
known_at hs zero = unknown hs
known_at hs (suc n) = next_from (known_at hs n) n 0 hs

-- the depth of declaration d is not found, so it is deeper than a type may be
unfoldable pub deep_known : List ℕ → ℕ → Bool
deep_known known d = not (says known 64 d)
