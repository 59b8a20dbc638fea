-- Lengths, sizes and proposals: a length is at most 1,000,000, and a proposal has a length or nil for each axis.
use Rattle.std.specs.Prelude.{ℕ, ℤ, pos, negsuc, ◌≤◌, ◌≤ℤ◌, min, Option, Some, None}
use Rattle.std.specs.Int.{int_min, int_max}
use Rattle.align_guides.specs.declared.Proposal.{Proposal}
use Rattle.align_guides.specs.declared.Size.{Size}

-- the greatest length
abbrev pub limit : ℕ
limit = 1000000

-- a length, cut off at the limit
abbrev pub saturated : ℕ → ℕ
saturated n = min n limit

-- a number of a program as a length: a negative one counts as 0
abbrev pub length_of : ℤ → ℕ
length_of (pos n) = saturated n
length_of (negsuc n) = 0

-- a number held to the limit both ways
abbrev pub held : ℤ → ℤ
held z = int_max (negsuc 999999) (int_min (pos 1000000) z)

-- a number that stands within the limit both ways, as every guide does
pub record IsGuide (z : ℤ) : Type 0 where
  pub low : negsuc 999999 ≤ℤ z
  pub high : z ≤ℤ pos 1000000

-- what is proposed along one axis is nil or a length
abbrev pub IsProposed : Option ℕ → Type 0
IsProposed None = Unit {0}
IsProposed (Some n) = n ≤ limit

pub record IsProposal (p : Proposal) : Type 0 where
  pub w : IsProposed p.w
  pub h : IsProposed p.h

pub record IsSize (s : Size) : Type 0 where
  pub w : s.w ≤ limit
  pub h : s.h ≤ limit
