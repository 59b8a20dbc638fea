-- What a stack knows of its views.
use Rattle.std.specs.Prelude.{ℕ, ℤ, ◌+◌, ◌-◌, ◌≤◌, ◌^◌, min}
use Rattle.align_guides.specs.declared.Proposal.{Proposal}
use Rattle.align_guides.specs.declared.Size.{Size}
use Rattle.align_guides.specs.declared.Axis.{Axis}

-- how many there are, what size each takes for a proposal, and where its guide stands on an axis at a size
pub record Views : Type 0 where
  pub count : ℕ
  pub size : ℕ → Proposal → Size
  pub guide : ℕ → Axis → Size → ℤ

-- a count of refusals rose; one that stands at its type's end stays there
abbrev pub Rose : ℕ → ℕ → Type 0
Rose before now = min (before + 1) (2 ^ 64 - 1) ≤ now
