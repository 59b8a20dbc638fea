-- A block that is there has a number.
use Rattle.std.proofs.Common.{◌≡◌, ℕ, Option, Some, None, IsSome, refl, ap, sym, subst, ◌∙◌}
use Rattle.swift_core.specs.declared.code.Code.{Code}
use Rattle.swift_core.specs.Codes.{Parts as Program}
use Rattle.core_means.specs.Means.{code_of}
use Rattle.body_means.specs.Kept.{block_of, numbered_block}

pub has_number : (p : Program) (o : Option ℕ) → IsSome (block_of p o) → IsSome o
has_number p None h = absurd (cc h)
has_number p (Some n) h = refl

pub has_code : (n : ℕ) (o : Option Code) → IsSome (numbered_block n o) → IsSome o
has_code n None h = absurd (cc h)
has_code n (Some c) h = refl

-- the code of the block, where the block is there
pub code_there : (p : Program) (o : Option ℕ) (n : ℕ) → IsSome (block_of p o) → o ≡ Some n → IsSome (code_of p n)
code_there p o n h e = has_code n (code_of p n) (subst (λ (q : Option ℕ). IsSome (block_of p q)) e h)

pub block_is : (p : Program) (o : Option ℕ) (n : ℕ) (c : Code) → o ≡ Some n → Some c ≡ code_of p n → block_of p o ≡ Some (record { number = n; code = c })
block_is p o n c e there = ap (block_of p) e ∙ ap (numbered_block n) (sym there)
