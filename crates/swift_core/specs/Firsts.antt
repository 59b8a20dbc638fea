-- For each member the number of blocks before its own, and how these numbers and the numbers of members find a block.
use Rattle.std.specs.Prelude.{◌≡◌, ℕ, zero, suc, ◌+◌, ◌-◌, ◌<◌, ◌≤◌, List, [], ◌∷◌, ◌++◌, length, take, drop, Option, Some, None, slice_get}
use Rattle.std.specs.List.{flat_map}
use Rattle.swift_core.specs.declared.code.Code.{Code}
use Rattle.swift_core.specs.declared.code.CoreMember.{CoreMember}
use Rattle.swift_core.specs.Codes.{blocks_of, homes_from}

-- where so many blocks stand before
unfoldable pub firsts_from : ℕ → List CoreMember → List ℕ
firsts_from n [] = []
firsts_from n (m ∷ ms) = n ∷ firsts_from (n + length m.blocks) ms
