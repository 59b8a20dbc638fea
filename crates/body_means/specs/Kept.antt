-- What an action block keeps of the locals, and what the closure of a preference reader captures.
use Rattle.std.specs.Prelude.{ℕ, List, [], ◌∷◌, ◌++◌, Option, Some, None, slice_get}
use Rattle.identity_path.specs.declared.input.Input.{Input}
use Rattle.swift_core.specs.declared.code.Code.{Code}
use Rattle.swift_core.specs.declared.ids.BlockId.{BlockId}
use Rattle.swift_core.specs.Codes.{Parts as Program, block_id}
use Rattle.core_means.specs.declared.parts.Local.{Local}
use Rattle.core_means.specs.declared.parts.Local.TheVariants as local
use Rattle.core_means.specs.Asks.{Doing, ◌>>=◌, give, given, found}
use Rattle.core_means.specs.Means.{code_of}
use Rattle.core_means.specs.Places.{local_at}
use Rattle.view_nodes.specs.declared.node.Handler.{Handler}
use Rattle.body_means.specs.Building.{Building}

-- ---- the locals that a block uses, in the order of their first use

-- A local that this run of the body made is kept. One that the reader captured, or its preference, is not: the block sees the
-- present one when it runs.
abbrev pub own_in : Option Local → Option (Option Input)
own_in None = None
own_in (Some (local.Holds v)) = Some (Some v)
own_in (Some (local.Captured n)) = Some None
own_in (Some local.Preference) = Some None
own_in (Some local.Absent) = None

unfoldable pub own_at : ℕ → Doing (Option Input)
own_at k = λ w. given (own_in (slice_get w.locals k)) w

abbrev pub with_own : List Input → Option Input → List Input
with_own kept None = kept
with_own kept (Some v) = kept ++ v ∷ []

unfoldable pub kept_from : List Input → List ℕ → Doing (List Input)
kept_from kept [] = give kept
kept_from kept (k ∷ ks) = own_at k >>= λ o. kept_from (with_own kept o) ks

-- What a reader's closure uses is captured. To capture what an outer reader captured, or its preference, is to look it up.
unfoldable pub captured_from : List Input → List ℕ → Doing (List Input)
captured_from captured [] = give captured
captured_from captured (k ∷ ks) = local_at k >>= λ v. captured_from (captured ++ v ∷ []) ks

-- ---- blocks

pub record Block : Type 0 where
  pub number : ℕ
  pub code : Code

abbrev pub numbered_block : ℕ → Option Code → Option Block
numbered_block n None = None
numbered_block n (Some c) = Some (record { number = n; code = c })

abbrev pub block_of : Program → Option ℕ → Option Block
block_of p None = None
block_of p (Some n) = numbered_block n (code_of p n)

-- the block of the member whose code this is
abbrev pub block_at : Program → ℕ → BlockId → Option Block
block_at p code id = block_of p (block_id p code id.number)

abbrev pub handler_with : ℕ → List Input → Handler
handler_with n kept = record { code = record { number = n }; locals = kept }

-- The action block with the locals that it keeps. Nothing is looked up.
unfoldable pub handler : Building → BlockId → Doing Handler
handler b id = found (block_at b.inside.program b.code id) (λ block. kept_from [] block.code.kept >>= λ kept. give (handler_with block.number kept))
