-- The law on reads, for bodies: what a body gives depends on nothing but what it looked up.
use Rattle.std.specs.Prelude.{◌≡◌, ℕ, List, [], ◌∷◌, Option, Some, None, ⊤, slice_get}
use Rattle.std.proofs.Common.{sym, subst}
use Rattle.identity_path.specs.declared.input.Input.{Input}
use Rattle.identity_path.specs.declared.step.Step.{Step}
use Rattle.identity_path.specs.Cells.{CellMap}
use Rattle.swift_core.specs.declared.ids.BlockId.{BlockId}
use Rattle.swift_core.specs.Codes.{Parts as Program}
use Rattle.core_means.specs.declared.parts.Frame.{Frame}
use Rattle.core_means.specs.Asks.{World, Asks, Done, Trapped, Wrong, Ask, Doing, Reads, Gave, and_then, found, given, give, under}
use Rattle.core_means.specs.Sources.{seen}
use Rattle.view_nodes.specs.declared.node.Element.{Element}
use Rattle.read_law.specs.Law.{Each, IsSame, agrees, differs, reads_of}
use Rattle.body_means.specs.Bodies.{Body, Describes}
use Rattle.body_means.specs.Building.{Building}
use Rattle.body_means.specs.Kept.{Block, block_at, handler, handler_with, kept_from, own_at, own_in, with_own}

-- A body that gave a description gives the same, after the same reads, at the same path in every frame and over all cells where
-- each of its reads has the same value.
abbrev pub SameReadsSameDescription : Type 0
SameReadsSameDescription = (p : Program) (unit : ℕ) (old new : Frame) (before now : CellMap) (views : List Element) (w : World) (reads : Reads)
    → new.path ≡ old.path → Describes p unit old before ≡ Gave views w reads → Each (IsSame (seen new now)) reads → Describes p unit new now ≡ Gave views w reads

-- And where a read has another value there, or none, a body that gives a description there has other reads.
abbrev pub OtherValueOtherReads : Type 0
OtherValueOtherReads = (p : Program) (unit : ℕ) (old new : Frame) (before now : CellMap) (reads : Reads) (views : List Element) (w : World) (others : Reads)
    → new.path ≡ old.path → reads_of (Describes p unit old before) ≡ Some reads → Describes p unit new now ≡ Gave views w others
    → (Each (IsSame (seen new now)) reads → ⊥) → others ≡ reads → ⊥

pub same_description : SameReadsSameDescription
unfolding Describes
same_description p unit old new before now views w reads path gave same =
    subst (λ (at : List Step). under (seen new now) [] (Body p unit at) ≡ Gave views w reads) (sym path)
    (agrees (seen old before) (seen new now) [] reads (Body p unit old.path) views w tt gave same)

pub other_reads : OtherValueOtherReads
unfolding Describes
other_reads p unit old new before now reads views w others path read gave not_same =
    differs (seen old before) (seen new now) (Body p unit old.path) reads views w others read
    (subst (λ (at : List Step). under (seen new now) [] (Body p unit at) ≡ Gave views w others) path gave) not_same

-- ---- action blocks

-- it gives its value at once
abbrev pub AsksNothing : {A : Type 0} → Asks A → Type 0
AsksNothing (Done x w) = ⊤
AsksNothing (Trapped k w) = ⊥
AsksNothing Wrong = ⊤
AsksNothing (Ask s w g) = ⊥

-- To keep the locals of an action block is to look up nothing, whatever its block names, and is no trap.
abbrev pub HandlersAskNothing : Type 0
HandlersAskNothing = (b : Building) (id : BlockId) (w : World) → AsksNothing (handler b id w)

nothing_given : {A : Type 0} (o : Option A) (w : World) → AsksNothing (given o w)
nothing_given None w = tt
nothing_given (Some x) w = tt

nothing_then : {A B : Type 0} (m : Asks A) (f : A → Doing B) → AsksNothing m → ((x : A) (w : World) → AsksNothing (f x w)) → AsksNothing (and_then m f)
unfolding and_then
nothing_then (Done x w) f first rest = rest x w
nothing_then (Trapped k w) f first rest = first
nothing_then Wrong f first rest = tt
nothing_then (Ask s w g) f first rest = absurd first

nothing_kept : (kept : List Input) (ks : List ℕ) (w : World) → AsksNothing (kept_from kept ks w)
unfolding kept_from own_at
nothing_kept kept [] w = tt
nothing_kept kept (k ∷ ks) w =
    nothing_then (own_at k w) (λ o. kept_from (with_own kept o) ks) (nothing_given (own_in (slice_get w.locals k)) w) (λ o u. nothing_kept (with_own kept o) ks u)

nothing_blocked : (o : Option Block) (w : World)
    → AsksNothing (found o (λ block. λ u. and_then (kept_from [] block.code.kept u) (λ kept. give (handler_with block.number kept))) w)
nothing_blocked None w = tt
nothing_blocked (Some block) w =
    nothing_then (kept_from [] block.code.kept w) (λ kept. give (handler_with block.number kept)) (nothing_kept [] block.code.kept w) (λ kept u. tt)

pub handlers_ask : HandlersAskNothing
unfolding handler
handlers_ask b id w = nothing_blocked (block_at b.inside.program b.code id) w
