-- What each term alters, by the parts of its layer.
use Rattle.std.specs.Prelude.{◌≡◌, ℕ, ◌≤◌, List, [], ◌∷◌, ◌++◌, map}
use Rattle.std.specs.List.{flat_map}
use Rattle.std.proofs.Common.{zero, refl, ap, ◌∙◌, arith}
use Rattle.swift_core.specs.Typing.{CoreForm, PieceForm, FillingForm, ReceiverForm, HopForm, ChangeForm}
use Rattle.swift_core.specs.declared.term.Change.{Change, fold-Change}
use Rattle.swift_core.specs.declared.term.ChangeCall.{ChangeCall, out-ChangeCall, fold-ChangeCall}
use Rattle.swift_core.specs.declared.term.ChangeCall.TheFolds.{map-ChangeCall, map-Core, map-CoreHop, map-Filling, map-Piece, map-Receiver, fold_out-ChangeCall, fold_out-Core, fold_out-CoreHop, fold_out-Filling, fold_out-Piece, fold_out-Receiver, fold_out-Change, fold_out-Invocation, fold_out-Target}
use Rattle.swift_core.specs.declared.term.ChangeCall.TheOpen.{Core-F, ChangeCall-F, CoreHop-F, Filling-F, Piece-F, Receiver-F}
use Rattle.swift_core.specs.declared.term.Core.{Core, out-Core}
use Rattle.swift_core.specs.declared.term.CoreHop.{CoreHop, out-CoreHop, fold-CoreHop}
use Rattle.swift_core.specs.declared.term.Filling.{Filling, out-Filling}
use Rattle.swift_core.specs.declared.term.Invocation.{Invocation, fold-Invocation}
use Rattle.swift_core.specs.declared.term.Piece.{Piece, out-Piece, fold-Piece}
use Rattle.swift_core.specs.declared.term.Receiver.{Receiver, out-Receiver, fold-Receiver}
use Rattle.swift_core.specs.declared.term.Target.{Target}
use Rattle.world_fits.specs.Lists.{Each}
use Rattle.swift_core.specs.Alters.{Alters, TargetAlters, all_of, root_alters, core_step, piece_step, filling_step, receiver_step, hop_step, call_step, invocation_step, target_step, change_step, core_alters, filling_alters, target_alters}

-- it is this place or one behind it
abbrev pub From : ℕ → ℕ → Type 0
From limit n = limit ≤ n

abbrev pub Beyond : ℕ → Alters → Type 0
Beyond limit ns = Each (From limit) ns

pub beyond_none : (ns : Alters) → Beyond zero ns
beyond_none [] = tt
beyond_none (n ∷ ns) = (omega arith, beyond_none ns)

pub flat_all : {X : Type 0} (f : X → Alters) (xs : List X) → flat_map f xs ≡ all_of (map f xs)
flat_all f [] = refl
flat_all f (x ∷ xs) = ap (λ l. f x ++ l) (flat_all f xs)

abbrev pub piece_alters : Piece → Alters
piece_alters = fold-Piece Alters Alters Alters Alters Alters Alters Alters Alters TargetAlters call_step core_step hop_step filling_step piece_step receiver_step change_step invocation_step target_step

abbrev pub hop_alters : CoreHop → Alters
hop_alters = fold-CoreHop Alters Alters Alters Alters Alters Alters Alters Alters TargetAlters call_step core_step hop_step filling_step piece_step receiver_step change_step invocation_step target_step

abbrev pub call_alters : ChangeCall → Alters
call_alters = fold-ChangeCall Alters Alters Alters Alters Alters Alters Alters Alters TargetAlters call_step core_step hop_step filling_step piece_step receiver_step change_step invocation_step target_step

abbrev pub receiver_alters : Receiver → Alters
receiver_alters = fold-Receiver Alters Alters Alters Alters Alters Alters Alters Alters TargetAlters call_step core_step hop_step filling_step piece_step receiver_step change_step invocation_step target_step

abbrev pub change_alters : Change → Alters
change_alters = fold-Change Alters Alters Alters Alters Alters Alters Alters Alters TargetAlters call_step core_step hop_step filling_step piece_step receiver_step change_step invocation_step target_step

abbrev pub invocation_alters : Invocation → Alters
invocation_alters = fold-Invocation Alters Alters Alters Alters Alters Alters Alters Alters TargetAlters call_step core_step hop_step filling_step piece_step receiver_step change_step invocation_step target_step

-- ---- layers

abbrev pub core_layer : CoreForm → Alters
core_layer (Core-F.Literal v) = []
core_layer (Core-F.Look l) = []
core_layer (Core-F.«Core::Text» pieces) = all_of (map piece_alters pieces)
core_layer (Core-F.List parts) = all_of (map core_alters parts)
core_layer (Core-F.Promote a) = core_alters a
core_layer (Core-F.Unary op a) = core_alters a
core_layer (Core-F.Binary op a b) = core_alters a ++ core_alters b
core_layer (Core-F.Choose c a b) = core_alters c ++ (core_alters a ++ core_alters b)
core_layer (Core-F.Make d fillings) = all_of (map filling_alters fillings)
core_layer (Core-F.Static code) = []
core_layer (Core-F.Invoke invocation) = invocation_alters invocation
core_layer (Core-F.Change change) = change_alters change

abbrev pub piece_layer : PieceForm → Alters
piece_layer (Piece-F.«Piece::Text» w) = []
piece_layer (Piece-F.Hole c) = core_alters c

abbrev pub filling_layer : FillingForm → Alters
filling_layer (Filling-F.Given c) = core_alters c
filling_layer (Filling-F.Place target) = (target_alters target).indexes
filling_layer (Filling-F.Initial code) = []
filling_layer Filling-F.Nil = []

abbrev pub receiver_layer : ReceiverForm → Alters
receiver_layer Receiver-F.Same = []
receiver_layer (Receiver-F.Value c) = core_alters c

abbrev pub hop_layer : HopForm → Alters
hop_layer (CoreHop-F.Field n) = []
hop_layer (CoreHop-F.Index c) = core_alters c

abbrev pub call_layer : ChangeForm → Alters
call_layer ChangeCall-F.Toggle = []
call_layer (ChangeCall-F.Append c) = core_alters c
call_layer (ChangeCall-F.AppendAll c) = core_alters c
call_layer (ChangeCall-F.Insert c i) = core_alters c ++ core_alters i
call_layer (ChangeCall-F.Remove i) = core_alters i
call_layer ChangeCall-F.RemoveFirst = []
call_layer ChangeCall-F.RemoveLast = []
call_layer ChangeCall-F.RemoveAll = []
call_layer (ChangeCall-F.SwapAt i j) = core_alters i ++ core_alters j
call_layer (ChangeCall-F.Mutate code arguments) = all_of (map core_alters arguments)

-- ---- each is what its layer alters

core_steps : (l : CoreForm) → core_step (map-Core ChangeCall Core CoreHop Filling Piece Receiver Change Invocation Target Alters Alters Alters Alters Alters Alters Alters Alters TargetAlters call_alters core_alters hop_alters filling_alters piece_alters receiver_alters change_alters invocation_alters target_alters l) ≡ core_layer l
core_steps (Core-F.Literal v) = refl
core_steps (Core-F.Look l) = refl
core_steps (Core-F.«Core::Text» pieces) = refl
core_steps (Core-F.List parts) = refl
core_steps (Core-F.Promote a) = refl
core_steps (Core-F.Unary op a) = refl
core_steps (Core-F.Binary op a b) = refl
core_steps (Core-F.Choose c a b) = refl
core_steps (Core-F.Make d fillings) = refl
core_steps (Core-F.Static code) = refl
core_steps (Core-F.Invoke invocation) = refl
core_steps (Core-F.Change change) = refl

pub core_is : (x : Core) → core_alters x ≡ core_layer (out-Core x)
core_is x = fold_out-Core Alters Alters Alters Alters Alters Alters Alters Alters TargetAlters call_step core_step hop_step filling_step piece_step receiver_step change_step invocation_step target_step x ∙ core_steps (out-Core x)

piece_steps : (l : PieceForm) → piece_step (map-Piece ChangeCall Core CoreHop Filling Piece Receiver Change Invocation Target Alters Alters Alters Alters Alters Alters Alters Alters TargetAlters call_alters core_alters hop_alters filling_alters piece_alters receiver_alters change_alters invocation_alters target_alters l) ≡ piece_layer l
piece_steps (Piece-F.«Piece::Text» w) = refl
piece_steps (Piece-F.Hole c) = refl

pub piece_is : (x : Piece) → piece_alters x ≡ piece_layer (out-Piece x)
piece_is x = fold_out-Piece Alters Alters Alters Alters Alters Alters Alters Alters TargetAlters call_step core_step hop_step filling_step piece_step receiver_step change_step invocation_step target_step x ∙ piece_steps (out-Piece x)

filling_steps : (l : FillingForm) → filling_step (map-Filling ChangeCall Core CoreHop Filling Piece Receiver Change Invocation Target Alters Alters Alters Alters Alters Alters Alters Alters TargetAlters call_alters core_alters hop_alters filling_alters piece_alters receiver_alters change_alters invocation_alters target_alters l) ≡ filling_layer l
filling_steps (Filling-F.Given c) = refl
filling_steps (Filling-F.Place target) = refl
filling_steps (Filling-F.Initial code) = refl
filling_steps Filling-F.Nil = refl

pub filling_is : (x : Filling) → filling_alters x ≡ filling_layer (out-Filling x)
filling_is x = fold_out-Filling Alters Alters Alters Alters Alters Alters Alters Alters TargetAlters call_step core_step hop_step filling_step piece_step receiver_step change_step invocation_step target_step x ∙ filling_steps (out-Filling x)

receiver_steps : (l : ReceiverForm) → receiver_step (map-Receiver ChangeCall Core CoreHop Filling Piece Receiver Change Invocation Target Alters Alters Alters Alters Alters Alters Alters Alters TargetAlters call_alters core_alters hop_alters filling_alters piece_alters receiver_alters change_alters invocation_alters target_alters l) ≡ receiver_layer l
receiver_steps Receiver-F.Same = refl
receiver_steps (Receiver-F.Value c) = refl

pub receiver_is : (x : Receiver) → receiver_alters x ≡ receiver_layer (out-Receiver x)
receiver_is x = fold_out-Receiver Alters Alters Alters Alters Alters Alters Alters Alters TargetAlters call_step core_step hop_step filling_step piece_step receiver_step change_step invocation_step target_step x ∙ receiver_steps (out-Receiver x)

hop_steps : (l : HopForm) → hop_step (map-CoreHop ChangeCall Core CoreHop Filling Piece Receiver Change Invocation Target Alters Alters Alters Alters Alters Alters Alters Alters TargetAlters call_alters core_alters hop_alters filling_alters piece_alters receiver_alters change_alters invocation_alters target_alters l) ≡ hop_layer l
hop_steps (CoreHop-F.Field n) = refl
hop_steps (CoreHop-F.Index c) = refl

pub hop_is : (x : CoreHop) → hop_alters x ≡ hop_layer (out-CoreHop x)
hop_is x = fold_out-CoreHop Alters Alters Alters Alters Alters Alters Alters Alters TargetAlters call_step core_step hop_step filling_step piece_step receiver_step change_step invocation_step target_step x ∙ hop_steps (out-CoreHop x)

call_steps : (l : ChangeForm) → call_step (map-ChangeCall ChangeCall Core CoreHop Filling Piece Receiver Change Invocation Target Alters Alters Alters Alters Alters Alters Alters Alters TargetAlters call_alters core_alters hop_alters filling_alters piece_alters receiver_alters change_alters invocation_alters target_alters l) ≡ call_layer l
call_steps ChangeCall-F.Toggle = refl
call_steps (ChangeCall-F.Append c) = refl
call_steps (ChangeCall-F.AppendAll c) = refl
call_steps (ChangeCall-F.Insert c i) = refl
call_steps (ChangeCall-F.Remove i) = refl
call_steps ChangeCall-F.RemoveFirst = refl
call_steps ChangeCall-F.RemoveLast = refl
call_steps ChangeCall-F.RemoveAll = refl
call_steps (ChangeCall-F.SwapAt i j) = refl
call_steps (ChangeCall-F.Mutate code arguments) = refl

pub call_is : (x : ChangeCall) → call_alters x ≡ call_layer (out-ChangeCall x)
call_is x = fold_out-ChangeCall Alters Alters Alters Alters Alters Alters Alters Alters TargetAlters call_step core_step hop_step filling_step piece_step receiver_step change_step invocation_step target_step x ∙ call_steps (out-ChangeCall x)

pub target_is : (t : Target) → target_alters t ≡ record { root = root_alters t.root; indexes = all_of (map hop_alters t.hops) }
target_is t = fold_out-Target Alters Alters Alters Alters Alters Alters Alters Alters TargetAlters call_step core_step hop_step filling_step piece_step receiver_step change_step invocation_step target_step t

-- the indexes of a target alone
pub indexes_is : (t : Target) → (target_alters t).indexes ≡ all_of (map hop_alters t.hops)
indexes_is t = ap (λ (x : TargetAlters). x.indexes) (target_is t)

pub invocation_is : (c : Invocation) → invocation_alters c ≡ receiver_layer (out-Receiver c.receiver) ++ all_of (map core_alters c.arguments)
invocation_is c = fold_out-Invocation Alters Alters Alters Alters Alters Alters Alters Alters TargetAlters call_step core_step hop_step filling_step piece_step receiver_step change_step invocation_step target_step c ∙ ap (λ ns. ns ++ all_of (map core_alters c.arguments)) (receiver_is c.receiver)

pub change_is : (c : Change) → change_alters c ≡ root_alters c.target.root ++ (all_of (map hop_alters c.target.hops) ++ call_layer (out-ChangeCall c.call))
change_is c = fold_out-Change Alters Alters Alters Alters Alters Alters Alters Alters TargetAlters call_step core_step hop_step filling_step piece_step receiver_step change_step invocation_step target_step c ∙ (λ j. (target_is c.target j).root ++ ((target_is c.target j).indexes ++ call_is c.call j))
