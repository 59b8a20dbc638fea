-- What each form mentions, by the parts of its layer.
use Rattle.std.specs.Prelude.{◌≡◌, [], ◌∷◌, ◌++◌, map, Some, None}
use Rattle.std.specs.List.{flat_map}
use Rattle.std.proofs.Common.{refl, ap, ◌∙◌}
use Rattle.swift_core.specs.Mentions.{Mentions, TargetMentions, joined, look_mentions, root_mentions, write_mentions, is_among_cells, core_step, call_step, hop_step, filling_step, piece_step, receiver_step, change_step, invocation_step, target_step, core_mentions, filling_mentions, change_mentions, invocation_mentions, target_mentions, stmt_step, arm_step, case_step, stmt_mentions, over_mentions, condition_mentions, optional_core_mentions}
use Rattle.swift_core.specs.Typing.{CoreForm, PieceForm, FillingForm, ReceiverForm, HopForm, ChangeForm, StmtForm}
use Rattle.swift_core.specs.declared.mention.Mention.TheVariants as mention
use Rattle.swift_core.specs.declared.stmt.CoreStmt.{CoreStmt, out-CoreStmt}
use Rattle.swift_core.specs.declared.stmt.CoreStmt.TheOpen.{CoreStmt-F}
use Rattle.swift_core.specs.declared.stmt.StmtArm.{StmtArm, fold-StmtArm}
use Rattle.swift_core.specs.declared.stmt.StmtCase.{StmtCase, fold-StmtCase}
use Rattle.swift_core.specs.declared.term.Change.{Change}
use Rattle.swift_core.specs.declared.term.ChangeCall.{ChangeCall, out-ChangeCall, fold-ChangeCall}
use Rattle.swift_core.specs.declared.stmt.CoreStmt.TheFolds.{map-CoreStmt, fold_out-CoreStmt, fold_out-StmtArm, fold_out-StmtCase}
use Rattle.swift_core.specs.declared.term.ChangeCall.TheFolds.{map-ChangeCall, map-Core, map-CoreHop, map-Filling, map-Piece, map-Receiver, fold_out-ChangeCall, fold_out-Core, fold_out-CoreHop, fold_out-Filling, fold_out-Piece, fold_out-Receiver, fold_out-Change, fold_out-Invocation, fold_out-Target}
use Rattle.swift_core.specs.declared.term.ChangeCall.TheOpen.{Core-F, ChangeCall-F, CoreHop-F, Filling-F, Piece-F, Receiver-F}
use Rattle.swift_core.specs.declared.term.Core.{Core, out-Core}
use Rattle.swift_core.specs.declared.term.CoreHop.{CoreHop, out-CoreHop, fold-CoreHop}
use Rattle.swift_core.specs.declared.term.Filling.{Filling, out-Filling}
use Rattle.swift_core.specs.declared.term.Invocation.{Invocation}
use Rattle.swift_core.specs.declared.term.Piece.{Piece, out-Piece, fold-Piece}
use Rattle.swift_core.specs.declared.term.Receiver.{Receiver, out-Receiver, fold-Receiver}
use Rattle.swift_core.specs.declared.term.Target.{Target}

abbrev pub piece_mentions : Piece → Mentions
piece_mentions = fold-Piece Mentions Mentions Mentions Mentions Mentions Mentions Mentions Mentions TargetMentions call_step core_step hop_step filling_step piece_step receiver_step change_step invocation_step target_step

abbrev pub hop_mentions : CoreHop → Mentions
hop_mentions = fold-CoreHop Mentions Mentions Mentions Mentions Mentions Mentions Mentions Mentions TargetMentions call_step core_step hop_step filling_step piece_step receiver_step change_step invocation_step target_step

abbrev pub call_mentions : ChangeCall → Mentions
call_mentions = fold-ChangeCall Mentions Mentions Mentions Mentions Mentions Mentions Mentions Mentions TargetMentions call_step core_step hop_step filling_step piece_step receiver_step change_step invocation_step target_step

abbrev pub receiver_mentions : Receiver → Mentions
receiver_mentions = fold-Receiver Mentions Mentions Mentions Mentions Mentions Mentions Mentions Mentions TargetMentions call_step core_step hop_step filling_step piece_step receiver_step change_step invocation_step target_step

abbrev pub arm_mentions : StmtArm → Mentions
arm_mentions = fold-StmtArm Mentions Mentions Mentions stmt_step arm_step case_step

abbrev pub case_mentions : StmtCase → Mentions
case_mentions = fold-StmtCase Mentions Mentions Mentions stmt_step arm_step case_step

-- ---- layers

abbrev pub core_layer : CoreForm → Mentions
core_layer (Core-F.Literal v) = []
core_layer (Core-F.Look l) = look_mentions l
core_layer (Core-F.«Core::Text» pieces) = joined (map piece_mentions pieces)
core_layer (Core-F.List parts) = joined (map core_mentions parts)
core_layer (Core-F.Promote a) = core_mentions a
core_layer (Core-F.Unary op a) = core_mentions a
core_layer (Core-F.Binary op a b) = core_mentions a ++ core_mentions b
core_layer (Core-F.Choose c a b) = core_mentions c ++ (core_mentions a ++ core_mentions b)
core_layer (Core-F.Make d fillings) = joined (map filling_mentions fillings)
core_layer (Core-F.Static code) = mention.Code code ∷ []
core_layer (Core-F.Invoke invocation) = invocation_mentions invocation
core_layer (Core-F.Change change) = change_mentions change

abbrev pub piece_layer : PieceForm → Mentions
piece_layer (Piece-F.«Piece::Text» w) = []
piece_layer (Piece-F.Hole c) = core_mentions c

abbrev pub filling_layer : FillingForm → Mentions
filling_layer (Filling-F.Given c) = core_mentions c
filling_layer (Filling-F.Place target) = (target_mentions target).mentions
filling_layer (Filling-F.Initial code) = []
filling_layer Filling-F.Nil = []

abbrev pub receiver_layer : ReceiverForm → Mentions
receiver_layer Receiver-F.Same = []
receiver_layer (Receiver-F.Value c) = core_mentions c

abbrev pub hop_layer : HopForm → Mentions
hop_layer (CoreHop-F.Field n) = []
hop_layer (CoreHop-F.Index c) = core_mentions c

abbrev pub call_layer : ChangeForm → Mentions
call_layer ChangeCall-F.Toggle = []
call_layer (ChangeCall-F.Append c) = core_mentions c
call_layer (ChangeCall-F.AppendAll c) = core_mentions c
call_layer (ChangeCall-F.Insert c i) = core_mentions c ++ core_mentions i
call_layer (ChangeCall-F.Remove i) = core_mentions i
call_layer ChangeCall-F.RemoveFirst = []
call_layer ChangeCall-F.RemoveLast = []
call_layer ChangeCall-F.RemoveAll = []
call_layer (ChangeCall-F.SwapAt i j) = core_mentions i ++ core_mentions j
call_layer (ChangeCall-F.Mutate code arguments) = mention.Code code ∷ joined (map core_mentions arguments)

abbrev pub stmt_layer : StmtForm → Mentions
stmt_layer (CoreStmt-F.Local c) = core_mentions c
stmt_layer (CoreStmt-F.Assign target c) = (target_mentions target).mentions ++ (core_mentions c ++ write_mentions (target_mentions target).is_cell)
stmt_layer (CoreStmt-F.Update op target c) = (target_mentions target).mentions ++ (core_mentions c ++ write_mentions (target_mentions target).is_cell)
stmt_layer (CoreStmt-F.If arms None) = joined (map arm_mentions arms) ++ []
stmt_layer (CoreStmt-F.If arms (Some last)) = joined (map arm_mentions arms) ++ joined (map stmt_mentions last)
stmt_layer (CoreStmt-F.Switch c cases) = core_mentions c ++ joined (map case_mentions cases)
stmt_layer (CoreStmt-F.For over body) = over_mentions over ++ joined (map stmt_mentions body)
stmt_layer (CoreStmt-F.While conditions body) = flat_map condition_mentions conditions ++ joined (map stmt_mentions body)
stmt_layer (CoreStmt-F.Return c) = optional_core_mentions c
stmt_layer CoreStmt-F.Break = []
stmt_layer CoreStmt-F.Continue = []
stmt_layer (CoreStmt-F.Invoke invocation) = invocation_mentions invocation
stmt_layer (CoreStmt-F.Change change) = change_mentions change

-- ---- each is what its layer mentions

core_steps : (l : CoreForm) → core_step (map-Core ChangeCall Core CoreHop Filling Piece Receiver Change Invocation Target Mentions Mentions Mentions Mentions Mentions Mentions Mentions Mentions TargetMentions call_mentions core_mentions hop_mentions filling_mentions piece_mentions receiver_mentions change_mentions invocation_mentions target_mentions l) ≡ core_layer l
core_steps (Core-F.Literal v) = refl
core_steps (Core-F.Look l) = refl
core_steps (Core-F.«Core::Text» pieces) = refl
core_steps (Core-F.List parts) = refl
core_steps (Core-F.Promote a) = refl
core_steps (Core-F.Unary op a) = refl
core_steps (Core-F.Binary op a b) = refl
core_steps (Core-F.Choose c a b) = refl
core_steps (Core-F.Make d fillings) = refl
core_steps (Core-F.Static code) = refl
core_steps (Core-F.Invoke invocation) = refl
core_steps (Core-F.Change change) = refl

pub core_is : (x : Core) → core_mentions x ≡ core_layer (out-Core x)
core_is x = fold_out-Core Mentions Mentions Mentions Mentions Mentions Mentions Mentions Mentions TargetMentions call_step core_step hop_step filling_step piece_step receiver_step change_step invocation_step target_step x ∙ core_steps (out-Core x)

piece_steps : (l : PieceForm) → piece_step (map-Piece ChangeCall Core CoreHop Filling Piece Receiver Change Invocation Target Mentions Mentions Mentions Mentions Mentions Mentions Mentions Mentions TargetMentions call_mentions core_mentions hop_mentions filling_mentions piece_mentions receiver_mentions change_mentions invocation_mentions target_mentions l) ≡ piece_layer l
piece_steps (Piece-F.«Piece::Text» w) = refl
piece_steps (Piece-F.Hole c) = refl

pub piece_is : (x : Piece) → piece_mentions x ≡ piece_layer (out-Piece x)
piece_is x = fold_out-Piece Mentions Mentions Mentions Mentions Mentions Mentions Mentions Mentions TargetMentions call_step core_step hop_step filling_step piece_step receiver_step change_step invocation_step target_step x ∙ piece_steps (out-Piece x)

filling_steps : (l : FillingForm) → filling_step (map-Filling ChangeCall Core CoreHop Filling Piece Receiver Change Invocation Target Mentions Mentions Mentions Mentions Mentions Mentions Mentions Mentions TargetMentions call_mentions core_mentions hop_mentions filling_mentions piece_mentions receiver_mentions change_mentions invocation_mentions target_mentions l) ≡ filling_layer l
filling_steps (Filling-F.Given c) = refl
filling_steps (Filling-F.Place target) = refl
filling_steps (Filling-F.Initial code) = refl
filling_steps Filling-F.Nil = refl

pub filling_is : (x : Filling) → filling_mentions x ≡ filling_layer (out-Filling x)
filling_is x = fold_out-Filling Mentions Mentions Mentions Mentions Mentions Mentions Mentions Mentions TargetMentions call_step core_step hop_step filling_step piece_step receiver_step change_step invocation_step target_step x ∙ filling_steps (out-Filling x)

receiver_steps : (l : ReceiverForm) → receiver_step (map-Receiver ChangeCall Core CoreHop Filling Piece Receiver Change Invocation Target Mentions Mentions Mentions Mentions Mentions Mentions Mentions Mentions TargetMentions call_mentions core_mentions hop_mentions filling_mentions piece_mentions receiver_mentions change_mentions invocation_mentions target_mentions l) ≡ receiver_layer l
receiver_steps Receiver-F.Same = refl
receiver_steps (Receiver-F.Value c) = refl

pub receiver_is : (x : Receiver) → receiver_mentions x ≡ receiver_layer (out-Receiver x)
receiver_is x = fold_out-Receiver Mentions Mentions Mentions Mentions Mentions Mentions Mentions Mentions TargetMentions call_step core_step hop_step filling_step piece_step receiver_step change_step invocation_step target_step x ∙ receiver_steps (out-Receiver x)

hop_steps : (l : HopForm) → hop_step (map-CoreHop ChangeCall Core CoreHop Filling Piece Receiver Change Invocation Target Mentions Mentions Mentions Mentions Mentions Mentions Mentions Mentions TargetMentions call_mentions core_mentions hop_mentions filling_mentions piece_mentions receiver_mentions change_mentions invocation_mentions target_mentions l) ≡ hop_layer l
hop_steps (CoreHop-F.Field n) = refl
hop_steps (CoreHop-F.Index c) = refl

pub hop_is : (x : CoreHop) → hop_mentions x ≡ hop_layer (out-CoreHop x)
hop_is x = fold_out-CoreHop Mentions Mentions Mentions Mentions Mentions Mentions Mentions Mentions TargetMentions call_step core_step hop_step filling_step piece_step receiver_step change_step invocation_step target_step x ∙ hop_steps (out-CoreHop x)

call_steps : (l : ChangeForm) → call_step (map-ChangeCall ChangeCall Core CoreHop Filling Piece Receiver Change Invocation Target Mentions Mentions Mentions Mentions Mentions Mentions Mentions Mentions TargetMentions call_mentions core_mentions hop_mentions filling_mentions piece_mentions receiver_mentions change_mentions invocation_mentions target_mentions l) ≡ call_layer l
call_steps ChangeCall-F.Toggle = refl
call_steps (ChangeCall-F.Append c) = refl
call_steps (ChangeCall-F.AppendAll c) = refl
call_steps (ChangeCall-F.Insert c i) = refl
call_steps (ChangeCall-F.Remove i) = refl
call_steps ChangeCall-F.RemoveFirst = refl
call_steps ChangeCall-F.RemoveLast = refl
call_steps ChangeCall-F.RemoveAll = refl
call_steps (ChangeCall-F.SwapAt i j) = refl
call_steps (ChangeCall-F.Mutate code arguments) = refl

pub call_is : (x : ChangeCall) → call_mentions x ≡ call_layer (out-ChangeCall x)
call_is x = fold_out-ChangeCall Mentions Mentions Mentions Mentions Mentions Mentions Mentions Mentions TargetMentions call_step core_step hop_step filling_step piece_step receiver_step change_step invocation_step target_step x ∙ call_steps (out-ChangeCall x)

pub target_is : (t : Target) → target_mentions t ≡ record { is_cell = is_among_cells t.root; mentions = root_mentions t.root ++ joined (map hop_mentions t.hops) }
target_is t = fold_out-Target Mentions Mentions Mentions Mentions Mentions Mentions Mentions Mentions TargetMentions call_step core_step hop_step filling_step piece_step receiver_step change_step invocation_step target_step t

pub invocation_is : (c : Invocation) → invocation_mentions c ≡ mention.Code c.code ∷ (receiver_layer (out-Receiver c.receiver) ++ joined (map core_mentions c.arguments))
invocation_is c = fold_out-Invocation Mentions Mentions Mentions Mentions Mentions Mentions Mentions Mentions TargetMentions call_step core_step hop_step filling_step piece_step receiver_step change_step invocation_step target_step c ∙ ap (λ ms. mention.Code c.code ∷ (ms ++ joined (map core_mentions c.arguments))) (receiver_is c.receiver)

pub change_is : (c : Change) → change_mentions c ≡ (root_mentions c.target.root ++ joined (map hop_mentions c.target.hops)) ++ (call_layer (out-ChangeCall c.call) ++ write_mentions (is_among_cells c.target.root))
change_is c = fold_out-Change Mentions Mentions Mentions Mentions Mentions Mentions Mentions Mentions TargetMentions call_step core_step hop_step filling_step piece_step receiver_step change_step invocation_step target_step c ∙ (λ j. (target_is c.target j).mentions ++ (call_is c.call j ++ write_mentions (target_is c.target j).is_cell))

-- what a target and what is written to it mention
pub written_is : (t : Target) (ms : Mentions) → (target_mentions t).mentions ++ (ms ++ write_mentions (target_mentions t).is_cell) ≡ (root_mentions t.root ++ joined (map hop_mentions t.hops)) ++ (ms ++ write_mentions (is_among_cells t.root))
written_is t ms = λ j. (target_is t j).mentions ++ (ms ++ write_mentions (target_is t j).is_cell)

-- ---- statements

stmt_steps : (l : StmtForm) → stmt_step (map-CoreStmt CoreStmt StmtArm StmtCase Mentions Mentions Mentions stmt_mentions arm_mentions case_mentions l) ≡ stmt_layer l
stmt_steps (CoreStmt-F.Local c) = refl
stmt_steps (CoreStmt-F.Assign target c) = refl
stmt_steps (CoreStmt-F.Update op target c) = refl
stmt_steps (CoreStmt-F.If arms None) = refl
stmt_steps (CoreStmt-F.If arms (Some last)) = refl
stmt_steps (CoreStmt-F.Switch c cases) = refl
stmt_steps (CoreStmt-F.For over body) = refl
stmt_steps (CoreStmt-F.While conditions body) = refl
stmt_steps (CoreStmt-F.Return c) = refl
stmt_steps CoreStmt-F.Break = refl
stmt_steps CoreStmt-F.Continue = refl
stmt_steps (CoreStmt-F.Invoke invocation) = refl
stmt_steps (CoreStmt-F.Change change) = refl

pub stmt_is : (s : CoreStmt) → stmt_mentions s ≡ stmt_layer (out-CoreStmt s)
stmt_is s = fold_out-CoreStmt Mentions Mentions Mentions stmt_step arm_step case_step s ∙ stmt_steps (out-CoreStmt s)

pub arm_is : (a : StmtArm) → arm_mentions a ≡ flat_map condition_mentions a.conditions ++ joined (map stmt_mentions a.body)
arm_is a = fold_out-StmtArm Mentions Mentions Mentions stmt_step arm_step case_step a

pub case_is : (c : StmtCase) → case_mentions c ≡ joined (map stmt_mentions c.body)
case_is c = fold_out-StmtCase Mentions Mentions Mentions stmt_step arm_step case_step c
