-- What a term mentions, in the order of the text: locals, code of the program, writes to cells, and blocks of the member.
use Rattle.std.specs.Prelude.{ℕ, Bool, true, false, List, [], ◌∷◌, ◌++◌, Option, Some, None, if◌then◌else◌}
use Rattle.std.specs.List.{flat_map}
use Rattle.swift_core.specs.declared.code.CodeForm.{CodeForm}
use Rattle.swift_core.specs.declared.code.CodeForm.TheVariants as code
use Rattle.swift_core.specs.declared.item.CoreItem.{CoreItem, fold-CoreItem}
use Rattle.swift_core.specs.declared.item.CoreItem.TheOpen.{CoreItem-F, Label-F, ViewCall-F, ItemArm-F, ItemCase-F, ModifierCall-F}
use Rattle.swift_core.specs.declared.item.ForEachOver.{ForEachOver}
use Rattle.swift_core.specs.declared.item.ForEachOver.TheVariants as over_items
use Rattle.swift_core.specs.declared.item.IdRule.{IdRule}
use Rattle.swift_core.specs.declared.item.IdRule.TheVariants as id
use Rattle.swift_core.specs.declared.item.ModifierKind.{ModifierKind}
use Rattle.swift_core.specs.declared.item.ModifierKind.TheVariants as kind
use Rattle.swift_core.specs.declared.mention.Mention.{Mention}
use Rattle.swift_core.specs.declared.mention.Mention.TheVariants as mention
use Rattle.swift_core.specs.declared.stmt.Condition.{Condition}
use Rattle.swift_core.specs.declared.stmt.Condition.TheVariants as condition
use Rattle.swift_core.specs.declared.stmt.CoreStmt.{CoreStmt, fold-CoreStmt}
use Rattle.swift_core.specs.declared.stmt.CoreStmt.TheOpen.{CoreStmt-F, StmtArm-F, StmtCase-F}
use Rattle.swift_core.specs.declared.stmt.Over.{Over}
use Rattle.swift_core.specs.declared.stmt.Over.TheVariants as over
use Rattle.swift_core.specs.declared.term.Change.{Change, fold-Change}
use Rattle.swift_core.specs.declared.term.ChangeCall.TheOpen.{Core-F, ChangeCall-F, CoreHop-F, Filling-F, Piece-F, Receiver-F, Change-F, Invocation-F, Target-F}
use Rattle.swift_core.specs.declared.term.Core.{Core, fold-Core}
use Rattle.swift_core.specs.declared.term.Filling.{Filling, fold-Filling}
use Rattle.swift_core.specs.declared.term.Invocation.{Invocation, fold-Invocation}
use Rattle.swift_core.specs.declared.term.Lookup.{Lookup}
use Rattle.swift_core.specs.declared.term.Lookup.TheVariants as look
use Rattle.swift_core.specs.declared.term.Root.{Root}
use Rattle.swift_core.specs.declared.term.Root.TheVariants as root
use Rattle.swift_core.specs.declared.term.Target.{Target, fold-Target}

abbrev pub Mentions : Type 0
Mentions = List Mention

-- a place, and whether it is among the cells
pub record TargetMentions : Type 0 where
  pub is_cell : Bool
  pub mentions : Mentions

-- a label, by what of it stands before an action or a place in the text
pub record LabelMentions : Type 0 where
  pub before : Mentions
  pub after : Mentions

-- those of each part, in order
abbrev pub joined : List Mentions → Mentions
joined = flat_map (λ m. m)

-- ---- terms that give a value

abbrev pub look_mentions : Lookup → Mentions
look_mentions (look.Local i) = mention.Local i ∷ []
look_mentions (look.BoundLocal i) = mention.Local i ∷ []
look_mentions other = []

abbrev pub root_mentions : Root → Mentions
root_mentions (root.Local i) = mention.Local i ∷ []
root_mentions (root.BoundLocal i) = mention.Local i ∷ []
root_mentions other = []

-- what is not a local or `self` is a place among the cells, which can be bound
abbrev pub is_among_cells : Root → Bool
is_among_cells (root.Local i) = false
is_among_cells root.Itself = false
is_among_cells other = true

abbrev pub core_step : Core-F Mentions Mentions Mentions Mentions Mentions Mentions Mentions Mentions TargetMentions → Mentions
core_step (Core-F.Literal v) = []
core_step (Core-F.Look l) = look_mentions l
core_step (Core-F.«Core::Text» pieces) = joined pieces
core_step (Core-F.List parts) = joined parts
core_step (Core-F.Promote a) = a
core_step (Core-F.Unary op a) = a
core_step (Core-F.Binary op a b) = a ++ b
core_step (Core-F.Choose c a b) = c ++ (a ++ b)
core_step (Core-F.Make d fillings) = joined fillings
core_step (Core-F.Static code) = mention.Code code ∷ []
core_step (Core-F.Invoke invocation) = invocation
core_step (Core-F.Change change) = change

abbrev pub piece_step : Piece-F Mentions Mentions Mentions Mentions Mentions Mentions Mentions Mentions TargetMentions → Mentions
piece_step (Piece-F.«Piece::Text» w) = []
piece_step (Piece-F.Hole c) = c

abbrev pub filling_step : Filling-F Mentions Mentions Mentions Mentions Mentions Mentions Mentions Mentions TargetMentions → Mentions
filling_step (Filling-F.Given c) = c
filling_step (Filling-F.Place target) = target.mentions
filling_step (Filling-F.Initial code) = []
filling_step Filling-F.Nil = []

abbrev pub receiver_step : Receiver-F Mentions Mentions Mentions Mentions Mentions Mentions Mentions Mentions TargetMentions → Mentions
receiver_step Receiver-F.Same = []
receiver_step (Receiver-F.Value c) = c

abbrev pub hop_step : CoreHop-F Mentions Mentions Mentions Mentions Mentions Mentions Mentions Mentions TargetMentions → Mentions
hop_step (CoreHop-F.Field n) = []
hop_step (CoreHop-F.Index c) = c

abbrev pub call_step : ChangeCall-F Mentions Mentions Mentions Mentions Mentions Mentions Mentions Mentions TargetMentions → Mentions
call_step ChangeCall-F.Toggle = []
call_step (ChangeCall-F.Append c) = c
call_step (ChangeCall-F.AppendAll c) = c
call_step (ChangeCall-F.Insert c i) = c ++ i
call_step (ChangeCall-F.Remove i) = i
call_step ChangeCall-F.RemoveFirst = []
call_step ChangeCall-F.RemoveLast = []
call_step ChangeCall-F.RemoveAll = []
call_step (ChangeCall-F.SwapAt i j) = i ++ j
call_step (ChangeCall-F.Mutate code arguments) = mention.Code code ∷ joined arguments

abbrev pub invocation_step : Invocation-F Mentions Mentions Mentions Mentions Mentions Mentions Mentions Mentions TargetMentions → Mentions
invocation_step i = mention.Code i.code ∷ (i.receiver ++ joined i.arguments)

abbrev pub target_step : Target-F Mentions Mentions Mentions Mentions Mentions Mentions Mentions Mentions TargetMentions → TargetMentions
target_step t = record { is_cell = is_among_cells t.root; mentions = root_mentions t.root ++ joined t.hops }

-- the write to the place, where it is among the cells
abbrev pub write_mentions : Bool → Mentions
write_mentions is_cell = if is_cell then mention.Write ∷ [] else []

abbrev pub change_step : Change-F Mentions Mentions Mentions Mentions Mentions Mentions Mentions Mentions TargetMentions → Mentions
change_step c = c.target.mentions ++ (c.call ++ write_mentions c.target.is_cell)

abbrev pub core_mentions : Core → Mentions
core_mentions = fold-Core Mentions Mentions Mentions Mentions Mentions Mentions Mentions Mentions TargetMentions call_step core_step hop_step filling_step piece_step receiver_step change_step invocation_step target_step

abbrev pub filling_mentions : Filling → Mentions
filling_mentions = fold-Filling Mentions Mentions Mentions Mentions Mentions Mentions Mentions Mentions TargetMentions call_step core_step hop_step filling_step piece_step receiver_step change_step invocation_step target_step

abbrev pub change_mentions : Change → Mentions
change_mentions = fold-Change Mentions Mentions Mentions Mentions Mentions Mentions Mentions Mentions TargetMentions call_step core_step hop_step filling_step piece_step receiver_step change_step invocation_step target_step

abbrev pub invocation_mentions : Invocation → Mentions
invocation_mentions = fold-Invocation Mentions Mentions Mentions Mentions Mentions Mentions Mentions Mentions TargetMentions call_step core_step hop_step filling_step piece_step receiver_step change_step invocation_step target_step

abbrev pub target_mentions : Target → TargetMentions
target_mentions = fold-Target Mentions Mentions Mentions Mentions Mentions Mentions Mentions Mentions TargetMentions call_step core_step hop_step filling_step piece_step receiver_step change_step invocation_step target_step

-- ---- statements

abbrev pub condition_mentions : Condition → Mentions
condition_mentions (condition.Test c) = core_mentions c
condition_mentions (condition.Bind c) = core_mentions c

abbrev pub over_mentions : Over → Mentions
over_mentions (over.UpTo a b) = core_mentions a ++ core_mentions b
over_mentions (over.Through a b) = core_mentions a ++ core_mentions b
over_mentions (over.Indices c) = core_mentions c
over_mentions (over.List c) = core_mentions c

abbrev pub optional_core_mentions : Option Core → Mentions
optional_core_mentions None = []
optional_core_mentions (Some c) = core_mentions c

abbrev pub else_mentions : Option (List Mentions) → Mentions
else_mentions None = []
else_mentions (Some body) = joined body

abbrev pub stmt_step : CoreStmt-F Mentions Mentions Mentions → Mentions
stmt_step (CoreStmt-F.Local c) = core_mentions c
stmt_step (CoreStmt-F.Assign target c) = (target_mentions target).mentions ++ (core_mentions c ++ write_mentions (target_mentions target).is_cell)
stmt_step (CoreStmt-F.Update op target c) = (target_mentions target).mentions ++ (core_mentions c ++ write_mentions (target_mentions target).is_cell)
stmt_step (CoreStmt-F.If arms last) = joined arms ++ else_mentions last
stmt_step (CoreStmt-F.Switch c cases) = core_mentions c ++ joined cases
stmt_step (CoreStmt-F.For over body) = over_mentions over ++ joined body
stmt_step (CoreStmt-F.While conditions body) = flat_map condition_mentions conditions ++ joined body
stmt_step (CoreStmt-F.Return c) = optional_core_mentions c
stmt_step CoreStmt-F.Break = []
stmt_step CoreStmt-F.Continue = []
stmt_step (CoreStmt-F.Invoke invocation) = invocation_mentions invocation
stmt_step (CoreStmt-F.Change change) = change_mentions change

abbrev pub arm_step : StmtArm-F Mentions Mentions Mentions → Mentions
arm_step a = flat_map condition_mentions a.conditions ++ joined a.body

abbrev pub case_step : StmtCase-F Mentions Mentions Mentions → Mentions
case_step c = joined c.body

abbrev pub stmt_mentions : CoreStmt → Mentions
stmt_mentions = fold-CoreStmt Mentions Mentions Mentions stmt_step arm_step case_step

-- ---- views

abbrev pub id_mentions : IdRule → Mentions
id_mentions id.Itself = []
id_mentions (id.Field n) = []
id_mentions (id.Computed code) = mention.Code code ∷ []
id_mentions (id.Look property) = []

abbrev pub over_items_mentions : ForEachOver → Mentions
over_items_mentions (over_items.Numbers o) = over_mentions o
over_items_mentions (over_items.Values c rule) = core_mentions c ++ id_mentions rule
over_items_mentions (over_items.Places target rule) = (target_mentions target).mentions ++ id_mentions rule

-- A label that is one text stands before the action or the place, and other content after it.
abbrev pub label_step : Label-F Mentions LabelMentions Mentions Mentions Mentions Mentions → LabelMentions
label_step (Label-F.«Label::Text» c) = record { before = core_mentions c; after = [] }
label_step (Label-F.Content items) = record { before = []; after = joined items }

abbrev pub view_step : ViewCall-F Mentions LabelMentions Mentions Mentions Mentions Mentions → Mentions
view_step (ViewCall-F.«ViewCall::Text» c) = core_mentions c
view_step (ViewCall-F.Image c) = core_mentions c
view_step (ViewCall-F.Button block label) = label.before ++ (mention.Block block ∷ label.after)
view_step (ViewCall-F.Toggle target label) = label.before ++ ((target_mentions target).mentions ++ label.after)
view_step (ViewCall-F.Spacer c) = optional_core_mentions c
view_step ViewCall-F.Rectangle = []
view_step ViewCall-F.Empty = []
view_step (ViewCall-F.Stack axis alignment spacing items) = optional_core_mentions spacing ++ joined items
view_step (ViewCall-F.Group items) = joined items
view_step (ViewCall-F.ForEach over items) = over_items_mentions over ++ joined items
view_step (ViewCall-F.Custom d fillings) = flat_map filling_mentions fillings
view_step (ViewCall-F.Builder code arguments) = mention.Code code ∷ flat_map core_mentions arguments

abbrev pub item_step : CoreItem-F Mentions LabelMentions Mentions Mentions Mentions Mentions → Mentions
item_step (CoreItem-F.Local c) = core_mentions c
item_step (CoreItem-F.If arms last) = joined arms ++ else_mentions last
item_step (CoreItem-F.Switch c cases) = core_mentions c ++ joined cases
item_step (CoreItem-F.View view modifiers) = view ++ joined modifiers

abbrev pub item_arm_step : ItemArm-F Mentions LabelMentions Mentions Mentions Mentions Mentions → Mentions
item_arm_step a = flat_map condition_mentions a.conditions ++ joined a.body

abbrev pub item_case_step : ItemCase-F Mentions LabelMentions Mentions Mentions Mentions Mentions → Mentions
item_case_step c = joined c.body

abbrev pub kind_mentions : ModifierKind → Mentions
kind_mentions (kind.OverlayReader key block) = mention.Block block ∷ []
kind_mentions (kind.BackgroundReader key block) = mention.Block block ∷ []
kind_mentions (kind.OnAppear block) = mention.Block block ∷ []
kind_mentions (kind.OnDisappear block) = mention.Block block ∷ []
kind_mentions (kind.OnChange block) = mention.Block block ∷ []
kind_mentions (kind.OnPreferenceChange key block) = mention.Block block ∷ []
kind_mentions (kind.OnTapGesture block) = mention.Block block ∷ []
kind_mentions other = []

abbrev pub modifier_step : ModifierCall-F Mentions LabelMentions Mentions Mentions Mentions Mentions → Mentions
modifier_step m = flat_map optional_core_mentions m.arguments ++ (kind_mentions m.kind ++ joined m.content)

abbrev pub item_mentions : CoreItem → Mentions
item_mentions = fold-CoreItem Mentions LabelMentions Mentions Mentions Mentions Mentions item_step label_step view_step item_arm_step item_case_step modifier_step

-- ---- code

abbrev pub form_mentions : CodeForm → Mentions
form_mentions (code.Value c) = core_mentions c
form_mentions (code.Statements stmts) = flat_map stmt_mentions stmts
form_mentions (code.Builder items) = flat_map item_mentions items
