-- Parts of a builder. Besides what it becomes, a part gives the blocks of the member: its action blocks and the builders of
-- its preference readers stand behind those so far, each after those within it.
use Rattle.std.specs.Prelude.{◌≡◌, ℕ, true, List, [], ◌∷◌, ◌++◌, length, map, drop, Option, Some, None, Result, Ok, Err, ⊤}
use Rattle.swift_ast.specs.declared.tree.Stmt.{Stmt}
use Rattle.swift_core.specs.declared.ids.BlockId.{BlockId}
use Rattle.swift_core.specs.declared.code.Code.{Code}
use Rattle.swift_core.specs.declared.code.CodeForm.{CodeForm}
use Rattle.swift_core.specs.declared.code.CodeForm.TheVariants as code
use Rattle.swift_core.specs.declared.item.CoreItem.{CoreItem}
use Rattle.swift_core.specs.declared.stmt.CoreStmt.{CoreStmt}
use Rattle.swift_core.specs.declared.ty.Ty.{Ty}
use Rattle.swift_core.specs.Readers.{reader_keeps}
use Rattle.swift_core.specs.Uses.{locals_used}
use Rattle.type_base.specs.declared.fault.Fault.{Fault}
use Rattle.type_base.specs.declared.fault.Fault.TheVariants.{NotTyped, OutOfMemory}
use Rattle.type_base.specs.declared.scope.Local.{Local}
use Rattle.type_base.specs.declared.scope.Scope.{Scope}
use Rattle.type_base.specs.declared.scope.LocalKind.{LocalKind}
use Rattle.type_base.specs.Claims.{Reads, Then, and_then, when, reads_then, reads_give, reads_when, bool_is}
use Rattle.type_base.specs.LocalTypes.{local_type, types_at}
use Rattle.type_base.specs.Names.{IsNew, is_new, new_decides}
use Rattle.type_base.specs.Context.{Context}
use Rattle.type_base.specs.Scopes.{with_local, entered}
use Rattle.stmt_rules.specs.Rules.{TypedBlock}
use Rattle.stmt_rules.specs.Search.{find_block}
use Rattle.stmt_rules.specs.Exacts.{block_exact}

abbrev pub Blocks : Type 0
Blocks = List Code

abbrev pub BuildRule : Type 0 → Type 1
BuildRule A = Context → Blocks → A × Blocks → Type 0

abbrev pub FindBuild : Type 0 → Type 0
FindBuild A = Context → Blocks → Option (A × Blocks)

abbrev pub ExactBuild : {A : Type 0} → FindBuild A → BuildRule A → Type 0
ExactBuild {A = A} f R = (cx : Context) (bs : Blocks) → Reads (f cx bs) (R cx bs)

-- the items of a builder in braces
abbrev pub ItemsRule : Type 1
ItemsRule = List Stmt → BuildRule (List CoreItem)

abbrev pub FindItems : Type 0
FindItems = List Stmt → FindBuild (List CoreItem)

abbrev pub ExactItems : FindItems → ItemsRule → Type 0
ExactItems f k = (ss : List Stmt) → ExactBuild (f ss) (k ss)

-- what a check answers that adds blocks and leaves the scope as it was
abbrev pub Builds : {A : Type 0} → Result A Fault → Scope → Scope → Blocks → Option (A × Blocks) → Type 0
Builds (Ok r) old new blocks found = (found ≡ Some (r, blocks)) × (new ≡ old)
Builds (Err NotTyped) old new blocks found = found ≡ None
Builds (Err OutOfMemory) old new blocks found = ⊤

-- the same by the rule
abbrev pub DecidesBuild : {A : Type 0} → Result A Fault → Blocks → (A × Blocks → Type 0) → Type 0
DecidesBuild (Ok r) blocks P = P (r, blocks)
DecidesBuild {A = A} (Err NotTyped) blocks P = (r : A × Blocks) → P r → ⊥
DecidesBuild (Err OutOfMemory) blocks P = ⊤

pub decided_build : {A : Type 0} (result : Result A Fault) (old new : Scope) (blocks : Blocks) (found : Option (A × Blocks)) (P : A × Blocks → Type 0)
    → Reads found P → Builds result old new blocks found → DecidesBuild result blocks P
decided_build (Ok r) old new blocks found P reads h = (reads (r, blocks)).0 h.0
decided_build (Err NotTyped) old new blocks found P reads e = λ r p. let h = (reads r).1 p in cc
decided_build (Err OutOfMemory) old new blocks found P reads h = tt

-- ---- parts in order, each after the blocks of those before it

unfoldable pub EachBuild : {X Y : Type 0} → (X → BuildRule Y) → List X → BuildRule (List Y)
EachBuild R [] cx bs r = r ≡ ([], bs)
EachBuild {Y = Y} R (x ∷ xs) cx bs r =
    (y : Y × Blocks) × R x cx bs y ×
    ((more : List Y × Blocks) × EachBuild R xs cx y.1 more ×
    (r ≡ (y.0 ∷ more.0, more.1)))

unfoldable pub every_build : {X Y : Type 0} → (X → FindBuild Y) → List X → FindBuild (List Y)
every_build f [] cx bs = Some ([], bs)
every_build {Y = Y} f (x ∷ xs) cx bs =
    and_then {B = List Y × Blocks} (f x cx bs) (λ y.
    and_then {B = List Y × Blocks} (every_build f xs cx y.1) (λ more.
    Some (y.0 ∷ more.0, more.1)))

pub every_build_exact : {X Y : Type 0} {f : X → FindBuild Y} {R : X → BuildRule Y} → ((x : X) → ExactBuild (f x) (R x)) → (xs : List X) → ExactBuild (every_build f xs) (EachBuild R xs)
unfolding every_build EachBuild Then
every_build_exact h [] cx bs = reads_give _
every_build_exact h (x ∷ xs) cx bs = reads_then (h x cx bs) (λ y. reads_then (every_build_exact h xs cx y.1) (λ more. reads_give _))

-- ---- blocks

abbrev pub local : List ℕ → Ty → LocalKind → Local
local name t kind = record { name = name; ty = t; kind = kind }

-- in a scope of its own, with this local
abbrev pub with_item : Context → Local → Context
with_item cx l = with_local (entered cx) l

-- A piece of code after these blocks. Of the locals that it begins with, so many stand where it is written, and the others are
-- its parameters.
abbrev pub block_of : Blocks → List Local → ℕ → ℕ → CodeForm → Code
block_of bs locals outer n form = record {
  outer = outer;
  kept = locals_used bs outer form;
  types = types_at locals (locals_used bs outer form) ++ map local_type (drop outer locals);
  parameters = n;
  form = form;
}

-- the place of a block that comes behind these
abbrev pub next_block : Blocks → BlockId
next_block bs = record { number = length bs }

abbrev pub added_block : Blocks → Code → BlockId × Blocks
added_block bs c = (next_block bs, bs ++ c ∷ [])

-- an action block with n parameters, the last locals here; so many locals stand where it is written
unfoldable pub Action : ℕ → List Stmt → ℕ → BuildRule BlockId
Action n ss outer cx bs r =
    (body : List CoreStmt) × TypedBlock ss cx body ×
    (r ≡ added_block bs (block_of bs cx.locals outer n (code.Statements body)))

unfoldable pub action : ℕ → List Stmt → ℕ → FindBuild BlockId
action n ss outer cx bs =
    and_then {B = BlockId × Blocks} (find_block ss cx) (λ body.
    Some (added_block bs (block_of bs cx.locals outer n (code.Statements body))))

-- an action block with two parameters, whose names differ
unfoldable pub ActsTwo : List Stmt → Local → Local → BuildRule BlockId
ActsTwo ss l m cx bs r = IsNew m.name (with_item cx l) × Action 2 ss (length cx.locals) (with_local (with_item cx l) m) bs r

unfoldable pub acts_two : List Stmt → Local → Local → FindBuild BlockId
acts_two ss l m cx bs = when (is_new m.name (with_item cx l)) (action 2 ss (length cx.locals) (with_local (with_item cx l) m) bs)

-- The builder of a preference reader, whose parameter is the last local here; so many locals stand where it is written, and it
-- alters none of these.
unfoldable pub ReaderBlock : ItemsRule → List Stmt → ℕ → BuildRule BlockId
ReaderBlock k ss outer cx bs r =
    (x : List CoreItem × Blocks) × k ss cx bs x ×
    ((reader_keeps outer (length x.1) (code.Builder x.0) ≡ true) ×
    (r ≡ added_block x.1 (block_of x.1 cx.locals outer 1 (code.Builder x.0))))

unfoldable pub reader_block : FindItems → List Stmt → ℕ → FindBuild BlockId
reader_block f ss outer cx bs =
    and_then {B = BlockId × Blocks} (f ss cx bs) (λ x.
    when (reader_keeps outer (length x.1) (code.Builder x.0)) (
    Some (added_block x.1 (block_of x.1 cx.locals outer 1 (code.Builder x.0)))))

-- the same with the parameter, which is the value
abbrev pub Reader : ItemsRule → List Stmt → Local → BuildRule BlockId
Reader k ss l cx bs r = ReaderBlock k ss (length cx.locals) (with_item cx l) bs r

abbrev pub reader : FindItems → List Stmt → Local → FindBuild BlockId
reader f ss l cx bs = reader_block f ss (length cx.locals) (with_item cx l) bs

-- ---- laws

pub action_exact : (n : ℕ) (ss : List Stmt) (outer : ℕ) → ExactBuild (action n ss outer) (Action n ss outer)
unfolding action Action Then
action_exact n ss outer cx bs = reads_then (block_exact ss cx) (λ body. reads_give _)

pub acts_two_exact : (ss : List Stmt) (l m : Local) → ExactBuild (acts_two ss l m) (ActsTwo ss l m)
unfolding acts_two ActsTwo
acts_two_exact ss l m cx bs = reads_when (new_decides m.name (with_item cx l)) (action_exact 2 ss _ _ bs)

pub reader_block_exact : {f : FindItems} {k : ItemsRule} → ExactItems f k → (ss : List Stmt) (outer : ℕ) → ExactBuild (reader_block f ss outer) (ReaderBlock k ss outer)
unfolding reader_block ReaderBlock Then
reader_block_exact h ss outer cx bs = reads_then (h ss cx bs) (λ x. reads_when bool_is (reads_give _))

pub reader_exact : {f : FindItems} {k : ItemsRule} → ExactItems f k → (ss : List Stmt) (l : Local) → ExactBuild (reader f ss l) (Reader k ss l)
reader_exact h ss l cx bs = reader_block_exact h ss (length cx.locals) (with_item cx l) bs
