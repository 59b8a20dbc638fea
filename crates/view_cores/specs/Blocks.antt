-- The blocks that a builder adds are well typed where they stand.
use Rattle.std.specs.Prelude.{◌≡◌, ◌⊎◌, ℕ, zero, suc, ◌+◌, ◌<◌, ◌≤◌, true, List, [], ◌∷◌, ◌++◌, length, take, Some, None, slice_get}
use Rattle.std.proofs.Common.{refl, sym, ap, subst, ◌∙◌, arith, inl, inr}
use Rattle.std.proofs.lemmas.Bool.{cases_lt}
use Rattle.std.proofs.lemmas.List.{append-nil, append_assoc, length-append, length-map}
use Rattle.swift_ast.specs.declared.tree.Stmt.{Stmt}
use Rattle.swift_core.specs.Context as cores
use Rattle.swift_core.specs.Typing as typing
use Rattle.swift_core.specs.Typing.{in_body, IsBlock, IsAction, IsReader, Items, with_parameters, PlacesStand, BlockStands}
use Rattle.swift_core.specs.Readers.{reader_keeps}
use Rattle.swift_core.specs.Uses.{locals_used}
use Rattle.swift_core.specs.declared.code.Code.{Code}
use Rattle.swift_core.specs.declared.code.CodeForm.{CodeForm}
use Rattle.swift_core.specs.declared.code.CodeForm.TheVariants as code
use Rattle.swift_core.specs.declared.ids.BlockId.{BlockId}
use Rattle.swift_core.specs.declared.item.CoreItem.{CoreItem}
use Rattle.swift_core.specs.declared.table.Declaration.{Declaration}
use Rattle.swift_core.specs.declared.ty.Ty.{Ty}
use Rattle.type_base.specs.Claims.{some_is}
use Rattle.type_base.specs.Context.{Context}
use Rattle.type_base.specs.declared.scope.Local.{Local}
use Rattle.type_base.specs.declared.scope.LocalKind.TheVariants as local_kind
use Rattle.type_base.specs.declared.scope.Stance.TheVariants as stance
use Rattle.view_rules.specs.Builds.{Blocks, ItemsRule, Action, ActsTwo, ReaderBlock, Reader, block_of, next_block, local, with_item}
use Rattle.view_rules.specs.Forms.{is_view}
use Rattle.view_rules.specs.Views.{Acts}
use Rattle.expr_cores.specs.Contexts.{core_context, core_local, core_locals, Fits}
use Rattle.stmt_cores.specs.Conditions.{one_more}
use Rattle.stmt_cores.specs.Statements.{block_good}
use Rattle.view_cores.specs.Types.{types_kept}

-- in the members of a view `self` is the view
abbrev pub ViewIsSelf : Context → Type 0
ViewIsSelf cx = (d : ℕ) (declaration : Declaration) → cx.owner ≡ Some d → slice_get cx.table.declarations d ≡ Some declaration → is_view declaration.kind ≡ true → cx.stance ≡ stance.View

-- ---- the blocks so far are the first of all

pub record Front (bs all : Blocks) : Type 0 where
  pub rest : Blocks
  pub same : all ≡ bs ++ rest

pub front_same : (bs : Blocks) → Front bs bs
front_same bs = record { rest = []; same = sym (append-nil bs) }

pub front_more : (bs : Blocks) (c : Code) → Front bs (bs ++ c ∷ [])
front_more bs c = record { rest = c ∷ []; same = refl }

pub front_then : {a b c : Blocks} → Front a b → Front b c → Front a c
front_then {a = a} f g = record { rest = f.rest ++ g.rest; same = g.same ∙ ap (λ (x : Blocks). x ++ g.rest) f.same ∙ append_assoc a f.rest g.rest }

-- ---- the blocks that stand behind some of them

-- each block behind these, and among those, stands somewhere in the member
abbrev pub Between : cores.Context → Blocks → Blocks → Type 0
Between cx bs more = (b : BlockId) → length bs ≤ b.number → b.number < length more → BlockStands cx b

pub between_same : (cx : cores.Context) (bs : Blocks) → Between cx bs bs
between_same cx bs b le lt = absurd (omega (arith, le, lt))

pub between_then : (cx : cores.Context) (a b c : Blocks) → Between cx a b → Between cx b c → Between cx a c
between_then cx a b c f g id le lt = go (cases_lt id.number (length b))
  where
    go : (id.number < length b) ⊎ (length b ≤ id.number) → BlockStands cx id
    go (inl within) = f id le within
    go (inr behind) = g id behind lt

pub between_one : (cx : cores.Context) (bs : Blocks) (c : Code) → BlockStands cx (next_block bs) → Between cx bs (bs ++ c ∷ [])
between_one cx bs c h b le lt =
    let e : length (bs ++ c ∷ []) ≡ length bs + 1 = length-append bs (c ∷ []) in
    let same : length bs ≡ b.number = omega (arith, le, lt, e) in
    subst (λ (n : ℕ). BlockStands cx (record { number = n })) same h

-- with one more local, which stands in a view if it holds a place
pub places_more : (cx : cores.Context) (ls : List cores.Local) (l : cores.Local) → ((t : Ty) → l ≡ cores.Local.placed t → cx.itself ≡ cores.Itself.a_view) → PlacesStand cx ls → PlacesStand cx (ls ++ l ∷ [])
places_more cx [] l is stand zero t e = is t (some_is l (cores.Local.placed t) e)
places_more cx [] l is stand (suc i) t e = cc
places_more cx (m ∷ ls) l is stand zero t e = stand zero t e
places_more cx (m ∷ ls) l is stand (suc i) t e = places_more cx ls l is (λ j u g. stand (suc j) u g) i t e

pub places_valued : (cx : cores.Context) (ls : List cores.Local) (t : Ty) → PlacesStand cx ls → PlacesStand cx (ls ++ cores.Local.valued t ∷ [])
places_valued cx ls t stand = places_more cx ls (cores.Local.valued t) (λ u e. cc) stand

-- ---- what a part adds

-- A part adds its blocks behind those before it, and is well typed where all blocks of the member begin with those so far. So are
-- the blocks that it adds, where locals that hold places stand in a view.
abbrev pub Grown : {A : Type 0} → Blocks → Context → Blocks → A × Blocks → (A → Type 0) → Type 0
Grown all cx bs r P = Front bs r.1 × (Front r.1 all → P r.0) × (Front r.1 all → PlacesStand (core_context cx all) (core_locals cx.locals) → Between (core_context cx all) bs r.1)

-- a rule of items relates well typed ones alone
abbrev pub ItemsGood : ItemsRule → Type 0
ItemsGood k = (ss : List Stmt) (all : Blocks) (cx : Context) (bs : Blocks) (r : List CoreItem × Blocks) → Fits cx.table → ViewIsSelf cx → k ss cx bs r
    → Grown all cx bs r (λ (items : List CoreItem). Items (core_context cx all) (core_locals cx.locals) items)

-- ---- a block at its place

got_at : (bs : Blocks) (c : Code) (rest : Blocks) → slice_get ((bs ++ c ∷ []) ++ rest) (length bs) ≡ Some c
got_at [] c rest = refl
got_at (b ∷ bs) c rest = got_at bs c rest

taken_at : (bs : Blocks) (c : Code) (rest : Blocks) → take (length bs) ((bs ++ c ∷ []) ++ rest) ≡ bs
taken_at [] c rest = refl
taken_at (b ∷ bs) c rest = let t = taken_at bs c rest in λ i. b ∷ t i

block_good_at : (all : Blocks) (cx : Context) (ls : List Local) (bs : Blocks) (ts : List Ty) (form : CodeForm) → core_locals ls ≡ with_parameters (core_locals cx.locals) ts
    → Front (bs ++ block_of bs ls (length cx.locals) (length ts) form ∷ []) all → IsBlock (core_context cx all) (core_locals cx.locals) (next_block bs) ts form
block_good_at all cx ls bs ts form same f =
    let c = block_of bs ls (length cx.locals) (length ts) form in
    let long : length (core_locals cx.locals) ≡ length cx.locals = length-map cx.locals (λ (l : Local). core_local l.ty l.kind) in
    IsBlock.written_here {b = next_block bs} {c = c}
    (ap (λ (x : Blocks). slice_get x (length bs)) f.same ∙ got_at bs c f.rest)
    (sym long)
    refl
    (ap (λ (x : Blocks). locals_used x (length cx.locals) form) (sym (ap (λ (x : Blocks). take (length bs) x) f.same ∙ taken_at bs c f.rest)))
    (types_kept ls (core_locals cx.locals) ts (length cx.locals) long same bs form)

-- ---- action blocks

action_good : (all : Blocks) (cx : Context) (ls : List Local) (floor : ℕ) (ts : List Ty) (ss : List Stmt) (bs : Blocks) (r : BlockId × Blocks) → Fits cx.table
    → core_locals ls ≡ with_parameters (core_locals cx.locals) ts → Action (length ts) ss (length cx.locals) (record cx { locals = ls; floor = floor }) bs r
    → Grown all cx bs r (λ (b : BlockId). IsAction (core_context cx all) (core_locals cx.locals) b ts)
unfolding Action
action_good all cx ls floor ts ss bs r fit same (body, h, q) =
    let c = block_of bs ls (length cx.locals) (length ts) (code.Statements body) in
    let inner = block_good ss all (record cx { locals = ls; floor = floor }) body fit h in
    let is : Front (bs ++ c ∷ []) all → IsAction (core_context cx all) (core_locals cx.locals) (next_block bs) ts =
    λ f. IsAction.action (block_good_at all cx ls bs ts (code.Statements body) same f) refl
    (subst (λ (xs : List cores.Local). typing.Statements (core_context cx all) None in_body xs body inner.0) same inner.1) in
    subst (λ (y : BlockId × Blocks). Grown all cx bs y (λ (b : BlockId). IsAction (core_context cx all) (core_locals cx.locals) b ts)) (sym q)
    (front_more bs c, is, λ f stand. between_one (core_context cx all) bs c (BlockStands.an_action (is f)))

-- an action without parameters
pub acts_good : (all : Blocks) (cx : Context) (ss : List Stmt) (bs : Blocks) (r : BlockId × Blocks) → Fits cx.table → Acts ss cx bs r
    → Grown all cx bs r (λ (b : BlockId). IsAction (core_context cx all) (core_locals cx.locals) b [])
acts_good all cx ss bs r fit h = action_good all cx cx.locals (length cx.locals) [] ss bs r fit (sym (append-nil (core_locals cx.locals))) h

-- an action with one parameter
pub acts_one_good : (all : Blocks) (cx : Context) (w : List ℕ) (t : Ty) (ss : List Stmt) (bs : Blocks) (r : BlockId × Blocks) → Fits cx.table
    → Action 1 ss (length cx.locals) (with_item cx (local w t local_kind.Let)) bs r
    → Grown all cx bs r (λ (b : BlockId). IsAction (core_context cx all) (core_locals cx.locals) b (t ∷ []))
acts_one_good all cx w t ss bs r fit h =
    let l = local w t local_kind.Let in action_good all cx (cx.locals ++ l ∷ []) (length cx.locals) (t ∷ []) ss bs r fit (one_more cx.locals l) h

-- an action with two parameters
pub acts_two_good : (all : Blocks) (cx : Context) (v w : List ℕ) (t : Ty) (ss : List Stmt) (bs : Blocks) (r : BlockId × Blocks) → Fits cx.table
    → ActsTwo ss (local v t local_kind.Let) (local w t local_kind.Let) cx bs r
    → Grown all cx bs r (λ (b : BlockId). IsAction (core_context cx all) (core_locals cx.locals) b (t ∷ t ∷ []))
unfolding ActsTwo
acts_two_good all cx v w t ss bs r fit (n, h) =
    let l = local v t local_kind.Let in
    let m = local w t local_kind.Let in
    let one = cores.Local.valued t ∷ [] in
    let same = one_more (cx.locals ++ l ∷ []) m ∙ ap (λ (xs : List cores.Local). xs ++ one) (one_more cx.locals l) ∙ append_assoc (core_locals cx.locals) one one in
    action_good all cx ((cx.locals ++ l ∷ []) ++ m ∷ []) (length cx.locals) (t ∷ t ∷ []) ss bs r fit same h

-- ---- the builder of a preference reader

pub reader_good : (k : ItemsRule) → ItemsGood k → (all : Blocks) (cx : Context) (w : List ℕ) (t : Ty) (ss : List Stmt) (bs : Blocks) (r : BlockId × Blocks) → Fits cx.table → ViewIsSelf cx
    → Reader k ss (local w t local_kind.Let) cx bs r → Grown all cx bs r (λ (b : BlockId). IsReader (core_context cx all) (core_locals cx.locals) b t)
unfolding ReaderBlock
reader_good k good all cx w t ss bs r fit iv (x, h, (keeps, q)) =
    let l = local w t local_kind.Let in
    let c = block_of x.1 (cx.locals ++ l ∷ []) (length cx.locals) 1 (code.Builder x.0) in
    let g = good ss all (with_item cx l) bs x fit iv h in
    let long : length (core_locals cx.locals) ≡ length cx.locals = length-map cx.locals (λ (m : Local). core_local m.ty m.kind) in
    let is : Front (x.1 ++ c ∷ []) all → IsReader (core_context cx all) (core_locals cx.locals) (next_block x.1) t =
    λ f. IsReader.reader (block_good_at all cx (cx.locals ++ l ∷ []) x.1 (t ∷ []) (code.Builder x.0) (one_more cx.locals l) f) refl
    (subst (λ (xs : List cores.Local). Items (core_context cx all) xs x.0) (one_more cx.locals l) (g.1 (front_then (front_more x.1 c) f)))
    (subst (λ (n : ℕ). reader_keeps n (length x.1) (code.Builder x.0) ≡ true) (sym long) keeps) in
    subst (λ (y : BlockId × Blocks). Grown all cx bs y (λ (b : BlockId). IsReader (core_context cx all) (core_locals cx.locals) b t)) (sym q) (
      front_then g.0 (front_more x.1 c),
      is,
      λ f stand. between_then (core_context cx all) bs x.1 (x.1 ++ c ∷ [])
          (g.2 (front_then (front_more x.1 c) f)
          (subst (λ (xs : List cores.Local). PlacesStand (core_context cx all) xs) (sym (one_more cx.locals l)) (places_valued (core_context cx all) (core_locals cx.locals) t stand)))
          (between_one (core_context cx all) x.1 c (BlockStands.a_reader stand (is f))),
    )
