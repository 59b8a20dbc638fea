-- What is built in a scope of its own: as it is found there, and the scope as it was before.
use Rattle.std.proofs.Common.{◌≡◌, ℕ, Bool, true, false, List, [], ◌∷◌, ◌++◌, take, length, Option, Some, None, sym, ap, subst, ◌∙◌}
use Rattle.swift_ast.specs.declared.tree.Stmt.{Stmt}
use Rattle.swift_core.specs.Readers.{reader_keeps}
use Rattle.swift_core.specs.declared.code.CodeForm.TheVariants as code
use Rattle.swift_core.specs.declared.ids.BlockId.{BlockId}
use Rattle.swift_core.specs.declared.item.CoreItem.{CoreItem}
use Rattle.swift_core.specs.declared.stmt.CoreStmt.{CoreStmt}
use Rattle.stmt_rules.specs.Search.{find_block}
use Rattle.type_base.specs.Claims.{and_then, when}
use Rattle.type_base.specs.declared.scope.Local.{Local}
use Rattle.type_base.specs.declared.scope.Scope.{Scope}
use Rattle.type_base.specs.Context.{seen}
use Rattle.type_base.specs.Names.{is_new}
use Rattle.type_base.specs.Scopes.{Keeps, keeps_same, keeps_pushed, left_is, opened, pushed, with_local, entered}
use Rattle.view_rules.specs.Builds.{Blocks, FindBuild, FindItems, with_item, block_of, next_block, added_block, action, acts_two, reader_block}

left_from : (old out last : Scope) (m n : ℕ) → Keeps (opened old) out → m ≡ length old.locals → n ≡ old.floor
    → last ≡ record out { locals = take m out.locals; floor = n } → last ≡ old
left_from old out last m n k l w h =
    let same : record out { locals = take m out.locals; floor = n } ≡ record out { locals = take (length old.locals) out.locals; floor = old.floor } = λ i. record out { locals = take (l i) out.locals; floor = w i } in
    h ∙ same ∙ left_is old out k

-- in a scope without locals of its own
pub same_built : {A : Type 0} (f : ℕ → FindBuild A) (old inside out last : Scope) (m n : ℕ) (bs : Blocks) (r : A × Blocks) → inside ≡ opened old
    → (f m (seen inside) bs ≡ Some r) × (out ≡ inside) → m ≡ length old.locals → n ≡ old.floor → last ≡ record out { locals = take m out.locals; floor = n }
    → (f (length old.locals) (entered (seen old)) bs ≡ Some r) × (last ≡ old)
same_built f old inside out last m n bs r e h l w t =
    let kept : Keeps (opened old) out = subst (λ (s : Scope). Keeps (opened old) s) (sym (h.1 ∙ e)) (keeps_same (opened old)) in
    let there : f m (entered (seen old)) bs ≡ Some r = subst (λ (s : Scope). f m (seen s) bs ≡ Some r) e h.0 in
    (subst (λ (k : ℕ). f k (entered (seen old)) bs ≡ Some r) l there, left_from old out last m n kept l w t)

-- in a scope with one local
pub item_built : {A : Type 0} (f : ℕ → FindBuild A) (old inside there out last : Scope) (item : Local) (m n : ℕ) (bs : Blocks) (r : A × Blocks) → inside ≡ opened old → there ≡ pushed inside item
    → (f m (seen there) bs ≡ Some r) × (out ≡ there) → m ≡ length old.locals → n ≡ old.floor → last ≡ record out { locals = take m out.locals; floor = n }
    → (f (length old.locals) (with_item (seen old) item) bs ≡ Some r) × (last ≡ old)
item_built f old inside there out last item m n bs r e p h l w t =
    let is : there ≡ pushed (opened old) item = p ∙ ap (λ (s : Scope). pushed s item) e in
    let kept : Keeps (opened old) out = subst (λ (s : Scope). Keeps (opened old) s) (sym (h.1 ∙ is)) (keeps_pushed _ _ item (keeps_same (opened old))) in
    let found : f m (with_item (seen old) item) bs ≡ Some r = subst (λ (s : Scope). f m (seen s) bs ≡ Some r) is h.0 in
    (subst (λ (k : ℕ). f k (with_item (seen old) item) bs ≡ Some r) l found, left_from old out last m n kept l w t)

-- in a scope with two locals, whose names differ
pub items_built : (ss : List Stmt) (old inside one two out last : Scope) (first second : Local) (m n : ℕ) (bs : Blocks) (r : BlockId × Blocks) → inside ≡ opened old → one ≡ pushed inside first
    → (is_new second.name (seen one) ≡ true) × (two ≡ pushed one second)
    → (action 2 ss m (seen two) bs ≡ Some r) × (out ≡ two) → m ≡ length old.locals → n ≡ old.floor → last ≡ record out { locals = take m out.locals; floor = n }
    → (acts_two ss first second (seen old) bs ≡ Some r) × (last ≡ old)
unfolding acts_two
items_built ss old inside one two out last first second m n bs r e p d h l w t =
    let is : one ≡ pushed (opened old) first = p ∙ ap (λ (s : Scope). pushed s first) e in
    let both : two ≡ pushed (pushed (opened old) first) second = d.1 ∙ ap (λ (s : Scope). pushed s second) is in
    let kept : Keeps (opened old) out = subst (λ (s : Scope). Keeps (opened old) s) (sym (h.1 ∙ both)) (keeps_pushed _ _ second (keeps_pushed _ _ first (keeps_same (opened old)))) in
    let fresh : is_new second.name (with_item (seen old) first) ≡ true = subst (λ (s : Scope). is_new second.name (seen s) ≡ true) is d.0 in
    let at : action 2 ss m (with_local (with_item (seen old) first) second) bs ≡ Some r = subst (λ (s : Scope). action 2 ss m (seen s) bs ≡ Some r) both h.0 in
    let found : action 2 ss (length old.locals) (with_local (with_item (seen old) first) second) bs ≡ Some r = subst (λ (k : ℕ). action 2 ss k (with_local (with_item (seen old) first) second) bs ≡ Some r) l at in
    (rw fresh found, left_from old out last m n kept l w t)

-- ---- a block behind those so far

placed : (b b' : BlockId) (bs bs' : Blocks) → b ≡ b' → bs ≡ bs' → ◌≡◌ {A = Option (BlockId × Blocks)} (Some (b, bs)) (Some (b', bs'))
placed b b' bs bs' e h = λ i. Some (e i, h i)

-- an action block, of the statements that are found
pub action_built : (n : ℕ) (ss : List Stmt) (outer : ℕ) (old out : Scope) (locals : List Local) (bs bs' : Blocks) (body : List CoreStmt) (b : BlockId) → find_block ss (seen old) ≡ Some body → out ≡ old → locals ≡ out.locals
    → b ≡ next_block bs → bs' ≡ bs ++ block_of bs locals outer n (code.Statements body) ∷ [] → (action n ss outer (seen old) bs ≡ Some (b, bs')) × (out ≡ old)
unfolding action and_then
action_built n ss outer old out locals bs bs' body b found same held at put =
    let all : locals ≡ old.locals = held ∙ ap (λ (s : Scope). s.locals) same in
    let there : bs' ≡ bs ++ block_of bs old.locals outer n (code.Statements body) ∷ [] = put ∙ ap (λ (ls : List Local). bs ++ block_of bs ls outer n (code.Statements body) ∷ []) all in
    let first = ap (λ (o : Option (List CoreStmt)). and_then {B = BlockId × Blocks} o (λ body. Some (added_block bs (block_of bs old.locals outer n (code.Statements body))))) found in
    (first ∙ placed (next_block bs) b (bs ++ block_of bs old.locals outer n (code.Statements body) ∷ []) bs' (sym at) (sym there), same)

-- the builder of a preference reader, of the items that are found
pub reader_built : (f : FindItems) (ss : List Stmt) (outer : ℕ) (old out : Scope) (locals : List Local) (bs mid bs' : Blocks) (items : List CoreItem) (b : BlockId) → (f ss (seen old) bs ≡ Some (items, mid)) × (out ≡ old)
    → reader_keeps outer (length mid) (code.Builder items) ≡ true → locals ≡ out.locals → b ≡ next_block mid → bs' ≡ mid ++ block_of mid locals outer 1 (code.Builder items) ∷ [] → (reader_block f ss outer (seen old) bs ≡ Some (b, bs')) × (out ≡ old)
unfolding reader_block and_then
reader_built f ss outer old out locals bs mid bs' items b found keeps held at put =
    let all : locals ≡ old.locals = held ∙ ap (λ (s : Scope). s.locals) found.1 in
    let there : bs' ≡ mid ++ block_of mid old.locals outer 1 (code.Builder items) ∷ [] = put ∙ ap (λ (ls : List Local). mid ++ block_of mid ls outer 1 (code.Builder items) ∷ []) all in
    let first = ap (λ (o : Option (List CoreItem × Blocks)). and_then {B = BlockId × Blocks} o (λ x.
    when (reader_keeps outer (length x.1) (code.Builder x.0)) (Some (added_block x.1 (block_of x.1 old.locals outer 1 (code.Builder x.0)))))) found.0 in
    let kept = ap (λ (c : Bool). when {A = BlockId × Blocks} c (Some (added_block mid (block_of mid old.locals outer 1 (code.Builder items))))) keeps in
    (first ∙ kept ∙ placed (next_block mid) b (mid ++ block_of mid old.locals outer 1 (code.Builder items) ∷ []) bs' (sym at) (sym there), found.1)

-- where it alters something of what it sees, none is found
pub reader_refused : (f : FindItems) (ss : List Stmt) (outer : ℕ) (old out : Scope) (bs mid : Blocks) (items : List CoreItem) → (f ss (seen old) bs ≡ Some (items, mid)) × (out ≡ old)
    → reader_keeps outer (length mid) (code.Builder items) ≡ false → reader_block f ss outer (seen old) bs ≡ None
unfolding reader_block and_then
reader_refused f ss outer old out bs mid items found keeps =
    ap (λ (o : Option (List CoreItem × Blocks)). and_then {B = BlockId × Blocks} o (λ x.
    when (reader_keeps outer (length x.1) (code.Builder x.0)) (Some (added_block x.1 (block_of x.1 old.locals outer 1 (code.Builder x.0)))))) found.0
    ∙ ap (λ (c : Bool). when {A = BlockId × Blocks} c (Some (added_block mid (block_of mid old.locals outer 1 (code.Builder items))))) keeps
