-- Lists of statements, arms and cases that are searched from the left.
use Rattle.std.proofs.Common.{◌≡◌, ◌-◌, ℕ, suc, ◌<◌, ◌≤◌, ◌+◌, Bool, true, false, ◌||◌, ◌&&◌, List, [], ◌∷◌, ◌++◌, length, take, drop, map, Option, Some, None, Result, Ok, Err, OnOk, slice_index_or, refl, sym, ap, subst, ◌∙◌, arith, append_assoc}
use Rattle.std.proofs.lemmas.List.{append-nil}
use Rattle.swift_ast.specs.declared.tree.Condition.{Condition}
use Rattle.swift_ast.specs.declared.tree.Arm.{Arm, out-Arm}
use Rattle.swift_ast.specs.declared.tree.Stmt.{Stmt, out-Stmt}
use Rattle.swift_ast.specs.declared.tree.StmtForm.{out-StmtForm}
use Rattle.swift_ast.specs.declared.tree.SwitchCase.{SwitchCase, out-SwitchCase}
use Rattle.swift_core.specs.declared.stmt.Condition.{Condition as CoreCondition}
use Rattle.swift_core.specs.declared.stmt.CoreStmt.{CoreStmt}
use Rattle.type_base.specs.declared.scope.Local.{Local}
use Rattle.type_base.specs.declared.scope.Scope.{Scope}
use Rattle.type_base.specs.Claims.{and_then}
use Rattle.type_base.specs.Context.{Context, seen}
use Rattle.type_base.specs.Rules.{FindPart, Answers}
use Rattle.type_base.specs.Scopes.{Keeps, keeps_same, keeps_pushed, left_is, opened as entered_scope, pushed, with_local, entered}
use Rattle.case_rules.specs.Each.{opened, ended}
use Rattle.case_rules.specs.Conditions.{find_conditions}
use Rattle.case_rules.specs.Scopes.{any_pushed, with_any, with_locals}
use Rattle.swift_core.specs.declared.ty.Ty.{Ty}
use Rattle.stmt_rules.specs.declared.done.Exits.{Exits}
use Rattle.stmt_rules.specs.declared.done.Done.{Done}
use Rattle.stmt_rules.specs.declared.done.Body.{Body}
use Rattle.stmt_rules.specs.declared.done.Arms.{Arms}
use Rattle.stmt_rules.specs.declared.done.Bodies.{Bodies}
use Rattle.stmt_rules.specs.Rules.{body, arms, bodies, stmt_case, stmt_cases}
use Rattle.stmt_rules.specs.Finds.{Finds, FindsAdding}
use Rattle.case_rules.specs.Cases.{Label}
use Rattle.std.specs.List.{zip}
use Rattle.type_base.specs.declared.fault.Fault.{Fault}
use Rattle.type_base.specs.declared.fault.Fault.TheVariants.{NotTyped, OutOfMemory}
use Rattle.type_stmt.specs.Parts.{joined, body_of, more_arms, one_arm, more_bodies, one_of, guarded_in}
use Rattle.stmt_rules.specs.Search.{FindStmt, statements, braces, guarded, find_arms, find_bodies, stmt_at, find_stmt_to}

seen_any : (s : Scope) (l : Option Local) → seen (any_pushed s l) ≡ with_any (seen s) l
seen_any s None = refl
seen_any s (Some l) = refl

pub keeps_any : (old s : Scope) (l : Option Local) → Keeps old s → Keeps old (any_pushed s l)
keeps_any old s None k = k
keeps_any old s (Some l) k = keeps_pushed old s l k

-- the rest is found as the whole
abbrev pub StatementsRest : (Stmt → FindPart Done) → List Stmt → Context → Context → ℕ → Body → Type 0
StatementsRest f ss cx here i r = statements f ss cx ≡ and_then {B = Body} (statements f (drop i ss) here) (λ b. Some (joined r.core r.ends r.breaks b))

statements_step : (f : Stmt → FindPart Done) (ss : List Stmt) (here : Context) (i : ℕ) (s : Stmt) (o : Option Done) → i < length ss → s ≡ slice_index_or ss i s → f s here ≡ o
    → statements f (drop i ss) here ≡ and_then {B = Body} o (λ a. and_then {B = Body} (statements f (drop (i + 1) ss) (with_any here a.declared)) (λ b. Some (joined (a.core ∷ []) a.ends a.breaks b)))
unfolding statements
statements_step f ss here i s o lt is w = ap (λ xs. statements f xs here) (opened ss i s lt) ∙ rw (sym is, w) refl

or_assoc : (a b c : Bool) → (a || (b || c)) ≡ ((a || b) || c)
or_assoc true b c = refl
or_assoc false b c = refl

moved : (o : Option Body) (core : List CoreStmt) (ends breaks : Bool) (c : CoreStmt) (e k : Bool)
    → and_then {B = Body} (and_then {B = Body} o (λ b. Some (joined (c ∷ []) e k b))) (λ b. Some (joined core ends breaks b))
    ≡ and_then {B = Body} o (λ b. Some (joined (core ++ c ∷ []) (ends || e) (breaks || k) b))
unfolding and_then
moved None core ends breaks c e k = refl
moved (Some r) core ends breaks c e k = λ i. Some (body (sym (append_assoc core (c ∷ []) r.core) i) (or_assoc ends e r.ends i) (or_assoc breaks k r.breaks i))

pub statements_turn : (f : Stmt → FindPart Done) (ss : List Stmt) (cx : Context) (here there : Scope) (i : ℕ) (r : Body) (s : Stmt) (a : Done)
    → i < length ss → s ≡ slice_index_or ss i s → f s (seen here) ≡ Some a → there ≡ any_pushed here a.declared
    → StatementsRest f ss cx (seen here) i r → StatementsRest f ss cx (seen there) (i + 1) (joined r.core r.ends r.breaks (body_of a))
unfolding and_then
statements_turn f ss cx here there i r s a lt is w t h =
    h ∙ ap (λ (o : Option Body). and_then {B = Body} o (λ b. Some (joined r.core r.ends r.breaks b))) (statements_step f ss (seen here) i s (Some a) lt is w)
    ∙ moved _ r.core r.ends r.breaks a.core a.ends a.breaks
    ∙ ap (λ (k : Context). and_then {B = Body} (statements f (drop (i + 1) ss) k) (λ b. Some (joined (r.core ++ a.core ∷ []) (r.ends || a.ends) (r.breaks || a.breaks) b))) (sym (ap seen t ∙ seen_any here a.declared))

pub statements_none : (f : Stmt → FindPart Done) (ss : List Stmt) (cx here : Context) (i : ℕ) (r : Body) (s : Stmt) → i < length ss → s ≡ slice_index_or ss i s → f s here ≡ None
    → StatementsRest f ss cx here i r → statements f ss cx ≡ None
unfolding and_then
statements_none f ss cx here i r s lt is w h = h ∙ ap (λ (o : Option Body). and_then {B = Body} o (λ b. Some (joined r.core r.ends r.breaks b))) (statements_step f ss here i s None lt is w)

or_false : (b : Bool) → (b || false) ≡ b
or_false true = refl
or_false false = refl

pub statements_end : (f : Stmt → FindPart Done) (ss : List Stmt) (cx here : Context) (i : ℕ) (r : Body) → length ss ≤ i
    → StatementsRest f ss cx here i r → statements f ss cx ≡ Some r
unfolding and_then statements
statements_end f ss cx here i r le h = h ∙ rw (ended ss i le, append-nil r.core, or_false r.ends, or_false r.breaks) refl

same_body : (o : Option Body) → o ≡ and_then {B = Body} o (λ b. Some (joined [] false false b))
unfolding and_then
same_body None = refl
same_body (Some r) = refl

pub statements_start : (f : Stmt → FindPart Done) (ss : List Stmt) (cx : Context) → StatementsRest f ss cx cx 0 (body [] false false)
statements_start f ss cx = same_body (statements f ss cx)

-- ---- arms

abbrev pub ArmsRest : (Stmt → FindPart Done) → List Arm → Context → ℕ → Arms → Type 0
ArmsRest f list cx i r = find_arms f list cx ≡ and_then {B = Arms} (find_arms f (drop i list) cx) (λ b. Some (more_arms r b))

abbrev pub find_arm : (Stmt → FindPart Done) → Arm → FindPart (List CoreCondition × Body)
find_arm f a = guarded f (out-Arm a).conditions (out-Arm a).body

arms_step : (f : Stmt → FindPart Done) (list : List Arm) (cx : Context) (i : ℕ) (a : Arm) (o : Option (List CoreCondition × Body)) → i < length list → a ≡ slice_index_or list i a → find_arm f a cx ≡ o
    → find_arms f (drop i list) cx ≡ and_then {B = Arms} o (λ g. and_then {B = Arms} (find_arms f (drop (i + 1) list) cx) (λ b. Some (more_arms (one_arm g) b)))
unfolding find_arms
arms_step f list cx i a o lt is w = ap (λ xs. find_arms f xs cx) (opened list i a lt) ∙ rw (sym is, w) refl

and_assoc : (a b c : Bool) → (a && (b && c)) ≡ ((a && b) && c)
and_assoc true b c = refl
and_assoc false b c = refl

moved_arms : (o : Option Arms) (r x : Arms) → and_then {B = Arms} (and_then {B = Arms} o (λ b. Some (more_arms x b))) (λ b. Some (more_arms r b)) ≡ and_then {B = Arms} o (λ b. Some (more_arms (more_arms r x) b))
unfolding and_then
moved_arms None r x = refl
moved_arms (Some b) r x = λ i. Some (arms (sym (append_assoc r.arms x.arms b.arms) i) (and_assoc r.ends x.ends b.ends i) (or_assoc r.breaks x.breaks b.breaks i))

pub arms_turn : (f : Stmt → FindPart Done) (list : List Arm) (cx : Context) (i : ℕ) (r : Arms) (a : Arm) (g : List CoreCondition × Body) → i < length list → a ≡ slice_index_or list i a → find_arm f a cx ≡ Some g
    → ArmsRest f list cx i r → ArmsRest f list cx (i + 1) (more_arms r (one_arm g))
unfolding and_then
arms_turn f list cx i r a g lt is w h = h ∙ ap (λ (o : Option Arms). and_then {B = Arms} o (λ b. Some (more_arms r b))) (arms_step f list cx i a (Some g) lt is w) ∙ moved_arms _ r (one_arm g)

pub arms_none : (f : Stmt → FindPart Done) (list : List Arm) (cx : Context) (i : ℕ) (r : Arms) (a : Arm) → i < length list → a ≡ slice_index_or list i a → find_arm f a cx ≡ None
    → ArmsRest f list cx i r → find_arms f list cx ≡ None
unfolding and_then
arms_none f list cx i r a lt is w h = h ∙ ap (λ (o : Option Arms). and_then {B = Arms} o (λ b. Some (more_arms r b))) (arms_step f list cx i a None lt is w)

and_true : (b : Bool) → (b && true) ≡ b
and_true true = refl
and_true false = refl

pub arms_end : (f : Stmt → FindPart Done) (list : List Arm) (cx : Context) (i : ℕ) (r : Arms) → length list ≤ i → ArmsRest f list cx i r → find_arms f list cx ≡ Some r
unfolding and_then find_arms
arms_end f list cx i r le h = h ∙ rw (ended list i le, append-nil r.arms, and_true r.ends, or_false r.breaks) refl

same_arms : (o : Option Arms) → o ≡ and_then {B = Arms} o (λ b. Some (more_arms (arms [] true false) b))
unfolding and_then
same_arms None = refl
same_arms (Some r) = refl

pub arms_start : (f : Stmt → FindPart Done) (list : List Arm) (cx : Context) → ArmsRest f list cx 0 (arms [] true false)
arms_start f list cx = same_arms (find_arms f list cx)

-- ---- bodies of cases

abbrev pub BodiesRest : (Stmt → FindPart Done) → List SwitchCase → Context → ℕ → Bodies → Type 0
BodiesRest f list cx i r = find_bodies f list cx ≡ and_then {B = Bodies} (find_bodies f (drop i list) cx) (λ b. Some (more_bodies r b))

bodies_step : (f : Stmt → FindPart Done) (list : List SwitchCase) (cx : Context) (i : ℕ) (c : SwitchCase) (o : Option Body) → i < length list → c ≡ slice_index_or list i c → braces f (out-SwitchCase c).body cx ≡ o
    → find_bodies f (drop i list) cx ≡ and_then {B = Bodies} o (λ g. and_then {B = Bodies} (find_bodies f (drop (i + 1) list) cx) (λ b. Some (more_bodies (one_of g) b)))
unfolding find_bodies
bodies_step f list cx i c o lt is w = ap (λ xs. find_bodies f xs cx) (opened list i c lt) ∙ rw (sym is, w) refl

moved_bodies : (o : Option Bodies) (r x : Bodies) → and_then {B = Bodies} (and_then {B = Bodies} o (λ b. Some (more_bodies x b))) (λ b. Some (more_bodies r b)) ≡ and_then {B = Bodies} o (λ b. Some (more_bodies (more_bodies r x) b))
unfolding and_then
moved_bodies None r x = refl
moved_bodies (Some b) r x = λ i. Some (bodies (sym (append_assoc r.bodies x.bodies b.bodies) i) (and_assoc r.ends x.ends b.ends i) (or_assoc r.breaks x.breaks b.breaks i))

pub bodies_turn : (f : Stmt → FindPart Done) (list : List SwitchCase) (cx : Context) (i : ℕ) (r : Bodies) (c : SwitchCase) (b : Body) → i < length list → c ≡ slice_index_or list i c → braces f (out-SwitchCase c).body cx ≡ Some b
    → BodiesRest f list cx i r → BodiesRest f list cx (i + 1) (more_bodies r (one_of b))
unfolding and_then
bodies_turn f list cx i r c b lt is w h = h ∙ ap (λ (o : Option Bodies). and_then {B = Bodies} o (λ b. Some (more_bodies r b))) (bodies_step f list cx i c (Some b) lt is w) ∙ moved_bodies _ r (one_of b)

pub bodies_none : (f : Stmt → FindPart Done) (list : List SwitchCase) (cx : Context) (i : ℕ) (r : Bodies) (c : SwitchCase) → i < length list → c ≡ slice_index_or list i c → braces f (out-SwitchCase c).body cx ≡ None
    → BodiesRest f list cx i r → find_bodies f list cx ≡ None
unfolding and_then
bodies_none f list cx i r c lt is w h = h ∙ ap (λ (o : Option Bodies). and_then {B = Bodies} o (λ b. Some (more_bodies r b))) (bodies_step f list cx i c None lt is w)

pub bodies_end : (f : Stmt → FindPart Done) (list : List SwitchCase) (cx : Context) (i : ℕ) (r : Bodies) → length list ≤ i → BodiesRest f list cx i r → find_bodies f list cx ≡ Some r
unfolding and_then find_bodies
bodies_end f list cx i r le h = h ∙ rw (ended list i le, append-nil r.bodies, and_true r.ends, or_false r.breaks) refl

same_bodies : (o : Option Bodies) → o ≡ and_then {B = Bodies} o (λ b. Some (more_bodies (bodies [] true false) b))
unfolding and_then
same_bodies None = refl
same_bodies (Some r) = refl

pub bodies_start : (f : Stmt → FindPart Done) (list : List SwitchCase) (cx : Context) → BodiesRest f list cx 0 (bodies [] true false)
bodies_start f list cx = same_bodies (find_bodies f list cx)

-- ---- levels

pub opens_to : (n : ℕ) (s : Stmt) → 0 < n → find_stmt_to n s ≡ stmt_at (find_stmt_to (n - 1)) (out-StmtForm (out-Stmt s).form)
unfolding find_stmt_to
opens_to n s some = let e : n ≡ suc (n - 1) = omega arith in ap (λ (k : ℕ). find_stmt_to k s) e

-- ---- conditions and what stands behind them

keeps_is : {A : Type 0} (xs ys : List A) → take (length ys) xs ≡ ys → xs ≡ ys ++ drop (length ys) xs
keeps_is xs [] e = refl
keeps_is [] (y ∷ ys) e = cc
keeps_is (x ∷ xs) (y ∷ ys) e =
    let h : x ≡ y = cc in
    let t : take (length ys) xs ≡ ys = cc in
    λ i. h i ∷ keeps_is xs ys t i

-- what is seen of a scope with more locals
seen_keeps : (old new : Scope) → Keeps old new → seen new ≡ with_locals (seen old) (drop (length old.locals) new.locals)
seen_keeps old new k =
    ap seen k.rest ∙ ap (λ (ls : List Local). seen (record old { locals = ls })) (keeps_is new.locals old.locals k.outer)

guarded_is : (f : Stmt → FindPart Done) (conditions : List Condition) (ss : List Stmt) (old new : Scope) (c : List CoreCondition)
    → find_conditions conditions (seen old) ≡ Some (c, drop (length old.locals) new.locals) → Keeps old new
    → guarded_in f conditions ss (seen old) ≡ and_then {B = List CoreCondition × Body} (braces f ss (seen new)) (λ b. Some (c, b))
unfolding and_then
guarded_is f conditions ss old new c e k = rw (e, seen_keeps old new k) refl

pub guarded_some : (f : Stmt → FindPart Done) (conditions : List Condition) (ss : List Stmt) (old new : Scope) (c : List CoreCondition) (b : Body)
    → find_conditions conditions (seen old) ≡ Some (c, drop (length old.locals) new.locals) → Keeps old new → braces f ss (seen new) ≡ Some b
    → guarded_in f conditions ss (seen old) ≡ Some (c, b)
unfolding and_then
guarded_some f conditions ss old new c b e k w = guarded_is f conditions ss old new c e k ∙ rw w refl

pub guarded_without : (f : Stmt → FindPart Done) (conditions : List Condition) (ss : List Stmt) (old new : Scope) (c : List CoreCondition)
    → find_conditions conditions (seen old) ≡ Some (c, drop (length old.locals) new.locals) → Keeps old new → braces f ss (seen new) ≡ None
    → guarded_in f conditions ss (seen old) ≡ None
unfolding and_then
guarded_without f conditions ss old new c e k w = guarded_is f conditions ss old new c e k ∙ rw w refl

pub guarded_none : (f : Stmt → FindPart Done) (conditions : List Condition) (ss : List Stmt) (old : Scope) → find_conditions conditions (seen old) ≡ None → guarded_in f conditions ss (seen old) ≡ None
unfolding and_then
guarded_none f conditions ss old e = rw e refl

pub none_to : (n : ℕ) (s : Stmt) (t : Option Ty) (e : Exits) (cx : Context) → n ≡ 0 → find_stmt_to n s t e cx ≡ None
unfolding find_stmt_to
none_to n s t e cx is = ap (λ (k : ℕ). find_stmt_to k s t e cx) is

-- ---- labels and statements of cases

pub zipped : (ls : List Label) (bs : List (List CoreStmt)) → map (λ (p : Label × List CoreStmt). stmt_case p.0 p.1) (zip ls bs) ≡ stmt_cases ls bs
zipped [] bs = refl
zipped (l ∷ ls) [] = refl
zipped (l ∷ ls) (b ∷ bs) = ap (λ cs. stmt_case l b ∷ cs) (zipped ls bs)

-- ---- the answers of a check that leaves the scope as it was

pub answers_found : {A : Type 0} (result : Result A Fault) (old new : Scope) (found : Option A) → Finds result old new found → Answers result found
answers_found (Ok r) old new found h = h.0
answers_found (Err NotTyped) old new found h = h
answers_found (Err OutOfMemory) old new found h = tt

pub same_scope : {A : Type 0} (result : Result A Fault) (old new : Scope) (found : Option A) → Finds result old new found → OnOk result (new ≡ old)
same_scope (Ok r) old new found h = h.1
same_scope (Err e) old new found h = tt

pub finds_opened : (n : ℕ) (s : Stmt) (t : Option Ty) (e : Exits) (result : Result Done Fault) (old new : Scope) → 0 < n
    → Finds result old new (stmt_at (find_stmt_to (n - 1)) (out-StmtForm (out-Stmt s).form) t e (seen old)) → Finds result old new (find_stmt_to n s t e (seen old))
finds_opened n s t e result old new h f = subst (λ (k : FindStmt). Finds result old new (k t e (seen old))) (sym (opens_to n s h)) f

-- ---- scopes that are entered and left

pub left_from : (old inside out last : Scope) (m n : ℕ) → inside ≡ entered_scope old → Keeps inside out → m ≡ length old.locals → n ≡ old.floor
    → last ≡ record out { locals = take m out.locals; floor = n } → last ≡ old
left_from old inside out last m n e k l w h =
    let kept : Keeps (entered_scope old) out = subst (λ (s : Scope). Keeps s out) e k in
    let same : record out { locals = take m out.locals; floor = n } ≡ record out { locals = take (length old.locals) out.locals; floor = old.floor } = λ i. record out { locals = take (l i) out.locals; floor = w i } in
    h ∙ same ∙ left_is old out kept

pub under_found : (f : Stmt → FindPart Done) (conditions : List Condition) (ss : List Stmt) (old mid new : Scope) (c : List CoreCondition) (b : Body)
    → (find_conditions conditions (seen old) ≡ Some (c, drop (length old.locals) mid.locals)) × Keeps old mid → (braces f ss (seen mid) ≡ Some b) × (new ≡ mid)
    → (guarded_in f conditions ss (seen old) ≡ Some (c, b)) × Keeps old new
under_found f conditions ss old mid new c b h w = (guarded_some f conditions ss old mid c b h.0 h.1 w.0, subst (λ (s : Scope). Keeps old s) (sym w.1) h.1)

pub under_fails : (f : Stmt → FindPart Done) (conditions : List Condition) (ss : List Stmt) (old mid new : Scope) (c : List CoreCondition) (fault : Fault)
    → (find_conditions conditions (seen old) ≡ Some (c, drop (length old.locals) mid.locals)) × Keeps old mid → Finds {A = Body} (Err fault) mid new (braces f ss (seen mid))
    → FindsAdding {A = List CoreCondition × Body} (Err fault) old new (guarded_in f conditions ss (seen old))
under_fails f conditions ss old mid new c NotTyped h w = guarded_without f conditions ss old mid c h.0 h.1 w
under_fails f conditions ss old mid new c OutOfMemory h w = tt

-- the statements of a loop, whose variable stands in a scope around them
pub turns_found : (f : Stmt → FindPart Done) (ss : List Stmt) (old inside there out last : Scope) (m n : ℕ) (v : Local) (b : Body) → inside ≡ entered_scope old → there ≡ pushed inside v
    → (braces f ss (seen there) ≡ Some b) × (out ≡ there) → m ≡ length old.locals → n ≡ old.floor → last ≡ record out { locals = take m out.locals; floor = n }
    → (braces f ss (with_local (entered (seen old)) v) ≡ Some b) × (last ≡ old)
turns_found f ss old inside there out last m n v b e p h l w t =
    let is : there ≡ pushed (entered_scope old) v = p ∙ ap (λ (s : Scope). pushed s v) e in
    let kept : Keeps (entered_scope old) out = subst (λ (s : Scope). Keeps (entered_scope old) s) (sym (h.1 ∙ is)) (keeps_pushed _ _ v (keeps_same (entered_scope old))) in
    (subst (λ (s : Scope). braces f ss (seen s) ≡ Some b) is h.0, left_from old (entered_scope old) out last m n refl kept l w t)
