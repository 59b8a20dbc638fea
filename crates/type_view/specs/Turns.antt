-- Lists of items, arms and cases searched from the left: one more, the end, and one that is not found.
use Rattle.std.proofs.Common.{◌≡◌, ℕ, ◌<◌, ◌≤◌, ◌+◌, List, [], ◌∷◌, ◌++◌, length, take, drop, Option, Some, None, Result, Ok, Err, slice_index_or, refl, sym, ap, subst, ◌∙◌, append_assoc}
use Rattle.std.proofs.lemmas.List.{append-nil}
use Rattle.std.specs.Prelude.{⊤}
use Rattle.swift_ast.specs.declared.tree.Condition.{Condition}
use Rattle.swift_ast.specs.declared.tree.Stmt.{Stmt}
use Rattle.swift_core.specs.declared.item.CoreItem.{CoreItem}
use Rattle.swift_core.specs.declared.item.ItemArm.{ItemArm}
use Rattle.swift_core.specs.declared.stmt.Condition.{Condition as CoreCondition}
use Rattle.type_base.specs.declared.fault.Fault.{Fault}
use Rattle.type_base.specs.declared.fault.Fault.TheVariants.{NotTyped, OutOfMemory}
use Rattle.type_base.specs.declared.scope.Local.{Local}
use Rattle.type_base.specs.declared.scope.Scope.{Scope}
use Rattle.type_base.specs.Claims.{and_then}
use Rattle.type_base.specs.Context.{Context, seen}
use Rattle.type_base.specs.Scopes.{Keeps, keeps_pushed, entered, left_is, opened as opened_scope}
use Rattle.case_rules.specs.Conditions.{CheckedAll, find_conditions}
use Rattle.case_rules.specs.Each.{opened, ended}
use Rattle.case_rules.specs.Scopes.{with_any, with_locals, any_pushed}
use Rattle.view_rules.specs.Builds.{FindBuild, FindItems, Blocks, Builds, every_build}
use Rattle.view_rules.specs.Items.{Made, item_form, find_item, find_list, arm}

-- a check finds what adds blocks, and has added locals to the scope
abbrev pub Adds : {A : Type 0} → Result A Fault → Scope → Scope → Blocks → Option (A × Blocks) → Type 0
Adds (Ok r) old new blocks found = (found ≡ Some (r, blocks)) × Keeps old new
Adds (Err NotTyped) old new blocks found = found ≡ None
Adds (Err OutOfMemory) old new blocks found = ⊤

moved : {A : Type 0} (o : Option (List A × Blocks)) (x : A) (done : List A)
    → and_then {B = List A × Blocks} (and_then {B = List A × Blocks} o (λ more. Some (x ∷ more.0, more.1))) (λ more. Some (done ++ more.0, more.1))
    ≡ and_then {B = List A × Blocks} o (λ more. Some ((done ++ x ∷ []) ++ more.0, more.1))
unfolding and_then
moved None x done = refl
moved (Some m) x done = λ i. Some (sym (append_assoc done (x ∷ []) m.0) i, m.1)

same_from : {A : Type 0} (o : Option (List A × Blocks)) → o ≡ and_then {B = List A × Blocks} o (λ more. Some ([] ++ more.0, more.1))
unfolding and_then
same_from None = refl
same_from (Some m) = refl

-- ---- items

-- the items that are left, after those so far
abbrev pub ListRest : FindItems → List Stmt → Context → Blocks → Context → ℕ → List CoreItem → Blocks → Type 0
ListRest f ss cx bs here i done now =
    find_list f ss cx bs ≡ and_then {B = List CoreItem × Blocks} (find_list f (drop i ss) here now) (λ more. Some (done ++ more.0, more.1))

pub list_start : (f : FindItems) (ss : List Stmt) (cx : Context) (bs : Blocks) (done : List CoreItem) → done ≡ [] → ListRest f ss cx bs cx 0 done bs
list_start f ss cx bs done e = subst (λ (xs : List CoreItem). ListRest f ss cx bs cx 0 xs bs) (sym e) (same_from (find_list f ss cx bs))

list_opened : (f : FindItems) (ss : List Stmt) (here : Context) (now : Blocks) (i : ℕ) (s : Stmt) (o : Option (Made × Blocks)) → i < length ss → s ≡ slice_index_or ss i s
    → find_item f (item_form s) here now ≡ o
    → find_list f (drop i ss) here now
    ≡ and_then {B = List CoreItem × Blocks} o (λ x. and_then {B = List CoreItem × Blocks} (find_list f (drop (i + 1) ss) (with_any here x.0.1) x.1) (λ more. Some (x.0.0 ∷ more.0, more.1)))
unfolding find_list
list_opened f ss here now i s o lt is w = ap (λ xs. find_list f xs here now) (opened ss i s lt) ∙ rw (sym is, w) refl

seen_any : (s : Scope) (l : Option Local) → seen (any_pushed s l) ≡ with_any (seen s) l
seen_any s None = refl
seen_any s (Some l) = refl

list_next : (f : FindItems) (ss : List Stmt) (cx : Context) (bs : Blocks) (here there : Context) (i : ℕ) (done : List CoreItem) (now next : Blocks) (s : Stmt) (made : Made)
    → i < length ss → s ≡ slice_index_or ss i s → find_item f (item_form s) here now ≡ Some (made, next) → there ≡ with_any here made.1
    → ListRest f ss cx bs here i done now → ListRest f ss cx bs there (i + 1) (done ++ made.0 ∷ []) next
unfolding and_then
list_next f ss cx bs here there i done now next s made lt is w t h =
    h ∙ ap (λ (o : Option (List CoreItem × Blocks)). and_then {B = List CoreItem × Blocks} o (λ more. Some (done ++ more.0, more.1))) (list_opened f ss here now i s (Some (made, next)) lt is w)
    ∙ moved _ made.0 done
    ∙ ap (λ (c : Context). and_then {B = List CoreItem × Blocks} (find_list f (drop (i + 1) ss) c next) (λ more. Some ((done ++ made.0 ∷ []) ++ more.0, more.1))) (sym t)

pub list_turn : (f : FindItems) (ss : List Stmt) (cx : Context) (bs : Blocks) (here there : Scope) (i : ℕ) (done new : List CoreItem) (now next : Blocks) (s : Stmt) (made : Made)
    → i < length ss → s ≡ slice_index_or ss i s → find_item f (item_form s) (seen here) now ≡ Some (made, next) → there ≡ any_pushed here made.1 → new ≡ done ++ made.0 ∷ []
    → ListRest f ss cx bs (seen here) i done now → ListRest f ss cx bs (seen there) (i + 1) new next
list_turn f ss cx bs here there i done new now next s made lt is w t p h =
    subst (λ (xs : List CoreItem). ListRest f ss cx bs (seen there) (i + 1) xs next) (sym p)
    (list_next f ss cx bs (seen here) (seen there) i done now next s made lt is w (ap seen t ∙ seen_any here made.1) h)

pub list_none : (f : FindItems) (ss : List Stmt) (cx : Context) (bs : Blocks) (here : Scope) (i : ℕ) (done : List CoreItem) (now : Blocks) (s : Stmt)
    → i < length ss → s ≡ slice_index_or ss i s → find_item f (item_form s) (seen here) now ≡ None
    → ListRest f ss cx bs (seen here) i done now → find_list f ss cx bs ≡ None
unfolding and_then
list_none f ss cx bs here i done now s lt is w h =
    h ∙ ap (λ (o : Option (List CoreItem × Blocks)). and_then {B = List CoreItem × Blocks} o (λ more. Some (done ++ more.0, more.1))) (list_opened f ss (seen here) now i s None lt is w)

pub list_end : (f : FindItems) (ss : List Stmt) (cx : Context) (bs : Blocks) (here : Context) (i : ℕ) (done : List CoreItem) (now : Blocks)
    → length ss ≤ i → ListRest f ss cx bs here i done now → find_list f ss cx bs ≡ Some (done, now)
unfolding and_then find_list
list_end f ss cx bs here i done now le h = h ∙ rw (ended ss i le, append-nil done) refl

pub keeps_any : (old new : Scope) (l : Option Local) → Keeps old new → Keeps old (any_pushed new l)
keeps_any old new None k = k
keeps_any old new (Some l) k = keeps_pushed old new l k

-- ---- parts in order

-- the rest is found as the whole, behind what is found so far
abbrev pub EveryRest : {X Y : Type 0} → (X → FindBuild Y) → List X → Context → Blocks → ℕ → List Y → Blocks → Type 0
EveryRest {Y = Y} f xs cx bs i done now =
    every_build f xs cx bs ≡ and_then {B = List Y × Blocks} (every_build f (drop i xs) cx now) (λ more. Some (done ++ more.0, more.1))

pub every_start : {X Y : Type 0} (f : X → FindBuild Y) (xs : List X) (cx : Context) (bs : Blocks) (done : List Y) → done ≡ [] → EveryRest f xs cx bs 0 done bs
every_start {Y = Y} f xs cx bs done e = subst (λ (ys : List Y). EveryRest f xs cx bs 0 ys bs) (sym e) (same_from (every_build f xs cx bs))

every_step : {X Y : Type 0} (f : X → FindBuild Y) (xs : List X) (cx : Context) (now : Blocks) (i : ℕ) (x : X) (o : Option (Y × Blocks)) → i < length xs → x ≡ slice_index_or xs i x
    → f x cx now ≡ o
    → every_build f (drop i xs) cx now ≡ and_then {B = List Y × Blocks} o (λ y. and_then {B = List Y × Blocks} (every_build f (drop (i + 1) xs) cx y.1) (λ more. Some (y.0 ∷ more.0, more.1)))
unfolding every_build
every_step f xs cx now i x o lt is w = ap (λ ys. every_build f ys cx now) (opened xs i x lt) ∙ rw (sym is, w) refl

every_next : {X Y : Type 0} (f : X → FindBuild Y) (xs : List X) (cx : Context) (bs : Blocks) (i : ℕ) (done : List Y) (now next : Blocks) (x : X) (made : Y)
    → i < length xs → x ≡ slice_index_or xs i x → f x cx now ≡ Some (made, next)
    → EveryRest f xs cx bs i done now → EveryRest f xs cx bs (i + 1) (done ++ made ∷ []) next
unfolding and_then
every_next {Y = Y} f xs cx bs i done now next x made lt is w h =
    h ∙ ap (λ (o : Option (List Y × Blocks)). and_then {B = List Y × Blocks} o (λ more. Some (done ++ more.0, more.1))) (every_step f xs cx now i x (Some (made, next)) lt is w)
    ∙ moved _ made done

pub every_turn : {X Y : Type 0} (f : X → FindBuild Y) (xs : List X) (old here : Scope) (bs : Blocks) (i : ℕ) (done new : List Y) (now next : Blocks) (x : X) (made : Y)
    → i < length xs → x ≡ slice_index_or xs i x → here ≡ old → f x (seen here) now ≡ Some (made, next) → new ≡ done ++ made ∷ []
    → EveryRest f xs (seen old) bs i done now → EveryRest f xs (seen old) bs (i + 1) new next
every_turn {Y = Y} f xs old here bs i done new now next x made lt is same w p h =
    let found : f x (seen old) now ≡ Some (made, next) = subst (λ (s : Scope). f x (seen s) now ≡ Some (made, next)) same w in
    subst (λ (ys : List Y). EveryRest f xs (seen old) bs (i + 1) ys next) (sym p) (every_next f xs (seen old) bs i done now next x made lt is found h)

pub every_none : {X Y : Type 0} (f : X → FindBuild Y) (xs : List X) (old here : Scope) (bs : Blocks) (i : ℕ) (done : List Y) (now : Blocks) (x : X)
    → i < length xs → x ≡ slice_index_or xs i x → here ≡ old → f x (seen here) now ≡ None
    → EveryRest f xs (seen old) bs i done now → every_build f xs (seen old) bs ≡ None
unfolding and_then
every_none {Y = Y} f xs old here bs i done now x lt is same w h =
    let found : f x (seen old) now ≡ None = subst (λ (s : Scope). f x (seen s) now ≡ None) same w in
    h ∙ ap (λ (o : Option (List Y × Blocks)). and_then {B = List Y × Blocks} o (λ more. Some (done ++ more.0, more.1))) (every_step f xs (seen old) now i x None lt is found)

pub every_end : {X Y : Type 0} (f : X → FindBuild Y) (xs : List X) (cx : Context) (bs : Blocks) (i : ℕ) (done : List Y) (now : Blocks)
    → length xs ≤ i → EveryRest f xs cx bs i done now → every_build f xs cx bs ≡ Some (done, now)
unfolding and_then every_build
every_end f xs cx bs i done now le h = h ∙ rw (ended xs i le, append-nil done) refl

-- ---- arms

-- an arm whose conditions add their locals here
abbrev pub arm_in : FindItems → List Condition → List Stmt → FindBuild ItemArm
arm_in f cs ss cx bs =
    and_then {B = ItemArm × Blocks} (find_conditions cs cx) (λ c.
    and_then {B = ItemArm × Blocks} (f ss (with_locals cx c.1) bs) (λ x.
    Some (arm c.0 x.0, x.1)))

-- an arm, which is a scope
abbrev pub arm_within : FindItems → List Condition → List Stmt → FindBuild ItemArm
arm_within f cs ss cx bs = arm_in f cs ss (entered cx) bs

kept_front : {A : Type 0} (ys xs : List A) → take (length ys) xs ≡ ys → xs ≡ ys ++ drop (length ys) xs
kept_front [] xs e = refl
kept_front (y ∷ ys) [] e = cc
kept_front (y ∷ ys) (x ∷ xs) e =
    let h : x ≡ y = cc in
    let t : take (length ys) xs ≡ ys = cc in
    λ i. h i ∷ kept_front ys xs t i

-- what is seen of a scope with more locals
seen_keeps : (old new : Scope) → Keeps old new → seen new ≡ with_locals (seen old) (drop (length old.locals) new.locals)
seen_keeps old new k = ap seen k.rest ∙ ap (λ (ls : List Local). seen (record old { locals = ls })) (kept_front old.locals new.locals k.outer)

arm_is : (f : FindItems) (cs : List Condition) (ss : List Stmt) (old here : Scope) (now : Blocks) (c : List CoreCondition)
    → find_conditions cs (seen old) ≡ Some (c, drop (length old.locals) here.locals) → Keeps old here
    → arm_in f cs ss (seen old) now ≡ and_then {B = ItemArm × Blocks} (f ss (seen here) now) (λ x. Some (arm c x.0, x.1))
unfolding and_then
arm_is f cs ss old here now c e k =
    ap (λ (o : Option CheckedAll). and_then {B = ItemArm × Blocks} o (λ d. and_then {B = ItemArm × Blocks} (f ss (with_locals (seen old) d.1) now) (λ x. Some (arm d.0 x.0, x.1)))) e
    ∙ ap (λ (cx : Context). and_then {B = ItemArm × Blocks} (f ss cx now) (λ x. Some (arm c x.0, x.1))) (sym (seen_keeps old here k))

-- conditions that are found, and the items behind them
pub arm_found : (f : FindItems) (cs : List Condition) (ss : List Stmt) (old here new : Scope) (now next : Blocks) (c : List CoreCondition) (body : List CoreItem)
    → (find_conditions cs (seen old) ≡ Some (c, drop (length old.locals) here.locals)) × Keeps old here → (f ss (seen here) now ≡ Some (body, next)) × (new ≡ here)
    → (arm_in f cs ss (seen old) now ≡ Some (arm c body, next)) × Keeps old new
unfolding and_then
arm_found f cs ss old here new now next c body h b =
    (arm_is f cs ss old here now c h.0 h.1 ∙ ap (λ (o : Option (List CoreItem × Blocks)). and_then {B = ItemArm × Blocks} o (λ x. Some (arm c x.0, x.1))) b.0, subst (λ (s : Scope). Keeps old s) (sym b.1) h.1)

arm_fails : (f : FindItems) (cs : List Condition) (ss : List Stmt) (old here : Scope) (now : Blocks) (c : List CoreCondition)
    → find_conditions cs (seen old) ≡ Some (c, drop (length old.locals) here.locals) → Keeps old here → f ss (seen here) now ≡ None
    → arm_in f cs ss (seen old) now ≡ None
unfolding and_then
arm_fails f cs ss old here now c e k n = arm_is f cs ss old here now c e k ∙ ap (λ (o : Option (List CoreItem × Blocks)). and_then {B = ItemArm × Blocks} o (λ x. Some (arm c x.0, x.1))) n

-- conditions that are found, and items that are not
pub arm_without : (f : FindItems) (cs : List Condition) (ss : List Stmt) (old here new new' : Scope) (now next next' : Blocks) (c : List CoreCondition) (fault : Fault)
    → (find_conditions cs (seen old) ≡ Some (c, drop (length old.locals) here.locals)) × Keeps old here → Builds {A = List CoreItem} (Err fault) here new next (f ss (seen here) now)
    → Adds {A = ItemArm} (Err fault) old new' next' (arm_in f cs ss (seen old) now)
arm_without f cs ss old here new new' now next next' c NotTyped h b = arm_fails f cs ss old here now c h.0 h.1 b
arm_without f cs ss old here new new' now next next' c OutOfMemory h b = tt

-- conditions that are not found
pub arm_none : (f : FindItems) (cs : List Condition) (ss : List Stmt) (cx : Context) (bs : Blocks) → find_conditions cs cx ≡ None → arm_in f cs ss cx bs ≡ None
unfolding and_then
arm_none f cs ss cx bs e = ap (λ (o : Option CheckedAll). and_then {B = ItemArm × Blocks} o (λ d. and_then {B = ItemArm × Blocks} (f ss (with_locals cx d.1) bs) (λ x. Some (arm d.0 x.0, x.1)))) e

-- ---- scopes that are entered and left

left_from : (old inside out last : Scope) (m n : ℕ) → inside ≡ opened_scope old → Keeps inside out → m ≡ length old.locals → n ≡ old.floor
    → last ≡ record out { locals = take m out.locals; floor = n } → last ≡ old
left_from old inside out last m n e k l w h =
    let kept : Keeps (opened_scope old) out = subst (λ (s : Scope). Keeps s out) e k in
    let same : record out { locals = take m out.locals; floor = n } ≡ record out { locals = take (length old.locals) out.locals; floor = old.floor } = λ i. record out { locals = take (l i) out.locals; floor = w i } in
    h ∙ same ∙ left_is old out kept

pub around_found : {A : Type 0} (f : FindBuild A) (old inside out last : Scope) (bs next : Blocks) (m n : ℕ) (a : A) → inside ≡ opened_scope old
    → (f (seen inside) bs ≡ Some (a, next)) × Keeps inside out → m ≡ length old.locals → n ≡ old.floor → last ≡ record out { locals = take m out.locals; floor = n }
    → (f (entered (seen old)) bs ≡ Some (a, next)) × (last ≡ old)
around_found f old inside out last bs next m n a e h l w t =
    (subst (λ (s : Scope). f (seen s) bs ≡ Some (a, next)) e h.0, left_from old inside out last m n e h.1 l w t)

pub around_fails : {A : Type 0} (f : FindBuild A) (old inside new new' : Scope) (bs next next' : Blocks) (fault : Fault) → inside ≡ opened_scope old
    → Adds {A = A} (Err fault) inside new next (f (seen inside) bs) → Builds {A = A} (Err fault) old new' next' (f (entered (seen old)) bs)
around_fails f old inside new new' bs next next' NotTyped e h = subst (λ (s : Scope). f (seen s) bs ≡ None) e h
around_fails f old inside new new' bs next next' OutOfMemory e h = tt
