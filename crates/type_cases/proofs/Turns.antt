-- Lists that are searched from the left: one more element, the end, and an element that is not found.
use Rattle.std.proofs.Common.{◌≡◌, ℕ, zero, suc, ◌<◌, ◌≤◌, ◌+◌, List, [], ◌∷◌, ◌++◌, length, take, drop, Option, Some, None, slice_index_or, refl, sym, ap, subst, ◌∙◌, arith, append_assoc}
use Rattle.std.proofs.lemmas.List.{append-nil}
use Rattle.swift_ast.specs.declared.tree.Condition.{Condition, out-Condition}
use Rattle.swift_ast.specs.declared.tree.Pattern.{Pattern}
use Rattle.swift_ast.specs.declared.tree.SwitchCase.{SwitchCase}
use Rattle.swift_core.specs.declared.ty.Ty.{Ty}
use Rattle.sv_value.specs.declared.value.Value.{Value}
use Rattle.swift_core.specs.declared.stmt.Condition.{Condition as CoreCondition}
use Rattle.type_base.specs.declared.scope.Local.{Local}
use Rattle.type_base.specs.declared.scope.Scope.{Scope}
use Rattle.std.specs.Prelude.{not}
use Rattle.type_base.specs.Claims.{and_then, when}
use Rattle.type_base.specs.Context.{Context, seen}
use Rattle.type_base.specs.Scopes.{Keeps, keeps_pushed}
use Rattle.case_rules.specs.Each.{opened, ended, every, EveryRest, every_start, every_turn, every_none, every_end}
use Rattle.case_rules.specs.Cases.{Label, find_case, find_labels, is_empty}
use Rattle.case_rules.specs.Patterns.{pattern_at, find_patterns}
use Rattle.case_rules.specs.Conditions.{Checked, CheckedAll, condition_at, find_conditions}
use Rattle.case_rules.specs.Scopes.{any_local, any_pushed, with_any}

-- the rest is found as the whole
abbrev pub ConditionsRest : List Condition → Context → Scope → ℕ → List CoreCondition → Type 0
ConditionsRest cs cx here i checked =
    find_conditions cs cx ≡ and_then {B = CheckedAll} (find_conditions (drop i cs) (seen here)) (λ rest. Some (checked ++ rest.0, drop (length cx.locals) here.locals ++ rest.1))

conditions_step : (cs : List Condition) (cx : Context) (i : ℕ) (c : Condition) (o : Option Checked) → i < length cs → c ≡ slice_index_or cs i c → condition_at (out-Condition c) cx ≡ o
    → find_conditions (drop i cs) cx ≡ and_then {B = CheckedAll} o (λ x. and_then {B = CheckedAll} (find_conditions (drop (i + 1) cs) (with_any cx x.1)) (λ rest. Some (x.0 ∷ rest.0, any_local x.1 ++ rest.1)))
unfolding find_conditions
conditions_step cs cx i c o lt is w = ap (λ xs. find_conditions xs cx) (opened cs i c lt) ∙ rw (sym is, w) refl

moved : (o : Option CheckedAll) (c : CoreCondition) (ls : List Local) (cs : List CoreCondition) (ms : List Local)
    → and_then {B = CheckedAll} (and_then {B = CheckedAll} o (λ rest. Some (c ∷ rest.0, ls ++ rest.1))) (λ rest. Some (cs ++ rest.0, ms ++ rest.1))
    ≡ and_then {B = CheckedAll} o (λ rest. Some ((cs ++ c ∷ []) ++ rest.0, (ms ++ ls) ++ rest.1))
unfolding and_then
moved None c ls cs ms = refl
moved (Some r) c ls cs ms = λ i. Some (sym (append_assoc cs (c ∷ []) r.0) i, sym (append_assoc ms ls r.1) i)

-- what stands behind the first n
drop_more : {A : Type 0} (ys xs zs : List A) → take (length ys) xs ≡ ys → drop (length ys) (xs ++ zs) ≡ drop (length ys) xs ++ zs
drop_more [] xs zs e = refl
drop_more (y ∷ ys) [] zs e = cc
drop_more (y ∷ ys) (x ∷ xs) zs e = let t : take (length ys) xs ≡ ys = cc in drop_more ys xs zs t

seen_any : (s : Scope) (l : Option Local) → seen (any_pushed s l) ≡ with_any (seen s) l
seen_any s None = refl
seen_any s (Some l) = refl

locals_any : (old s : Scope) (l : Option Local) → Keeps old s → drop (length old.locals) (any_pushed s l).locals ≡ drop (length old.locals) s.locals ++ any_local l
locals_any old s None k = sym (append-nil _)
locals_any old s (Some l) k = drop_more old.locals s.locals (l ∷ []) k.outer

pub keeps_any : (old s : Scope) (l : Option Local) → Keeps old s → Keeps old (any_pushed s l)
keeps_any old s None k = k
keeps_any old s (Some l) k = keeps_pushed old s l k

pub conditions_turn : (cs : List Condition) (old here there : Scope) (i : ℕ) (checked : List CoreCondition) (c : Condition) (x : Checked) → i < length cs → c ≡ slice_index_or cs i c
    → condition_at (out-Condition c) (seen here) ≡ Some x → there ≡ any_pushed here x.1 → Keeps old here
    → ConditionsRest cs (seen old) here i checked → ConditionsRest cs (seen old) there (i + 1) (checked ++ x.0 ∷ [])
unfolding and_then
conditions_turn cs old here there i checked c x lt is w t k h =
    h ∙ ap (λ (o : Option CheckedAll). and_then {B = CheckedAll} o (λ rest. Some (checked ++ rest.0, drop (length old.locals) here.locals ++ rest.1))) (conditions_step cs (seen here) i c (Some x) lt is w)
    ∙ moved _ x.0 (any_local x.1) checked (drop (length old.locals) here.locals)
    ∙ rw (t, seen_any here x.1, locals_any old here x.1 k) refl

pub conditions_none : (cs : List Condition) (old here : Scope) (i : ℕ) (checked : List CoreCondition) (c : Condition) → i < length cs → c ≡ slice_index_or cs i c
    → condition_at (out-Condition c) (seen here) ≡ None → ConditionsRest cs (seen old) here i checked → find_conditions cs (seen old) ≡ None
unfolding and_then
conditions_none cs old here i checked c lt is w h =
    h ∙ ap (λ (o : Option CheckedAll). and_then {B = CheckedAll} o (λ rest. Some (checked ++ rest.0, drop (length old.locals) here.locals ++ rest.1))) (conditions_step cs (seen here) i c None lt is w)

pub conditions_end : (cs : List Condition) (old here : Scope) (i : ℕ) (checked : List CoreCondition) → length cs ≤ i → ConditionsRest cs (seen old) here i checked
    → find_conditions cs (seen old) ≡ Some (checked, drop (length old.locals) here.locals)
unfolding and_then find_conditions
conditions_end cs old here i checked le h = h ∙ rw (ended cs i le, append-nil checked, append-nil (drop (length old.locals) here.locals)) refl

same_all : (o : Option CheckedAll) → o ≡ and_then {B = CheckedAll} o (λ rest. Some ([] ++ rest.0, [] ++ rest.1))
unfolding and_then
same_all None = refl
same_all (Some r) = refl

pub conditions_start : (cs : List Condition) (s : Scope) → ConditionsRest cs (seen s) s 0 []
conditions_start cs s = same_all (find_conditions cs (seen s)) ∙ ap (λ (ls : List Local). and_then {B = CheckedAll} (find_conditions cs (seen s)) (λ rest. Some ([] ++ rest.0, ls ++ rest.1))) (sym (ended s.locals (length s.locals) (omega arith)))

-- ---- patterns

abbrev pub PatternsRest : Ty → List Pattern → Context → ℕ → List Value → Type 0
PatternsRest t ps cx i vs = EveryRest (λ p. pattern_at t p cx) ps i vs

pub patterns_start : (t : Ty) (ps : List Pattern) (cx : Context) → PatternsRest t ps cx 0 []
patterns_start t ps cx = every_start (λ p. pattern_at t p cx) ps

pub patterns_turn : (t : Ty) (ps : List Pattern) (cx : Context) (i : ℕ) (vs : List Value) (p : Pattern) (v : Value) → i < length ps → p ≡ slice_index_or ps i p → pattern_at t p cx ≡ Some v
    → PatternsRest t ps cx i vs → PatternsRest t ps cx (i + 1) (vs ++ v ∷ [])
patterns_turn t ps cx i vs p v lt is w h = every_turn (λ p. pattern_at t p cx) ps i vs p v lt is w h

pub patterns_none : (t : Ty) (ps : List Pattern) (cx : Context) (i : ℕ) (vs : List Value) (p : Pattern) → i < length ps → p ≡ slice_index_or ps i p → pattern_at t p cx ≡ None
    → PatternsRest t ps cx i vs → find_patterns t ps cx ≡ None
unfolding find_patterns
patterns_none t ps cx i vs p lt is w h = every_none (λ p. pattern_at t p cx) ps i vs p lt is w h

pub patterns_end : (t : Ty) (ps : List Pattern) (cx : Context) (i : ℕ) (vs : List Value) → length ps ≤ i → PatternsRest t ps cx i vs → find_patterns t ps cx ≡ Some vs
unfolding find_patterns
patterns_end t ps cx i vs le h = every_end (λ p. pattern_at t p cx) ps i vs le h

-- ---- labels

abbrev pub LabelsRest : Ty → List SwitchCase → Context → ℕ → List Label → Type 0
LabelsRest t cs cx i ls = EveryRest (λ c. find_case t c cx) cs i ls

pub labels_start : (t : Ty) (cs : List SwitchCase) (cx : Context) → LabelsRest t cs cx 0 []
labels_start t cs cx = every_start (λ c. find_case t c cx) cs

pub labels_turn : (t : Ty) (cs : List SwitchCase) (cx : Context) (i : ℕ) (ls : List Label) (c : SwitchCase) (l : Label) → i < length cs → c ≡ slice_index_or cs i c → find_case t c cx ≡ Some l
    → LabelsRest t cs cx i ls → LabelsRest t cs cx (i + 1) (ls ++ l ∷ [])
labels_turn t cs cx i ls c l lt is w h = every_turn (λ c. find_case t c cx) cs i ls c l lt is w h

pub labels_none : (t : Ty) (cs : List SwitchCase) (cx : Context) (i : ℕ) (ls : List Label) (c : SwitchCase) → i < length cs → c ≡ slice_index_or cs i c → find_case t c cx ≡ None
    → LabelsRest t cs cx i ls → find_labels t cs cx ≡ None
unfolding find_labels
labels_none t cs cx i ls c lt is w h = every_none (λ c. find_case t c cx) cs i ls c lt is w h

pub labels_end : (t : Ty) (cs : List SwitchCase) (cx : Context) (i : ℕ) (ls : List Label) → length cs ≤ i → LabelsRest t cs cx i ls → find_labels t cs cx ≡ Some ls
unfolding find_labels
labels_end t cs cx i ls le h = every_end (λ c. find_case t c cx) cs i ls le h

-- ---- a list that is empty or not

pub some_empty : {A B : Type 0} (xs : List A) (o : Option B) → xs ≡ [] → when (not (is_empty xs)) o ≡ None
some_empty [] o e = refl
some_empty (x ∷ xs) o e = cc

pub some_full : {A B : Type 0} (xs : List A) (o : Option B) → (xs ≡ [] → ⊥) → when (not (is_empty xs)) o ≡ o
some_full [] o h = absurd (h refl)
some_full (x ∷ xs) o h = refl
