-- Chains of postfix parts: `.name`, `(arguments)`, `[index]` and `!`, from left to right. `k` is the rule of the
-- expressions inside, and `f` the search of it.
-- After The Swift Programming Language, 'Postfix Expressions' and 'Assignment Operator'.
use Rattle.std.specs.Prelude.{◌≡◌, ◌≢◌, ℕ, Bool, true, false, not, List, [], ◌∷◌, Option, Some, None, ◌⊎◌}
use Rattle.std.specs.Str.{bytes_eq}
use Rattle.std.proofs.Common.{refl, subst, sym, inl, inr}
use Rattle.swift_ast.specs.declared.tree.Arg.{Arg}
use Rattle.swift_ast.specs.declared.tree.ArgValue.TheOpen.{ExprForm-F, Part-F}
use Rattle.swift_ast.specs.declared.tree.Expr.{Expr}
use Rattle.swift_ast.specs.declared.tree.Part.{Part, out-Part}
use Rattle.swift_ast.specs.declared.tree.Selector.TheVariants as selector
use Rattle.swift_core.specs.declared.table.Signature.{Signature}
use Rattle.swift_core.specs.declared.term.Binary.TheVariants as binary
use Rattle.swift_core.specs.declared.term.ChangeCall.TheOpen.{Core-F}
use Rattle.swift_core.specs.declared.term.Change.{Change}
use Rattle.swift_core.specs.declared.term.ChangeCall.{ChangeCall}
use Rattle.swift_core.specs.declared.term.Core.{Core, out-Core}
use Rattle.swift_core.specs.declared.term.Core.TheVariants as core
use Rattle.swift_core.specs.declared.term.CoreHop.{CoreHop}
use Rattle.swift_core.specs.declared.term.CoreHop.TheVariants as hop
use Rattle.swift_core.specs.declared.term.Filling.{Filling}
use Rattle.swift_core.specs.declared.term.Invocation.{Invocation}
use Rattle.swift_core.specs.declared.term.Piece.{Piece}
use Rattle.swift_core.specs.declared.term.Receiver.{Receiver}
use Rattle.swift_core.specs.declared.term.Root.{Root}
use Rattle.swift_core.specs.declared.term.Root.TheVariants as root
use Rattle.swift_core.specs.declared.term.Target.{Target, out-Target}
use Rattle.swift_core.specs.declared.term.Unary.TheVariants as unary
use Rattle.swift_core.specs.declared.ty.Ty.{Ty, out-Ty}
use Rattle.swift_core.specs.declared.ty.Ty.TheVariants as ty
use Rattle.swift_core.specs.Types.{inside_at, element_at}
use Rattle.type_base.specs.declared.scope.Stance.{Stance}
use Rattle.type_base.specs.declared.scope.Stance.TheVariants as stance
use Rattle.type_base.specs.Claims.{Reads, Then, and_then, when}
use Rattle.type_base.specs.Context.{Context}
use Rattle.type_base.specs.Depth.{is_shallow}
use Rattle.type_base.specs.Names.{underscore, IsLocal, local_of, IsDeclaration, declaration_of, IsOwn, own_of}
use Rattle.type_base.specs.Promotion.{Wanted, wanted}
use Rattle.type_base.specs.Rules.{Rule, Infer, PartRule, FindPart}
use Rattle.post_rules.specs.declared.chained.BuiltIn.{BuiltIn}
use Rattle.post_rules.specs.declared.chained.Chained.{Chained}
use Rattle.post_rules.specs.declared.chained.Chained.TheVariants as chained
use Rattle.post_rules.specs.declared.chained.Effect.{Effect}
use Rattle.post_rules.specs.declared.chained.Effect.TheVariants as effect
use Rattle.post_rules.specs.Calls.{FillingsBy, find_fillings_by, CallRule, find_call}
use Rattle.post_rules.specs.Members.{value_member, place_member, type_member, built_in_member, var_field, own_at, has_self, is_case, local_at, built_in_named}
use Rattle.post_rules.specs.Places.{whole, then_hop, read}
use Rattle.post_rules.specs.Syntax.{Form, PartForm, form_of}

-- ---- the first thing that a name stands for decides

-- where there is a y that is H, what F makes of it; else Q
unfoldable pub First : {A B : Type 0} → (A → Type 0) → (A → B → Type 0) → (B → Type 0) → B → Type 0
First {A = A} H F Q x = Then H F x ⊎ (((y : A) → H y → ⊥) × Q x)

unfoldable pub first_of_two : {A B : Type 0} → Option A → (A → Option B) → Option B → Option B
first_of_two (Some y) f p = f y
first_of_two None f p = p

pub reads_first : {A B : Type 0} {o : Option A} {H : A → Type 0} {f : A → Option B} {F : A → B → Type 0} {p : Option B} {Q : B → Type 0}
    → Reads o H → ((y : A) → Reads (f y) (F y)) → Reads p Q → Reads (first_of_two o f p) (First H F Q)
unfolding first_of_two First Then
reads_first {o = Some a} {F = F} h g q x = (
  λ e. inl (a, (h a).0 refl, (g a x).0 e),
  λ w. elim w [
    | inl p ↦ let same : a ≡ p.0 = cc ((h p.0).1 p.1) in (g a x).1 (subst (λ v. F v x) (sym same) p.2)
    | inr n ↦ absurd (n.0 a ((h a).0 refl))
  ],
)
reads_first {o = None} h g q x = (
  λ e. inr (λ y p. let n = (h y).1 p in cc, (q x).0 e),
  λ w. elim w [ inl p ↦ let n = (h p.0).1 p.1 in cc | inr n ↦ (q x).1 n.1 ],
)

-- ---- where a chain begins

-- the member of `self` that a bare name stands for
unfoldable pub IsOwnName : List ℕ → Context → ℕ × Signature → Type 0
IsOwnName w cx m = Then (IsOwn w cx) (λ found m. (is_case found.1.form ≡ false) × (m ≡ found)) m

unfoldable pub own_name : List ℕ → Context → Option (ℕ × Signature)
own_name w cx = and_then (own_of w cx) (λ found. when (not (is_case found.1.form)) (Some found))

-- a local, else a member of `self`, else a declaration, else a built-in name
unfoldable pub AnyName : List ℕ → PartRule Chained
AnyName w cx = First (IsLocal w cx) (λ l s. s ≡ local_at l.0 l.1 l.1.kind)
    (First (IsOwnName w cx) (λ m s. (d : ℕ) × (cx.owner ≡ Some d) × (own_at cx.table d cx.stance m ≡ Some s))
    (First (IsDeclaration w cx.table) (λ d s. s ≡ chained.Named d.0)
    (λ s. (b : BuiltIn) × (built_in_named w ≡ Some b) × (s ≡ chained.BuiltIn b))))

-- what a name stands for; `_` names nothing
unfoldable pub NameRule : List ℕ → PartRule Chained
NameRule w cx s = (w ≢ underscore) × AnyName w cx s

-- a declaration, else a built-in name
abbrev pub declared_name : List ℕ → FindPart Chained
declared_name w cx = first_of_two (declaration_of w cx.table) (λ d. Some (chained.Named d.0)) (and_then (built_in_named w) (λ b. Some (chained.BuiltIn b)))

-- a member of `self`, else one of these
abbrev pub outer_name : List ℕ → FindPart Chained
outer_name w cx = first_of_two (own_name w cx) (λ m. and_then cx.owner (λ d. own_at cx.table d cx.stance m)) (declared_name w cx)

abbrev pub any_name : List ℕ → FindPart Chained
any_name w cx = first_of_two (local_of w cx) (λ l. Some (local_at l.0 l.1 l.1.kind)) (outer_name w cx)

unfoldable pub find_name : List ℕ → FindPart Chained
find_name w cx = when (not (bytes_eq w underscore)) (any_name w cx)

-- the operand of a chain
unfoldable pub StartAt : (Expr → Rule) → Expr → Form → PartRule Chained
StartAt k e (ExprForm-F.Name w) cx s = NameRule w cx s
StartAt k e ExprForm-F.Itself cx s = (has_self cx.stance ≡ true) × (s ≡ chained.Itself)
StartAt k e _ cx s = (x : Core × Ty) × k e cx None x × (s ≡ chained.Value x.0 x.1)

unfoldable pub start_at : (Expr → Infer) → Expr → Form → FindPart Chained
start_at f e (ExprForm-F.Name w) cx = find_name w cx
start_at f e ExprForm-F.Itself cx = when (has_self cx.stance) (Some chained.Itself)
start_at f e _ cx = and_then (f e cx None) (λ x. Some (chained.Value x.0 x.1))

-- ---- places

-- a place that a name stands for, and the type there
abbrev pub place_of : Chained → Option (Target × Ty)
place_of (chained.Place p t) = Some (p, t)
place_of _ = None

-- `self` as a whole is written in a `mutating` function
abbrev pub is_mutating : Stance → Bool
is_mutating stance.Mutating = true
is_mutating _ = false

-- where an assignment begins: a name, or `self`
unfoldable pub RootAt : Form → PartRule (Target × Ty)
RootAt (ExprForm-F.Name w) cx r = (s : Chained) × NameRule w cx s × (place_of s ≡ Some r)
RootAt ExprForm-F.Itself cx r = (is_mutating cx.stance ≡ true) × ((d : ℕ) × (cx.owner ≡ Some d) × (r ≡ (whole root.Itself, ty.Named d)))
RootAt _ cx r = ⊥

unfoldable pub root_at : Form → FindPart (Target × Ty)
root_at (ExprForm-F.Name w) cx = and_then (find_name w cx) place_of
root_at ExprForm-F.Itself cx = when (is_mutating cx.stance) (and_then cx.owner (λ d. Some (whole root.Itself, ty.Named d)))
root_at _ cx = None

-- what can be bound: a state slot, a binding, the element of a list that is bound
abbrev pub is_bound : Root → Bool
is_bound (root.BoundLocal at) = true
is_bound (root.BoundInput at) = true
is_bound (root.Slot place) = true
is_bound _ = false

abbrev pub bound_of : Chained → Option (Target × Ty)
bound_of (chained.Place p t) = when (is_bound (out-Target p).root) (Some (p, t))
bound_of _ = None

-- a name without its `$`
abbrev pub unmarked : List ℕ → Option (List ℕ)
unmarked [] = None
unmarked (mark ∷ w) = Some w

-- where a binding begins: `$name`
unfoldable pub BoundRootAt : Form → PartRule (Target × Ty)
BoundRootAt (ExprForm-F.Dollar marked) cx r = (w : List ℕ) × (unmarked marked ≡ Some w) × ((s : Chained) × NameRule w cx s × (bound_of s ≡ Some r))
BoundRootAt _ cx r = ⊥

unfoldable pub bound_root_at : Form → FindPart (Target × Ty)
bound_root_at (ExprForm-F.Dollar marked) cx = and_then (unmarked marked) (λ w. and_then (find_name w cx) bound_of)
bound_root_at _ cx = None

-- a step into the value at a place: a `var` property, or an element of a list
unfoldable pub PlaceStepAt : (Expr → Rule) → Target × Ty → PartForm → PartRule (Target × Ty)
PlaceStepAt k p (Part-F.Member (selector.Name w)) cx r =
    (x : ℕ × Ty) × (var_field cx.table p.1 w ≡ Some x) × (r ≡ (then_hop p.0 (hop.Field x.0), x.1))
PlaceStepAt k p (Part-F.Index e) cx r =
    (t : Ty) × (element_at (out-Ty p.1) ≡ Some t) ×
    ((c : Core) × Wanted (k e) cx ty.Int c ×
    (r ≡ (then_hop p.0 (hop.Index c), t)))
PlaceStepAt k p _ cx r = ⊥

unfoldable pub place_step_at : (Expr → Infer) → Target × Ty → PartForm → FindPart (Target × Ty)
place_step_at f p (Part-F.Member (selector.Name w)) cx = and_then (var_field cx.table p.1 w) (λ x. Some (then_hop p.0 (hop.Field x.0), x.1))
place_step_at f p (Part-F.Index e) cx =
    and_then (element_at (out-Ty p.1)) (λ t.
    and_then (wanted (f e) cx ty.Int) (λ c.
    Some (then_hop p.0 (hop.Index c), t)))
place_step_at f p _ cx = None

-- a place and the steps into it; each type is no deeper than a type may be
unfoldable pub PlaceSteps : (Expr → Rule) → Target × Ty → List Part → PartRule (Target × Ty)
PlaceSteps k p [] cx r = (is_shallow p.1 ≡ true) × (r ≡ p)
PlaceSteps k p (part ∷ parts) cx r =
    (is_shallow p.1 ≡ true) ×
    ((q : Target × Ty) × PlaceStepAt k p (out-Part part) cx q ×
    PlaceSteps k q parts cx r)

unfoldable pub place_steps : (Expr → Infer) → Target × Ty → List Part → FindPart (Target × Ty)
place_steps f p [] cx = when (is_shallow p.1) (Some p)
place_steps f p (part ∷ parts) cx = when (is_shallow p.1) (and_then (place_step_at f p (out-Part part) cx) (λ q. place_steps f q parts cx))

unfoldable pub PlaceFrom : (Expr → Rule) → PartRule (Target × Ty) → List Part → PartRule (Target × Ty)
PlaceFrom k R parts cx r = (p : Target × Ty) × R cx p × PlaceSteps k p parts cx r

unfoldable pub place_from : (Expr → Infer) → FindPart (Target × Ty) → List Part → FindPart (Target × Ty)
place_from f root parts cx = and_then (root cx) (λ p. place_steps f p parts cx)

-- the place that an assignment to an expression writes
unfoldable pub TargetAt : (Expr → Rule) → Form → PartRule (Target × Ty)
TargetAt k (ExprForm-F.Post operand parts) cx r = PlaceFrom k (RootAt (form_of operand)) parts cx r
TargetAt k form cx r = PlaceFrom k (RootAt form) [] cx r

unfoldable pub target_at : (Expr → Infer) → Form → FindPart (Target × Ty)
target_at f (ExprForm-F.Post operand parts) cx = place_from f (root_at (form_of operand)) parts cx
target_at f form cx = place_from f (root_at form) [] cx

unfoldable pub TargetRule : (Expr → Rule) → Expr → PartRule (Target × Ty)
TargetRule k e = TargetAt k (form_of e)

unfoldable pub find_target : (Expr → Infer) → Expr → FindPart (Target × Ty)
find_target f e = target_at f (form_of e)

-- the place that a binding stands for
unfoldable pub BindingAt : (Expr → Rule) → Form → PartRule (Target × Ty)
BindingAt k (ExprForm-F.Post operand parts) cx r = PlaceFrom k (BoundRootAt (form_of operand)) parts cx r
BindingAt k form cx r = PlaceFrom k (BoundRootAt form) [] cx r

unfoldable pub binding_at : (Expr → Infer) → Form → FindPart (Target × Ty)
binding_at f (ExprForm-F.Post operand parts) cx = place_from f (bound_root_at (form_of operand)) parts cx
binding_at f form cx = place_from f (bound_root_at form) [] cx

unfoldable pub BindingRule : (Expr → Rule) → Expr → PartRule (Target × Ty)
BindingRule k e = BindingAt k (form_of e)

unfoldable pub find_binding : (Expr → Infer) → Expr → FindPart (Target × Ty)
find_binding f e = binding_at f (form_of e)

-- what fills the properties of a declaration, by the arguments of its initialiser
unfoldable pub FillingsRule : (Expr → Rule) → ℕ → List Arg → PartRule (List Filling)
FillingsRule k = FillingsBy k (BindingRule k)

unfoldable pub find_fillings : (Expr → Infer) → ℕ → List Arg → FindPart (List Filling)
find_fillings f = find_fillings_by f (find_binding f)

-- ---- one part

-- the value that a chain is so far; a place is read
abbrev pub value_of : Chained → Option (Core × Ty)
value_of (chained.Value c t) = Some (c, t)
value_of (chained.Place p t) = Some (read p, t)
value_of _ = None

-- `.w`
unfoldable pub MemberRule : Chained → List ℕ → PartRule Chained
MemberRule (chained.Value c t) w cx r = value_member cx.table c t w ≡ Some r
MemberRule (chained.Place p t) w cx r = place_member cx.table p t w ≡ Some r
MemberRule chained.Itself w cx r = (m : ℕ × Signature) × IsOwn w cx m × ((d : ℕ) × (cx.owner ≡ Some d) × (own_at cx.table d cx.stance m ≡ Some r))
MemberRule (chained.Named d) w cx r = type_member cx.table d w ≡ Some r
MemberRule (chained.BuiltIn b) w cx r = built_in_member b w ≡ Some r
MemberRule _ w cx r = ⊥

unfoldable pub find_chained_member : Chained → List ℕ → FindPart Chained
find_chained_member (chained.Value c t) w cx = value_member cx.table c t w
find_chained_member (chained.Place p t) w cx = place_member cx.table p t w
find_chained_member chained.Itself w cx = and_then (own_of w cx) (λ m. and_then cx.owner (λ d. own_at cx.table d cx.stance m))
find_chained_member (chained.Named d) w cx = type_member cx.table d w
find_chained_member (chained.BuiltIn b) w cx = built_in_member b w
find_chained_member _ w cx = None

-- the element of a list at an index
abbrev pub element_of : Chained → Core → Option Chained
element_of (chained.Value c t) i = and_then (element_at (out-Ty t)) (λ u. Some (chained.Value (core.Binary binary.Element c i) u))
element_of (chained.Place p t) i = and_then (element_at (out-Ty t)) (λ u. Some (chained.Place (then_hop p (hop.Index i)) u))
element_of _ i = None

-- the value in a filled optional; it is no place
abbrev pub forced : Core × Ty → Option Chained
forced x = and_then (inside_at (out-Ty x.1)) (λ t. Some (chained.Value (core.Unary unary.Force x.0) t))

unfoldable pub StepAt : (Expr → Rule) → Chained → PartForm → PartRule Chained
StepAt k s (Part-F.Member (selector.Name w)) cx r = MemberRule s w cx r
StepAt k s (Part-F.Call args None) cx r = CallRule k (BindingRule k) s args cx r
StepAt k s (Part-F.Index e) cx r = (c : Core) × Wanted (k e) cx ty.Int c × (element_of s c ≡ Some r)
StepAt k s Part-F.Force cx r = (x : Core × Ty) × (value_of s ≡ Some x) × (forced x ≡ Some r)
StepAt k s _ cx r = ⊥

unfoldable pub step_at : (Expr → Infer) → Chained → PartForm → FindPart Chained
step_at f s (Part-F.Member (selector.Name w)) cx = find_chained_member s w cx
step_at f s (Part-F.Call args None) cx = find_call f (find_binding f) s args cx
step_at f s (Part-F.Index e) cx = and_then (wanted (f e) cx ty.Int) (λ c. element_of s c)
step_at f s Part-F.Force cx = and_then (value_of s) forced
step_at f s _ cx = None

-- ---- all parts

-- the type of what the chain is so far, if it has one, is no deeper than a type may be
abbrev pub is_allowed : Chained → Bool
is_allowed (chained.Value c t) = is_shallow t
is_allowed (chained.Place p t) = is_shallow t
is_allowed (chained.Next at t) = is_shallow t
is_allowed _ = true

unfoldable pub Steps : (Expr → Rule) → Chained → List Part → PartRule Chained
Steps k s [] cx r = (is_allowed s ≡ true) × (r ≡ s)
Steps k s (part ∷ parts) cx r =
    (is_allowed s ≡ true) ×
    ((q : Chained) × StepAt k s (out-Part part) cx q ×
    Steps k q parts cx r)

unfoldable pub steps : (Expr → Infer) → Chained → List Part → FindPart Chained
steps f s [] cx = when (is_allowed s) (Some s)
steps f s (part ∷ parts) cx = when (is_allowed s) (and_then (step_at f s (out-Part part) cx) (λ q. steps f q parts cx))

-- an operand with its parts
unfoldable pub ChainRule : (Expr → Rule) → Expr → List Part → PartRule Chained
ChainRule k operand parts cx r = (s : Chained) × StartAt k operand (form_of operand) cx s × Steps k s parts cx r

unfoldable pub find_chain : (Expr → Infer) → Expr → List Part → FindPart Chained
find_chain f operand parts cx = and_then (start_at f operand (form_of operand) cx) (λ s. steps f s parts cx)

-- a chain that is a value; no expected type goes into it
unfoldable pub Post : (Expr → Rule) → Expr → List Part → Rule
Post k operand parts cx want r = (s : Chained) × ChainRule k operand parts cx s × (value_of s ≡ Some r)

unfoldable pub post : (Expr → Infer) → Expr → List Part → Infer
post f operand parts cx want = and_then (find_chain f operand parts cx) value_of

-- ---- statements and ranges

abbrev pub LayerOfCore : Type 0
LayerOfCore = Core-F ChangeCall Core CoreHop Filling Piece Receiver Change Invocation Target

abbrev pub effect_in : LayerOfCore → Option Effect
effect_in (Core-F.Change change) = Some (effect.Change change)
effect_in _ = None

-- what a chain does as a statement: a call without a value, or one that changes what it stands on
abbrev pub effect_of : Chained → Option Effect
effect_of (chained.Effect e) = Some e
effect_of (chained.Value c t) = effect_in (out-Core c)
effect_of _ = None

unfoldable pub EffectAt : (Expr → Rule) → Form → PartRule Effect
EffectAt k (ExprForm-F.Post operand parts) cx r = (s : Chained) × ChainRule k operand parts cx s × (effect_of s ≡ Some r)
EffectAt k _ cx r = ⊥

unfoldable pub effect_at : (Expr → Infer) → Form → FindPart Effect
effect_at f (ExprForm-F.Post operand parts) cx = and_then (find_chain f operand parts cx) effect_of
effect_at f _ cx = None

-- an expression that is a statement
unfoldable pub EffectRule : (Expr → Rule) → Expr → PartRule Effect
EffectRule k e = EffectAt k (form_of e)

unfoldable pub find_effect : (Expr → Infer) → Expr → FindPart Effect
find_effect f e = effect_at f (form_of e)

abbrev pub indices_of : Chained → Option Core
indices_of (chained.Indices c) = Some c
indices_of _ = None

unfoldable pub IndicesAt : (Expr → Rule) → Form → PartRule Core
IndicesAt k (ExprForm-F.Post operand parts) cx r = (s : Chained) × ChainRule k operand parts cx s × (indices_of s ≡ Some r)
IndicesAt k _ cx r = ⊥

unfoldable pub indices_at : (Expr → Infer) → Form → FindPart Core
indices_at f (ExprForm-F.Post operand parts) cx = and_then (find_chain f operand parts cx) indices_of
indices_at f _ cx = None

-- the list whose indices an expression is
unfoldable pub IndicesRule : (Expr → Rule) → Expr → PartRule Core
IndicesRule k e = IndicesAt k (form_of e)

unfoldable pub find_indices : (Expr → Infer) → Expr → FindPart Core
find_indices f e = indices_at f (form_of e)
