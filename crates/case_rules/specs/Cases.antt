-- The cases of a `switch`. After The Swift Programming Language, 'Switch Statement'.
use Rattle.std.specs.Prelude.{◌≡◌, ◌≢◌, ℕ, zero, suc, ◌<◌, Bool, true, false, not, ◌&&◌, ◌||◌, List, [], ◌∷◌, ◌++◌, length, Option, Some, None, ⊤, ◌⊎◌, slice_get, nat_eq}
use Rattle.std.proofs.Common.{refl, sym, ap, subst, ◌∙◌, inl, inr, arith}
use Rattle.std.specs.Cmp.{IsEquivalence}
use Rattle.std.proofs.lemmas.Bool.Decides.{Decides-eqb, eqb_tells}
use Rattle.std.proofs.lemmas.Cmp.{eq_by_cmp_equiv}
use Rattle.std.proofs.lemmas.Map.Made.{is_member-Decides, IsDistinct-from_count, distinct_count-from_IsDistinct, AllPairs-from_IsDistinct, IsDistinct-from_AllPairs}
use Rattle.std.specs.Bool.{Decides}
use Rattle.std.specs.List.{AllByRecursion, AllPairs, Contains, list_all}
use Rattle.std.specs.Ordering.{eq_by_cmp}
use Rattle.std.specs.Set.{distinct_count, is_member}
use Rattle.identity_path.specs.Code.{code_cmp, code_cmp_total, code_eq_decides}
use Rattle.swift_ast.specs.declared.tree.Expr.{Expr}
use Rattle.swift_ast.specs.declared.tree.Stmt.{Stmt}
use Rattle.swift_ast.specs.declared.tree.SwitchCase.{SwitchCase, out-SwitchCase}
use Rattle.swift_ast.specs.declared.tree.SwitchLabel.{SwitchLabel}
use Rattle.swift_ast.specs.declared.tree.SwitchLabel.TheVariants as label
use Rattle.swift_core.specs.declared.table.Table.{Table}
use Rattle.swift_core.specs.declared.table.Declaration.{Declaration}
use Rattle.swift_core.specs.declared.table.Kind.{Kind}
use Rattle.swift_core.specs.declared.table.Kind.TheVariants as kind
use Rattle.swift_core.specs.declared.ty.Ty.{Ty, out-Ty}
use Rattle.swift_core.specs.declared.ty.Ty.TheOpen.{Ty-F}
use Rattle.swift_core.specs.declared.term.Core.{Core}
use Rattle.sv_value.specs.contracts.value.Value as one
use Rattle.sv_value.specs.declared.value.Value.{Value, out-Value}
use Rattle.sv_value.specs.declared.value.Value.TheVariants as value
use Rattle.sv_value.specs.declared.value.Value.TheOpen.{Value-F}
use Rattle.type_base.specs.Claims.{or_decides, Reads, Then, and_then, when, reads_give, reads_then, reads_when, reads_is, reads_none}
use Rattle.type_base.specs.Context.{Context}
use Rattle.type_base.specs.Rules.{PartRule, FindPart, ExactPart}
use Rattle.value_rules.specs.Values.{Typed, infer, infer_exact}
use Rattle.case_rules.specs.declared.subject.Subject.{Subject}
use Rattle.case_rules.specs.declared.subject.Subject.TheVariants as subject
use Rattle.case_rules.specs.Each.{Each, every, every_exact}
use Rattle.case_rules.specs.Patterns.{PatternsRule, find_patterns, patterns_exact}

-- ---- what a `switch` may be over: an enum, Bool, Int or String

abbrev pub enum_at : ℕ → Kind → Option Subject
enum_at d (kind.Enum iterable cases) = Some (subject.Cases d cases)
enum_at d _ = None

abbrev pub subject_at : Table → Ty-F Ty → Option Subject
subject_at table Ty-F.Int = Some subject.Numbers
subject_at table Ty-F.Bool = Some subject.Truths
subject_at table Ty-F.Text = Some subject.Texts
subject_at table (Ty-F.Named d) = and_then (slice_get table.declarations d) (λ declaration. enum_at d declaration.kind)
subject_at table _ = None

-- a value of the subject's type
abbrev pub belongs_at : Subject → Value-F Value → Type 0
belongs_at subject.Numbers (Value-F.Int n) = ⊤
belongs_at subject.Truths (Value-F.Bool b) = ⊤
belongs_at subject.Texts (Value-F.Str text) = ⊤
belongs_at (subject.Cases d cases) (Value-F.Case kind place) = kind ≡ d
belongs_at _ _ = ⊥

abbrev pub Belongs : Subject → Value → Type 0
Belongs s v = belongs_at s (out-Value v)

-- ---- the labels of a `switch`: the values of the patterns of each case, and None for `default`

abbrev pub Label : Type 0
Label = Option (List Value)

-- the values of all patterns, in order
abbrev pub all_patterns : List Label → List Value
all_patterns [] = []
all_patterns (None ∷ labels) = all_patterns labels
all_patterns (Some vs ∷ labels) = vs ++ all_patterns labels

-- nothing stands behind a `default`
abbrev pub DefaultLast : List Label → Type 0
DefaultLast [] = ⊤
DefaultLast (Some vs ∷ labels) = DefaultLast labels
DefaultLast (None ∷ labels) = labels ≡ []

abbrev pub HasDefault : List Label → Type 0
HasDefault [] = ⊥
HasDefault (Some vs ∷ labels) = HasDefault labels
HasDefault (None ∷ labels) = ⊤

-- every value of the type is named; Int and String have too many
abbrev pub AllNamed : Subject → List Value → Type 0
AllNamed subject.Numbers vs = ⊥
AllNamed subject.Texts vs = ⊥
AllNamed subject.Truths vs = Contains vs (value.Bool true) × Contains vs (value.Bool false)
AllNamed (subject.Cases d cases) vs = (place : ℕ) → place < cases → Contains vs (value.Case d place)

-- the labels of a `switch` over this subject
pub record AreCases (s : Subject) (labels : List Label) : Type 0 where
  pub belong : AllByRecursion (Belongs s) (all_patterns labels)
  pub once : AllPairs (λ v w. v ≢ w) (all_patterns labels)  -- no pattern stands twice
  pub last : DefaultLast labels
  pub complete : HasDefault labels ⊎ AllNamed s (all_patterns labels)

abbrev pub body_of : SwitchCase → List Stmt
body_of c = (out-SwitchCase c).body

abbrev pub label_rule : Ty → SwitchLabel → PartRule Label
label_rule t (label.Case ps) cx r = (vs : List Value) × PatternsRule t ps cx vs × (r ≡ Some vs)
label_rule t label.Default cx r = r ≡ None

-- the label of a case, which has a statement
unfoldable pub CaseRule : Ty → SwitchCase → PartRule Label
CaseRule t c cx l = (body_of c ≢ []) × label_rule t (out-SwitchCase c).label cx l

unfoldable pub LabelsRule : Ty → List SwitchCase → PartRule (List Label)
LabelsRule t cs cx = Each (λ c. CaseRule t c cx) cs

-- the head of a `switch` with these cases: the core of what it is over, and the labels
unfoldable pub SubjectRule : Expr → List SwitchCase → PartRule (Core × List Label)
SubjectRule e cases cx r =
    (x : Core × Ty) × Typed e cx None x ×
    ((s : Subject) × (subject_at cx.table (out-Ty x.1) ≡ Some s) ×
    ((labels : List Label) × LabelsRule x.1 cases cx labels ×
    (AreCases s labels ×
    (r ≡ (x.0, labels)))))

-- ---- the same as functions

-- two values are the same
unfoldable pub same_value : Value → Value → Bool
same_value = eq_by_cmp (code_cmp one.the_row.coded)

abbrev pub belongs : Subject → Value-F Value → Bool
belongs subject.Numbers (Value-F.Int n) = true
belongs subject.Truths (Value-F.Bool b) = true
belongs subject.Texts (Value-F.Str text) = true
belongs (subject.Cases d cases) (Value-F.Case kind place) = nat_eq kind d
belongs _ _ = false

-- as many values as there are different ones
unfoldable pub all_apart : List Value → Bool
all_apart vs = nat_eq (distinct_count same_value vs) (length vs)

abbrev pub has_default : List Label → Bool
has_default [] = false
has_default (Some vs ∷ labels) = has_default labels
has_default (None ∷ labels) = true

abbrev pub default_last : List Label → Bool
default_last [] = true
default_last (Some vs ∷ labels) = default_last labels
default_last (None ∷ []) = true
default_last (None ∷ l ∷ labels) = false

abbrev pub named : List Value → Value → Bool
named = is_member same_value

abbrev pub named_below : ℕ → List Value → ℕ → Bool
named_below d vs zero = true
named_below d vs (suc n) = named_below d vs n && named vs (value.Case d n)

unfoldable pub all_named : Subject → List Value → Bool
all_named subject.Numbers vs = false
all_named subject.Texts vs = false
all_named subject.Truths vs = named vs (value.Bool true) && named vs (value.Bool false)
all_named (subject.Cases d cases) vs = named_below d vs cases

unfoldable pub are_cases : Subject → List Label → Bool
are_cases s labels =
    list_all (λ v. belongs s (out-Value v)) (all_patterns labels)
    && (all_apart (all_patterns labels) && (default_last labels && (has_default labels || all_named s (all_patterns labels))))

abbrev pub is_empty : {A : Type 0} → List A → Bool
is_empty [] = true
is_empty (x ∷ xs) = false

abbrev pub label_at : Ty → SwitchLabel → FindPart Label
label_at t (label.Case ps) cx = and_then (find_patterns t ps cx) (λ vs. Some (Some vs))
label_at t label.Default cx = Some None

unfoldable pub find_case : Ty → SwitchCase → FindPart Label
find_case t c cx = when (not (is_empty (body_of c))) (label_at t (out-SwitchCase c).label cx)

unfoldable pub find_labels : Ty → List SwitchCase → FindPart (List Label)
find_labels t cs cx = every (λ c. find_case t c cx) cs

unfoldable pub find_subject : Expr → List SwitchCase → FindPart (Core × List Label)
find_subject e cases cx =
    and_then (infer e cx None) (λ x.
    and_then (subject_at cx.table (out-Ty x.1)) (λ s.
    and_then (find_labels x.1 cases cx) (λ labels.
    when (are_cases s labels) (Some (x.0, labels)))))

-- ---- that they agree

pub same_value_decides : (v w : Value) → Decides (same_value v w) (v ≡ w)
unfolding same_value
same_value_decides = code_eq_decides one.the_row.coded

and_decides : {a b : Bool} {A B : Type 0} → Decides a A → Decides b B → Decides (a && b) (A × B)
and_decides {a = true} {b = true} d e = (λ h. (d.0 refl, e.0 refl), λ w. refl)
and_decides {a = true} {b = false} d e = (λ h. cc, λ w. let k = e.1 w.1 in cc)
and_decides {a = false} d e = (λ h. cc, λ w. let k = d.1 w.0 in cc)

belongs_decides : (s : Subject) (v : Value-F Value) → Decides (belongs s v) (belongs_at s v)
belongs_decides subject.Numbers (Value-F.Int n) = (λ h. tt, λ h. refl)
belongs_decides subject.Truths (Value-F.Bool b) = (λ h. tt, λ h. refl)
belongs_decides subject.Texts (Value-F.Str text) = (λ h. tt, λ h. refl)
belongs_decides (subject.Cases d cases) (Value-F.Case kind place) = Decides-eqb kind d
belongs_decides _ _ = (λ h. cc, λ h. absurd h)

all_decides : {X : Type 0} {p : X → Bool} {P : X → Type 0} → ((x : X) → Decides (p x) (P x)) → (xs : List X) → Decides (list_all p xs) (AllByRecursion P xs)
all_decides d [] = (λ h. tt, λ h. refl)
all_decides d (x ∷ xs) = and_decides (d x) (all_decides d xs)

same_value_equiv : IsEquivalence same_value
unfolding same_value
same_value_equiv = eq_by_cmp_equiv (code_cmp_total one.the_row.coded)

apart_decides : (vs : List Value) → Decides (all_apart vs) (AllPairs (λ v w. v ≢ w) vs)
unfolding all_apart
apart_decides vs =
    let counts = Decides-eqb (distinct_count same_value vs) (length vs) in (
      λ h. AllPairs-from_IsDistinct same_value_decides vs (IsDistinct-from_count same_value_equiv vs (counts.0 h)),
      λ h. counts.1 (distinct_count-from_IsDistinct same_value_equiv vs (IsDistinct-from_AllPairs same_value_decides vs h)),
    )

last_decides : (labels : List Label) → Decides (default_last labels) (DefaultLast labels)
last_decides [] = (λ h. tt, λ h. refl)
last_decides (Some vs ∷ labels) = last_decides labels
last_decides (None ∷ []) = (λ h. refl, λ h. refl)
last_decides (None ∷ l ∷ labels) = (λ h. cc, λ h. cc)

named_decides : (vs : List Value) (v : Value) → Decides (named vs v) (Contains vs v)
named_decides = is_member-Decides same_value_decides

order : (k n : ℕ) → k < suc n → (k < n) ⊎ (k ≡ n)
order k n lt = elim (eqb_tells k n) [ inl is ↦ inr is.1 | inr not ↦ inl (let apart = not.1 in omega arith) ]

below_decides : (d : ℕ) (vs : List Value) (n : ℕ) → Decides (named_below d vs n) ((place : ℕ) → place < n → Contains vs (value.Case d place))
below_decides d vs zero = (λ h place lt. absurd (omega arith), λ h. refl)
below_decides d vs (suc n) =
    let both = and_decides (below_decides d vs n) (named_decides vs (value.Case d n)) in (
      λ h place lt. elim (order place n lt) [ inl below ↦ (both.0 h).0 place below | inr is ↦ subst (λ k. Contains vs (value.Case d k)) (sym is) (both.0 h).1 ],
      λ h. both.1 (λ place lt. h place (omega arith), h n (omega arith)),
    )

default_decides : (labels : List Label) → Decides (has_default labels) (HasDefault labels)
default_decides [] = (λ h. cc, λ h. absurd h)
default_decides (Some vs ∷ labels) = default_decides labels
default_decides (None ∷ labels) = (λ h. tt, λ h. refl)

all_named_decides : (s : Subject) (vs : List Value) → Decides (all_named s vs) (AllNamed s vs)
unfolding all_named
all_named_decides subject.Numbers vs = (λ h. cc, λ h. absurd h)
all_named_decides subject.Texts vs = (λ h. cc, λ h. absurd h)
all_named_decides subject.Truths vs = and_decides (named_decides vs (value.Bool true)) (named_decides vs (value.Bool false))
all_named_decides (subject.Cases d cases) vs = below_decides d vs cases

pub are_cases_decides : (s : Subject) (labels : List Label) → Decides (are_cases s labels) (AreCases s labels)
unfolding are_cases
are_cases_decides s labels =
    let vs = all_patterns labels in
    let each = all_decides {p = λ v. belongs s (out-Value v)} {P = Belongs s} (λ v. belongs_decides s (out-Value v)) vs in
    let named_all = or_decides (default_decides labels) (all_named_decides s vs) in
    let whole = and_decides each (and_decides (apart_decides vs) (and_decides (last_decides labels) named_all)) in (
      λ h. let w = whole.0 h in record { belong = w.0; once = w.1.0; last = w.1.1.0; complete = w.1.1.1 },
      λ w. whole.1 (w.belong, (w.once, (w.last, w.complete))),
    )

empty_decides : {A : Type 0} (xs : List A) → Decides (not (is_empty xs)) (xs ≢ [])
empty_decides [] = (λ h. cc, λ n. absurd (n refl))
empty_decides (x ∷ xs) = (λ h e. cc, λ n. refl)

label_exact : (t : Ty) (l : SwitchLabel) → ExactPart (label_at t l) (label_rule t l)
unfolding Then
label_exact t (label.Case ps) cx = reads_then (patterns_exact t ps cx) (λ vs. reads_give _)
label_exact t label.Default cx = reads_give _

case_exact : (t : Ty) (c : SwitchCase) → ExactPart (find_case t c) (CaseRule t c)
unfolding find_case CaseRule
case_exact t c cx = reads_when (empty_decides (body_of c)) (label_exact t (out-SwitchCase c).label cx)

labels_exact : (t : Ty) (cs : List SwitchCase) → ExactPart (find_labels t cs) (LabelsRule t cs)
unfolding find_labels LabelsRule
labels_exact t cs cx = every_exact (λ c. case_exact t c cx) cs

pub subject_exact : (e : Expr) (cs : List SwitchCase) → ExactPart (find_subject e cs) (SubjectRule e cs)
unfolding find_subject SubjectRule Then
subject_exact e cs cx =
    reads_then (infer_exact e cx None) (λ x. reads_then (reads_is _) (λ s. reads_then (labels_exact x.1 cs cx) (λ labels. reads_when (are_cases_decides s labels) (reads_give _))))
