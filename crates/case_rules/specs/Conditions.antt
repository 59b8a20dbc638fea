-- The conditions of `if` and `while`. After The Swift Programming Language, 'Statements', 'Optional Binding'.
use Rattle.std.specs.Prelude.{◌≡◌, ℕ, List, [], ◌∷◌, ◌++◌, length, drop, Option, Some, None, Result, Ok, Err, ⊤}
use Rattle.swift_ast.specs.declared.span.Span.{Span}
use Rattle.swift_ast.specs.declared.tree.Condition.{Condition, out-Condition}
use Rattle.swift_ast.specs.declared.tree.Expr.{Expr, roll-Expr}
use Rattle.swift_ast.specs.declared.tree.ExprForm.TheVariants as form
use Rattle.swift_ast.specs.declared.tree.ArgValue.TheOpen.{Condition-F}
use Rattle.swift_core.specs.declared.ty.Ty.{Ty, out-Ty}
use Rattle.swift_core.specs.declared.ty.Ty.TheVariants as ty
use Rattle.swift_core.specs.declared.term.Core.{Core}
use Rattle.swift_core.specs.declared.stmt.Condition.{Condition as CoreCondition}
use Rattle.swift_core.specs.declared.stmt.Condition.TheVariants as core
use Rattle.swift_core.specs.Types.{inside_at}
use Rattle.type_base.specs.declared.fault.Fault.{Fault}
use Rattle.type_base.specs.declared.fault.Fault.TheVariants.{NotTyped, OutOfMemory}
use Rattle.type_base.specs.declared.scope.Local.{Local}
use Rattle.type_base.specs.declared.scope.Scope.{Scope}
use Rattle.type_base.specs.declared.scope.LocalKind.TheVariants.{Let}
use Rattle.type_base.specs.Claims.{Reads, Then, and_then, reads_give, reads_then, reads_is}
use Rattle.type_base.specs.Context.{Context}
use Rattle.type_base.specs.Scopes.{Keeps}
use Rattle.type_base.specs.Rules.{PartRule, FindPart, ExactPart}
use Rattle.value_rules.specs.Values.{Typed, infer, infer_exact, TypedWanted, infer_wanted, wanted_exact}
use Rattle.case_rules.specs.Layers.{ConditionLayer}
use Rattle.case_rules.specs.Scopes.{local, with_any, any_local}

-- no place in the source
abbrev pub nowhere : Span
nowhere = record { first = 0; last = 0; line = 0 }

-- an expression of this form that stands nowhere
abbrev pub name_alone : List ℕ → Expr
name_alone w = roll-Expr (record { span = nowhere; form = form.Name w })

-- a condition, and the local that it declares
abbrev pub Checked : Type 0
Checked = CoreCondition × Option Local

-- an expression of Bool
unfoldable pub Tested : Expr → PartRule Checked
Tested e cx r = (c : Core) × TypedWanted e ty.Bool cx c × (r ≡ (core.Test c, None))

unfoldable pub tested : Expr → FindPart Checked
tested e cx = and_then (infer_wanted e ty.Bool cx) (λ c. Some (core.Test c, None))

-- `let name = e`, where e is an optional: the local has the type inside it
unfoldable pub Bound : List ℕ → Expr → PartRule Checked
Bound w e cx r =
    (x : Core × Ty) × Typed e cx None x ×
    ((t : Ty) × (inside_at (out-Ty x.1) ≡ Some t) ×
    (r ≡ (core.Bind x.0, Some (local w t Let))))

unfoldable pub bound : List ℕ → Expr → FindPart Checked
bound w e cx = and_then (infer e cx None) (λ x. and_then (inside_at (out-Ty x.1)) (λ t. Some (core.Bind x.0, Some (local w t Let))))

-- `let name` alone is `let name = name`
abbrev pub value_of : List ℕ → Option Expr → Expr
value_of w None = name_alone w
value_of w (Some e) = e

abbrev pub condition_rule : ConditionLayer → PartRule Checked
condition_rule (Condition-F.Condition::Expr e) = Tested e
condition_rule (Condition-F.Let w value) = Bound w (value_of w value)

abbrev pub condition_at : ConditionLayer → FindPart Checked
condition_at (Condition-F.Condition::Expr e) = tested e
condition_at (Condition-F.Let w value) = bound w (value_of w value)

-- conditions, and the locals that they declare
abbrev pub CheckedAll : Type 0
CheckedAll = List CoreCondition × List Local

-- conditions in order, each in the scope of those before it; a local stands in a scope of its own, so that its name need not be new
unfoldable pub ConditionsRule : List Condition → PartRule CheckedAll
ConditionsRule [] cx r = r ≡ ([], [])
ConditionsRule (c ∷ cs) cx r =
    (x : Checked) × condition_rule (out-Condition c) cx x ×
    ((rest : CheckedAll) × ConditionsRule cs (with_any cx x.1) rest ×
    (r ≡ (x.0 ∷ rest.0, any_local x.1 ++ rest.1)))

unfoldable pub find_conditions : List Condition → FindPart CheckedAll
find_conditions [] cx = Some ([], [])
find_conditions (c ∷ cs) cx =
    and_then (condition_at (out-Condition c) cx) (λ x.
    and_then (find_conditions cs (with_any cx x.1)) (λ rest.
    Some (x.0 ∷ rest.0, any_local x.1 ++ rest.1)))

pub tested_exact : (e : Expr) → ExactPart (tested e) (Tested e)
unfolding tested Tested Then
tested_exact e cx = reads_then (wanted_exact e ty.Bool cx) (λ c. reads_give _)

pub bound_exact : (w : List ℕ) (e : Expr) → ExactPart (bound w e) (Bound w e)
unfolding bound Bound Then
bound_exact w e cx = reads_then (infer_exact e cx None) (λ x. reads_then (reads_is _) (λ t. reads_give _))

condition_exact : (c : ConditionLayer) → ExactPart (condition_at c) (condition_rule c)
condition_exact (Condition-F.Condition::Expr e) = tested_exact e
condition_exact (Condition-F.Let w value) = bound_exact w (value_of w value)

pub conditions_exact : (cs : List Condition) → ExactPart (find_conditions cs) (ConditionsRule cs)
unfolding find_conditions ConditionsRule Then
conditions_exact [] cx = reads_give _
conditions_exact (c ∷ cs) cx = reads_then (condition_exact (out-Condition c) cx) (λ x. reads_then (conditions_exact cs (with_any cx x.1)) (λ rest. reads_give _))

-- a check of conditions finds them, and has added their locals to the scope
abbrev pub FindsConditions : Result (List CoreCondition) Fault → Scope → Scope → Option CheckedAll → Type 0
FindsConditions (Ok cs) old new found = (found ≡ Some (cs, drop (length old.locals) new.locals)) × Keeps old new
FindsConditions (Err NotTyped) old new found = found ≡ None
FindsConditions (Err OutOfMemory) old new found = ⊤

abbrev pub DecidesConditions : Result (List CoreCondition) Fault → Scope → Scope → (CheckedAll → Type 0) → Type 0
DecidesConditions (Ok cs) old new P = P (cs, drop (length old.locals) new.locals) × Keeps old new
DecidesConditions (Err NotTyped) old new P = (r : CheckedAll) → P r → ⊥
DecidesConditions (Err OutOfMemory) old new P = ⊤

pub decided_conditions : (result : Result (List CoreCondition) Fault) (old new : Scope) (found : Option CheckedAll) (P : CheckedAll → Type 0)
    → Reads found P → FindsConditions result old new found → DecidesConditions result old new P
decided_conditions (Ok cs) old new found P reads h = ((reads (cs, drop (length old.locals) new.locals)).0 h.0, h.1)
decided_conditions (Err NotTyped) old new found P reads e = λ r p. let h = (reads r).1 p in cc
decided_conditions (Err OutOfMemory) old new found P reads h = tt
