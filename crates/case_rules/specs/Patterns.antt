-- The patterns of a `switch`, as values. After The Swift Programming Language, 'Patterns', 'Expression Pattern' and
-- 'Enumeration Case Pattern'.
use Rattle.std.specs.Prelude.{◌≡◌, ℕ, ℤ, pos, negsuc, neg_ℤ, Bool, true, false, if◌then◌else◌, List, [], ◌∷◌, Option, Some, None}
use Rattle.std.specs.List.{concat}
use Rattle.std.specs.Str.{IsUtf8, is_utf8}
use Rattle.std.proofs.lemmas.Str.{IsUtf8-from_is_utf8, is_utf8-from_IsUtf8}
use Rattle.swift_ast.specs.declared.tree.Expr.{Expr, roll-Expr}
use Rattle.swift_ast.specs.declared.tree.ExprForm.TheVariants as form
use Rattle.swift_ast.specs.declared.tree.Part.TheVariants as part
use Rattle.swift_ast.specs.declared.tree.Selector.TheVariants as selector
use Rattle.swift_ast.specs.declared.tree.Pattern.{Pattern}
use Rattle.swift_ast.specs.declared.tree.Pattern.TheVariants as pattern
use Rattle.swift_core.specs.declared.ty.Ty.{Ty}
use Rattle.swift_core.specs.declared.term.Core.{Core, out-Core}
use Rattle.swift_core.specs.declared.term.ChangeCall.TheOpen.{Core-F}
use Rattle.sv_value.specs.declared.value.Value.{Value, out-Value}
use Rattle.sv_value.specs.declared.value.Value.TheVariants as value
use Rattle.sv_value.specs.declared.value.Value.TheOpen.{Value-F}
use Rattle.type_base.specs.Claims.{Reads, Then, and_then, when, reads_give, reads_then, reads_when, reads_is, reads_none}
use Rattle.type_base.specs.Context.{Context}
use Rattle.type_base.specs.Rules.{PartRule, FindPart, ExactPart}
use Rattle.value_rules.specs.Values.{TypedWanted, infer_wanted, wanted_exact}
use Rattle.case_rules.specs.Each.{Each, every, every_exact}
use Rattle.case_rules.specs.Conditions.{nowhere, name_alone}

-- `.name`, standing nowhere
abbrev pub implicit_alone : List ℕ → Expr
implicit_alone w = roll-Expr (record { span = nowhere; form = form.Implicit w })

-- `kind.name`, standing nowhere
abbrev pub member_alone : List ℕ → List ℕ → Expr
member_alone kind w = roll-Expr (record { span = nowhere; form = form.Post (name_alone kind) (part.Member (selector.Name w) ∷ []) })

-- a value that is a case of an enum
abbrev pub is_case : Value → Bool
is_case v = elim (out-Value v) [ Value-F.Case kind place ↦ true | _ ↦ false ]

-- the case that a core is the literal of
abbrev pub case_of : Core → Option Value
case_of c = elim (out-Core c) [ Core-F.Literal v ↦ when (is_case v) (Some v) | _ ↦ None ]

-- an expression that is a case of an enum of type t
unfoldable pub CaseNamed : Expr → Ty → PartRule Value
CaseNamed e t cx v = (c : Core) × TypedWanted e t cx c × (case_of c ≡ Some v)

unfoldable pub case_named : Expr → Ty → FindPart Value
case_named e t cx = and_then (infer_wanted e t cx) case_of

-- the number that is not below 0, with `-` before it
abbrev pub minus_at : ℤ → Option Value
minus_at (pos n) = Some (value.Int (neg_ℤ (pos n)))
minus_at (negsuc n) = None

-- the value of a pattern of a `switch` over a value of type t; behind `-` a number stands without its sign
abbrev pub pattern_rule : Ty → Pattern → PartRule Value
pattern_rule t (pattern.Int n) cx v = v ≡ value.Int n
pattern_rule t (pattern.Minus n) cx v = minus_at n ≡ Some v
pattern_rule t (pattern.Text words) cx v = IsUtf8 (concat words) × (v ≡ value.Str (concat words))
pattern_rule t pattern.True cx v = v ≡ value.Bool true
pattern_rule t pattern.False cx v = v ≡ value.Bool false
pattern_rule t (pattern.Implicit w) cx v = CaseNamed (implicit_alone w) t cx v
pattern_rule t (pattern.Member kind w) cx v = CaseNamed (member_alone kind w) t cx v

abbrev pub pattern_at : Ty → Pattern → FindPart Value
pattern_at t (pattern.Int n) cx = Some (value.Int n)
pattern_at t (pattern.Minus n) cx = minus_at n
pattern_at t (pattern.Text words) cx = when (is_utf8 (concat words)) (Some (value.Str (concat words)))
pattern_at t pattern.True cx = Some (value.Bool true)
pattern_at t pattern.False cx = Some (value.Bool false)
pattern_at t (pattern.Implicit w) cx = case_named (implicit_alone w) t cx
pattern_at t (pattern.Member kind w) cx = case_named (member_alone kind w) t cx

-- the values of some patterns
unfoldable pub PatternsRule : Ty → List Pattern → PartRule (List Value)
PatternsRule t ps cx = Each (λ p. pattern_rule t p cx) ps

unfoldable pub find_patterns : Ty → List Pattern → FindPart (List Value)
find_patterns t ps cx = every (λ p. pattern_at t p cx) ps

case_named_exact : (e : Expr) (t : Ty) → ExactPart (case_named e t) (CaseNamed e t)
unfolding case_named CaseNamed Then
case_named_exact e t cx = reads_then (wanted_exact e t cx) (λ c. reads_is (case_of c))

pattern_exact : (t : Ty) (p : Pattern) → ExactPart (pattern_at t p) (pattern_rule t p)
pattern_exact t (pattern.Int n) cx = reads_give _
pattern_exact t (pattern.Minus n) cx = reads_is _
pattern_exact t (pattern.Text words) cx = reads_when (IsUtf8-from_is_utf8 (concat words), is_utf8-from_IsUtf8 (concat words)) (reads_give _)
pattern_exact t pattern.True cx = reads_give _
pattern_exact t pattern.False cx = reads_give _
pattern_exact t (pattern.Implicit w) cx = case_named_exact (implicit_alone w) t cx
pattern_exact t (pattern.Member kind w) cx = case_named_exact (member_alone kind w) t cx

pub patterns_exact : (t : Ty) (ps : List Pattern) → ExactPart (find_patterns t ps) (PatternsRule t ps)
unfolding find_patterns PatternsRule
patterns_exact t ps cx = every_exact (λ p. pattern_exact t p cx) ps
