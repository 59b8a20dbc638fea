-- What each kind of expression becomes: the rules, the searches, and that they agree.
-- After The Swift Programming Language, 'Expressions'.
use Rattle.std.specs.Prelude.{◌≡◌, ℕ, List, Option, Some, None}
use Rattle.swift_core.specs.declared.ty.Ty.{Ty}
use Rattle.swift_core.specs.declared.term.Core.{Core}
use Rattle.swift_core.specs.declared.term.Target.{Target}
use Rattle.swift_core.specs.declared.term.Filling.{Filling}
use Rattle.swift_core.specs.declared.table.ParamSignature.{ParamSignature}
use Rattle.swift_ast.specs.declared.tree.Expr.{Expr}
use Rattle.swift_ast.specs.declared.tree.Arg.{Arg}
use Rattle.post_rules.specs.declared.chained.Effect.{Effect}
use Rattle.post_rules.specs.Calls.{ArgumentsRule, find_arguments}
use Rattle.post_rules.specs.Chains.{TargetRule, find_target, BindingRule, find_binding, FillingsRule, find_fillings, IndicesRule, find_indices}
use Rattle.statement_rules.specs.Statements.{StatementRule, find_statement, statement_exact}
use Rattle.post_rules.specs.Exacts as post
use Rattle.type_base.specs.Claims.{Reads, reads_one}
use Rattle.type_base.specs.Context.{Context}
use Rattle.type_base.specs.Promotion.{Wanted, wanted}
use Rattle.type_base.specs.Promotion as promotion
use Rattle.std.specs.Prelude.{Result}
use Rattle.type_base.specs.declared.fault.Fault.{Fault}
use Rattle.type_base.specs.Rules.{Rule, Infer, Exact, PartRule, FindPart, ExactPart, Answers, Decides, decided}
use Rattle.expr_rules.specs.Levels.{typed_to, infer_to, exact_to}

-- how deep the forms of an expression may nest; what the parser reads nests less
unfoldable pub levels : ℕ
levels = 5000

-- an expression that gives a value
unfoldable pub Typed : Expr → Rule
Typed e = typed_to levels e

unfoldable pub infer : Expr → Infer
infer e = infer_to levels e

pub infer_exact : (e : Expr) → Exact (infer e) (Typed e)
unfolding infer Typed
infer_exact e = exact_to levels e

-- the search finds exactly what the rule relates
abbrev pub ValuesFound : Type 0
ValuesFound = (e : Expr) (cx : Context) (want : Option Ty) → Reads (infer e cx want) (Typed e cx want)

-- an expression has one core and one type at most
abbrev pub OneValue : Type 0
OneValue = (e : Expr) (cx : Context) (want : Option Ty) (x y : Core × Ty) → Typed e cx want x → Typed e cx want y → x ≡ y

pub one_value : OneValue
one_value e cx want = reads_one (infer_exact e cx want)

-- an expression where a value of this type is expected
unfoldable pub TypedWanted : Expr → Ty → PartRule Core
TypedWanted e t cx = Wanted (Typed e) cx t

unfoldable pub infer_wanted : Expr → Ty → FindPart Core
infer_wanted e t cx = wanted (infer e) cx t

pub wanted_exact : (e : Expr) (t : Ty) → ExactPart (infer_wanted e t) (TypedWanted e t)
unfolding infer_wanted TypedWanted
wanted_exact e t cx = promotion.wanted_exact (infer_exact e) cx t

-- the place that an assignment to the expression writes, and the type there
unfoldable pub TypedTarget : Expr → PartRule (Target × Ty)
TypedTarget e = TargetRule Typed e

unfoldable pub infer_target : Expr → FindPart (Target × Ty)
infer_target e = find_target infer e

pub target_exact : (e : Expr) → ExactPart (infer_target e) (TypedTarget e)
unfolding infer_target TypedTarget
target_exact e = post.target_exact infer Typed infer_exact e

-- the place that a binding stands for, and the type there
unfoldable pub TypedBinding : Expr → PartRule (Target × Ty)
TypedBinding e = BindingRule Typed e

unfoldable pub infer_binding : Expr → FindPart (Target × Ty)
infer_binding e = find_binding infer e

pub binding_exact : (e : Expr) → ExactPart (infer_binding e) (TypedBinding e)
unfolding infer_binding TypedBinding
binding_exact e = post.binding_exact infer Typed infer_exact e

-- an expression that is a statement
unfoldable pub TypedEffect : Expr → PartRule Effect
TypedEffect e = StatementRule Typed e

unfoldable pub infer_effect : Expr → FindPart Effect
infer_effect e = find_statement infer e

pub effect_exact : (e : Expr) → ExactPart (infer_effect e) (TypedEffect e)
unfolding infer_effect TypedEffect
effect_exact e = statement_exact infer Typed infer_exact e

-- what fills the properties of a declaration, by the arguments of its initialiser
unfoldable pub TypedFillings : ℕ → List Arg → PartRule (List Filling)
TypedFillings d args = FillingsRule Typed d args

unfoldable pub infer_fillings : ℕ → List Arg → FindPart (List Filling)
infer_fillings d args = find_fillings infer d args

pub fillings_exact : (d : ℕ) (args : List Arg) → ExactPart (infer_fillings d args) (TypedFillings d args)
unfolding infer_fillings TypedFillings
fillings_exact d args = post.fillings_exact infer Typed infer_exact d args

-- the arguments of a function with these parameters
unfoldable pub TypedArguments : List ParamSignature → List Arg → PartRule (List Core)
TypedArguments ps args = ArgumentsRule Typed ps args

unfoldable pub infer_arguments : List ParamSignature → List Arg → FindPart (List Core)
infer_arguments ps args = find_arguments infer ps args

pub arguments_exact : (ps : List ParamSignature) (args : List Arg) → ExactPart (infer_arguments ps args) (TypedArguments ps args)
unfolding infer_arguments TypedArguments
arguments_exact ps args = post.arguments_exact infer Typed infer_exact ps args

-- the list whose indices an expression is
unfoldable pub TypedIndices : Expr → PartRule Core
TypedIndices e = IndicesRule Typed e

unfoldable pub infer_indices : Expr → FindPart Core
infer_indices e = find_indices infer e

pub indices_exact : (e : Expr) → ExactPart (infer_indices e) (TypedIndices e)
unfolding infer_indices TypedIndices
indices_exact e = post.indices_exact infer Typed infer_exact e

-- ---- what answers as the search decides by the rule

pub value_decided : (r : Result (Core × Ty) Fault) (e : Expr) (cx : Context) (want : Option Ty) → Answers r (infer e cx want) → Decides r (Typed e cx want)
value_decided r e cx want h = decided r _ _ (infer_exact e cx want) h

pub wanted_decided : (r : Result Core Fault) (e : Expr) (t : Ty) (cx : Context) → Answers r (infer_wanted e t cx) → Decides r (TypedWanted e t cx)
wanted_decided r e t cx h = decided r _ _ (wanted_exact e t cx) h

pub target_decided : (r : Result (Target × Ty) Fault) (e : Expr) (cx : Context) → Answers r (infer_target e cx) → Decides r (TypedTarget e cx)
target_decided r e cx h = decided r _ _ (target_exact e cx) h

pub binding_decided : (r : Result (Target × Ty) Fault) (e : Expr) (cx : Context) → Answers r (infer_binding e cx) → Decides r (TypedBinding e cx)
binding_decided r e cx h = decided r _ _ (binding_exact e cx) h

pub effect_decided : (r : Result Effect Fault) (e : Expr) (cx : Context) → Answers r (infer_effect e cx) → Decides r (TypedEffect e cx)
effect_decided r e cx h = decided r _ _ (effect_exact e cx) h

pub fillings_decided : (r : Result (List Filling) Fault) (d : ℕ) (args : List Arg) (cx : Context) → Answers r (infer_fillings d args cx) → Decides r (TypedFillings d args cx)
fillings_decided r d args cx h = decided r _ _ (fillings_exact d args cx) h

pub arguments_decided : (r : Result (List Core) Fault) (ps : List ParamSignature) (args : List Arg) (cx : Context) → Answers r (infer_arguments ps args cx) → Decides r (TypedArguments ps args cx)
arguments_decided r ps args cx h = decided r _ _ (arguments_exact ps args cx) h

pub indices_decided : (r : Result Core Fault) (e : Expr) (cx : Context) → Answers r (infer_indices e cx) → Decides r (TypedIndices e cx)
indices_decided r e cx h = decided r _ _ (indices_exact e cx) h
