-- What the rules of expressions relate is well typed, whatever blocks the member has so far.
use Rattle.std.specs.Prelude.{◌≡◌, ℕ, List, Some, slice_get}
use Rattle.swift_ast.specs.declared.tree.Arg.{Arg}
use Rattle.swift_ast.specs.declared.tree.Expr.{Expr}
use Rattle.swift_core.specs.Context.{parts_of}
use Rattle.swift_core.specs.Typing.{Has, Places, Binds, Arguments, Fillings}
use Rattle.swift_core.specs.declared.code.Code.{Code}
use Rattle.swift_core.specs.declared.table.Declaration.{Declaration}
use Rattle.swift_core.specs.declared.table.ParamSignature.{ParamSignature}
use Rattle.swift_core.specs.declared.term.Core.{out-Core}
use Rattle.swift_core.specs.declared.ty.Ty.{Ty}
use Rattle.type_base.specs.Context.{Context}
use Rattle.post_rules.specs.Calls.{FillingsBy}
use Rattle.post_rules.specs.Chains.{FillingsRule}
use Rattle.value_rules.specs.Values.{levels, Typed, TypedWanted, TypedTarget, TypedBinding, TypedEffect, TypedFillings, TypedArguments, TypedIndices}
use Rattle.expr_cores.specs.Contexts.{core_context, core_locals, Fits, Good}
use Rattle.expr_cores.specs.Levels.{typed_has}
use Rattle.expr_cores.specs.Ops as ops
use Rattle.post_cores.specs.Chains as chains
use Rattle.post_cores.specs.Fillings as parts
use Rattle.post_cores.specs.States.{GoodEffect}
use Rattle.value_cores.specs.Effects as effects
use Rattle.value_cores.specs.Effects.{IsList}

-- an expression
abbrev pub ValuesTyped : Type 0
ValuesTyped = (e : Expr) → Good (Typed e)

pub value_good : ValuesTyped
unfolding Typed
value_good e = typed_has chains.post_good levels e

-- what holds at each context of a part that the rule relates
abbrev pub AtEach : {A : Type 0} → (Context → A → Type 0) → (Context → List Code → A → Type 0) → Type 0
AtEach {A} R P = (blocks : List Code) (cx : Context) (r : A) → Fits cx.table → R cx r → P cx blocks r

-- an expression where a value of a type is expected has that type
abbrev pub WantedTyped : Type 0
WantedTyped = (e : Expr) (t : Ty) → AtEach (TypedWanted e t) (λ cx blocks c. Has (core_context cx blocks) (core_locals cx.locals) (out-Core c) t)

pub wanted_good : WantedTyped
unfolding TypedWanted
wanted_good e t blocks cx c fit h = ops.wanted_good (value_good e) blocks cx t c fit h

-- the place that an assignment writes
abbrev pub TargetsTyped : Type 0
TargetsTyped = (e : Expr) → AtEach (TypedTarget e) (λ cx blocks r. Places (core_context cx blocks) (core_locals cx.locals) r.0 r.1)

pub target_good : TargetsTyped
unfolding TypedTarget
target_good e blocks cx r fit h = chains.target_good Typed value_good blocks cx fit e r h

-- the place that a binding stands for
abbrev pub BindingsTyped : Type 0
BindingsTyped = (e : Expr) → AtEach (TypedBinding e) (λ cx blocks r. Binds (core_context cx blocks) (core_locals cx.locals) r.0 r.1)

pub binding_good : BindingsTyped
unfolding TypedBinding
binding_good e blocks cx r fit h = chains.binding_good Typed value_good blocks cx fit e r h

-- an expression that is a statement
abbrev pub EffectsTyped : Type 0
EffectsTyped = (e : Expr) → AtEach (TypedEffect e) (λ cx blocks r. GoodEffect (core_context cx blocks) (core_locals cx.locals) r)

pub effect_good : EffectsTyped
unfolding TypedEffect
effect_good e blocks cx r fit h = effects.effect_good Typed value_good blocks cx fit e r h

-- what fills the properties of a declaration
abbrev pub FillingsTyped : Type 0
FillingsTyped = (d : ℕ) (args : List Arg) → AtEach (TypedFillings d args)
    (λ cx blocks fs. (declaration : Declaration) × (slice_get cx.table.declarations d ≡ Some declaration) × Fillings (core_context cx blocks) (core_locals cx.locals) fs (parts_of declaration.members))

pub fillings_good : FillingsTyped
unfolding TypedFillings FillingsRule FillingsBy
fillings_good d args blocks cx fs fit (declaration, sd, h) = (declaration, sd, chains.fillings_fit Typed value_good blocks cx fit d declaration args fs sd h)

-- the arguments of a function
abbrev pub ArgumentsTyped : Type 0
ArgumentsTyped = (ps : List ParamSignature) (args : List Arg) → AtEach (TypedArguments ps args) (λ cx blocks cs. Arguments (core_context cx blocks) (core_locals cx.locals) cs ps)

pub arguments_good : ArgumentsTyped
unfolding TypedArguments
arguments_good ps args blocks cx cs fit h = parts.arguments_good Typed value_good blocks cx fit ps args cs h

-- the list whose indices an expression is
abbrev pub IndicesTyped : Type 0
IndicesTyped = (e : Expr) → AtEach (TypedIndices e) (λ cx blocks c. IsList (core_context cx blocks) (core_locals cx.locals) c)

pub indices_good : IndicesTyped
unfolding TypedIndices
indices_good e blocks cx c fit h = effects.indices_good Typed value_good blocks cx fit e c h
