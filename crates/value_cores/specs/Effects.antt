-- What an expression does that stands as a statement is well typed.
use Rattle.std.specs.Prelude.{◌≡◌, List, Some}
use Rattle.std.proofs.Common.{refl, subst}
use Rattle.swift_ast.specs.declared.tree.ArgValue.TheOpen.{ExprForm-F}
use Rattle.swift_ast.specs.declared.tree.Expr.{Expr}
use Rattle.swift_core.specs.Context as cores
use Rattle.swift_core.specs.Types.{element_at}
use Rattle.swift_core.specs.Typing.{Has, Changes}
use Rattle.swift_core.specs.declared.code.Code.{Code}
use Rattle.swift_core.specs.declared.term.Change.{Change, out-Change}
use Rattle.swift_core.specs.declared.term.ChangeCall.{out-ChangeCall}
use Rattle.swift_core.specs.declared.term.ChangeCall.TheOpen.{Core-F, ChangeCall-F}
use Rattle.swift_core.specs.declared.term.Core.{Core, out-Core}
use Rattle.swift_core.specs.declared.ty.Ty.{Ty, out-Ty}
use Rattle.type_base.specs.Claims.{some_is}
use Rattle.type_base.specs.Context.{Context}
use Rattle.type_base.specs.Rules.{Rule}
use Rattle.post_rules.specs.declared.chained.Chained.{Chained}
use Rattle.post_rules.specs.declared.chained.Chained.TheVariants as chained
use Rattle.post_rules.specs.declared.chained.Effect.{Effect}
use Rattle.post_rules.specs.Chains.{LayerOfCore, IndicesAt, IndicesRule, indices_of}
use Rattle.post_rules.specs.Syntax.{Form, form_of}
use Rattle.statement_rules.specs.Statements.{LayerOfCall, dropped_by, dropped_in, statement_of, StatementAt, StatementRule}
use Rattle.expr_cores.specs.Contexts.{core_context, core_locals, Fits, Good}
use Rattle.post_cores.specs.Chains.{chain_good}
use Rattle.post_cores.specs.States.{GoodEffect, IsGood}

module _ (cx : cores.Context) (ls : List cores.Local) where
  change_has : (x : Change) (t : Ty) → Has cx ls (Core-F.Change x) t → Changes cx ls x (Some t)
  change_has x t (Has.change h) = h

  call_dropped : (x : Change) (t : Ty) (v : LayerOfCall) (r : Effect) → Changes cx ls x (Some t) → dropped_by x v ≡ Some r → GoodEffect cx ls r
  call_dropped x t (ChangeCall-F.Mutate code arguments) r g e = cc
  call_dropped x t _ r g e = subst (GoodEffect cx ls) (some_is _ _ e) (Some t, g)

  core_dropped : (c : Core) (t : Ty) (l : LayerOfCore) (r : Effect) → out-Core c ≡ l → Has cx ls (out-Core c) t → dropped_in l ≡ Some r → GoodEffect cx ls r
  core_dropped c t (Core-F.Change x) r o g e = call_dropped x t (out-ChangeCall (out-Change x).call) r (change_has x t (subst (λ (m : LayerOfCore). Has cx ls m t) o g)) e
  core_dropped c t _ r o g e = cc

  stated : (s : Chained) (r : Effect) → IsGood cx ls s → statement_of s ≡ Some r → GoodEffect cx ls r
  stated (chained.Effect x) r g e = subst (GoodEffect cx ls) (some_is x r e) g
  stated (chained.Value c t) r g e = core_dropped c t (out-Core c) r refl g e
  stated _ r g e = cc

  -- the list whose indices are gone over
  abbrev pub IsList : Core → Type 0
  IsList c = (l : Ty) × Has cx ls (out-Core c) l × ((t : Ty) × (element_at (out-Ty l) ≡ Some t))

  listed : (s : Chained) (c : Core) → IsGood cx ls s → indices_of s ≡ Some c → IsList c
  listed (chained.Indices x) c g e = subst IsList (some_is x c e) g
  listed _ c g e = cc

module _ (k : Expr → Rule) (good : (e : Expr) → Good (k e)) (blocks : List Code) (cx : Context) (fit : Fits cx.table) where
  effect_at_good : (F : Form) (r : Effect) → StatementAt k F cx r → GoodEffect (core_context cx blocks) (core_locals cx.locals) r
  unfolding StatementAt
  effect_at_good (ExprForm-F.Post operand parts) r (s, h, e) = stated (core_context cx blocks) (core_locals cx.locals) s r (chain_good k good blocks cx fit operand parts s h) e
  effect_at_good _ r h = absurd h

  pub effect_good : (e : Expr) (r : Effect) → StatementRule k e cx r → GoodEffect (core_context cx blocks) (core_locals cx.locals) r
  unfolding StatementRule
  effect_good e r h = effect_at_good (form_of e) r h

  indices_at_good : (F : Form) (c : Core) → IndicesAt k F cx c → IsList (core_context cx blocks) (core_locals cx.locals) c
  unfolding IndicesAt
  indices_at_good (ExprForm-F.Post operand parts) c (s, h, e) = listed (core_context cx blocks) (core_locals cx.locals) s c (chain_good k good blocks cx fit operand parts s h) e
  indices_at_good _ c h = absurd h

  pub indices_good : (e : Expr) (c : Core) → IndicesRule k e cx c → IsList (core_context cx blocks) (core_locals cx.locals) c
  unfolding IndicesRule
  indices_good e c h = indices_at_good (form_of e) c h
