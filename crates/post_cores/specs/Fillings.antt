-- Arguments and what fills the properties of a declaration are well typed where the expressions inside are.
use Rattle.std.specs.Prelude.{◌≡◌, ℕ, zero, suc, false, List, [], ◌∷◌, ◌++◌, Option, Some, None}
use Rattle.std.proofs.Common.{refl, sym, subst, inl, inr}
use Rattle.swift_ast.specs.declared.tree.Arg.{Arg}
use Rattle.swift_ast.specs.declared.tree.Expr.{Expr}
use Rattle.swift_core.specs.Context.{Part, parts_of, part_at, initial_of}
use Rattle.swift_core.specs.Typing.{Binds, Arguments, Fillings, Fills, FillingForm}
use Rattle.swift_core.specs.declared.code.Code.{Code}
use Rattle.swift_core.specs.declared.ids.CodeId.{CodeId}
use Rattle.swift_core.specs.declared.table.Argument.{Argument}
use Rattle.swift_core.specs.declared.table.Argument.TheVariants as argument
use Rattle.swift_core.specs.declared.table.Initial.{Initial}
use Rattle.swift_core.specs.declared.table.Initial.TheVariants as initial
use Rattle.swift_core.specs.declared.table.ParamSignature.{ParamSignature}
use Rattle.swift_core.specs.declared.table.Signature.{Signature}
use Rattle.swift_core.specs.declared.table.SignatureForm.{SignatureForm}
use Rattle.swift_core.specs.declared.table.SignatureForm.TheVariants as form
use Rattle.swift_core.specs.declared.term.Core.{Core}
use Rattle.swift_core.specs.declared.term.Filling.{Filling, out-Filling}
use Rattle.swift_core.specs.declared.term.ChangeCall.TheViews as filling_view
use Rattle.swift_core.specs.declared.term.Target.{Target}
use Rattle.swift_core.specs.declared.ty.Ty.{Ty}
use Rattle.type_base.specs.Context.{Context}
use Rattle.type_base.specs.Rules.{Rule, PartRule}
use Rattle.post_rules.specs.Calls.{ArgumentsRule, nothing, place, need_at, initial_filling, Filled, added, left, Given, Bound, FilledBy, FillingsOf}
use Rattle.expr_cores.specs.Contexts.{core_context, core_locals, Fits, Good, NilIsOptional, NilsFit}
use Rattle.expr_cores.specs.Ops.{wanted_good}

abbrev listed : Option Part → List Part
listed None = []
listed (Some p) = p ∷ []

parts_at : (o : Option Part) (m : Signature) (ms : List Signature) → part_at m.code m.form ≡ o → parts_of (m ∷ ms) ≡ listed o ++ parts_of ms
parts_at None m ms e = simp e
parts_at (Some p) m ms e = simp e

parts_more : (m : Signature) (ms : List Signature) → parts_of (m ∷ ms) ≡ listed (part_at m.code m.form) ++ parts_of ms
parts_more m ms = parts_at (part_at m.code m.form) m ms refl

module _ (k : Expr → Rule) (good : (e : Expr) → Good (k e)) (blocks : List Code) (cx : Context) (fit : Fits cx.table) where
  pub arguments_good : (ps : List ParamSignature) (args : List Arg) (cs : List Core) → ArgumentsRule k ps args cx cs → Arguments (core_context cx blocks) (core_locals cx.locals) cs ps
  unfolding ArgumentsRule
  arguments_good [] [] cs e = subst (λ (x : List Core). Arguments (core_context cx blocks) (core_locals cx.locals) x []) (sym e) Arguments.no_arguments
  arguments_good [] (a ∷ args) cs e = absurd e
  arguments_good (p ∷ ps) [] cs e = absurd e
  arguments_good (p ∷ ps) (a ∷ args) cs (l, (t, pt, (e, ae, (c, w, (rest, r, eq))))) =
      subst (λ (x : List Core). Arguments (core_context cx blocks) (core_locals cx.locals) x (p ∷ ps)) (sym eq)
      (Arguments.more_arguments pt (wanted_good (good e) blocks cx t c fit w) (arguments_good ps args rest r))

  abbrev pub FillsMaybe : Option Filling → Option Part → Type 0
  FillsMaybe None None = Unit {0}
  FillsMaybe (Some x) (Some p) = Fills (core_context cx blocks) (core_locals cx.locals) (out-Filling x) p
  FillsMaybe _ _ = ⊥

  by_level : (x : Filling) {l : FillingForm} {p : Part} → out-Filling x ≡ l → Fills (core_context cx blocks) (core_locals cx.locals) l p → Fills (core_context cx blocks) (core_locals cx.locals) (out-Filling x) p
  by_level x {p = p} o h = subst (λ (m : FillingForm). Fills (core_context cx blocks) (core_locals cx.locals) m p) (sym o) h

  initial_good : (i : Initial) (p : Part) → initial_of p.argument ≡ Some i → NilIsOptional p → Fills (core_context cx blocks) (core_locals cx.locals) (out-Filling (initial_filling p.code i)) p
  initial_good initial.Written p e n = by_level _ (filling_view.outs-Initial p.code) (Fills.written e refl)
  initial_good initial.Nil p e n = let h = n e in by_level _ filling_view.outs-Nil (Fills.without e h.1 h.2.1)

  module _ (b : Expr → PartRule (Target × Ty)) (binds : (e : Expr) (p : Target × Ty) → b e cx p → Binds (core_context cx blocks) (core_locals cx.locals) p.0 p.1) where
    given_good : (p : Part) (a : Arg) (x : Filled) → p.is_binding ≡ false → Given k p.ty a cx x → FillsMaybe x.0 (Some p)
    unfolding Given
    given_good p a x n (t, pt, (e, ae, (c, w, eq))) = subst (λ (y : Filled). FillsMaybe y.0 (Some p)) (sym eq) (by_level _ (filling_view.outs-Given c) (Fills.given n pt (wanted_good (good e) blocks cx t c fit w)))

    rule_good : (w : List ℕ) (code : CodeId) (t : Option Ty) (r : Argument) (args : List Arg) (x : Filled) → NilIsOptional (record { code = code; is_binding = false; ty = t; argument = r })
        → FilledBy k b (need_at code (form.State 0 t r)) w args cx x → FillsMaybe x.0 (Some (record { code = code; is_binding = false; ty = t; argument = r }))
    unfolding FilledBy
    rule_good w code t argument.Required [] x n h = absurd h
    rule_good w code t argument.Required (a ∷ args) x n (l, g) = given_good (record { code = code; is_binding = false; ty = t; argument = argument.Required }) a x refl g
    rule_good w code t (argument.Optional i) [] x n e = subst (λ (y : Filled). FillsMaybe y.0 (Some (record { code = code; is_binding = false; ty = t; argument = argument.Optional i }))) (sym e) (initial_good i (record { code = code; is_binding = false; ty = t; argument = argument.Optional i }) refl n)
    rule_good w code t (argument.Optional i) (a ∷ args) x n (inl (l, g)) = given_good (record { code = code; is_binding = false; ty = t; argument = argument.Optional i }) a x refl g
    rule_good w code t (argument.Optional i) (a ∷ args) x n (inr (l, e)) = subst (λ (y : Filled). FillsMaybe y.0 (Some (record { code = code; is_binding = false; ty = t; argument = argument.Optional i }))) (sym e) (initial_good i (record { code = code; is_binding = false; ty = t; argument = argument.Optional i }) refl n)
    rule_good w code t (argument.Never i) args x n e = subst (λ (y : Filled). FillsMaybe y.0 (Some (record { code = code; is_binding = false; ty = t; argument = argument.Never i }))) (sym e) (initial_good i (record { code = code; is_binding = false; ty = t; argument = argument.Never i }) refl n)

    binding_good : (w : List ℕ) (code : CodeId) (at : ℕ) (t : Option Ty) (args : List Arg) (x : Filled) → FilledBy k b (place t) w args cx x → FillsMaybe x.0 (part_at code (form.Binding at t))
    unfolding FilledBy Bound
    binding_good w code at t [] x h = absurd h
    binding_good w code at t (a ∷ args) x (l, (u, tu, (e, ae, (p, be, (same, eq))))) =
        subst (λ (y : Filled). FillsMaybe y.0 (part_at code (form.Binding at t))) (sym eq)
        (by_level _ (filling_view.outs-Place p.0) (Fills.place refl tu (subst (λ (v : Ty). Binds (core_context cx blocks) (core_locals cx.locals) p.0 v) same (binds e p be))))

    nothing_good : (w : List ℕ) (args : List Arg) (x : Filled) → FilledBy k b nothing w args cx x → FillsMaybe x.0 None
    unfolding FilledBy
    nothing_good w args x e = subst (λ (y : Filled). FillsMaybe y.0 None) (sym e) tt

    filled_good : (w : List ℕ) (code : CodeId) (f : SignatureForm) (args : List Arg) (x : Filled) → ((p : Part) → part_at code f ≡ Some p → NilIsOptional p) → FilledBy k b (need_at code f) w args cx x → FillsMaybe x.0 (part_at code f)
    filled_good w code (form.Stored at binder t r) args x n h = rule_good w code t r args x (n _ refl) h
    filled_good w code (form.State at t r) args x n h = rule_good w code t r args x (n _ refl) h
    filled_good w code (form.Binding at t) args x n h = binding_good w code at t args x h
    filled_good w code _ args x n h = nothing_good w args x h

    some_filled : (x : Option Filling) (o : Option Part) (fs : List Filling) (ps : List Part) → FillsMaybe x o → Fillings (core_context cx blocks) (core_locals cx.locals) fs ps
        → Fillings (core_context cx blocks) (core_locals cx.locals) (added x ++ fs) (listed o ++ ps)
    some_filled None None fs ps g h = h
    some_filled (Some x) (Some p) fs ps g h = Fillings.more_fillings g h
    some_filled None (Some p) fs ps g h = absurd g
    some_filled (Some x) None fs ps g h = absurd g

    pub fillings_good : (ms : List Signature) (args : List Arg) (r : List Filling) → NilsFit ms → FillingsOf k b ms args cx r → Fillings (core_context cx blocks) (core_locals cx.locals) r (parts_of ms)
    unfolding FillingsOf
    fillings_good [] [] r n e = subst (λ (x : List Filling). Fillings (core_context cx blocks) (core_locals cx.locals) x []) (sym e) Fillings.no_fillings
    fillings_good [] (a ∷ args) r n e = absurd e
    fillings_good (m ∷ ms) args r n (x, g, (rest, h, e)) =
        subst (λ (y : List Filling). Fillings (core_context cx blocks) (core_locals cx.locals) y (parts_of (m ∷ ms))) (sym e)
        (subst (λ (ps : List Part). Fillings (core_context cx blocks) (core_locals cx.locals) (added x.0 ++ rest) ps) (sym (parts_more m ms))
        (some_filled x.0 (part_at m.code m.form) rest (parts_of ms) (filled_good m.name m.code m.form args x (λ p. n zero m p refl) g)
        (fillings_good ms (left x.1 args) rest (λ at. n (suc at)) h)))
