-- Calls are well typed where the expressions inside are.
use Rattle.std.specs.Prelude.{◌≡◌, ℕ, Bool, true, false, List, [], ◌∷◌, Option, Some, None, slice_get, codes}
use Rattle.std.proofs.Common.{refl, sym, ap, subst, ◌∙◌}
use Rattle.value_calls.specs.declared.operators.Arithmetic.{Arithmetic}
use Rattle.value_calls.specs.declared.operators.Arithmetic.TheVariants as arithmetic
use Rattle.value_calls.specs.declared.operators.Operator.TheVariants as operator
use Rattle.value_calls.specs.declared.operators.Unary.TheVariants as prefix
use Rattle.swift_core.specs.Context as cores
use Rattle.swift_core.specs.Context.{Itself, HasMember, Part, parts_of, part_at, initial_of}
use Rattle.swift_core.specs.Operators.{unary_type, binary_type}
use Rattle.swift_core.specs.Types.{element_at, named_at}
use Rattle.swift_core.specs.Typing.{Has, Places, Changes, Calls, Uses, Invokes, Receives, Arguments, ChangeForm}
use Rattle.swift_core.specs.declared.table.Declaration.{Declaration}
use Rattle.swift_core.specs.declared.table.ParamSignature.{ParamSignature}
use Rattle.swift_core.specs.declared.table.SignatureForm.TheVariants as form
use Rattle.swift_core.specs.declared.term.Change.{Change}
use Rattle.swift_core.specs.declared.term.ChangeCall.{ChangeCall, out-ChangeCall}
use Rattle.swift_core.specs.declared.term.ChangeCall.TheVariants as calls
use Rattle.post_rules.specs.declared.chained.Effect.TheVariants as effect
use Rattle.swift_core.specs.declared.term.ChangeCall.TheViews.{outs-Toggle, outs-Append, outs-AppendAll, outs-Insert, outs-Remove, outs-RemoveFirst, outs-RemoveLast, outs-RemoveAll, outs-SwapAt, outs-Mutate}
use Rattle.swift_core.specs.declared.term.Core.{Core, out-Core}
use Rattle.swift_core.specs.declared.term.Binary.TheVariants as binary
use Rattle.swift_core.specs.declared.term.Core.TheVariants as core
use Rattle.swift_core.specs.declared.term.ChangeCall.TheViews.{outs-Unary, outs-Binary, outs-Invoke, outs-Change}
use Rattle.swift_core.specs.declared.term.Receiver.{Receiver, out-Receiver}
use Rattle.swift_core.specs.declared.term.Target.{Target}
use Rattle.swift_core.specs.declared.ty.Ty.{Ty, out-Ty, roll-Ty, roll-out-Ty}
use Rattle.swift_core.specs.declared.ty.Ty.TheOpen.{Ty-F}
use Rattle.swift_core.specs.declared.ty.Ty.TheVariants as ty
use Rattle.swift_core.specs.declared.ty.Ty.TheViews as ty_view
use Rattle.type_base.specs.Claims.{and_then, some_is}
use Rattle.post_rules.specs.declared.chained.BuiltIn.{BuiltIn}
use Rattle.post_rules.specs.declared.chained.BuiltIn.TheVariants as built_in
use Rattle.post_rules.specs.declared.chained.Chained.{Chained}
use Rattle.post_rules.specs.declared.chained.Chained.TheVariants as chained
use Rattle.post_rules.specs.declared.chained.Method.{Method}
use Rattle.post_rules.specs.declared.chained.Method.TheVariants as method
use Rattle.post_rules.specs.Calls.{Callee, callee_in, callee_by, callee_at, unlabelled, labelled, method_parameters, asked, change_call, method_result, built_in_parameters, built_in_called, described_at, after_call, after_change, changed, function_called, mutating_called}
use Rattle.post_rules.specs.Places.{invocation, change}
use Rattle.post_cores.specs.Members.{found_so}
use Rattle.post_cores.specs.States.{IsGood, IsFunction, good_is, has_by}

module _ (cx : cores.Context) (ls : List cores.Local) where
  -- ---- built-in calls

  -- a list of arguments of these parameters, by their number
  one_argument : (c : Core) (p : ParamSignature) (t : Ty) → p.ty ≡ Some t → Arguments cx ls (c ∷ []) (p ∷ []) → Has cx ls (out-Core c) t
  one_argument c p t e (Arguments.more_arguments {t = u} f h Arguments.no_arguments) = subst (λ (v : Ty). Has cx ls (out-Core c) v) (some_is u t (sym f ∙ e)) h

  first_argument : (c : Core) (cs : List Core) (p : ParamSignature) (ps : List ParamSignature) (t : Ty) → p.ty ≡ Some t → Arguments cx ls (c ∷ cs) (p ∷ ps) → Has cx ls (out-Core c) t
  first_argument c cs p ps t e (Arguments.more_arguments {t = u} f h g) = subst (λ (v : Ty). Has cx ls (out-Core c) v) (some_is u t (sym f ∙ e)) h

  other_arguments : (c : Core) (cs : List Core) (p : ParamSignature) (ps : List ParamSignature) → Arguments cx ls (c ∷ cs) (p ∷ ps) → Arguments cx ls cs ps
  other_arguments c cs p ps (Arguments.more_arguments f h g) = g

  pub asked_good : (m : Method) (b : Bool) (c : Core) (l t : Ty) (cs : List Core) (r : Chained) → Has cx ls (out-Core c) l → element_at (out-Ty l) ≡ Some t
      → Arguments cx ls cs (method_parameters m b t) → asked m c cs ≡ Some r → IsGood cx ls r
  asked_good method.Contains b c l t (x ∷ []) r g e as' h = good_is cx ls h (has_by cx ls _ (outs-Binary _ _ _) (Has.contains g e (one_argument x (unlabelled t) t refl as')))
  asked_good method.FirstIndex b c l t (x ∷ []) r g e as' h = good_is cx ls h (has_by cx ls _ (outs-Binary _ _ _) (Has.first_index g e (one_argument x (labelled (codes "of") t) t refl as')))
  asked_good m b c l t cs r g e as' h = cc

  is_list : (l t : Ty) → element_at (out-Ty l) ≡ Some t → ty.List t ≡ l
  is_list l t e = list_from (out-Ty l) refl e where
    list_from : (layer : Ty-F Ty) → out-Ty l ≡ layer → element_at layer ≡ Some t → ty.List t ≡ l
    list_from (Ty-F.List u) f g = let same : u ≡ t = some_is u t g in sym (sym (roll-out-Ty l) ∙ ap roll-Ty (f ∙ ap Ty-F.List same ∙ sym (ty_view.outs-List t)) ∙ roll-out-Ty (ty.List t))
    list_from _ f g = cc

  by_call : {l : Ty} {v : ChangeForm} (call : ChangeCall) {result : Option Ty} → out-ChangeCall call ≡ v → Calls cx ls l v result → Calls cx ls l (out-ChangeCall call) result
  by_call {l = l} call {result = result} o h = subst (λ (x : ChangeForm). Calls cx ls l x result) (sym o) h

  call_good : (m : Method) (b : Bool) (l t : Ty) (cs : List Core) (call : ChangeCall) → element_at (out-Ty l) ≡ Some t → Arguments cx ls cs (method_parameters m b t) → change_call m b cs ≡ Some call
      → Calls cx ls l (out-ChangeCall call) (method_result m t)
  call_good method.Append false l t (x ∷ []) call e as' h = subst (λ (c : ChangeCall). Calls cx ls l (out-ChangeCall c) None) (some_is _ _ h) (by_call _ (outs-Append x) (Calls.append e (one_argument x (unlabelled t) t refl as')))
  call_good method.Append true l t (x ∷ []) call e as' h =
      subst (λ (c : ChangeCall). Calls cx ls l (out-ChangeCall c) None) (some_is _ _ h) (by_call _ (outs-AppendAll x) (Calls.append_all e (subst (λ (u : Ty). Has cx ls (out-Core x) u) (is_list l t e) (one_argument x (labelled (codes "contentsOf") (ty.List t)) (ty.List t) refl as'))))
  call_good method.Insert b l t (x ∷ i ∷ []) call e as' h =
      subst (λ (c : ChangeCall). Calls cx ls l (out-ChangeCall c) None) (some_is _ _ h) (by_call _ (outs-Insert x i) (Calls.insert e (first_argument x (i ∷ []) (unlabelled t) (labelled (codes "at") ty.Int ∷ []) t refl as')
      (one_argument i (labelled (codes "at") ty.Int) ty.Int refl (other_arguments x (i ∷ []) (unlabelled t) (labelled (codes "at") ty.Int ∷ []) as'))))
  call_good method.Remove b l t (i ∷ []) call e as' h = subst (λ (c : ChangeCall). Calls cx ls l (out-ChangeCall c) (Some t)) (some_is _ _ h) (by_call _ (outs-Remove i) (Calls.remove e (one_argument i (labelled (codes "at") ty.Int) ty.Int refl as')))
  call_good method.RemoveFirst b l t [] call e as' h = subst (λ (c : ChangeCall). Calls cx ls l (out-ChangeCall c) (Some t)) (some_is _ _ h) (by_call _ outs-RemoveFirst (Calls.remove_first e))
  call_good method.RemoveLast b l t [] call e as' h = subst (λ (c : ChangeCall). Calls cx ls l (out-ChangeCall c) (Some t)) (some_is _ _ h) (by_call _ outs-RemoveLast (Calls.remove_last e))
  call_good method.RemoveAll b l t [] call e as' h = subst (λ (c : ChangeCall). Calls cx ls l (out-ChangeCall c) None) (some_is _ _ h) (by_call _ outs-RemoveAll (Calls.remove_all e))
  call_good method.SwapAt b l t (i ∷ j ∷ []) call e as' h =
      subst (λ (c : ChangeCall). Calls cx ls l (out-ChangeCall c) None) (some_is _ _ h) (by_call _ (outs-SwapAt i j) (Calls.swap_at e (first_argument i (j ∷ []) (unlabelled ty.Int) (unlabelled ty.Int ∷ []) ty.Int refl as')
      (one_argument j (unlabelled ty.Int) ty.Int refl (other_arguments i (j ∷ []) (unlabelled ty.Int) (unlabelled ty.Int ∷ []) as'))))
  call_good m b l t cs call e as' h = cc

  change_good : (x : Change) (o : Option Ty) → Changes cx ls x o → IsGood cx ls (after_change x o)
  change_good x None h = (None, h)
  change_good x (Some t) h = has_by cx ls _ (outs-Change x) (Has.change h)

  pub toggle_good : (p : Target) → Places cx ls p ty.Bool → IsGood cx ls (chained.Effect (effect.Change (change p calls.Toggle)))
  toggle_good p g = (None, Changes.changes {c = change p calls.Toggle} g (by_call _ outs-Toggle Calls.toggle))

  pub changed_good : (p : Target) (m : Method) (b : Bool) (l t : Ty) (cs : List Core) (r : Chained) → Places cx ls p l → element_at (out-Ty l) ≡ Some t
      → Arguments cx ls cs (method_parameters m b t) → changed p t m b cs ≡ Some r → IsGood cx ls r
  changed_good p m b l t cs r g e as' h = found_so (IsGood cx ls r) h (λ call sc k. good_is cx ls k (change_good (change p call) (method_result m t) (Changes.changes {c = change p call} g (call_good m b l t cs call e as' sc))))

  number : (c : Core) (cs : List Core) (ps : List ParamSignature) → Arguments cx ls (c ∷ cs) (unlabelled ty.Int ∷ ps) → Has cx ls (out-Core c) ty.Int
  number c cs ps as' = first_argument c cs (unlabelled ty.Int) ps ty.Int refl as'

  computes : (op : Arithmetic) (x y : Core) → Has cx ls (out-Core x) ty.Int → Has cx ls (out-Core y) ty.Int
      → IsGood cx ls (chained.Value (core.Binary (binary.Operate (operator.Compute op)) x y) ty.Int)
  computes op x y g h = has_by cx ls _ (outs-Binary _ _ _) (Has.operate g h (ap (binary_type (operator.Compute op)) ty_view.outs-Int))

  pub built_in_good : (b : BuiltIn) (cs : List Core) (r : Chained) → Arguments cx ls cs (built_in_parameters b) → built_in_called b cs ≡ Some r → IsGood cx ls r
  built_in_good built_in.Absolute (x ∷ []) r as' h = good_is cx ls h (has_by cx ls _ (outs-Unary _ _) (Has.operate_one (number x [] [] as') (ap (unary_type prefix.Absolute) ty_view.outs-Int)))
  built_in_good built_in.Text (x ∷ n ∷ []) r as' h =
      good_is cx ls h (has_by cx ls _ (outs-Binary _ _ _) (Has.repeated (first_argument x (n ∷ []) (labelled (codes "repeating") ty.Text) (labelled (codes "count") ty.Int ∷ []) ty.Text refl as')
      (one_argument n (labelled (codes "count") ty.Int) ty.Int refl (other_arguments x (n ∷ []) (labelled (codes "repeating") ty.Text) (labelled (codes "count") ty.Int ∷ []) as'))))
  built_in_good built_in.Min (x ∷ y ∷ []) r as' h = good_is cx ls h (computes arithmetic.Min x y (number x (y ∷ []) (unlabelled ty.Int ∷ []) as') (number y [] [] (other_arguments x (y ∷ []) (unlabelled ty.Int) (unlabelled ty.Int ∷ []) as')))
  built_in_good built_in.Max (x ∷ y ∷ []) r as' h = good_is cx ls h (computes arithmetic.Max x y (number x (y ∷ []) (unlabelled ty.Int ∷ []) as') (number y [] [] (other_arguments x (y ∷ []) (unlabelled ty.Int) (unlabelled ty.Int ∷ []) as')))
  built_in_good b cs r as' h = cc

  pub described_good : (c : Core) (t : Ty) → Has cx ls (out-Core c) t → (layer : Ty-F Ty) (r : Chained) → out-Ty t ≡ layer → described_at c layer ≡ Some r → IsGood cx ls r
  described_good c t g Ty-F.Int r e h = good_is cx ls h (has_by cx ls _ (outs-Unary _ _) (Has.operate_one g (ap (unary_type prefix.Describe) e)))
  described_good c t g Ty-F.Bool r e h = good_is cx ls h (has_by cx ls _ (outs-Unary _ _) (Has.operate_one g (ap (unary_type prefix.Describe) e)))
  described_good c t g _ r e h = cc

  -- ---- functions of the program

  callee_is : (d m : ℕ) (b : Bool) (f : IsFunction cx ls d m b) (used : Callee) → callee_at cx.table d m ≡ Some used → used ≡ record { code = f.signature.code; parameters = f.parameters; result = f.result }
  unfolding callee_at and_then
  callee_is d m b f used e =
      let found = ap (λ (o : Option Declaration). and_then o (λ (declaration : Declaration). callee_in (slice_get declaration.members m))) f.declared in
      let there : callee_in (slice_get f.declaration.members m) ≡ callee_by f.signature.code f.signature.form = ap callee_in f.stands in
      let form_is = ap (callee_by f.signature.code) f.is_so in
      some_is _ _ (sym e ∙ found ∙ there ∙ form_is)

  after_good : (d m : ℕ) (receiver : Receiver) (f : IsFunction cx ls d m false) (cs : List Core) → Receives cx ls (out-Receiver receiver) d → Arguments cx ls cs f.parameters
      → (o : Option Ty) → f.result ≡ o → IsGood cx ls (after_call (invocation f.signature.code receiver cs) o)
  after_good d m receiver f cs g as' None e = Invokes.uses (HasMember.member m f.declared f.stands) refl (Uses.function (subst (λ (x : Option Ty). f.signature.form ≡ form.Function f.parameters x false) e f.is_so)) g as'
  after_good d m receiver f cs g as' (Some t) e =
      has_by cx ls _ (outs-Invoke _) (Has.invoke (Invokes.uses (HasMember.member m f.declared f.stands) refl (Uses.function (subst (λ (x : Option Ty). f.signature.form ≡ form.Function f.parameters x false) e f.is_so)) g as'))

  pub function_good : (d m : ℕ) (receiver : Receiver) (f : IsFunction cx ls d m false) (used : Callee) (cs : List Core) → callee_at cx.table d m ≡ Some used → Receives cx ls (out-Receiver receiver) d
      → Arguments cx ls cs used.parameters → IsGood cx ls (function_called receiver used cs)
  function_good d m receiver f used cs e g as' =
      let same = callee_is d m false f used e in
      subst (λ (u : Callee). IsGood cx ls (function_called receiver u cs)) (sym same) (after_good d m receiver f cs g (subst (λ (u : Callee). Arguments cx ls cs u.parameters) same as') f.result refl)

  pub mutating_good : (p : Target) (t : Ty) (d m : ℕ) (f : IsFunction cx ls d m true) (used : Callee) (cs : List Core) → callee_at cx.table d m ≡ Some used → Places cx ls p t → named_at (out-Ty t) ≡ Some d
      → Arguments cx ls cs used.parameters → IsGood cx ls (mutating_called p used cs)
  mutating_good p t d m f used cs e g n as' =
      let same = callee_is d m true f used e in
      subst (λ (u : Callee). IsGood cx ls (mutating_called p u cs)) (sym same)
      (change_good (change p (calls.Mutate f.signature.code cs)) f.result (Changes.changes {c = change p (calls.Mutate f.signature.code cs)} g
      (by_call _ (outs-Mutate f.signature.code cs) (Calls.mutate n (HasMember.member m f.declared f.stands) refl (Uses.function f.is_so) (subst (λ (u : Callee). Arguments cx ls cs u.parameters) same as')))))
