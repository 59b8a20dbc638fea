-- The views without content are well typed.
use Rattle.std.specs.Prelude.{◌≡◌, ℕ, true, false, List, [], Option, Some, None, slice_get}
use Rattle.std.proofs.Common.{refl, sym, ap, subst, ◌∙◌}
use Rattle.swift_ast.specs.declared.tree.Arg.{Arg}
use Rattle.swift_ast.specs.declared.tree.Expr.{Expr}
use Rattle.swift_core.specs.Context.{Itself, HasMember, OwnMember, parts_of}
use Rattle.swift_core.specs.Typing.{Given, Binds, Arguments, Fillings, GivesViews, View, ViewForm, IsLabel, LabelForm}
use Rattle.swift_core.specs.declared.item.CoreItem.TheViews as item_view
use Rattle.swift_core.specs.declared.item.Label.{Label, out-Label}
use Rattle.swift_core.specs.declared.item.ViewCall.{ViewCall, out-ViewCall}
use Rattle.swift_core.specs.declared.table.Declaration.{Declaration}
use Rattle.swift_core.specs.declared.table.Kind.{Kind}
use Rattle.swift_core.specs.declared.table.Kind.TheVariants as kind
use Rattle.swift_core.specs.declared.table.ParamSignature.{ParamSignature}
use Rattle.swift_core.specs.declared.table.Signature.{Signature}
use Rattle.swift_core.specs.declared.table.SignatureForm.{SignatureForm}
use Rattle.swift_core.specs.declared.table.SignatureForm.TheVariants as form
use Rattle.swift_core.specs.declared.term.Target.{Target}
use Rattle.swift_core.specs.declared.ty.Ty.{Ty}
use Rattle.swift_core.specs.declared.ty.Ty.TheVariants as ty
use Rattle.type_base.specs.Claims.{Then, some_is}
use Rattle.type_base.specs.Context.{Context}
use Rattle.type_base.specs.Names.{IsOwn, IsOwner, IsMember, owner_exact}
use Rattle.modifier_rules.specs.Parts.{Word}
use Rattle.modifier_rules.specs.declared.names.Slot.TheVariants as slot
use Rattle.view_rules.specs.Builds.{Blocks}
use Rattle.view_rules.specs.Forms.{is_view, in_view, gives_views, builder_parameters}
use Rattle.view_rules.specs.Simple.{TextCall, ImageCall, SpacerCall, SimpleCall, CustomCall, FunctionCall, PropertyUse, TruthPlace}
use Rattle.view_rules.specs.Views.{Still}
use Rattle.view_rules.specs.declared.names.ViewName.{ViewName}
use Rattle.view_rules.specs.declared.names.ViewName.TheVariants as view
use Rattle.expr_cores.specs.Contexts.{core_context, core_locals, itself_of, Fits}
use Rattle.value_cores.specs.Values.{wanted_good, binding_good, fillings_good, arguments_good}
use Rattle.modifier_cores.specs.Values.{slotted_good, may_take}
use Rattle.view_cores.specs.Blocks.{ViewIsSelf, Grown, front_same, between_same}

-- a part without blocks
pub still_good : {A : Type 0} (R : Context → A → Type 0) (P : A → Type 0) (all : Blocks) (cx : Context) (bs : Blocks) (r : A × Blocks) → ((x : A) → R cx x → P x) → Still R cx bs r → Grown all cx bs r P
still_good {A = A} R P all cx bs r good (x, h, q) = subst (λ (y : A × Blocks). Grown all cx bs y P) (sym q) (front_same bs, λ f. good x h, λ f stand. between_same (core_context cx all) bs)

-- ---- members that give views

view_kind : (k : Kind) → is_view k ≡ true → k ≡ kind.View
view_kind kind.View e = refl
view_kind (kind.Data i) e = cc
view_kind (kind.Enum i n) e = cc
view_kind kind.App e = cc
view_kind (kind.Key k) e = cc

property_form : (f : SignatureForm) → gives_views f ≡ true → f ≡ form.BuilderProperty
property_form form.BuilderProperty e = refl
property_form _ e = cc

function_form : (f : SignatureForm) (ps : List ParamSignature) → builder_parameters f ≡ Some ps → f ≡ form.BuilderFunction ps
function_form (form.BuilderFunction qs) ps e = ap form.BuilderFunction (some_is qs ps e)
function_form _ ps e = cc

-- the owner of what stands in a view is a view
owned_view : (cx : Context) (owner : ℕ × Declaration) → in_view cx ≡ true → IsOwner cx owner → is_view owner.1.kind ≡ true
owned_view cx owner iv o =
    let e = (owner_exact cx owner).1 o in
    sym (ap (λ (x : Option (ℕ × Declaration)). elim x [ Some d ↦ is_view d.1.kind | None ↦ false ]) e) ∙ iv

module _ (all : Blocks) (cx : Context) (fit : Fits cx.table) where
  abbrev pub IsView : ViewCall → Type 0
  IsView v = View (core_context cx all) (core_locals cx.locals) (out-ViewCall v)

  -- a view is well typed by its level
  pub by_view : {l : ViewForm} (v : ViewCall) → out-ViewCall v ≡ l → View (core_context cx all) (core_locals cx.locals) l → IsView v
  by_view v e h = subst (λ (l : ViewForm). View (core_context cx all) (core_locals cx.locals) l) (sym e) h

  pub by_label : {l : LabelForm} (v : Label) → out-Label v ≡ l → IsLabel (core_context cx all) (core_locals cx.locals) l → IsLabel (core_context cx all) (core_locals cx.locals) (out-Label v)
  by_label v e h = subst (λ (l : LabelForm). IsLabel (core_context cx all) (core_locals cx.locals) l) (sym e) h

  text_good : (args : List Arg) (r : ViewCall) → TextCall args cx r → IsView r
  unfolding TextCall
  text_good args r (e, a, (c, w, q)) = subst IsView (sym q) (by_view _ (item_view.outs-ViewCall::Text c) (View.text_view (wanted_good e ty.Text all cx c fit w)))

  image_good : (args : List Arg) (r : ViewCall) → ImageCall args cx r → IsView r
  unfolding ImageCall
  image_good args r (e, a, (c, w, q)) = subst IsView (sym q) (by_view _ (item_view.outs-Image c) (View.image (wanted_good e ty.Text all cx c fit w)))

  spacer_good : (args : List Arg) (r : ViewCall) → SpacerCall args cx r → IsView r
  unfolding SpacerCall
  spacer_good args r (x, s, (e, q)) =
      subst IsView (sym q)
      (by_view _ (item_view.outs-Spacer x.0) (View.spacer (may_take all cx fit slot.MinLength x.0 [] [] (slotted_good all cx fit slot.MinLength args x s) Given.none_given)))

  pub simple_good : (n : ViewName) (args : List Arg) (r : ViewCall) → SimpleCall n args cx r → IsView r
  unfolding SimpleCall
  simple_good view.Text args r h = text_good args r h
  simple_good view.Image args r h = image_good args r h
  simple_good view.Spacer args r h = spacer_good args r h
  simple_good view.Rectangle args r (e, q) = subst IsView (sym q) (by_view _ item_view.outs-Rectangle View.rectangle)
  simple_good view.Empty args r (e, q) = subst IsView (sym q) (by_view _ item_view.outs-Empty View.empty)
  simple_good _ args r h = absurd h

  -- a custom view
  pub custom_good : (n : ℕ) (d : Declaration) (args : List Arg) (r : ViewCall) → slice_get cx.table.declarations n ≡ Some d → CustomCall n d args cx r → IsView r
  unfolding CustomCall
  custom_good n d args r sd (v, (fs, h, q)) =
      let g = fillings_good n args all cx fs fit h in
      let same : g.0 ≡ d = some_is g.0 d (sym g.1 ∙ sd) in
      subst IsView (sym q) (by_view _ (item_view.outs-Custom n fs) (View.custom sd (view_kind d.kind v)
      (subst (λ (x : Declaration). Fillings (core_context cx all) (core_locals cx.locals) fs (parts_of x.members)) same g.2)))

  module _ (iv : ViewIsSelf cx) where
    own_member : (owner : ℕ × Declaration) (m : ℕ × Signature) → IsOwner cx owner → slice_get owner.1.members m.0 ≡ Some m.1 → OwnMember (core_context cx all) m.1
    unfolding IsOwner
    own_member owner m (o, sd) sm = (owner.0, o, HasMember.member m.0 sd sm)

    self_is : (owner : ℕ × Declaration) → in_view cx ≡ true → IsOwner cx owner → itself_of cx.stance ≡ Itself.a_view
    unfolding IsOwner
    self_is owner e (o, sd) = ap itself_of (iv owner.0 owner.1 o sd (owned_view cx owner e (o, sd)))

    -- the use of a function that gives views
    pub function_good : (w : Word) (args : List Arg) (r : ViewCall) → FunctionCall w args cx r → IsView r
    unfolding FunctionCall IsOwn IsMember Then
    function_good w args r (e, (m, (owner, o, (g, sm)), (ps, bp, (cs, a, q)))) =
        subst IsView (sym q) (by_view _ (item_view.outs-Builder m.1.code cs)
        (View.builder (self_is owner e o) (own_member owner m o sm) refl (GivesViews.by_builder_function (function_form m.1.form ps bp)) (arguments_good ps args all cx cs fit a)))

    -- the use of a property that gives views
    pub property_good : (w : Word) (r : ViewCall) → PropertyUse w cx r → IsView r
    unfolding PropertyUse IsOwn IsMember Then
    property_good w r (e, (m, (owner, o, (g, sm)), (p, q))) =
        subst IsView (sym q) (by_view _ (item_view.outs-Builder m.1.code [])
        (View.builder (self_is owner e o) (own_member owner m o sm) refl (GivesViews.by_builder_property (property_form m.1.form p)) Arguments.no_arguments))

  -- the place of a truth value
  pub truth_good : (e : Expr) (p : Target) → TruthPlace e cx p → Binds (core_context cx all) (core_locals cx.locals) p ty.Bool
  unfolding TruthPlace
  truth_good e p (x, b, (s, q)) =
      subst (λ (y : Target). Binds (core_context cx all) (core_locals cx.locals) y ty.Bool) (sym q)
      (subst (λ (t : Ty). Binds (core_context cx all) (core_locals cx.locals) x.0 t) s (binding_good e all cx x fit b))
