-- The views with content, and what a called name stands for, are well typed.
use Rattle.std.specs.Prelude.{◌≡◌, ℕ, Bool, true, false, List, [], Option, Some, None, is_some, slice_get, if◌then◌else◌}
use Rattle.std.proofs.Common.{refl, sym, subst}
use Rattle.align_guides.specs.declared.Axis.{Axis}
use Rattle.align_guides.specs.declared.Axis.TheVariants as axis
use Rattle.swift_ast.specs.declared.tree.Arg.{Arg}
use Rattle.swift_ast.specs.declared.tree.Closure.{out-Closure}
use Rattle.swift_ast.specs.declared.tree.ClosureParam.{ClosureParam}
use Rattle.swift_ast.specs.declared.tree.ClosureParam.TheVariants as param
use Rattle.swift_ast.specs.declared.tree.Expr.{Expr}
use Rattle.swift_ast.specs.declared.tree.Selector.{Selector}
use Rattle.swift_ast.specs.declared.tree.Stmt.{Stmt}
use Rattle.swift_ast.specs.declared.tree.Tail.{Tail}
use Rattle.swift_core.specs.Context as cores
use Rattle.swift_core.specs.Typing.{Given, Has, Items, IsLabel, PlacesStand, Repeats, Takes, View}
use Rattle.swift_core.specs.declared.item.CoreItem.{CoreItem}
use Rattle.swift_core.specs.declared.item.CoreItem.TheViews as item_view
use Rattle.swift_core.specs.declared.item.ForEachOver.TheVariants as each
use Rattle.swift_core.specs.declared.item.Label.{out-Label}
use Rattle.swift_core.specs.declared.item.Label.TheVariants as label
use Rattle.swift_core.specs.declared.item.ViewCall.{ViewCall}
use Rattle.swift_core.specs.declared.table.Declaration.{Declaration}
use Rattle.swift_core.specs.declared.term.Core.{Core, out-Core}
use Rattle.swift_core.specs.declared.ty.Ty.TheVariants as ty
use Rattle.type_base.specs.Context.{Context}
use Rattle.type_base.specs.Names.{IsDeclaration, declaration_of, declaration_exact, local_of, own_of}
use Rattle.type_base.specs.declared.scope.LocalKind.TheVariants as local_kind
use Rattle.modifier_rules.specs.Parts.{Word, sole_expr}
use Rattle.modifier_rules.specs.declared.names.Slot.TheVariants as slot
use Rattle.view_rules.specs.Builds.{Blocks, ItemsRule, local, with_item}
use Rattle.view_rules.specs.Forms.{behind_dollar, view_named}
use Rattle.view_rules.specs.Views.{TitledButton, LabelledButton, button_rule, TitledToggle, LabelledToggle, Spaced, StackCall, GroupCall, EachValue, EachPlace, each_rule, EachClosure, EachCall, BuiltInWith, BuiltInAlone, BuiltIn, Meaning, Hidden, Member, Declared, Builtin, builtin_meaning, outer_meaning, free_meaning, meaning, builtin_of, MeantAlone, NamedBy, NamedCall, NamedUse}
use Rattle.view_rules.specs.declared.names.ViewName.{ViewName}
use Rattle.view_rules.specs.declared.names.ViewName.TheVariants as view
use Rattle.expr_cores.specs.Contexts.{core_context, core_locals, Fits}
use Rattle.value_cores.specs.Values.{wanted_good, binding_good}
use Rattle.stmt_cores.specs.Conditions as conditions
use Rattle.stmt_cores.specs.Conditions.{one_more}
use Rattle.modifier_cores.specs.Values.{slotted_good, may_take}
use Rattle.view_cores.specs.Blocks.{ViewIsSelf, Grown, ItemsGood, front_then, between_then, places_more, places_valued, acts_good}
use Rattle.view_cores.specs.Places.{binds_view}
use Rattle.view_cores.specs.Repeats as repeats
use Rattle.view_cores.specs.Simple.{still_good, IsView, by_view, by_label, simple_good, custom_good, function_good, property_good, truth_good}

module _ (all : Blocks) (cx : Context) (fit : Fits cx.table) where
  -- ---- buttons and toggles

  text_label : (c : Core) → Has (core_context cx all) (core_locals cx.locals) (out-Core c) ty.Text → IsLabel (core_context cx all) (core_locals cx.locals) (out-Label (label.Text c))
  text_label c h = by_label all cx fit (label.Text c) (item_view.outs-Label::Text c) (IsLabel.text_label h)

  content_label : (items : List CoreItem) → Items (core_context cx all) (core_locals cx.locals) items → IsLabel (core_context cx all) (core_locals cx.locals) (out-Label (label.Content items))
  content_label items h = by_label all cx fit (label.Content items) (item_view.outs-Content items) (IsLabel.content_label h)

  titled_button_good : (e : Expr) (tail : Tail) (bs : Blocks) (r : ViewCall × Blocks) → TitledButton e tail cx bs r → Grown all cx bs r (IsView all cx fit)
  unfolding TitledButton
  titled_button_good e tail bs r (ss, t, (c, w, (b, a, q))) =
      let g = acts_good all cx ss bs b fit a in
      subst (λ (y : ViewCall × Blocks). Grown all cx bs y (IsView all cx fit)) (sym q)
      (g.0, λ f. by_view all cx fit _ (item_view.outs-Button b.0 (label.Text c)) (View.button (g.1 f) (text_label c (wanted_good e ty.Text all cx c fit w))), g.2)

  titled_toggle_good : (args : List Arg) (r : ViewCall) → TitledToggle args cx r → IsView all cx fit r
  unfolding TitledToggle
  titled_toggle_good args r (x, t, (c, w, (p, b, q))) =
      subst (IsView all cx fit) (sym q)
      (by_view all cx fit _ (item_view.outs-Toggle p (label.Text c)) (View.toggle_view (truth_good all cx fit x.1 p b) (text_label c (wanted_good x.0 ty.Text all cx c fit w))))

  -- ---- stacks

  spaced_good : (a : Axis) (args : List Arg) (s : Option Core × List Arg) → Spaced a args cx s → Takes (core_context cx all) (core_locals cx.locals) s.0 ty.Int
  spaced_good axis.Z args s q = subst (λ (y : Option Core × List Arg). Takes (core_context cx all) (core_locals cx.locals) y.0 ty.Int) (sym q) (Given.left_out refl Given.none_given)
  spaced_good axis.V args s h = may_take all cx fit slot.Spacing s.0 [] [] (slotted_good all cx fit slot.Spacing args s h) Given.none_given
  spaced_good axis.H args s h = may_take all cx fit slot.Spacing s.0 [] [] (slotted_good all cx fit slot.Spacing args s h) Given.none_given

  -- ---- views without closures

  alone_good : (n : ViewName) (args : List Arg) (r : ViewCall) → BuiltInAlone n args cx r → IsView all cx fit r
  unfolding BuiltInAlone
  alone_good view.Toggle args r h = titled_toggle_good args r h
  alone_good n args r h = simple_good all cx fit n args r h

  module _ (k : ItemsRule) (good : ItemsGood k) (iv : ViewIsSelf cx) where
    labelled_button_good : (args : List Arg) (tail : Tail) (bs : Blocks) (r : ViewCall × Blocks) → LabelledButton k args tail cx bs r → Grown all cx bs r (IsView all cx fit)
    unfolding LabelledButton
    labelled_button_good args tail bs r (ss, t, (b, a, (x, h, q))) =
        let g = acts_good all cx ss.0 bs b fit a in
        let i = good ss.1 all cx b.1 x fit iv h in
        subst (λ (y : ViewCall × Blocks). Grown all cx bs y (IsView all cx fit)) (sym q) (
          front_then g.0 i.0,
          λ f. by_view all cx fit _ (item_view.outs-Button b.0 (label.Content x.0)) (View.button (g.1 (front_then i.0 f)) (content_label x.0 (i.1 f))),
          λ f stand. between_then (core_context cx all) bs b.1 x.1 (g.2 (front_then i.0 f) stand) (i.2 f stand),
        )

    button_good : (args : List Arg) (tail : Tail) (o : Option Expr) (bs : Blocks) (r : ViewCall × Blocks) → button_rule k args tail o cx bs r → Grown all cx bs r (IsView all cx fit)
    button_good args tail (Some e) bs r h = titled_button_good e tail bs r h
    button_good args tail None bs r h = labelled_button_good args tail bs r h

    labelled_toggle_good : (args : List Arg) (tail : Tail) (bs : Blocks) (r : ViewCall × Blocks) → LabelledToggle k args tail cx bs r → Grown all cx bs r (IsView all cx fit)
    unfolding LabelledToggle
    labelled_toggle_good args tail bs r (e, s, (ss, t, (p, b, (x, h, q)))) =
        let i = good ss all cx bs x fit iv h in
        subst (λ (y : ViewCall × Blocks). Grown all cx bs y (IsView all cx fit)) (sym q)
        (i.0, λ f. by_view all cx fit _ (item_view.outs-Toggle p (label.Content x.0)) (View.toggle_view (truth_good all cx fit e p b) (content_label x.0 (i.1 f))), i.2)

    stack_good : (a : Axis) (args : List Arg) (tail : Tail) (bs : Blocks) (r : ViewCall × Blocks) → StackCall k a args tail cx bs r → Grown all cx bs r (IsView all cx fit)
    unfolding StackCall
    stack_good a args tail bs r (l, al, (s, sp, (e, (ss, t, (x, h, q))))) =
        let i = good ss all cx bs x fit iv h in
        subst (λ (y : ViewCall × Blocks). Grown all cx bs y (IsView all cx fit)) (sym q)
        (i.0, λ f. by_view all cx fit _ (item_view.outs-Stack a l.0 s.0 x.0) (View.stack (spaced_good a l.1 s sp) (i.1 f)), i.2)

    group_good : (args : List Arg) (tail : Tail) (bs : Blocks) (r : ViewCall × Blocks) → GroupCall k args tail cx bs r → Grown all cx bs r (IsView all cx fit)
    unfolding GroupCall
    group_good args tail bs r (e, (ss, t, (x, h, q))) =
        let i = good ss all cx bs x fit iv h in
        subst (λ (y : ViewCall × Blocks). Grown all cx bs y (IsView all cx fit)) (sym q)
        (i.0, λ f. by_view all cx fit _ (item_view.outs-Group x.0) (View.group (i.1 f)), i.2)

    -- ---- ForEach

    each_value_good : (e : Expr) (id : Option Selector) (w : Word) (ss : List Stmt) (bs : Blocks) (r : ViewCall × Blocks) → EachValue k e id w ss cx bs r → Grown all cx bs r (IsView all cx fit)
    unfolding EachValue
    each_value_good e id w ss bs r (o, g, (over, d, (x, h, q))) =
        let l = local w o.1 local_kind.Let in
        let i = good ss all (with_item cx l) bs x fit iv h in
        subst (λ (y : ViewCall × Blocks). Grown all cx bs y (IsView all cx fit)) (sym q) (
          i.0,
          λ f. by_view all cx fit _ (item_view.outs-ForEach over x.0) (View.for_each_view
              (repeats.over_good (core_context cx all) (core_locals cx.locals) o.0 o.1 id over (conditions.over_good all e cx o fit g) d)
              (subst (λ (ls : List cores.Local). Items (core_context cx all) ls x.0) (one_more cx.locals l) (i.1 f))),
          λ f stand. i.2 f
              (subst (λ (ls : List cores.Local). PlacesStand (core_context cx all) ls) (sym (one_more cx.locals l)) (places_valued (core_context cx all) (core_locals cx.locals) o.1 stand)),
        )

    each_place_good : (e : Expr) (id : Option Selector) (w : Word) (ss : List Stmt) (bs : Blocks) (r : ViewCall × Blocks) → EachPlace k e id w ss cx bs r → Grown all cx bs r (IsView all cx fit)
    unfolding EachPlace
    each_place_good e id w ss bs r (p, b, (t, el, (j, d, (x, h, q)))) =
        let l = local (behind_dollar w) t local_kind.Place in
        let i = good ss all (with_item cx l) bs x fit iv h in
        subst (λ (y : ViewCall × Blocks). Grown all cx bs y (IsView all cx fit)) (sym q) (
          i.0,
          λ f. by_view all cx fit _ (item_view.outs-ForEach (each.Places p.0 j) x.0) (View.for_each_view
              (Repeats.places (binding_good e all cx p fit b) el (repeats.id_good (core_context cx all) (core_locals cx.locals) t id j d))
              (subst (λ (ls : List cores.Local). Items (core_context cx all) ls x.0) (one_more cx.locals l) (i.1 f))),
          λ f stand. i.2 f
              (subst (λ (ls : List cores.Local). PlacesStand (core_context cx all) ls) (sym (one_more cx.locals l))
              (places_more (core_context cx all) (core_locals cx.locals) (cores.Local.placed t)
              (λ u same. binds_view (core_context cx all) (core_locals cx.locals) p.0 p.1 stand (binding_good e all cx p fit b)) stand)),
        )

    each_param_good : (e : Expr) (id : Option Selector) (ss : List Stmt) (p : ClosureParam) (bs : Blocks) (r : ViewCall × Blocks) → each_rule k e id ss p cx bs r → Grown all cx bs r (IsView all cx fit)
    each_param_good e id ss (param.Name w) bs r h = each_value_good e id w ss bs r h
    each_param_good e id ss (param.Dollar w) bs r h = each_place_good e id w ss bs r h

    each_good : (args : List Arg) (tail : Tail) (bs : Blocks) (r : ViewCall × Blocks) → EachCall k args tail cx bs r → Grown all cx bs r (IsView all cx fit)
    unfolding EachCall EachClosure
    each_good args tail bs r (a, ea, (c, ec, (p, ep, h))) = each_param_good a.0 a.1 (out-Closure c).body p bs r h

    -- ---- a view by its name

    with_good : (n : ViewName) (args : List Arg) (tail : Tail) (bs : Blocks) (r : ViewCall × Blocks) → BuiltInWith k n args tail cx bs r → Grown all cx bs r (IsView all cx fit)
    unfolding BuiltInWith
    with_good view.Button args tail bs r h = button_good args tail (sole_expr args) bs r h
    with_good view.Toggle args tail bs r h = labelled_toggle_good args tail bs r h
    with_good (view.Stack a) args tail bs r h = stack_good a args tail bs r h
    with_good view.Group args tail bs r h = group_good args tail bs r h
    with_good view.ForEach args tail bs r h = each_good args tail bs r h
    with_good n args tail bs r h = absurd h

    built_in_good : (n : ViewName) (args : List Arg) (tail : Option Tail) (bs : Blocks) (r : ViewCall × Blocks) → BuiltIn k n args tail cx bs r → Grown all cx bs r (IsView all cx fit)
    built_in_good n args (Some tail) bs r h = with_good n args tail bs r h
    built_in_good n args None bs r h = still_good (BuiltInAlone n args) (IsView all cx fit) all cx bs r (alone_good n args) h

-- a name that stands for a declaration stands for one of the table
abbrev IsMeant : Context → Meaning → Type 0
IsMeant cx (Declared n d) = slice_get cx.table.declarations n ≡ Some d
IsMeant cx m = Unit {0}

builtin_meant : (cx : Context) (o : Option ViewName) → IsMeant cx (elim o [ Some n ↦ Builtin n | None ↦ Hidden ])
builtin_meant cx (Some n) = tt
builtin_meant cx None = tt

outer_meant : (cx : Context) (w : Word) (o : Option (ℕ × Declaration)) → declaration_of w cx.table ≡ o → IsMeant cx (elim o [ Some d ↦ Declared d.0 d.1 | None ↦ builtin_meaning w ])
unfolding IsDeclaration
outer_meant cx w (Some d) e = ((declaration_exact w cx.table d).0 e).1
outer_meant cx w None e = builtin_meant cx (view_named w)

free_meant : (cx : Context) (w : Word) (b : Bool) → IsMeant cx (if b then Member else outer_meaning w cx)
free_meant cx w true = tt
free_meant cx w false = outer_meant cx w (declaration_of w cx.table) refl

bare_meant : (cx : Context) (w : Word) (b : Bool) → IsMeant cx (if b then Hidden else free_meaning w cx)
bare_meant cx w true = tt
bare_meant cx w false = free_meant cx w (is_some (own_of w cx))

meant : (cx : Context) (w : Word) (own : Bool) → IsMeant cx (meaning own w cx)
meant cx w true = tt
meant cx w false = bare_meant cx w (is_some (local_of w cx))

module _ (all : Blocks) (cx : Context) (fit : Fits cx.table) (iv : ViewIsSelf cx) where
  meant_alone_good : (m : Meaning) (w : Word) (args : List Arg) (tail : Option Tail) (r : ViewCall) → IsMeant cx m → MeantAlone m w args tail cx r → IsView all cx fit r
  unfolding MeantAlone
  meant_alone_good Member w args None r i h = function_good all cx fit iv w args r h
  meant_alone_good (Declared n d) w args None r i h = custom_good all cx fit n d args r i h
  meant_alone_good Hidden w args tail r i h = absurd h
  meant_alone_good (Builtin n) w args tail r i h = absurd h
  meant_alone_good Member w args (Some tail) r i h = absurd h
  meant_alone_good (Declared n d) w args (Some tail) r i h = absurd h

  -- a name that is not called
  pub use_good : (own : Bool) (w : Word) (r : ViewCall) → NamedUse own w cx r → IsView all cx fit r
  unfolding NamedUse
  use_good own w r (e, h) = property_good all cx fit iv w r h

  module _ (k : ItemsRule) (good : ItemsGood k) where
    named_by_good : (o : Option ViewName) (m : Meaning) (w : Word) (args : List Arg) (tail : Option Tail) (bs : Blocks) (r : ViewCall × Blocks) → IsMeant cx m → NamedBy k o m w args tail cx bs r
        → Grown all cx bs r (IsView all cx fit)
    named_by_good (Some n) m w args tail bs r i h = built_in_good all cx fit k good iv n args tail bs r h
    named_by_good None m w args tail bs r i h = still_good (MeantAlone m w args tail) (IsView all cx fit) all cx bs r (λ x. meant_alone_good m w args tail x i) h

    -- a name that is called
    pub call_good : (own : Bool) (w : Word) (args : List Arg) (tail : Option Tail) (bs : Blocks) (r : ViewCall × Blocks) → NamedCall k own w args tail cx bs r → Grown all cx bs r (IsView all cx fit)
    unfolding NamedCall
    call_good own w args tail bs r h = named_by_good (builtin_of (meaning own w cx)) (meaning own w cx) w args tail bs r (meant cx w own) h
