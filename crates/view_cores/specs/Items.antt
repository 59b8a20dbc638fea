-- View expressions and the items of builders are well typed.
use Rattle.std.specs.Prelude.{◌≡◌, ℕ, zero, suc, Bool, true, false, List, [], ◌∷◌, ◌++◌, length, ◌==◌, map, Option, Some, None, if◌then◌else◌}
use Rattle.std.proofs.Common.{refl, sym, ap, subst, ◌∙◌, arith}
use Rattle.swift_ast.specs.declared.tree.Arg.{Arg}
use Rattle.swift_ast.specs.declared.tree.Arm.{Arm, out-Arm}
use Rattle.swift_ast.specs.declared.tree.Expr.{Expr}
use Rattle.swift_ast.specs.declared.tree.Part.{Part}
use Rattle.swift_ast.specs.declared.tree.Stmt.{Stmt}
use Rattle.swift_ast.specs.declared.tree.SwitchCase.{SwitchCase}
use Rattle.swift_ast.specs.declared.tree.Tail.{Tail}
use Rattle.swift_ast.specs.declared.type_name.TypeName.{TypeName}
use Rattle.swift_core.specs.Context as cores
use Rattle.swift_core.specs.Context.{with_local}
use Rattle.swift_core.specs.Typing as typing
use Rattle.swift_core.specs.Typing.{Covers, Has, Items, Item, ItemArms, ItemCases, PlacesStand}
use Rattle.swift_core.specs.declared.item.CoreItem.{CoreItem, out-CoreItem}
use Rattle.swift_core.specs.declared.item.CoreItem.TheVariants as item
use Rattle.swift_core.specs.declared.item.CoreItem.TheViews as item_view
use Rattle.swift_core.specs.declared.item.ItemArm.{ItemArm, out-roll-ItemArm}
use Rattle.swift_core.specs.declared.item.ItemCase.{ItemCase, out-roll-ItemCase}
use Rattle.swift_core.specs.declared.stmt.Condition.{Condition}
use Rattle.swift_core.specs.declared.term.Core.{Core, out-Core}
use Rattle.swift_core.specs.declared.ty.Ty.{Ty}
use Rattle.type_base.specs.Claims.{some_is}
use Rattle.type_base.specs.Context.{Context}
use Rattle.type_base.specs.Scopes.{entered}
use Rattle.type_base.specs.declared.scope.Local.{Local}
use Rattle.case_rules.specs.Cases.{Label}
use Rattle.case_rules.specs.Scopes.{with_any, with_locals}
use Rattle.modifier_rules.specs.Parts.{Word}
use Rattle.view_rules.specs.Builds.{Blocks, BuildRule, ItemsRule, EachBuild}
use Rattle.view_rules.specs.Forms.{Head, Named, Inside, Nothing, head_of}
use Rattle.view_rules.specs.Items.{Viewed, call_part, NamedView, HeadRule, levels, ViewTo, Made, LetValue, LetItem, ArmRule, ElseRule, IfItem, item_case, case_body, CaseItems, all_cases, SwitchItem, ViewItem, ItemForm, LetForm, IfForm, SwitchForm, ViewForm, NoForm, item_form, ItemRule, ListRule, ItemsTo, Built}
use Rattle.view_rules.specs.Scenes.{Scene}
use Rattle.expr_cores.specs.Contexts.{core_context, core_locals, Fits}
use Rattle.value_cores.specs.Values.{value_good, wanted_good}
use Rattle.stmt_cores.specs.Cases.{subject_good}
use Rattle.stmt_cores.specs.Conditions.{local_of, one_more, fits_any, conditions_good}
use Rattle.view_cores.specs.Blocks.{ViewIsSelf, Between, Grown, ItemsGood, front_same, front_then, between_same, between_then}
use Rattle.view_cores.specs.Modifiers.{modifiers_good}
use Rattle.view_cores.specs.Places.{places_within, places_behind}
use Rattle.view_cores.specs.Simple.{still_good, IsView}
use Rattle.view_cores.specs.Views.{call_good, use_good}

-- ---- parts in order

-- each element has the property
pub data Every {Y : Type 0} (P : Y → Type 0) : List Y → Type 0 where
  every_none : Every P []
  every_more : {y : Y} {ys : List Y} → P y → Every P ys → Every P (y ∷ ys)

each_good : {X Y : Type 0} (R : X → BuildRule Y) (P : Y → Type 0) (all : Blocks) (cx : Context) → ((x : X) (bs : Blocks) (r : Y × Blocks) → R x cx bs r → Grown all cx bs r P)
    → (xs : List X) (bs : Blocks) (r : List Y × Blocks) → EachBuild R xs cx bs r → Grown all cx bs r (Every P)
unfolding EachBuild
each_good {Y = Y} R P all cx good [] bs r q = subst (λ (y : List Y × Blocks). Grown all cx bs y (Every P)) (sym q) (front_same bs, λ f. Every.every_none, λ f stand. between_same (core_context cx all) bs)
each_good {Y = Y} R P all cx good (x ∷ xs) bs r (y, h, (rest, t, q)) =
    let g = good x bs y h in
    let next = each_good R P all cx good xs y.1 rest t in
    subst (λ (z : List Y × Blocks). Grown all cx bs z (Every P)) (sym q) (
      front_then g.0 next.0,
      λ f. Every.every_more (g.1 (front_then next.0 f)) (next.1 f),
      λ f stand. between_then (core_context cx all) bs y.1 rest.1 (g.2 (front_then next.0 f) stand) (next.2 f stand),
    )

each_length : {X Y : Type 0} (R : X → BuildRule Y) (cx : Context) (xs : List X) (bs : Blocks) (r : List Y × Blocks) → EachBuild R xs cx bs r → length r.0 ≡ length xs
unfolding EachBuild
each_length {Y = Y} R cx [] bs r q = ap (λ (y : List Y × Blocks). length y.0) q
each_length {Y = Y} R cx (x ∷ xs) bs r (y, h, (rest, t, q)) = ap (λ (z : List Y × Blocks). length z.0) q ∙ ap suc (each_length R cx xs y.1 rest t)

-- an item that adds no local
abbrev plain : CoreItem → Blocks → Made × Blocks
plain i bs = ((i, None), bs)

-- ---- the premises with one more local

self_any : (cx : Context) (o : Option Local) → ViewIsSelf cx → ViewIsSelf (with_any cx o)
self_any cx None iv = iv
self_any cx (Some l) iv = iv

-- what stands behind an item, in the context of the item
after_it : (all : Blocks) (cx : Context) (o : Option Local) (items : List CoreItem) → Items (core_context (with_any cx o) all) (core_locals (with_any cx o).locals) items
    → Items (core_context cx all) (with_local (core_locals cx.locals) (local_of o)) items
after_it all cx None items h = h
after_it all cx (Some l) items h = subst (λ (ls : List cores.Local). Items (core_context cx all) ls items) (one_more cx.locals l) h

-- and the blocks of what stands behind an item
behind_it : (all : Blocks) (cx : Context) (o : Option Local) (a b : Blocks)
    → (PlacesStand (core_context (with_any cx o) all) (core_locals (with_any cx o).locals) → Between (core_context (with_any cx o) all) a b)
    → PlacesStand (core_context cx all) (with_local (core_locals cx.locals) (local_of o)) → Between (core_context cx all) a b
behind_it all cx None a b h stand = h stand
behind_it all cx (Some l) a b h stand = h (subst (λ (ls : List cores.Local). PlacesStand (core_context cx all) ls) (sym (one_more cx.locals l)) stand)

patterns_stay : (ls : List Label) (bodies : List (List CoreItem)) → length ls ≡ length bodies → map (λ (c : ItemCase). c.patterns) (all_cases ls bodies) ≡ ls
patterns_stay [] [] n = refl
patterns_stay [] (b ∷ bodies) n = absurd (omega arith)
patterns_stay (l ∷ ls) [] n = absurd (omega arith)
patterns_stay (l ∷ ls) (b ∷ bodies) n =
    let o = ap (λ x. x.patterns) (out-roll-ItemCase (record { patterns = l; body = b })) in
    let rest = patterns_stay ls bodies (omega arith) in
    λ i. o i ∷ rest i

cases_are : (b : Bool) (x y : List ItemCase) → ◌≡◌ {A = Option (List ItemCase)} (if b then Some x else None) (Some y) → x ≡ y
cases_are true x y e = some_is x y e
cases_are false x y e = cc

module _ (all : Blocks) (cx : Context) (fit : Fits cx.table) where
  -- ---- what is well typed

  abbrev pub IsViewed : Viewed → Type 0
  IsViewed v = IsView all cx fit v.0 × typing.Modifiers (core_context cx all) (core_locals cx.locals) v.1

  abbrev pub IsMade : Made → Type 0
  IsMade m = Item (core_context cx all) (core_locals cx.locals) (out-CoreItem m.0) (local_of m.1)

  by_item : {l : typing.ItemForm} {o : Option cores.Local} (i : CoreItem) → out-CoreItem i ≡ l → Item (core_context cx all) (core_locals cx.locals) l o
      → Item (core_context cx all) (core_locals cx.locals) (out-CoreItem i) o
  by_item {o = o} i e h = subst (λ (l : typing.ItemForm). Item (core_context cx all) (core_locals cx.locals) l o) (sym e) h

  abbrev IsArm : ItemArm → Type 0
  IsArm a = (inner : List cores.Local) × typing.Conditions (core_context cx all) (core_locals cx.locals) a.conditions inner × Items (core_context cx all) inner a.body

  arms_are : (arms : List ItemArm) → Every IsArm arms → ItemArms (core_context cx all) (core_locals cx.locals) arms
  arms_are [] Every.every_none = ItemArms.no_item_arms
  arms_are (a ∷ arms) (Every.every_more g h) = ItemArms.more_item_arms g.1 g.2 (arms_are arms h)

  case_more : (l : Label) (b : List CoreItem) (rest : List ItemCase) → Items (core_context cx all) (core_locals cx.locals) b → ItemCases (core_context cx all) (core_locals cx.locals) rest
      → ItemCases (core_context cx all) (core_locals cx.locals) (item_case l b ∷ rest)
  case_more l b rest g h =
      let o = out-roll-ItemCase (record { patterns = l; body = b }) in
      ItemCases.more_item_cases {c = item_case l b} (subst (λ (x : List CoreItem). Items (core_context cx all) (core_locals cx.locals) x) (ap (λ x. x.body) (sym o)) g) h

  cases_good : (ls : List Label) (bodies : List (List CoreItem)) → length ls ≡ length bodies → Every (Items (core_context cx all) (core_locals cx.locals)) bodies
      → ItemCases (core_context cx all) (core_locals cx.locals) (all_cases ls bodies)
  cases_good [] [] n Every.every_none = ItemCases.no_item_cases
  cases_good (l ∷ ls) (b ∷ bodies) n (Every.every_more g h) = case_more l b (all_cases ls bodies) g (cases_good ls bodies (omega arith) h)
  cases_good [] (b ∷ bodies) n h = absurd (omega arith)
  cases_good (l ∷ ls) [] n h = absurd (omega arith)

  -- ---- `let`

  value_is : (name : Option TypeName) (e : Expr) (x : Core × Ty) → LetValue name e cx x → Has (core_context cx all) (core_locals cx.locals) (out-Core x.0) x.1
  unfolding LetValue
  value_is None e x h = value_good e all cx None x fit h
  value_is (Some name) e x (t, n, (c, w, q)) = subst (λ (y : Core × Ty). Has (core_context cx all) (core_locals cx.locals) (out-Core y.0) y.1) (sym q) (wanted_good e t all cx c fit w)

  let_good : (w : Word) (name : Option TypeName) (e : Expr) (r : Made) → LetItem w name e cx r → IsMade r
  unfolding LetItem
  let_good w name e r (x, v, (n, q)) = subst IsMade (sym q) (by_item (item.Local x.0) (item_view.outs-Local x.0) (Item.declare_item (value_is name e x v)))

  module _ (k : ItemsRule) (good : ItemsGood k) (iv : ViewIsSelf cx) where
    -- ---- view expressions

    named_good : (own : Bool) (w : Word) (parts : List Part) (o : Option ((List Arg × Option Tail) × List Part)) (bs : Blocks) (r : Viewed × Blocks) → NamedView k own w parts o cx bs r → Grown all cx bs r IsViewed
    unfolding NamedView
    named_good own w parts (Some c) bs r (x, h, (ms, m, q)) =
        let g = call_good all cx fit iv k good own w c.0.0 c.0.1 bs x h in
        let more = modifiers_good all cx fit k good iv [] c.1 x.1 ms (λ f. typing.Modifiers.no_modifiers) m in
        subst (λ (y : Viewed × Blocks). Grown all cx bs y IsViewed) (sym q)
        (front_then g.0 more.0, λ f. (g.1 (front_then more.0 f), more.1 f), λ f stand. between_then (core_context cx all) bs x.1 ms.1 (g.2 (front_then more.0 f) stand) (more.2 f stand))
    named_good own w parts None bs r (x, h, (ms, m, q)) =
        let more = modifiers_good all cx fit k good iv [] parts bs ms (λ f. typing.Modifiers.no_modifiers) m in
        subst (λ (y : Viewed × Blocks). Grown all cx bs y IsViewed) (sym q) (more.0, λ f. (use_good all cx fit iv own w x h, more.1 f), more.2)

    head_good : (v : Expr → BuildRule Viewed) → ((e : Expr) (bs : Blocks) (r : Viewed × Blocks) → v e cx bs r → Grown all cx bs r IsViewed) → (h : Head) (bs : Blocks) (r : Viewed × Blocks)
        → HeadRule k v h cx bs r → Grown all cx bs r IsViewed
    unfolding HeadRule
    head_good v is (Named own w parts) bs r h = named_good own w parts (call_part parts) bs r h
    head_good v is (Inside e parts) bs r (x, h, (ms, m, q)) =
        let g = is e bs x h in
        let more = modifiers_good all cx fit k good iv x.0.1 parts x.1 ms (λ f. (g.1 f).1) m in
        subst (λ (y : Viewed × Blocks). Grown all cx bs y IsViewed) (sym q)
        (front_then g.0 more.0, λ f. ((g.1 (front_then more.0 f)).0, more.1 f), λ f stand. between_then (core_context cx all) bs x.1 ms.1 (g.2 (front_then more.0 f) stand) (more.2 f stand))
    head_good v is Nothing bs r h = absurd h

    view_to_good : (n : ℕ) (e : Expr) (bs : Blocks) (r : Viewed × Blocks) → ViewTo k n e cx bs r → Grown all cx bs r IsViewed
    unfolding ViewTo
    view_to_good zero e bs r h = absurd h
    view_to_good (suc n) e bs r h = head_good (ViewTo k n) (view_to_good n) (head_of e) bs r h

    view_item_good : (e : Expr) (bs : Blocks) (r : Made × Blocks) → ViewItem k e cx bs r → Grown all cx bs r IsMade
    unfolding ViewItem
    view_item_good e bs r (x, h, q) =
        let g = view_to_good levels e bs x h in
        subst (λ (y : Made × Blocks). Grown all cx bs y IsMade) (sym q)
        (g.0, λ f. let v = g.1 f in by_item (item.View x.0.0 x.0.1) (item_view.outs-View x.0.0 x.0.1) (Item.view v.0 v.1), g.2)

    -- ---- branches

    arm_good : (a : Arm) (bs : Blocks) (r : ItemArm × Blocks) → ArmRule k a cx bs r → Grown all cx bs r IsArm
    unfolding ArmRule
    arm_good a bs r (c, h, (x, b, q)) =
        let g = good (out-Arm a).body all (with_locals (entered cx) c.1) bs x fit iv b in
        let o = out-roll-ItemArm (record { conditions = c.0; body = x.0 }) in
        subst (λ (y : ItemArm × Blocks). Grown all cx bs y IsArm) (sym q) (
          g.0,
          λ f. (
            core_locals (cx.locals ++ c.1),
            subst (λ (y : List Condition). typing.Conditions (core_context cx all) (core_locals cx.locals) y (core_locals (cx.locals ++ c.1))) (ap (λ x. x.conditions) (sym o))
                (conditions_good all (out-Arm a).conditions (entered cx) c fit h),
            subst (λ (y : List CoreItem). Items (core_context cx all) (core_locals (cx.locals ++ c.1)) y) (ap (λ x. x.body) (sym o)) (g.1 f),
          ),
          λ f stand. g.2 f
              (places_within (core_context cx all) (core_locals cx.locals) c.0 (core_locals (cx.locals ++ c.1)) (conditions_good all (out-Arm a).conditions (entered cx) c fit h) stand),
        )

    if_good : (list : List Arm) (last : Option (List Stmt)) (bs : Blocks) (r : Made × Blocks) → IfItem k list last cx bs r → Grown all cx bs r IsMade
    unfolding IfItem ElseRule
    if_good list None bs r (x, h, (y, e, q)) =
        let g = each_good (ArmRule k) IsArm all cx arm_good list bs x h in
        let made = subst (λ (z : Option (List CoreItem) × Blocks). Grown all cx bs (plain (item.If x.0 z.0) z.1) IsMade) (sym e)
        (g.0, λ f. by_item (item.If x.0 None) (item_view.outs-If x.0 None) (Item.decide_item (arms_are x.0 (g.1 f))), g.2) in
        subst (λ (z : Made × Blocks). Grown all cx bs z IsMade) (sym q) made
    if_good list (Some ss) bs r (x, h, (y, (b, t, e), q)) =
        let g = each_good (ArmRule k) IsArm all cx arm_good list bs x h in
        let l = good ss all cx x.1 b fit iv t in
        let made = subst (λ (z : Option (List CoreItem) × Blocks). Grown all cx bs (plain (item.If x.0 z.0) z.1) IsMade) (sym e) (
          front_then g.0 l.0,
          λ f. by_item (item.If x.0 (Some b.0)) (item_view.outs-If x.0 (Some b.0)) (Item.decide_else_item (arms_are x.0 (g.1 (front_then l.0 f))) (l.1 f)),
          λ f stand. between_then (core_context cx all) bs x.1 b.1 (g.2 (front_then l.0 f) stand) (l.2 f stand),
        ) in
        subst (λ (z : Made × Blocks). Grown all cx bs z IsMade) (sym q) made

    switch_good : (e : Expr) (cases : List SwitchCase) (bs : Blocks) (r : Made × Blocks) → SwitchItem k e cases cx bs r → Grown all cx bs r IsMade
    unfolding SwitchItem
    switch_good e cases bs r (s, h, (x, b, (cs, c, q))) =
        let head = subject_good e cases all cx s fit h in
        let g = each_good (CaseItems k) (Items (core_context cx all) (core_locals cx.locals)) all cx (λ c some_blocks y i. good (case_body c) all cx some_blocks y fit iv i) cases bs x b in
        let n : length s.1 ≡ length x.0 = head.2.1 ∙ sym (each_length (CaseItems k) cx cases bs x b) in
        let same = cases_are (length s.1 == length x.0) (all_cases s.1 x.0) cs c in
        let made = subst (λ (z : List ItemCase). Grown all cx bs (plain (item.Switch s.0 z) x.1) IsMade) same (
          g.0,
          λ f. by_item (item.Switch s.0 (all_cases s.1 x.0)) (item_view.outs-Switch s.0 (all_cases s.1 x.0))
              (Item.switch_item head.1 (subst (λ (ps : List Label). Covers cx.table head.0 ps) (sym (patterns_stay s.1 x.0 n)) head.2.0) (cases_good s.1 x.0 n (g.1 f))),
          g.2,
        ) in
        subst (λ (z : Made × Blocks). Grown all cx bs z IsMade) (sym q) made

    -- ---- an item

    pub item_good : (F : ItemForm) (bs : Blocks) (r : Made × Blocks) → ItemRule k F cx bs r → Grown all cx bs r IsMade
    unfolding ItemRule
    item_good (LetForm w name e) bs r h = still_good (LetItem w name e) IsMade all cx bs r (let_good w name e) h
    item_good (IfForm list last) bs r h = if_good list last bs r h
    item_good (SwitchForm e cases) bs r h = switch_good e cases bs r h
    item_good (ViewForm e) bs r h = view_item_good e bs r h
    item_good NoForm bs r h = absurd h

list_good : (k : ItemsRule) → ItemsGood k → ItemsGood (ListRule k)
unfolding ListRule
list_good k good [] all cx bs r fit iv q =
    subst (λ (y : List CoreItem × Blocks). Grown all cx bs y (λ (items : List CoreItem). Items (core_context cx all) (core_locals cx.locals) items)) (sym q) (front_same bs, λ f. Items.no_items, λ f stand. between_same (core_context cx all) bs)
list_good k good (s ∷ ss) all cx bs r fit iv (x, h, (more, t, q)) =
    let g = item_good all cx fit k good iv (item_form s) bs x h in
    let rest = list_good k good ss all (with_any cx x.0.1) x.1 more (fits_any cx x.0.1 fit) (self_any cx x.0.1 iv) t in
    subst (λ (y : List CoreItem × Blocks). Grown all cx bs y (λ (items : List CoreItem). Items (core_context cx all) (core_locals cx.locals) items)) (sym q) (
      front_then g.0 rest.0,
      λ f. Items.more_items (g.1 (front_then rest.0 f)) (after_it all cx x.0.1 more.0 (rest.1 f)),
      λ f stand. between_then (core_context cx all) bs x.1 more.1 (g.2 (front_then rest.0 f) stand)
          (behind_it all cx x.0.1 x.1 more.1 (rest.2 f)
          (places_behind (core_context cx all) (core_locals cx.locals) (out-CoreItem x.0.0) (local_of x.0.1) (g.1 (front_then rest.0 f)) stand)),
    )

items_to_good : (n : ℕ) → ItemsGood (ItemsTo n)
unfolding ItemsTo
items_to_good zero ss all cx bs r fit iv h = absurd h
items_to_good (suc n) ss all cx bs r fit iv h = list_good (ItemsTo n) (items_to_good n) ss all (entered cx) bs r fit iv h

-- the items of a builder
pub built_good : ItemsGood Built
unfolding Built
built_good = items_to_good levels

-- the body of the app
pub scene_good : ItemsGood Scene
unfolding Scene
scene_good ss all cx bs r fit iv (inside, w, h) = built_good inside all cx bs r fit iv h
