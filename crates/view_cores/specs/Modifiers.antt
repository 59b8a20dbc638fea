-- The modifiers that hold views or an action are well typed, and the chain of modifiers behind a view.
use Rattle.std.specs.Prelude.{ℕ, Bool, true, false, List, [], ◌∷◌, ◌++◌, Option, Some, None}
use Rattle.std.proofs.Common.{sym, subst}
use Rattle.swift_ast.specs.declared.tree.Arg.{Arg}
use Rattle.swift_ast.specs.declared.tree.Closure.{out-Closure}
use Rattle.swift_ast.specs.declared.tree.Part.{Part}
use Rattle.swift_ast.specs.declared.tree.Stmt.{Stmt}
use Rattle.swift_ast.specs.declared.tree.Tail.{Tail}
use Rattle.swift_core.specs.Context as cores
use Rattle.swift_core.specs.Typing as typing
use Rattle.swift_core.specs.Typing.{Content, Given, HasPreference, IsAction, IsModifier, IsReader, needs}
use Rattle.swift_core.specs.declared.ids.BlockId.{BlockId}
use Rattle.swift_core.specs.declared.item.Alignment.{Alignment}
use Rattle.swift_core.specs.declared.item.ModifierCall.{ModifierCall}
use Rattle.swift_core.specs.declared.item.ModifierKind.{ModifierKind}
use Rattle.swift_core.specs.declared.item.ModifierKind.TheVariants as kind
use Rattle.swift_core.specs.declared.ty.Ty.{Ty}
use Rattle.type_base.specs.Context.{Context}
use Rattle.modifier_rules.specs.Arguments.{call}
use Rattle.modifier_rules.specs.Parts.{Word}
use Rattle.modifier_rules.specs.Values.{ValueCall}
use Rattle.modifier_rules.specs.declared.names.Modifier.{Modifier}
use Rattle.modifier_rules.specs.declared.names.Modifier.TheVariants as modifier
use Rattle.view_rules.specs.Builds.{Blocks, BuildRule, ItemsRule}
use Rattle.view_rules.specs.Modifiers.{decorated, reading, on_kind, Decoration, ReaderCall, OnCall, ChangeAction, ChangeClosure, ChangeCall, PreferenceChange, Kept, is_content, ContentCall, ContentWith, any_rule, AnyCall, ModifierRule, with_call, ModifiersRule}
use Rattle.expr_cores.specs.Contexts.{core_context, core_locals, Fits}
use Rattle.value_cores.specs.Values.{value_good}
use Rattle.modifier_cores.specs.Values.{IsCall, is_call, preference_good, IsGood, AnyGood, value_call_by}
use Rattle.view_cores.specs.Blocks.{ViewIsSelf, Grown, Front, ItemsGood, front_same, front_then, between_same, between_then, acts_good, acts_one_good, acts_two_good, reader_good}
use Rattle.view_cores.specs.Simple.{still_good}

-- one modifier more
modifiers_more : (cx : cores.Context) (ls : List cores.Local) (ms : List ModifierCall) (m : ModifierCall) → typing.Modifiers cx ls ms → IsCall cx ls m → typing.Modifiers cx ls (ms ++ m ∷ [])
modifiers_more cx ls [] m typing.Modifiers.no_modifiers c = typing.Modifiers.more_modifiers c.1.1 c.1.2.0 c.1.2.1 typing.Modifiers.no_modifiers
modifiers_more cx ls (a ∷ ms) m (typing.Modifiers.more_modifiers k g h rest) c = typing.Modifiers.more_modifiers k g h (modifiers_more cx ls ms m rest c)

-- the action of a change takes nothing, or the old value and the new one
abbrev Changed : cores.Context → List cores.Local → Ty → BlockId → Type 0
Changed cx ls t b = IsModifier cx ls (kind.OnChange b) (needs t ∷ []) false

module _ (all : Blocks) (cx : Context) (fit : Fits cx.table) where
  without : (k : ModifierKind) → IsModifier (core_context cx all) (core_locals cx.locals) k [] false → IsGood all cx fit (call k [] [])
  without k h = is_call (core_context cx all) (core_locals cx.locals) k [] [] [] false h Given.none_given Content.no_content

  on_good : (name : Modifier) → ((b : BlockId) → IsAction (core_context cx all) (core_locals cx.locals) b [] → IsModifier (core_context cx all) (core_locals cx.locals) (on_kind name b) [] false)
      → (args : List Arg) (tail : Tail) (bs : Blocks) (r : ModifierCall × Blocks) → OnCall name args tail cx bs r → Grown all cx bs r (IsGood all cx fit)
  unfolding OnCall
  on_good name is args tail bs r (e, (ss, t, (b, a, q))) =
      let g = acts_good all cx ss bs b fit a in
      subst (λ (y : ModifierCall × Blocks). Grown all cx bs y (IsGood all cx fit)) (sym q) (g.0, λ f. without (on_kind name b.0) (is b.0 (g.1 f)), g.2)

  change_action_good : (t : Ty) (ss : List Stmt) (ws : Option (Word × Word)) (bs : Blocks) (r : BlockId × Blocks) → ChangeAction t ss ws cx bs r
      → Grown all cx bs r (Changed (core_context cx all) (core_locals cx.locals) t)
  unfolding ChangeAction
  change_action_good t ss None bs r h = let g = acts_good all cx ss bs r fit h in (g.0, λ f. IsModifier.on_change t (g.1 f), g.2)
  change_action_good t ss (Some ws) bs r h = let g = acts_two_good all cx ws.0 ws.1 t ss bs r fit h in (g.0, λ f. IsModifier.on_change_of (g.1 f), g.2)

  change_good : (args : List Arg) (tail : Tail) (bs : Blocks) (r : ModifierCall × Blocks) → ChangeCall args tail cx bs r → Grown all cx bs r (IsGood all cx fit)
  unfolding ChangeCall ChangeClosure
  change_good args tail bs r (e, s, (x, v, (c, t, (b, (ws, p, a), q)))) =
      let g = change_action_good x.1 (out-Closure c).body ws bs b a in
      subst (λ (y : ModifierCall × Blocks). Grown all cx bs y (IsGood all cx fit)) (sym q) (
        g.0,
        λ f. is_call (core_context cx all) (core_locals cx.locals) (kind.OnChange b.0) (Some x.0 ∷ []) [] (needs x.1 ∷ []) false (g.1 f)
            (Given.one_given (value_good e all cx None x fit v) Given.none_given) Content.no_content,
        g.2,
      )

  preference_change_good : (args : List Arg) (tail : Tail) (bs : Blocks) (r : ModifierCall × Blocks) → PreferenceChange args tail cx bs r → Grown all cx bs r (IsGood all cx fit)
  unfolding PreferenceChange
  preference_change_good args tail bs r (e, s, (key, p, (c, t, (b, a, q)))) =
      let g = acts_one_good all cx c.0 key.1 c.1 bs b fit a in
      subst (λ (y : ModifierCall × Blocks). Grown all cx bs y (IsGood all cx fit)) (sym q)
      (g.0, λ f. without (kind.OnPreferenceChange key.0 b.0) (IsModifier.on_preference_change (preference_good e cx key p) (g.1 f)), g.2)

  kept_good : (R : BuildRule ModifierCall) (bs : Blocks) (r : Option ModifierCall × Blocks) → ((x : ModifierCall × Blocks) → R cx bs x → Grown all cx bs x (IsGood all cx fit)) → Kept R cx bs r
      → Grown all cx bs r (AnyGood all cx fit)
  kept_good R bs r good (x, h, q) = let g = good x h in subst (λ (y : Option ModifierCall × Blocks). Grown all cx bs y (AnyGood all cx fit)) (sym q) (g.0, λ f. g.1 f, g.2)

  module _ (k : ItemsRule) (good : ItemsGood k) (iv : ViewIsSelf cx) where
    decoration_good : (name : Modifier) → ((a : Alignment) → IsModifier (core_context cx all) (core_locals cx.locals) (decorated name a) [] true)
        → (args : List Arg) (tail : Tail) (bs : Blocks) (r : ModifierCall × Blocks) → Decoration k name args tail cx bs r → Grown all cx bs r (IsGood all cx fit)
    unfolding Decoration
    decoration_good name is args tail bs r (a, l, (ss, t, (x, h, q))) =
        let g = good ss all cx bs x fit iv h in
        subst (λ (y : ModifierCall × Blocks). Grown all cx bs y (IsGood all cx fit)) (sym q)
        (g.0, λ f. is_call (core_context cx all) (core_locals cx.locals) (decorated name a) [] x.0 [] true (is a) Given.none_given (Content.content (g.1 f)), g.2)

    reader_call_good : (name : Modifier)
        → ((n : ℕ) (b : BlockId) (t : Ty) → HasPreference cx.table n t → IsReader (core_context cx all) (core_locals cx.locals) b t → IsModifier (core_context cx all) (core_locals cx.locals) (reading name n b) [] false)
        → (args : List Arg) (tail : Tail) (bs : Blocks) (r : ModifierCall × Blocks) → ReaderCall k name args tail cx bs r → Grown all cx bs r (IsGood all cx fit)
    unfolding ReaderCall
    reader_call_good name is args tail bs r (e, s, (key, p, (c, t, (b, a, q)))) =
        let g = reader_good k good all cx c.0 key.1 c.1 bs b fit iv a in
        subst (λ (y : ModifierCall × Blocks). Grown all cx bs y (IsGood all cx fit)) (sym q)
        (g.0, λ f. without (reading name key.0 b.0) (is key.0 b.0 key.1 (preference_good e cx key p) (g.1 f)), g.2)

    content_good : (m : Modifier) (args : List Arg) (tail : Tail) (bs : Blocks) (r : ModifierCall × Blocks) → ContentCall k m args tail cx bs r → Grown all cx bs r (IsGood all cx fit)
    unfolding ContentCall
    content_good modifier.Overlay args tail bs r h = decoration_good modifier.Overlay (λ a. IsModifier.overlay) args tail bs r h
    content_good modifier.Background args tail bs r h = decoration_good modifier.Background (λ a. IsModifier.background) args tail bs r h
    content_good modifier.OverlayReader args tail bs r h = reader_call_good modifier.OverlayReader (λ n b t p i. IsModifier.overlay_reader p i) args tail bs r h
    content_good modifier.BackgroundReader args tail bs r h = reader_call_good modifier.BackgroundReader (λ n b t p i. IsModifier.background_reader p i) args tail bs r h
    content_good modifier.OnAppear args tail bs r h = on_good modifier.OnAppear (λ b a. IsModifier.on_appear a) args tail bs r h
    content_good modifier.OnDisappear args tail bs r h = on_good modifier.OnDisappear (λ b a. IsModifier.on_disappear a) args tail bs r h
    content_good modifier.OnTapGesture args tail bs r h = on_good modifier.OnTapGesture (λ b a. IsModifier.on_tap_gesture a) args tail bs r h
    content_good modifier.OnChange args tail bs r h = change_good args tail bs r h
    content_good modifier.OnPreferenceChange args tail bs r h = preference_change_good args tail bs r h
    content_good _ args tail bs r h = absurd h

    content_with_good : (m : Modifier) (args : List Arg) (tail : Option Tail) (bs : Blocks) (r : Option ModifierCall × Blocks) → ContentWith k m args tail cx bs r → Grown all cx bs r (AnyGood all cx fit)
    content_with_good m args None bs r h = absurd h
    content_with_good m args (Some tail) bs r h = kept_good (ContentCall k m args tail) bs r (content_good m args tail bs) h

    any_by : (m : Modifier) (args : List Arg) (tail : Option Tail) (b : Bool) (bs : Blocks) (r : Option ModifierCall × Blocks) → any_rule k m args tail b cx bs r → Grown all cx bs r (AnyGood all cx fit)
    any_by m args tail true bs r h = content_with_good m args tail bs r h
    any_by m args tail false bs r h = still_good (ValueCall m args tail) (AnyGood all cx fit) all cx bs r (value_call_by all cx fit m args tail) h

    modifier_good : (p q : Part) (bs : Blocks) (r : Option ModifierCall × Blocks) → ModifierRule k p q cx bs r → Grown all cx bs r (AnyGood all cx fit)
    unfolding ModifierRule AnyCall
    modifier_good p q bs r (w, d, (c, e, (m, n, h))) = any_by m c.0 c.1 (is_content m) bs r h

    with_call_good : (done : List ModifierCall) (o : Option ModifierCall) → typing.Modifiers (core_context cx all) (core_locals cx.locals) done → AnyGood all cx fit o
        → typing.Modifiers (core_context cx all) (core_locals cx.locals) (with_call done o)
    with_call_good done None h g = h
    with_call_good done (Some m) h g = modifiers_more (core_context cx all) (core_locals cx.locals) done m h g

    -- the modifiers so far, and those of the parts
    pub modifiers_good : (done : List ModifierCall) (parts : List Part) (bs : Blocks) (r : List ModifierCall × Blocks)
        → (Front bs all → typing.Modifiers (core_context cx all) (core_locals cx.locals) done) → ModifiersRule k done parts cx bs r
        → Grown all cx bs r (typing.Modifiers (core_context cx all) (core_locals cx.locals))
    unfolding ModifiersRule
    modifiers_good done [] bs r d q = subst (λ (y : List ModifierCall × Blocks). Grown all cx bs y (typing.Modifiers (core_context cx all) (core_locals cx.locals))) (sym q) (front_same bs, d, λ f stand. between_same (core_context cx all) bs)
    modifiers_good done (p ∷ []) bs r d h = absurd h
    modifiers_good done (p ∷ q ∷ parts) bs r d (x, h, t) =
        let g = modifier_good p q bs x h in
        let more = modifiers_good (with_call done x.0) parts x.1 r (λ f. with_call_good done x.0 (d (front_then g.0 f)) (g.1 f)) t in
        (front_then g.0 more.0, more.1, λ f stand. between_then (core_context cx all) bs x.1 r.1 (g.2 (front_then more.0 f) stand) (more.2 f stand))
