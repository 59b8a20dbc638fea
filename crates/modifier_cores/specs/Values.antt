-- The modifiers whose arguments are values are well typed.
use Rattle.std.specs.Prelude.{◌≡◌, ℕ, zero, suc, pos, Bool, true, false, ◌&&◌, List, [], ◌∷◌, map, Option, Some, None, is_some, slice_get, nat_lt, ◌⊎◌, if◌then◌else◌}
use Rattle.std.specs.FinMap as fin
use Rattle.std.proofs.Common.{refl, sym, ap, subst, ◌∙◌, inl, inr}
use Rattle.sv_value.specs.declared.value.Value.TheVariants as value
use Rattle.swift_ast.specs.declared.tree.Arg.{Arg}
use Rattle.swift_ast.specs.declared.tree.Expr.{Expr}
use Rattle.swift_ast.specs.declared.tree.Tail.{Tail}
use Rattle.swift_core.specs.Context as cores
use Rattle.swift_core.specs.Typing as typing
use Rattle.swift_core.specs.Typing.{Has, Wanted, needs, takes, Given, HasPreference, IsModifier, Content}
use Rattle.swift_core.specs.declared.code.Code.{Code}
use Rattle.swift_core.specs.declared.item.Alignment.{Alignment}
use Rattle.swift_core.specs.declared.item.CoreItem.{CoreItem}
use Rattle.swift_core.specs.declared.item.CoreItem.TheOpen.{ModifierCall-F}
use Rattle.swift_core.specs.declared.item.Edges.{Edges}
use Rattle.swift_core.specs.declared.item.ModifierCall.{ModifierCall, roll-ModifierCall, out-roll-ModifierCall}
use Rattle.swift_core.specs.declared.item.ModifierKind.{ModifierKind}
use Rattle.swift_core.specs.declared.item.ModifierKind.TheVariants as kind
use Rattle.swift_core.specs.declared.table.Declaration.{Declaration}
use Rattle.swift_core.specs.declared.table.EnvironmentKey.{EnvironmentKey}
use Rattle.swift_core.specs.declared.table.PreferenceKey.{PreferenceKey}
use Rattle.swift_core.specs.declared.table.Table.{Table}
use Rattle.swift_core.specs.declared.term.ChangeCall.TheViews.{outs-Literal, outs-Choose}
use Rattle.swift_core.specs.declared.term.Core.{Core, out-Core}
use Rattle.swift_core.specs.declared.term.Core.TheVariants as core
use Rattle.swift_core.specs.declared.ty.Ty.{Ty}
use Rattle.swift_core.specs.declared.ty.Ty.TheVariants as ty
use Rattle.type_base.specs.Claims.{some_is, and_then}
use Rattle.type_base.specs.Context.{Context}
use Rattle.modifier_rules.specs.declared.names.Modifier.{Modifier}
use Rattle.modifier_rules.specs.declared.names.Modifier.TheVariants as modifier
use Rattle.modifier_rules.specs.declared.names.Plain.{Plain}
use Rattle.modifier_rules.specs.declared.names.Plain.TheVariants as plain
use Rattle.modifier_rules.specs.declared.names.Slot.{Slot}
use Rattle.modifier_rules.specs.declared.names.Slot.TheVariants as slot
use Rattle.modifier_rules.specs.Arguments.{SlotValue, slots_of, all_given, is_complete, kind_of, call, Slotted, AllSlotted, PlainCall}
use Rattle.modifier_rules.specs.Lengths.{levels, LengthForm, Infinity, Either, Number, length_form, infinity, LengthBy, LengthTo, Length}
use Rattle.modifier_rules.specs.Parts.{Word}
use Rattle.modifier_rules.specs.Values.{declared_key, environment_key, numbered_key, key_at, preference_key, IdCall, EnvironmentCall, PreferenceCall, GuideCall, Kept, ValueCall}
use Rattle.expr_cores.specs.Contexts.{core_context, core_locals, Fits}
use Rattle.expr_cores.specs.Ops.{int_value}
use Rattle.post_cores.specs.Members.{found_so}
use Rattle.post_cores.specs.States.{has_by}
use Rattle.value_cores.specs.Values.{value_good, wanted_good}
use Rattle.modifier_cores.specs.Guides.{guide_good}

-- a modifier takes what its kind asks for, and has views where the kind has some
abbrev pub IsCall : cores.Context → List cores.Local → ModifierCall → Type 0
IsCall cx ls m = (ws : List Wanted) × ((has_content : Bool) × IsModifier cx ls m.kind ws has_content × (Given cx ls m.arguments ws × Content cx ls has_content m.content))

pub is_call : (cx : cores.Context) (ls : List cores.Local) (k : ModifierKind) (arguments : List (Option Core)) (content : List CoreItem) (ws : List Wanted) (has_content : Bool)
    → IsModifier cx ls k ws has_content → Given cx ls arguments ws → Content cx ls has_content content → IsCall cx ls (call k arguments content)
is_call cx ls k arguments content ws has_content m g c =
    let o = out-roll-ModifierCall (record { kind = k; arguments = arguments; content = content }) in (
      ws,
      (
        has_content,
        subst (λ (x : ModifierKind). IsModifier cx ls x ws has_content) (ap (λ x. x.kind) (sym o)) m,
        (subst (λ (x : List (Option Core)). Given cx ls x ws) (ap (λ x. x.arguments) (sym o)) g, subst (λ (x : List CoreItem). Content cx ls has_content x) (ap (λ x. x.content) (sym o)) c),
      ),
    )

-- ---- keys

abbrev pub DeclaredKey : Table → ℕ × Ty → Type 0
DeclaredKey table k = (key : EnvironmentKey) × (slice_get table.environment k.0 ≡ Some key) × (key.ty ≡ Some k.1)

declared_by : (table : Table) (n : ℕ) (k : ℕ × Ty) → declared_key table n ≡ Some k → DeclaredKey table k
declared_by table n k h = found_so (DeclaredKey table k) h (λ (key : EnvironmentKey) sk g. found_so (DeclaredKey table k) g (λ t st q. subst (DeclaredKey table) (some_is (n, t) k q) (key, sk, st)))

declared_if : (table : Table) (b : Bool) (n : ℕ) (k : ℕ × Ty) → (if b then declared_key table n else None) ≡ Some k → DeclaredKey table k
declared_if table true n k h = declared_by table n k h
declared_if table false n k h = cc

environment_good : (w : Word) (table : Table) (k : ℕ × Ty) → environment_key w table ≡ Some k → DeclaredKey table k
unfolding environment_key
environment_good w table k h = found_so (DeclaredKey table k) h (λ n g q. declared_if table (nat_lt 0 n) n k q)

numbered_good : (table : Table) (n : ℕ) (k : ℕ × Ty) → numbered_key table n ≡ Some k → HasPreference table k.0 k.1
numbered_good table n k h =
    found_so (HasPreference table k.0 k.1) h (λ (p : PreferenceKey) sp g. found_so (HasPreference table k.0 k.1) g (λ t st q.
    subst (λ (x : ℕ × Ty). HasPreference table x.0 x.1) (some_is (n, t) k q) (HasPreference.key sp st)))

pub preference_good : (e : Expr) (cx : Context) (k : ℕ × Ty) → preference_key e cx ≡ Some k → HasPreference cx.table k.0 k.1
unfolding preference_key
preference_good e cx k h =
    found_so (HasPreference cx.table k.0 k.1) h (λ w qw g. found_so (HasPreference cx.table k.0 k.1) g (λ (d : ℕ × Declaration) qd a.
    found_so (HasPreference cx.table k.0 k.1) a (λ n qn b. numbered_good cx.table n k b)))

module _ (blocks : List Code) (cx : Context) (fit : Fits cx.table) where
  -- ---- lengths

  length_by_good : (k : Expr → Context → Core → Type 0) → ((e : Expr) (c : Core) → k e cx c → Has (core_context cx blocks) (core_locals cx.locals) (out-Core c) ty.Int) → (e : Expr) (F : LengthForm) (c : Core)
      → LengthBy k e F cx c → Has (core_context cx blocks) (core_locals cx.locals) (out-Core c) ty.Int
  unfolding LengthBy
  length_by_good k good e Infinity c q =
      subst (λ (x : Core). Has (core_context cx blocks) (core_locals cx.locals) (out-Core x) ty.Int) (sym q)
      (has_by (core_context cx blocks) (core_locals cx.locals) _ (outs-Literal (value.Int (pos 1000000))) (Has.literal (int_value (pos 1000000) cx.table)))
  length_by_good k good e (Either t a b) c (test, w, (x, g, (y, h, q))) =
      subst (λ (z : Core). Has (core_context cx blocks) (core_locals cx.locals) (out-Core z) ty.Int) (sym q)
      (has_by (core_context cx blocks) (core_locals cx.locals) _ (outs-Choose test x y) (Has.choose (wanted_good t ty.Bool blocks cx test fit w) (good a x g) (good b y h)))
  length_by_good k good e Number c w = wanted_good e ty.Int blocks cx c fit w

  length_to_good : (n : ℕ) (e : Expr) (c : Core) → LengthTo n e cx c → Has (core_context cx blocks) (core_locals cx.locals) (out-Core c) ty.Int
  unfolding LengthTo
  length_to_good zero e c h = absurd h
  length_to_good (suc n) e c h = length_by_good (LengthTo n) (length_to_good n) e (length_form e) c h

  length_good : (e : Expr) (c : Core) → Length e cx c → Has (core_context cx blocks) (core_locals cx.locals) (out-Core c) ty.Int
  unfolding Length
  length_good e c h = length_to_good levels e c h

  -- ---- arguments by their slots

  abbrev pub slot_type : Slot → Ty
  slot_type slot.Horizontal = ty.Bool
  slot_type slot.Vertical = ty.Bool
  slot_type slot.Truth = ty.Bool
  slot_type _ = ty.Int

  slot_good : (s : Slot) (e : Expr) (c : Core) → SlotValue s e cx c → Has (core_context cx blocks) (core_locals cx.locals) (out-Core c) (slot_type s)
  slot_good slot.Horizontal e c w = wanted_good e ty.Bool blocks cx c fit w
  slot_good slot.Vertical e c w = wanted_good e ty.Bool blocks cx c fit w
  slot_good slot.Truth e c w = wanted_good e ty.Bool blocks cx c fit w
  slot_good slot.Number e c w = wanted_good e ty.Int blocks cx c fit w
  slot_good slot.Width e c w = length_good e c w
  slot_good slot.Height e c w = length_good e c w
  slot_good slot.MinWidth e c w = length_good e c w
  slot_good slot.IdealWidth e c w = length_good e c w
  slot_good slot.MaxWidth e c w = length_good e c w
  slot_good slot.MinHeight e c w = length_good e c w
  slot_good slot.IdealHeight e c w = length_good e c w
  slot_good slot.MaxHeight e c w = length_good e c w
  slot_good slot.X e c w = length_good e c w
  slot_good slot.Y e c w = length_good e c w
  slot_good slot.Spacing e c w = length_good e c w
  slot_good slot.MinLength e c w = length_good e c w
  slot_good slot.Amount e c w = length_good e c w

  -- an argument has its type where it is given
  abbrev pub IsSlot : Slot → Option Core → Type 0
  IsSlot s None = Unit {0}
  IsSlot s (Some c) = Has (core_context cx blocks) (core_locals cx.locals) (out-Core c) (slot_type s)

  pub slotted_good : (s : Slot) (args : List Arg) (x : Option Core × List Arg) → Slotted s args cx x → IsSlot s x.0
  unfolding Slotted
  slotted_good s [] x q = subst (λ (y : Option Core × List Arg). IsSlot s y.0) (sym q) tt
  slotted_good s (a ∷ rest) x (inl (f, (e, ae, (c, w, q)))) = subst (λ (y : Option Core × List Arg). IsSlot s y.0) (sym q) (slot_good s e c w)
  slotted_good s (a ∷ rest) x (inr (f, q)) = subst (λ (y : Option Core × List Arg). IsSlot s y.0) (sym q) tt

  pub may_take : (s : Slot) (o : Option Core) (cs : List (Option Core)) (ws : List Wanted) → IsSlot s o → Given (core_context cx blocks) (core_locals cx.locals) cs ws
      → Given (core_context cx blocks) (core_locals cx.locals) (o ∷ cs) (takes (slot_type s) ∷ ws)
  may_take s None cs ws g h = Given.left_out refl h
  may_take s (Some c) cs ws g h = Given.one_given g h

  must_take : (s : Slot) (o : Option Core) (cs : List (Option Core)) (ws : List Wanted) → IsSlot s o → is_some o ≡ true → Given (core_context cx blocks) (core_locals cx.locals) cs ws
      → Given (core_context cx blocks) (core_locals cx.locals) (o ∷ cs) (needs (slot_type s) ∷ ws)
  must_take s None cs ws g e h = cc
  must_take s (Some c) cs ws g e h = Given.one_given g h

  abbrev Slots : Type 0
  Slots = List (Option Core) × List Arg

  taken : (ss : List Slot) (args : List Arg) (x : Slots) → AllSlotted ss args cx x → Given (core_context cx blocks) (core_locals cx.locals) x.0 (map (λ s. takes (slot_type s)) ss)
  unfolding AllSlotted
  taken [] args x q = subst (λ (y : Slots). Given (core_context cx blocks) (core_locals cx.locals) y.0 []) (sym q) Given.none_given
  taken (s ∷ ss) args x (o, a, (more, b, q)) =
      subst (λ (y : Slots). Given (core_context cx blocks) (core_locals cx.locals) y.0 (map (λ s. takes (slot_type s)) (s ∷ ss))) (sym q)
      (may_take s o.0 more.0 (map (λ s. takes (slot_type s)) ss) (slotted_good s args o a) (taken ss o.1 more b))

  -- the one argument that is needed
  needed : (s : Slot) (args : List Arg) (x : Slots) → AllSlotted (s ∷ []) args cx x → all_given x.0 ≡ true → Given (core_context cx blocks) (core_locals cx.locals) x.0 (needs (slot_type s) ∷ [])
  unfolding AllSlotted
  needed s args x (o, a, (more, b, q)) e =
      let same : x.0 ≡ o.0 ∷ [] = ap (λ (y : Slots). y.0) q ∙ ap (λ (y : Slots). o.0 ∷ y.0) b in
      subst (λ (cs : List (Option Core)). Given (core_context cx blocks) (core_locals cx.locals) cs (needs (slot_type s) ∷ [])) (sym same)
      (must_take s o.0 [] [] (slotted_good s args o a) (given_is o.0 (ap all_given (sym same) ∙ e)) Given.none_given) where
        given_is : (o : Option Core) → all_given (o ∷ []) ≡ true → is_some o ≡ true
        given_is (Some c) h = refl
        given_is None h = cc

  plain_good : (p : Plain) (e : Edges) (a : Alignment) (args : List Arg) (x : Slots) → AllSlotted (slots_of p) args cx x → is_complete p x.0 ≡ true
      → IsCall (core_context cx blocks) (core_locals cx.locals) (call (kind_of p e a) x.0 [])
  plain_good plain.FixedFrame e a args x h k = is_call (core_context cx blocks) (core_locals cx.locals) _ x.0 [] _ false IsModifier.fixed_frame (taken (slots_of plain.FixedFrame) args x h) Content.no_content
  plain_good plain.FlexibleFrame e a args x h k = is_call (core_context cx blocks) (core_locals cx.locals) _ x.0 [] _ false IsModifier.flexible_frame (taken (slots_of plain.FlexibleFrame) args x h) Content.no_content
  plain_good plain.Padding e a args x h k = is_call (core_context cx blocks) (core_locals cx.locals) _ x.0 [] _ false IsModifier.padding (taken (slots_of plain.Padding) args x h) Content.no_content
  plain_good plain.FixedSize e a args x h k = is_call (core_context cx blocks) (core_locals cx.locals) _ x.0 [] _ false IsModifier.fixed_size (taken (slots_of plain.FixedSize) args x h) Content.no_content
  plain_good plain.Offset e a args x h k = is_call (core_context cx blocks) (core_locals cx.locals) _ x.0 [] _ false IsModifier.offset (taken (slots_of plain.Offset) args x h) Content.no_content
  plain_good plain.LayoutPriority e a args x h k = is_call (core_context cx blocks) (core_locals cx.locals) _ x.0 [] _ false IsModifier.layout_priority (needed slot.Number args x h k) Content.no_content
  plain_good plain.LineLimit e a args x h k = is_call (core_context cx blocks) (core_locals cx.locals) _ x.0 [] _ false IsModifier.line_limit (needed slot.Number args x h k) Content.no_content
  plain_good plain.Disabled e a args x h k = is_call (core_context cx blocks) (core_locals cx.locals) _ x.0 [] _ false IsModifier.disabled (needed slot.Truth args x h k) Content.no_content
  plain_good plain.AllowsHitTesting e a args x h k = is_call (core_context cx blocks) (core_locals cx.locals) _ x.0 [] _ false IsModifier.allows_hit_testing (needed slot.Truth args x h k) Content.no_content

  -- ---- each modifier

  abbrev One : Core → Ty → Type 0
  One c t = Given (core_context cx blocks) (core_locals cx.locals) (Some c ∷ []) (needs t ∷ [])

  abbrev pub IsGood : ModifierCall → Type 0
  IsGood = IsCall (core_context cx blocks) (core_locals cx.locals)

  plain_call_good : (p : Plain) (args : List Arg) (r : ModifierCall) → PlainCall p args cx r → IsGood r
  unfolding PlainCall
  plain_call_good p args r (x, h, (a, b, (k, q))) = subst IsGood (sym q) (plain_good p _ a _ x h k)

  id_good : (args : List Arg) (r : ModifierCall) → IdCall args cx r → IsGood r
  unfolding IdCall
  id_good args r (e, s, (x, a, q)) =
      subst IsGood (sym q) (is_call (core_context cx blocks) (core_locals cx.locals) _ _ [] _ false (IsModifier.identity x.1) (Given.one_given (value_good e blocks cx None x fit a) Given.none_given) Content.no_content)

  environment_call_good : (args : List Arg) (r : ModifierCall) → EnvironmentCall args cx r → IsGood r
  unfolding EnvironmentCall
  environment_call_good args r (x, s, (k, d, (c, w, q))) =
      let key = environment_good x.0 cx.table k d in
      subst IsGood (sym q) (is_call (core_context cx blocks) (core_locals cx.locals) _ _ [] _ false (IsModifier.set_environment key.1 key.2) (Given.one_given (wanted_good x.1 k.1 blocks cx c fit w) Given.none_given) Content.no_content)

  preference_call_good : (args : List Arg) (r : ModifierCall) → PreferenceCall args cx r → IsGood r
  unfolding PreferenceCall
  preference_call_good args r (x, s, (k, d, (c, w, q))) =
      subst IsGood (sym q) (is_call (core_context cx blocks) (core_locals cx.locals) _ _ [] _ false (IsModifier.preference (preference_good x.0 cx k d)) (Given.one_given (wanted_good x.1 k.1 blocks cx c fit w) Given.none_given) Content.no_content)

  guide_call_good : (args : List Arg) (tail : Tail) (r : ModifierCall) → GuideCall args tail cx r → IsGood r
  unfolding GuideCall
  guide_call_good args tail r (k, s, (x, t, (g, h, q))) =
      subst IsGood (sym q) (is_call (core_context cx blocks) (core_locals cx.locals) _ [] [] [] false (IsModifier.alignment_guide (guide_good x.0 x.1 g h)) Given.none_given Content.no_content)

  -- a call, where there is one
  abbrev pub AnyGood : Option ModifierCall → Type 0
  AnyGood None = Unit {0}
  AnyGood (Some m) = IsGood m

  kept_good : (R : Context → ModifierCall → Type 0) → ((m : ModifierCall) → R cx m → IsGood m) → (r : Option ModifierCall) → Kept R cx r → AnyGood r
  kept_good R good r (c, h, q) = subst AnyGood (sym q) (good c h)

  pub value_call_by : (m : Modifier) (args : List Arg) (tail : Option Tail) (r : Option ModifierCall) → ValueCall m args tail cx r → AnyGood r
  unfolding ValueCall
  value_call_by (modifier.Plain p) args None r h = kept_good (PlainCall p args) (plain_call_good p args) r h
  value_call_by modifier.Id args None r h = kept_good (IdCall args) (id_good args) r h
  value_call_by modifier.Environment args None r h = kept_good (EnvironmentCall args) (environment_call_good args) r h
  value_call_by modifier.Preference args None r h = kept_good (PreferenceCall args) (preference_call_good args) r h
  value_call_by modifier.AlignmentGuide args (Some tail) r h = kept_good (GuideCall args tail) (guide_call_good args tail) r h
  value_call_by modifier.Bold args None r (e, q) = subst AnyGood (sym q) tt
  value_call_by modifier.Style args None r (b, e, q) = subst AnyGood (sym q) tt
  value_call_by m args tail r h = absurd h

abbrev pub ValueCallsTyped : Type 0
ValueCallsTyped = (m : Modifier) (args : List Arg) (tail : Option Tail) (blocks : List Code) (cx : Context) (r : Option ModifierCall) (fit : Fits cx.table) → ValueCall m args tail cx r → AnyGood blocks cx fit r

pub value_call_good : ValueCallsTyped
value_call_good m args tail blocks cx r fit h = value_call_by blocks cx fit m args tail r h
