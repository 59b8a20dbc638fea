-- The modifiers that hold views or an action, and the chain of modifiers behind a view.
use Rattle.std.specs.Prelude.{◌≡◌, ℕ, Bool, true, false, List, [], ◌∷◌, ◌++◌, length, Option, Some, None, codes}
use Rattle.swift_ast.specs.declared.tree.Expr.{Expr}
use Rattle.swift_ast.specs.declared.tree.Arg.{Arg}
use Rattle.swift_ast.specs.declared.tree.Tail.{Tail}
use Rattle.swift_ast.specs.declared.tree.Part.{Part}
use Rattle.swift_ast.specs.declared.tree.Stmt.{Stmt}
use Rattle.swift_ast.specs.declared.tree.Closure.{Closure, out-Closure}
use Rattle.swift_ast.specs.declared.tree.ClosureParam.{ClosureParam}
use Rattle.swift_core.specs.declared.ids.BlockId.{BlockId}
use Rattle.swift_core.specs.declared.item.Alignment.{Alignment}
use Rattle.swift_core.specs.declared.item.CoreItem.{CoreItem}
use Rattle.swift_core.specs.declared.item.ModifierCall.{ModifierCall}
use Rattle.swift_core.specs.declared.item.ModifierKind.{ModifierKind}
use Rattle.swift_core.specs.declared.item.ModifierKind.TheVariants as kind
use Rattle.swift_core.specs.declared.term.Core.{Core}
use Rattle.swift_core.specs.declared.ty.Ty.{Ty}
use Rattle.type_base.specs.declared.scope.LocalKind.TheVariants as local_kind
use Rattle.type_base.specs.Claims.{Then, and_then, when, reads_then, reads_give, reads_none, reads_is, reads_when, bool_is}
use Rattle.value_rules.specs.Values.{Typed, infer, infer_exact}
use Rattle.modifier_rules.specs.Parts.{Word, called_at, sole_expr, labelled_expr, sole, sole_closure, sole_param, param_word}
use Rattle.modifier_rules.specs.Named.{last_alignment, modifier_named}
use Rattle.modifier_rules.specs.Arguments.{call}
use Rattle.modifier_rules.specs.Values.{preference_key, ValueCall, value_call, value_call_exact}
use Rattle.modifier_rules.specs.declared.names.Modifier.{Modifier}
use Rattle.modifier_rules.specs.declared.names.Modifier.TheVariants as modifier
use Rattle.view_rules.specs.Builds.{BuildRule, FindBuild, ExactBuild, ItemsRule, FindItems, ExactItems, Blocks, local, with_item, Action, action, action_exact, ActsTwo, acts_two, acts_two_exact, Reader, reader, reader_exact}
use Rattle.view_rules.specs.Forms.{is_empty, tail_body, dot_name}
use Rattle.view_rules.specs.Views.{Still, still, still_exact, Acts, acts}

-- ---- arguments

-- `(of: e)`
abbrev pub of_argument : List Arg → Option Expr
of_argument args = and_then (sole args) (labelled_expr (codes "of"))

-- the parameter of a closure that has one, and its statements
abbrev pub reader_closure : Tail → Option (Word × List Stmt)
reader_closure t =
    and_then {B = Word × List Stmt} (sole_closure t) (λ c.
    and_then {B = Word × List Stmt} (sole_param c) (λ w. Some (w, (out-Closure c).body)))

abbrev pub two_words : List ClosureParam → Option (Word × Word)
two_words (a ∷ b ∷ []) = and_then {B = Word × Word} (param_word a) (λ v. and_then {B = Word × Word} (param_word b) (λ w. Some (v, w)))
two_words _ = None

-- no parameters, or two
abbrev pub change_params : Closure → Option (Option (Word × Word))
change_params c = elim (out-Closure c).params [ None ↦ Some None | Some ps ↦ and_then {B = Option (Word × Word)} (two_words ps) (λ ws. Some (Some ws)) ]

-- ---- kinds

abbrev pub decorated : Modifier → Alignment → ModifierKind
decorated modifier.Overlay a = kind.Overlay a
decorated _ a = kind.Background a

abbrev pub reading : Modifier → ℕ → BlockId → ModifierKind
reading modifier.OverlayReader n b = kind.OverlayReader n b
reading _ n b = kind.BackgroundReader n b

abbrev pub on_kind : Modifier → BlockId → ModifierKind
on_kind modifier.OnAppear b = kind.OnAppear b
on_kind modifier.OnDisappear b = kind.OnDisappear b
on_kind _ b = kind.OnTapGesture b

-- ---- views

-- `.overlay(alignment: a) { B }`, and `.background` likewise
unfoldable pub Decoration : ItemsRule → Modifier → List Arg → Tail → BuildRule ModifierCall
Decoration k name args tail cx bs r =
    (a : Alignment) × (last_alignment args ≡ Some a) ×
    ((ss : List Stmt) × (tail_body tail ≡ Some ss) ×
    ((x : List CoreItem × Blocks) × k ss cx bs x ×
    (r ≡ (call (decorated name a) [] x.0, x.1))))

unfoldable pub decoration : FindItems → Modifier → List Arg → Tail → FindBuild ModifierCall
decoration f name args tail cx bs =
    and_then {B = ModifierCall × Blocks} (last_alignment args) (λ a.
    and_then {B = ModifierCall × Blocks} (tail_body tail) (λ ss.
    and_then {B = ModifierCall × Blocks} (f ss cx bs) (λ x.
    Some (call (decorated name a) [] x.0, x.1))))

-- `.overlayPreferenceValue(K.self) { v in B }`, and `.backgroundPreferenceValue` likewise
unfoldable pub ReaderCall : ItemsRule → Modifier → List Arg → Tail → BuildRule ModifierCall
ReaderCall k name args tail cx bs r =
    (e : Expr) × (sole_expr args ≡ Some e) ×
    ((key : ℕ × Ty) × (preference_key e cx ≡ Some key) ×
    ((c : Word × List Stmt) × (reader_closure tail ≡ Some c) ×
    ((b : BlockId × Blocks) × Reader k c.1 (local c.0 key.1 local_kind.Let) cx bs b ×
    (r ≡ (call (reading name key.0 b.0) [] [], b.1)))))

unfoldable pub reader_call : FindItems → Modifier → List Arg → Tail → FindBuild ModifierCall
reader_call f name args tail cx bs =
    and_then {B = ModifierCall × Blocks} (sole_expr args) (λ e.
    and_then {B = ModifierCall × Blocks} (preference_key e cx) (λ key.
    and_then {B = ModifierCall × Blocks} (reader_closure tail) (λ c.
    and_then {B = ModifierCall × Blocks} (reader f c.1 (local c.0 key.1 local_kind.Let) cx bs) (λ b.
    Some (call (reading name key.0 b.0) [] [], b.1)))))

-- ---- actions

-- `.onAppear { A }`, and `.onDisappear` and `.onTapGesture` likewise
unfoldable pub OnCall : Modifier → List Arg → Tail → BuildRule ModifierCall
OnCall name args tail cx bs r =
    (is_empty args ≡ true) ×
    ((ss : List Stmt) × (tail_body tail ≡ Some ss) ×
    ((b : BlockId × Blocks) × Acts ss cx bs b ×
    (r ≡ (call (on_kind name b.0) [] [], b.1))))

unfoldable pub on_call : Modifier → List Arg → Tail → FindBuild ModifierCall
on_call name args tail cx bs =
    when (is_empty args) (
    and_then {B = ModifierCall × Blocks} (tail_body tail) (λ ss.
    and_then {B = ModifierCall × Blocks} (acts ss cx bs) (λ b.
    Some (call (on_kind name b.0) [] [], b.1))))

-- the action of `.onChange` without parameters, or with the old value and the new one
unfoldable pub ChangeAction : Ty → List Stmt → Option (Word × Word) → BuildRule BlockId
ChangeAction t ss None cx bs r = Acts ss cx bs r
ChangeAction t ss (Some ws) cx bs r = ActsTwo ss (local ws.0 t local_kind.Let) (local ws.1 t local_kind.Let) cx bs r

unfoldable pub change_action : Ty → List Stmt → Option (Word × Word) → FindBuild BlockId
change_action t ss None cx bs = acts ss cx bs
change_action t ss (Some ws) cx bs = acts_two ss (local ws.0 t local_kind.Let) (local ws.1 t local_kind.Let) cx bs

unfoldable pub ChangeClosure : Ty → Closure → BuildRule BlockId
ChangeClosure t c cx bs r = (ws : Option (Word × Word)) × (change_params c ≡ Some ws) × ChangeAction t (out-Closure c).body ws cx bs r

abbrev pub change_closure : Ty → Closure → FindBuild BlockId
change_closure t c cx bs = and_then {B = BlockId × Blocks} (change_params c) (λ ws. change_action t (out-Closure c).body ws cx bs)

-- `.onChange(of: e) { A }` and `.onChange(of: e) { old, new in A }`
unfoldable pub ChangeCall : List Arg → Tail → BuildRule ModifierCall
ChangeCall args tail cx bs r =
    (e : Expr) × (of_argument args ≡ Some e) ×
    ((x : Core × Ty) × Typed e cx None x ×
    ((c : Closure) × (sole_closure tail ≡ Some c) ×
    ((b : BlockId × Blocks) × ChangeClosure x.1 c cx bs b ×
    (r ≡ (call (kind.OnChange b.0) (Some x.0 ∷ []) [], b.1)))))

unfoldable pub change_call : List Arg → Tail → FindBuild ModifierCall
change_call args tail cx bs =
    and_then {B = ModifierCall × Blocks} (of_argument args) (λ e.
    and_then {B = ModifierCall × Blocks} (infer e cx None) (λ x.
    and_then {B = ModifierCall × Blocks} (sole_closure tail) (λ c.
    and_then {B = ModifierCall × Blocks} (change_closure x.1 c cx bs) (λ b.
    Some (call (kind.OnChange b.0) (Some x.0 ∷ []) [], b.1)))))

-- `.onPreferenceChange(K.self) { v in A }`
unfoldable pub PreferenceChange : List Arg → Tail → BuildRule ModifierCall
PreferenceChange args tail cx bs r =
    (e : Expr) × (sole_expr args ≡ Some e) ×
    ((key : ℕ × Ty) × (preference_key e cx ≡ Some key) ×
    ((c : Word × List Stmt) × (reader_closure tail ≡ Some c) ×
    ((b : BlockId × Blocks) × Action 1 c.1 (length cx.locals) (with_item cx (local c.0 key.1 local_kind.Let)) bs b ×
    (r ≡ (call (kind.OnPreferenceChange key.0 b.0) [] [], b.1)))))

unfoldable pub preference_change : List Arg → Tail → FindBuild ModifierCall
preference_change args tail cx bs =
    and_then {B = ModifierCall × Blocks} (sole_expr args) (λ e.
    and_then {B = ModifierCall × Blocks} (preference_key e cx) (λ key.
    and_then {B = ModifierCall × Blocks} (reader_closure tail) (λ c.
    and_then {B = ModifierCall × Blocks} (action 1 c.1 (length cx.locals) (with_item cx (local c.0 key.1 local_kind.Let)) bs) (λ b.
    Some (call (kind.OnPreferenceChange key.0 b.0) [] [], b.1)))))

-- ---- a modifier, and a chain of them

abbrev pub Kept : BuildRule ModifierCall → BuildRule (Option ModifierCall)
Kept R cx bs r = (x : ModifierCall × Blocks) × R cx bs x × (r ≡ (Some x.0, x.1))

abbrev pub kept : FindBuild ModifierCall → FindBuild (Option ModifierCall)
kept f cx bs = and_then {B = Option ModifierCall × Blocks} (f cx bs) (λ x. Some (Some x.0, x.1))

-- the modifiers that hold views or an action
abbrev pub is_content : Modifier → Bool
is_content (modifier.Plain p) = false
is_content modifier.Id = false
is_content modifier.Environment = false
is_content modifier.Preference = false
is_content modifier.AlignmentGuide = false
is_content modifier.Bold = false
is_content modifier.Style = false
is_content _ = true

unfoldable pub ContentCall : ItemsRule → Modifier → List Arg → Tail → BuildRule ModifierCall
ContentCall k modifier.Overlay args tail cx bs r = Decoration k modifier.Overlay args tail cx bs r
ContentCall k modifier.Background args tail cx bs r = Decoration k modifier.Background args tail cx bs r
ContentCall k modifier.OverlayReader args tail cx bs r = ReaderCall k modifier.OverlayReader args tail cx bs r
ContentCall k modifier.BackgroundReader args tail cx bs r = ReaderCall k modifier.BackgroundReader args tail cx bs r
ContentCall k modifier.OnAppear args tail cx bs r = OnCall modifier.OnAppear args tail cx bs r
ContentCall k modifier.OnDisappear args tail cx bs r = OnCall modifier.OnDisappear args tail cx bs r
ContentCall k modifier.OnTapGesture args tail cx bs r = OnCall modifier.OnTapGesture args tail cx bs r
ContentCall k modifier.OnChange args tail cx bs r = ChangeCall args tail cx bs r
ContentCall k modifier.OnPreferenceChange args tail cx bs r = PreferenceChange args tail cx bs r
ContentCall k _ args tail cx bs r = ⊥

unfoldable pub content_call : FindItems → Modifier → List Arg → Tail → FindBuild ModifierCall
content_call f modifier.Overlay args tail cx bs = decoration f modifier.Overlay args tail cx bs
content_call f modifier.Background args tail cx bs = decoration f modifier.Background args tail cx bs
content_call f modifier.OverlayReader args tail cx bs = reader_call f modifier.OverlayReader args tail cx bs
content_call f modifier.BackgroundReader args tail cx bs = reader_call f modifier.BackgroundReader args tail cx bs
content_call f modifier.OnAppear args tail cx bs = on_call modifier.OnAppear args tail cx bs
content_call f modifier.OnDisappear args tail cx bs = on_call modifier.OnDisappear args tail cx bs
content_call f modifier.OnTapGesture args tail cx bs = on_call modifier.OnTapGesture args tail cx bs
content_call f modifier.OnChange args tail cx bs = change_call args tail cx bs
content_call f modifier.OnPreferenceChange args tail cx bs = preference_change args tail cx bs
content_call f _ args tail cx bs = None

abbrev pub ContentWith : ItemsRule → Modifier → List Arg → Option Tail → BuildRule (Option ModifierCall)
ContentWith k m args None cx bs r = ⊥
ContentWith k m args (Some tail) cx bs r = Kept (ContentCall k m args tail) cx bs r

abbrev pub content_with : FindItems → Modifier → List Arg → Option Tail → FindBuild (Option ModifierCall)
content_with f m args None cx bs = None
content_with f m args (Some tail) cx bs = kept (content_call f m args tail) cx bs

abbrev pub any_rule : ItemsRule → Modifier → List Arg → Option Tail → Bool → BuildRule (Option ModifierCall)
any_rule k m args tail true = ContentWith k m args tail
any_rule k m args tail false = Still (ValueCall m args tail)

abbrev pub any_at : FindItems → Modifier → List Arg → Option Tail → Bool → FindBuild (Option ModifierCall)
any_at f m args tail true = content_with f m args tail
any_at f m args tail false = still (value_call m args tail)

-- a modifier, and None where it makes no node
unfoldable pub AnyCall : ItemsRule → Modifier → List Arg → Option Tail → BuildRule (Option ModifierCall)
AnyCall k m args tail = any_rule k m args tail (is_content m)

unfoldable pub any_call : FindItems → Modifier → List Arg → Option Tail → FindBuild (Option ModifierCall)
any_call f m args tail = any_at f m args tail (is_content m)

-- `.name` and a call
unfoldable pub ModifierRule : ItemsRule → Part → Part → BuildRule (Option ModifierCall)
ModifierRule k dot part cx bs r =
    (w : Word) × (dot_name dot ≡ Some w) ×
    ((c : List Arg × Option Tail) × (called_at part ≡ Some c) ×
    ((m : Modifier) × (modifier_named w c.0 ≡ Some m) ×
    AnyCall k m c.0 c.1 cx bs r))

unfoldable pub find_modifier : FindItems → Part → Part → FindBuild (Option ModifierCall)
find_modifier f dot part cx bs =
    and_then {B = Option ModifierCall × Blocks} (dot_name dot) (λ w.
    and_then {B = Option ModifierCall × Blocks} (called_at part) (λ c.
    and_then {B = Option ModifierCall × Blocks} (modifier_named w c.0) (λ m.
    any_call f m c.0 c.1 cx bs)))

-- with one more, if it makes a node
abbrev pub with_call : List ModifierCall → Option ModifierCall → List ModifierCall
with_call done None = done
with_call done (Some c) = done ++ c ∷ []

-- the modifiers so far, and those of the parts
unfoldable pub ModifiersRule : ItemsRule → List ModifierCall → List Part → BuildRule (List ModifierCall)
ModifiersRule k done [] cx bs r = r ≡ (done, bs)
ModifiersRule k done (p ∷ []) cx bs r = ⊥
ModifiersRule k done (p ∷ q ∷ parts) cx bs r =
    (x : Option ModifierCall × Blocks) × ModifierRule k p q cx bs x ×
    ModifiersRule k (with_call done x.0) parts cx x.1 r

unfoldable pub find_modifiers : FindItems → List ModifierCall → List Part → FindBuild (List ModifierCall)
find_modifiers f done [] cx bs = Some (done, bs)
find_modifiers f done (p ∷ []) cx bs = None
find_modifiers f done (p ∷ q ∷ parts) cx bs =
    and_then {B = List ModifierCall × Blocks} (find_modifier f p q cx bs) (λ x.
    find_modifiers f (with_call done x.0) parts cx x.1)

-- ---- laws

on_exact : (name : Modifier) (args : List Arg) (tail : Tail) → ExactBuild (on_call name args tail) (OnCall name args tail)
unfolding on_call OnCall Then
on_exact name args tail cx bs = reads_when bool_is (reads_then (reads_is _) (λ ss. reads_then (action_exact 0 ss _ _ bs) (λ b. reads_give _)))

change_action_exact : (t : Ty) (ss : List Stmt) (ws : Option (Word × Word)) → ExactBuild (change_action t ss ws) (ChangeAction t ss ws)
unfolding change_action ChangeAction
change_action_exact t ss None cx bs = action_exact 0 ss _ _ bs
change_action_exact t ss (Some ws) cx bs = acts_two_exact ss _ _ cx bs

change_closure_exact : (t : Ty) (c : Closure) → ExactBuild (change_closure t c) (ChangeClosure t c)
unfolding ChangeClosure Then
change_closure_exact t c cx bs = reads_then (reads_is _) (λ ws. change_action_exact t _ ws cx bs)

change_exact : (args : List Arg) (tail : Tail) → ExactBuild (change_call args tail) (ChangeCall args tail)
unfolding change_call ChangeCall Then
change_exact args tail cx bs =
    reads_then (reads_is _) (λ e. reads_then (infer_exact e cx None) (λ x. reads_then (reads_is _) (λ c. reads_then (change_closure_exact x.1 c cx bs) (λ b. reads_give _))))

preference_change_exact : (args : List Arg) (tail : Tail) → ExactBuild (preference_change args tail) (PreferenceChange args tail)
unfolding preference_change PreferenceChange Then
preference_change_exact args tail cx bs =
    reads_then (reads_is _) (λ e. reads_then (reads_is _) (λ key. reads_then (reads_is _) (λ c. reads_then (action_exact 1 c.1 _ _ bs) (λ b. reads_give _))))

kept_exact : {f : FindBuild ModifierCall} {R : BuildRule ModifierCall} → ExactBuild f R → ExactBuild (kept f) (Kept R)
unfolding Then
kept_exact h cx bs = reads_then (h cx bs) (λ x. reads_give _)

module _ (f : FindItems) (k : ItemsRule) (h : ExactItems f k) where
  decoration_exact : (name : Modifier) (args : List Arg) (tail : Tail) → ExactBuild (decoration f name args tail) (Decoration k name args tail)
  unfolding decoration Decoration Then
  decoration_exact name args tail cx bs = reads_then (reads_is _) (λ a. reads_then (reads_is _) (λ ss. reads_then (h ss cx bs) (λ x. reads_give _)))

  reader_call_exact : (name : Modifier) (args : List Arg) (tail : Tail) → ExactBuild (reader_call f name args tail) (ReaderCall k name args tail)
  unfolding reader_call ReaderCall Then
  reader_call_exact name args tail cx bs =
      reads_then (reads_is _) (λ e. reads_then (reads_is _) (λ key. reads_then (reads_is _) (λ c. reads_then (reader_exact h c.1 (local c.0 key.1 local_kind.Let) cx bs) (λ b. reads_give _))))

  content_exact : (m : Modifier) (args : List Arg) (tail : Tail) → ExactBuild (content_call f m args tail) (ContentCall k m args tail)
  unfolding content_call ContentCall
  content_exact modifier.Overlay args tail cx bs = decoration_exact modifier.Overlay args tail cx bs
  content_exact modifier.Background args tail cx bs = decoration_exact modifier.Background args tail cx bs
  content_exact modifier.OverlayReader args tail cx bs = reader_call_exact modifier.OverlayReader args tail cx bs
  content_exact modifier.BackgroundReader args tail cx bs = reader_call_exact modifier.BackgroundReader args tail cx bs
  content_exact modifier.OnAppear args tail cx bs = on_exact modifier.OnAppear args tail cx bs
  content_exact modifier.OnDisappear args tail cx bs = on_exact modifier.OnDisappear args tail cx bs
  content_exact modifier.OnTapGesture args tail cx bs = on_exact modifier.OnTapGesture args tail cx bs
  content_exact modifier.OnChange args tail cx bs = change_exact args tail cx bs
  content_exact modifier.OnPreferenceChange args tail cx bs = preference_change_exact args tail cx bs
  content_exact _ args tail cx bs = reads_none

  content_with_exact : (m : Modifier) (args : List Arg) (tail : Option Tail) → ExactBuild (content_with f m args tail) (ContentWith k m args tail)
  content_with_exact m args None cx bs = reads_none
  content_with_exact m args (Some tail) cx bs = kept_exact (content_exact m args tail) cx bs

  any_at_exact : (m : Modifier) (args : List Arg) (tail : Option Tail) (b : Bool) → ExactBuild (any_at f m args tail b) (any_rule k m args tail b)
  any_at_exact m args tail true = content_with_exact m args tail
  any_at_exact m args tail false = still_exact (value_call_exact m args tail)

  any_call_exact : (m : Modifier) (args : List Arg) (tail : Option Tail) → ExactBuild (any_call f m args tail) (AnyCall k m args tail)
  unfolding any_call AnyCall
  any_call_exact m args tail = any_at_exact m args tail (is_content m)

  modifier_exact : (p q : Part) → ExactBuild (find_modifier f p q) (ModifierRule k p q)
  unfolding find_modifier ModifierRule Then
  modifier_exact p q cx bs = reads_then (reads_is _) (λ w. reads_then (reads_is _) (λ c. reads_then (reads_is _) (λ m. any_call_exact m c.0 c.1 cx bs)))

  pub modifiers_exact : (done : List ModifierCall) (parts : List Part) → ExactBuild (find_modifiers f done parts) (ModifiersRule k done parts)
  unfolding find_modifiers ModifiersRule Then
  modifiers_exact done [] cx bs = reads_give _
  modifiers_exact done (p ∷ []) cx bs = reads_none
  modifiers_exact done (p ∷ q ∷ parts) cx bs = reads_then (modifier_exact p q cx bs) (λ x. modifiers_exact _ parts cx x.1)
