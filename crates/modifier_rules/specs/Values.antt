-- The modifiers whose arguments are values, and those that make no node.
use Rattle.std.specs.Prelude.{◌≡◌, ℕ, Bool, true, false, nat_lt, List, [], ◌∷◌, Option, Some, None, is_some, codes, slice_get, if◌then◌else◌}
use Rattle.std.specs.FinMap as fin
use Rattle.align_guides.specs.declared.GuideKind.{GuideKind}
use Rattle.align_guides.specs.declared.GuideExpr.{GuideExpr}
use Rattle.swift_ast.specs.declared.tree.Expr.{Expr}
use Rattle.swift_ast.specs.declared.tree.Arg.{Arg}
use Rattle.swift_ast.specs.declared.tree.Tail.{Tail}
use Rattle.swift_ast.specs.declared.tree.Closure.{out-Closure}
use Rattle.swift_core.specs.declared.ty.Ty.{Ty}
use Rattle.swift_core.specs.declared.term.Core.{Core}
use Rattle.swift_core.specs.declared.table.Table.{Table}
use Rattle.swift_core.specs.declared.table.Kind.{Kind}
use Rattle.swift_core.specs.declared.table.Kind.TheVariants as kind_of
use Rattle.swift_core.specs.declared.table.Declaration.{Declaration}
use Rattle.swift_core.specs.declared.item.ModifierCall.{ModifierCall}
use Rattle.swift_core.specs.declared.item.ModifierKind.TheVariants as kind
use Rattle.type_base.specs.Claims.{Reads, Then, and_then, reads_then, reads_give, reads_none, reads_is, reads_when, bool_is}
use Rattle.type_base.specs.Context.{Context}
use Rattle.type_base.specs.Names.{local_of, own_of, declaration_of}
use Rattle.type_base.specs.Rules.{PartRule, FindPart, ExactPart}
use Rattle.value_rules.specs.Values.{Typed, infer, infer_exact, TypedWanted, infer_wanted, wanted_exact}
use Rattle.modifier_rules.specs.Parts.{Word, sole_expr, plain_expr, labelled_expr, plain_value, path_at, word_of, key_word, implicit_of, qualified, sole_closure, sole_param, sole_statement}
use Rattle.modifier_rules.specs.Named.{guide_of}
use Rattle.modifier_rules.specs.Guides.{GuideOf, find_guide, guide_exact}
use Rattle.modifier_rules.specs.Arguments.{PlainCall, plain_call, plain_call_exact, call}
use Rattle.modifier_rules.specs.declared.names.Modifier.{Modifier}
use Rattle.modifier_rules.specs.declared.names.Modifier.TheVariants as modifier

-- ---- keys

-- the declaration of the name, where no local and no member of self has the name
abbrev pub free_declaration : Word → Context → Option (ℕ × Declaration)
free_declaration w cx = if is_some (local_of w cx) then None else (if is_some (own_of w cx) then None else declaration_of w cx.table)

abbrev pub key_at : Kind → Option ℕ
key_at (kind_of.Key n) = Some n
key_at _ = None

-- a preference key and the type of its value
abbrev pub numbered_key : Table → ℕ → Option (ℕ × Ty)
numbered_key table n = and_then {B = ℕ × Ty} (slice_get table.preferences n) (λ k. and_then {B = ℕ × Ty} k.ty (λ t. Some (n, t)))

abbrev pub key_named : Word → Context → Option (ℕ × Ty)
key_named w cx = and_then {B = ℕ × Ty} (free_declaration w cx) (λ d. and_then {B = ℕ × Ty} (key_at d.1.kind) (numbered_key cx.table))

-- K of `K.self`: its number among the preference keys, and the type of its value
unfoldable pub preference_key : Expr → Context → Option (ℕ × Ty)
preference_key e cx = and_then {B = ℕ × Ty} (key_word e) (λ w. key_named w cx)

abbrev pub declared_key : Table → ℕ → Option (ℕ × Ty)
declared_key table n = and_then {B = ℕ × Ty} (slice_get table.environment n) (λ k. and_then {B = ℕ × Ty} k.ty (λ t. Some (n, t)))

-- an environment key that the program declares, and the type of its value: key 0 is built in
unfoldable pub environment_key : Word → Table → Option (ℕ × Ty)
environment_key w table =
    and_then {B = ℕ × Ty} (fin.get table.keys w) (λ n.
    if nat_lt 0 n then declared_key table n else None)

-- ---- arguments

-- the name behind `\.` of an argument without a label
abbrev pub path_in : Arg → Option Word
path_in a = and_then (plain_value a) (λ v. and_then (path_at v) word_of)

-- `(\.k, v)`
abbrev pub environment_arguments : List Arg → Option (Word × Expr)
environment_arguments (a ∷ b ∷ []) = and_then {B = Word × Expr} (path_in a) (λ k. and_then {B = Word × Expr} (plain_expr b) (λ e. Some (k, e)))
environment_arguments _ = None

-- `(key: K.self, value: v)`
abbrev pub preference_arguments : List Arg → Option (Expr × Expr)
preference_arguments (a ∷ b ∷ []) = and_then {B = Expr × Expr} (labelled_expr (codes "key") a) (λ k. and_then {B = Expr × Expr} (labelled_expr (codes "value") b) (λ e. Some (k, e)))
preference_arguments _ = None

-- the parameter and the one expression of a closure
abbrev pub guide_closure : Tail → Option (Word × Expr)
guide_closure t =
    and_then {B = Word × Expr} (sole_closure t) (λ c.
    and_then {B = Word × Expr} (sole_param c) (λ w.
    and_then {B = Word × Expr} (sole_statement (out-Closure c).body) (λ e.
    Some (w, e))))

abbrev pub guide_argument : List Arg → Option GuideKind
guide_argument args = and_then (sole_expr args) guide_of

-- `.name` or `Name.name`, which is not looked up
abbrev pub is_style : Expr → Bool
is_style e = if is_some (implicit_of e) then true else is_some (qualified e)

abbrev pub style_argument : List Arg → Option Bool
style_argument args = and_then (sole_expr args) (λ e. if is_style e then Some true else None)

-- ---- rules

-- `.id(v)`
unfoldable pub IdCall : List Arg → PartRule ModifierCall
IdCall args cx r =
    (e : Expr) × (sole_expr args ≡ Some e) ×
    ((x : Core × Ty) × Typed e cx None x ×
    (r ≡ call kind.Id (Some x.0 ∷ []) []))

unfoldable pub id_call : List Arg → FindPart ModifierCall
id_call args cx = and_then (sole_expr args) (λ e. and_then (infer e cx None) (λ x. Some (call kind.Id (Some x.0 ∷ []) [])))

-- `.environment(\.k, v)`
unfoldable pub EnvironmentCall : List Arg → PartRule ModifierCall
EnvironmentCall args cx r =
    (x : Word × Expr) × (environment_arguments args ≡ Some x) ×
    ((k : ℕ × Ty) × (environment_key x.0 cx.table ≡ Some k) ×
    ((c : Core) × TypedWanted x.1 k.1 cx c ×
    (r ≡ call (kind.Environment k.0) (Some c ∷ []) [])))

unfoldable pub environment_call : List Arg → FindPart ModifierCall
environment_call args cx =
    and_then (environment_arguments args) (λ x.
    and_then (environment_key x.0 cx.table) (λ k.
    and_then (infer_wanted x.1 k.1 cx) (λ c.
    Some (call (kind.Environment k.0) (Some c ∷ []) []))))

-- `.preference(key: K.self, value: v)`
unfoldable pub PreferenceCall : List Arg → PartRule ModifierCall
PreferenceCall args cx r =
    (x : Expr × Expr) × (preference_arguments args ≡ Some x) ×
    ((k : ℕ × Ty) × (preference_key x.0 cx ≡ Some k) ×
    ((c : Core) × TypedWanted x.1 k.1 cx c ×
    (r ≡ call (kind.Preference k.0) (Some c ∷ []) [])))

unfoldable pub preference_call : List Arg → FindPart ModifierCall
preference_call args cx =
    and_then (preference_arguments args) (λ x.
    and_then (preference_key x.0 cx) (λ k.
    and_then (infer_wanted x.1 k.1 cx) (λ c.
    Some (call (kind.Preference k.0) (Some c ∷ []) []))))

-- `.alignmentGuide(a) { d in E }`
unfoldable pub GuideCall : List Arg → Tail → PartRule ModifierCall
GuideCall args tail cx r =
    (k : GuideKind) × (guide_argument args ≡ Some k) ×
    ((x : Word × Expr) × (guide_closure tail ≡ Some x) ×
    ((g : GuideExpr) × GuideOf x.0 x.1 g ×
    (r ≡ call (kind.AlignmentGuide k g) [] [])))

unfoldable pub guide_call : List Arg → Tail → FindPart ModifierCall
guide_call args tail cx =
    and_then (guide_argument args) (λ k.
    and_then (guide_closure tail) (λ x.
    and_then (find_guide x.0 x.1) (λ g.
    Some (call (kind.AlignmentGuide k g) [] []))))

abbrev pub Kept : PartRule ModifierCall → PartRule (Option ModifierCall)
Kept R cx r = (c : ModifierCall) × R cx c × (r ≡ Some c)

abbrev pub kept : Option ModifierCall → Option (Option ModifierCall)
kept o = and_then {B = Option ModifierCall} o (λ c. Some (Some c))

abbrev pub is_empty : List Arg → Bool
is_empty [] = true
is_empty (a ∷ rest) = false

-- a modifier whose arguments are values: its call, or none where it makes no node
unfoldable pub ValueCall : Modifier → List Arg → Option Tail → PartRule (Option ModifierCall)
ValueCall (modifier.Plain p) args None cx r = Kept (PlainCall p args) cx r
ValueCall modifier.Id args None cx r = Kept (IdCall args) cx r
ValueCall modifier.Environment args None cx r = Kept (EnvironmentCall args) cx r
ValueCall modifier.Preference args None cx r = Kept (PreferenceCall args) cx r
ValueCall modifier.AlignmentGuide args (Some tail) cx r = Kept (GuideCall args tail) cx r
ValueCall modifier.Bold args None cx r = (is_empty args ≡ true) × (r ≡ None)
ValueCall modifier.Style args None cx r = (b : Bool) × (style_argument args ≡ Some b) × (r ≡ None)
ValueCall _ args tail cx r = ⊥

unfoldable pub value_call : Modifier → List Arg → Option Tail → FindPart (Option ModifierCall)
value_call (modifier.Plain p) args None cx = kept (plain_call p args cx)
value_call modifier.Id args None cx = kept (id_call args cx)
value_call modifier.Environment args None cx = kept (environment_call args cx)
value_call modifier.Preference args None cx = kept (preference_call args cx)
value_call modifier.AlignmentGuide args (Some tail) cx = kept (guide_call args tail cx)
value_call modifier.Bold args None cx = if is_empty args then Some None else None
value_call modifier.Style args None cx = and_then {B = Option ModifierCall} (style_argument args) (λ b. Some None)
value_call _ args tail cx = None

-- ---- laws

id_exact : (args : List Arg) → ExactPart (id_call args) (IdCall args)
unfolding id_call IdCall Then
id_exact args cx = reads_then (reads_is _) (λ e. reads_then (infer_exact e cx None) (λ x. reads_give _))

environment_exact : (args : List Arg) → ExactPart (environment_call args) (EnvironmentCall args)
unfolding environment_call EnvironmentCall Then
environment_exact args cx = reads_then (reads_is _) (λ x. reads_then (reads_is _) (λ k. reads_then (wanted_exact x.1 k.1 cx) (λ c. reads_give _)))

preference_exact : (args : List Arg) → ExactPart (preference_call args) (PreferenceCall args)
unfolding preference_call PreferenceCall Then
preference_exact args cx = reads_then (reads_is _) (λ x. reads_then (reads_is _) (λ k. reads_then (wanted_exact x.1 k.1 cx) (λ c. reads_give _)))

guide_call_exact : (args : List Arg) (tail : Tail) → ExactPart (guide_call args tail) (GuideCall args tail)
unfolding guide_call GuideCall Then
guide_call_exact args tail cx = reads_then (reads_is _) (λ k. reads_then (reads_is _) (λ x. reads_then (guide_exact x.0 x.1) (λ g. reads_give _)))

pub kept_exact : {f : FindPart ModifierCall} {R : PartRule ModifierCall} → ExactPart f R → (cx : Context) → Reads (kept (f cx)) (Kept R cx)
unfolding Then
kept_exact h cx = reads_then (h cx) (λ c. reads_give _)

pub value_call_exact : (m : Modifier) (args : List Arg) (tail : Option Tail) → ExactPart (value_call m args tail) (ValueCall m args tail)
unfolding value_call ValueCall Then
value_call_exact (modifier.Plain p) args None cx = kept_exact (plain_call_exact p args) cx
value_call_exact modifier.Id args None cx = kept_exact (id_exact args) cx
value_call_exact modifier.Environment args None cx = kept_exact (environment_exact args) cx
value_call_exact modifier.Preference args None cx = kept_exact (preference_exact args) cx
value_call_exact modifier.AlignmentGuide args (Some tail) cx = kept_exact (guide_call_exact args tail) cx
value_call_exact modifier.Bold args None cx = reads_when bool_is (reads_give _)
value_call_exact modifier.Style args None cx = reads_then (reads_is _) (λ b. reads_give _)
value_call_exact _ args tail cx = reads_none
