-- Arguments: of functions and of initialisers, and what each call becomes of them. `k` is the rule of the expressions
-- inside, and `f` the search of it.
-- After The Swift Programming Language, 'Function Call Expression', 'Functions' and 'Initialization'.
use Rattle.std.specs.Prelude.{◌≡◌, ℕ, Bool, true, false, List, [], ◌∷◌, ◌++◌, Option, Some, None, slice_get, codes, if◌then◌else◌, ◌⊎◌}
use Rattle.value_calls.specs.declared.operators.Arithmetic.TheVariants as arithmetic
use Rattle.value_calls.specs.declared.operators.Operator.TheVariants as operator
use Rattle.value_calls.specs.declared.operators.Unary.TheVariants as prefix
use Rattle.swift_ast.specs.declared.tree.Arg.{Arg}
use Rattle.swift_ast.specs.declared.tree.Expr.{Expr}
use Rattle.swift_core.specs.declared.ids.CodeId.{CodeId}
use Rattle.swift_core.specs.declared.table.Argument.{Argument}
use Rattle.swift_core.specs.declared.table.Argument.TheVariants as argument
use Rattle.swift_core.specs.declared.table.Declaration.{Declaration}
use Rattle.swift_core.specs.declared.table.Initial.{Initial}
use Rattle.swift_core.specs.declared.table.Initial.TheVariants.{Written, Nil}
use Rattle.swift_core.specs.declared.table.Kind.{Kind}
use Rattle.swift_core.specs.declared.table.Kind.TheVariants as kind
use Rattle.swift_core.specs.declared.table.ParamSignature.{ParamSignature}
use Rattle.swift_core.specs.declared.table.Signature.{Signature}
use Rattle.swift_core.specs.declared.table.SignatureForm.{SignatureForm}
use Rattle.swift_core.specs.declared.table.SignatureForm.TheVariants as form
use Rattle.swift_core.specs.declared.table.Table.{Table}
use Rattle.swift_core.specs.declared.term.Binary.TheVariants as binary
use Rattle.swift_core.specs.declared.term.Change.{Change}
use Rattle.swift_core.specs.declared.term.ChangeCall.{ChangeCall}
use Rattle.swift_core.specs.declared.term.ChangeCall.TheVariants as calls
use Rattle.swift_core.specs.declared.term.Core.{Core}
use Rattle.swift_core.specs.declared.term.Core.TheVariants as core
use Rattle.swift_core.specs.declared.term.Filling.{Filling}
use Rattle.swift_core.specs.declared.term.Filling.TheVariants as filling
use Rattle.swift_core.specs.declared.term.Invocation.{Invocation}
use Rattle.swift_core.specs.declared.term.Lookup.TheVariants as lookup
use Rattle.swift_core.specs.declared.term.Receiver.{Receiver}
use Rattle.swift_core.specs.declared.term.Target.{Target}
use Rattle.swift_core.specs.declared.term.Unary.TheVariants as unary
use Rattle.swift_core.specs.declared.ty.Ty.{Ty, out-Ty}
use Rattle.swift_core.specs.declared.ty.Ty.TheOpen.{Ty-F}
use Rattle.swift_core.specs.declared.ty.Ty.TheVariants as ty
use Rattle.swift_core.specs.Types.{same_ty, same_ty_decides}
use Rattle.type_base.specs.Claims.{Then, and_then, when, bool_is, reads_give, reads_none, reads_is, reads_then, reads_when, reads_cases}
use Rattle.type_base.specs.Promotion.{Wanted, wanted, wanted_exact}
use Rattle.type_base.specs.Rules.{Rule, Infer, Exact, PartRule, FindPart, ExactPart}
use Rattle.post_rules.specs.declared.chained.BuiltIn.{BuiltIn}
use Rattle.post_rules.specs.declared.chained.BuiltIn.TheVariants as built_in
use Rattle.post_rules.specs.declared.chained.Chained.{Chained}
use Rattle.post_rules.specs.declared.chained.Chained.TheVariants as chained
use Rattle.post_rules.specs.declared.chained.Effect.TheVariants as effect
use Rattle.post_rules.specs.declared.chained.Method.{Method}
use Rattle.post_rules.specs.declared.chained.Method.TheVariants as method
use Rattle.post_rules.specs.Places.{invocation, change}
use Rattle.post_rules.specs.Syntax.{expr_of, label_of, same_label, same_label_decides, is_labelled}

-- ---- arguments

-- the arguments of a function with these parameters: the labels are the same, and each value has the type of its parameter
unfoldable pub ArgumentsRule : (Expr → Rule) → List ParamSignature → List Arg → PartRule (List Core)
ArgumentsRule k [] [] cx cs = cs ≡ []
ArgumentsRule k [] (a ∷ args) cx cs = ⊥
ArgumentsRule k (p ∷ ps) [] cx cs = ⊥
ArgumentsRule k (p ∷ ps) (a ∷ args) cx cs =
    (label_of a ≡ p.label) ×
    ((t : Ty) × (p.ty ≡ Some t) ×
    ((e : Expr) × (expr_of a ≡ Some e) ×
    ((c : Core) × Wanted (k e) cx t c ×
    ((rest : List Core) × ArgumentsRule k ps args cx rest ×
    (cs ≡ c ∷ rest)))))

unfoldable pub find_arguments : (Expr → Infer) → List ParamSignature → List Arg → FindPart (List Core)
find_arguments f [] [] cx = Some []
find_arguments f [] (a ∷ args) cx = None
find_arguments f (p ∷ ps) [] cx = None
find_arguments f (p ∷ ps) (a ∷ args) cx =
    when (same_label (label_of a) p.label) (
    and_then p.ty (λ t.
    and_then (expr_of a) (λ e.
    and_then (wanted (f e) cx t) (λ c.
    and_then (find_arguments f ps args cx) (λ rest.
    Some (c ∷ rest))))))

-- ---- initialisers

-- what a member asks of the arguments of the initialiser
pub data Need : Type 0 where
  nothing : Need  -- it is no property that an initialiser fills
  never : Filling → Need  -- it is no argument
  may : Option Ty → Filling → Need  -- it may be left out
  must : Option Ty → Need  -- it is always given
  place : Option Ty → Need  -- it takes a binding

abbrev pub initial_filling : CodeId → Initial → Filling
initial_filling code Written = filling.Initial code
initial_filling code Nil = filling.Nil

abbrev pub need_by : CodeId → Option Ty → Argument → Need
need_by code t argument.Required = must t
need_by code t (argument.Optional initial) = may t (initial_filling code initial)
need_by code t (argument.Never initial) = never (initial_filling code initial)

abbrev pub need_at : CodeId → SignatureForm → Need
need_at code (form.Stored at binder t rule) = need_by code t rule
need_at code (form.State at t rule) = need_by code t rule
need_at code (form.Binding at t) = place t
need_at code _ = nothing

abbrev pub need_of : Signature → Need
need_of m = need_at m.code m.form

-- what fills a property, if it is filled, and whether an argument is taken for it
abbrev pub Filled : Type 0
Filled = Option Filling × Bool

abbrev pub added : Option Filling → List Filling
added None = []
added (Some f) = f ∷ []

abbrev pub left : Bool → List Arg → List Arg
left true (a ∷ args) = args
left _ args = args

-- a value of the property's type
unfoldable pub Given : (Expr → Rule) → Option Ty → Arg → PartRule Filled
Given k ty a cx r =
    (t : Ty) × (ty ≡ Some t) ×
    ((e : Expr) × (expr_of a ≡ Some e) ×
    ((c : Core) × Wanted (k e) cx t c ×
    (r ≡ (Some (filling.Given c), true))))

unfoldable pub find_given : (Expr → Infer) → Option Ty → Arg → FindPart Filled
find_given f ty a cx =
    and_then ty (λ t.
    and_then (expr_of a) (λ e.
    and_then (wanted (f e) cx t) (λ c.
    Some (Some (filling.Given c), true))))

-- a binding to a value of the property's type
unfoldable pub Bound : (Expr → PartRule (Target × Ty)) → Option Ty → Arg → PartRule Filled
Bound b ty a cx r =
    (t : Ty) × (ty ≡ Some t) ×
    ((e : Expr) × (expr_of a ≡ Some e) ×
    ((p : Target × Ty) × b e cx p ×
    ((p.1 ≡ t) ×
    (r ≡ (Some (filling.Place p.0), true)))))

unfoldable pub find_bound : (Expr → FindPart (Target × Ty)) → Option Ty → Arg → FindPart Filled
find_bound b ty a cx =
    and_then ty (λ t.
    and_then (expr_of a) (λ e.
    and_then (b e cx) (λ p.
    when (same_ty p.1 t) (
    Some (Some (filling.Place p.0), true)))))

-- what fills a property of this name, by the arguments that are left
unfoldable pub FilledBy : (Expr → Rule) → (Expr → PartRule (Target × Ty)) → Need → List ℕ → List Arg → PartRule Filled
FilledBy k b nothing w args cx r = r ≡ (None, false)
FilledBy k b (never x) w args cx r = r ≡ (Some x, false)
FilledBy k b (may t x) w [] cx r = r ≡ (Some x, false)
FilledBy k b (may t x) w (a ∷ args) cx r =
    ((label_of a ≡ Some w) × Given k t a cx r) ⊎ (((label_of a ≡ Some w) → ⊥) × (r ≡ (Some x, false)))
FilledBy k b (must t) w [] cx r = ⊥
FilledBy k b (must t) w (a ∷ args) cx r = (label_of a ≡ Some w) × Given k t a cx r
FilledBy k b (place t) w [] cx r = ⊥
FilledBy k b (place t) w (a ∷ args) cx r = (label_of a ≡ Some w) × Bound b t a cx r

unfoldable pub find_filled : (Expr → Infer) → (Expr → FindPart (Target × Ty)) → Need → List ℕ → List Arg → FindPart Filled
find_filled f b nothing w args cx = Some (None, false)
find_filled f b (never x) w args cx = Some (Some x, false)
find_filled f b (may t x) w [] cx = Some (Some x, false)
find_filled f b (may t x) w (a ∷ args) cx = if same_label (label_of a) (Some w) then find_given f t a cx else Some (Some x, false)
find_filled f b (must t) w [] cx = None
find_filled f b (must t) w (a ∷ args) cx = when (same_label (label_of a) (Some w)) (find_given f t a cx)
find_filled f b (place t) w [] cx = None
find_filled f b (place t) w (a ∷ args) cx = when (same_label (label_of a) (Some w)) (find_bound b t a cx)

-- the properties in order, each with the arguments that are left; at the end none is left
unfoldable pub FillingsOf : (Expr → Rule) → (Expr → PartRule (Target × Ty)) → List Signature → List Arg → PartRule (List Filling)
FillingsOf k b [] [] cx r = r ≡ []
FillingsOf k b [] (a ∷ args) cx r = ⊥
FillingsOf k b (m ∷ ms) args cx r =
    (x : Filled) × FilledBy k b (need_of m) m.name args cx x ×
    ((rest : List Filling) × FillingsOf k b ms (left x.1 args) cx rest ×
    (r ≡ added x.0 ++ rest))

unfoldable pub find_fillings_of : (Expr → Infer) → (Expr → FindPart (Target × Ty)) → List Signature → List Arg → FindPart (List Filling)
find_fillings_of f b [] [] cx = Some []
find_fillings_of f b [] (a ∷ args) cx = None
find_fillings_of f b (m ∷ ms) args cx =
    and_then (find_filled f b (need_of m) m.name args cx) (λ x.
    and_then (find_fillings_of f b ms (left x.1 args) cx) (λ rest.
    Some (added x.0 ++ rest)))

-- what fills the properties of a declaration
unfoldable pub FillingsBy : (Expr → Rule) → (Expr → PartRule (Target × Ty)) → ℕ → List Arg → PartRule (List Filling)
FillingsBy k b d args cx r = (declaration : Declaration) × (slice_get cx.table.declarations d ≡ Some declaration) × FillingsOf k b declaration.members args cx r

unfoldable pub find_fillings_by : (Expr → Infer) → (Expr → FindPart (Target × Ty)) → ℕ → List Arg → FindPart (List Filling)
find_fillings_by f b d args cx = and_then (slice_get cx.table.declarations d) (λ declaration. find_fillings_of f b declaration.members args cx)

-- ---- the table of built-in calls: their parameters, and what they become

abbrev pub unlabelled : Ty → ParamSignature
unlabelled t = record { label = None; ty = Some t }

abbrev pub labelled : List ℕ → Ty → ParamSignature
labelled w t = record { label = Some w; ty = Some t }

-- the functions of a list of elements of this type; `append` stands twice, with a label and without
abbrev pub method_parameters : Method → Bool → Ty → List ParamSignature
method_parameters method.Contains b t = unlabelled t ∷ []
method_parameters method.FirstIndex b t = labelled (codes "of") t ∷ []
method_parameters method.Append false t = unlabelled t ∷ []
method_parameters method.Append true t = labelled (codes "contentsOf") (ty.List t) ∷ []
method_parameters method.Insert b t = unlabelled t ∷ labelled (codes "at") ty.Int ∷ []
method_parameters method.Remove b t = labelled (codes "at") ty.Int ∷ []
method_parameters method.RemoveFirst b t = []
method_parameters method.RemoveLast b t = []
method_parameters method.RemoveAll b t = []
method_parameters method.SwapAt b t = unlabelled ty.Int ∷ unlabelled ty.Int ∷ []

abbrev pub asked : Method → Core → List Core → Option Chained
asked method.Contains c (x ∷ []) = Some (chained.Value (core.Binary binary.Contains c x) ty.Bool)
asked method.FirstIndex c (x ∷ []) = Some (chained.Value (core.Binary binary.FirstIndex c x) (ty.Optional ty.Int))
asked _ c _ = None

abbrev pub change_call : Method → Bool → List Core → Option ChangeCall
change_call method.Append false (x ∷ []) = Some (calls.Append x)
change_call method.Append true (x ∷ []) = Some (calls.AppendAll x)
change_call method.Insert b (x ∷ i ∷ []) = Some (calls.Insert x i)
change_call method.Remove b (i ∷ []) = Some (calls.Remove i)
change_call method.RemoveFirst b [] = Some calls.RemoveFirst
change_call method.RemoveLast b [] = Some calls.RemoveLast
change_call method.RemoveAll b [] = Some calls.RemoveAll
change_call method.SwapAt b (i ∷ j ∷ []) = Some (calls.SwapAt i j)
change_call _ b _ = None

-- what is taken out of a list is the value of the call
abbrev pub method_result : Method → Ty → Option Ty
method_result method.Remove t = Some t
method_result method.RemoveFirst t = Some t
method_result method.RemoveLast t = Some t
method_result _ t = None

-- the functions that stand alone; `String(x)` of any value is not among them
abbrev pub built_in_parameters : BuiltIn → List ParamSignature
built_in_parameters built_in.Absolute = unlabelled ty.Int ∷ []
built_in_parameters built_in.Text = labelled (codes "repeating") ty.Text ∷ labelled (codes "count") ty.Int ∷ []
built_in_parameters _ = unlabelled ty.Int ∷ unlabelled ty.Int ∷ []

abbrev pub built_in_called : BuiltIn → List Core → Option Chained
built_in_called built_in.Absolute (x ∷ []) = Some (chained.Value (core.Unary (unary.Operate prefix.Absolute) x) ty.Int)
built_in_called built_in.Text (x ∷ n ∷ []) = Some (chained.Value (core.Binary binary.Repeat x n) ty.Text)
built_in_called built_in.Min (x ∷ y ∷ []) = Some (chained.Value (core.Binary (binary.Operate (operator.Compute arithmetic.Min)) x y) ty.Int)
built_in_called built_in.Max (x ∷ y ∷ []) = Some (chained.Value (core.Binary (binary.Operate (operator.Compute arithmetic.Max)) x y) ty.Int)
built_in_called _ _ = None

abbrev pub described_at : Core → Ty-F Ty → Option Chained
described_at c Ty-F.Int = Some (chained.Value (core.Unary (unary.Operate prefix.Describe) c) ty.Text)
described_at c Ty-F.Bool = Some (chained.Value (core.Unary (unary.Operate prefix.Describe) c) ty.Text)
described_at c _ = None

-- ---- functions of the program

pub record Callee : Type 0 where
  pub code : CodeId
  pub parameters : List ParamSignature
  pub result : Option Ty

abbrev pub callee_by : CodeId → SignatureForm → Option Callee
callee_by code (form.Function parameters result is_mutating) = Some (record { code = code; parameters = parameters; result = result })
callee_by code _ = None

abbrev pub callee_in : Option Signature → Option Callee
callee_in None = None
callee_in (Some m) = callee_by m.code m.form

-- the function at this place among the members of a declaration
unfoldable pub callee_at : Table → ℕ → ℕ → Option Callee
callee_at table d m = and_then (slice_get table.declarations d) (λ (declaration : Declaration). callee_in (slice_get declaration.members m))

abbrev pub after_call : Invocation → Option Ty → Chained
after_call i None = chained.Effect (effect.Invoke i)
after_call i (Some t) = chained.Value (core.Invoke i) t

abbrev pub after_change : Change → Option Ty → Chained
after_change x None = chained.Effect (effect.Change x)
after_change x (Some t) = chained.Value (core.Change x) t

abbrev pub changed : Target → Ty → Method → Bool → List Core → Option Chained
changed p t m b cs = and_then (change_call m b cs) (λ call. Some (after_change (change p call) (method_result m t)))

-- ---- calls

-- a call with these parameters, and what is made of its arguments
unfoldable pub Called : (Expr → Rule) → List ParamSignature → (List Core → Option Chained) → List Arg → PartRule Chained
Called k ps make args cx r = (cs : List Core) × ArgumentsRule k ps args cx cs × (make cs ≡ Some r)

unfoldable pub find_called : (Expr → Infer) → List ParamSignature → (List Core → Option Chained) → List Arg → FindPart Chained
find_called f ps make args cx = and_then (find_arguments f ps args cx) make

-- `String(x)` of a number or a truth value
unfoldable pub Described : (Expr → Rule) → List Arg → PartRule Chained
Described k [] cx r = ⊥
Described k (a ∷ b ∷ args) cx r = ⊥
Described k (a ∷ []) cx r =
    (e : Expr) × (expr_of a ≡ Some e) ×
    ((x : Core × Ty) × k e cx None x ×
    (described_at x.0 (out-Ty x.1) ≡ Some r))

unfoldable pub find_described : (Expr → Infer) → List Arg → FindPart Chained
find_described f [] cx = None
find_described f (a ∷ b ∷ args) cx = None
find_described f (a ∷ []) cx = and_then (expr_of a) (λ e. and_then (f e cx None) (λ x. described_at x.0 (out-Ty x.1)))

-- a data struct that is made by its initialiser
abbrev pub is_data_struct : Kind → Bool
is_data_struct (kind.Data identifiable) = true
is_data_struct _ = false

unfoldable pub Made : (Expr → Rule) → (Expr → PartRule (Target × Ty)) → ℕ → List Arg → PartRule Chained
Made k b d args cx r =
    (declaration : Declaration) × (slice_get cx.table.declarations d ≡ Some declaration) ×
    ((is_data_struct declaration.kind ≡ true) ×
    ((fillings : List Filling) × FillingsOf k b declaration.members args cx fillings ×
    (r ≡ chained.Value (core.Make d fillings) (ty.Named d))))

unfoldable pub find_made : (Expr → Infer) → (Expr → FindPart (Target × Ty)) → ℕ → List Arg → FindPart Chained
find_made f b d args cx =
    and_then (slice_get cx.table.declarations d) (λ declaration.
    when (is_data_struct declaration.kind) (
    and_then (find_fillings_of f b declaration.members args cx) (λ fillings.
    Some (chained.Value (core.Make d fillings) (ty.Named d)))))

-- a function of the program
unfoldable pub Used : (Expr → Rule) → ℕ → ℕ → (Callee → List Core → Chained) → List Arg → PartRule Chained
Used k d m make args cx r = (used : Callee) × (callee_at cx.table d m ≡ Some used) × Called k used.parameters (λ cs. Some (make used cs)) args cx r

unfoldable pub find_used : (Expr → Infer) → ℕ → ℕ → (Callee → List Core → Chained) → List Arg → FindPart Chained
find_used f d m make args cx = and_then (callee_at cx.table d m) (λ used. find_called f used.parameters (λ cs. Some (make used cs)) args cx)

abbrev pub function_called : Receiver → Callee → List Core → Chained
function_called receiver used cs = after_call (invocation used.code receiver cs) used.result

abbrev pub mutating_called : Target → Callee → List Core → Chained
mutating_called p used cs = after_change (change p (calls.Mutate used.code cs)) used.result

abbrev pub no_arguments : Chained → List Core → Option Chained
no_arguments r [] = Some r
no_arguments r (c ∷ cs) = None

-- a built-in function that stands alone; `String` has two, and `Int` is none
unfoldable pub BuiltInCall : (Expr → Rule) → BuiltIn → Bool → List Arg → PartRule Chained
BuiltInCall k built_in.Int b args cx r = ⊥
BuiltInCall k built_in.Text false args cx r = Described k args cx r
BuiltInCall k called b args cx r = Called k (built_in_parameters called) (built_in_called called) args cx r

unfoldable pub find_built_in_call : (Expr → Infer) → BuiltIn → Bool → List Arg → FindPart Chained
find_built_in_call f built_in.Int b args cx = None
find_built_in_call f built_in.Text false args cx = find_described f args cx
find_built_in_call f called b args cx = find_called f (built_in_parameters called) (built_in_called called) args cx

-- `(arguments)` behind what the chain is so far
unfoldable pub CallRule : (Expr → Rule) → (Expr → PartRule (Target × Ty)) → Chained → List Arg → PartRule Chained
CallRule k b (chained.Named d) args cx r = Made k b d args cx r
CallRule k b (chained.BuiltIn called) args cx r = BuiltInCall k called (is_labelled args) args cx r
CallRule k b (chained.Next at t) args cx r = Called k [] (no_arguments (chained.Value (core.Look (lookup.Local at)) t)) args cx r
CallRule k b (chained.Function receiver d m) args cx r = Used k d m (function_called receiver) args cx r
CallRule k b (chained.Mutating p d m) args cx r = Used k d m (mutating_called p) args cx r
CallRule k b (chained.Asks c t m) args cx r = Called k (method_parameters m (is_labelled args) t) (asked m c) args cx r
CallRule k b (chained.Changes p t m) args cx r = Called k (method_parameters m (is_labelled args) t) (changed p t m (is_labelled args)) args cx r
CallRule k b (chained.Toggles p) args cx r = Called k [] (no_arguments (chained.Effect (effect.Change (change p calls.Toggle)))) args cx r
CallRule k b _ args cx r = ⊥

unfoldable pub find_call : (Expr → Infer) → (Expr → FindPart (Target × Ty)) → Chained → List Arg → FindPart Chained
find_call f b (chained.Named d) args cx = find_made f b d args cx
find_call f b (chained.BuiltIn called) args cx = find_built_in_call f called (is_labelled args) args cx
find_call f b (chained.Next at t) args cx = find_called f [] (no_arguments (chained.Value (core.Look (lookup.Local at)) t)) args cx
find_call f b (chained.Function receiver d m) args cx = find_used f d m (function_called receiver) args cx
find_call f b (chained.Mutating p d m) args cx = find_used f d m (mutating_called p) args cx
find_call f b (chained.Asks c t m) args cx = find_called f (method_parameters m (is_labelled args) t) (asked m c) args cx
find_call f b (chained.Changes p t m) args cx = find_called f (method_parameters m (is_labelled args) t) (changed p t m (is_labelled args)) args cx
find_call f b (chained.Toggles p) args cx = find_called f [] (no_arguments (chained.Effect (effect.Change (change p calls.Toggle)))) args cx
find_call f b _ args cx = None

-- ---- the searches find what the rules relate

module _ (f : Expr → Infer) (k : Expr → Rule) (exact : (e : Expr) → Exact (f e) (k e)) where
  pub arguments_exact : (ps : List ParamSignature) (args : List Arg) → ExactPart (find_arguments f ps args) (ArgumentsRule k ps args)
  unfolding find_arguments ArgumentsRule Then
  arguments_exact [] [] cx = reads_give _
  arguments_exact [] (a ∷ args) cx = reads_none
  arguments_exact (p ∷ ps) [] cx = reads_none
  arguments_exact (p ∷ ps) (a ∷ args) cx =
      reads_when (same_label_decides (label_of a) p.label) (reads_then (reads_is _) (λ t. reads_then (reads_is _) (λ e.
      reads_then (wanted_exact (exact e) cx t) (λ c. reads_then (arguments_exact ps args cx) (λ rest. reads_give _)))))

  pub called_exact : (ps : List ParamSignature) (make : List Core → Option Chained) (args : List Arg) → ExactPart (find_called f ps make args) (Called k ps make args)
  unfolding find_called Called Then
  called_exact ps make args cx = reads_then (arguments_exact ps args cx) (λ cs. reads_is _)

  pub described_exact : (args : List Arg) → ExactPart (find_described f args) (Described k args)
  unfolding find_described Described Then
  described_exact [] cx = reads_none
  described_exact (a ∷ b ∷ args) cx = reads_none
  described_exact (a ∷ []) cx = reads_then (reads_is _) (λ e. reads_then (exact e cx None) (λ x. reads_is _))

  pub used_exact : (d m : ℕ) (make : Callee → List Core → Chained) (args : List Arg) → ExactPart (find_used f d m make args) (Used k d m make args)
  unfolding find_used Used Then
  used_exact d m make args cx = reads_then (reads_is _) (λ used. called_exact used.parameters (λ cs. Some (make used cs)) args cx)

  pub built_in_call_exact : (called : BuiltIn) (b : Bool) (args : List Arg) → ExactPart (find_built_in_call f called b args) (BuiltInCall k called b args)
  unfolding find_built_in_call BuiltInCall
  built_in_call_exact built_in.Int b args cx = reads_none
  built_in_call_exact built_in.Text false args cx = described_exact args cx
  built_in_call_exact built_in.Text true args cx = called_exact _ _ args cx
  built_in_call_exact built_in.Absolute b args cx = called_exact _ _ args cx
  built_in_call_exact built_in.Min b args cx = called_exact _ _ args cx
  built_in_call_exact built_in.Max b args cx = called_exact _ _ args cx

  given_exact : (t : Option Ty) (a : Arg) → ExactPart (find_given f t a) (Given k t a)
  unfolding find_given Given Then
  given_exact t a cx = reads_then (reads_is _) (λ u. reads_then (reads_is _) (λ e. reads_then (wanted_exact (exact e) cx u) (λ c. reads_give _)))

  module _ (g : Expr → FindPart (Target × Ty)) (b : Expr → PartRule (Target × Ty)) (binds : (e : Expr) → ExactPart (g e) (b e)) where
    bound_exact : (t : Option Ty) (a : Arg) → ExactPart (find_bound g t a) (Bound b t a)
    unfolding find_bound Bound Then
    bound_exact t a cx = reads_then (reads_is _) (λ u. reads_then (reads_is _) (λ e. reads_then (binds e cx) (λ p. reads_when (same_ty_decides p.1 u) (reads_give _))))

    pub filled_exact : (need : Need) (w : List ℕ) (args : List Arg) → ExactPart (find_filled f g need w args) (FilledBy k b need w args)
    unfolding find_filled FilledBy
    filled_exact nothing w args cx = reads_give _
    filled_exact (never x) w args cx = reads_give _
    filled_exact (may t x) w [] cx = reads_give _
    filled_exact (may t x) w (a ∷ args) cx = reads_cases (same_label_decides (label_of a) (Some w)) (given_exact t a cx) (reads_give _)
    filled_exact (must t) w [] cx = reads_none
    filled_exact (must t) w (a ∷ args) cx = reads_when (same_label_decides (label_of a) (Some w)) (given_exact t a cx)
    filled_exact (place t) w [] cx = reads_none
    filled_exact (place t) w (a ∷ args) cx = reads_when (same_label_decides (label_of a) (Some w)) (bound_exact t a cx)

    pub fillings_of_exact : (ms : List Signature) (args : List Arg) → ExactPart (find_fillings_of f g ms args) (FillingsOf k b ms args)
    unfolding find_fillings_of FillingsOf Then
    fillings_of_exact [] [] cx = reads_give _
    fillings_of_exact [] (a ∷ args) cx = reads_none
    fillings_of_exact (m ∷ ms) args cx = reads_then (filled_exact (need_of m) m.name args cx) (λ x. reads_then (fillings_of_exact ms (left x.1 args) cx) (λ rest. reads_give _))

    pub fillings_by_exact : (d : ℕ) (args : List Arg) → ExactPart (find_fillings_by f g d args) (FillingsBy k b d args)
    unfolding find_fillings_by FillingsBy Then
    fillings_by_exact d args cx = reads_then (reads_is _) (λ declaration. fillings_of_exact declaration.members args cx)

    pub made_exact : (d : ℕ) (args : List Arg) → ExactPart (find_made f g d args) (Made k b d args)
    unfolding find_made Made Then
    made_exact d args cx = reads_then (reads_is _) (λ declaration. reads_when bool_is (reads_then (fillings_of_exact declaration.members args cx) (λ fillings. reads_give _)))

    pub call_exact : (s : Chained) (args : List Arg) → ExactPart (find_call f g s args) (CallRule k b s args)
    unfolding find_call CallRule
    call_exact (chained.Named d) args cx = made_exact d args cx
    call_exact (chained.BuiltIn called) args cx = built_in_call_exact called (is_labelled args) args cx
    call_exact (chained.Next at t) args cx = called_exact _ _ args cx
    call_exact (chained.Function receiver d m) args cx = used_exact d m _ args cx
    call_exact (chained.Mutating p d m) args cx = used_exact d m _ args cx
    call_exact (chained.Asks c t m) args cx = called_exact _ _ args cx
    call_exact (chained.Changes p t m) args cx = called_exact _ _ args cx
    call_exact (chained.Toggles p) args cx = called_exact _ _ args cx
    call_exact (chained.Value c t) args cx = reads_none
    call_exact (chained.Place p t) args cx = reads_none
    call_exact chained.Itself args cx = reads_none
    call_exact (chained.Indices c) args cx = reads_none
    call_exact (chained.Effect e) args cx = reads_none
