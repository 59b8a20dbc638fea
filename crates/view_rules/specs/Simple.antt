-- The views without content: texts, pictures, spacers, custom views, and the members of the program that give views.
use Rattle.std.specs.Prelude.{◌≡◌, ℕ, true, List, [], Option, Some, None}
use Rattle.swift_ast.specs.declared.tree.Expr.{Expr}
use Rattle.swift_ast.specs.declared.tree.Arg.{Arg}
use Rattle.swift_core.specs.declared.item.ViewCall.{ViewCall}
use Rattle.swift_core.specs.declared.item.ViewCall.TheVariants as call
use Rattle.swift_core.specs.declared.table.Declaration.{Declaration}
use Rattle.swift_core.specs.declared.table.ParamSignature.{ParamSignature}
use Rattle.swift_core.specs.declared.table.Signature.{Signature}
use Rattle.swift_core.specs.declared.term.Core.{Core}
use Rattle.swift_core.specs.declared.term.Filling.{Filling}
use Rattle.swift_core.specs.declared.term.Target.{Target}
use Rattle.swift_core.specs.declared.ty.Ty.{Ty}
use Rattle.swift_core.specs.declared.ty.Ty.TheVariants as ty
use Rattle.swift_core.specs.Types.{same_ty, same_ty_decides}
use Rattle.type_base.specs.Claims.{Then, and_then, when, reads_then, reads_give, reads_none, reads_is, reads_when, bool_is}
use Rattle.type_base.specs.Names.{IsOwn, own_of, own_exact}
use Rattle.type_base.specs.Rules.{PartRule, FindPart, ExactPart}
use Rattle.value_rules.specs.Values.{TypedWanted, infer_wanted, wanted_exact, TypedBinding, infer_binding, binding_exact, TypedFillings, infer_fillings, fillings_exact, TypedArguments, infer_arguments, arguments_exact}
use Rattle.modifier_rules.specs.Parts.{Word}
use Rattle.modifier_rules.specs.Arguments.{Slotted, slotted, slotted_exact}
use Rattle.modifier_rules.specs.declared.names.Slot.TheVariants as slot
use Rattle.view_rules.specs.Forms.{text_argument, image_argument, is_empty, is_view, in_view, gives_views, builder_parameters}
use Rattle.view_rules.specs.declared.names.ViewName.{ViewName}
use Rattle.view_rules.specs.declared.names.ViewName.TheVariants as view

-- `Text(s)`
unfoldable pub TextCall : List Arg → PartRule ViewCall
TextCall args cx r = (e : Expr) × (text_argument args ≡ Some e) × ((c : Core) × TypedWanted e ty.Text cx c × (r ≡ call.Text c))

unfoldable pub text_call : List Arg → FindPart ViewCall
text_call args cx = and_then (text_argument args) (λ e. and_then (infer_wanted e ty.Text cx) (λ c. Some (call.Text c)))

-- `Image(systemName: s)`
unfoldable pub ImageCall : List Arg → PartRule ViewCall
ImageCall args cx r = (e : Expr) × (image_argument args ≡ Some e) × ((c : Core) × TypedWanted e ty.Text cx c × (r ≡ call.Image c))

unfoldable pub image_call : List Arg → FindPart ViewCall
image_call args cx = and_then (image_argument args) (λ e. and_then (infer_wanted e ty.Text cx) (λ c. Some (call.Image c)))

-- `Spacer()` and `Spacer(minLength: n)`
unfoldable pub SpacerCall : List Arg → PartRule ViewCall
SpacerCall args cx r = (x : Option Core × List Arg) × Slotted slot.MinLength args cx x × ((is_empty x.1 ≡ true) × (r ≡ call.Spacer x.0))

unfoldable pub spacer_call : List Arg → FindPart ViewCall
spacer_call args cx = and_then (slotted slot.MinLength args cx) (λ x. when (is_empty x.1) (Some (call.Spacer x.0)))

-- a built-in view without closures
unfoldable pub SimpleCall : ViewName → List Arg → PartRule ViewCall
SimpleCall view.Text args cx r = TextCall args cx r
SimpleCall view.Image args cx r = ImageCall args cx r
SimpleCall view.Spacer args cx r = SpacerCall args cx r
SimpleCall view.Rectangle args cx r = (is_empty args ≡ true) × (r ≡ call.Rectangle)
SimpleCall view.Empty args cx r = (is_empty args ≡ true) × (r ≡ call.Empty)
SimpleCall _ args cx r = ⊥

unfoldable pub simple_call : ViewName → List Arg → FindPart ViewCall
simple_call view.Text args cx = text_call args cx
simple_call view.Image args cx = image_call args cx
simple_call view.Spacer args cx = spacer_call args cx
simple_call view.Rectangle args cx = when (is_empty args) (Some call.Rectangle)
simple_call view.Empty args cx = when (is_empty args) (Some call.Empty)
simple_call _ args cx = None

-- a custom view, by its initialiser
unfoldable pub CustomCall : ℕ → Declaration → List Arg → PartRule ViewCall
CustomCall n d args cx r = (is_view d.kind ≡ true) × ((fs : List Filling) × TypedFillings n args cx fs × (r ≡ call.Custom n fs))

unfoldable pub custom_call : ℕ → Declaration → List Arg → FindPart ViewCall
custom_call n d args cx = when (is_view d.kind) (and_then (infer_fillings n args cx) (λ fs. Some (call.Custom n fs)))

-- the use of a function of `some View` of the same view
unfoldable pub FunctionCall : Word → List Arg → PartRule ViewCall
FunctionCall w args cx r =
    (in_view cx ≡ true) ×
    ((m : ℕ × Signature) × IsOwn w cx m ×
    ((ps : List ParamSignature) × (builder_parameters m.1.form ≡ Some ps) ×
    ((cs : List Core) × TypedArguments ps args cx cs ×
    (r ≡ call.Builder m.1.code cs))))

unfoldable pub function_call : Word → List Arg → FindPart ViewCall
function_call w args cx =
    when (in_view cx) (
    and_then (own_of w cx) (λ m.
    and_then (builder_parameters m.1.form) (λ ps.
    and_then (infer_arguments ps args cx) (λ cs.
    Some (call.Builder m.1.code cs)))))

-- the use of a property of `some View` of the same view
unfoldable pub PropertyUse : Word → PartRule ViewCall
PropertyUse w cx r =
    (in_view cx ≡ true) ×
    ((m : ℕ × Signature) × IsOwn w cx m ×
    ((gives_views m.1.form ≡ true) ×
    (r ≡ call.Builder m.1.code [])))

unfoldable pub property_use : Word → FindPart ViewCall
property_use w cx =
    when (in_view cx) (
    and_then (own_of w cx) (λ m.
    when (gives_views m.1.form) (
    Some (call.Builder m.1.code []))))

-- the place of a truth value
unfoldable pub TruthPlace : Expr → PartRule Target
TruthPlace e cx r = (x : Target × Ty) × TypedBinding e cx x × ((x.1 ≡ ty.Bool) × (r ≡ x.0))

unfoldable pub truth_place : Expr → FindPart Target
truth_place e cx = and_then (infer_binding e cx) (λ x. when (same_ty x.1 ty.Bool) (Some x.0))

-- ---- laws

text_exact : (args : List Arg) → ExactPart (text_call args) (TextCall args)
unfolding text_call TextCall Then
text_exact args cx = reads_then (reads_is _) (λ e. reads_then (wanted_exact e ty.Text cx) (λ c. reads_give _))

image_exact : (args : List Arg) → ExactPart (image_call args) (ImageCall args)
unfolding image_call ImageCall Then
image_exact args cx = reads_then (reads_is _) (λ e. reads_then (wanted_exact e ty.Text cx) (λ c. reads_give _))

spacer_exact : (args : List Arg) → ExactPart (spacer_call args) (SpacerCall args)
unfolding spacer_call SpacerCall Then
spacer_exact args cx = reads_then (slotted_exact slot.MinLength args cx) (λ x. reads_when bool_is (reads_give _))

pub simple_exact : (n : ViewName) (args : List Arg) → ExactPart (simple_call n args) (SimpleCall n args)
unfolding simple_call SimpleCall
simple_exact view.Text args cx = text_exact args cx
simple_exact view.Image args cx = image_exact args cx
simple_exact view.Spacer args cx = spacer_exact args cx
simple_exact view.Rectangle args cx = reads_when bool_is (reads_give _)
simple_exact view.Empty args cx = reads_when bool_is (reads_give _)
simple_exact _ args cx = reads_none

pub custom_exact : (n : ℕ) (d : Declaration) (args : List Arg) → ExactPart (custom_call n d args) (CustomCall n d args)
unfolding custom_call CustomCall Then
custom_exact n d args cx = reads_when bool_is (reads_then (fillings_exact n args cx) (λ fs. reads_give _))

pub function_exact : (w : Word) (args : List Arg) → ExactPart (function_call w args) (FunctionCall w args)
unfolding function_call FunctionCall Then
function_exact w args cx = reads_when bool_is (reads_then (own_exact w cx) (λ m. reads_then (reads_is _) (λ ps. reads_then (arguments_exact ps args cx) (λ cs. reads_give _))))

pub property_exact : (w : Word) → ExactPart (property_use w) (PropertyUse w)
unfolding property_use PropertyUse Then
property_exact w cx = reads_when bool_is (reads_then (own_exact w cx) (λ m. reads_when bool_is (reads_give _)))

pub truth_exact : (e : Expr) → ExactPart (truth_place e) (TruthPlace e)
unfolding truth_place TruthPlace Then
truth_exact e cx = reads_then (binding_exact e cx) (λ x. reads_when (same_ty_decides x.1 ty.Bool) (reads_give _))
