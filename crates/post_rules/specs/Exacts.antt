-- The searches find what the rules of chains relate.
use Rattle.std.specs.Prelude.{◌≡◌, ℕ, Bool, true, false, not, List, [], ◌∷◌, None, ◌↔◌}
use Rattle.std.proofs.Common.{refl}
use Rattle.std.proofs.lemmas.Slice.Eq.{bytes_eq-Decides}
use Rattle.swift_ast.specs.declared.tree.Arg.{Arg}
use Rattle.swift_ast.specs.declared.tree.ArgValue.TheOpen.{ExprForm-F, Part-F}
use Rattle.swift_ast.specs.declared.tree.Expr.{Expr}
use Rattle.swift_ast.specs.declared.tree.Part.{Part, out-Part}
use Rattle.swift_ast.specs.declared.tree.Selector.TheVariants as selector
use Rattle.swift_core.specs.declared.table.ParamSignature.{ParamSignature}
use Rattle.swift_core.specs.declared.term.Target.{Target}
use Rattle.swift_core.specs.declared.ty.Ty.{Ty}
use Rattle.swift_core.specs.declared.ty.Ty.TheVariants as ty
use Rattle.type_base.specs.Claims.{not_decides, Reads, Then, bool_is, reads_give, reads_none, reads_is, reads_then, reads_when}
use Rattle.type_base.specs.Context.{Context}
use Rattle.type_base.specs.Names.{underscore, local_exact, declaration_exact, own_exact}
use Rattle.type_base.specs.Promotion.{wanted_exact}
use Rattle.type_base.specs.Rules.{Rule, Infer, Exact, PartRule, FindPart, ExactPart}
use Rattle.post_rules.specs.declared.chained.Chained.{Chained}
use Rattle.post_rules.specs.declared.chained.Chained.TheVariants as chained
use Rattle.post_rules.specs.Calls as calls
use Rattle.post_rules.specs.Calls.{fillings_by_exact, call_exact}
use Rattle.post_rules.specs.Chains.{reads_first, IsOwnName, own_name, AnyName, any_name, NameRule, find_name, StartAt, start_at, RootAt, root_at, BoundRootAt, bound_root_at, PlaceStepAt, place_step_at, PlaceSteps, place_steps, PlaceFrom, place_from, TargetAt, target_at, TargetRule, find_target, BindingAt, binding_at, BindingRule, find_binding, FillingsRule, find_fillings, MemberRule, find_chained_member, StepAt, step_at, Steps, steps, ChainRule, find_chain, Post, post, EffectAt, effect_at, EffectRule, find_effect, IndicesAt, indices_at, IndicesRule, find_indices}
use Rattle.post_rules.specs.Syntax.{Form, PartForm, form_of}

false_decides : {b : Bool} → (not b ≡ true) ↔ (b ≡ false)
false_decides {b = true} = (λ e. cc, λ e. cc)
false_decides {b = false} = (λ e. refl, λ e. refl)

own_name_exact : (w : List ℕ) (cx : Context) → Reads (own_name w cx) (IsOwnName w cx)
unfolding own_name IsOwnName
own_name_exact w cx = reads_then (own_exact w cx) (λ found. reads_when false_decides (reads_give _))

any_name_exact : (w : List ℕ) → ExactPart (any_name w) (AnyName w)
unfolding AnyName Then
any_name_exact w cx =
    reads_first (local_exact w cx) (λ l. reads_give _)
    (reads_first (own_name_exact w cx) (λ m. reads_then (reads_is _) (λ d. reads_is _))
    (reads_first (declaration_exact w cx.table) (λ d. reads_give _)
    (reads_then (reads_is _) (λ b. reads_give _))))

pub name_exact : (w : List ℕ) → ExactPart (find_name w) (NameRule w)
unfolding find_name NameRule
name_exact w cx = reads_when (not_decides (bytes_eq-Decides w underscore)) (any_name_exact w cx)

pub root_exact : (form : Form) → ExactPart (root_at form) (RootAt form)
unfolding root_at RootAt Then
root_exact (ExprForm-F.Name w) cx = reads_then (name_exact w cx) (λ s. reads_is _)
root_exact ExprForm-F.Itself cx = reads_when bool_is (reads_then (reads_is _) (λ d. reads_give _))
root_exact _ cx = reads_none

pub bound_root_exact : (form : Form) → ExactPart (bound_root_at form) (BoundRootAt form)
unfolding bound_root_at BoundRootAt Then
bound_root_exact (ExprForm-F.Dollar marked) cx = reads_then (reads_is _) (λ w. reads_then (name_exact w cx) (λ s. reads_is _))
bound_root_exact _ cx = reads_none

pub chained_member_exact : (s : Chained) (w : List ℕ) → ExactPart (find_chained_member s w) (MemberRule s w)
unfolding find_chained_member MemberRule Then
chained_member_exact (chained.Value c t) w cx = reads_is _
chained_member_exact (chained.Place p t) w cx = reads_is _
chained_member_exact chained.Itself w cx = reads_then (own_exact w cx) (λ m. reads_then (reads_is _) (λ d. reads_is _))
chained_member_exact (chained.Named d) w cx = reads_is _
chained_member_exact (chained.BuiltIn b) w cx = reads_is _
chained_member_exact (chained.Next at t) w cx = reads_none
chained_member_exact (chained.Function receiver d m) w cx = reads_none
chained_member_exact (chained.Mutating p d m) w cx = reads_none
chained_member_exact (chained.Asks c t m) w cx = reads_none
chained_member_exact (chained.Changes p t m) w cx = reads_none
chained_member_exact (chained.Toggles p) w cx = reads_none
chained_member_exact (chained.Indices c) w cx = reads_none
chained_member_exact (chained.Effect e) w cx = reads_none

module _ (f : Expr → Infer) (k : Expr → Rule) (exact : (e : Expr) → Exact (f e) (k e)) where
  pub start_exact : (e : Expr) (form : Form) → ExactPart (start_at f e form) (StartAt k e form)
  unfolding start_at StartAt Then
  start_exact e (ExprForm-F.Name w) cx = name_exact w cx
  start_exact e ExprForm-F.Itself cx = reads_when bool_is (reads_give _)
  start_exact e _ cx = reads_then (exact e cx None) (λ x. reads_give _)

  pub place_step_exact : (p : Target × Ty) (part : PartForm) → ExactPart (place_step_at f p part) (PlaceStepAt k p part)
  unfolding place_step_at PlaceStepAt Then
  place_step_exact p (Part-F.Member (selector.Name w)) cx = reads_then (reads_is _) (λ x. reads_give _)
  place_step_exact p (Part-F.Index e) cx = reads_then (reads_is _) (λ t. reads_then (wanted_exact (exact e) cx ty.Int) (λ c. reads_give _))
  place_step_exact p _ cx = reads_none

  pub place_steps_exact : (p : Target × Ty) (parts : List Part) → ExactPart (place_steps f p parts) (PlaceSteps k p parts)
  unfolding place_steps PlaceSteps Then
  place_steps_exact p [] cx = reads_when bool_is (reads_give _)
  place_steps_exact p (part ∷ parts) cx = reads_when bool_is (reads_then (place_step_exact p (out-Part part) cx) (λ q. place_steps_exact q parts cx))

  place_from_exact : {root : FindPart (Target × Ty)} {R : PartRule (Target × Ty)} (parts : List Part) → ExactPart root R → ExactPart (place_from f root parts) (PlaceFrom k R parts)
  unfolding place_from PlaceFrom Then
  place_from_exact parts begins cx = reads_then (begins cx) (λ p. place_steps_exact p parts cx)

  target_at_exact : (form : Form) → ExactPart (target_at f form) (TargetAt k form)
  unfolding target_at TargetAt
  target_at_exact (ExprForm-F.Post operand parts) cx = place_from_exact parts (root_exact (form_of operand)) cx
  target_at_exact form cx = place_from_exact [] (root_exact form) cx

  pub target_exact : (e : Expr) → ExactPart (find_target f e) (TargetRule k e)
  unfolding find_target TargetRule
  target_exact e = target_at_exact (form_of e)

  binding_at_exact : (form : Form) → ExactPart (binding_at f form) (BindingAt k form)
  unfolding binding_at BindingAt
  binding_at_exact (ExprForm-F.Post operand parts) cx = place_from_exact parts (bound_root_exact (form_of operand)) cx
  binding_at_exact form cx = place_from_exact [] (bound_root_exact form) cx

  pub binding_exact : (e : Expr) → ExactPart (find_binding f e) (BindingRule k e)
  unfolding find_binding BindingRule
  binding_exact e = binding_at_exact (form_of e)

  pub fillings_exact : (d : ℕ) (args : List Arg) → ExactPart (find_fillings f d args) (FillingsRule k d args)
  unfolding find_fillings FillingsRule
  fillings_exact = fillings_by_exact f k exact (find_binding f) (BindingRule k) binding_exact

  pub arguments_exact : (ps : List ParamSignature) (args : List Arg) → ExactPart (calls.find_arguments f ps args) (calls.ArgumentsRule k ps args)
  arguments_exact = calls.arguments_exact f k exact

  pub step_exact : (s : Chained) (part : PartForm) → ExactPart (step_at f s part) (StepAt k s part)
  unfolding step_at StepAt Then
  step_exact s (Part-F.Member (selector.Name w)) cx = chained_member_exact s w cx
  step_exact s (Part-F.Call args None) cx = call_exact f k exact (find_binding f) (BindingRule k) binding_exact s args cx
  step_exact s (Part-F.Index e) cx = reads_then (wanted_exact (exact e) cx ty.Int) (λ c. reads_is _)
  step_exact s Part-F.Force cx = reads_then (reads_is _) (λ x. reads_is _)
  step_exact s _ cx = reads_none

  pub steps_exact : (s : Chained) (parts : List Part) → ExactPart (steps f s parts) (Steps k s parts)
  unfolding steps Steps Then
  steps_exact s [] cx = reads_when bool_is (reads_give _)
  steps_exact s (part ∷ parts) cx = reads_when bool_is (reads_then (step_exact s (out-Part part) cx) (λ q. steps_exact q parts cx))

  pub chain_exact : (operand : Expr) (parts : List Part) → ExactPart (find_chain f operand parts) (ChainRule k operand parts)
  unfolding find_chain ChainRule Then
  chain_exact operand parts cx = reads_then (start_exact operand (form_of operand) cx) (λ s. steps_exact s parts cx)

  pub post_exact : (operand : Expr) (parts : List Part) → Exact (post f operand parts) (Post k operand parts)
  unfolding post Post Then
  post_exact operand parts cx want = reads_then (chain_exact operand parts cx) (λ s. reads_is _)

  effect_at_exact : (form : Form) → ExactPart (effect_at f form) (EffectAt k form)
  unfolding effect_at EffectAt Then
  effect_at_exact (ExprForm-F.Post operand parts) cx = reads_then (chain_exact operand parts cx) (λ s. reads_is _)
  effect_at_exact _ cx = reads_none

  pub effect_exact : (e : Expr) → ExactPart (find_effect f e) (EffectRule k e)
  unfolding find_effect EffectRule
  effect_exact e = effect_at_exact (form_of e)

  indices_at_exact : (form : Form) → ExactPart (indices_at f form) (IndicesAt k form)
  unfolding indices_at IndicesAt Then
  indices_at_exact (ExprForm-F.Post operand parts) cx = reads_then (chain_exact operand parts cx) (λ s. reads_is _)
  indices_at_exact _ cx = reads_none

  pub indices_exact : (e : Expr) → ExactPart (find_indices f e) (IndicesRule k e)
  unfolding find_indices IndicesRule
  indices_exact e = indices_at_exact (form_of e)
