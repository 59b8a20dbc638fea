-- The searches of statements find what the rules relate.
use Rattle.std.specs.Prelude.{◌≡◌, ℕ, zero, suc, Bool, true, false, List, [], ◌∷◌, Option, Some, None}
use Rattle.std.proofs.Common.{refl, sym, ap, subst, ◌∙◌}
use Rattle.swift_ast.specs.declared.type_name.TypeName.{TypeName}
use Rattle.swift_ast.specs.declared.tree.AssignSign.{AssignSign}
use Rattle.swift_ast.specs.declared.tree.AssignSign.TheVariants as sign
use Rattle.swift_ast.specs.declared.tree.Binder.{Binder}
use Rattle.swift_ast.specs.declared.tree.Arm.{Arm, out-Arm}
use Rattle.swift_ast.specs.declared.tree.Condition.{Condition}
use Rattle.swift_ast.specs.declared.tree.Expr.{Expr}
use Rattle.swift_ast.specs.declared.tree.Stmt.{Stmt, out-Stmt}
use Rattle.swift_ast.specs.declared.tree.StmtForm.{out-StmtForm}
use Rattle.swift_ast.specs.declared.tree.SwitchCase.{SwitchCase, out-SwitchCase}
use Rattle.swift_ast.specs.declared.tree.ArgValue.TheOpen.{StmtForm-F}
use Rattle.swift_core.specs.declared.ty.Ty.{Ty, out-Ty}
use Rattle.swift_core.specs.declared.stmt.CoreStmt.{CoreStmt}
use Rattle.type_base.specs.Claims.{Reads, Then, and_then, when, bool_is, reads_give, reads_then, reads_when, reads_is, reads_none, reads_one}
use Rattle.type_base.specs.Context.{Context}
use Rattle.type_base.specs.Names.{new_decides}
use Rattle.type_base.specs.Rules.{PartRule, FindPart, ExactPart}
use Rattle.type_base.specs.Scopes.{entered}
use Rattle.value_rules.specs.Values.{infer_exact, wanted_exact, target_exact, effect_exact}
use Rattle.case_rules.specs.Cases.{subject_exact}
use Rattle.case_rules.specs.Conditions.{conditions_exact}
use Rattle.case_rules.specs.Layers.{StmtLayer}
use Rattle.case_rules.specs.Overs.{over_exact}
use Rattle.stmt_rules.specs.declared.done.Exits.{Exits}
use Rattle.stmt_rules.specs.declared.done.Exits.TheVariants as exits
use Rattle.stmt_rules.specs.declared.done.Done.{Done}
use Rattle.stmt_rules.specs.Rules.{StmtRule, LocalOf, LocalAs, local_rule, Assigned, Updated, assign_rule, Statements, Braces, Guarded, ArmsRule, IfOf, IfElse, if_rule, BodiesRule, SwitchOf, ForOf, WhileOf, Returned, return_rule, break_rule, continue_rule, EffectOf, in_switch, stmt_rule, typed_stmt_to, deepest, TypedBlock, single, Ending, Single, body_rule, TypedBody}
use Rattle.stmt_rules.specs.Search.{FindStmt, local_of, local_as, local_at, assigned, updated, assign_at, statements, braces, guarded, find_arms, if_of, if_else, if_at, find_bodies, switch_of, for_of, while_of, returned, return_at, break_at, continue_at, effect_of, stmt_at, find_stmt_to, find_block, ending, find_single, body_at, find_body}

abbrev pub ExactStmt : FindStmt → StmtRule → Type 0
ExactStmt f R = (result : Option Ty) (e : Exits) → ExactPart (f result e) (R result e)

local_of_exact : (b : Binder) (w : List ℕ) (e : Expr) → ExactPart (local_of b w e) (LocalOf b w e)
unfolding local_of LocalOf Then
local_of_exact b w e cx = reads_when (new_decides w cx) (reads_then (infer_exact e cx None) (λ x. reads_give _))

local_as_exact : (b : Binder) (w : List ℕ) (name : TypeName) (e : Expr) → ExactPart (local_as b w name e) (LocalAs b w name e)
unfolding local_as LocalAs Then
local_as_exact b w name e cx = reads_when (new_decides w cx) (reads_then (reads_is _) (λ t. reads_then (wanted_exact e t cx) (λ c. reads_give _)))

local_exact : (b : Binder) (w : List ℕ) (name : Option TypeName) (e : Expr) → ExactPart (local_at b w name e) (local_rule b w name e)
local_exact b w None e = local_of_exact b w e
local_exact b w (Some name) e = local_as_exact b w name e

assigned_exact : (a e : Expr) → ExactPart (assigned a e) (Assigned a e)
unfolding assigned Assigned Then
assigned_exact a e cx = reads_then (target_exact a cx) (λ p. reads_then (wanted_exact e p.1 cx) (λ c. reads_give _))

updated_exact : (a : Expr) (s : AssignSign) (e : Expr) → ExactPart (updated a s e) (Updated a s e)
unfolding updated Updated Then
updated_exact a s e cx = reads_then (target_exact a cx) (λ p. reads_then (reads_is _) (λ op. reads_then (wanted_exact e p.1 cx) (λ c. reads_give _)))

assign_exact : (a : Expr) (s : AssignSign) (e : Expr) → ExactPart (assign_at a s e) (assign_rule a s e)
assign_exact a sign.Set e = assigned_exact a e
assign_exact a sign.Plus e = updated_exact a sign.Plus e
assign_exact a sign.Minus e = updated_exact a sign.Minus e
assign_exact a sign.Times e = updated_exact a sign.Times e
assign_exact a sign.Divide e = updated_exact a sign.Divide e
assign_exact a sign.Remainder e = updated_exact a sign.Remainder e

module _ {f : Stmt → FindPart Done} {k : Stmt → PartRule Done} (parts : (s : Stmt) → ExactPart (f s) (k s)) where
  statements_exact : (ss : List Stmt) → ExactPart (statements f ss) (Statements k ss)
  unfolding statements Statements Then
  statements_exact [] cx = reads_give _
  statements_exact (s ∷ ss) cx = reads_then (parts s cx) (λ a. reads_then (statements_exact ss _) (λ b. reads_give _))

  braces_exact : (ss : List Stmt) → ExactPart (braces f ss) (Braces k ss)
  unfolding braces Braces
  braces_exact ss cx = statements_exact ss (entered cx)

  guarded_exact : (conditions : List Condition) (ss : List Stmt) → ExactPart (guarded f conditions ss) (Guarded k conditions ss)
  unfolding guarded Guarded Then
  guarded_exact conditions ss cx = reads_then (conditions_exact conditions (entered cx)) (λ c. reads_then (braces_exact ss _) (λ b. reads_give _))

  arms_exact : (list : List Arm) → ExactPart (find_arms f list) (ArmsRule k list)
  unfolding find_arms ArmsRule Then
  arms_exact [] cx = reads_give _
  arms_exact (a ∷ list) cx = reads_then (guarded_exact (out-Arm a).conditions (out-Arm a).body cx) (λ g. reads_then (arms_exact list cx) (λ rest. reads_give _))

  if_of_exact : (list : List Arm) → ExactPart (if_of f list) (IfOf k list)
  unfolding if_of IfOf Then
  if_of_exact list cx = reads_then (arms_exact list cx) (λ a. reads_give _)

  if_else_exact : (list : List Arm) (ss : List Stmt) → ExactPart (if_else f list ss) (IfElse k list ss)
  unfolding if_else IfElse Then
  if_else_exact list ss cx = reads_then (arms_exact list cx) (λ a. reads_then (braces_exact ss cx) (λ b. reads_give _))

  if_exact : (list : List Arm) (last : Option (List Stmt)) → ExactPart (if_at f list last) (if_rule k list last)
  if_exact list None = if_of_exact list
  if_exact list (Some ss) = if_else_exact list ss

  bodies_exact : (cs : List SwitchCase) → ExactPart (find_bodies f cs) (BodiesRule k cs)
  unfolding find_bodies BodiesRule Then
  bodies_exact [] cx = reads_give _
  bodies_exact (c ∷ cs) cx = reads_then (braces_exact (out-SwitchCase c).body cx) (λ b. reads_then (bodies_exact cs cx) (λ rest. reads_give _))

  switch_exact : (e : Expr) (cs : List SwitchCase) → ExactPart (switch_of f e cs) (SwitchOf k e cs)
  unfolding switch_of SwitchOf Then
  switch_exact e cs cx = reads_then (subject_exact e cs cx) (λ h. reads_then (bodies_exact cs cx) (λ b. reads_give _))

  for_exact : (w : List ℕ) (e : Expr) (ss : List Stmt) → ExactPart (for_of f w e ss) (ForOf k w e ss)
  unfolding for_of ForOf Then
  for_exact w e ss cx = reads_then (over_exact e cx) (λ o. reads_then (braces_exact ss _) (λ b. reads_give _))

  while_exact : (conditions : List Condition) (ss : List Stmt) → ExactPart (while_of f conditions ss) (WhileOf k conditions ss)
  unfolding while_of WhileOf Then
  while_exact conditions ss cx = reads_then (guarded_exact conditions ss cx) (λ g. reads_give _)

returned_exact : (result : Option Ty) (e : Expr) → ExactPart (returned result e) (Returned result e)
unfolding returned Returned Then
returned_exact result e cx = reads_then (reads_is result) (λ t. reads_then (wanted_exact e t cx) (λ c. reads_give _))

return_exact : (result : Option Ty) (e : Option Expr) → ExactPart (return_at result e) (return_rule result e)
return_exact None (Some e) = returned_exact None e
return_exact (Some t) (Some e) = returned_exact (Some t) e
return_exact (Some t) None = λ cx. reads_none
return_exact None None = λ cx. reads_give _

break_exact : (e : Exits) → ExactPart (break_at e) (break_rule e)
break_exact exits.Neither cx = reads_none
break_exact exits.Break cx = reads_give _
break_exact exits.Both cx = reads_give _

continue_exact : (e : Exits) → ExactPart (continue_at e) (continue_rule e)
continue_exact exits.Neither cx = reads_none
continue_exact exits.Break cx = reads_none
continue_exact exits.Both cx = reads_give _

effect_of_exact : (e : Expr) → ExactPart (effect_of e) (EffectOf e)
unfolding effect_of EffectOf Then
effect_of_exact e cx = reads_then (effect_exact e cx) (λ f. reads_give _)

stmt_exact_at : {f : Stmt → FindStmt} {k : Stmt → StmtRule} → ((s : Stmt) → ExactStmt (f s) (k s)) → (layer : StmtLayer) → ExactStmt (stmt_at f layer) (stmt_rule k layer)
stmt_exact_at h (StmtForm-F.Local b w name e) result out = local_exact b w name e
stmt_exact_at h (StmtForm-F.Assign a s e) result out = assign_exact a s e
stmt_exact_at h (StmtForm-F.If list last) result out = if_exact (λ s. h s result out) list last
stmt_exact_at h (StmtForm-F.Switch e cs) result out = switch_exact (λ s. h s result (in_switch out)) e cs
stmt_exact_at h (StmtForm-F.For w e ss) result out = for_exact (λ s. h s result exits.Both) w e ss
stmt_exact_at h (StmtForm-F.While conditions ss) result out = while_exact (λ s. h s result exits.Both) conditions ss
stmt_exact_at h (StmtForm-F.Return e) result out = return_exact result e
stmt_exact_at h StmtForm-F.Break result out = break_exact out
stmt_exact_at h StmtForm-F.Continue result out = continue_exact out
stmt_exact_at h (StmtForm-F.StmtForm::Expr e) result out = effect_of_exact e

pub stmt_exact_to : (n : ℕ) (s : Stmt) → ExactStmt (find_stmt_to n s) (typed_stmt_to n s)
unfolding find_stmt_to typed_stmt_to
stmt_exact_to zero s = λ result out cx. reads_none
stmt_exact_to (suc n) s = stmt_exact_at (stmt_exact_to n) (out-StmtForm (out-Stmt s).form)

pub block_exact : (ss : List Stmt) → ExactPart (find_block ss) (TypedBlock ss)
unfolding find_block TypedBlock Then
block_exact ss cx = reads_then (braces_exact (λ s. stmt_exact_to deepest s None exits.Neither) ss cx) (λ b. reads_give _)

ending_exact : (result : Option Ty) (ss : List Stmt) → ExactPart (ending result ss) (Ending result ss)
unfolding ending Ending Then
ending_exact result ss cx = reads_then (braces_exact (λ s. stmt_exact_to deepest s result exits.Neither) ss cx) (λ b. reads_when bool_is (reads_give _))

single_exact : (t : Ty) (e : Expr) → ExactPart (find_single t e) (Single t e)
unfolding find_single Single Then
single_exact t e cx = reads_then (wanted_exact e t cx) (λ c. reads_give _)

body_exact_at : (result : Option Ty) (ss : List Stmt) (x : Option (Ty × Expr)) → ExactPart (body_at result ss x) (body_rule result ss x)
body_exact_at result ss (Some x) = single_exact x.0 x.1
body_exact_at result ss None = ending_exact result ss

pub body_exact : (result : Option Ty) (ss : List Stmt) → ExactPart (find_body result ss) (TypedBody result ss)
unfolding find_body TypedBody
body_exact result ss = body_exact_at result ss (single result ss)

-- one core at most
pub one_block : (ss : List Stmt) (cx : Context) (x y : List CoreStmt) → TypedBlock ss cx x → TypedBlock ss cx y → x ≡ y
one_block ss cx = reads_one (block_exact ss cx)

pub one_body : (result : Option Ty) (ss : List Stmt) (cx : Context) (x y : List CoreStmt) → TypedBody result ss cx x → TypedBody result ss cx y → x ≡ y
one_body result ss cx = reads_one (body_exact result ss cx)
