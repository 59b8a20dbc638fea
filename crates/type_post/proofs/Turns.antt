-- The parts of a chain from the left: one more part, the end, and where nothing is found; and calls without arguments.
use Rattle.std.specs.Prelude.{Err}
use Rattle.std.proofs.Common.{◌≡◌, ℕ, ◌<◌, ◌≤◌, ◌+◌, Bool, true, false, List, [], ◌∷◌, length, drop, Option, Some, None, slice_index_or, refl, ap, ◌∙◌}
use Rattle.std.proofs.lemmas.List.{nil_from_length}
use Rattle.swift_ast.specs.declared.tree.Arg.{Arg}
use Rattle.swift_ast.specs.declared.tree.Expr.{Expr}
use Rattle.swift_ast.specs.declared.tree.Part.{Part, out-Part}
use Rattle.type_base.specs.Claims.{and_then, when}
use Rattle.type_base.specs.Context.{Context}
use Rattle.type_base.specs.declared.fault.Fault.{Fault}
use Rattle.type_base.specs.declared.fault.Fault.TheVariants.{NotTyped, OutOfMemory}
use Rattle.type_base.specs.Rules.{Infer, Answers}
use Rattle.post_rules.specs.declared.chained.Chained.{Chained}
use Rattle.post_rules.specs.Calls.{find_arguments, find_called, no_arguments}
use Rattle.post_rules.specs.Chains.{steps, step_at, is_allowed}
use Rattle.type_calls.specs.Rests.{opened, ended}

-- ---- parts

abbrev pub StepsRest : (Expr → Infer) → Chained → List Part → Context → ℕ → Chained → Type 0
StepsRest f s parts cx i here = steps f s parts cx ≡ steps f here (drop i parts) cx

pub steps_start : (f : Expr → Infer) (s : Chained) (parts : List Part) (cx : Context) → StepsRest f s parts cx 0 s
steps_start f s parts cx = refl

steps_more : (f : Expr → Infer) (here : Chained) (part : Part) (parts : List Part) (cx : Context) (b : Bool) (o : Option Chained) → is_allowed here ≡ b → step_at f here (out-Part part) cx ≡ o
    → steps f here (part ∷ parts) cx ≡ when b (and_then o (λ q. steps f q parts cx))
unfolding steps
steps_more f here part parts cx b o e w = ap (λ (v : Bool). when v (and_then (step_at f here (out-Part part) cx) (λ q. steps f q parts cx))) e ∙ ap (λ (p : Option Chained). when b (and_then p (λ q. steps f q parts cx))) w

pub steps_turn : (f : Expr → Infer) (s : Chained) (parts : List Part) (cx : Context) (i : ℕ) (here next : Chained) (part : Part) → i < length parts → part ≡ slice_index_or parts i part
    → is_allowed here ≡ true → step_at f here (out-Part part) cx ≡ Some next → StepsRest f s parts cx i here → StepsRest f s parts cx (i + 1) next
unfolding and_then
steps_turn f s parts cx i here next part lt is b w h =
    h ∙ ap (λ xs. steps f here xs cx) (opened parts i part lt is) ∙ steps_more f here part (drop (i + 1) parts) cx true (Some next) b w

pub steps_none : (f : Expr → Infer) (s : Chained) (parts : List Part) (cx : Context) (i : ℕ) (here : Chained) (part : Part) → i < length parts → part ≡ slice_index_or parts i part
    → is_allowed here ≡ true → step_at f here (out-Part part) cx ≡ None → StepsRest f s parts cx i here → steps f s parts cx ≡ None
unfolding and_then
steps_none f s parts cx i here part lt is b w h =
    h ∙ ap (λ xs. steps f here xs cx) (opened parts i part lt is) ∙ steps_more f here part (drop (i + 1) parts) cx true None b w

-- a fault of one part is the answer
pub steps_fail : (f : Expr → Infer) (s : Chained) (parts : List Part) (cx : Context) (i : ℕ) (here : Chained) (part : Part) (fault : Fault) → i < length parts → part ≡ slice_index_or parts i part
    → is_allowed here ≡ true → StepsRest f s parts cx i here → Answers {A = Chained} (Err fault) (step_at f here (out-Part part) cx) → Answers {A = Chained} (Err fault) (steps f s parts cx)
steps_fail f s parts cx i here part NotTyped lt is b h w = steps_none f s parts cx i here part lt is b w h
steps_fail f s parts cx i here part OutOfMemory lt is b h w = tt

pub steps_deep : (f : Expr → Infer) (s : Chained) (parts : List Part) (cx : Context) (i : ℕ) (here : Chained) (part : Part) → i < length parts → part ≡ slice_index_or parts i part
    → is_allowed here ≡ false → StepsRest f s parts cx i here → steps f s parts cx ≡ None
steps_deep f s parts cx i here part lt is b h =
    h ∙ ap (λ xs. steps f here xs cx) (opened parts i part lt is) ∙ steps_more f here part (drop (i + 1) parts) cx false (step_at f here (out-Part part) cx) b refl

steps_at_end : (f : Expr → Infer) (here : Chained) (cx : Context) (b : Bool) → is_allowed here ≡ b → steps f here [] cx ≡ when b (Some here)
unfolding steps
steps_at_end f here cx b e = ap (λ (v : Bool). when v (Some here)) e

pub steps_last : (f : Expr → Infer) (s : Chained) (parts : List Part) (cx : Context) (i : ℕ) (here : Chained) → length parts ≤ i
    → is_allowed here ≡ false → StepsRest f s parts cx i here → steps f s parts cx ≡ None
steps_last f s parts cx i here le b h = h ∙ ap (λ xs. steps f here xs cx) (ended parts i le) ∙ steps_at_end f here cx false b

pub steps_end : (f : Expr → Infer) (s : Chained) (parts : List Part) (cx : Context) (i : ℕ) (here : Chained) → length parts ≤ i
    → is_allowed here ≡ true → StepsRest f s parts cx i here → steps f s parts cx ≡ Some here
steps_end f s parts cx i here le b h = h ∙ ap (λ xs. steps f here xs cx) (ended parts i le) ∙ steps_at_end f here cx true b

-- ---- calls without arguments

pub bare_is : (f : Expr → Infer) (s : Chained) (args : List Arg) (cx : Context) → length args ≡ 0 → find_called f [] (no_arguments s) args cx ≡ Some s
unfolding find_called find_arguments and_then
bare_is f s args cx e = ap (λ xs. find_called f [] (no_arguments s) xs cx) (nil_from_length args e)

bare_more : (f : Expr → Infer) (s : Chained) (a : Arg) (args : List Arg) (cx : Context) → find_called f [] (no_arguments s) (a ∷ args) cx ≡ None
unfolding find_called find_arguments and_then
bare_more f s a args cx = refl

pub bare_some : (f : Expr → Infer) (s : Chained) (args others : List Arg) (a : Arg) (cx : Context) → args ≡ a ∷ others → find_called f [] (no_arguments s) args cx ≡ None
bare_some f s args others a cx e = ap (λ xs. find_called f [] (no_arguments s) xs cx) e ∙ bare_more f s a others cx
