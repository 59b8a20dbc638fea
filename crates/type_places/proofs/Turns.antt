-- Lists that are searched from the left beside the arguments or the state that is left: one more item, the end, and
-- where nothing is found.
use Rattle.std.specs.Prelude.{Err}
use Rattle.std.proofs.Common.{◌≡◌, ℕ, ◌<◌, ◌≤◌, ◌+◌, Bool, true, false, List, [], ◌∷◌, ◌++◌, length, drop, Option, Some, None, slice_index_or, refl, sym, ap, subst, ◌∙◌}
use Rattle.std.proofs.lemmas.List.{append-nil, nil_from_length}
use Rattle.swift_ast.specs.declared.tree.Arg.{Arg}
use Rattle.swift_ast.specs.declared.tree.Expr.{Expr}
use Rattle.swift_ast.specs.declared.tree.Part.{Part, out-Part}
use Rattle.swift_core.specs.declared.table.Signature.{Signature}
use Rattle.swift_core.specs.declared.term.Core.{Core}
use Rattle.swift_core.specs.declared.term.Filling.{Filling}
use Rattle.swift_core.specs.declared.term.Filling.TheVariants as filling
use Rattle.swift_core.specs.declared.term.Target.{Target}
use Rattle.swift_core.specs.declared.ty.Ty.{Ty}
use Rattle.type_base.specs.Claims.{and_then, when}
use Rattle.type_base.specs.Context.{Context}
use Rattle.type_base.specs.Depth.{is_shallow}
use Rattle.type_base.specs.Promotion.{wanted}
use Rattle.type_base.specs.declared.fault.Fault.{Fault}
use Rattle.type_base.specs.declared.fault.Fault.TheVariants.{NotTyped, OutOfMemory}
use Rattle.type_base.specs.Rules.{Infer, FindPart, Answers}
use Rattle.post_rules.specs.Calls.{find_given, find_filled, find_fillings_of, need_of, added, left, Filled}
use Rattle.post_rules.specs.Chains.{place_steps, place_step_at}
use Rattle.post_rules.specs.Syntax.{expr_of}
use Rattle.type_calls.specs.Passed.{given_core}
use Rattle.type_calls.specs.Rests.{opened, ended, whole, moved}

-- ---- initialisers

given_moved : (t : Option Ty) (e : Option Expr) (w : Ty → Expr → Option Core) (after : Core → Option Filled)
    → and_then t (λ u. and_then e (λ x. and_then (w u x) after)) ≡ and_then (and_then t (λ u. and_then e (λ x. w u x))) after
unfolding and_then
given_moved None e w after = refl
given_moved (Some u) None w after = refl
given_moved (Some u) (Some x) w after = refl

pub given_is : (f : Expr → Infer) (t : Option Ty) (a : Arg) (cx : Context) (o : Option Core) → given_core f t a cx ≡ o → find_given f t a cx ≡ and_then o (λ c. Some (Some (filling.Given c), true))
unfolding find_given given_core
given_is f t a cx o h = given_moved t (expr_of a) (λ t e. wanted (f e) cx t) (λ c. Some (Some (filling.Given c), true)) ∙ ap (λ (p : Option Core). and_then {B = Filled} p (λ c. Some (Some (filling.Given c), true))) h

pub given_some : (f : Expr → Infer) (t : Option Ty) (a : Arg) (cx : Context) (c : Core) → given_core f t a cx ≡ Some c → find_given f t a cx ≡ Some (Some (filling.Given c), true)
unfolding and_then
given_some f t a cx c h = given_is f t a cx (Some c) h

pub given_none : (f : Expr → Infer) (t : Option Ty) (a : Arg) (cx : Context) → given_core f t a cx ≡ None → find_given f t a cx ≡ None
unfolding and_then
given_none f t a cx h = given_is f t a cx None h

abbrev pub FillingsRest : (Expr → Infer) → (Expr → FindPart (Target × Ty)) → List Signature → List Arg → Context → ℕ → List Arg → List Filling → Type 0
FillingsRest f b ms args cx i rest found = find_fillings_of f b ms args cx ≡ and_then (find_fillings_of f b (drop i ms) rest cx) (λ more. Some (found ++ more))

pub fillings_start : (f : Expr → Infer) (b : Expr → FindPart (Target × Ty)) (ms : List Signature) (args : List Arg) (cx : Context) → FillingsRest f b ms args cx 0 args []
fillings_start f b ms args cx = whole (find_fillings_of f b ms args cx)

fillings_step : (f : Expr → Infer) (b : Expr → FindPart (Target × Ty)) (ms : List Signature) (cx : Context) (i : ℕ) (m : Signature) (rest : List Arg) (o : Option Filled)
    → i < length ms → m ≡ slice_index_or ms i m → find_filled f b (need_of m) m.name rest cx ≡ o
    → find_fillings_of f b (drop i ms) rest cx ≡ and_then o (λ x. and_then (find_fillings_of f b (drop (i + 1) ms) (left x.1 rest) cx) (λ more. Some (added x.0 ++ more)))
unfolding find_fillings_of
fillings_step f b ms cx i m rest o lt is w =
    ap (λ xs. find_fillings_of f b xs rest cx) (opened ms i m lt is) ∙ ap (λ p. and_then p (λ (x : Filled). and_then (find_fillings_of f b (drop (i + 1) ms) (left x.1 rest) cx) (λ more. Some (added x.0 ++ more)))) w

pub fillings_turn : (f : Expr → Infer) (b : Expr → FindPart (Target × Ty)) (ms : List Signature) (args : List Arg) (cx : Context) (i : ℕ) (m : Signature) (rest others : List Arg) (found more : List Filling) (x : Filled)
    → i < length ms → m ≡ slice_index_or ms i m → find_filled f b (need_of m) m.name rest cx ≡ Some x → others ≡ left x.1 rest → more ≡ found ++ added x.0
    → FillingsRest f b ms args cx i rest found → FillingsRest f b ms args cx (i + 1) others more
unfolding and_then
fillings_turn f b ms args cx i m rest others found more x lt is w e n h =
    let turned = h ∙ ap (λ o. and_then o (λ more. Some (found ++ more))) (fillings_step f b ms cx i m rest (Some x) lt is w) ∙ moved _ (added x.0) found in
    subst (λ (v : List Arg). FillingsRest f b ms args cx (i + 1) v more) (sym e) (subst (λ (v : List Filling). FillingsRest f b ms args cx (i + 1) (left x.1 rest) v) (sym n) turned)

pub fillings_none : (f : Expr → Infer) (b : Expr → FindPart (Target × Ty)) (ms : List Signature) (args : List Arg) (cx : Context) (i : ℕ) (m : Signature) (rest : List Arg) (found : List Filling)
    → i < length ms → m ≡ slice_index_or ms i m → find_filled f b (need_of m) m.name rest cx ≡ None
    → FillingsRest f b ms args cx i rest found → find_fillings_of f b ms args cx ≡ None
unfolding and_then
fillings_none f b ms args cx i m rest found lt is w h = h ∙ ap (λ o. and_then o (λ more. Some (found ++ more))) (fillings_step f b ms cx i m rest None lt is w)

-- a fault of one member is the answer
pub fillings_fail : (f : Expr → Infer) (b : Expr → FindPart (Target × Ty)) (ms : List Signature) (args : List Arg) (cx : Context) (i : ℕ) (m : Signature) (rest : List Arg) (found : List Filling) (fault : Fault)
    → i < length ms → m ≡ slice_index_or ms i m → FillingsRest f b ms args cx i rest found
    → Answers {A = Filled} (Err fault) (find_filled f b (need_of m) m.name rest cx) → Answers {A = List Filling} (Err fault) (find_fillings_of f b ms args cx)
fillings_fail f b ms args cx i m rest found NotTyped lt is h w = fillings_none f b ms args cx i m rest found lt is w h
fillings_fail f b ms args cx i m rest found OutOfMemory lt is h w = tt

extra_left : (f : Expr → Infer) (b : Expr → FindPart (Target × Ty)) (a : Arg) (args : List Arg) (cx : Context) → find_fillings_of f b [] (a ∷ args) cx ≡ None
unfolding find_fillings_of
extra_left f b a args cx = refl

pub fillings_extra : (f : Expr → Infer) (b : Expr → FindPart (Target × Ty)) (ms : List Signature) (args : List Arg) (cx : Context) (i : ℕ) (rest others : List Arg) (a : Arg) (found : List Filling)
    → length ms ≤ i → rest ≡ a ∷ others → FillingsRest f b ms args cx i rest found → find_fillings_of f b ms args cx ≡ None
unfolding and_then
fillings_extra f b ms args cx i rest others a found le e h =
    h ∙ ap (λ o. and_then o (λ more. Some (found ++ more))) (ap (λ xs. find_fillings_of f b xs rest cx) (ended ms i le) ∙ ap (λ xs. find_fillings_of f b [] xs cx) e ∙ extra_left f b a others cx)

all_filled : (f : Expr → Infer) (b : Expr → FindPart (Target × Ty)) (cx : Context) → find_fillings_of f b [] [] cx ≡ Some []
unfolding find_fillings_of
all_filled f b cx = refl

pub fillings_end : (f : Expr → Infer) (b : Expr → FindPart (Target × Ty)) (ms : List Signature) (args : List Arg) (cx : Context) (i : ℕ) (rest : List Arg) (found : List Filling)
    → length ms ≤ i → length rest ≡ 0 → FillingsRest f b ms args cx i rest found → find_fillings_of f b ms args cx ≡ Some found
unfolding and_then
fillings_end f b ms args cx i rest found le e h =
    h ∙ ap (λ o. and_then o (λ more. Some (found ++ more))) (ap (λ xs. find_fillings_of f b xs rest cx) (ended ms i le) ∙ ap (λ xs. find_fillings_of f b [] xs cx) (nil_from_length rest e) ∙ all_filled f b cx) ∙ ap Some (append-nil found)

-- ---- places

abbrev pub PlacesRest : (Expr → Infer) → Target × Ty → List Part → Context → ℕ → Target × Ty → Type 0
PlacesRest f p parts cx i here = place_steps f p parts cx ≡ place_steps f here (drop i parts) cx

pub places_start : (f : Expr → Infer) (p : Target × Ty) (parts : List Part) (cx : Context) → PlacesRest f p parts cx 0 p
places_start f p parts cx = refl

places_more : (f : Expr → Infer) (here : Target × Ty) (part : Part) (parts : List Part) (cx : Context) (b : Bool) (o : Option (Target × Ty)) → is_shallow here.1 ≡ b → place_step_at f here (out-Part part) cx ≡ o
    → place_steps f here (part ∷ parts) cx ≡ when b (and_then o (λ q. place_steps f q parts cx))
unfolding place_steps
places_more f here part parts cx b o e w = ap (λ (v : Bool). when v (and_then (place_step_at f here (out-Part part) cx) (λ q. place_steps f q parts cx))) e ∙ ap (λ (p : Option (Target × Ty)). when b (and_then p (λ q. place_steps f q parts cx))) w

pub places_turn : (f : Expr → Infer) (p : Target × Ty) (parts : List Part) (cx : Context) (i : ℕ) (here next : Target × Ty) (part : Part) → i < length parts → part ≡ slice_index_or parts i part
    → is_shallow here.1 ≡ true → place_step_at f here (out-Part part) cx ≡ Some next → PlacesRest f p parts cx i here → PlacesRest f p parts cx (i + 1) next
unfolding and_then
places_turn f p parts cx i here next part lt is b w h =
    h ∙ ap (λ xs. place_steps f here xs cx) (opened parts i part lt is) ∙ places_more f here part (drop (i + 1) parts) cx true (Some next) b w

pub places_none : (f : Expr → Infer) (p : Target × Ty) (parts : List Part) (cx : Context) (i : ℕ) (here : Target × Ty) (part : Part) → i < length parts → part ≡ slice_index_or parts i part
    → is_shallow here.1 ≡ true → place_step_at f here (out-Part part) cx ≡ None → PlacesRest f p parts cx i here → place_steps f p parts cx ≡ None
unfolding and_then
places_none f p parts cx i here part lt is b w h =
    h ∙ ap (λ xs. place_steps f here xs cx) (opened parts i part lt is) ∙ places_more f here part (drop (i + 1) parts) cx true None b w

-- a fault of one part is the answer
pub places_fail : (f : Expr → Infer) (p : Target × Ty) (parts : List Part) (cx : Context) (i : ℕ) (here : Target × Ty) (part : Part) (fault : Fault) → i < length parts → part ≡ slice_index_or parts i part
    → is_shallow here.1 ≡ true → PlacesRest f p parts cx i here → Answers {A = Target × Ty} (Err fault) (place_step_at f here (out-Part part) cx) → Answers {A = Target × Ty} (Err fault) (place_steps f p parts cx)
places_fail f p parts cx i here part NotTyped lt is b h w = places_none f p parts cx i here part lt is b w h
places_fail f p parts cx i here part OutOfMemory lt is b h w = tt

pub places_deep : (f : Expr → Infer) (p : Target × Ty) (parts : List Part) (cx : Context) (i : ℕ) (here : Target × Ty) (part : Part) → i < length parts → part ≡ slice_index_or parts i part
    → is_shallow here.1 ≡ false → PlacesRest f p parts cx i here → place_steps f p parts cx ≡ None
places_deep f p parts cx i here part lt is b h =
    h ∙ ap (λ xs. place_steps f here xs cx) (opened parts i part lt is) ∙ places_more f here part (drop (i + 1) parts) cx false (place_step_at f here (out-Part part) cx) b refl

places_at_end : (f : Expr → Infer) (here : Target × Ty) (cx : Context) (b : Bool) → is_shallow here.1 ≡ b → place_steps f here [] cx ≡ when b (Some here)
unfolding place_steps
places_at_end f here cx b e = ap (λ (v : Bool). when v (Some here)) e

pub places_last : (f : Expr → Infer) (p : Target × Ty) (parts : List Part) (cx : Context) (i : ℕ) (here : Target × Ty) → length parts ≤ i
    → is_shallow here.1 ≡ false → PlacesRest f p parts cx i here → place_steps f p parts cx ≡ None
places_last f p parts cx i here le b h = h ∙ ap (λ xs. place_steps f here xs cx) (ended parts i le) ∙ places_at_end f here cx false b

pub places_end : (f : Expr → Infer) (p : Target × Ty) (parts : List Part) (cx : Context) (i : ℕ) (here : Target × Ty) → length parts ≤ i
    → is_shallow here.1 ≡ true → PlacesRest f p parts cx i here → place_steps f p parts cx ≡ Some here
places_end f p parts cx i here le b h = h ∙ ap (λ xs. place_steps f here xs cx) (ended parts i le) ∙ places_at_end f here cx true b
