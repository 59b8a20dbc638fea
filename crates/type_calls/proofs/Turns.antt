-- Parameters beside the arguments that are left: one more parameter, the end, and where nothing is found.
use Rattle.std.specs.Prelude.{Err}
use Rattle.std.proofs.Common.{◌≡◌, ℕ, ◌<◌, ◌≤◌, ◌+◌, Bool, true, false, List, [], ◌∷◌, ◌++◌, length, drop, Option, Some, None, slice_index_or, refl, ap, ◌∙◌}
use Rattle.std.proofs.lemmas.List.{append-nil, nil_from_length}
use Rattle.swift_ast.specs.declared.tree.Arg.{Arg}
use Rattle.swift_ast.specs.declared.tree.Expr.{Expr}
use Rattle.swift_core.specs.declared.table.ParamSignature.{ParamSignature}
use Rattle.swift_core.specs.declared.term.Core.{Core}
use Rattle.swift_core.specs.declared.ty.Ty.{Ty}
use Rattle.type_base.specs.Claims.{and_then, when}
use Rattle.type_base.specs.Context.{Context}
use Rattle.type_base.specs.Promotion.{wanted}
use Rattle.type_base.specs.declared.fault.Fault.{Fault}
use Rattle.type_base.specs.declared.fault.Fault.TheVariants.{NotTyped, OutOfMemory}
use Rattle.type_base.specs.Rules.{Infer, Answers}
use Rattle.post_rules.specs.Calls.{find_arguments}
use Rattle.post_rules.specs.Syntax.{expr_of, label_of, same_label}
use Rattle.type_calls.specs.Passed.{given_core, passed}
use Rattle.type_calls.specs.Rests.{opened, ended, whole, moved}

-- ---- arguments

one_passed : (b : Bool) (t : Option Ty) (e : Option Expr) (w : Ty → Expr → Option Core) (after : Core → Option (List Core))
    → when b (and_then t (λ u. and_then e (λ x. and_then (w u x) after))) ≡ and_then (when b (and_then t (λ u. and_then e (λ x. w u x)))) after
unfolding and_then
one_passed false t e w after = refl
one_passed true None e w after = refl
one_passed true (Some u) None w after = refl
one_passed true (Some u) (Some x) w after = refl

find_more : (f : Expr → Infer) (p : ParamSignature) (ps : List ParamSignature) (a : Arg) (args : List Arg) (cx : Context)
    → find_arguments f (p ∷ ps) (a ∷ args) cx ≡ and_then (passed f p a cx) (λ c. and_then (find_arguments f ps args cx) (λ rest. Some (c ∷ rest)))
unfolding find_arguments passed given_core
find_more f p ps a args cx = one_passed (same_label (label_of a) p.label) p.ty (expr_of a) (λ t e. wanted (f e) cx t) (λ c. and_then (find_arguments f ps args cx) (λ rest. Some (c ∷ rest)))

-- the rest answers as the whole
abbrev pub ArgumentsRest : (Expr → Infer) → List ParamSignature → List Arg → Context → ℕ → List Arg → List Core → Type 0
ArgumentsRest f ps args cx i rest cs = find_arguments f ps args cx ≡ and_then (find_arguments f (drop i ps) rest cx) (λ more. Some (cs ++ more))

pub arguments_start : (f : Expr → Infer) (ps : List ParamSignature) (args : List Arg) (cx : Context) → ArgumentsRest f ps args cx 0 args []
arguments_start f ps args cx = whole (find_arguments f ps args cx)

arguments_step : (f : Expr → Infer) (ps : List ParamSignature) (cx : Context) (i : ℕ) (p : ParamSignature) (rest others : List Arg) (a : Arg) (o : Option Core)
    → i < length ps → p ≡ slice_index_or ps i p → rest ≡ a ∷ others → passed f p a cx ≡ o
    → find_arguments f (drop i ps) rest cx ≡ and_then o (λ c. and_then (find_arguments f (drop (i + 1) ps) others cx) (λ more. Some (c ∷ more)))
arguments_step f ps cx i p rest others a o lt is e w =
    ap (λ xs. find_arguments f xs rest cx) (opened ps i p lt is) ∙ ap (λ xs. find_arguments f (p ∷ drop (i + 1) ps) xs cx) e
    ∙ find_more f p (drop (i + 1) ps) a others cx ∙ ap (λ q. and_then q (λ c. and_then (find_arguments f (drop (i + 1) ps) others cx) (λ more. Some (c ∷ more)))) w

pub arguments_turn : (f : Expr → Infer) (ps : List ParamSignature) (args : List Arg) (cx : Context) (i : ℕ) (p : ParamSignature) (rest others : List Arg) (a : Arg) (cs : List Core) (c : Core)
    → i < length ps → p ≡ slice_index_or ps i p → rest ≡ a ∷ others → passed f p a cx ≡ Some c
    → ArgumentsRest f ps args cx i rest cs → ArgumentsRest f ps args cx (i + 1) others (cs ++ c ∷ [])
unfolding and_then
arguments_turn f ps args cx i p rest others a cs c lt is e w h =
    h ∙ ap (λ o. and_then o (λ more. Some (cs ++ more))) (arguments_step f ps cx i p rest others a (Some c) lt is e w) ∙ moved _ (c ∷ []) cs

pub arguments_none : (f : Expr → Infer) (ps : List ParamSignature) (args : List Arg) (cx : Context) (i : ℕ) (p : ParamSignature) (rest others : List Arg) (a : Arg) (cs : List Core)
    → i < length ps → p ≡ slice_index_or ps i p → rest ≡ a ∷ others → passed f p a cx ≡ None
    → ArgumentsRest f ps args cx i rest cs → find_arguments f ps args cx ≡ None
unfolding and_then
arguments_none f ps args cx i p rest others a cs lt is e w h = h ∙ ap (λ o. and_then o (λ more. Some (cs ++ more))) (arguments_step f ps cx i p rest others a None lt is e w)

-- a fault of one argument is the answer
pub arguments_fail : (f : Expr → Infer) (ps : List ParamSignature) (args : List Arg) (cx : Context) (i : ℕ) (p : ParamSignature) (rest others : List Arg) (a : Arg) (cs : List Core) (fault : Fault)
    → i < length ps → p ≡ slice_index_or ps i p → rest ≡ a ∷ others → ArgumentsRest f ps args cx i rest cs → Answers {A = Core} (Err fault) (passed f p a cx) → Answers {A = List Core} (Err fault) (find_arguments f ps args cx)
arguments_fail f ps args cx i p rest others a cs NotTyped lt is e h w = arguments_none f ps args cx i p rest others a cs lt is e w h
arguments_fail f ps args cx i p rest others a cs OutOfMemory lt is e h w = tt

none_left : (f : Expr → Infer) (p : ParamSignature) (ps : List ParamSignature) (cx : Context) → find_arguments f (p ∷ ps) [] cx ≡ None
unfolding find_arguments
none_left f p ps cx = refl

pub arguments_missing : (f : Expr → Infer) (ps : List ParamSignature) (args : List Arg) (cx : Context) (i : ℕ) (p : ParamSignature) (rest : List Arg) (cs : List Core)
    → i < length ps → p ≡ slice_index_or ps i p → length rest ≡ 0 → ArgumentsRest f ps args cx i rest cs → find_arguments f ps args cx ≡ None
unfolding and_then
arguments_missing f ps args cx i p rest cs lt is e h =
    h ∙ ap (λ o. and_then o (λ more. Some (cs ++ more))) (ap (λ xs. find_arguments f xs rest cx) (opened ps i p lt is) ∙ ap (λ xs. find_arguments f (p ∷ drop (i + 1) ps) xs cx) (nil_from_length rest e) ∙ none_left f p (drop (i + 1) ps) cx)

one_extra : (f : Expr → Infer) (a : Arg) (args : List Arg) (cx : Context) → find_arguments f [] (a ∷ args) cx ≡ None
unfolding find_arguments
one_extra f a args cx = refl

pub arguments_extra : (f : Expr → Infer) (ps : List ParamSignature) (args : List Arg) (cx : Context) (i : ℕ) (rest others : List Arg) (a : Arg) (cs : List Core)
    → length ps ≤ i → rest ≡ a ∷ others → ArgumentsRest f ps args cx i rest cs → find_arguments f ps args cx ≡ None
unfolding and_then
arguments_extra f ps args cx i rest others a cs le e h =
    h ∙ ap (λ o. and_then o (λ more. Some (cs ++ more))) (ap (λ xs. find_arguments f xs rest cx) (ended ps i le) ∙ ap (λ xs. find_arguments f [] xs cx) e ∙ one_extra f a others cx)

all_passed : (f : Expr → Infer) (cx : Context) → find_arguments f [] [] cx ≡ Some []
unfolding find_arguments
all_passed f cx = refl

pub arguments_end : (f : Expr → Infer) (ps : List ParamSignature) (args : List Arg) (cx : Context) (i : ℕ) (rest : List Arg) (cs : List Core)
    → length ps ≤ i → length rest ≡ 0 → ArgumentsRest f ps args cx i rest cs → find_arguments f ps args cx ≡ Some cs
unfolding and_then
arguments_end f ps args cx i rest cs le e h =
    h ∙ ap (λ o. and_then o (λ more. Some (cs ++ more))) (ap (λ xs. find_arguments f xs rest cx) (ended ps i le) ∙ ap (λ xs. find_arguments f [] xs cx) (nil_from_length rest e) ∙ all_passed f cx) ∙ ap Some (append-nil cs)
