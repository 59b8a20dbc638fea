-- Calls with one argument and with two, by the list of their arguments.
use Rattle.std.proofs.Common.{◌≡◌, Bool, true, false, List, [], ◌∷◌, ◌++◌, Some, None, refl, ap, ◌∙◌}
use Rattle.value_calls.specs.declared.operators.Arithmetic.TheVariants as arithmetic
use Rattle.value_calls.specs.declared.operators.Operator.TheVariants as operator
use Rattle.value_calls.specs.declared.operators.Unary.TheVariants as prefix
use Rattle.swift_core.specs.declared.term.Binary.TheVariants as binary
use Rattle.swift_core.specs.declared.term.ChangeCall.TheVariants as calls
use Rattle.swift_core.specs.declared.term.Core.{Core}
use Rattle.swift_core.specs.declared.term.Core.TheVariants as core
use Rattle.swift_core.specs.declared.term.Unary.TheVariants as unary
use Rattle.swift_core.specs.declared.ty.Ty.TheVariants as ty
use Rattle.type_base.specs.Claims.{and_then}
use Rattle.post_rules.specs.declared.chained.BuiltIn.TheVariants as built_in
use Rattle.post_rules.specs.declared.chained.Chained.TheVariants as chained
use Rattle.post_rules.specs.declared.chained.Method.{Method}
use Rattle.post_rules.specs.declared.chained.Method.TheVariants as method
use Rattle.post_rules.specs.Calls.{asked, change_call, built_in_called}
use Rattle.type_calls.specs.Few.{first_of_one, both_of_two, if_bare}

-- ---- the last item

pub last_of_one : (xs ys : List Core) (x : Core) → xs ≡ ys ++ x ∷ [] → ys ≡ [] → first_of_one xs ≡ Some x
last_of_one xs ys x e n = ap first_of_one (e ∙ ap (λ zs. zs ++ x ∷ []) n)

more_items : (y : Core) (ys : List Core) (x : Core) → first_of_one (y ∷ (ys ++ x ∷ [])) ≡ None
more_items y [] x = refl
more_items y (z ∷ zs) x = refl

pub none_of_more : (xs ys : List Core) (x : Core) → xs ≡ ys ++ x ∷ [] → (ys ≡ [] → ⊥) → first_of_one xs ≡ None
none_of_more xs [] x e n = absurd (n refl)
none_of_more xs (y ∷ ys) x e n = ap first_of_one e ∙ more_items y ys x

is_one : (ys : List Core) (y : Core) → first_of_one ys ≡ Some y → ys ≡ y ∷ []
is_one [] y e = cc
is_one (z ∷ []) y e = let h : z ≡ y = cc in λ i. h i ∷ []
is_one (z ∷ w ∷ zs) y e = cc

pub both_of_front : (xs ys : List Core) (x y : Core) → xs ≡ ys ++ x ∷ [] → first_of_one ys ≡ Some y → both_of_two xs ≡ Some (y, x)
both_of_front xs ys x y e f = ap both_of_two (e ∙ ap (λ zs. zs ++ x ∷ []) (is_one ys y f))

few_front : (ys : List Core) (x : Core) → first_of_one ys ≡ None → both_of_two (ys ++ x ∷ []) ≡ None
few_front [] x f = refl
few_front (y ∷ []) x f = cc
few_front (y ∷ z ∷ []) x f = refl
few_front (y ∷ z ∷ w ∷ zs) x f = refl

pub none_of_front : (xs ys : List Core) (x : Core) → xs ≡ ys ++ x ∷ [] → first_of_one ys ≡ None → both_of_two xs ≡ None
none_of_front xs ys x e f = ap both_of_two e ∙ few_front ys x f

-- ---- each call

pub asked_Contains : (c : Core) (cs : List Core) → asked method.Contains c cs ≡ and_then (first_of_one cs) (λ x. Some (chained.Value (core.Binary binary.Contains c x) ty.Bool))
unfolding and_then
asked_Contains c [] = refl
asked_Contains c (x ∷ []) = refl
asked_Contains c (x ∷ y ∷ cs) = refl

pub asked_FirstIndex : (c : Core) (cs : List Core) → asked method.FirstIndex c cs ≡ and_then (first_of_one cs) (λ x. Some (chained.Value (core.Binary binary.FirstIndex c x) (ty.Optional ty.Int)))
unfolding and_then
asked_FirstIndex c [] = refl
asked_FirstIndex c (x ∷ []) = refl
asked_FirstIndex c (x ∷ y ∷ cs) = refl

pub change_append : (cs : List Core) → change_call method.Append false cs ≡ and_then (first_of_one cs) (λ x. Some (calls.Append x))
unfolding and_then
change_append [] = refl
change_append (x ∷ []) = refl
change_append (x ∷ y ∷ cs) = refl

pub change_append_all : (cs : List Core) → change_call method.Append true cs ≡ and_then (first_of_one cs) (λ x. Some (calls.AppendAll x))
unfolding and_then
change_append_all [] = refl
change_append_all (x ∷ []) = refl
change_append_all (x ∷ y ∷ cs) = refl

pub change_remove : (b : Bool) (cs : List Core) → change_call method.Remove b cs ≡ and_then (first_of_one cs) (λ x. Some (calls.Remove x))
unfolding and_then
change_remove b [] = refl
change_remove b (x ∷ []) = refl
change_remove b (x ∷ y ∷ cs) = refl

pub change_insert : (b : Bool) (cs : List Core) → change_call method.Insert b cs ≡ and_then (both_of_two cs) (λ x. Some (calls.Insert x.0 x.1))
unfolding and_then
change_insert b [] = refl
change_insert b (x ∷ []) = refl
change_insert b (x ∷ y ∷ []) = refl
change_insert b (x ∷ y ∷ z ∷ cs) = refl

pub change_swap : (b : Bool) (cs : List Core) → change_call method.SwapAt b cs ≡ and_then (both_of_two cs) (λ x. Some (calls.SwapAt x.0 x.1))
unfolding and_then
change_swap b [] = refl
change_swap b (x ∷ []) = refl
change_swap b (x ∷ y ∷ []) = refl
change_swap b (x ∷ y ∷ z ∷ cs) = refl

bare_more : (m : Method) (b : Bool) (c : Core) (cs : List Core) → if_bare m (change_call m b (c ∷ cs)) ≡ None
bare_more method.RemoveFirst b c cs = refl
bare_more method.RemoveLast b c cs = refl
bare_more method.RemoveAll b c cs = refl
bare_more method.Contains b c cs = refl
bare_more method.FirstIndex b c cs = refl
bare_more method.Append b c cs = refl
bare_more method.Insert b c cs = refl
bare_more method.Remove b c cs = refl
bare_more method.SwapAt b c cs = refl

pub change_none : (m : Method) (b : Bool) (cs : List Core) → (cs ≡ [] → ⊥) → if_bare m (change_call m b cs) ≡ None
change_none m b [] n = absurd (n refl)
change_none m b (c ∷ cs) n = bare_more m b c cs

pub called_Absolute : (cs : List Core) → built_in_called built_in.Absolute cs ≡ and_then (first_of_one cs) (λ x. Some (chained.Value (core.Unary (unary.Operate prefix.Absolute) x) ty.Int))
unfolding and_then
called_Absolute [] = refl
called_Absolute (x ∷ []) = refl
called_Absolute (x ∷ y ∷ cs) = refl

pub called_Text : (cs : List Core) → built_in_called built_in.Text cs ≡ and_then (both_of_two cs) (λ x. Some (chained.Value (core.Binary binary.Repeat x.0 x.1) ty.Text))
unfolding and_then
called_Text [] = refl
called_Text (x ∷ []) = refl
called_Text (x ∷ y ∷ []) = refl
called_Text (x ∷ y ∷ z ∷ cs) = refl

pub called_Min : (cs : List Core) → built_in_called built_in.Min cs ≡ and_then (both_of_two cs) (λ x. Some (chained.Value (core.Binary (binary.Operate (operator.Compute arithmetic.Min)) x.0 x.1) ty.Int))
unfolding and_then
called_Min [] = refl
called_Min (x ∷ []) = refl
called_Min (x ∷ y ∷ []) = refl
called_Min (x ∷ y ∷ z ∷ cs) = refl

pub called_Max : (cs : List Core) → built_in_called built_in.Max cs ≡ and_then (both_of_two cs) (λ x. Some (chained.Value (core.Binary (binary.Operate (operator.Compute arithmetic.Max)) x.0 x.1) ty.Int))
unfolding and_then
called_Max [] = refl
called_Max (x ∷ []) = refl
called_Max (x ∷ y ∷ []) = refl
called_Max (x ∷ y ∷ z ∷ cs) = refl
