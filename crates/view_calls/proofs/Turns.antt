-- Modifiers are read two parts at a time: the point with the name, and the call.
use Rattle.std.proofs.Common.{◌≡◌, ◌≤◌, ◌-◌, List, [], ◌∷◌, length, get_or, take, drop, Option, Some, Result, sym, ap, subst, ◌∙◌, arith}
use Rattle.std.proofs.lemmas.List.{take_rest}
use Rattle.swift_ast.specs.declared.tree.Part.{Part}
use Rattle.swift_core.specs.declared.item.ModifierCall.{ModifierCall}
use Rattle.type_base.specs.declared.fault.Fault.{Fault}
use Rattle.type_base.specs.declared.scope.Scope.{Scope}
use Rattle.type_base.specs.Claims.{and_then}
use Rattle.type_base.specs.Context.{seen}
use Rattle.view_rules.specs.Builds.{Blocks, Builds, FindItems}
use Rattle.view_rules.specs.Modifiers.{find_modifier, find_modifiers, with_call}

-- What is found of the rest, behind the first modifier, is found of the whole.
pub modified_turn : (f : FindItems) (old here last : Scope) (bs then last_bs : Blocks) (done more : List ModifierCall) (call : Option ModifierCall) (parts : List Part) (p q : Part) (result : Result (List ModifierCall) Fault)
    → 2 ≤ length parts → p ≡ get_or parts 0 p → q ≡ get_or parts 1 q
    → (find_modifier f p q (seen old) bs ≡ Some (call, then)) × (here ≡ old) → more ≡ with_call done call
    → Builds result here last last_bs (find_modifiers f more (take (length parts - 2) (drop 2 parts)) (seen here) then)
    → Builds result old last last_bs (find_modifiers f done parts (seen old) bs)
unfolding find_modifiers and_then
modified_turn f old here last bs then last_bs done more call [] p q result two first second found grown rest = absurd (omega arith)
modified_turn f old here last bs then last_bs done more call (x ∷ []) p q result two first second found grown rest = absurd (omega arith)
modified_turn f old here last bs then last_bs done more call (x ∷ y ∷ parts) p q result two first second found grown rest =
    let read : find_modifier f x y (seen old) bs ≡ Some (call, then) = subst (λ (v : Part). find_modifier f v y (seen old) bs ≡ Some (call, then)) first (subst (λ (v : Part). find_modifier f p v (seen old) bs ≡ Some (call, then)) second found.0) in
    let left : take (length (x ∷ y ∷ parts) - 2) (drop 2 (x ∷ y ∷ parts)) ≡ parts = take_rest (x ∷ y ∷ parts) 2 in
    let whole : find_modifiers f done (x ∷ y ∷ parts) (seen old) bs ≡ find_modifiers f more (take (length (x ∷ y ∷ parts) - 2) (drop 2 (x ∷ y ∷ parts))) (seen here) then =
    ap (λ o. and_then {B = List ModifierCall × Blocks} o (λ z. find_modifiers f (with_call done z.0) parts (seen old) z.1)) read
    ∙ ap (λ (ds : List ModifierCall). find_modifiers f ds parts (seen old) then) (sym grown)
    ∙ ap (λ (ps : List Part). find_modifiers f more ps (seen old) then) (sym left)
    ∙ ap (λ (s : Scope). find_modifiers f more (take (length (x ∷ y ∷ parts) - 2) (drop 2 (x ∷ y ∷ parts))) (seen s) then) (sym found.1) in
    subst (λ o. Builds result old last last_bs o) (sym whole) (subst (λ (s : Scope). Builds result s last last_bs (find_modifiers f more (take (length (x ∷ y ∷ parts) - 2) (drop 2 (x ∷ y ∷ parts))) (seen here) then)) found.1 rest)
