-- The locals that a body begins with, one by one.
use Rattle.std.proofs.Common.{◌≡◌, ℕ, suc, ◌-◌, ◌<◌, List, ◌∷◌, [], ◌++◌, ap, sym, ◌∙◌, append_assoc, arith}
use Rattle.std.proofs.lemmas.List.{append-nil}
use Rattle.core_means.specs.declared.parts.Local.{Local}
use Rattle.core_means.specs.declared.parts.Local.TheVariants as local
use Rattle.core_means.specs.Public.{absent}
use Rattle.body_means.specs.Bodies.{parameters}

pub absent_more : (n : ℕ) → 0 < n → absent n ≡ local.Absent ∷ absent (n - 1)
absent_more n some = let e : n ≡ suc (n - 1) = omega arith in ap absent e

pub absent_none : (n : ℕ) → n ≡ 0 → absent n ≡ []
absent_none n e = ap absent e

parameters_more : (n : ℕ) → 0 < n → parameters n ≡ local.Preference ∷ parameters (n - 1)
unfolding parameters
parameters_more n some = let e : n ≡ suc (n - 1) = omega arith in ap parameters e

parameters_none : (n : ℕ) → n ≡ 0 → parameters n ≡ []
unfolding parameters
parameters_none n e = ap parameters e

pub parameters_turn : (locals locals' : List Local) (left : ℕ) (whole : List Local) → 0 < left → locals' ≡ locals ++ local.Preference ∷ []
    → locals ++ parameters left ≡ whole → locals' ++ parameters (left - 1) ≡ whole
parameters_turn locals locals' left whole some pushed all =
    ap (λ l. l ++ parameters (left - 1)) pushed
    ∙ append_assoc locals (local.Preference ∷ []) (parameters (left - 1))
    ∙ ap (λ l. locals ++ l) (sym (parameters_more left some))
    ∙ all

pub parameters_end : (locals : List Local) (left : ℕ) (whole : List Local) → left ≡ 0 → locals ++ parameters left ≡ whole → locals ≡ whole
parameters_end locals left whole none all = sym (append-nil locals) ∙ ap (λ l. locals ++ l) (sym (parameters_none left none)) ∙ all
