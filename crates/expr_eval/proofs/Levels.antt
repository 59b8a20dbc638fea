-- A form that is entered: a unit of fuel is spent, and then one form less may be entered.
use Rattle.std.proofs.Common.{◌≡◌, ℕ, suc, ◌-◌, ◌<◌, ap, ◌∙◌, arith}
use Rattle.swift_core.specs.Codes.{Parts as Program}
use Rattle.swift_core.specs.declared.stmt.CoreStmt.{CoreStmt}
use Rattle.swift_core.specs.declared.term.Core.{Core}
use Rattle.core_means.specs.Asks.{World, and_then, spend, Look, Reads, Gave, under, after}
use Rattle.core_means.specs.Means.{inner, value_form, exec_form, means, does}
use Rattle.core_means.specs.Trees.{under_then}

means_level : (p : Program) (room : ℕ) (e : Core) (w : World) → 0 < room → means p room e w ≡ and_then (spend w) (λ _. value_form (inner p (room - 1)) e)
unfolding means
means_level p room e w some = let k : room ≡ suc (room - 1) = omega arith in ap (λ n. means p n e w) k

does_level : (p : Program) (room : ℕ) (s : CoreStmt) (w : World) → 0 < room → does p room s w ≡ and_then (spend w) (λ _. exec_form (inner p (room - 1)) s)
unfolding does
does_level p room s w some = let k : room ≡ suc (room - 1) = omega arith in ap (λ n. does p n s w) k

-- what an expression and a statement give once the unit is spent
pub means_opens : (p : Program) (room : ℕ) (e : Core) (look : Look) (reads reads' : Reads) (w w' : World) (u : Unit {0})
    → 0 < room → under look reads (spend w) ≡ Gave u w' reads' → under look reads (means p room e w) ≡ under look reads' (value_form (inner p (room - 1)) e w')
means_opens p room e look reads reads' w w' u some h =
    ap (under look reads) (means_level p room e w some)
    ∙ under_then look reads (spend w) (λ _. value_form (inner p (room - 1)) e)
    ∙ ap (λ a. after a (λ _ z r. under look r (value_form (inner p (room - 1)) e z))) h

pub does_opens : (p : Program) (room : ℕ) (s : CoreStmt) (look : Look) (reads reads' : Reads) (w w' : World) (u : Unit {0})
    → 0 < room → under look reads (spend w) ≡ Gave u w' reads' → under look reads (does p room s w) ≡ under look reads' (exec_form (inner p (room - 1)) s w')
does_opens p room s look reads reads' w w' u some h =
    ap (under look reads) (does_level p room s w some)
    ∙ under_then look reads (spend w) (λ _. exec_form (inner p (room - 1)) s)
    ∙ ap (λ a. after a (λ _ z r. under look r (exec_form (inner p (room - 1)) s z))) h
