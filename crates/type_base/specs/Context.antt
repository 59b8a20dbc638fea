-- What stands around a part of the source, and how a local is looked up in it.
use Rattle.std.specs.Prelude.{◌≡◌, ℕ, zero, suc, ◌<◌, Bool, true, false, List, [], ◌∷◌, Option, Some, None, slice_get}
use Rattle.swift_core.specs.declared.table.Table.{Table}
use Rattle.type_base.specs.declared.scope.Scope.{Scope}
use Rattle.type_base.specs.declared.scope.Stance.{Stance}
use Rattle.type_base.specs.declared.scope.Local.{Local}

-- the declarations, the declaration whose member the code belongs to, what `self` is, the locals with the outermost first, and where those of the innermost scope begin
pub record Context : Type 0 where
  pub table : Table
  pub owner : Option ℕ
  pub stance : Stance
  pub locals : List Local
  pub floor : ℕ

abbrev pub seen : Scope → Context
seen s = record { table = s.table.now; owner = s.owner; stance = s.stance; locals = s.locals; floor = s.floor }

-- the last element that is so, and its place
pub record Innermost {A : Type 0} (P : A → Type 0) (xs : List A) (at : ℕ) (x : A) : Type 0 where
  pub stands : slice_get xs at ≡ Some x
  pub is_so : P x
  pub none_after : (j : ℕ) (y : A) → at < j → slice_get xs j ≡ Some y → P y → ⊥

abbrev pub or_head : {A : Type 0} → Option (ℕ × A) → Bool → A → Option (ℕ × A)
or_head (Some found) b x = Some (suc found.0, found.1)
or_head None true x = Some (zero, x)
or_head None false x = None

abbrev pub last_at : {A : Type 0} → (A → Bool) → List A → Option (ℕ × A)
last_at test [] = None
last_at test (x ∷ xs) = or_head (last_at test xs) (test x) x
