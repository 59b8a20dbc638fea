-- What a mark says of its number.
use Rattle.std.specs.Prelude.{◌↔◌, IsTrue}
use Rattle.std.proofs.Common.{◌≡◌, ℕ, Bool, List, sym, ◌∙◌}
use Rattle.swift_core.specs.declared.code.CoreMember.{CoreMember}
use Rattle.swift_core.specs.Programs.{Reaches}
use Rattle.swift_core.specs.Writers.{mark_at, AreWriters}

pub marked : (members : List CoreMember) (marks : List Bool) (n : ℕ) (b : Bool) → AreWriters members marks → b ≡ mark_at marks n → IsTrue b ↔ Reaches members n
unfolding AreWriters
marked members marks n b are e = let w = are n in (λ t. w.0 (sym e ∙ t), λ r. e ∙ w.1 r)
