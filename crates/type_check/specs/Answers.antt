-- What the public calls answer, by the rules.
use Rattle.std.specs.Prelude.{◌≡◌, ℕ, Option, Some, None, Result, Ok, Err, ⊤}
use Rattle.swift_core.specs.declared.code.CoreMember.{CoreMember}
use Rattle.type_base.specs.Claims.{Reads}
use Rattle.type_check.specs.declared.fault.MemberFault.{MemberFault}
use Rattle.type_check.specs.declared.fault.MemberFault.TheVariants.{NotTyped, OutOfMemory}

-- Ok with the core that the rule relates, and NotTyped with this line only where it relates none
abbrev pub Decides : Result CoreMember MemberFault → ℕ → (CoreMember → Type 0) → Type 0
Decides (Ok m) line P = P m
Decides (Err (NotTyped at)) line P = (at ≡ line) × ((m : CoreMember) → P m → ⊥)
Decides (Err OutOfMemory) line P = ⊤

-- the same by a search
abbrev pub Answers : Result CoreMember MemberFault → ℕ → Option CoreMember → Type 0
Answers (Ok m) line found = found ≡ Some m
Answers (Err (NotTyped at)) line found = (at ≡ line) × (found ≡ None)
Answers (Err OutOfMemory) line found = ⊤

-- what answers as the search of a rule decides by the rule
pub decided : (result : Result CoreMember MemberFault) (line : ℕ) (found : Option CoreMember) (P : CoreMember → Type 0) → Reads found P → Answers result line found → Decides result line P
decided (Ok m) line found P reads e = (reads m).0 e
decided (Err (NotTyped at)) line found P reads e = (e.0, λ m p. let h = (reads m).1 p in let n = e.1 in cc)
decided (Err OutOfMemory) line found P reads e = tt
