-- What the code answers, as it is found.
use Rattle.std.specs.Prelude.{◌≡◌, List, Result, Ok, Err, ⊤}
use Rattle.swift_core.specs.declared.code.CoreMember.{CoreMember}
use Rattle.type_check.specs.declared.fault.MemberFault.{MemberFault}
use Rattle.type_check.specs.declared.fault.MemberFault.TheVariants.{NotTyped, OutOfMemory}
use Rattle.part_rules.specs.Checks.{Found}

-- the code answers what is found
abbrev pub Finds : Result (List CoreMember) MemberFault → Found → Type 0
Finds (Ok cores) found = found ≡ Ok cores
Finds (Err (NotTyped line)) found = found ≡ Err line
Finds (Err OutOfMemory) found = ⊤

-- the same where the cores so far are changed in place
abbrev pub Adds : Result (Unit {0}) MemberFault → List CoreMember → Found → Type 0
Adds (Ok u) cores found = found ≡ Ok cores
Adds (Err (NotTyped line)) cores found = found ≡ Err line
Adds (Err OutOfMemory) cores found = ⊤
