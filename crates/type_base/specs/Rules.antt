-- What a typing rule is: it relates a part of the source, in its context, to what it becomes. A search finds what the rule relates.
use Rattle.std.specs.Prelude.{◌≡◌, Option, Some, None, Result, Ok, Err, ⊤}
use Rattle.swift_core.specs.declared.ty.Ty.{Ty}
use Rattle.swift_core.specs.declared.term.Core.{Core}
use Rattle.type_base.specs.declared.fault.Fault.{Fault}
use Rattle.type_base.specs.declared.fault.Fault.TheVariants.{NotTyped, OutOfMemory}
use Rattle.type_base.specs.Context.{Context}
use Rattle.type_base.specs.Claims.{Reads}

-- an expression that gives a value: under an expected type, if there is one, its core and its type
abbrev pub Rule : Type 1
Rule = Context → Option Ty → Core × Ty → Type 0

abbrev pub Infer : Type 0
Infer = Context → Option Ty → Option (Core × Ty)

-- the search finds exactly what the rule relates
abbrev pub Exact : Infer → Rule → Type 0
Exact f R = (cx : Context) (want : Option Ty) → Reads (f cx want) (R cx want)

-- a part of another kind: in its context, what it becomes
abbrev pub PartRule : Type 0 → Type 1
PartRule A = Context → A → Type 0

abbrev pub FindPart : Type 0 → Type 0
FindPart A = Context → Option A

abbrev pub ExactPart : {A : Type 0} → FindPart A → PartRule A → Type 0
ExactPart {A = A} f R = (cx : Context) → Reads (f cx) (R cx)

-- a check answers what a search finds
abbrev pub Answers : {A : Type 0} → Result A Fault → Option A → Type 0
Answers (Ok r) found = found ≡ Some r
Answers (Err NotTyped) found = found ≡ None
Answers (Err OutOfMemory) found = ⊤

-- Ok with what the rule relates, and NotTyped only where it relates nothing
abbrev pub Decides : {A : Type 0} → Result A Fault → (A → Type 0) → Type 0
Decides (Ok r) P = P r
Decides {A = A} (Err NotTyped) P = (r : A) → P r → ⊥
Decides (Err OutOfMemory) P = ⊤

-- what answers as the search of a rule decides by the rule
pub decided : {A : Type 0} (result : Result A Fault) (found : Option A) (P : A → Type 0) → Reads found P → Answers result found → Decides result P
decided (Ok r) found P reads e = (reads r).0 e
decided (Err NotTyped) found P reads e = λ r p. let h = (reads r).1 p in cc
decided (Err OutOfMemory) found P reads e = tt
