-- What a function that reads a language says in its contract, both ways.
use Rattle.std.specs.Prelude.{◌≡◌, Bool, true, List, Result, Ok, Err}
use Rattle.swift_lex.specs.declared.token.Token.{Token}
use Rattle.parse_base.specs.declared.stop.Stop.{Stop}
use Rattle.parse_base.specs.declared.stop.Stop.TheVariants.{Memory, Refused}
use Rattle.parse_base.specs.Language.{Language}

-- what is found is spelled by the tokens up to those that are left
abbrev pub IsSpelled : {A : Type 0} → Language A → List Token → Result A Stop → List Token → Type 0
IsSpelled R ts (Ok x) new = R ts x new
IsSpelled R ts (Err e) new = Unit {0}

abbrev pub IsRefusal : Stop → Type 0
IsRefusal Memory = Unit {0}
IsRefusal Refused = ⊥

-- this is found with these tokens left, or memory ran out
abbrev pub IsFound : {A : Type 0} → A → List Token → Result A Stop → List Token → Type 0
IsFound x rest (Ok y) new = (y ≡ x) × (new ≡ rest)
IsFound x rest (Err e) new = IsRefusal e

-- what is spelled up to a place that ends it is found; so there is one such tree, and a refusal says that there is none
abbrev pub FindsAll : {A : Type 0} → Language A → (List Token → Bool) → List Token → Result A Stop → List Token → Type 0
FindsAll {A = A} R ends ts result new = (x : A) (rest : List Token) → R ts x rest → ends rest ≡ true → IsFound x rest result new

-- one list of tokens spells one tree, up to one place that ends it
abbrev pub SpellsOne : {A : Type 0} → Language A → (List Token → Bool) → Type 0
SpellsOne {A = A} R ends = (ts : List Token) (x y : A) (r s : List Token) → R ts x r → R ts y s → ends r ≡ true → ends s ≡ true → (x ≡ y) × (r ≡ s)
