-- What follows for a function that answers as a parser on lists does.
use Rattle.std.proofs.Common.{◌≡◌, ℕ, Bool, List, length, sym, ◌∙◌, arith}
use Rattle.std.specs.Prelude.{Some, None, Result, Ok, Err}
use Rattle.swift_lex.specs.declared.token.Token.{Token}
use Rattle.parse_base.specs.declared.stop.Stop.{Stop}
use Rattle.parse_base.specs.declared.stop.Stop.TheVariants.{Memory, Refused}
use Rattle.parse_base.specs.Parser.{Parser, Outcome, Reads}
use Rattle.parse_base.specs.Language.{Language}
use Rattle.parse_base.specs.Answers.{IsSpelled, IsFound, FindsAll, SpellsOne}
use Rattle.parse_base.proofs.Laws.{Exact, got_is}

-- one parser for any number of tokens
abbrev pub Whole : {A : Type 0} → ℕ → Parser A → Language A → (List Token → Bool) → (List Token → Bool) → Type 0
Whole k p R first ends = (n : ℕ) → Exact k n p R R first ends

pub reads_spelled : {A : Type 0} {k : ℕ} {p : Parser A} {R : Language A} {first ends : List Token → Bool} → Whole k p R first ends
    → (ts : List Token) (r : Result A Stop) (new : List Token) → Reads (p ts) r new → IsSpelled R ts r new
reads_spelled h ts (Ok x) new e = (h 0).sound ts x new e
reads_spelled h ts (Err e) new f = tt

no_none : {A : Type 0} (o : Outcome A) (x : A) (rest : List Token) → o ≡ None → o ≡ Some (x, rest) → ⊥
no_none o x rest e f = cc

found_is : {A : Type 0} (o : Outcome A) (x : A) (rest : List Token) → o ≡ Some (x, rest) → (r : Result A Stop) (new : List Token) → Reads o r new → IsFound x rest r new
found_is o x rest e (Ok y) new f = got_is y x new rest (sym f ∙ e)
found_is o x rest e (Err Memory) new f = tt
found_is o x rest e (Err Refused) new f = no_none o x rest f e

pub reads_all : {A : Type 0} {k : ℕ} {p : Parser A} {R : Language A} {first ends : List Token → Bool} → Whole k p R first ends
    → (ts : List Token) (r : Result A Stop) (new : List Token) → Reads (p ts) r new → FindsAll R ends ts r new
reads_all {p = p} h ts r new e x rest d f = found_is (p ts) x rest ((h (length ts)).complete ts x rest (omega arith) d f) r new e

pub spells_one : {A : Type 0} {k : ℕ} {p : Parser A} {R : Language A} {first ends : List Token → Bool} → Whole k p R first ends → SpellsOne R ends
spells_one h ts x y r s a b e f =
    got_is x y r s (sym ((h (length ts)).complete ts x r (omega arith) a e) ∙ (h (length ts)).complete ts y s (omega arith) b f)
