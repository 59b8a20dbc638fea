-- What an operator or a built-in call answers where its operands have their types: something, or a trap, and never nothing.
use Rattle.std.specs.Prelude.{Bool, true, false, Option, Some, None, Result, Ok, Err, ⊤, if◌then◌else◌}

-- there is an answer: P holds of what is answered, or it is a trap
abbrev pub AnswersWith : {A E : Type 0} → (A → Type 0) → Option (Result A E) → Type 0
AnswersWith P None = ⊥
AnswersWith P (Some (Err trap)) = ⊤
AnswersWith P (Some (Ok x)) = P x

-- one answer or the other
pub chosen : {A E : Type 0} (P : A → Type 0) (test : Bool) (x y : Option (Result A E)) → AnswersWith P x → AnswersWith P y → AnswersWith P (if test then x else y)
chosen P true x y h k = h
chosen P false x y h k = k
