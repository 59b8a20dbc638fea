-- Texts repeated, and texts that grow by pieces.
use Rattle.std.specs.Prelude.{◌≡◌, ℕ, zero, suc, ◌+◌, ◌*◌, ◌<◌, ◌≤◌, Bool, true, false, nat_lt, Option, Some, None, Ok, Err, List, [], ◌∷◌, ◌++◌, length, IsSome, if◌then◌else◌}
use Rattle.std.specs.List.{repeat}
use Rattle.std.proofs.Common.{refl, sym, ap, subst, ◌∙◌, arith, length-append, append_assoc, add-one, drop, get_or}
use Rattle.std.proofs.lemmas.List.{drop_more}
use Rattle.std.proofs.lemmas.Grind.{common_steps}
use Rattle.std.proofs.lemmas.Bool.Decides.{nat_tests}
use Rattle.sv_value.specs.declared.value.Value.{Value}
use Rattle.sv_value.specs.declared.value.Value.TheVariants as whole
use Rattle.value_calls.specs.declared.traps.TrapKind.{TrapKind}
use Rattle.value_calls.specs.declared.traps.TrapKind.TheVariants.{Weight}
use Rattle.value_calls.specs.declared.traps.Stop.{Stop}
use Rattle.value_calls.specs.declared.traps.Stop.TheVariants.{Trap, OutOfMemory}
use Rattle.value_calls.specs.Traps.{Outcome, Answers}
use Rattle.value_calls.specs.Calls.{before_text, before_pieces, grown, string_of, piece_of, text_of_pieces, interpolated}
use Rattle.value_calls.specs.Made.{made}
use Rattle.value_calls.proofs.Weighs.{made_text_light, made_text_heavy}

repeat_suc : (n : ℕ) (text : List ℕ) → repeat (suc n) text ≡ repeat n text ++ text
repeat_suc zero text = grind (arith, common_steps)
repeat_suc (suc n) text = ap (λ rest. text ++ rest) (repeat_suc n text) ∙ sym (append_assoc text (repeat n text) text)

-- one more copy
pub repeat_more : (n : ℕ) (text : List ℕ) → repeat (n + 1) text ≡ repeat n text ++ text
repeat_more n text = rw add-one (repeat_suc n text)

length_repeat : (n : ℕ) (text : List ℕ) → length (repeat n text) ≡ length text * n
length_repeat zero text = omega arith
length_repeat (suc n) text = length-append text (repeat n text) ∙ (let e = length_repeat n text in omega arith)

empty_from : (text : List ℕ) → length text ≡ 0 → text ≡ []
empty_from [] h = refl
empty_from (x ∷ xs) h = absurd (omega arith)

repeat_empty : (n : ℕ) → repeat {A = ℕ} n [] ≡ []
repeat_empty zero = refl
repeat_empty (suc n) = repeat_empty n

pub made_repeat_light : (n : ℕ) (text : List ℕ) → length text * n < 65536 → made (whole.Str (repeat n text)) ≡ Some (Ok (whole.Str (repeat n text)))
made_repeat_light n text h = made_text_light (repeat n text) (rw (length_repeat n text) h)

pub made_repeat_heavy : (n : ℕ) (text : List ℕ) → 65536 ≤ length text * n → made (whole.Str (repeat n text)) ≡ Some (Err Weight)
made_repeat_heavy n text h = made_text_heavy (repeat n text) (rw (length_repeat n text) h)

pub made_repeat_empty : (n : ℕ) (text : List ℕ) → length text ≡ 0 → made (whole.Str (repeat n text)) ≡ Some (Ok (whole.Str []))
made_repeat_empty n text h = rw (empty_from text h, repeat_empty n) (made_text_light [] (omega arith))

-- a text that is too heavy already is so with what follows
too_heavy : (test : Bool) (text more rest : List ℕ) (kind : TrapKind) → nat_lt (length text + length more) 65536 ≡ test → (let answer : Outcome (List ℕ) = if test then Some (Ok (text ++ more)) else Some (Err Weight) in answer ≡ Some (Err kind)) → made (whole.Str (text ++ (more ++ rest))) ≡ Some (Err kind)
too_heavy true text more rest kind e h = cc
too_heavy false text more rest kind e h =
    let long : 65536 ≤ length (text ++ (more ++ rest)) = grind (arith, nat_tests, length-append) in
    let same : Weight ≡ kind = cc in
    made_text_heavy (text ++ (more ++ rest)) long ∙ ap (λ k. Some (Err k)) same

trapped : (text : List ℕ) (piece rest : Option (List ℕ)) (kind : TrapKind) → IsSome (string_of (before_text text (before_pieces piece rest))) → grown text piece ≡ Some (Err kind) → string_of (before_text text (before_pieces piece rest)) ≡ Some (Err kind)
trapped text None rest kind some h = cc
trapped text (Some more) None kind some h = cc
trapped text (Some more) (Some rest) kind some h = too_heavy (nat_lt (length text + length more) 65536) text more rest kind refl h

-- where a piece is refused, so is the whole string
pub refused : (text : List ℕ) (piece rest : Option (List ℕ)) (stop : Stop) → IsSome (string_of (before_text text (before_pieces piece rest))) → Answers {A = List ℕ} (Err stop) (grown text piece) → Answers {A = Value} (Err stop) (string_of (before_text text (before_pieces piece rest)))
refused text piece rest (Trap kind) some h = trapped text piece rest kind some h
refused text piece rest OutOfMemory some h = tt

-- the same, at the piece with this number
pub refused_at : (pieces : List Value) (i : ℕ) (item : Value) (text : List ℕ) (stop : Stop) → i < length pieces → item ≡ get_or pieces i item → string_of (before_text text (text_of_pieces (drop i pieces))) ≡ interpolated pieces → IsSome (interpolated pieces) → Answers {A = List ℕ} (Err stop) (grown text (piece_of item)) → Answers {A = Value} (Err stop) (interpolated pieces)
refused_at pieces i item text stop h e inv some k =
    let rest = text_of_pieces (drop (i + 1) pieces) in
    let here : drop i pieces ≡ item ∷ drop (i + 1) pieces = drop_more pieces i item h ∙ ap (λ x. x ∷ drop (i + 1) pieces) (sym e) in
    let eq : string_of (before_text text (before_pieces (piece_of item) rest)) ≡ interpolated pieces = ap (λ xs. string_of (before_text text (text_of_pieces xs))) (sym here) ∙ inv in
    subst (λ o. Answers {A = Value} (Err stop) o) eq (refused text (piece_of item) rest stop (subst (λ (o : Outcome Value). IsSome o) (sym eq) some) k)
