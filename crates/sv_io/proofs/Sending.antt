-- How bytes go out, piece after piece.
use Rattle.std.proofs.Common.{◌≡◌, ℕ, ◌-◌, ◌≤◌, arith, length-drop, List, [], ◌++◌, length, take, drop, Option, None, Some, Result, Ok, Err, OnErr, refl, sym, ◌∙◌, ap, append_assoc, append-nil, take-append-drop}
use Rattle.std.proofs.lemmas.List.{take_all}
use Rattle.std.specs.Io.KnownBytes.{append_known}
use Rattle.sv_io.specs.Sink.{SentUpTo, SentPart, SentAll}

pub append_known-nil : (known : Option (List ℕ)) → append_known known [] ≡ known
append_known-nil None = refl
append_known-nil (Some x) = ap Some (append-nil x)

pub append_known-more : (known : Option (List ℕ)) (a b : List ℕ) → append_known (append_known known a) b ≡ append_known known (a ++ b)
append_known-more None a b = refl
append_known-more (Some x) a b = ap Some (append_assoc x a b)

-- nothing went out so far
pub sent_none : (before : Option (List ℕ)) (all : List ℕ) → SentUpTo before before all all
sent_none before all = record { sent = []; whole = refl; told = sym (append_known-nil before) }

-- a piece went out
pub sent_more : {before mid after : Option (List ℕ)} {all rest : List ℕ} (piece left : List ℕ)
    → SentUpTo before mid all rest → rest ≡ piece ++ left → SentAll mid after piece → SentUpTo before after all left
sent_more {before} {mid} {after} {all} {rest} piece left so_far split more = record {
  sent = so_far.sent ++ piece;
  whole = append_assoc so_far.sent piece left ∙ ap (λ (r : List ℕ). so_far.sent ++ r) (sym split) ∙ so_far.whole;
  told = more ∙ ap (λ (k : Option (List ℕ)). append_known k piece) so_far.told ∙ append_known-more before so_far.sent piece;
}

-- a part of a piece went out
pub sent_part : {before mid after : Option (List ℕ)} {all rest : List ℕ} (piece left : List ℕ)
    → SentUpTo before mid all rest → rest ≡ piece ++ left → SentPart mid after piece → SentPart before after all
sent_part {before} {mid} {after} {all} {rest} piece left so_far split part = record {
  rest = part.rest ++ left;
  part = sent_more part.part.sent (part.rest ++ left) so_far
      (split ∙ ap (λ (p : List ℕ). p ++ left) (sym part.part.whole) ∙ append_assoc part.part.sent part.rest left) part.part.told;
}

-- nothing is left
pub sent_all : {before after : Option (List ℕ)} {all rest : List ℕ} → SentUpTo before after all rest → rest ≡ [] → SentAll before after all
sent_all {before} {after} {all} {rest} so_far none =
    so_far.told ∙ ap (append_known before) (sym (append-nil so_far.sent) ∙ ap (λ (r : List ℕ). so_far.sent ++ r) (sym none) ∙ so_far.whole)

-- what stopped on the way went out in part
pub sent_some : {before after : Option (List ℕ)} {all rest : List ℕ} → SentUpTo before after all rest → SentPart before after all
sent_some {before} {after} {all} {rest} so_far = record { rest = rest; part = so_far }

-- a list is a front and what stands behind it
pub front_and_rest : (xs : List ℕ) (n m : ℕ) → m ≡ length xs → xs ≡ take n xs ++ take (m - n) (drop n xs)
front_and_rest xs n m is =
    let fits : length (drop n xs) ≤ m - n = omega (arith, length-drop n xs) in
    sym (take-append-drop n xs) ∙ ap (λ (r : List ℕ). take n xs ++ r) (sym (take_all (m - n) (drop n xs) fits))

-- nothing went out of what stopped before its first byte
pub nothing_sent : (known : Option (List ℕ)) (all : List ℕ) → SentPart known known all
nothing_sent known all = sent_some (sent_none known all)

-- a fact that holds at any answer holds at an error
pub on_err : {T E P : Type 0} (r : Result T E) → P → OnErr r P
on_err (Ok x) p = tt
on_err (Err e) p = p
