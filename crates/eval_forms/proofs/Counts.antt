-- The numbers of ranges, and turns over them.
use Rattle.std.proofs.Common.{◌≡◌, ℕ, suc, ◌-◌, ◌<◌, ℤ, pos, ◌+ℤ◌, ◌≤ℤ◌, List, length, Option, Some, None, Result, Ok, Err, Bool, true, false, cond, ap, subst, sym, ◌∙◌, arith, refl, FitsSigned, w64, to_z, of_z}
use Rattle.std.specs.Prelude.{int_lt}
use Rattle.std.specs.Result.{IsErrAnd}
use Rattle.std.proofs.lemmas.Int.{ints, to_z-of_z}
use Rattle.std.proofs.lemmas.Bool.Decides.{nat_tests}
use Rattle.sv_value.specs.declared.value.Value.{Value, out-Value}
use Rattle.sv_value.specs.declared.value.Value.TheOpen as one
use Rattle.sv_value.specs.declared.value.Value.TheOpen.{Value-F}
use Rattle.sv_value.specs.declared.value.Value.TheVariants as whole
use Rattle.swift_core.specs.declared.stmt.CoreStmt.{CoreStmt}
use Rattle.value_calls.specs.declared.calls.Bounds.{Bounds}
use Rattle.value_calls.specs.declared.traps.Stop.{Stop}
use Rattle.value_calls.specs.declared.traps.TrapKind.TheVariants.{Range}
use Rattle.value_calls.specs.Calls.{bounds_of, bounds_at, range_of}
use Rattle.core_means.specs.declared.parts.Flow.{Flow}
use Rattle.core_means.specs.declared.parts.Flow.TheVariants.{Next}
use Rattle.core_means.specs.Asks.{World, Done, and_then, Look, Reads, Answer, Gave, IsRight, Leaves, under, after}
use Rattle.core_means.specs.Trees.{under_then}
use Rattle.eval_forms.proofs.Stops.{before_right, after_stop}
use Rattle.eval_forms.specs.Counts.{IsCounted}
use Rattle.core_means.specs.Means.{Inside, turn_with, counted, unless_ended, below, up_to, places}

module _ (i : Inside) where
  pub counted_more : (n : ℕ) (k : ℤ) (ss : List CoreStmt) (w : World) → 0 < n
      → counted i n k ss w ≡ and_then (turn_with i (whole.Int k) ss w) (λ ended. unless_ended ended (counted i (n - 1) (k +ℤ pos 1) ss))
  unfolding counted
  counted_more n k ss w some = let e : n ≡ suc (n - 1) = omega arith in ap (λ m. counted i m k ss w) e

  pub counted_none : (n : ℕ) (k : ℤ) (ss : List CoreStmt) (w : World) → n ≡ 0 → counted i n k ss w ≡ Done Next w
  unfolding counted
  counted_none n k ss w e = ap (λ m. counted i m k ss w) e

  -- the turns that are left are one, and then the others
  number_opens : (look : Look) (reads : Reads) (n : ℕ) (k : ℤ) (v : Value) (ss : List CoreStmt) (w : World) → 0 < n → v ≡ whole.Int k
      → under look reads (counted i n k ss w) ≡ after (under look reads (turn_with i v ss w)) (λ o u r. under look r (unless_ended o (counted i (n - 1) (k +ℤ pos 1) ss) u))
  number_opens look reads n k v ss w some is =
      ap (under look reads) (counted_more n k ss w some)
      ∙ under_then look reads (turn_with i (whole.Int k) ss w) (λ o. unless_ended o (counted i (n - 1) (k +ℤ pos 1) ss))
      ∙ ap (λ u. after (under look reads (turn_with i u ss w)) (λ o z r. under look r (unless_ended o (counted i (n - 1) (k +ℤ pos 1) ss) z))) (sym is)

  number_goes : (look : Look) (reads reads' : Reads) (n : ℕ) (k : ℤ) (v : Value) (ss : List CoreStmt) (w w' : World) (ended : Option Flow) (all : Answer Flow) → 0 < n → v ≡ whole.Int k
      → under look reads (turn_with i v ss w) ≡ Gave ended w' reads' → under look reads (counted i n k ss w) ≡ all
      → all ≡ under look reads' (unless_ended ended (counted i (n - 1) (k +ℤ pos 1) ss) w')
  number_goes look reads reads' n k v ss w w' ended all some is h same =
      sym same ∙ number_opens look reads n k v ss w some is ∙ ap (λ a. after a (λ o z r. under look r (unless_ended o (counted i (n - 1) (k +ℤ pos 1) ss) z))) h

  -- the first number is the one that was passed on
  pub from_first : (look : Look) (reads reads' : Reads) (n m : ℕ) (k j first : ℤ) (ss : List CoreStmt) (w w' : World)
      → under look reads (counted i n k ss w) ≡ under look reads' (counted i m j ss w') → j ≡ first → under look reads (counted i n k ss w) ≡ under look reads' (counted i m first ss w')
  from_first look reads reads' n m k j first ss w w' same is = same ∙ ap (λ (z : ℤ). under look reads' (counted i m z ss w')) is

  -- the next turn can run
  pub number_right : (look : Look) (reads : Reads) (n : ℕ) (k : ℤ) (v : Value) (ss : List CoreStmt) (w : World) (all : Answer Flow) → 0 < n → v ≡ whole.Int k
      → under look reads (counted i n k ss w) ≡ all → IsRight all → IsRight (under look reads (turn_with i v ss w))
  number_right look reads n k v ss w all some is same h =
      before_right (under look reads (turn_with i v ss w)) (λ o z r. under look r (unless_ended o (counted i (n - 1) (k +ℤ pos 1) ss) z))
      (subst (λ (a : Answer Flow). IsRight a) (sym same ∙ number_opens look reads n k v ss w some is) h)

  -- it stops
  pub number_stops : (look : Look) (reads reads' : Reads) (n : ℕ) (k : ℤ) (v : Value) (ss : List CoreStmt) (w w' : World) (stop : Stop) (r : Result Flow Stop) (all : Answer Flow) → 0 < n → v ≡ whole.Int k
      → under look reads (counted i n k ss w) ≡ all → IsErrAnd r (λ s. s ≡ stop) → Leaves {A = Option Flow} (Err stop) w' reads' (under look reads (turn_with i v ss w))
      → Leaves r w' reads' all
  number_stops look reads reads' n k v ss w w' stop r all some is same err h =
      subst (λ (a : Answer Flow). Leaves r w' reads' a) (sym (number_opens look reads n k v ss w some is) ∙ same)
      (after_stop stop r (under look reads (turn_with i v ss w)) (λ o z q. under look q (unless_ended o (counted i (n - 1) (k +ℤ pos 1) ss) z)) w' reads' err h)

  -- it ends the loop
  pub number_ends : (look : Look) (reads reads' : Reads) (n : ℕ) (k : ℤ) (v : Value) (ss : List CoreStmt) (w w' : World) (ended : Option Flow) (flow : Flow) (all : Answer Flow) → 0 < n → v ≡ whole.Int k
      → under look reads (turn_with i v ss w) ≡ Gave ended w' reads' → ended ≡ Some flow
      → under look reads (counted i n k ss w) ≡ all → all ≡ Gave flow w' reads'
  unfolding under
  number_ends look reads reads' n k v ss w w' ended flow all some is h last same =
      number_goes look reads reads' n k v ss w w' ended all some is h same
      ∙ ap (λ o. under look reads' (unless_ended o (counted i (n - 1) (k +ℤ pos 1) ss) w')) last

  -- it was the last one
  pub number_last : (look : Look) (reads reads' : Reads) (n : ℕ) (k : ℤ) (v : Value) (ss : List CoreStmt) (w w' : World) (ended : Option Flow) (all : Answer Flow) → 0 < n → v ≡ whole.Int k
      → under look reads (turn_with i v ss w) ≡ Gave ended w' reads' → ended ≡ None → n - 1 ≡ 0
      → under look reads (counted i n k ss w) ≡ all → all ≡ Gave Next w' reads'
  unfolding under
  number_last look reads reads' n k v ss w w' ended all some is h none last same =
      number_goes look reads reads' n k v ss w w' ended all some is h same
      ∙ ap (λ o. under look reads' (unless_ended o (counted i (n - 1) (k +ℤ pos 1) ss) w')) none
      ∙ ap (under look reads') (counted_none (n - 1) (k +ℤ pos 1) ss w' last)

  -- there is another
  pub number_next : (look : Look) (reads reads' : Reads) (n : ℕ) (k k' : ℤ) (v : Value) (ss : List CoreStmt) (w w' : World) (ended : Option Flow) (all : Answer Flow) → 0 < n → v ≡ whole.Int k
      → under look reads (turn_with i v ss w) ≡ Gave ended w' reads' → ended ≡ None → k' ≡ k +ℤ pos 1
      → under look reads (counted i n k ss w) ≡ all → under look reads' (counted i (n - 1) k' ss w') ≡ all
  number_next look reads reads' n k k' v ss w w' ended all some is h none next same =
      ap (λ (z : ℤ). under look reads' (counted i (n - 1) z ss w')) next
      ∙ sym (number_goes look reads reads' n k v ss w w' ended all some is h same
      ∙ ap (λ o. under look reads' (unless_ended o (counted i (n - 1) (k +ℤ pos 1) ss) w')) none)

  -- there was none
  pub number_none : (look : Look) (reads : Reads) (n : ℕ) (k : ℤ) (ss : List CoreStmt) (w : World) (all : Answer Flow) → n ≡ 0
      → under look reads (counted i n k ss w) ≡ all → all ≡ Gave Next w reads
  unfolding under
  number_none look reads n k ss w all none same = sym same ∙ ap (under look reads) (counted_none n k ss w none)

-- a number of 64 bits as it is passed on
pub kept : (k : ℤ) → FitsSigned w64 k → to_z w64 (of_z w64 k) ≡ k
kept k f = to_z-of_z w64 k f

not_less : (a b : ℤ) → int_lt b a ≡ false → a ≤ℤ b
not_less a b h = grind (arith, ints, nat_tests)

ordered : (a b : ℤ) (r : Bounds) → range_of a b ≡ Some (Ok r) → r.lower ≤ℤ r.upper
ordered a b r e = go (int_lt b a) refl e
  where
    go : (t : Bool) → int_lt b a ≡ t → cond t (Some (Err Range)) (Some (Ok (record { lower = a; upper = b }))) ≡ Some (Ok r) → r.lower ≤ℤ r.upper
    go true k e = absurd (cc e)
    go false k e = let same : record { lower = a; upper = b } ≡ r = cc in subst (λ (q : Bounds). q.lower ≤ℤ q.upper) same (not_less a b k)

pub in_order : (x y : Value) (r : Bounds) → bounds_of x y ≡ Some (Ok r) → r.lower ≤ℤ r.upper
in_order x y r e = go (out-Value x) (out-Value y) e
  where
    go : (a b : Value-F Value) → bounds_at a b ≡ Some (Ok r) → r.lower ≤ℤ r.upper
    go (one.Int a) (one.Int b) e = ordered a b r e
    go a b e = absurd (cc e)

pub below_counts : (r : Bounds) → FitsSigned w64 r.upper → r.lower ≤ℤ r.upper → IsCounted (below r)
below_counts r f h = grind (arith, ints)

pub up_to_counts : (r : Bounds) → FitsSigned w64 r.upper → r.lower ≤ℤ r.upper → IsCounted (up_to r)
up_to_counts r f h = grind (arith, ints)

pub places_count : (vs : List Value) → length vs < 9223372036854775808 → IsCounted (places vs)
places_count vs h = grind (arith, ints)

pub step_fits : (k : ℤ) (n : ℕ) → FitsSigned w64 k → 1 < n → (k +ℤ pos n) ≤ℤ pos 9223372036854775808 → FitsSigned w64 (k +ℤ pos 1)
step_fits k n f some h = grind (arith, ints)

pub step_counts : (k : ℤ) (n : ℕ) → 0 < n → (k +ℤ pos n) ≤ℤ pos 9223372036854775808 → ((k +ℤ pos 1) +ℤ pos (n - 1)) ≤ℤ pos 9223372036854775808
step_counts k n some h = grind (arith, ints)
