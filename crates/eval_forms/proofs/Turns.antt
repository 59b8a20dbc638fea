-- Loops, turn by turn.
use Rattle.std.proofs.Common.{◌≡◌, ℕ, suc, ◌-◌, ◌≤◌, ◌<◌, Bool, true, false, List, length, get_or, take, drop, Option, None, ap, sym, ◌∙◌, arith}
use Rattle.sv_value.specs.declared.value.Value.{Value}
use Rattle.swift_core.specs.declared.stmt.Condition.{Condition}
use Rattle.swift_core.specs.declared.stmt.CoreStmt.{CoreStmt}
use Rattle.swift_core.specs.declared.stmt.StmtArm.{StmtArm}
use Rattle.swift_core.specs.declared.stmt.StmtCase.{StmtCase}
use Rattle.value_calls.specs.declared.traps.TrapKind.TheVariants.{Fuel}
use Rattle.core_means.specs.declared.parts.Flow.{Flow}
use Rattle.core_means.specs.Asks.{World, Trapped, and_then, choose, give, Look, Reads, Answer, Gave, under}
use Rattle.core_means.specs.Means.{Inside, turn, turns, turn_with, turn_for_each, unless_ended, condition_of, conditions, arm, arms, matches, scoped, case_of}
use Rattle.eval_terms.proofs.Steps.{goes_on, first_and_rest}

module _ (i : Inside) where
  pub turns_more : (n : ℕ) (cs : List Condition) (ss : List CoreStmt) (w : World) → 0 < n
      → turns i n cs ss w ≡ and_then (turn i cs ss w) (λ ended. unless_ended ended (turns i (n - 1) cs ss))
  unfolding turns
  turns_more n cs ss w some = let e : n ≡ suc (n - 1) = omega arith in ap (λ m. turns i m cs ss w) e

  pub turns_none : (n : ℕ) (cs : List Condition) (ss : List CoreStmt) (w : World) → n ≡ 0 → turns i n cs ss w ≡ Trapped Fuel w
  unfolding turns
  turns_none n cs ss w e = ap (λ m. turns i m cs ss w) e

  pub next_turn : (look : Look) (reads reads' : Reads) (n : ℕ) (cs : List Condition) (ss : List CoreStmt) (w w' : World) (ended : Option Flow) (whole : Answer Flow)
      → 0 < n → under look reads (turn i cs ss w) ≡ Gave ended w' reads' → ended ≡ None
      → under look reads (turns i n cs ss w) ≡ whole → under look reads' (turns i (n - 1) cs ss w') ≡ whole
  next_turn look reads reads' n cs ss w w' ended whole some h none all =
      goes_on look reads reads' (turn i cs ss w) (λ o. unless_ended o (turns i (n - 1) cs ss)) None w' whole
      (h ∙ ap (λ o. Gave o w' reads') none) (ap (under look reads) (sym (turns_more n cs ss w some)) ∙ all)

  pub next_item : (look : Look) (reads reads' : Reads) (vs : List Value) (v item : Value) (ss : List CoreStmt) (w w' : World) (ended : Option Flow) (whole : Answer Flow)
      → 1 ≤ length vs → v ≡ get_or vs 0 v → item ≡ v → under look reads (turn_with i item ss w) ≡ Gave ended w' reads' → ended ≡ None
      → under look reads (turn_for_each i vs ss w) ≡ whole → under look reads' (turn_for_each i (take (length vs - 1) (drop 1 vs)) ss w') ≡ whole
  unfolding turn_for_each
  next_item look reads reads' vs v item ss w w' ended whole some first copied h none all =
      let rest = take (length vs - 1) (drop 1 vs) in
      goes_on look reads reads' (turn_with i v ss w) (λ o. unless_ended o (turn_for_each i rest ss)) None w' whole
      (ap (λ u. under look reads (turn_with i u ss w)) (sym copied) ∙ h ∙ ap (λ o. Gave o w' reads') none)
      (ap (λ l. under look reads (turn_for_each i l ss w)) (sym (first_and_rest vs v some first)) ∙ all)

  pub next_condition : (look : Look) (reads reads' : Reads) (cs : List Condition) (c : Condition) (w w' : World) (holds : Bool) (whole : Answer Bool)
      → 1 ≤ length cs → c ≡ get_or cs 0 c → under look reads (condition_of i c w) ≡ Gave holds w' reads' → holds ≡ true
      → under look reads (conditions i cs w) ≡ whole → under look reads' (conditions i (take (length cs - 1) (drop 1 cs)) w') ≡ whole
  unfolding conditions
  next_condition look reads reads' cs c w w' holds whole some first h true_is all =
      let rest = take (length cs - 1) (drop 1 cs) in
      goes_on look reads reads' (condition_of i c w) (λ t. choose t (conditions i rest) (give false)) true w' whole
      (h ∙ ap (λ t. Gave t w' reads') true_is)
      (ap (λ l. under look reads (conditions i l w)) (sym (first_and_rest cs c some first)) ∙ all)

  pub next_arm : (look : Look) (reads reads' : Reads) (as' : List StmtArm) (a : StmtArm) (last : Option (List CoreStmt)) (w w' : World) (ended : Option Flow) (whole : Answer Flow)
      → 1 ≤ length as' → a ≡ get_or as' 0 a → under look reads (arm i a w) ≡ Gave ended w' reads' → ended ≡ None
      → under look reads (arms i as' last w) ≡ whole → under look reads' (arms i (take (length as' - 1) (drop 1 as')) last w') ≡ whole
  unfolding arms
  next_arm look reads reads' as' a last w w' ended whole some first h none all =
      let rest = take (length as' - 1) (drop 1 as') in
      goes_on look reads reads' (arm i a w) (λ o. unless_ended o (arms i rest last)) None w' whole
      (h ∙ ap (λ o. Gave o w' reads') none)
      (ap (λ l. under look reads (arms i l last w)) (sym (first_and_rest as' a some first)) ∙ all)

  pub next_case : (look : Look) (reads : Reads) (v : Value) (cs : List StmtCase) (c : StmtCase) (w : World) (is_matched : Bool) (whole : Answer Flow)
      → 1 ≤ length cs → c ≡ get_or cs 0 c → is_matched ≡ matches v c.patterns → is_matched ≡ false
      → under look reads (case_of i v cs w) ≡ whole → under look reads (case_of i v (take (length cs - 1) (drop 1 cs)) w) ≡ whole
  unfolding case_of
  next_case look reads v cs c w is_matched whole some first test none all =
      let rest = take (length cs - 1) (drop 1 cs) in
      ap (λ t. under look reads (choose t (scoped i c.body) (case_of i v rest) w)) (sym none ∙ test)
      ∙ ap (λ l. under look reads (case_of i v l w)) (sym (first_and_rest cs c some first)) ∙ all
