-- What the one test of code says of the code of a member, and of that of a block.
use Rattle.std.specs.Prelude.{◌≡◌, ◌<◌, ◌≤◌, ◌↔◌, ℕ, Bool, true, false, IsTrue, length, nat_lt}
use Rattle.std.proofs.Common.{arith}
use Rattle.std.proofs.lemmas.Bool.{lt-ltb, le-ltb}
use Rattle.identity_path.specs.Cells.{CellMap}
use Rattle.swift_core.specs.Codes.{Parts as Program}
use Rattle.core_means.specs.declared.parts.Frame.{Frame}
use Rattle.world_fits.specs.Runs.{EvalFits, ExecFits}
use Rattle.code_tests.specs.CodeFits.{CodeFits}
use Rattle.checked_runs.specs.Runs.{MayEvaluate, MayExecute}

-- what is chosen by a truth value that is known
first_of : (A B : Type 0) (b : Bool) → b ≡ true → (elim b as (λ _. Type 0) [ true ↦ A | false ↦ B ]) ↔ A
first_of A B true e = ((λ h. h), (λ h. h))
first_of A B false e = absurd (cc e)

second_of : (A B : Type 0) (b : Bool) → b ≡ false → (elim b as (λ _. Type 0) [ true ↦ A | false ↦ B ]) ↔ B
second_of A B true e = absurd (cc e)
second_of A B false e = ((λ h. h), (λ h. h))

module _ (p : Program) (n : ℕ) (frame : Frame) (cells : CellMap) where
  -- the test of a member's code
  pub member_tested : (b : Bool) → n < length p.members → (IsTrue b ↔ CodeFits p n frame cells) → IsTrue b ↔ MayEvaluate p n frame cells
  member_tested b member test =
      let same = first_of (EvalFits p n frame cells) (ExecFits p n frame cells) (nat_lt n (length p.members)) (lt-ltb n (length p.members) member) in
      ((λ h. (member, same.0 (test.0 h))), (λ m. test.1 (same.1 m.1)))

  -- a later number is not a member's
  pub no_member : length p.members ≤ n → IsTrue false ↔ MayEvaluate p n frame cells
  no_member past = ((λ h. absurd (cc h)), (λ m. absurd (omega (arith, past, m.0))))

  -- the test of a block
  pub block_tested : (b : Bool) → length p.members ≤ n → (IsTrue b ↔ CodeFits p n frame cells) → IsTrue b ↔ MayExecute p n frame cells
  block_tested b past test =
      let same = second_of (EvalFits p n frame cells) (ExecFits p n frame cells) (nat_lt n (length p.members)) (le-ltb n (length p.members) past) in
      ((λ h. (past, same.0 (test.0 h))), (λ m. test.1 (same.1 m.1)))

  -- a member's number is not a block's
  pub no_block : n < length p.members → IsTrue false ↔ MayExecute p n frame cells
  no_block member = ((λ h. absurd (cc h)), (λ m. absurd (omega (arith, member, m.0))))
