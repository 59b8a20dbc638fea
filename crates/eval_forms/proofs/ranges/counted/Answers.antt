use Rattle.std.proofs.Common.{ℤ, ◌+ℤ◌, ◌≤ℤ◌, pos, ◌≡◌, ◌-◌, ◌<◌, FitsSigned, w64, to_z, of_z, ℕ, refl, sym, subst, rules, arith}
use Rattle.std.proofs.Math.Facts.{sfits_to_z}
use Rattle.core_means.specs.Asks.{world}
use Rattle.core_means.specs.Means.{inner}
use Rattle.eval_forms.proofs.Counts.{kept, from_first, number_right, number_stops, number_ends, number_last, number_next, number_none, step_fits, step_counts}
use Rattle.eval_forms.proofs.ranges.counted.Goals as goal

pub turn_with-requires-clause-right : goal.turn_with-requires-clause-right
turn_with-requires-clause-right g c =
    number_right (inner c.args.inner.now.setting.now.program.now c.args.room) _ _ _ _ _ _ _ _ c.loop-left-test.true refl
    (from_first (inner c.args.inner.now.setting.now.program.now c.args.room) _ _ _ _ _ _ _ _ _ _ _ c.loop-left.invariant.whole (kept c.args.number c.ranges.number)) c.requires.right

pub returns-in_err-ended : goal.returns-in_err-ended
returns-in_err-ended g c = record {
  does = number_stops (inner c.args.inner.now.setting.now.program.now c.args.room) _ _ c.turn_with.new.run.reads _ _ _ _ _
      (world c.turn_with.new.run c.args.inner.now.setting.now.is_block c.args.inner.now.setting.now.frame.now (g.C.Cells.map c.turn_with.new.cells)) c.in_err-ended.field-0.0 c.from_residual.result _
      c.loop-left-test.true refl (from_first (inner c.args.inner.now.setting.now.program.now c.args.room) _ _ _ _ _ _ _ _ _ _ _ c.loop-left.invariant.whole (kept c.args.number c.ranges.number)) c.from_residual.ensures.1 c.in_err-ended.ensures.does;
}

pub returns-in-Some : goal.returns-in-Some
returns-in-Some g c = record {
  does = number_ends (inner c.args.inner.now.setting.now.program.now c.args.room) _ _ _ _ _ _ _ _ _ _ _ _
      c.loop-left-test.true refl c.in_ok-ended.ensures.does c.in-Some.is (from_first (inner c.args.inner.now.setting.now.program.now c.args.room) _ _ _ _ _ _ _ _ _ _ _ c.loop-left.invariant.whole (kept c.args.number c.ranges.number));
}

pub returns-then-left-eq0 : goal.returns-then-left-eq0
returns-then-left-eq0 g c = record {
  does = number_last (inner c.args.inner.now.setting.now.program.now c.args.room) _ _ _ _ _ _ _ _ _ _ _
      c.loop-left-test.true refl c.in_ok-ended.ensures.does c.in-None.is c.if-left-eq0.true (from_first (inner c.args.inner.now.setting.now.program.now c.args.room) _ _ _ _ _ _ _ _ _ _ _ c.loop-left.invariant.whole (kept c.args.number c.ranges.number));
}

-- the next number has 64 bits, since it is not past the last
next_kept : (k : ℤ) (n : ℕ) → FitsSigned w64 k → 0 < n → (n - 1 ≡ 0 → ⊥) → (k +ℤ pos n) ≤ℤ pos 9223372036854775808 → to_z w64 (of_z w64 (k +ℤ pos 1)) ≡ k +ℤ pos 1
next_kept k n fits some more h = let several : 1 < n = omega arith in kept (k +ℤ pos 1) (step_fits k n fits several h)

next_counts : (k j : ℤ) (n : ℕ) → 0 < n → j ≡ k +ℤ pos 1 → (k +ℤ pos n) ≤ℤ pos 9223372036854775808 → (j +ℤ pos (n - 1)) ≤ℤ pos 9223372036854775808
next_counts k j n some is h = subst (λ (z : ℤ). (z +ℤ pos (n - 1)) ≤ℤ pos 9223372036854775808) (sym is) (step_counts k n some h)

pub loop-left-preserved : goal.loop-left-preserved
loop-left-preserved g c =
    let within : FitsSigned w64 (to_z w64 c.loop-left.number-bits) = search (rules, sfits_to_z) in
    record {
      whole = number_next (inner c.args.inner.now.setting.now.program.now c.args.room) _ _ _ _ _ _ _ _ _ _ _ _
          c.loop-left-test.true refl c.in_ok-ended.ensures.does c.in-None.is
          (next_kept _ c.loop-left.left within c.loop-left-test.true c.if-left-eq0.false c.loop-left.invariant.fits) c.loop-left.invariant.whole;
      fits = next_counts _ _ c.loop-left.left c.loop-left-test.true
          (next_kept _ c.loop-left.left within c.loop-left-test.true c.if-left-eq0.false c.loop-left.invariant.fits) c.loop-left.invariant.fits;
    }

pub returns : goal.returns
returns g c =
    let none : c.loop-left.left ≡ 0 = omega arith in
    record { does = number_none (inner c.args.inner.now.setting.now.program.now c.args.room) _ _ _ _ _ _ _ none (from_first (inner c.args.inner.now.setting.now.program.now c.args.room) _ _ _ _ _ _ _ _ _ _ _ c.loop-left.invariant.whole (kept c.args.number c.ranges.number)) }
