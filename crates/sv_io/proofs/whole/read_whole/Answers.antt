use Rattle.std.proofs.Common.{arith, Some, take, length, ◌≡◌, ◌≤◌, ◌∙◌, ap, length-take, rules}
use Rattle.sv_io.proofs.Reading.{front_more, front_all, some_value, told_content, same_content}
use Rattle.sv_io.proofs.whole.read_whole.Goals as goal

pub returns-then-n-eq0-clause-bytes : goal.returns-then-n-eq0-clause-bytes
returns-then-n-eq0-clause-bytes g c = λ files told.
    let found = some_value (files _) (c.in_ok-choose.ensures.present files told) in
    let s = c.loop-taken.invariant in
    let known = told_content _ _ _ files (s.holds ∙ told) s.asked found.0 found.1 in
    let none : length (take c.in_ok-n.n c.read.new.buf) ≡ 0 = omega (arith, length-take c.in_ok-n.n c.read.new.buf) in
    let all = front_all found.0 _ _ _ _ _ s.offset (s.front found.0 known) (c.in_ok-n.ensures.bytes found.0 known) none c.loop-taken-test.true in
    found.1 ∙ ap Some all

pub loop-taken-preserved-in-Continue-branch-3 : goal.loop-taken-preserved-in-Continue-branch-3
loop-taken-preserved-in-Continue-branch-3 g c =
    let s = c.loop-taken.invariant in
    let fits : c.in_ok-n.n ≤ length c.read.new.buf = omega (arith, c.in_ok-n.ensures.count, c.read.auto.buf) in
    record {
      holds = c.read.ensures.holds ∙ s.holds;
      asked = c.read.ensures.asked ∙ s.asked;
      chosen = c.read.ensures.chosen;
      offset = omega (arith, c.in_ok-n.ensures.count);
      later = omega (arith, c.read.ensures.later);
      within = omega arith;
      count = search rules;
      front = λ file is.
          let known = same_content c.read.ensures.holds c.read.ensures.asked ∙ is in
          front_more file c.read.new.buf _ _ _ _ _ _ _ s.offset (s.front file known) (c.in_ok-n.ensures.bytes file known) fits c.loop-taken-test.true c.in_ok-extend_from_slice.ensures.items;
    }
