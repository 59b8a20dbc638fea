use Rattle.std.proofs.Common.{rules}
use Rattle.value_tests.proofs.Inputs.{skip_turn, skip_end, stops_here, stops_behind}
use Rattle.value_tests.proofs.fields.next_input.Goals as goal

pub returns-then-is_input-clause-stops : goal.returns-then-is_input-clause-stops
returns-then-is_input-clause-stops c = stops_here c.args.members.now c.loop-at.at c.index-members-at.result c.index-members-at.is (search rules)

pub loop-at-preserved : goal.loop-at-preserved
loop-at-preserved c = skip_turn c.args.members.now c.args.from c.loop-at.at c.index-members-at.result c.loop-at-test.true c.index-members-at.is (search rules) c.loop-at.invariant

pub returns-clause-skipped : goal.returns-clause-skipped
returns-clause-skipped c = skip_end c.args.members.now c.args.from c.loop-at.at (search rules) c.loop-at.invariant

pub returns-clause-stops : goal.returns-clause-stops
returns-clause-stops c = stops_behind c.args.members.now
