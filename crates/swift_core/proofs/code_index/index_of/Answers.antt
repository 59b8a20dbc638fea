use Rattle.std.proofs.Common.{rules}
use Rattle.swift_core.proofs.Blocks.{turn, homes_end, firsts_end}
use Rattle.swift_core.proofs.code_index.index_of.Goals as goal

pub loop-at-preserved : goal.loop-at-preserved
loop-at-preserved c = turn c.loop-at.homes c.loop-at.firsts c.push_all.new.homes c.push.new.self _ _ c.args.members.now c.loop-at.at c.len.result c.len-in-loop-at.result c.index-members-at.result (search rules) (search rules) (search rules) (search rules) (search rules) (search rules) c.loop-at.invariant

pub returns-clause-homes : goal.returns-clause-homes
returns-clause-homes c = homes_end _ _ c.args.members.now c.loop-at.at (search rules) c.loop-at.invariant.0

pub returns-clause-firsts : goal.returns-clause-firsts
returns-clause-firsts c = firsts_end _ _ _ c.args.members.now c.loop-at.at (search rules) c.loop-at.invariant.1
