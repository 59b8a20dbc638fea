use Rattle.std.proofs.Common.{rules, arith, ◌≡◌, ◌∙◌, length, ap, sym, Some, ◌+◌}
use Rattle.swift_core.proofs.Blocks.{number_facts, first_there}
use Rattle.swift_core.proofs.code_index.number_of.Goals as goal

pub overflow_add-result : goal.overflow_add-result
overflow_add-result c =
    let facts = number_facts c.args.members.now c.args.index.now.homes c.args.index.now.firsts c.args.member c.args.block c.in-Some.first.now c.requires.homes c.requires.firsts c.requires.held (search rules) in
    omega (arith, facts.0, c.as_slice-homes.type_inv.1, ap length c.as_slice-homes.ensures)

pub overflow_add-result-in-Some : goal.overflow_add-result-in-Some
overflow_add-result-in-Some c =
    let facts = number_facts c.args.members.now c.args.index.now.homes c.args.index.now.firsts c.args.member c.args.block c.in-Some.first.now c.requires.homes c.requires.firsts c.requires.held (search rules) in
    omega (arith, facts.0, c.as_slice-homes.type_inv.1, c.as_slice-all.type_inv.1, ap length c.as_slice-homes.ensures)

pub unreachable-requires : goal.unreachable-requires
unreachable-requires c = first_there c.args.members.now c.args.index.now.firsts c.args.member c.args.block c.requires.firsts c.requires.held (search rules)

pub returns : goal.returns
returns c =
    let facts = number_facts c.args.members.now c.args.index.now.homes c.args.index.now.firsts c.args.member c.args.block c.in-Some.first.now c.requires.homes c.requires.firsts c.requires.held (search rules) in
    record { value = facts.1 ∙ ap (λ n. Some (n + (c.in-Some.first.now + c.args.block))) (sym (ap length c.as_slice-all.ensures)) }
