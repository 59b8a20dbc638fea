use Rattle.std.proofs.Common.{rules, arith, sym, ◌∙◌, ◌≡◌, ap, None}
use Rattle.std.specs.Option.{option_copied}
use Rattle.swift_core.proofs.Blocks.{no_block, block_is, begins_there, stands_there, behind_first, block_found}
use Rattle.swift_core.proofs.code_index.block_of.Goals as goal

pub returns-in_err-home : goal.returns-in_err-home
returns-in_err-home c = record { value = ap option_copied c.from_residual.ensures ∙ sym (no_block _ c.args.index.now.homes _ c.requires.homes (search rules)) }

pub returns-in_err-first : goal.returns-in_err-first
returns-in_err-first c = begins_there c.args.members.now c.args.index.now.firsts c.args.number c.in_ok-home.field-0.now
    (block_is c.args.members.now c.args.index.now.homes c.args.index.now.firsts c.args.number c.in_ok-home.field-0.now c.requires.homes c.requires.firsts (search rules)) (search rules)

pub returns-in_err-get : goal.returns-in_err-get
returns-in_err-get c = stands_there c.args.members.now c.args.index.now.firsts c.args.number c.in_ok-home.field-0.now
    (block_is c.args.members.now c.args.index.now.homes c.args.index.now.firsts c.args.number c.in_ok-home.field-0.now c.requires.homes c.requires.firsts (search rules)) (search rules)

pub overflow_sub-number : goal.overflow_sub-number
overflow_sub-number c = behind_first c.args.members.now c.args.index.now.firsts c.args.number c.in_ok-home.field-0.now c.in_ok-first.field-0.now
    (block_is c.args.members.now c.args.index.now.homes c.args.index.now.firsts c.args.number c.in_ok-home.field-0.now c.requires.homes c.requires.firsts (search rules)) (search rules)

pub returns : goal.returns
returns c = record {
  value = c.get-4.ensures.value ∙ block_found c.args.members.now c.args.index.now.firsts c.args.number c.in_ok-home.field-0.now c.in_ok-first.field-0.now c.in_ok-get.field-0.now
      (block_is c.args.members.now c.args.index.now.homes c.args.index.now.firsts c.args.number c.in_ok-home.field-0.now c.requires.homes c.requires.firsts (search rules)) (search rules) (search rules);
}
