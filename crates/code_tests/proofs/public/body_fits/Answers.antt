use Rattle.std.proofs.Common.{ℕ, ◌<◌, ◌≤◌, length, sym, ap, subst, ◌∙◌}
use Rattle.code_tests.proofs.Tests.{body_property, no_reader, reader}
use Rattle.code_tests.proofs.public.body_fits.Goals as goal

pub returns-then-unit-len : goal.returns-then-unit-len
returns-then-unit-len g c = record {
  value = body_property c.args.program.now c.args.unit.number c.args.frame.now (g.C.Cells.map c.args.cells.now) c.in-Some.code.now c.property_fits.result c.rules.ensures.program
      (subst (λ (k : ℕ). c.args.unit.number < k) (c.len.ensures ∙ ap length c.members.ensures.value) c.if-unit-len.true) (sym c.in-Some.ensures.value) c.property_fits.ensures.value;
}

pub returns-then-not-is_builder : goal.returns-then-not-is_builder
returns-then-not-is_builder g c = record {
  value = no_reader c.args.program.now c.args.unit.number c.args.frame.now (g.C.Cells.map c.args.cells.now) c.in-Some.code.now c.rules.ensures.program
      (subst (λ (k : ℕ). k ≤ c.args.unit.number) (c.len.ensures ∙ ap length c.members.ensures.value) c.if-unit-len.false) (sym c.in-Some.ensures.value) (sym c.if-not-is_builder.ensures.value);
}

pub returns : goal.returns
returns g c = record {
  value = reader c.args.program.now c.args.unit.number c.args.frame.now (g.C.Cells.map c.args.cells.now) c.in-Some.code.now c.block_fits.result c.rules.ensures.program
      (subst (λ (k : ℕ). k ≤ c.args.unit.number) (c.len.ensures ∙ ap length c.members.ensures.value) c.if-unit-len.false) (sym c.in-Some.ensures.value) (sym c.if-not-is_builder.ensures.value) c.block_fits.ensures.value;
}
