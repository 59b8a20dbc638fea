use Rattle.std.proofs.Common.{Option, IsSome, None, sym, subst}
use Rattle.swift_core.specs.declared.code.Code.{Code}
use Rattle.swift_core.specs.Codes.{block_id}
use Rattle.body_nodes.proofs.Blocks.{has_number, code_there, block_is}
use Rattle.body_nodes.proofs.keeping.block_at.Goals as goal

pub block-found-requires : goal.block-found-requires
block-found-requires c = record { held = has_number c.args.program.now (block_id c.args.program.now c.args.code c.args.id.number) c.requires.there }

pub unreachable-requires : goal.unreachable-requires
unreachable-requires c =
    let gone : IsSome {T = Code} None = subst (λ (o : Option Code). IsSome o) (sym c.in-None.ensures)
    (code_there c.args.program.now (block_id c.args.program.now c.args.code c.args.id.number) c.block-found.result.number c.requires.there c.block-found.ensures.value) in
    cc gone

pub returns : goal.returns
returns c = record {
  value = block_is c.args.program.now (block_id c.args.program.now c.args.code c.args.id.number) c.block-found.result.number c.in-Some.piece.now c.block-found.ensures.value c.in-Some.ensures;
}
