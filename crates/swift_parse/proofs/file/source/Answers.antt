use Rattle.swift_parse.proofs.Files.{fault_is, source_spelled}
use Rattle.swift_parse.proofs.file.source.Goals as goal

pub returns-in-Err : goal.returns-in-Err
returns-in-Err c = fault_is c.args.tokens.now c.in-Err.fault c.requires c.in-Err.ensures

pub returns-in-Ok : goal.returns-in-Ok
returns-in-Ok c = (c.requires, source_spelled c.args.tokens.now c.in-Ok.pieces c.span_since-span.result c.in-Ok.ensures c.span_since-span.ensures)
