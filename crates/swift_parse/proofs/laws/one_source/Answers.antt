use Rattle.swift_parse.proofs.Files.{one_source}
use Rattle.swift_parse.proofs.laws.one_source.Goals as goal

pub returns : goal.returns
returns c tokens one other a b = one_source tokens one other a b
