use Rattle.std.proofs.Common.{rules, tests}
use Rattle.std.proofs.lemmas.Iterator.{items_from_collect, YieldsList-from_slice}
use Rattle.std.proofs.lemmas.Iterator.Consumers.{YieldsList-from_filter_map}
use Rattle.swift_core.specs.declared.table.Signature.{Signature}
use Rattle.body_means.specs.Customs.{slot_kind}
use Rattle.body_nodes.proofs.fills.slot_kinds.Goals as goal

pub returns : goal.returns
returns c =
    items_from_collect _ c.collect.ensures.ran (YieldsList-from_filter_map _ (λ (s : Signature). slot_kind s.form)
    (YieldsList-from_slice c.args.members.now cc) c.filter_map.ensures.closure (λ x r q k. search (rules, tests)))
