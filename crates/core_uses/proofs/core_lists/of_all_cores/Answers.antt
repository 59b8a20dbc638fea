use Rattle.std.proofs.Common.{◌≡◌, ◌++◌, OnOk, subst}
use Rattle.swift_core.specs.Mentions.{Mentions, core_mentions}
use Rattle.core_uses.proofs.Runs.{joined_map}
use Rattle.core_uses.proofs.core_lists.of_all_cores.Goals as goal

pub returns : goal.returns
returns c = record { ok = subst (λ (l : Mentions). OnOk c.of_cores.result (c.of_cores.new.out ≡ c.args.out.now ++ l)) (joined_map core_mentions c.args.terms.now) c.of_cores.ensures.ok }
