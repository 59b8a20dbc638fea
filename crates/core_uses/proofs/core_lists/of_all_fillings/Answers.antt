use Rattle.std.proofs.Common.{◌≡◌, ◌++◌, OnOk, subst}
use Rattle.swift_core.specs.Mentions.{Mentions, filling_mentions}
use Rattle.core_uses.proofs.Runs.{joined_map}
use Rattle.core_uses.proofs.core_lists.of_all_fillings.Goals as goal

pub returns : goal.returns
returns c = record { ok = subst (λ (l : Mentions). OnOk c.of_fillings.result (c.of_fillings.new.out ≡ c.args.out.now ++ l)) (joined_map filling_mentions c.args.fillings.now) c.of_fillings.ensures.ok }
