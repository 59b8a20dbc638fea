use Rattle.std.proofs.Common.{◌≡◌, ◌++◌, OnOk, subst}
use Rattle.swift_core.specs.Mentions.{Mentions, item_mentions}
use Rattle.core_uses.proofs.Runs.{joined_map}
use Rattle.core_uses.proofs.form_mentions.of_all_items.Goals as goal

pub returns : goal.returns
returns c = record { ok = subst (λ (l : Mentions). OnOk c.of_items.result (c.of_items.new.out ≡ c.args.out.now ++ l)) (joined_map item_mentions c.args.items.now) c.of_items.ensures.ok }
