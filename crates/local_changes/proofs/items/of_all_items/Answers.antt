use Rattle.std.proofs.Common.{◌≡◌, ◌++◌, OnOk, subst}
use Rattle.swift_core.specs.Alters.{Alters, item_alters}
use Rattle.local_changes.proofs.Runs.{joined_map}
use Rattle.local_changes.proofs.items.of_all_items.Goals as goal

pub returns : goal.returns
returns c = record { ok = subst (λ (l : Alters). OnOk c.of_items.result (c.of_items.new.out ≡ c.args.out.now ++ l)) (joined_map item_alters c.args.items.now) c.of_items.ensures.ok }
