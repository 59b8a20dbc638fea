use Rattle.std.proofs.Common.{◌≡◌, ◌++◌, OnOk, subst}
use Rattle.swift_core.specs.Alters.{Alters, filling_alters}
use Rattle.local_changes.proofs.Runs.{joined_map}
use Rattle.local_changes.proofs.lists.of_all_fillings.Goals as goal

pub returns : goal.returns
returns c = record { ok = subst (λ (l : Alters). OnOk c.of_fillings.result (c.of_fillings.new.out ≡ c.args.out.now ++ l)) (joined_map filling_alters c.args.fillings.now) c.of_fillings.ensures.ok }
