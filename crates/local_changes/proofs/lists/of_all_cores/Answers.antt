use Rattle.std.proofs.Common.{◌≡◌, ◌++◌, OnOk, subst}
use Rattle.swift_core.specs.Alters.{Alters, core_alters}
use Rattle.local_changes.proofs.Runs.{joined_map}
use Rattle.local_changes.proofs.lists.of_all_cores.Goals as goal

pub returns : goal.returns
returns c = record { ok = subst (λ (l : Alters). OnOk c.of_cores.result (c.of_cores.new.out ≡ c.args.out.now ++ l)) (joined_map core_alters c.args.terms.now) c.of_cores.ensures.ok }
