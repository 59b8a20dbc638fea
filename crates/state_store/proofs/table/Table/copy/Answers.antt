use Rattle.std.proofs.Common.{arith}
use Rattle.sv_laws.specs.Entries.{copied_turn}
use Rattle.identity_path.specs.Order.{same_path}
use Rattle.state_store.proofs.StateLemmas.{same_path_symm}
use Rattle.state_store.proofs.table.Table.copy.Goals as goal

pub loop-i-preserved : goal.loop-i-preserved
loop-i-preserved c =
    copied_turn same_path same_path_symm c.self.inside.cells.entries c.loop-i.cells.entries c.insert.new.self.entries c.loop-i.i c.in-Some.path.now _ c.in-Some.slots.now _ c.len-i-end.ensures.unique (omega arith) c.in-Some.ensures.entry
    c.in_ok-copy-in-Some.ensures c.in_ok-copy_of_all-in-Some.ensures c.loop-i.invariant c.in-Ok.ensures.entries
