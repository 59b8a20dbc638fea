use Rattle.std.proofs.Common.{arith, nat_eq, refl}
use Rattle.std.specs.Cmp.{nat_eq_equiv}
use Rattle.sv_laws.specs.Entries.{copied_turn}
use Rattle.environment.proofs.EnvMap.copy.Goals as goal

pub loop-i-preserved : goal.loop-i-preserved
loop-i-preserved c =
    copied_turn nat_eq nat_eq_equiv.symm c.self.inside.changed.entries c.loop-i.changed.entries c.insert.new.self.entries c.loop-i.i c.in-Some.key.now _ c.in-Some.value.now _ c.len-i-end.ensures.unique (omega arith) c.in-Some.ensures.entry
    refl c.in_ok-copy-in-Some.ensures c.loop-i.invariant c.in-Ok.ensures.entries
