use Rattle.std.proofs.Common.{◌≡◌, ◌≤◌, ◌++◌, take, drop}
use Rattle.std.specs.Prelude.{map, All}
use Rattle.stack_layout.specs.Slots.{sized_for, IsSized}
use Rattle.stack_layout.proofs.propose_all.Given as goal

abbrev pub invariant-loop-i : goal.invariant-loop-i
invariant-loop-i g l =
    let v = g.S.Sizes.views l.fn.children in
    record {
      written : l.slots ≡ map (sized_for v l.p) (take l.i l.fn.slots) ++ drop l.i l.fn.slots;
      sized : All IsSized (take l.i l.slots);
      same : g.S.Sizes.views l.children ≡ v;
      never_falls : g.S.Sizes.refusals l.fn.children ≤ g.S.Sizes.refusals l.children;
    }
