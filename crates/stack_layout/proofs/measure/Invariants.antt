use Rattle.std.proofs.Common.{◌≡◌, ◌≤◌, ◌++◌, take, drop}
use Rattle.std.specs.Prelude.{map}
use Rattle.stack_layout.specs.Slots.{measured}
use Rattle.stack_layout.proofs.measure.Given as goal

abbrev pub invariant-loop-i : goal.invariant-loop-i
invariant-loop-i g l =
    let v = g.S.Sizes.views l.fn.children in
    record {
      written : l.slots ≡ map (measured v l.axis l.c) (take l.i l.fn.slots) ++ drop l.i l.fn.slots;
      same : g.S.Sizes.views l.children ≡ v;
      never_falls : g.S.Sizes.refusals l.fn.children ≤ g.S.Sizes.refusals l.children;
    }
