use Rattle.std.proofs.Common.{◌≡◌, ◌≤◌, ◌++◌, take, drop, length}
use Rattle.std.specs.Prelude.{map, All}
use Rattle.align_guides.specs.Lengths.{limit}
use Rattle.stack_layout.specs.InTurn.{takes}
use Rattle.stack_layout.specs.Slots.{turn_of, taken_of, IsSized}
use Rattle.stack_layout.proofs.offer_all.Given as goal

abbrev pub invariant-loop-i : goal.invariant-loop-i
invariant-loop-i g l =
    let v = g.S.Sizes.views l.fn.children in
    record {
      told : map taken_of (take l.i l.slots) ++ takes v l.axis l.c (map turn_of (drop l.i l.fn.slots)) l.left ≡ takes v l.axis l.c (map turn_of l.fn.slots) l.room;
      long : length l.slots ≡ length l.fn.slots;
      rest : drop l.i l.slots ≡ drop l.i l.fn.slots;
      turns : map turn_of l.slots ≡ map turn_of l.fn.slots;
      sized : All IsSized (take l.i l.slots);
      left : l.left ≤ limit;
      same : g.S.Sizes.views l.children ≡ v;
      never_falls : g.S.Sizes.refusals l.fn.children ≤ g.S.Sizes.refusals l.children;
    }
