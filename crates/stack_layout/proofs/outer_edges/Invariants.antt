use Rattle.std.proofs.Common.{◌≡◌, drop, pos, negsuc, ◌≤ℤ◌}
use Rattle.std.specs.Prelude.{map, fold}
use Rattle.std.specs.Int.{int_min, int_max}
use Rattle.stack_layout.specs.Stacks.{tops, bottoms, least_of, greatest_of}
use Rattle.stack_layout.specs.Slots.{size_of}
use Rattle.stack_layout.proofs.outer_edges.Given as goal

abbrev pub invariant-loop-i : goal.invariant-loop-i
invariant-loop-i g l =
    let v = g.S.Sizes.views l.fn.children in
    let all = map size_of l.slots in
    record {
      top_told : fold int_min l.top (tops v l.cross l.i (map size_of (drop l.i l.slots))) ≡ least_of (tops v l.cross 0 all);
      bottom_told : fold int_max l.bottom (bottoms v l.cross l.i (map size_of (drop l.i l.slots))) ≡ greatest_of (bottoms v l.cross 0 all);
      top_low : negsuc 999999 ≤ℤ l.top;
      top_high : l.top ≤ℤ pos 1000000;
      bottom_low : negsuc 999999 ≤ℤ l.bottom;
      bottom_high : l.bottom ≤ℤ pos 2000000;
    }
