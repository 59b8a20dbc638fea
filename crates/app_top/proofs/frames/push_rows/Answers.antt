use Rattle.std.proofs.Common.{◌+◌, ◌*◌, slice_range, refl}
use Rattle.app_top.proofs.Playing.{line_more, line_none}
use Rattle.app_top.proofs.frames.push_rows.Goals as goal

pub loop-y-init : goal.loop-y-init
loop-y-init c = line_none c.args.text.now.items c.args.cells.now

pub loop-y-preserved : goal.loop-y-preserved
loop-y-preserved c = line_more c.loop-y.text.items c.extend_from_slice.new.self.items c.push.new.self.items c.args.cells.now
    (slice_range c.args.cells.now (80 * c.loop-y.y) (80 * c.loop-y.y + 80)) c.loop-y.y
    c.in_ok-extend_from_slice.ensures.items c.in_ok-push.ensures.items refl c.args.text.now.items c.loop-y.invariant
