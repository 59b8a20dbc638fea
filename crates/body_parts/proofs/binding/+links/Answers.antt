use Rattle.std.proofs.Common.{◌-◌, length, reverse, take, rules, arith}
use Rattle.std.proofs.lemmas.Grind.{common_steps}
use Rattle.core_means.specs.Asks.{world}
use Rattle.eval_places.specs.Runs.{Can, look_of}
use Rattle.body_means.specs.Building.{links}
use Rattle.body_parts.proofs.Links.{linked_right, link_right, linked_stops, linked_leaves}
use Rattle.body_parts.proofs.binding.+links.Goals as goal

pub linked-links-requires : goal.linked-links-requires
linked-links-requires g t c κs within =
    let s = c.args.setting.now in
    let hs = c.args.hops.now in
    let right : Can g.L.Cells.map s c.args.run.now (g.C.Cells.map c.args.cells.now) (links s.program.now c.args.room c.args.root (reverse (take (length hs - 1) hs))) =
    linked_right s.program.now c.args.room c.args.root hs (look_of g.L.Cells.map s) c.args.run.now.reads c.last-item.result
    (world c.args.run.now s.is_block s.frame.now (g.C.Cells.map c.args.cells.now)) c.in-len1-up.len_at_least c.last-item.is c.requires.right in
    first_of (search rules, grind (arith, common_steps))

pub linked-returns-in_err-place-in-len1-up : goal.linked-returns-in_err-place-in-len1-up
linked-returns-in_err-place-in-len1-up g t c =
    let s = c.args.setting.now in
    record {
      does = linked_stops s.program.now c.args.room c.args.root c.args.hops.now (look_of g.L.Cells.map s) c.args.run.now.reads c.links.new.run.reads c.last-item.result
          (world c.args.run.now s.is_block s.frame.now (g.C.Cells.map c.args.cells.now)) (world c.links.new.run s.is_block s.frame.now (g.C.Cells.map c.links.new.cells))
          c.in_err-place-in-len1-up.field-0.0 c.from_residual.result c.in-len1-up.len_at_least c.last-item.is c.from_residual.ensures.1 c.in_err-place-in-len1-up.ensures.does;
    }

pub linked-link-requires : goal.linked-link-requires
linked-link-requires g t c =
    let s = c.args.setting.now in
    record {
      right = link_right s.program.now c.args.room c.args.root c.args.hops.now (look_of g.L.Cells.map s) c.args.run.now.reads c.links.new.run.reads c.last-item.result c.in_ok-place-in-len1-up.place
          (world c.args.run.now s.is_block s.frame.now (g.C.Cells.map c.args.cells.now)) (world c.links.new.run s.is_block s.frame.now (g.C.Cells.map c.links.new.cells))
          c.in-len1-up.len_at_least c.last-item.is c.in_ok-place-in-len1-up.ensures.does c.requires.right;
    }

pub linked-returns-in_ok-place-in-len1-up : goal.linked-returns-in_ok-place-in-len1-up
linked-returns-in_ok-place-in-len1-up g t c =
    let s = c.args.setting.now in
    record {
      does = linked_leaves s.program.now c.args.room c.args.root c.args.hops.now (look_of g.L.Cells.map s) c.args.run.now.reads c.links.new.run.reads c.link.new.run.reads c.last-item.result
          c.in_ok-place-in-len1-up.place (world c.args.run.now s.is_block s.frame.now (g.C.Cells.map c.args.cells.now))
          (world c.links.new.run s.is_block s.frame.now (g.C.Cells.map c.links.new.cells)) (world c.link.new.run s.is_block s.frame.now (g.C.Cells.map c.link.new.cells))
          c.link.result c.in-len1-up.len_at_least c.last-item.is c.in_ok-place-in-len1-up.ensures.does c.link.ensures.does;
    }
