use Rattle.std.proofs.Common.{rules, ◌≡◌, ◌++◌, ◌∷◌, [], Some, None, slice_get, slice_set}
use Rattle.view_rules.specs.Items.{item_case}
use Rattle.type_view.proofs.Pairs.{paired_start, paired_turn}
use Rattle.type_view.proofs.items.cases_of.Goals as goal

pub loop-at-init : goal.loop-at-init
loop-at-init c = paired_start c.args.labels c.args.bodies c.new-done.result (search rules)

pub loop-at-preserved : goal.loop-at-preserved
loop-at-preserved c =
    let at_label : slice_get c.loop-at.labels c.loop-at.at ≡ Some c.replace-patterns.result = first_of (search rules, cc) in
    let at_body : slice_get c.loop-at.bodies c.loop-at.at ≡ Some c.replace-body.result = first_of (search rules, cc) in
    let put_label : c.replace-patterns.new.self ≡ slice_set c.loop-at.labels c.loop-at.at None = first_of (search rules, cc) in
    let put_body : c.replace-body.new.self ≡ slice_set c.loop-at.bodies c.loop-at.at [] = first_of (search rules, cc) in
    let pushed : c.push.new.self ≡ c.loop-at.done ++ item_case c.replace-patterns.result c.replace-body.result ∷ [] = first_of (search rules, cc) in
    paired_turn c.args.labels c.args.bodies c.loop-at.at c.loop-at.labels c.replace-patterns.new.self c.loop-at.bodies c.replace-body.new.self c.loop-at.done c.push.new.self
    c.replace-patterns.result c.replace-body.result at_label at_body put_label put_body pushed c.loop-at.invariant
