use Rattle.std.proofs.Common.{[], ◌∷◌, ap, sym, ◌∙◌, rules, map-id}
use Rattle.std.proofs.lemmas.Iterator.Adapters.{YieldsList-from_vec}
use Rattle.std.proofs.lemmas.Iterator.Consumers.{YieldsList-end}
use Rattle.body_means.specs.Elements.{all_led}
use Rattle.body_nodes.proofs.Leads.{led_turn}
use Rattle.body_nodes.proofs.steps.all_led.Goals as goal

pub loop-view-preserved : goal.loop-view-preserved
loop-view-preserved c =
    led_turn c.args.step.now _ _ _ _ _ _ c.in_ok-copy.ensures c.in_ok-made.ensures.value c.in_ok-push.ensures.ok c.loop-view.invariant

pub returns : goal.returns
returns c =
    let end = YieldsList-end (YieldsList-from_vec {s = c.into_iter-view-iterator.result} c.into_vec-all.result.items (search rules) (search rules))
    c.loop-view.yielded c.loop-view.view-iterator c.loop-view.yielded_by c.next.result c.next.new.self c.in-None.is c.next.ensures.steps in
    record { value = c.loop-view.invariant ∙ ap (all_led (c.args.step.now ∷ [])) (sym (map-id c.loop-view.yielded) ∙ end.0 ∙ c.into_vec-all.ensures) }
