-- Nodes under a step, one after the other.
use Rattle.std.proofs.Common.{◌≡◌, List, [], ◌∷◌, ◌++◌, ap, ◌∙◌, sym, refl}
use Rattle.identity_path.specs.declared.step.Step.{Step}
use Rattle.view_nodes.specs.declared.node.Element.{Element}
use Rattle.body_means.specs.Elements.{led, all_led}

led_more : (steps : List Step) (es : List Element) (e : Element) → all_led steps (es ++ e ∷ []) ≡ all_led steps es ++ led steps e ∷ []
unfolding all_led
led_more steps [] e = refl
led_more steps (x ∷ es) e = ap (λ l. led steps x ∷ l) (led_more steps es e)

pub led_turn : (step copy : Step) (done done' seen : List Element) (view made : Element) → copy ≡ step → made ≡ led (copy ∷ []) view → done' ≡ done ++ made ∷ []
    → done ≡ all_led (step ∷ []) seen → done' ≡ all_led (step ∷ []) (seen ++ view ∷ [])
led_turn step copy done done' seen view made copied is pushed so_far =
    pushed ∙ ap (λ l. l ++ made ∷ []) so_far ∙ ap (λ m. all_led (step ∷ []) seen ++ m ∷ []) (is ∙ ap (λ s. led (s ∷ []) view) copied)
    ∙ sym (led_more (step ∷ []) seen view)
