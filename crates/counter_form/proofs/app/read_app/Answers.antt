use Rattle.std.proofs.Common.{◌≡◌, ◌≤◌, true, List, ℕ, length, sym, ◌∙◌, subst}
use Rattle.std.specs.List.{list_all}
use Rattle.view_engine.specs.Counter.{is_plain}
use Rattle.counter_form.proofs.Fitting.{number_digits, number_few, caption_plain, caption_short, below_billion}
use Rattle.counter_form.proofs.Spelling.{same_app}
use Rattle.counter_form.proofs.app.read_app.Goals as goal

pub number-requires-clause-digits : goal.number-requires-clause-digits
number-requires-clause-digits c = number_digits c.in-Some.texts.init.now c.in-Some.ensures.init

pub number-requires-clause-few : goal.number-requires-clause-few
number-requires-clause-few c = number_few c.in-Some.texts.init.now c.in-Some.ensures.init

pub number-requires-2-clause-digits : goal.number-requires-2-clause-digits
number-requires-2-clause-digits c = number_digits c.in-Some.texts.step.now c.in-Some.ensures.step

pub number-requires-2-clause-few : goal.number-requires-2-clause-few
number-requires-2-clause-few c = number_few c.in-Some.texts.step.now c.in-Some.ensures.step

pub returns-clause-only : goal.returns-clause-only
returns-clause-only c = λ shape s. same_app s c.in-Some.ensures.spelt
    ∙ (λ i. record {
      init = (sym c.number.ensures.value) i;
      step = (sym c.number-2.ensures.value) i;
      prefix = (sym (c.in_ok-to_vec.ensures.items_if_clones_equal (λ x y e. e))) i;
      label = (sym (c.in_ok-to_vec-2.ensures.items_if_clones_equal (λ x y e. e))) i;
    })

pub returns-clause-limits : goal.returns-clause-limits
returns-clause-limits c =
    let s = c.in-Some.ensures.spelt in
    let prefix_is = sym (c.in_ok-to_vec.ensures.items_if_clones_equal (λ x y e. e)) in
    let label_is = sym (c.in_ok-to_vec-2.ensures.items_if_clones_equal (λ x y e. e)) in
    record {
      init = below_billion c.number.result (length c.in-Some.texts.init.now) c.number.ensures.small (number_few c.in-Some.texts.init.now c.in-Some.ensures.init);
      step = below_billion c.number-2.result (length c.in-Some.texts.step.now) c.number-2.ensures.small (number_few c.in-Some.texts.step.now c.in-Some.ensures.step);
      prefix_short = subst (λ (l : List ℕ). length l ≤ 40) prefix_is (caption_short c.in-Some.texts.prefix.now s.prefix_text);
      prefix_plain = subst (λ (l : List ℕ). list_all is_plain l ≡ true) prefix_is (caption_plain c.in-Some.texts.prefix.now s.prefix_text);
      label_short = subst (λ (l : List ℕ). length l ≤ 40) label_is (caption_short c.in-Some.texts.label.now s.label_text);
      label_plain = subst (λ (l : List ℕ). list_all is_plain l ≡ true) label_is (caption_plain c.in-Some.texts.label.now s.label_text);
    }
