-- One turn of a loop, whose meaning is one step and then the rest.
use Rattle.std.proofs.Common.{◌≡◌, ℕ, ◌+◌, ◌≤◌, ◌-◌, List, [], ◌∷◌, ◌++◌, length, get_or, take, drop, Option, ap, sym, ◌∙◌}
use Rattle.sv_value.specs.declared.value.Value.{Value}
use Rattle.swift_core.specs.declared.item.ModifierCall.{ModifierCall}
use Rattle.swift_core.specs.declared.term.Core.{Core}
use Rattle.core_means.specs.Asks.{World, Look, Reads, Answer, Gave, under}
use Rattle.view_nodes.specs.declared.node.Element.{Element}
use Rattle.body_means.specs.Building.{Building}
use Rattle.body_means.specs.Elements.{narrow}
use Rattle.body_means.specs.Modified.{decorations_in, modifiers_from, one_modifier, option_at, options_from}
use Rattle.eval_terms.proofs.Steps.{goes_on, first_and_rest}

module _ (b : Building) (look : Look) where
  pub options_turn : (reads reads' : Reads) (done done' : List (Option Value)) (es : List (Option Core)) (e : Option Core) (w w' : World) (o : Option Value) (whole : Answer (List (Option Value)))
      → 1 ≤ length es → e ≡ get_or es 0 e → under look reads (option_at b e w) ≡ Gave o w' reads' → done' ≡ done ++ o ∷ []
      → under look reads (options_from b done es w) ≡ whole
      → under look reads' (options_from b done' (take (length es - 1) (drop 1 es)) w') ≡ whole
  unfolding options_from
  options_turn reads reads' done done' es e w w' o whole some first h pushed all =
      let rest = take (length es - 1) (drop 1 es) in
      ap (λ os. under look reads' (options_from b os rest w')) pushed
      ∙ goes_on look reads reads' (option_at b e w) (λ u. options_from b (done ++ u ∷ []) rest) o w' whole h
      (ap (λ l. under look reads (options_from b done l w)) (sym (first_and_rest es e some first)) ∙ all)

  pub modifiers_turn : (reads reads' : Reads) (e e' : Element) (n n' d d' more : ℕ) (ms : List ModifierCall) (m : ModifierCall) (w w' : World) (whole : Answer Element)
      → 1 ≤ length ms → m ≡ get_or ms 0 m
      → under look reads (one_modifier b (record { wrapped = e; number = n; decoration = d }) m w) ≡ Gave e' w' reads'
      → n' ≡ narrow (n + 1) → more ≡ decorations_in m.kind → d' ≡ narrow (d + more)
      → under look reads (modifiers_from b (record { wrapped = e; number = n; decoration = d }) ms w) ≡ whole
      → under look reads' (modifiers_from b (record { wrapped = e'; number = n'; decoration = d' }) (take (length ms - 1) (drop 1 ms)) w') ≡ whole
  unfolding modifiers_from
  modifiers_turn reads reads' e e' n n' d d' more ms m w w' whole some first h next count deeper all =
      let rest = take (length ms - 1) (drop 1 ms) in
      ap (λ (x : ℕ). under look reads' (modifiers_from b (record { wrapped = e'; number = x; decoration = d' }) rest w')) next
      ∙ ap (λ (x : ℕ). under look reads' (modifiers_from b (record { wrapped = e'; number = narrow (n + 1); decoration = x }) rest w')) (deeper ∙ ap (λ (x : ℕ). narrow (d + x)) count)
      ∙ goes_on look reads reads' (one_modifier b (record { wrapped = e; number = n; decoration = d }) m w)
      (λ u. modifiers_from b (record { wrapped = u; number = narrow (n + 1); decoration = narrow (d + decorations_in m.kind) }) rest) e' w' whole h
      (ap (λ l. under look reads (modifiers_from b (record { wrapped = e; number = n; decoration = d }) l w)) (sym (first_and_rest ms m some first)) ∙ all)
