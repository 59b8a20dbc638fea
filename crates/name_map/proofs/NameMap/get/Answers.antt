use Rattle.std.proofs.Common.{sym, ap, ◌∙◌}
use Rattle.std.specs.FinMap as fin
use Rattle.name_map.proofs.HeldLemmas.{get_held}
use Rattle.name_map.proofs.NameMap.get.Goals as goal

pub returns : goal.returns
returns c = record {
  place = c.copied.ensures ∙ c.get.ensures.value ∙ sym (get_held c.self.inside.places.entries c.args.name.now) ∙ ap (λ m. fin.get m c.args.name.now) c.self.view_is;
}
