use Rattle.std.proofs.Common.{length, sym, ap, ◌∙◌}
use Rattle.environment.proofs.EnvLemmas.{length-overlaid}
use Rattle.environment.proofs.EnvMap.len.Goals as goal

pub returns : goal.returns
returns c = c.len.ensures ∙ sym (length-overlaid c.self.inside.defaults c.self.inside.changed.entries) ∙ ap length c.self.view_is
