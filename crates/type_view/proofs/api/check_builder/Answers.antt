use Rattle.view_rules.specs.Builds.{decided_build}
use Rattle.view_rules.specs.Items.{built_exact}
use Rattle.type_view.proofs.api.check_builder.Goals as goal

pub returns-clause-typed : goal.returns-clause-typed
returns-clause-typed c = decided_build _ _ _ _ _ _ (built_exact _ _ _) c.built.ensures.found
