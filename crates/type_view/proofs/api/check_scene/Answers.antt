use Rattle.view_rules.specs.Builds.{decided_build}
use Rattle.view_rules.specs.Scenes.{scene_exact}
use Rattle.type_view.proofs.api.check_scene.Goals as goal

pub returns-clause-typed : goal.returns-clause-typed
returns-clause-typed c = decided_build _ _ _ _ _ _ (scene_exact _ _ _) c.scene.ensures.found
