use Rattle.view_rules.specs.Scenes as scenes
use Rattle.view_rules.proofs.laws.scenes_are_found.Goals as goal

pub returns : goal.returns
returns c = record { law = scenes.scene_exact }
