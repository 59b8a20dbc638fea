-- That the searches find what the rules relate, and that this is one list of items at most.
use Rattle.std.specs.Prelude.{◌≡◌, List}
use Rattle.swift_ast.specs.declared.tree.Stmt.{Stmt}
use Rattle.swift_core.specs.declared.item.CoreItem.{CoreItem}
use Rattle.type_base.specs.Claims.{reads_one}
use Rattle.type_base.specs.Context.{Context}
use Rattle.view_rules.specs.Builds.{Blocks, ExactItems}
use Rattle.view_rules.specs.Items.{Built, find_built, built_exact}
use Rattle.view_rules.specs.Scenes.{Scene, find_scene, scene_exact}

abbrev pub BuildersFound : Type 0
BuildersFound = ExactItems find_built Built

abbrev pub ScenesFound : Type 0
ScenesFound = ExactItems find_scene Scene

abbrev pub OneBuilder : Type 0
OneBuilder = (ss : List Stmt) (cx : Context) (bs : Blocks) (x y : List CoreItem × Blocks) → Built ss cx bs x → Built ss cx bs y → x ≡ y

abbrev pub OneScene : Type 0
OneScene = (ss : List Stmt) (cx : Context) (bs : Blocks) (x y : List CoreItem × Blocks) → Scene ss cx bs x → Scene ss cx bs y → x ≡ y

pub one_builder : OneBuilder
one_builder ss cx bs = reads_one (built_exact ss cx bs)

pub one_scene : OneScene
one_scene ss cx bs = reads_one (scene_exact ss cx bs)
