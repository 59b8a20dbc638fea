-- What holds of all builders.
use Rattle.std.specs.Prelude.{List}
use Rattle.swift_ast.specs.declared.tree.Stmt.{Stmt}
use Rattle.swift_core.specs.Typing.{Items, PlacesStand}
use Rattle.swift_core.specs.declared.item.CoreItem.{CoreItem}
use Rattle.type_base.specs.Context.{Context}
use Rattle.view_rules.specs.Builds.{Blocks, ItemsRule}
use Rattle.view_rules.specs.Items.{Built}
use Rattle.view_rules.specs.Scenes.{Scene}
use Rattle.expr_cores.specs.Contexts.{core_context, core_locals, Fits}
use Rattle.view_cores.specs.Blocks.{ViewIsSelf, Front, Between, ItemsGood}
use Rattle.view_cores.specs.Items.{built_good, scene_good}

-- With the blocks after it, and those that stand behind them, what a rule of items relates is well typed. It adds its blocks behind those before it,
-- and each of them stands in the member.
abbrev pub ItemsTyped : ItemsRule → Type 0
ItemsTyped k = (ss : List Stmt) (cx : Context) (bs : Blocks) (r : List CoreItem × Blocks) → Fits cx.table → ViewIsSelf cx → k ss cx bs r
    → Front bs r.1 × ((all : Blocks) → Front r.1 all → Items (core_context cx all) (core_locals cx.locals) r.0)
    × ((all : Blocks) → Front r.1 all → PlacesStand (core_context cx all) (core_locals cx.locals) → Between (core_context cx all) bs r.1)

abbrev pub BuildersTyped : Type 0
BuildersTyped = ItemsTyped Built

abbrev pub ScenesTyped : Type 0
ScenesTyped = ItemsTyped Scene

typed : (k : ItemsRule) → ItemsGood k → ItemsTyped k
typed k good ss cx bs r fit iv h = ((good ss bs cx bs r fit iv h).0, λ all f. (good ss all cx bs r fit iv h).1 f, λ all f stand. (good ss all cx bs r fit iv h).2 f stand)

pub builders_typed : BuildersTyped
builders_typed = typed Built built_good

pub scenes_typed : ScenesTyped
scenes_typed = typed Scene scene_good
