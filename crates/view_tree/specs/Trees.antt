-- The paths of the units and of the custom views of a tree, and what holds of every tree. The tree before the launch is empty.
use Rattle.std.specs.Prelude.{◌≢◌, ◌≤◌, ℕ, List, [], ◌∷◌, Option, Some, None, map, sum, flat_map, ⊤}
use Rattle.std.specs.List.{AllByRecursion}
use Rattle.identity_path.specs.declared.step.Step.{Step}
use Rattle.view_tree.specs.declared.built.BuiltApp.{BuiltApp}
use Rattle.view_tree.specs.declared.standing.Name.{Name}
use Rattle.view_tree.specs.declared.standing.Standing.{Standing}
use Rattle.view_tree.specs.Counts.{count_of, depth_of, greatest}
use Rattle.view_tree.specs.Standing.{below, standing_in, name_of, unit_path, view_path}

-- what stands in the app, in tree order
abbrev pub app_standing : BuiltApp → List Standing
app_standing app = below [] (map standing_in app.roots)

-- the names of its nodes
abbrev pub node_names : BuiltApp → List Name
node_names app = flat_map name_of (app_standing app)

-- the paths of the units, in tree order: the app first, at the empty path
abbrev pub unit_paths : Option BuiltApp → List (List Step)
unit_paths None = []
unit_paths (Some app) = [] ∷ flat_map unit_path (app_standing app)

-- the paths of the custom views, in tree order
abbrev pub live_paths : Option BuiltApp → List (List Step)
live_paths None = []
live_paths (Some app) = flat_map view_path (app_standing app)

abbrev pub app_count : BuiltApp → ℕ
app_count app = sum (map count_of app.roots)

abbrev pub app_depth : BuiltApp → ℕ
app_depth app = greatest (map depth_of app.roots)

-- no two of them are equal
abbrev pub AreDistinct : {A : Type 0} → List A → Type 0
AreDistinct [] = ⊤
AreDistinct (x ∷ xs) = AllByRecursion (λ y. x ≢ y) xs × AreDistinct xs

-- No two views have one path, and no two modifiers one path and number. The tree counts at most 20,000, and is at most 128 deep.
pub record IsAppTree (app : BuiltApp) : Type 0 where
  pub names : AreDistinct (node_names app)
  pub count : app_count app ≤ 20000
  pub depth : app_depth app ≤ 128

abbrev pub IsTree : Option BuiltApp → Type 0
IsTree None = ⊤
IsTree (Some app) = IsAppTree app
