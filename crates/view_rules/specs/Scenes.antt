-- The body of the app: one window with views.
use Rattle.std.specs.Prelude.{◌≡◌, List, Option, Some, None, codes, if◌then◌else◌}
use Rattle.std.specs.Str.{bytes_eq}
use Rattle.swift_ast.specs.declared.tree.Arg.{Arg}
use Rattle.swift_ast.specs.declared.tree.Part.{Part}
use Rattle.swift_ast.specs.declared.tree.Stmt.{Stmt}
use Rattle.swift_ast.specs.declared.tree.Tail.{Tail}
use Rattle.swift_core.specs.declared.item.CoreItem.{CoreItem}
use Rattle.type_base.specs.Claims.{Then, and_then, reads_then, reads_is}
use Rattle.modifier_rules.specs.Parts.{Word, name_with, called_at, sole_statement}
use Rattle.view_rules.specs.Builds.{BuildRule, FindBuild, ExactBuild, Blocks}
use Rattle.view_rules.specs.Forms.{is_empty, tail_body}
use Rattle.view_rules.specs.Items.{Built, find_built, built_exact}

abbrev pub empty_call : List Arg × Option Tail → Option Tail
empty_call c = if is_empty c.0 then c.1 else None

abbrev pub window_part : Word → Part → Option Tail
window_part w p = if bytes_eq w (codes "WindowGroup") then and_then (called_at p) empty_call else None

-- the statements of `WindowGroup { B }`, the one statement
abbrev pub window_of : List Stmt → Option (List Stmt)
window_of ss = and_then (sole_statement ss) (λ e. and_then (name_with e) (λ x. and_then (window_part x.0 x.1) tail_body))

unfoldable pub Scene : List Stmt → BuildRule (List CoreItem)
Scene ss cx bs r = (inside : List Stmt) × (window_of ss ≡ Some inside) × Built inside cx bs r

unfoldable pub find_scene : List Stmt → FindBuild (List CoreItem)
find_scene ss cx bs = and_then {B = List CoreItem × Blocks} (window_of ss) (λ inside. find_built inside cx bs)

pub scene_exact : (ss : List Stmt) → ExactBuild (find_scene ss) (Scene ss)
unfolding find_scene Scene Then
scene_exact ss cx bs = reads_then (reads_is _) (λ inside. built_exact inside cx bs)
