-- That the searches find what the rules relate, and that this is one thing at most.
use Rattle.std.specs.Prelude.{◌≡◌, List, Option}
use Rattle.swift_ast.specs.declared.tree.Stmt.{Stmt}
use Rattle.swift_core.specs.declared.stmt.CoreStmt.{CoreStmt}
use Rattle.swift_core.specs.declared.ty.Ty.{Ty}
use Rattle.type_base.specs.Context.{Context}
use Rattle.type_base.specs.Rules.{ExactPart}
use Rattle.stmt_rules.specs.Rules.{TypedBlock, TypedBody}
use Rattle.stmt_rules.specs.Search.{find_block, find_body}

abbrev pub BlocksFound : Type 0
BlocksFound = (ss : List Stmt) → ExactPart (find_block ss) (TypedBlock ss)

abbrev pub BodiesFound : Type 0
BodiesFound = (result : Option Ty) (ss : List Stmt) → ExactPart (find_body result ss) (TypedBody result ss)

abbrev pub OneBlock : Type 0
OneBlock = (ss : List Stmt) (cx : Context) (x y : List CoreStmt) → TypedBlock ss cx x → TypedBlock ss cx y → x ≡ y

abbrev pub OneBody : Type 0
OneBody = (result : Option Ty) (ss : List Stmt) (cx : Context) (x y : List CoreStmt) → TypedBody result ss cx x → TypedBody result ss cx y → x ≡ y
