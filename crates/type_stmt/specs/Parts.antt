-- What statements, arms and cases become, put together part by part.
use Rattle.std.specs.Prelude.{Bool, ◌||◌, ◌&&◌, List, [], ◌∷◌, ◌++◌, Some}
use Rattle.swift_ast.specs.declared.tree.Condition.{Condition}
use Rattle.swift_ast.specs.declared.tree.Stmt.{Stmt}
use Rattle.swift_core.specs.declared.stmt.Condition.{Condition as CoreCondition}
use Rattle.swift_core.specs.declared.stmt.CoreStmt.{CoreStmt}
use Rattle.type_base.specs.Claims.{and_then}
use Rattle.type_base.specs.Rules.{FindPart}
use Rattle.case_rules.specs.Conditions.{find_conditions}
use Rattle.case_rules.specs.Scopes.{with_locals}
use Rattle.stmt_rules.specs.declared.done.Done.{Done}
use Rattle.stmt_rules.specs.declared.done.Body.{Body}
use Rattle.stmt_rules.specs.declared.done.Arms.{Arms}
use Rattle.stmt_rules.specs.declared.done.Bodies.{Bodies}
use Rattle.stmt_rules.specs.Rules.{body, arms, arm, bodies}
use Rattle.stmt_rules.specs.Search.{braces}

-- what stands before, and then a body
abbrev pub joined : List CoreStmt → Bool → Bool → Body → Body
joined core ends breaks b = body (core ++ b.core) (ends || b.ends) (breaks || b.breaks)

-- the body of one statement
abbrev pub body_of : Done → Body
body_of a = body (a.core ∷ []) a.ends a.breaks

-- arms, and then more of them
abbrev pub more_arms : Arms → Arms → Arms
more_arms r b = arms (r.arms ++ b.arms) (r.ends && b.ends) (r.breaks || b.breaks)

-- one arm
abbrev pub one_arm : List CoreCondition × Body → Arms
one_arm g = arms (arm g.0 g.1.core ∷ []) g.1.ends g.1.breaks

-- bodies of cases, and then more of them
abbrev pub more_bodies : Bodies → Bodies → Bodies
more_bodies r b = bodies (r.bodies ++ b.bodies) (r.ends && b.ends) (r.breaks || b.breaks)

-- the body of one case
abbrev pub one_of : Body → Bodies
one_of b = bodies (b.core ∷ []) b.ends b.breaks

-- conditions and the statements that run where they hold, in the scope of the conditions
abbrev pub guarded_in : (Stmt → FindPart Done) → List Condition → List Stmt → FindPart (List CoreCondition × Body)
guarded_in f conditions ss cx =
    and_then (find_conditions conditions cx) (λ c.
    and_then {B = List CoreCondition × Body} (braces f ss (with_locals cx c.1)) (λ b.
    Some (c.0, b)))
