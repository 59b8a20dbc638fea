-- What one level of the syntax tree is made of.
use Rattle.swift_ast.specs.declared.tree.ArgValue.{ArgValue}
use Rattle.swift_ast.specs.declared.tree.Condition.{Condition}
use Rattle.swift_ast.specs.declared.tree.ExprForm.{ExprForm}
use Rattle.swift_ast.specs.declared.tree.Part.{Part}
use Rattle.swift_ast.specs.declared.tree.StmtForm.{StmtForm}
use Rattle.swift_ast.specs.declared.tree.StringPart.{StringPart}
use Rattle.swift_ast.specs.declared.tree.Arg.{Arg}
use Rattle.swift_ast.specs.declared.tree.Arm.{Arm}
use Rattle.swift_ast.specs.declared.tree.Closure.{Closure}
use Rattle.swift_ast.specs.declared.tree.Expr.{Expr}
use Rattle.swift_ast.specs.declared.tree.LabelledClosure.{LabelledClosure}
use Rattle.swift_ast.specs.declared.tree.Link.{Link}
use Rattle.swift_ast.specs.declared.tree.Stmt.{Stmt}
use Rattle.swift_ast.specs.declared.tree.SwitchCase.{SwitchCase}
use Rattle.swift_ast.specs.declared.tree.Tail.{Tail}
use Rattle.swift_ast.specs.declared.tree.ArgValue.TheOpen.{ExprForm-F, StmtForm-F, Condition-F}

-- a form of an expression, with its parts
abbrev pub ExprLayer : Type 0
ExprLayer = ExprForm-F ArgValue Condition ExprForm Part StmtForm StringPart Arg Arm Closure Expr LabelledClosure Link Stmt SwitchCase Tail

-- a form of a statement, with its parts
abbrev pub StmtLayer : Type 0
StmtLayer = StmtForm-F ArgValue Condition ExprForm Part StmtForm StringPart Arg Arm Closure Expr LabelledClosure Link Stmt SwitchCase Tail

-- a condition, with its parts
abbrev pub ConditionLayer : Type 0
ConditionLayer = Condition-F ArgValue Condition ExprForm Part StmtForm StringPart Arg Arm Closure Expr LabelledClosure Link Stmt SwitchCase Tail
