-- How the trees are made of their parts.
use Rattle.std.specs.Prelude.{ℕ, zero, suc, List, [], ◌∷◌, Option, Some, None}
use Rattle.swift_ast.specs.declared.span.Span.{Span}
use Rattle.swift_ast.specs.declared.type_name.TypeName.{TypeName}
use Rattle.swift_ast.specs.declared.type_name.TypeName.TheVariants as type
use Rattle.swift_ast.specs.declared.tree.BinarySign.{BinarySign}
use Rattle.swift_ast.specs.declared.tree.PrefixSign.{PrefixSign}
use Rattle.swift_ast.specs.declared.tree.AssignSign.{AssignSign}
use Rattle.swift_ast.specs.declared.tree.Expr.{Expr, roll-Expr}
use Rattle.swift_ast.specs.declared.tree.ExprForm.{ExprForm}
use Rattle.swift_ast.specs.declared.tree.ExprForm.TheVariants as form
use Rattle.swift_ast.specs.declared.tree.Link.{Link, roll-Link}
use Rattle.swift_ast.specs.declared.tree.Part.{Part}
use Rattle.swift_ast.specs.declared.tree.Closure.{Closure, roll-Closure}
use Rattle.swift_ast.specs.declared.tree.ClosureParam.{ClosureParam}
use Rattle.swift_ast.specs.declared.tree.LabelledClosure.{LabelledClosure, roll-LabelledClosure}
use Rattle.swift_ast.specs.declared.tree.Tail.{Tail, roll-Tail}
use Rattle.swift_ast.specs.declared.tree.Arg.{Arg, roll-Arg}
use Rattle.swift_ast.specs.declared.tree.ArgValue.{ArgValue}
use Rattle.swift_ast.specs.declared.tree.Stmt.{Stmt, roll-Stmt}
use Rattle.swift_ast.specs.declared.tree.StmtForm.{StmtForm}
use Rattle.swift_ast.specs.declared.tree.StmtForm.TheVariants as stmt
use Rattle.swift_ast.specs.declared.tree.Arm.{Arm, roll-Arm}
use Rattle.swift_ast.specs.declared.tree.Condition.{Condition}
use Rattle.swift_ast.specs.declared.tree.SwitchCase.{SwitchCase, roll-SwitchCase}
use Rattle.swift_ast.specs.declared.tree.SwitchLabel.{SwitchLabel}

-- a type with so many `?` behind it
abbrev pub optional_by : TypeName → ℕ → TypeName
optional_by t zero = t
optional_by t (suc n) = type.Optional t (suc n)

-- an expression of this form, with its span
abbrev pub node : Span → ExprForm → Expr
node s f = roll-Expr (record { span = s; form = f })

abbrev pub stmt_node : Span → StmtForm → Stmt
stmt_node s f = roll-Stmt (record { span = s; form = f })

abbrev pub link : BinarySign × Expr → Link
link x = roll-Link (record { sign = x.0; right = x.1 })

-- no links: the operand alone
abbrev pub chain_by : Span → Expr → List Link → Expr
chain_by s first [] = first
chain_by s first (l ∷ ls) = node s (form.Chain first (l ∷ ls))

abbrev pub post_by : Span → Expr → List Part → Expr
post_by s first [] = first
post_by s first (p ∷ ps) = node s (form.Post first (p ∷ ps))

abbrev pub prefix_of : Span → List PrefixSign → Expr → Expr
prefix_of s [] x = x
prefix_of s (p ∷ ps) x = node s (form.Prefix (p ∷ ps) x)

-- a condition with so many links to spare, and the two branches with what they leave of the links
abbrev pub ternary_by : Span → ℕ → Expr → Option ((Expr × Expr) × ℕ) → Expr × ℕ
ternary_by s links x None = (x, links)
ternary_by s links x (Some p) = (node s (form.Ternary x p.0.0 p.0.1), p.1)

abbrev pub closure : Option (List ClosureParam) × List Stmt → Closure
closure x = roll-Closure (record { params = x.0; body = x.1 })

abbrev pub labelled : List ℕ × Closure → LabelledClosure
labelled x = roll-LabelledClosure (record { label = x.0; closure = x.1 })

abbrev pub tail : Closure × List LabelledClosure → Tail
tail x = roll-Tail (record { closure = x.0; others = x.1 })

abbrev pub arg : Option (List ℕ) × ArgValue → Arg
arg x = roll-Arg (record { label = x.0; value = x.1 })

abbrev pub or_empty : {A : Type 0} → Option (List A) → List A
or_empty None = []
or_empty (Some xs) = xs

-- ---- statements

abbrev pub expr_stmt_by : Expr → Option (AssignSign × Expr) → StmtForm
expr_stmt_by x None = stmt.Expr x
expr_stmt_by x (Some y) = stmt.Assign x y.0 y.1

abbrev pub arm : List Condition × List Stmt → Arm
arm x = roll-Arm (record { conditions = x.0; body = x.1 })

abbrev pub switch_case : SwitchLabel × List Stmt → SwitchCase
switch_case x = roll-SwitchCase (record { label = x.0; body = x.1 })

-- the first statement, the others, and perhaps a last ";"
abbrev pub stmts_by : Option (Stmt × (List Stmt × Option (Unit {0}))) → List Stmt
stmts_by None = []
stmts_by (Some x) = x.0 ∷ x.1.0
