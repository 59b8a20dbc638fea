-- One level of an expression, of a postfix part and of an argument.
use Rattle.std.specs.Prelude.{◌≡◌, ℕ, Bool, true, false, List, [], ◌∷◌, Option, Some, None, ◌↔◌}
use Rattle.std.specs.Str.{bytes_eq}
use Rattle.std.proofs.Common.{refl}
use Rattle.std.proofs.lemmas.Slice.Eq.{bytes_eq-Decides}
use Rattle.swift_ast.specs.declared.tree.Arg.{Arg, out-Arg}
use Rattle.swift_ast.specs.declared.tree.ArgValue.{ArgValue, out-ArgValue}
use Rattle.swift_ast.specs.declared.tree.ArgValue.TheOpen.{ArgValue-F, ExprForm-F, Part-F}
use Rattle.swift_ast.specs.declared.tree.Arm.{Arm}
use Rattle.swift_ast.specs.declared.tree.Closure.{Closure}
use Rattle.swift_ast.specs.declared.tree.Condition.{Condition}
use Rattle.swift_ast.specs.declared.tree.Expr.{Expr, out-Expr}
use Rattle.swift_ast.specs.declared.tree.ExprForm.{ExprForm, out-ExprForm}
use Rattle.swift_ast.specs.declared.tree.LabelledClosure.{LabelledClosure}
use Rattle.swift_ast.specs.declared.tree.Link.{Link}
use Rattle.swift_ast.specs.declared.tree.Part.{Part}
use Rattle.swift_ast.specs.declared.tree.Stmt.{Stmt}
use Rattle.swift_ast.specs.declared.tree.StmtForm.{StmtForm}
use Rattle.swift_ast.specs.declared.tree.StringPart.{StringPart}
use Rattle.swift_ast.specs.declared.tree.SwitchCase.{SwitchCase}
use Rattle.swift_ast.specs.declared.tree.Tail.{Tail}

abbrev pub Form : Type 0
Form = ExprForm-F ArgValue Condition ExprForm Part StmtForm StringPart Arg Arm Closure Expr LabelledClosure Link Stmt SwitchCase Tail

abbrev pub PartForm : Type 0
PartForm = Part-F ArgValue Condition ExprForm Part StmtForm StringPart Arg Arm Closure Expr LabelledClosure Link Stmt SwitchCase Tail

abbrev pub ArgForm : Type 0
ArgForm = ArgValue-F ArgValue Condition ExprForm Part StmtForm StringPart Arg Arm Closure Expr LabelledClosure Link Stmt SwitchCase Tail

-- the form of an expression
abbrev pub form_of : Expr → Form
form_of e = out-ExprForm (out-Expr e).form

abbrev pub expr_at : ArgForm → Option Expr
expr_at (ArgValue-F.ArgValue::Expr e) = Some e
expr_at _ = None

-- the expression that an argument is
abbrev pub expr_of : Arg → Option Expr
expr_of a = expr_at (out-ArgValue (out-Arg a).value)

-- the label of an argument
abbrev pub label_of : Arg → Option (List ℕ)
label_of a = (out-Arg a).label

-- two labels are the same, or both are missing
abbrev pub same_label : Option (List ℕ) → Option (List ℕ) → Bool
same_label None None = true
same_label (Some v) (Some w) = bytes_eq v w
same_label _ _ = false

pub same_label_decides : (a b : Option (List ℕ)) → (same_label a b ≡ true) ↔ (a ≡ b)
same_label_decides None None = (λ e. refl, λ e. refl)
same_label_decides None (Some w) = (λ e. cc, λ e. cc)
same_label_decides (Some v) None = (λ e. cc, λ e. cc)
same_label_decides (Some v) (Some w) = (λ e. let h : v ≡ w = (bytes_eq-Decides v w).0 e in cc, λ e. let h : v ≡ w = cc in (bytes_eq-Decides v w).1 h)

abbrev pub has_label : Option (List ℕ) → Bool
has_label None = false
has_label (Some w) = true

-- the first argument has a label
abbrev pub is_labelled : List Arg → Bool
is_labelled [] = false
is_labelled (a ∷ args) = has_label (label_of a)
