-- Parts of the syntax, by their form.
-- After The Swift Programming Language, 'Function Call Expression' and 'Closure Expression'.
use Rattle.std.specs.Prelude.{ℕ, Bool, true, false, List, [], ◌∷◌, Option, Some, None, option_copied, ◌≡◌}
use Rattle.std.specs.Str.{bytes_eq}
use Rattle.swift_ast.specs.declared.tree.Expr.{Expr, out-Expr}
use Rattle.swift_ast.specs.declared.tree.ExprForm.{out-ExprForm}
use Rattle.swift_ast.specs.declared.tree.Arg.{Arg, out-Arg}
use Rattle.swift_ast.specs.declared.tree.ArgValue.{ArgValue, out-ArgValue}
use Rattle.swift_ast.specs.declared.tree.ArgValue.TheOpen.{ArgValue-F, Part-F, ExprForm-F, StmtForm-F}
use Rattle.swift_ast.specs.declared.tree.Part.{Part, out-Part}
use Rattle.swift_ast.specs.declared.tree.Tail.{Tail, out-Tail}
use Rattle.swift_ast.specs.declared.tree.Closure.{Closure, out-Closure}
use Rattle.swift_ast.specs.declared.tree.ClosureParam.{ClosureParam}
use Rattle.swift_ast.specs.declared.tree.ClosureParam.TheVariants as param
use Rattle.swift_ast.specs.declared.tree.Stmt.{Stmt, out-Stmt}
use Rattle.swift_ast.specs.declared.tree.StmtForm.{out-StmtForm}
use Rattle.swift_ast.specs.declared.tree.Selector.{Selector}
use Rattle.swift_ast.specs.declared.tree.Selector.TheVariants as selector
use Rattle.type_base.specs.Claims.{and_then}
use denote.Ref.{Bor}

abbrev pub Word : Type 0
Word = List ℕ

-- the one element of a list
abbrev pub sole : {A : Type 0} → List A → Option A
sole [] = None
sole (x ∷ []) = Some x
sole (x ∷ y ∷ more) = None

-- ---- expressions

-- `name`
abbrev pub name_of : Expr → Option Word
name_of e = elim (out-ExprForm (out-Expr e).form) [ ExprForm-F.Name w ↦ Some w | _ ↦ None ]

-- `.name`
abbrev pub implicit_of : Expr → Option Word
implicit_of e = elim (out-ExprForm (out-Expr e).form) [ ExprForm-F.Implicit w ↦ Some w | _ ↦ None ]

abbrev pub selector_at : Part → Option Selector
selector_at p = elim (out-Part p) [ Part-F.Member s ↦ Some s | _ ↦ None ]

abbrev pub word_of : Selector → Option Word
word_of (selector.Name w) = Some w
word_of selector.Itself = None

abbrev pub itself_of : Selector → Option Selector
itself_of (selector.Name w) = None
itself_of selector.Itself = Some selector.Itself

-- a name with one postfix part behind it
abbrev pub name_with : Expr → Option (Word × Part)
name_with e = elim (out-ExprForm (out-Expr e).form) [
  | ExprForm-F.Post operand parts ↦ and_then {B = Word × Part} (sole parts) (λ p. and_then {B = Word × Part} (name_of operand) (λ w. Some (w, p)))
  | _ ↦ None
]

-- `Name.name`
abbrev pub qualified : Expr → Option (Word × Word)
qualified e = and_then {B = Word × Word} (name_with e) (λ x. and_then {B = Word × Word} (selector_at x.1) (λ s. and_then {B = Word × Word} (word_of s) (λ w. Some (x.0, w))))

-- the K of `K.self`
abbrev pub key_word : Expr → Option Word
key_word e = and_then (name_with e) (λ x. and_then (selector_at x.1) (λ s. and_then (itself_of s) (λ i. Some x.0)))

abbrev pub index_at : Part → Option Expr
index_at p = elim (out-Part p) [ Part-F.Index e ↦ Some e | _ ↦ None ]

-- `name[index]`
abbrev pub indexed : Expr → Option (Word × Expr)
indexed e = and_then {B = Word × Expr} (name_with e) (λ x. and_then {B = Word × Expr} (index_at x.1) (λ i. Some (x.0, i)))

-- ---- arguments

abbrev pub expr_at : ArgValue → Option Expr
expr_at v = elim (out-ArgValue v) [ ArgValue-F.ArgValue::Expr e ↦ Some e | _ ↦ None ]

abbrev pub closure_at : ArgValue → Option Closure
closure_at v = elim (out-ArgValue v) [ ArgValue-F.Closure c ↦ Some c | _ ↦ None ]

abbrev pub path_at : ArgValue → Option Selector
path_at v = elim (out-ArgValue v) [ ArgValue-F.Key s ↦ Some s | _ ↦ None ]

abbrev pub label_is : Arg → Word → Bool
label_is a l = elim (out-Arg a).label [ Some w ↦ bytes_eq w l | None ↦ false ]

abbrev pub is_plain : Arg → Bool
is_plain a = elim (out-Arg a).label [ Some w ↦ false | None ↦ true ]

-- the value of an argument without a label
abbrev pub plain_value : Arg → Option ArgValue
plain_value a = elim (out-Arg a).label [ Some w ↦ None | None ↦ Some (out-Arg a).value ]

-- the value of an argument with this label
abbrev pub labelled_value : Word → Arg → Option ArgValue
labelled_value l a = elim (label_is a l) [ true ↦ Some (out-Arg a).value | false ↦ None ]

abbrev pub plain_expr : Arg → Option Expr
plain_expr a = and_then (plain_value a) expr_at

abbrev pub labelled_expr : Word → Arg → Option Expr
labelled_expr l a = and_then (labelled_value l a) expr_at

-- the expression that is the one argument, and has no label
abbrev pub sole_expr : List Arg → Option Expr
sole_expr args = and_then (sole args) plain_expr

-- ---- closures

-- the arguments in brackets and the closures behind them; a call of closures alone has no arguments in brackets
abbrev pub called_at : Part → Option (List Arg × Option Tail)
called_at p = elim (out-Part p) [ Part-F.Call args tail ↦ Some (args, tail) | Part-F.Tail t ↦ Some ([], Some t) | _ ↦ None ]

-- a call that is lent
abbrev pub IsCall : Option (Bor (List Arg) × Option (Bor Tail)) → Option (List Arg × Option Tail) → Type 0
IsCall None found = found ≡ None
IsCall (Some r) found = found ≡ Some (r.0.now, option_copied r.1)

-- the one trailing closure
abbrev pub sole_closure : Tail → Option Closure
sole_closure t = elim (out-Tail t).others [ [] ↦ Some (out-Tail t).closure | _ ↦ None ]

-- the statements of a closure without parameters
abbrev pub body_of : Closure → Option (List Stmt)
body_of c = elim (out-Closure c).params [ None ↦ Some (out-Closure c).body | _ ↦ None ]

abbrev pub param_word : ClosureParam → Option Word
param_word (param.Name w) = Some w
param_word (param.Dollar w) = None

-- the parameter of a closure that has one, and no `$` before it
abbrev pub sole_param : Closure → Option Word
sole_param c = and_then (out-Closure c).params (λ ps. and_then (sole ps) param_word)

-- the expression that is the one statement
abbrev pub expr_in : Stmt → Option Expr
expr_in s = elim (out-StmtForm (out-Stmt s).form) [ StmtForm-F.StmtForm::Expr e ↦ Some e | _ ↦ None ]

abbrev pub sole_statement : List Stmt → Option Expr
sole_statement ss = and_then (sole ss) expr_in
