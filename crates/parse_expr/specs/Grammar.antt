-- The grammar of expressions and statements: each definition is one line of it.
--
-- It is a part of the grammar that `The Swift Programming Language` sums up in its chapters `Lexical Structure`, `Expressions`, `Statements` and
-- `Patterns`. Of expressions it leaves out: `try`, `await`, casts, `is`, `as`, assignments as operators, `&x`, operators of one's own, bit and shift
-- and wrapping operators, half-open ranges, floats, dictionaries, tuples, `#selector` and its like, key paths of more than one name, `if` and `switch`
-- as expressions, optional chaining, `super`, subscripts with more than one argument, captures, types and attributes in closures, and `init`. Of
-- statements: `guard`, `repeat`, `defer`, `do`, `throw`, labels, `fallthrough`, compiler control, `if case`, `where`, and declarations other than of
-- one local by `let` or `var` with a value. Of patterns: all but constants and names of cases.
use Rattle.std.specs.Prelude.{◌≡◌, ℕ, zero, suc, Bool, true, false, not, ◌&&◌, ◌||◌, List, [], ◌∷◌, length, Option, Some, None, is_none, nat_lt, codes}
use Rattle.swift_lex.specs.declared.token.Token.{Token}
use Rattle.swift_ast.specs.declared.type_name.TypeName.{TypeName}
use Rattle.swift_ast.specs.declared.tree.Selector.{Selector}
use Rattle.swift_ast.specs.declared.tree.ClosureParam.{ClosureParam}
use Rattle.swift_ast.specs.declared.tree.Pattern.{Pattern}
use Rattle.swift_ast.specs.declared.tree.Expr.{Expr}
use Rattle.swift_ast.specs.declared.tree.ExprForm.{ExprForm}
use Rattle.swift_ast.specs.declared.tree.ExprForm.TheVariants as form
use Rattle.swift_ast.specs.declared.tree.StringPart.{StringPart}
use Rattle.swift_ast.specs.declared.tree.StringPart.TheVariants as text
use Rattle.swift_ast.specs.declared.tree.Part.{Part}
use Rattle.swift_ast.specs.declared.tree.Part.TheVariants as part
use Rattle.swift_ast.specs.declared.tree.Closure.{Closure}
use Rattle.swift_ast.specs.declared.tree.LabelledClosure.{LabelledClosure}
use Rattle.swift_ast.specs.declared.tree.Tail.{Tail}
use Rattle.swift_ast.specs.declared.tree.Arg.{Arg}
use Rattle.swift_ast.specs.declared.tree.ArgValue.{ArgValue}
use Rattle.swift_ast.specs.declared.tree.ArgValue.TheVariants as value
use Rattle.swift_ast.specs.declared.tree.Stmt.{Stmt}
use Rattle.swift_ast.specs.declared.tree.StmtForm.{StmtForm}
use Rattle.swift_ast.specs.declared.tree.StmtForm.TheVariants as stmt
use Rattle.swift_ast.specs.declared.tree.Arm.{Arm}
use Rattle.swift_ast.specs.declared.tree.Condition.{Condition}
use Rattle.swift_ast.specs.declared.tree.Condition.TheVariants as condition
use Rattle.swift_ast.specs.declared.tree.SwitchCase.{SwitchCase}
use Rattle.swift_ast.specs.declared.tree.SwitchLabel.{SwitchLabel}
use Rattle.swift_ast.specs.declared.tree.SwitchLabel.TheVariants as label
use Rattle.parse_base.specs.Parser.{starts}
use Rattle.parse_base.specs.Language.{Language, nothing, One, Both, Then, Made, Spanned, Such, Either, Many, UpTo, Perhaps, Greedy, Where, Listed}
use Rattle.parse_base.specs.Terminals.{a_sign, a_word, a_name, a_text, string_open, hole_open, string_close, on_line, label_ahead}
use Rattle.parse_terms.specs.Words.{max_links, a_literal, a_param, a_selector, an_op, limit, top_level, a_prefix, a_force, tail_open, an_assign, a_binder, a_jump}
use Rattle.parse_terms.specs.Trees.{node, stmt_node, link, chain_by, post_by, prefix_of, ternary_by, closure, labelled, tail, arg, or_empty, expr_stmt_by, arm, switch_case, stmts_by}
use Rattle.parse_terms.specs.Types.{SpellsType}
use Rattle.parse_terms.specs.Patterns.{SpellsPattern}
use Rattle.parse_expr.specs.Tests.{on_new_line, can_begin, few_elses}

-- What stands inside brackets and behind a token. Of an expression: whether a closure may trail an operand there (not in the head of `if`, `switch`,
-- `for` and `while`), and how many links are left for ternaries; it answers those that are left then.
pub record Inner : Type 1 where
  pub Expr' : Bool → ℕ → Language (Expr × ℕ)
  pub Stmts' : Language (List Stmt)

module _ (total : ℕ) (I : Inner) where
  -- an expression inside brackets, which has all its links to spare
  unfoldable pub Inside : Bool → Language Expr
  Inside tails = Made (λ x. x.0) (I.Expr' tails max_links)

  -- string = OPEN { TEXT | "\(" expr ")" } CLOSE
  unfoldable pub Hole : Bool → Language StringPart
  Hole tails = Made (λ x. text.Hole x.1.0) (Both (One hole_open) (Both (Inside tails) (One (a_sign (codes ")")))))

  unfoldable pub StringPiece : Bool → Language StringPart
  StringPiece tails = Either (Made text.Text (One a_text)) (Hole tails)

  unfoldable pub StringOf : Bool → Language (List StringPart)
  StringOf tails = Made (λ x. x.1.0) (Both (One string_open) (Both (Many (StringPiece tails)) (One string_close)))

  -- "." NAME
  unfoldable pub ImplicitOf : Language ExprForm
  ImplicitOf = Made (λ x. form.Implicit x.1) (Both (One (a_sign (codes "."))) (One a_name))

  -- "[" [LIST(expr)] "]"
  unfoldable pub ListOf : Bool → Language ExprForm
  ListOf tails = Made (λ x. form.List (or_empty x.1.0)) (Both (One (a_sign (codes "["))) (Both (Perhaps (Listed (a_sign (codes ",")) (Inside tails))) (One (a_sign (codes "]")))))

  -- "(" expr ")", which leaves no node
  unfoldable pub Paren : Bool → Language Expr
  Paren tails = Made (λ x. x.1.0) (Both (One (a_sign (codes "("))) (Both (Inside tails) (One (a_sign (codes ")")))))

  -- prim = INT | string | "true" | "false" | "nil" | "self" | NAME | $NAME | "." NAME | "[" [LIST(expr)] "]" | "(" expr ")"
  unfoldable pub PrimForm : Bool → Language ExprForm
  PrimForm tails = Either (One a_literal) (Either (Made form.Text (StringOf tails)) (Either ImplicitOf (ListOf tails)))

  unfoldable pub Prim : Bool → Language Expr
  Prim tails = Either (Paren tails) (Spanned total node (PrimForm tails))

  -- closure = "{" [LIST(NAME or $NAME) "in"] stmts "}"
  unfoldable pub Params : Language (List ClosureParam)
  Params = Made (λ x. x.0) (Both (Listed (a_sign (codes ",")) (One a_param)) (One (a_word (codes "in"))))

  unfoldable pub ClosureIn : Language Closure
  ClosureIn = Made closure (Both (Perhaps Params) I.Stmts')

  unfoldable pub ClosureOf : Language Closure
  ClosureOf = Made (λ x. x.1.0) (Both (One (a_sign (codes "{"))) (Both ClosureIn (One (a_sign (codes "}")))))

  -- the first closure of a tail, whose "{" is not on a new line
  unfoldable pub FirstClosure : Bool → Language Closure
  FirstClosure tails = Made (λ x. x.1.0) (Both (One (tail_open tails)) (Both ClosureIn (One (a_sign (codes "}")))))

  -- NAME ":"
  unfoldable pub Label : Language (List ℕ)
  Label = Made (λ x. x.0) (Both (One a_name) (One (a_sign (codes ":"))))

  -- tail = closure { NAME ":" closure }
  unfoldable pub LabelledOf : Language LabelledClosure
  LabelledOf = Made labelled (Both Label ClosureOf)

  unfoldable pub TailOf : Bool → Language Tail
  TailOf tails = Made tail (Both (FirstClosure tails) (Many LabelledOf))

  -- arg = [NAME ":"] (expr | closure | "\" "." (NAME | "self"))
  unfoldable pub KeyOf : Language ArgValue
  KeyOf = Made (λ x. value.Key x.1.1) (Both (One (a_sign (codes "\\"))) (Both (One (a_sign (codes "."))) (One a_selector)))

  unfoldable pub ValueOf : Bool → Language ArgValue
  ValueOf tails = Either KeyOf (Either (Made value.Closure ClosureOf) (Made value.Expr (Inside tails)))

  unfoldable pub ArgOf : Bool → Language Arg
  ArgOf tails = Made arg (Both (Perhaps Label) (ValueOf tails))

  -- "(" [LIST(arg)] ")", whose "(" is not on a new line
  unfoldable pub Args : Bool → Language (List Arg)
  Args tails = Made (λ x. or_empty x.1.0) (Both (One (on_line (codes "("))) (Both (Perhaps (Listed (a_sign (codes ",")) (ArgOf tails))) (One (a_sign (codes ")")))))

  -- the arguments, and the tail: a closure that can be the tail of this part is it
  unfoldable pub Call : Bool → Language Part
  Call tails = Made (λ x. part.Call x.0 x.1) (Both (Args tails) (Greedy (starts (tail_open tails)) (TailOf tails)))

  -- "." (NAME | "self")
  unfoldable pub MemberOf : Language Part
  MemberOf = Made (λ x. part.Member x.1) (Both (One (a_sign (codes "."))) (One a_selector))

  -- "[" expr "]", whose "[" is not on a new line
  unfoldable pub IndexOf : Bool → Language Part
  IndexOf tails = Made (λ x. part.Index x.1.0) (Both (One (on_line (codes "["))) (Both (Inside tails) (One (a_sign (codes "]")))))

  unfoldable pub PartOf : Bool → Language Part
  PartOf tails = Either (One a_force) (Either MemberOf (Either (IndexOf tails) (Either (Call tails) (Made part.Tail (TailOf tails)))))

  -- post = prim { "." (NAME | "self") | "(" [LIST(arg)] ")" [tail] | tail | "[" expr "]" | "!" }
  unfoldable pub Post : Bool → Language Expr
  Post tails = Spanned total (λ s x. post_by s x.0 x.1) (Both (Prim tails) (UpTo max_links (Many (PartOf tails))))

  -- pre = ("-" | "!") pre | post
  unfoldable pub Unary : Bool → Language Expr
  Unary tails = Spanned total (λ s x. prefix_of s x.0 x.1) (Both (UpTo max_links (Many (One a_prefix))) (Post tails))

  -- the rules of the binary operators, from `* / %` at 1 to `||` at 7: rule k+1 is rule k { operator rule k }
  unfoldable pub Level : Bool → ℕ → Language Expr
  Level tails zero = Unary tails
  Level tails (suc k) = Spanned total (λ s x. chain_by s x.0 x.1) (Both (Level tails k) (UpTo (limit (suc k)) (Many (Made link (Both (One (an_op (suc k))) (Level tails k))))))

  -- "?" expr ":" expr, which is one link; it answers the links that both branches leave
  unfoldable pub Branches : Bool → ℕ → Language ((Expr × Expr) × ℕ)
  Branches tails zero = nothing
  Branches tails (suc links) = Made (λ x. ((x.1.0.0, x.1.1.1.0), x.1.1.1.1)) (Both (One (a_sign (codes "?"))) (Then (I.Expr' tails links) (λ m. Both (One (a_sign (codes ":"))) (I.Expr' tails m.1))))

  -- expr = or ["?" expr ":" expr], with so many links to spare; it answers those that are left
  unfoldable pub ExprOf : Bool → ℕ → Language (Expr × ℕ)
  ExprOf tails links = Spanned total (λ s x. ternary_by s links x.0 x.1) (Both (Level tails top_level) (Perhaps (Branches tails links)))

  -- "{" stmts "}"
  unfoldable pub Block : Language (List Stmt)
  Block = Made (λ x. x.1.0) (Both (One (a_sign (codes "{"))) (Both I.Stmts' (One (a_sign (codes "}")))))

  -- ("let" | "var") NAME [":" type] "=" expr
  unfoldable pub Declared : Language TypeName
  Declared = Made (λ x. x.1) (Both (One (a_sign (codes ":"))) SpellsType)

  unfoldable pub LocalOf : Language StmtForm
  LocalOf = Made (λ x. stmt.Local x.0 x.1.0 x.1.1.0 x.1.1.1.1) (Both (One a_binder) (Both (One a_name) (Both (Perhaps Declared) (Both (One (a_sign (codes "="))) (Inside true)))))

  -- "return" [expr], with an expression where the next token can begin one
  unfoldable pub ReturnOf : Language StmtForm
  ReturnOf = Made (λ x. stmt.Return x.1) (Both (One (a_word (codes "return"))) (Greedy can_begin (Inside true)))

  -- cond = expr | "let" NAME ["=" expr]
  unfoldable pub LetOf : Language Condition
  LetOf = Made (λ x. condition.Let x.1.0 x.1.1) (Both (One (a_word (codes "let"))) (Both (One a_name) (Perhaps (Made (λ x. x.1) (Both (One (a_sign (codes "="))) (Inside false))))))

  unfoldable pub ConditionOf : Language Condition
  ConditionOf = Either LetOf (Made condition.Expr (Inside false))

  -- LIST(cond)
  unfoldable pub Conditions : Language (List Condition)
  Conditions = Listed (a_sign (codes ",")) ConditionOf

  -- ifs = "if" LIST(cond) "{" stmts "}" ["else" (ifs | "{" stmts "}")]
  unfoldable pub ArmOf : Language Arm
  ArmOf = Made (λ x. arm x.1) (Both (One (a_word (codes "if"))) (Both Conditions Block))

  unfoldable pub ElseIf : Language Arm
  ElseIf = Made (λ x. x.1) (Both (One (a_word (codes "else"))) ArmOf)

  unfoldable pub ElseOf : Language (List Stmt)
  ElseOf = Made (λ x. x.1) (Both (One (a_word (codes "else"))) Block)

  -- each `else` is a link, the last one too
  unfoldable pub Elses : Language (List Arm × Option (List Stmt))
  Elses = Such few_elses (Both (UpTo max_links (Many ElseIf)) (Perhaps ElseOf))

  unfoldable pub IfOf : Language StmtForm
  IfOf = Made (λ x. stmt.If (x.0 ∷ x.1.0) x.1.1) (Both ArmOf Elses)

  -- "switch" expr "{" {("case" LIST(pattern) | "default") ":" stmts} "}"
  unfoldable pub CaseLabel : Language SwitchLabel
  CaseLabel = Either (Made (λ x. label.Case x.1) (Both (One (a_word (codes "case"))) (Listed (a_sign (codes ",")) SpellsPattern))) (Made (λ x. label.Default) (One (a_word (codes "default"))))

  unfoldable pub CaseOf : Language SwitchCase
  CaseOf = Made (λ x. switch_case (x.0, x.1.1)) (Both CaseLabel (Both (One (a_sign (codes ":"))) I.Stmts'))

  unfoldable pub SwitchOf : Language StmtForm
  SwitchOf = Made (λ x. stmt.Switch x.1.0 x.1.1.1.0) (Both (One (a_word (codes "switch"))) (Both (Inside false) (Both (One (a_sign (codes "{"))) (Both (Many CaseOf) (One (a_sign (codes "}")))))))

  -- "for" NAME "in" expr "{" stmts "}"
  unfoldable pub ForOf : Language StmtForm
  ForOf = Made (λ x. stmt.For x.1.0 x.1.1.1.0 x.1.1.1.1) (Both (One (a_word (codes "for"))) (Both (One a_name) (Both (One (a_word (codes "in"))) (Both (Inside false) Block))))

  -- "while" LIST(cond) "{" stmts "}"
  unfoldable pub WhileOf : Language StmtForm
  WhileOf = Made (λ x. stmt.While x.1.0 x.1.1) (Both (One (a_word (codes "while"))) (Both Conditions Block))

  -- expr, or expr ("=" | "+=" | "-=" | "*=" | "/=" | "%=") expr
  unfoldable pub ExprStmt : Language StmtForm
  ExprStmt = Made (λ x. expr_stmt_by x.0.0 x.1) (Both (ExprOf true max_links) (Perhaps (Both (One an_assign) (Inside true))))

  -- stmt, by the word that begins it
  unfoldable pub StmtForms : Language StmtForm
  StmtForms = Either LocalOf (Either ReturnOf (Either (One a_jump) (Either IfOf (Either SwitchOf (Either ForOf (Either WhileOf ExprStmt))))))

  unfoldable pub StmtOf : Language Stmt
  StmtOf = Spanned total stmt_node StmtForms

  -- another statement: after ";", or on a new line and not by a "."
  unfoldable pub NextOf : Language Stmt
  NextOf = Either (Made (λ x. x.1) (Both (One (a_sign (codes ";"))) StmtOf)) (Made (λ x. x.1) (Both (Where on_new_line) StmtOf))

  -- stmts = { stmt [";"] }, each on a new line, after ";" or as the first
  unfoldable pub StmtsOf : Language (List Stmt)
  StmtsOf = Made stmts_by (Perhaps (Both StmtOf (Both (Many NextOf) (Perhaps (One (a_sign (codes ";")))))))

-- what nests less than so deep, in a file of so many tokens
unfoldable pub Nested : ℕ → ℕ → Inner
Nested total zero = record { Expr' = λ tails links. nothing; Stmts' = nothing }
Nested total (suc n) = record { Expr' = ExprOf total (Nested total n); Stmts' = StmtsOf total (Nested total n) }

-- ---- in a file of so many tokens, those from `ts` up to `rest` spell it

unfoldable pub SpellsExpr : ℕ → Language Expr
SpellsExpr total ts x rest = (depth : ℕ) × Inside total (Nested total depth) true ts x rest

unfoldable pub SpellsStmts : ℕ → Language (List Stmt)
SpellsStmts total ts x rest = (depth : ℕ) × (Nested total depth).Stmts' ts x rest

unfoldable pub SpellsString : ℕ → Language (List StringPart)
SpellsString total ts x rest = (depth : ℕ) × StringOf total (Nested total depth) true ts x rest
