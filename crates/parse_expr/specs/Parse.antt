-- Recursive descent over the lines of the grammar, with the tests that choose.
use Rattle.std.specs.Prelude.{◌≡◌, ℕ, zero, suc, Bool, true, false, not, ◌&&◌, ◌||◌, List, [], ◌∷◌, length, Option, Some, None, is_none, nat_lt, codes}
use Rattle.swift_lex.specs.declared.token.Token.{Token}
use Rattle.swift_ast.specs.declared.type_name.TypeName.{TypeName}
use Rattle.swift_ast.specs.declared.tree.Selector.{Selector}
use Rattle.swift_ast.specs.declared.tree.ClosureParam.{ClosureParam}
use Rattle.swift_ast.specs.declared.tree.Pattern.{Pattern}
use Rattle.swift_ast.specs.declared.tree.Expr.{Expr}
use Rattle.swift_ast.specs.declared.tree.ExprForm.{ExprForm}
use Rattle.swift_ast.specs.declared.tree.ExprForm.TheVariants as form
use Rattle.swift_ast.specs.declared.tree.StringPart.{StringPart}
use Rattle.swift_ast.specs.declared.tree.StringPart.TheVariants as text
use Rattle.swift_ast.specs.declared.tree.Part.{Part}
use Rattle.swift_ast.specs.declared.tree.Part.TheVariants as part
use Rattle.swift_ast.specs.declared.tree.Closure.{Closure}
use Rattle.swift_ast.specs.declared.tree.LabelledClosure.{LabelledClosure}
use Rattle.swift_ast.specs.declared.tree.Tail.{Tail}
use Rattle.swift_ast.specs.declared.tree.Arg.{Arg}
use Rattle.swift_ast.specs.declared.tree.ArgValue.{ArgValue}
use Rattle.swift_ast.specs.declared.tree.ArgValue.TheVariants as value
use Rattle.swift_ast.specs.declared.tree.Stmt.{Stmt}
use Rattle.swift_ast.specs.declared.tree.StmtForm.{StmtForm}
use Rattle.swift_ast.specs.declared.tree.StmtForm.TheVariants as stmt
use Rattle.swift_ast.specs.declared.tree.Arm.{Arm}
use Rattle.swift_ast.specs.declared.tree.Condition.{Condition}
use Rattle.swift_ast.specs.declared.tree.Condition.TheVariants as condition
use Rattle.swift_ast.specs.declared.tree.SwitchCase.{SwitchCase}
use Rattle.swift_ast.specs.declared.tree.SwitchLabel.{SwitchLabel}
use Rattle.swift_ast.specs.declared.tree.SwitchLabel.TheVariants as label
use Rattle.parse_base.specs.Parser.{Parser, starts, take_one, both, then_by, made, spanned, such, choose, many, perhaps, all, only_where, listed}
use Rattle.parse_base.specs.Terminals.{a_sign, a_word, a_name, a_text, string_open, hole_open, string_close, on_line, label_ahead}
use Rattle.parse_terms.specs.Words.{max_links, a_literal, a_param, a_selector, an_op, limit, top_level, a_prefix, a_force, tail_open, an_assign, a_binder, a_jump}
use Rattle.parse_terms.specs.Trees.{node, stmt_node, link, chain_by, post_by, prefix_of, ternary_by, closure, labelled, tail, arg, or_empty, expr_stmt_by, arm, switch_case, stmts_by}
use Rattle.parse_terms.specs.Types.{read_type}
use Rattle.parse_terms.specs.Patterns.{read_pattern}
use Rattle.parse_expr.specs.Tests.{string_goes_on, goes_on, begins_expr, can_begin, params_ahead, begins_arg, few_elses, else_if, begins_case, on_new_line, begins_stmt, next_stmt}

-- the parsers for what stands inside brackets and behind a token
pub record Inner : Type 0 where
  pub expr' : Bool → ℕ → Parser (Expr × ℕ)
  pub stmts' : Parser (List Stmt)

module _ (total : ℕ) (i : Inner) where
  unfoldable pub inside : Bool → Parser Expr
  inside tails = made (λ x. x.0) (i.expr' tails max_links)

  unfoldable pub hole : Bool → Parser StringPart
  hole tails = made (λ x. text.Hole x.1.0) (both (take_one hole_open) (both (inside tails) (take_one (a_sign (codes ")")))))

  unfoldable pub string_piece : Bool → Parser StringPart
  string_piece tails = choose (starts a_text) (made text.Text (take_one a_text)) (hole tails)

  unfoldable pub string_of : Bool → Parser (List StringPart)
  string_of tails = made (λ x. x.1.0) (both (take_one string_open) (both (all string_goes_on (string_piece tails)) (take_one string_close)))

  unfoldable pub implicit_of : Parser ExprForm
  implicit_of = made (λ x. form.Implicit x.1) (both (take_one (a_sign (codes "."))) (take_one a_name))

  unfoldable pub list_of : Bool → Parser ExprForm
  list_of tails = made (λ x. form.List (or_empty x.1.0)) (both (take_one (a_sign (codes "["))) (both (perhaps begins_expr (listed (a_sign (codes ",")) (inside tails))) (take_one (a_sign (codes "]")))))

  unfoldable pub paren : Bool → Parser Expr
  paren tails = made (λ x. x.1.0) (both (take_one (a_sign (codes "("))) (both (inside tails) (take_one (a_sign (codes ")")))))

  unfoldable pub prim_form : Bool → Parser ExprForm
  prim_form tails = choose (starts a_literal) (take_one a_literal) (choose (starts string_open) (made form.Text (string_of tails)) (choose (starts (a_sign (codes "."))) implicit_of (list_of tails)))

  unfoldable pub prim : Bool → Parser Expr
  prim tails = choose (starts (a_sign (codes "("))) (paren tails) (spanned total node (prim_form tails))

  unfoldable pub params : Parser (List ClosureParam)
  params = made (λ x. x.0) (both (listed (a_sign (codes ",")) (take_one a_param)) (take_one (a_word (codes "in"))))

  unfoldable pub closure_in : Parser Closure
  closure_in = made closure (both (perhaps params_ahead params) i.stmts')

  unfoldable pub closure_of : Parser Closure
  closure_of = made (λ x. x.1.0) (both (take_one (a_sign (codes "{"))) (both closure_in (take_one (a_sign (codes "}")))))

  unfoldable pub first_closure : Bool → Parser Closure
  first_closure tails = made (λ x. x.1.0) (both (take_one (tail_open tails)) (both closure_in (take_one (a_sign (codes "}")))))

  unfoldable pub label_of : Parser (List ℕ)
  label_of = made (λ x. x.0) (both (take_one a_name) (take_one (a_sign (codes ":"))))

  unfoldable pub labelled_of : Parser LabelledClosure
  labelled_of = made labelled (both label_of closure_of)

  unfoldable pub tail_of : Bool → Parser Tail
  tail_of tails = made tail (both (first_closure tails) (all label_ahead labelled_of))

  unfoldable pub key_of : Parser ArgValue
  key_of = made (λ x. value.Key x.1.1) (both (take_one (a_sign (codes "\\"))) (both (take_one (a_sign (codes "."))) (take_one a_selector)))

  unfoldable pub value_of : Bool → Parser ArgValue
  value_of tails = choose (starts (a_sign (codes "\\"))) key_of (choose (starts (a_sign (codes "{"))) (made value.Closure closure_of) (made value.Expr (inside tails)))

  unfoldable pub arg_of : Bool → Parser Arg
  arg_of tails = made arg (both (perhaps label_ahead label_of) (value_of tails))

  unfoldable pub args : Bool → Parser (List Arg)
  args tails = made (λ x. or_empty x.1.0) (both (take_one (on_line (codes "("))) (both (perhaps begins_arg (listed (a_sign (codes ",")) (arg_of tails))) (take_one (a_sign (codes ")")))))

  unfoldable pub call : Bool → Parser Part
  call tails = made (λ x. part.Call x.0 x.1) (both (args tails) (perhaps (starts (tail_open tails)) (tail_of tails)))

  unfoldable pub member_of : Parser Part
  member_of = made (λ x. part.Member x.1) (both (take_one (a_sign (codes "."))) (take_one a_selector))

  unfoldable pub index_of : Bool → Parser Part
  index_of tails = made (λ x. part.Index x.1.0) (both (take_one (on_line (codes "["))) (both (inside tails) (take_one (a_sign (codes "]")))))

  unfoldable pub part_of : Bool → Parser Part
  part_of tails = choose (starts a_force) (take_one a_force) (choose (starts (a_sign (codes "."))) member_of (choose (starts (on_line (codes "["))) (index_of tails) (choose (starts (on_line (codes "("))) (call tails) (made part.Tail (tail_of tails)))))

  unfoldable pub post : Bool → Parser Expr
  post tails = spanned total (λ s x. post_by s x.0 x.1) (both (prim tails) (many (goes_on tails) (part_of tails) max_links []))

  unfoldable pub unary : Bool → Parser Expr
  unary tails = spanned total (λ s x. prefix_of s x.0 x.1) (both (many (starts a_prefix) (take_one a_prefix) max_links []) (post tails))

  unfoldable pub level : Bool → ℕ → Parser Expr
  level tails zero = unary tails
  level tails (suc k) = spanned total (λ s x. chain_by s x.0 x.1) (both (level tails k) (many (starts (an_op (suc k))) (made link (both (take_one (an_op (suc k))) (level tails k))) (limit (suc k)) []))

  unfoldable pub branches : Bool → ℕ → Parser ((Expr × Expr) × ℕ)
  branches tails zero = λ ts. None
  branches tails (suc links) = made (λ x. ((x.1.0.0, x.1.1.1.0), x.1.1.1.1)) (both (take_one (a_sign (codes "?"))) (then_by (i.expr' tails links) (λ m. both (take_one (a_sign (codes ":"))) (i.expr' tails m.1))))

  unfoldable pub expr_of : Bool → ℕ → Parser (Expr × ℕ)
  expr_of tails links = spanned total (λ s x. ternary_by s links x.0 x.1) (both (level tails top_level) (perhaps (starts (a_sign (codes "?"))) (branches tails links)))

  unfoldable pub block : Parser (List Stmt)
  block = made (λ x. x.1.0) (both (take_one (a_sign (codes "{"))) (both i.stmts' (take_one (a_sign (codes "}")))))

  unfoldable pub declared_of : Parser TypeName
  declared_of = made (λ x. x.1) (both (take_one (a_sign (codes ":"))) read_type)

  unfoldable pub local_of : Parser StmtForm
  local_of = made (λ x. stmt.Local x.0 x.1.0 x.1.1.0 x.1.1.1.1) (both (take_one a_binder) (both (take_one a_name) (both (perhaps (starts (a_sign (codes ":"))) declared_of) (both (take_one (a_sign (codes "="))) (inside true)))))

  unfoldable pub return_of : Parser StmtForm
  return_of = made (λ x. stmt.Return x.1) (both (take_one (a_word (codes "return"))) (perhaps can_begin (inside true)))

  unfoldable pub let_of : Parser Condition
  let_of = made (λ x. condition.Let x.1.0 x.1.1) (both (take_one (a_word (codes "let"))) (both (take_one a_name) (perhaps (starts (a_sign (codes "="))) (made (λ x. x.1) (both (take_one (a_sign (codes "="))) (inside false))))))

  unfoldable pub condition_of : Parser Condition
  condition_of = choose (starts (a_word (codes "let"))) let_of (made condition.Expr (inside false))

  unfoldable pub conditions : Parser (List Condition)
  conditions = listed (a_sign (codes ",")) condition_of

  unfoldable pub arm_of : Parser Arm
  arm_of = made (λ x. arm x.1) (both (take_one (a_word (codes "if"))) (both conditions block))

  unfoldable pub else_if_of : Parser Arm
  else_if_of = made (λ x. x.1) (both (take_one (a_word (codes "else"))) arm_of)

  unfoldable pub else_of : Parser (List Stmt)
  else_of = made (λ x. x.1) (both (take_one (a_word (codes "else"))) block)

  unfoldable pub elses : Parser (List Arm × Option (List Stmt))
  elses = such few_elses (both (many else_if else_if_of max_links []) (perhaps (starts (a_word (codes "else"))) else_of))

  unfoldable pub if_of : Parser StmtForm
  if_of = made (λ x. stmt.If (x.0 ∷ x.1.0) x.1.1) (both arm_of elses)

  unfoldable pub case_label : Parser SwitchLabel
  case_label = choose (starts (a_word (codes "case"))) (made (λ x. label.Case x.1) (both (take_one (a_word (codes "case"))) (listed (a_sign (codes ",")) read_pattern))) (made (λ x. label.Default) (take_one (a_word (codes "default"))))

  unfoldable pub case_of : Parser SwitchCase
  case_of = made (λ x. switch_case (x.0, x.1.1)) (both case_label (both (take_one (a_sign (codes ":"))) i.stmts'))

  unfoldable pub switch_of : Parser StmtForm
  switch_of = made (λ x. stmt.Switch x.1.0 x.1.1.1.0) (both (take_one (a_word (codes "switch"))) (both (inside false) (both (take_one (a_sign (codes "{"))) (both (all begins_case case_of) (take_one (a_sign (codes "}")))))))

  unfoldable pub for_of : Parser StmtForm
  for_of = made (λ x. stmt.For x.1.0 x.1.1.1.0 x.1.1.1.1) (both (take_one (a_word (codes "for"))) (both (take_one a_name) (both (take_one (a_word (codes "in"))) (both (inside false) block))))

  unfoldable pub while_of : Parser StmtForm
  while_of = made (λ x. stmt.While x.1.0 x.1.1) (both (take_one (a_word (codes "while"))) (both conditions block))

  unfoldable pub expr_stmt_of : Parser StmtForm
  expr_stmt_of = made (λ x. expr_stmt_by x.0.0 x.1) (both (expr_of true max_links) (perhaps (starts an_assign) (both (take_one an_assign) (inside true))))

  unfoldable pub stmt_form : Parser StmtForm
  stmt_form = choose (starts a_binder) local_of (choose (starts (a_word (codes "return"))) return_of (choose (starts a_jump) (take_one a_jump) (choose (starts (a_word (codes "if"))) if_of (choose (starts (a_word (codes "switch"))) switch_of (choose (starts (a_word (codes "for"))) for_of (choose (starts (a_word (codes "while"))) while_of expr_stmt_of))))))

  unfoldable pub stmt_of : Parser Stmt
  stmt_of = spanned total stmt_node stmt_form

  unfoldable pub next_of : Parser Stmt
  next_of = choose (starts (a_sign (codes ";"))) (made (λ x. x.1) (both (take_one (a_sign (codes ";"))) stmt_of)) (made (λ x. x.1) (both (only_where on_new_line) stmt_of))

  unfoldable pub stmts_of : Parser (List Stmt)
  stmts_of = made stmts_by (perhaps begins_stmt (both stmt_of (both (all next_stmt next_of) (perhaps (starts (a_sign (codes ";"))) (take_one (a_sign (codes ";")))))))

unfoldable pub nested : ℕ → ℕ → Inner
nested total zero = record { expr' = λ tails links ts. None; stmts' = λ ts. None }
nested total (suc n) = record { expr' = expr_of total (nested total n); stmts' = stmts_of total (nested total n) }

-- ---- what reads it, in a file of so many tokens

unfoldable pub read_expr : ℕ → Parser Expr
read_expr total ts = inside total (nested total (length ts)) true ts

unfoldable pub read_stmts : ℕ → Parser (List Stmt)
read_stmts total ts = (nested total (length ts)).stmts' ts

unfoldable pub read_string : ℕ → Parser (List StringPart)
read_string total ts = string_of total (nested total (length ts)) true ts
