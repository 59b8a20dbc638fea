-- What the lines of the grammar stand on: expressions, statements and strings.
use Rattle.std.specs.Prelude.{ℕ, List}
use Rattle.swift_ast.specs.declared.tree.Expr.{Expr}
use Rattle.swift_ast.specs.declared.tree.Stmt.{Stmt}
use Rattle.swift_ast.specs.declared.tree.StringPart.{StringPart}
use Rattle.parse_base.specs.Parser.{Parser}
use Rattle.parse_base.specs.Language.{Language}
use Rattle.parse_expr.specs.Grammar.{SpellsExpr, SpellsStmts, SpellsString}
use Rattle.parse_expr.specs.Parse.{read_expr, read_stmts, read_string}

pub record Languages : Type 1 where
  pub Expr' : Language Expr
  pub Stmts' : Language (List Stmt)
  pub String' : Language (List StringPart)

pub record Parsers : Type 0 where
  pub expr' : Parser Expr
  pub stmts' : Parser (List Stmt)
  pub string' : Parser (List StringPart)

-- in a file of so many tokens
abbrev pub languages : ℕ → Languages
languages total = record { Expr' = SpellsExpr total; Stmts' = SpellsStmts total; String' = SpellsString total }

abbrev pub parsers : ℕ → Parsers
parsers total = record { expr' = read_expr total; stmts' = read_stmts total; string' = read_string total }
