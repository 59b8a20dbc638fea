-- Tests of what stands ahead.
use Rattle.std.specs.Prelude.{ℕ, zero, suc, Bool, true, false, not, ◌&&◌, ◌||◌, List, [], ◌∷◌, length, Option, is_none, nat_lt, codes}
use Rattle.swift_lex.specs.declared.token.Token.{Token}
use Rattle.swift_ast.specs.declared.tree.Arm.{Arm}
use Rattle.swift_ast.specs.declared.tree.Stmt.{Stmt}
use Rattle.parse_base.specs.Tokens.{is_sign, is_reserved, is_on_new_line}
use Rattle.parse_base.specs.Parser.{starts, starts_by}
use Rattle.parse_base.specs.Terminals.{a_sign, a_word, a_name, a_text, string_open, hole_open, on_line, sign_next, word_next, label_ahead}
use Rattle.parse_terms.specs.Words.{max_links, a_literal, a_param, a_force, an_op, a_prefix, tail_open, an_assign, a_binder, a_jump}

-- ---- expressions

-- another piece of a string
unfoldable pub string_goes_on : List Token → Bool
string_goes_on ts = starts a_text ts || starts hole_open ts

-- a postfix part
unfoldable pub goes_on : Bool → List Token → Bool
goes_on tails ts = starts a_force ts || (starts (a_sign (codes ".")) ts || (starts (on_line (codes "[")) ts || (starts (on_line (codes "(")) ts || starts (tail_open tails) ts)))

-- what stands behind a trailing closure
unfoldable pub ends_tail : List Token → Bool
ends_tail ts = not (label_ahead ts)

-- what stands behind an operand with its postfix parts
unfoldable pub ends_post : Bool → List Token → Bool
ends_post tails ts = not (goes_on tails ts) && ends_tail ts

unfoldable pub ends_level : Bool → ℕ → List Token → Bool
ends_level tails zero ts = ends_post tails ts
ends_level tails (suc k) ts = ends_level tails k ts && not (starts (an_op (suc k)) ts)

-- what stands behind an expression
unfoldable pub ends_expr : Bool → List Token → Bool
ends_expr tails ts = ends_level tails 7 ts && not (starts (a_sign (codes "?")) ts)

unfoldable pub begins_form : List Token → Bool
begins_form ts = starts a_literal ts || (starts string_open ts || (starts (a_sign (codes ".")) ts || starts (a_sign (codes "[")) ts))

unfoldable pub begins_prim : List Token → Bool
begins_prim ts = starts (a_sign (codes "(")) ts || begins_form ts

-- what an expression begins with
unfoldable pub begins_expr : List Token → Bool
begins_expr ts = starts a_prefix ts || begins_prim ts

-- a token that can begin an expression
unfoldable pub can_begin : List Token → Bool
can_begin ts = begins_prim ts || (starts (a_sign (codes "-")) ts || starts (a_sign (codes "!")) ts)

abbrev pub starts_in : List Token → Bool
starts_in [] = false
starts_in (t ∷ ts) = is_reserved (codes "in") t

-- { param "," } param "in"
unfoldable pub params_from : Bool → List Token → Bool
params_from after_one [] = false
params_from false (t ∷ ts) = starts a_param (t ∷ ts) && params_from true ts
params_from true (t ∷ ts) = is_reserved (codes "in") t || (is_sign (codes ",") t && params_from false ts)

-- the parameters of a closure
unfoldable pub params_ahead : List Token → Bool
params_ahead ts = params_from false ts

unfoldable pub begins_arg : List Token → Bool
begins_arg ts = starts (a_sign (codes "\\")) ts || (starts (a_sign (codes "{")) ts || begins_expr ts)

-- what stands behind an argument
unfoldable pub ends_arg : List Token → Bool
ends_arg ts = starts (a_sign (codes ",")) ts || starts (a_sign (codes ")")) ts

-- ---- statements

-- with the last `else`, at most 64 links
abbrev pub few_elses : List Arm × Option (List Stmt) → Bool
few_elses x = nat_lt (length x.0) max_links || is_none x.1

-- a new line, on which no "." goes on with what stands before
abbrev pub on_new_line : List Token → Bool
on_new_line [] = false
on_new_line (t ∷ ts) = is_on_new_line t && not (is_sign (codes ".") t)

unfoldable pub begins_stmt : List Token → Bool
begins_stmt ts =
    starts a_binder ts || (starts (a_word (codes "return")) ts || (starts a_jump ts || (starts (a_word (codes "if")) ts
    || (starts (a_word (codes "switch")) ts || (starts (a_word (codes "for")) ts || (starts (a_word (codes "while")) ts || begins_expr ts))))))

abbrev pub stmt_next : List Token → Bool
stmt_next [] = false
stmt_next (t ∷ ts) = begins_stmt ts

-- another statement: behind ";", or on a new line
unfoldable pub next_stmt : List Token → Bool
next_stmt ts = (starts (a_sign (codes ";")) ts && stmt_next ts) || (on_new_line ts && begins_stmt ts)

unfoldable pub begins_case : List Token → Bool
begins_case ts = starts (a_word (codes "case")) ts || starts (a_word (codes "default")) ts

-- where statements end
unfoldable pub closes : List Token → Bool
closes ts = starts (a_sign (codes "}")) ts || begins_case ts

unfoldable pub else_if : List Token → Bool
else_if ts = starts (a_word (codes "else")) ts && word_next (codes "if") ts

unfoldable pub else_brace : List Token → Bool
else_brace ts = starts (a_word (codes "else")) ts && sign_next (codes "{") ts

-- what stands behind a condition
unfoldable pub ends_condition : List Token → Bool
ends_condition ts = starts (a_sign (codes ",")) ts || starts (a_sign (codes "{")) ts

-- what stands behind a statement
unfoldable pub ends_stmt : List Token → Bool
ends_stmt ts = ends_expr true ts && (not (starts (a_word (codes "else")) ts) && (not (starts an_assign ts) && not (starts (a_sign (codes ":")) ts)))

abbrev pub close_next : List Token → Bool
close_next [] = false
close_next (t ∷ ts) = closes ts

-- a last ";"
unfoldable pub last_semi : List Token → Bool
last_semi ts = starts (a_sign (codes ";")) ts && close_next ts

-- what statements begin with, up to a place where they end
unfoldable pub begins_stmts : List Token → Bool
begins_stmts ts = (begins_stmt ts || closes ts) && not (params_ahead ts)
