-- Terminals of types, patterns, expressions and statements.
use Rattle.std.specs.Prelude.{ℕ, ℤ, Bool, not, ◌&&◌, if◌then◌else◌, List, [], ◌∷◌, Option, Some, None, codes, nat_eq}
use Rattle.std.specs.Str.{bytes_eq}
use Rattle.swift_lex.specs.declared.token.Token.{Token}
use Rattle.swift_lex.specs.declared.token.TokenKind.{TokenKind}
use Rattle.swift_lex.specs.declared.token.TokenKind.TheVariants as kind
use Rattle.swift_ast.specs.declared.tree.BinarySign.{BinarySign}
use Rattle.swift_ast.specs.declared.tree.BinarySign.TheVariants as binary
use Rattle.swift_ast.specs.declared.tree.PrefixSign.{PrefixSign}
use Rattle.swift_ast.specs.declared.tree.PrefixSign.TheVariants as prefix
use Rattle.swift_ast.specs.declared.tree.AssignSign.{AssignSign}
use Rattle.swift_ast.specs.declared.tree.AssignSign.TheVariants as assign
use Rattle.swift_ast.specs.declared.tree.Binder.{Binder}
use Rattle.swift_ast.specs.declared.tree.Binder.TheVariants as binder
use Rattle.swift_ast.specs.declared.tree.Selector.{Selector}
use Rattle.swift_ast.specs.declared.tree.Selector.TheVariants as selector
use Rattle.swift_ast.specs.declared.tree.ClosureParam.{ClosureParam}
use Rattle.swift_ast.specs.declared.tree.ClosureParam.TheVariants as param
use Rattle.swift_ast.specs.declared.tree.Pattern.{Pattern}
use Rattle.swift_ast.specs.declared.tree.Pattern.TheVariants as pattern
use Rattle.swift_ast.specs.declared.tree.ExprForm.{ExprForm}
use Rattle.swift_ast.specs.declared.tree.ExprForm.TheVariants as form
use Rattle.swift_ast.specs.declared.tree.StmtForm.{StmtForm}
use Rattle.swift_ast.specs.declared.tree.StmtForm.TheVariants as stmt
use Rattle.swift_ast.specs.declared.tree.Part.{Part}
use Rattle.swift_ast.specs.declared.tree.Part.TheVariants as part
use Rattle.parse_base.specs.Tokens.{is_sign, is_joined, is_on_new_line}
use Rattle.parse_base.specs.Parser.{Terminal}
use Rattle.parse_base.specs.Terminals.{only_if, when, joined_next, is_even}

-- the most links of a chain
abbrev pub max_links : ℕ
max_links = 64

-- ---- operands of one token

abbrev pub word_literal : List ℕ → Option ExprForm
word_literal w =
    if bytes_eq w (codes "true") then Some form.True
    else (if bytes_eq w (codes "false") then Some form.False
    else (if bytes_eq w (codes "nil") then Some form.Nil
    else (if bytes_eq w (codes "self") then Some form.Itself else None)))

abbrev pub literal : TokenKind → Option ExprForm
literal (kind.Int n) = Some (form.Int n)
literal (kind.Name w) = Some (form.Name w)
literal (kind.Dollar w) = Some (form.Dollar w)
literal (kind.Reserved w) = word_literal w
literal _ = None

-- INT | "true" | "false" | "nil" | "self" | NAME | $NAME
abbrev pub a_literal : Terminal ExprForm
a_literal t rest = literal t.kind

abbrev pub param_by : TokenKind → Option ClosureParam
param_by (kind.Name w) = Some (param.Name w)
param_by (kind.Dollar w) = Some (param.Dollar w)
param_by _ = None

-- NAME | $NAME
abbrev pub a_param : Terminal ClosureParam
a_param t rest = param_by t.kind

abbrev pub selector_by : TokenKind → Option Selector
selector_by (kind.Name w) = Some (selector.Name w)
selector_by (kind.Reserved w) = only_if (bytes_eq w (codes "self")) selector.Itself
selector_by _ = None

-- NAME | "self"
abbrev pub a_selector : Terminal Selector
a_selector t rest = selector_by t.kind

-- ---- operators

-- the binary operators with their rules: 1 binds the tightest
abbrev pub operators : List (List ℕ × (BinarySign × ℕ))
operators =
    (codes "*", (binary.Times, 1)) ∷ (codes "/", (binary.Divide, 1)) ∷ (codes "%", (binary.Remainder, 1))
    ∷ (codes "+", (binary.Plus, 2)) ∷ (codes "-", (binary.Minus, 2))
    ∷ (codes "...", (binary.Through, 3)) ∷ (codes "..<", (binary.UpTo, 3))
    ∷ (codes "??", (binary.Coalesce, 4))
    ∷ (codes "==", (binary.Equal, 5)) ∷ (codes "!=", (binary.NotEqual, 5)) ∷ (codes "<", (binary.Less, 5)) ∷ (codes "<=", (binary.AtMost, 5)) ∷ (codes ">", (binary.Greater, 5)) ∷ (codes ">=", (binary.AtLeast, 5))
    ∷ (codes "&&", (binary.And, 6))
    ∷ (codes "||", (binary.Or, 7)) ∷ []

abbrev pub op_by : List (List ℕ × (BinarySign × ℕ)) → List ℕ → Option (BinarySign × ℕ)
op_by [] w = None
op_by (o ∷ os) w = if bytes_eq w o.0 then Some o.1 else op_by os w

abbrev pub op_of : TokenKind → Option (BinarySign × ℕ)
op_of (kind.Sign w) = op_by operators w
op_of _ = None

unfoldable pub operator : Token → Option (BinarySign × ℕ)
operator t = op_of t.kind

abbrev pub at_level : ℕ → Option (BinarySign × ℕ) → Option BinarySign
at_level k None = None
at_level k (Some o) = only_if (nat_eq o.1 k) o.0

-- a binary operator of this rule, with gaps on both sides or on none
abbrev pub an_op : ℕ → Terminal BinarySign
an_op k t rest = when (at_level k (operator t)) (is_even t rest)

-- comparisons and ranges do not associate
abbrev pub limit : ℕ → ℕ
limit k = if nat_eq k 3 then 1 else (if nat_eq k 5 then 1 else max_links)

-- the rule of `||`
abbrev pub top_level : ℕ
top_level = 7

abbrev pub prefix_by : Token → Option PrefixSign
prefix_by t = if is_sign (codes "-") t then Some prefix.Minus else (if is_sign (codes "!") t then Some prefix.Not else None)

-- a prefix operator, joined to its operand
abbrev pub a_prefix : Terminal PrefixSign
a_prefix t rest = when (prefix_by t) (joined_next rest)

-- `!` behind an operand, joined to it
abbrev pub a_force : Terminal Part
a_force t rest = only_if (is_sign (codes "!") t && is_joined t) part.Force

-- the `{` of a closure behind an operand, which is not on a new line, where closures may trail
abbrev pub tail_open : Bool → Terminal (Unit {0})
tail_open tails t rest = only_if (is_sign (codes "{") t && (tails && not (is_on_new_line t))) tt

abbrev pub assign_by : Token → Option AssignSign
assign_by t =
    if is_sign (codes "=") t then Some assign.Set
    else (if is_sign (codes "+=") t then Some assign.Plus
    else (if is_sign (codes "-=") t then Some assign.Minus
    else (if is_sign (codes "*=") t then Some assign.Times
    else (if is_sign (codes "/=") t then Some assign.Divide
    else (if is_sign (codes "%=") t then Some assign.Remainder else None)))))

-- an assignment sign, with gaps on both sides or on none
abbrev pub an_assign : Terminal AssignSign
an_assign t rest = when (assign_by t) (is_even t rest)

-- ---- reserved words

abbrev pub binder_word : List ℕ → Option Binder
binder_word w = if bytes_eq w (codes "let") then Some binder.Let else only_if (bytes_eq w (codes "var")) binder.Var

abbrev pub binder_by : TokenKind → Option Binder
binder_by (kind.Reserved w) = binder_word w
binder_by _ = None

-- "let" | "var"
abbrev pub a_binder : Terminal Binder
a_binder t rest = binder_by t.kind

abbrev pub jump_word : List ℕ → Option StmtForm
jump_word w = if bytes_eq w (codes "break") then Some stmt.Break else only_if (bytes_eq w (codes "continue")) stmt.Continue

abbrev pub jump_by : TokenKind → Option StmtForm
jump_by (kind.Reserved w) = jump_word w
jump_by _ = None

-- "break" | "continue"
abbrev pub a_jump : Terminal StmtForm
a_jump t rest = jump_by t.kind

-- ---- patterns

abbrev pub number_by : TokenKind → Option ℤ
number_by (kind.Int n) = Some n
number_by _ = None

-- INT
abbrev pub a_number : Terminal ℤ
a_number t rest = number_by t.kind

abbrev pub truth_word : List ℕ → Option Pattern
truth_word w = if bytes_eq w (codes "true") then Some pattern.True else only_if (bytes_eq w (codes "false")) pattern.False

abbrev pub plain_by : TokenKind → Option Pattern
plain_by (kind.Int n) = Some (pattern.Int n)
plain_by (kind.Reserved w) = truth_word w
plain_by _ = None

-- INT | "true" | "false"
abbrev pub a_plain : Terminal Pattern
a_plain t rest = plain_by t.kind

-- `-`, joined to its operand
abbrev pub a_minus : Terminal (Unit {0})
a_minus t rest = only_if (is_sign (codes "-") t && joined_next rest) tt
