-- Recursive descent over the lines of the grammar.
use Rattle.std.specs.Prelude.{◌≡◌, ℕ, Bool, true, false, not, ◌&&◌, ◌||◌, List, [], ◌∷◌, drop, Option, Some, None, codes, if◌then◌else◌}
use Rattle.swift_lex.specs.declared.token.Token.{Token}
use Rattle.swift_ast.specs.declared.type_name.TypeName.{TypeName}
use Rattle.swift_ast.specs.declared.tree.Binder.TheVariants as binder
use Rattle.swift_ast.specs.declared.tree.Expr.{Expr}
use Rattle.swift_ast.specs.declared.tree.Stmt.{Stmt}
use Rattle.swift_ast.specs.declared.tree.StringPart.{StringPart}
use Rattle.swift_ast.specs.declared.piece.Access.{Access}
use Rattle.swift_ast.specs.declared.piece.Modifier.{Modifier}
use Rattle.swift_ast.specs.declared.piece.ResultName.{ResultName}
use Rattle.swift_ast.specs.declared.piece.ResultName.TheVariants as result_name
use Rattle.swift_ast.specs.declared.piece.Param.{Param}
use Rattle.swift_ast.specs.declared.piece.ParamForm.{ParamForm}
use Rattle.swift_ast.specs.declared.piece.ParamForm.TheVariants as param_form
use Rattle.swift_ast.specs.declared.piece.Member.{Member}
use Rattle.swift_ast.specs.declared.piece.MemberForm.{MemberForm}
use Rattle.swift_ast.specs.declared.piece.MemberForm.TheVariants as member_form
use Rattle.swift_ast.specs.declared.piece.CaseName.{CaseName}
use Rattle.swift_ast.specs.declared.piece.EnumItem.{EnumItem}
use Rattle.swift_ast.specs.declared.piece.EnumItem.TheVariants as enum_item
use Rattle.swift_ast.specs.declared.piece.Entry.{Entry}
use Rattle.swift_ast.specs.declared.piece.StructBody.{StructBody}
use Rattle.swift_ast.specs.declared.piece.StructBody.TheVariants as struct_body
use Rattle.swift_ast.specs.declared.piece.Piece.{Piece}
use Rattle.swift_ast.specs.declared.piece.PieceForm.{PieceForm}
use Rattle.swift_ast.specs.declared.piece.PieceForm.TheVariants as piece_form
use Rattle.token_brackets.specs.Prefix.{balanced_len}
use Rattle.parse_base.specs.Parser.{Parser, starts, take_one, both, then_by, made, spanned, choose, perhaps, all, listed}
use Rattle.parse_base.specs.Terminals.{a_sign, a_word, an_attribute, a_directive, a_name, sign_next, word_next}
use Rattle.parse_terms.specs.Types.{read_type}
use Rattle.parse_terms.specs.Words.{a_binder}
use Rattle.swift_parse.specs.Words.{an_access, a_modifier, attribute, the_name, or_none, stored, param, member, case_name, entry, piece, struct_piece, enum_piece, has_preview}
use Rattle.swift_parse.specs.Below.{Parsers}

-- ---- tests of what stands ahead

-- a second name
abbrev pub name_next : List Token → Bool
name_next [] = false
name_next (t ∷ ts) = starts a_name ts

-- "(" ")"
unfoldable pub pair_ahead : List Token → Bool
pair_ahead ts = starts (a_sign (codes "(")) ts && sign_next (codes ")") ts

unfoldable pub begins_mod : List Token → Bool
begins_mod ts = starts a_modifier ts || starts (an_attribute (codes "@Environment")) ts

unfoldable pub begins_form : List Token → Bool
begins_form ts = starts a_binder ts || starts (a_word (codes "func")) ts

unfoldable pub begins_member : List Token → Bool
begins_member ts = begins_mod ts || begins_form ts

unfoldable pub begins_enum_line : List Token → Bool
begins_enum_line ts = starts (a_word (codes "case")) ts || begins_member ts

unfoldable pub begins_struct : List Token → Bool
begins_struct ts = starts (an_attribute (codes "@main")) ts || (starts (a_word (codes "struct")) ts || (starts an_access ts && word_next (codes "struct") ts))

unfoldable pub begins_enum : List Token → Bool
begins_enum ts = starts (a_word (codes "enum")) ts || (starts an_access ts && word_next (codes "enum") ts)

-- ---- parsers

unfoldable pub semicolon : Parser (Option (Unit {0}))
semicolon = perhaps (starts (a_sign (codes ";"))) (take_one (a_sign (codes ";")))

unfoldable pub names : Parser (List (List ℕ))
names = made or_none (perhaps (starts (a_sign (codes ":"))) (made (λ x. x.1) (both (take_one (a_sign (codes ":"))) (listed (a_sign (codes ",")) (take_one a_name)))))

abbrev pub aside_by : List Token → Option ℕ → Option (Unit {0} × List Token)
aside_by ts None = None
aside_by ts (Some n) = Some (tt, drop n ts)

unfoldable pub aside : Parser (Unit {0})
aside ts = aside_by ts (balanced_len ts)

unfoldable pub environment : Parser Modifier
environment = made (λ x. attribute (codes "@Environment") (Some x.1.1.1.1.0))
    (both (take_one (an_attribute (codes "@Environment"))) (both (take_one (a_sign (codes "("))) (both (take_one (a_sign (codes "\\"))) (both (take_one (a_sign (codes "."))) (both (take_one a_name) (take_one (a_sign (codes ")"))))))))

unfoldable pub modifier : Parser Modifier
modifier = choose (starts a_modifier) (take_one a_modifier) environment

unfoldable pub import_of : Parser PieceForm
import_of = made (λ x. piece_form.Import x.1) (both (take_one (a_word (codes "import"))) (take_one a_name))

unfoldable pub param_names : Parser (Option (List ℕ) × List ℕ)
param_names = both (perhaps name_next (take_one a_name)) (take_one a_name)

unfoldable pub declared : Parser (Option TypeName)
declared = perhaps (starts (a_sign (codes ":"))) (made (λ x. x.1) (both (take_one (a_sign (codes ":"))) read_type))

unfoldable pub opaque : Parser ResultName
opaque = made (λ x. result_name.Opaque x.1) (both (take_one (a_word (codes "some"))) (take_one a_name))

unfoldable pub result_of : Parser ResultName
result_of = choose (starts (a_word (codes "some"))) opaque (made result_name.Plain read_type)

unfoldable pub inout_param : Parser ParamForm
inout_param = made (λ x. param_form.Inout x.1) (both (take_one (a_word (codes "inout"))) read_type)

unfoldable pub function_param : Parser ParamForm
function_param = made (λ x. param_form.Function x.1.1.1) (both (take_one (a_sign (codes "("))) (both (take_one (a_sign (codes ")"))) (both (take_one (a_sign (codes "->"))) read_type)))

unfoldable pub param_of : Parser ParamForm
param_of = choose (starts (a_word (codes "inout"))) inout_param (choose pair_ahead function_param (made param_form.Plain read_type))

unfoldable pub param_line : Parser Param
param_line = made param (both param_names (both (take_one (a_sign (codes ":"))) param_of))

unfoldable pub params : Parser (List Param)
params = made (λ x. or_none x.1.0) (both (take_one (a_sign (codes "("))) (both (perhaps (starts a_name) (listed (a_sign (codes ",")) param_line)) (take_one (a_sign (codes ")")))))

unfoldable pub arrow : Parser ResultName
arrow = made (λ x. x.1) (both (take_one (a_sign (codes "->"))) result_of)

unfoldable pub left_aside : Parser StructBody
left_aside = made (λ x. struct_body.LeftAside) (both (take_one (a_sign (codes "{"))) (both aside (take_one (a_sign (codes "}")))))

-- over expressions, statements and strings
module _ (p : Parsers) where
  unfoldable pub value : Parser Expr
  value = made (λ x. x.1) (both (take_one (a_sign (codes "="))) p.expr')

  unfoldable pub maybe_value : Parser (Option Expr)
  maybe_value = perhaps (starts (a_sign (codes "="))) value

  unfoldable pub braces : Parser (List Stmt)
  braces = made (λ x. x.1.0) (both (take_one (a_sign (codes "{"))) (both p.stmts' (take_one (a_sign (codes "}")))))

  unfoldable pub let_form : Parser MemberForm
  let_form = made (λ x. member_form.Stored binder.Let x.1.0 x.1.1.0 x.1.1.1) (both (take_one (a_word (codes "let"))) (both (take_one a_name) (both declared maybe_value)))

  -- behind a `var`, its name, ":" and its type
  unfoldable pub typed : List ℕ → TypeName → Parser MemberForm
  typed name type = choose (starts (a_sign (codes "{"))) (made (λ b. member_form.Computed name (result_name.Plain type) b) braces) (made (λ v. member_form.Stored binder.Var name (Some type) v) maybe_value)

  -- behind a `var`, its name and ":"
  unfoldable pub coloned : List ℕ → Parser MemberForm
  coloned name = choose (starts (a_word (codes "some"))) (made (λ x. member_form.Computed name x.0 x.1) (both opaque braces)) (made (λ x. x.1) (then_by read_type (typed name)))

  -- behind a `var` and its name
  unfoldable pub named : List ℕ → Parser MemberForm
  named name = choose (starts (a_sign (codes ":"))) (made (λ x. x.1) (both (take_one (a_sign (codes ":"))) (coloned name))) (made (λ v. member_form.Stored binder.Var name None v) maybe_value)

  unfoldable pub var_form : Parser MemberForm
  var_form = made (λ x. x.1.1) (both (take_one (a_word (codes "var"))) (then_by (take_one a_name) named))

  unfoldable pub function : Parser MemberForm
  function = made (λ x. member_form.Function x.1.0 x.1.1.0 x.1.1.1.0 x.1.1.1.1) (both (take_one (a_word (codes "func"))) (both (take_one a_name) (both params (both (perhaps (starts (a_sign (codes "->"))) arrow) braces))))

  unfoldable pub form_of : Parser MemberForm
  form_of = choose (starts (a_word (codes "func"))) function (choose (starts (a_word (codes "let"))) let_form var_form)

  unfoldable pub title : Parser (List StringPart)
  title = made (λ x. x.1.0) (both (take_one (a_sign (codes "("))) (both p.string' (take_one (a_sign (codes ")")))))

  unfoldable pub preview : Parser PieceForm
  preview = made (λ x. piece_form.Preview x.1.0) (both (take_one (a_directive (codes "#Preview"))) (both (perhaps (starts (a_sign (codes "("))) title) (both (take_one (a_sign (codes "{"))) (both aside (take_one (a_sign (codes "}")))))))

-- in a file of so many tokens
module _ (total : ℕ) (p : Parsers) where
  unfoldable pub member_of : Parser Member
  member_of = spanned total member (both (all begins_mod modifier) (form_of p))

  unfoldable pub member_line : Parser Member
  member_line = made (λ x. x.0) (both member_of semicolon)

  unfoldable pub members : Parser StructBody
  members = made (λ x. struct_body.Members x.1.0) (both (take_one (a_sign (codes "{"))) (both (all begins_member member_line) (take_one (a_sign (codes "}")))))

  unfoldable pub body : List (List ℕ) → Parser StructBody
  body names ts = if has_preview names then left_aside ts else members ts

  unfoldable pub struct_of : Parser PieceForm
  struct_of = made struct_piece (both (perhaps (starts (an_attribute (codes "@main"))) (take_one (an_attribute (codes "@main")))) (both (perhaps (starts an_access) (take_one an_access))
      (both (take_one (a_word (codes "struct"))) (both (take_one a_name) (then_by names body)))))

  unfoldable pub case_name_of : Parser CaseName
  case_name_of = spanned total case_name (take_one a_name)

  unfoldable pub cases : Parser EnumItem
  cases = made (λ x. enum_item.Cases x.1) (both (take_one (a_word (codes "case"))) (listed (a_sign (codes ",")) case_name_of))

  unfoldable pub enum_item_of : Parser EnumItem
  enum_item_of = choose (starts (a_word (codes "case"))) cases (made enum_item.Member member_of)

  unfoldable pub enum_line : Parser EnumItem
  enum_line = made (λ x. x.0) (both enum_item_of semicolon)

  unfoldable pub enum_of : Parser PieceForm
  enum_of = made enum_piece (both (perhaps (starts an_access) (take_one an_access)) (both (take_one (a_word (codes "enum"))) (both (take_one a_name) (both names (both (take_one (a_sign (codes "{"))) (both (all begins_enum_line enum_line) (take_one (a_sign (codes "}")))))))))

  unfoldable pub entry_of : Parser Entry
  entry_of = spanned total entry (both (take_one (an_attribute (codes "@Entry"))) (both (take_one (a_word (codes "var"))) (both (take_one a_name) (both declared (both (take_one (a_sign (codes "="))) p.expr')))))

  unfoldable pub entry_line : Parser Entry
  entry_line = made (λ x. x.0) (both entry_of semicolon)

  unfoldable pub entries : Parser PieceForm
  entries = made (λ x. piece_form.Environment x.1.1.1.0)
      (both (take_one (a_word (codes "extension"))) (both (take_one (the_name (codes "EnvironmentValues"))) (both (take_one (a_sign (codes "{"))) (both (all (starts (an_attribute (codes "@Entry"))) entry_line) (take_one (a_sign (codes "}")))))))

  unfoldable pub piece_form_of : Parser PieceForm
  piece_form_of = choose (starts (a_word (codes "import"))) import_of (choose begins_struct struct_of (choose begins_enum enum_of (choose (starts (a_word (codes "extension"))) entries (preview p))))

  unfoldable pub piece_of : Parser Piece
  piece_of = spanned total piece piece_form_of
