-- Terminals of pieces and members, and how their trees are made of parts.
use Rattle.std.specs.Prelude.{ℕ, Bool, true, false, if◌then◌else◌, List, [], ◌∷◌, Option, Some, None, codes}
use Rattle.std.specs.List.{list_any}
use Rattle.std.specs.Str.{bytes_eq}
use Rattle.swift_lex.specs.declared.token.Token.{Token}
use Rattle.swift_lex.specs.declared.token.TokenKind.{TokenKind}
use Rattle.swift_lex.specs.declared.token.TokenKind.TheVariants as kind
use Rattle.swift_ast.specs.declared.span.Span.{Span}
use Rattle.swift_ast.specs.declared.type_name.TypeName.{TypeName}
use Rattle.swift_ast.specs.declared.tree.Expr.{Expr}
use Rattle.swift_ast.specs.declared.tree.Stmt.{Stmt}
use Rattle.swift_ast.specs.declared.tree.Binder.{Binder}
use Rattle.swift_ast.specs.declared.piece.Access.{Access}
use Rattle.swift_ast.specs.declared.piece.Access.TheVariants as access
use Rattle.swift_ast.specs.declared.piece.Modifier.{Modifier}
use Rattle.swift_ast.specs.declared.piece.Modifier.TheVariants as modifier
use Rattle.swift_ast.specs.declared.piece.Attribute.{Attribute}
use Rattle.swift_ast.specs.declared.piece.ResultName.{ResultName}
use Rattle.swift_ast.specs.declared.piece.ResultName.TheVariants as result_name
use Rattle.swift_ast.specs.declared.piece.Param.{Param}
use Rattle.swift_ast.specs.declared.piece.ParamForm.{ParamForm}
use Rattle.swift_ast.specs.declared.piece.ParamForm.TheVariants as param_form
use Rattle.swift_ast.specs.declared.piece.Member.{Member}
use Rattle.swift_ast.specs.declared.piece.MemberForm.{MemberForm}
use Rattle.swift_ast.specs.declared.piece.MemberForm.TheVariants as member_form
use Rattle.swift_ast.specs.declared.piece.CaseName.{CaseName}
use Rattle.swift_ast.specs.declared.piece.EnumItem.{EnumItem}
use Rattle.swift_ast.specs.declared.piece.EnumPiece.{EnumPiece}
use Rattle.swift_ast.specs.declared.piece.Entry.{Entry}
use Rattle.swift_ast.specs.declared.piece.StructBody.{StructBody}
use Rattle.swift_ast.specs.declared.piece.StructPiece.{StructPiece}
use Rattle.swift_ast.specs.declared.piece.Piece.{Piece}
use Rattle.swift_ast.specs.declared.piece.PieceForm.{PieceForm}
use Rattle.swift_ast.specs.declared.piece.PieceForm.TheVariants as piece_form
use Rattle.parse_base.specs.Parser.{Terminal}
use Rattle.parse_base.specs.Terminals.{only_if}

abbrev pub access_word : List ℕ → Option Access
access_word w =
    if bytes_eq w (codes "private") then Some access.Private
    else (if bytes_eq w (codes "fileprivate") then Some access.FilePrivate
    else (if bytes_eq w (codes "internal") then Some access.Internal
    else (if bytes_eq w (codes "public") then Some access.Public else None)))

abbrev pub access_by : TokenKind → Option Access
access_by (kind.Reserved w) = access_word w
access_by _ = None

-- "private" | "fileprivate" | "internal" | "public"
abbrev pub an_access : Terminal Access
an_access t rest = access_by t.kind

abbrev pub access_modifier : Option Access → Option Modifier
access_modifier None = None
access_modifier (Some a) = Some (modifier.Access a)

abbrev pub word_modifier : List ℕ → Option Modifier
word_modifier w =
    if bytes_eq w (codes "static") then Some modifier.Static
    else (if bytes_eq w (codes "mutating") then Some modifier.Mutating else access_modifier (access_word w))

abbrev pub attribute : List ℕ → Option (List ℕ) → Modifier
attribute name argument = modifier.Attribute (record { name = name; argument = argument })

abbrev pub is_plain_attribute : List ℕ → Bool
is_plain_attribute w =
    if bytes_eq w (codes "@State") then true
    else (if bytes_eq w (codes "@Binding") then true else bytes_eq w (codes "@ViewBuilder"))

abbrev pub modifier_by : TokenKind → Option Modifier
modifier_by (kind.Reserved w) = word_modifier w
modifier_by (kind.AtName w) = only_if (is_plain_attribute w) (attribute w None)
modifier_by _ = None

-- ACCESS | "static" | "mutating" | "@State" | "@Binding" | "@ViewBuilder"
abbrev pub a_modifier : Terminal Modifier
a_modifier t rest = modifier_by t.kind

abbrev pub spelled_by : List ℕ → TokenKind → Bool
spelled_by w (kind.Name found) = bytes_eq found w
spelled_by w _ = false

-- a name that is spelled so
abbrev pub the_name : List ℕ → Terminal (Unit {0})
the_name w t rest = only_if (spelled_by w t.kind) tt

-- ---- trees

abbrev pub or_none : {A : Type 0} → Option (List A) → List A
or_none None = []
or_none (Some xs) = xs

abbrev pub is_there : {A : Type 0} → Option A → Bool
is_there None = false
is_there (Some x) = true

abbrev pub stored : Binder × (List ℕ × (Option TypeName × Option Expr)) → MemberForm
stored x = member_form.Stored x.0 x.1.0 x.1.1.0 x.1.1.1

abbrev pub param : (Option (List ℕ) × List ℕ) × (Unit {0} × ParamForm) → Param
param x = record { label = x.0.0; name = x.0.1; form = x.1.1 }

abbrev pub member : Span → List Modifier × MemberForm → Member
member s x = record { span = s; modifiers = x.0; form = x.1 }

abbrev pub case_name : Span → List ℕ → CaseName
case_name s w = record { span = s; name = w }

abbrev pub entry : Span → Unit {0} × (Unit {0} × (List ℕ × (Option TypeName × (Unit {0} × Expr)))) → Entry
entry s x = record { span = s; name = x.1.1.0; declared = x.1.1.1.0; value = x.1.1.1.1.1 }

abbrev pub piece : Span → PieceForm → Piece
piece s f = record { span = s; form = f }

abbrev pub struct_piece : Option (Unit {0}) × (Option Access × (Unit {0} × (List ℕ × (List (List ℕ) × StructBody)))) → PieceForm
struct_piece x = piece_form.Struct (record { is_main = is_there x.0; access = x.1.0; name = x.1.1.1.0; names = x.1.1.1.1.0; body = x.1.1.1.1.1 })

abbrev pub enum_piece : Option Access × (Unit {0} × (List ℕ × (List (List ℕ) × (Unit {0} × (List EnumItem × Unit {0}))))) → PieceForm
enum_piece x = piece_form.Enum (record { access = x.0; name = x.1.1.0; names = x.1.1.1.0; items = x.1.1.1.1.1.0 })

-- one of the names is `PreviewProvider`
abbrev pub has_preview : List (List ℕ) → Bool
has_preview names = list_any (λ w. bytes_eq w (codes "PreviewProvider")) names
