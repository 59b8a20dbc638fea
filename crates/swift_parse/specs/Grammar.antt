-- The grammar of pieces and members. Each definition is one line of it.
-- Its source is The Swift Programming Language, "Declarations"; what these lines lack is left out.
use Rattle.std.specs.Prelude.{◌≡◌, ℕ, Bool, true, false, List, [], ◌∷◌, ◌++◌, Option, Some, None, codes}
use Rattle.swift_lex.specs.declared.token.Token.{Token}
use Rattle.swift_ast.specs.declared.type_name.TypeName.{TypeName}
use Rattle.swift_ast.specs.declared.tree.Expr.{Expr}
use Rattle.swift_ast.specs.declared.tree.Stmt.{Stmt}
use Rattle.swift_ast.specs.declared.tree.StringPart.{StringPart}
use Rattle.swift_ast.specs.declared.piece.Modifier.{Modifier}
use Rattle.swift_ast.specs.declared.piece.ResultName.{ResultName}
use Rattle.swift_ast.specs.declared.piece.ResultName.TheVariants as result_name
use Rattle.swift_ast.specs.declared.piece.Param.{Param}
use Rattle.swift_ast.specs.declared.piece.ParamForm.{ParamForm}
use Rattle.swift_ast.specs.declared.piece.ParamForm.TheVariants as param_form
use Rattle.swift_ast.specs.declared.piece.Member.{Member}
use Rattle.swift_ast.specs.declared.piece.MemberForm.{MemberForm}
use Rattle.swift_ast.specs.declared.piece.MemberForm.TheVariants as member_form
use Rattle.swift_ast.specs.declared.piece.CaseName.{CaseName}
use Rattle.swift_ast.specs.declared.piece.EnumItem.{EnumItem}
use Rattle.swift_ast.specs.declared.piece.EnumItem.TheVariants as enum_item
use Rattle.swift_ast.specs.declared.piece.Entry.{Entry}
use Rattle.swift_ast.specs.declared.piece.StructBody.{StructBody}
use Rattle.swift_ast.specs.declared.piece.StructBody.TheVariants as struct_body
use Rattle.swift_ast.specs.declared.piece.Piece.{Piece}
use Rattle.swift_ast.specs.declared.piece.PieceForm.{PieceForm}
use Rattle.swift_ast.specs.declared.piece.PieceForm.TheVariants as piece_form
use Rattle.token_brackets.specs.Balance.{Balanced}
use Rattle.parse_base.specs.Language.{Language, One, Both, Then, Made, Spanned, Either, Many, Perhaps, Listed}
use Rattle.parse_base.specs.Terminals.{a_sign, a_word, an_attribute, a_directive, a_name}
use Rattle.parse_terms.specs.Types.{SpellsType}
use Rattle.parse_terms.specs.Words.{a_binder}
use Rattle.swift_parse.specs.Words.{an_access, a_modifier, attribute, the_name, or_none, stored, param, member, case_name, entry, piece, struct_piece, enum_piece, has_preview}
use Rattle.swift_parse.specs.Below.{Languages}

-- [";"]
unfoldable pub Semicolon : Language (Option (Unit {0}))
Semicolon = Perhaps (One (a_sign (codes ";")))

-- [":" LIST(NAME)]
unfoldable pub Names : Language (List (List ℕ))
Names = Made or_none (Perhaps (Made (λ x. x.1) (Both (One (a_sign (codes ":"))) (Listed (a_sign (codes ",")) (One a_name)))))

-- balanced tokens
unfoldable pub Aside : Language (Unit {0})
Aside ts x rest = (inside : List Token) × (ts ≡ inside ++ rest) × Balanced inside × (x ≡ tt)

-- "@Environment" "(" "\" "." NAME ")"
unfoldable pub Environment : Language Modifier
Environment = Made (λ x. attribute (codes "@Environment") (Some x.1.1.1.1.0))
    (Both (One (an_attribute (codes "@Environment"))) (Both (One (a_sign (codes "("))) (Both (One (a_sign (codes "\\"))) (Both (One (a_sign (codes "."))) (Both (One a_name) (One (a_sign (codes ")"))))))))

-- mod = ACCESS | "static" | "mutating" | "@State" | "@Binding" | "@ViewBuilder" | "@Environment" "(" "\" "." NAME ")"
unfoldable pub Mod : Language Modifier
Mod = Either (One a_modifier) Environment

-- "import" NAME
unfoldable pub Import : Language PieceForm
Import = Made (λ x. piece_form.Import x.1) (Both (One (a_word (codes "import"))) (One a_name))

-- [NAME] NAME
unfoldable pub ParamNames : Language (Option (List ℕ) × List ℕ)
ParamNames = Both (Perhaps (One a_name)) (One a_name)

-- [":" type]
unfoldable pub Declared : Language (Option TypeName)
Declared = Perhaps (Made (λ x. x.1) (Both (One (a_sign (codes ":"))) SpellsType))

-- "some" NAME
unfoldable pub Opaque : Language ResultName
Opaque = Made (λ x. result_name.Opaque x.1) (Both (One (a_word (codes "some"))) (One a_name))

-- type | "some" NAME
unfoldable pub ResultOf : Language ResultName
ResultOf = Either Opaque (Made result_name.Plain SpellsType)

-- "inout" type
unfoldable pub InoutParam : Language ParamForm
InoutParam = Made (λ x. param_form.Inout x.1) (Both (One (a_word (codes "inout"))) SpellsType)

-- "(" ")" "->" type
unfoldable pub FunctionParam : Language ParamForm
FunctionParam = Made (λ x. param_form.Function x.1.1.1) (Both (One (a_sign (codes "("))) (Both (One (a_sign (codes ")"))) (Both (One (a_sign (codes "->"))) SpellsType)))

-- ["inout"] type | "(" ")" "->" type
unfoldable pub ParamOf : Language ParamForm
ParamOf = Either InoutParam (Either FunctionParam (Made param_form.Plain SpellsType))

-- param = [NAME] NAME ":" (["inout"] type | "(" ")" "->" type)
unfoldable pub ParamLine : Language Param
ParamLine = Made param (Both ParamNames (Both (One (a_sign (codes ":"))) ParamOf))

-- "(" [LIST(param)] ")"
unfoldable pub Params : Language (List Param)
Params = Made (λ x. or_none x.1.0) (Both (One (a_sign (codes "("))) (Both (Perhaps (Listed (a_sign (codes ",")) ParamLine)) (One (a_sign (codes ")")))))

-- "->" (type | "some" NAME)
unfoldable pub Arrow : Language ResultName
Arrow = Made (λ x. x.1) (Both (One (a_sign (codes "->"))) ResultOf)

-- "{" balanced tokens "}"
unfoldable pub LeftAside : Language StructBody
LeftAside = Made (λ x. struct_body.LeftAside) (Both (One (a_sign (codes "{"))) (Both Aside (One (a_sign (codes "}")))))

-- over expressions, statements and strings
module _ (L : Languages) where
  -- "=" expr
  unfoldable pub Value : Language Expr
  Value = Made (λ x. x.1) (Both (One (a_sign (codes "="))) L.Expr')

  -- "{" stmts "}"
  unfoldable pub Braces : Language (List Stmt)
  Braces = Made (λ x. x.1.0) (Both (One (a_sign (codes "{"))) (Both L.Stmts' (One (a_sign (codes "}")))))

  -- ("let" | "var") NAME [":" type] ["=" expr]
  unfoldable pub Stored : Language MemberForm
  Stored = Made stored (Both (One a_binder) (Both (One a_name) (Both Declared (Perhaps Value))))

  -- "var" NAME ":" (type | "some" NAME) "{" stmts "}"
  unfoldable pub Computed : Language MemberForm
  Computed = Made (λ x. member_form.Computed x.1.0 x.1.1.1.0 x.1.1.1.1) (Both (One (a_word (codes "var"))) (Both (One a_name) (Both (One (a_sign (codes ":"))) (Both ResultOf Braces))))

  -- "func" NAME "(" [LIST(param)] ")" ["->" (type | "some" NAME)] "{" stmts "}"
  unfoldable pub Function : Language MemberForm
  Function = Made (λ x. member_form.Function x.1.0 x.1.1.0 x.1.1.1.0 x.1.1.1.1) (Both (One (a_word (codes "func"))) (Both (One a_name) (Both Params (Both (Perhaps Arrow) Braces))))

  unfoldable pub FormOf : Language MemberForm
  FormOf = Either Stored (Either Computed Function)

  -- "(" string ")"
  unfoldable pub Title : Language (List StringPart)
  Title = Made (λ x. x.1.0) (Both (One (a_sign (codes "("))) (Both L.String' (One (a_sign (codes ")")))))

  -- "#Preview" ["(" string ")"] "{" balanced tokens "}"
  unfoldable pub Preview : Language PieceForm
  Preview = Made (λ x. piece_form.Preview x.1.0) (Both (One (a_directive (codes "#Preview"))) (Both (Perhaps Title) (Both (One (a_sign (codes "{"))) (Both Aside (One (a_sign (codes "}")))))))

-- in a file of so many tokens
module _ (total : ℕ) (L : Languages) where
  -- member = {mod} ..
  unfoldable pub MemberOf : Language Member
  MemberOf = Spanned total member (Both (Many Mod) (FormOf L))

  -- member [";"]
  unfoldable pub MemberLine : Language Member
  MemberLine = Made (λ x. x.0) (Both MemberOf Semicolon)

  -- "{" {member} "}"
  unfoldable pub Members : Language StructBody
  Members = Made (λ x. struct_body.Members x.1.0) (Both (One (a_sign (codes "{"))) (Both (Many MemberLine) (One (a_sign (codes "}")))))

  unfoldable pub body_by : Bool → Language StructBody
  body_by true = LeftAside
  body_by false = Members

  -- the body of a struct with these names behind the colon
  unfoldable pub Body : List (List ℕ) → Language StructBody
  Body names = body_by (has_preview names)

  -- ["@main"] [ACCESS] "struct" NAME [":" LIST(NAME)] body
  unfoldable pub Struct : Language PieceForm
  Struct = Made struct_piece (Both (Perhaps (One (an_attribute (codes "@main")))) (Both (Perhaps (One an_access)) (Both (One (a_word (codes "struct"))) (Both (One a_name) (Then Names Body)))))

  unfoldable pub CaseNameOf : Language CaseName
  CaseNameOf = Spanned total case_name (One a_name)

  -- "case" LIST(NAME)
  unfoldable pub Cases : Language EnumItem
  Cases = Made (λ x. enum_item.Cases x.1) (Both (One (a_word (codes "case"))) (Listed (a_sign (codes ",")) CaseNameOf))

  -- ("case" LIST(NAME) | member) [";"]
  unfoldable pub EnumLine : Language EnumItem
  EnumLine = Made (λ x. x.0) (Both (Either Cases (Made enum_item.Member MemberOf)) Semicolon)

  -- [ACCESS] "enum" NAME [":" LIST(NAME)] "{" {"case" LIST(NAME) | member} "}"
  unfoldable pub Enum : Language PieceForm
  Enum = Made enum_piece (Both (Perhaps (One an_access)) (Both (One (a_word (codes "enum"))) (Both (One a_name) (Both Names (Both (One (a_sign (codes "{"))) (Both (Many EnumLine) (One (a_sign (codes "}")))))))))

  -- "@Entry" "var" NAME [":" type] "=" expr
  unfoldable pub EntryOf : Language Entry
  EntryOf = Spanned total entry (Both (One (an_attribute (codes "@Entry"))) (Both (One (a_word (codes "var"))) (Both (One a_name) (Both Declared (Both (One (a_sign (codes "="))) L.Expr')))))

  unfoldable pub EntryLine : Language Entry
  EntryLine = Made (λ x. x.0) (Both EntryOf Semicolon)

  -- "extension" "EnvironmentValues" "{" {"@Entry" "var" NAME [":" type] "=" expr} "}"
  unfoldable pub Entries : Language PieceForm
  Entries = Made (λ x. piece_form.Environment x.1.1.1.0)
      (Both (One (a_word (codes "extension"))) (Both (One (the_name (codes "EnvironmentValues"))) (Both (One (a_sign (codes "{"))) (Both (Many EntryLine) (One (a_sign (codes "}")))))))

  unfoldable pub PieceForms : Language PieceForm
  PieceForms = Either Import (Either Struct (Either Enum (Either Entries (Preview L))))

  -- a piece and where it stands
  unfoldable pub PieceOf : Language Piece
  PieceOf = Spanned total piece PieceForms
