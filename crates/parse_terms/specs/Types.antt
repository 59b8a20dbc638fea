-- Types and patterns: each definition is one line of the grammar, and beside it stands its parser on lists.
use Rattle.std.specs.Prelude.{ℕ, zero, suc, Bool, not, ◌||◌, List, length, None, codes}
use Rattle.swift_lex.specs.declared.token.Token.{Token}
use Rattle.swift_ast.specs.declared.type_name.TypeName.{TypeName}
use Rattle.swift_ast.specs.declared.type_name.TypeName.TheVariants as type
use Rattle.parse_base.specs.Parser.{Parser, starts, take_one, both, made, choose, counted}
use Rattle.parse_base.specs.Language.{Language, nothing, One, Both, Made, Either, Many, UpTo}
use Rattle.parse_base.specs.Terminals.{a_sign, a_name}
use Rattle.parse_terms.specs.Words.{max_links}
use Rattle.parse_terms.specs.Trees.{optional_by}

-- over the types that stand inside brackets
module _ (T : Language TypeName) where
  -- "[" type "]"
  unfoldable pub ListType : Language TypeName
  ListType = Made (λ x. type.List x.1.0) (Both (One (a_sign (codes "["))) (Both T (One (a_sign (codes "]")))))

  -- "(" type ")"
  unfoldable pub BracketedType : Language TypeName
  BracketedType = Made (λ x. x.1.0) (Both (One (a_sign (codes "("))) (Both T (One (a_sign (codes ")")))))

  unfoldable pub PlainType : Language TypeName
  PlainType = Either (Made type.Name (One a_name)) (Either ListType BracketedType)

  -- type = NAME | "[" type "]" | type "?" | "(" type ")"
  unfoldable pub TypeOf : Language TypeName
  TypeOf = Made (λ x. optional_by x.0 x.1) (Both PlainType (Made length (UpTo max_links (Many (One (a_sign (codes "?")))))))

-- types whose brackets nest less than so deep
unfoldable pub NestedType : ℕ → Language TypeName
NestedType zero = nothing
NestedType (suc n) = TypeOf (NestedType n)

-- the tokens from `ts` up to `rest` spell the type
unfoldable pub SpellsType : Language TypeName
SpellsType ts x rest = (depth : ℕ) × NestedType depth ts x rest

-- ---- recursive descent over the same lines

module _ (t : Parser TypeName) where
  unfoldable pub list_type : Parser TypeName
  list_type = made (λ x. type.List x.1.0) (both (take_one (a_sign (codes "["))) (both t (take_one (a_sign (codes "]")))))

  unfoldable pub bracketed_type : Parser TypeName
  bracketed_type = made (λ x. x.1.0) (both (take_one (a_sign (codes "("))) (both t (take_one (a_sign (codes ")")))))

  unfoldable pub plain_type : Parser TypeName
  plain_type = choose (starts a_name) (made type.Name (take_one a_name)) (choose (starts (a_sign (codes "["))) list_type bracketed_type)

  unfoldable pub type_of : Parser TypeName
  type_of = made (λ x. optional_by x.0 x.1) (both plain_type (counted (starts (a_sign (codes "?"))) (take_one (a_sign (codes "?"))) max_links 0))

unfoldable pub nested_type : ℕ → Parser TypeName
nested_type zero = λ ts. None
nested_type (suc n) = type_of (nested_type n)

-- what reads a type
unfoldable pub read_type : Parser TypeName
read_type ts = nested_type (length ts) ts

-- ---- tests

-- what a type begins with
unfoldable pub begins_type : List Token → Bool
begins_type ts = starts a_name ts || (starts (a_sign (codes "[")) ts || starts (a_sign (codes "(")) ts)

-- what stands behind a type
unfoldable pub ends_type : List Token → Bool
ends_type ts = not (starts (a_sign (codes "?")) ts)
