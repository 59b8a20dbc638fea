-- Patterns: each definition is one line of the grammar, and beside it stands its parser on lists.
use Rattle.std.specs.Prelude.{Bool, true, ◌||◌, List, codes}
use Rattle.swift_lex.specs.declared.token.Token.{Token}
use Rattle.swift_ast.specs.declared.tree.Pattern.{Pattern}
use Rattle.swift_ast.specs.declared.tree.Pattern.TheVariants as pattern
use Rattle.parse_base.specs.Parser.{Parser, starts, take_one, both, made, choose, all}
use Rattle.parse_base.specs.Language.{Language, One, Both, Made, Either, Many}
use Rattle.parse_base.specs.Terminals.{a_sign, a_name, a_text, string_open, string_close}
use Rattle.parse_terms.specs.Words.{a_plain, a_minus, a_number}

-- "-" INT
unfoldable pub MinusPattern : Language Pattern
MinusPattern = Made (λ x. pattern.Minus x.1) (Both (One a_minus) (One a_number))

-- string without "\("
unfoldable pub TextPattern : Language Pattern
TextPattern = Made (λ x. pattern.Text x.1.0) (Both (One string_open) (Both (Many (One a_text)) (One string_close)))

-- "." NAME
unfoldable pub ImplicitPattern : Language Pattern
ImplicitPattern = Made (λ x. pattern.Implicit x.1) (Both (One (a_sign (codes "."))) (One a_name))

-- NAME "." NAME
unfoldable pub MemberPattern : Language Pattern
MemberPattern = Made (λ x. pattern.Member x.0 x.1.1) (Both (One a_name) (Both (One (a_sign (codes "."))) (One a_name)))

-- pattern = ["-"] INT | string without "\(" | "true" | "false" | "." NAME | NAME "." NAME
unfoldable pub SpellsPattern : Language Pattern
SpellsPattern = Either (One a_plain) (Either MinusPattern (Either TextPattern (Either ImplicitPattern MemberPattern)))

-- ---- recursive descent over the same lines

unfoldable pub minus_pattern : Parser Pattern
minus_pattern = made (λ x. pattern.Minus x.1) (both (take_one a_minus) (take_one a_number))

unfoldable pub text_pattern : Parser Pattern
text_pattern = made (λ x. pattern.Text x.1.0) (both (take_one string_open) (both (all (starts a_text) (take_one a_text)) (take_one string_close)))

unfoldable pub implicit_pattern : Parser Pattern
implicit_pattern = made (λ x. pattern.Implicit x.1) (both (take_one (a_sign (codes "."))) (take_one a_name))

unfoldable pub member_pattern : Parser Pattern
member_pattern = made (λ x. pattern.Member x.0 x.1.1) (both (take_one a_name) (both (take_one (a_sign (codes "."))) (take_one a_name)))

unfoldable pub read_pattern : Parser Pattern
read_pattern = choose (starts a_plain) (take_one a_plain) (choose (starts a_minus) minus_pattern (choose (starts string_open) text_pattern (choose (starts (a_sign (codes "."))) implicit_pattern member_pattern)))

-- what a pattern begins with
unfoldable pub begins_pattern : List Token → Bool
begins_pattern ts = starts a_plain ts || (starts a_minus ts || (starts string_open ts || (starts (a_sign (codes ".")) ts || starts a_name ts)))

-- a pattern ends anywhere
abbrev pub anywhere : List Token → Bool
anywhere ts = true
