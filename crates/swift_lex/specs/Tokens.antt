-- The tokens of a text: at each place the longest spelling, or the fault.
use Rattle.std.specs.Prelude.{◌≡◌, ℕ, zero, suc, ◌+◌, Bool, true, false, not, ◌&&◌, if◌then◌else◌, List, [], ◌∷◌, ◌++◌, length, take, drop, Option, Some, None, is_some, Result, Ok, Err, nat_eq}
use Rattle.swift_lex.specs.declared.token.Token.{Token}
use Rattle.swift_lex.specs.declared.token.TokenKind.{TokenKind}
use Rattle.swift_lex.specs.declared.token.Gap.{Gap}
use Rattle.swift_lex.specs.declared.token.Gap.TheVariants as gap
use Rattle.swift_lex.specs.declared.place.Place.{Place}
use Rattle.swift_lex.specs.declared.item.Item.{Item}
use Rattle.swift_lex.specs.declared.fault.LexFault.{LexFault}
use Rattle.swift_lex.specs.declared.fault.LexFault.TheVariants as fault
use Rattle.swift_lex.specs.Spellings.{begins_with}
use Rattle.swift_lex.specs.Brackets.{is_empty}
use Rattle.swift_lex.specs.Items.{item, after}

-- the text without a byte order mark at its start
abbrev pub without_mark : List ℕ → List ℕ
without_mark bytes = if begins_with (0xEF ∷ 0xBB ∷ 0xBF ∷ []) bytes then drop 3 bytes else bytes

abbrev pub start : Place
start = record { line = 1; col = 1; gap = gap.NewLine }

-- the place behind such a byte
abbrev pub past : ℕ → Place → Place
past b p = if nat_eq b 10 then record { line = p.line + 1; col = 1; gap = gap.NewLine } else record p { col = p.col + 1 }

abbrev pub moved : List ℕ → Place → Place
moved [] p = p
moved (b ∷ bs) p = moved bs (past b p)

abbrev pub wider : Gap → Gap
wider gap.Joined = gap.Spaced
wider g = g

abbrev pub gap_by : Bool → Gap → Gap
gap_by is_token g = if is_token then gap.Joined else wider g

-- the place behind an item
abbrev pub behind : Item → Place → List ℕ → Place
behind i p bs = moved (take i.len bs) (record p { gap = gap_by (is_some i.token) p.gap })

abbrev pub token_of : Option TokenKind → Place → List Token
token_of None p = []
token_of (Some k) p = record { kind = k; line = p.line; col = p.col; gap = p.gap } ∷ []

abbrev pub Lexed : Type 0
Lexed = Result (List Token) LexFault

abbrev pub by_item : Place → Option Item → (Item → Lexed) → Lexed
by_item p None f = Err (fault.At p.line p.col)
by_item p (Some i) f = f i

abbrev pub is_end : List ℕ → Bool
is_end [] = true
is_end (b ∷ bs) = false

-- nothing is left, and no string is open
abbrev pub is_done : List Bool → Bool → List ℕ → Bool
is_done o t bs = is_end bs && (not t && is_empty o)

-- what is open behind these tokens: the brackets within holes, and whether the text of a string goes on
abbrev pub inside_from : List Bool × Bool → List Token → List Bool × Bool
inside_from a [] = a
inside_from a (t ∷ ts) = inside_from (after t.kind a.0 a.1) ts

unfoldable pub inside : List Token → List Bool × Bool
inside ts = inside_from ([], false) ts

-- behind the tokens found so far, at this place; the number is above that of the bytes that are left, since each item takes one
unfoldable pub tokens_from : ℕ → Place → List ℕ → List Token → Lexed
tokens_from zero p bs found = Ok found
tokens_from (suc n) p bs found =
    if is_done (inside found).0 (inside found).1 bs then Ok found
    else by_item p (item (inside found).0 (inside found).1 bs) (λ i. tokens_from n (behind i p bs) (drop i.len bs) (found ++ token_of i.token p))

unfoldable pub tokens_of : List ℕ → Lexed
tokens_of bs = tokens_from (length bs + 1) start bs []

abbrev pub tokens : List ℕ → Lexed
tokens bytes = tokens_of (without_mark bytes)

-- this fault is the answer, unless memory runs out
abbrev pub IsFaultOf : Lexed → LexFault → Type 0
IsFaultOf lexed fault.OutOfMemory = Unit {0}
IsFaultOf lexed (fault.At line col) = lexed ≡ Err (fault.At line col)
