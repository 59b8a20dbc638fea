-- That the forms of a piece are read.
use Rattle.std.proofs.Common.{◌≡◌, ℕ, zero, suc, ◌+◌, ◌≤◌, Bool, true, false, not, ◌||◌, ◌&&◌, List, [], ◌∷◌, length, refl, sym, ap, subst, ◌∙◌, codes, arith, inl, inr, ◌⊎◌}
use Rattle.std.specs.Prelude.{Option, Some, None, is_some}
use Rattle.swift_lex.specs.declared.token.Token.{Token}
use Rattle.swift_ast.specs.declared.piece.Access.{Access}
use Rattle.swift_ast.specs.declared.piece.PieceForm.{PieceForm}
use Rattle.parse_base.specs.Parser.{Parser, starts, take_one, both, then_by, made, spanned, choose, perhaps, all}
use Rattle.parse_base.specs.Language.{Language, One, Both, Then, Made, Spanned, Either, Many, Perhaps}
use Rattle.parse_base.specs.Terminals.{a_sign, a_word, an_attribute, a_directive, a_name, sign_next, word_next}
use Rattle.parse_base.proofs.Laws.{Exact, Implies, anything, one_exact, both_exact, made_exact, choose_exact, perhaps_exact, then_exact, spanned_exact, weaker, stronger, fewer, Announced, or_left, or_right, or_cases}
use Rattle.parse_base.proofs.Seen.{sees, sees_word, sees_attribute, sees_directive, and_first, and_second, and_both, SeesSecond, sees_word_next}
use Rattle.swift_parse.specs.Words.{an_access, the_name, has_preview}
use Rattle.swift_parse.specs.Below.{Languages, Parsers}
use Rattle.swift_parse.specs.Grammar.{Import, Aside, Title, Preview, Body, Struct, Enum, Names, EnumLine, Entries, EntryLine, PieceForms, PieceOf}
use Rattle.swift_parse.specs.Parse.{begins_struct, begins_enum, begins_enum_line, import_of, aside, title, preview, names, body, struct_of, enum_line, enum_of, entries, entry_line, piece_form_of, piece_of}
use Rattle.swift_parse.proofs.Sides.{other_sign, word_word, word_attribute, attribute_word, word_access, access_attribute, starts_kind}
use Rattle.swift_parse.proofs.Rules.{Known, narrow, always, names_exact, body_exact, import_exact, enum_lines_exact, entry_lines_exact, aside_exact, rbrace_stops}

-- ---- the front of a piece

-- the word, or an access word before it
unfoldable access_or : List ℕ → List Token → Bool
access_or w ts = starts an_access ts || starts (a_word w) ts

maybe_access_exact : (n : ℕ) (w : List ℕ) → ((ts : List Token) → starts (a_word w) ts ≡ true → starts an_access ts ≡ false)
    → Exact 0 n (perhaps (starts an_access) (take_one an_access)) (Perhaps (One an_access)) (Perhaps (One an_access)) (access_or w) (starts (a_word w))
unfolding access_or
maybe_access_exact n w off = perhaps_exact (one_exact n an_access) (record { begin = λ ts e. e; last = λ ts e. refl; stop = off })

struct_no_main : (ts : List Token) → access_or (codes "struct") ts ≡ true → starts (an_attribute (codes "@main")) ts ≡ false
unfolding access_or
struct_no_main ts e = or_cases {P = starts (an_attribute (codes "@main")) ts ≡ false} _ _ e (access_attribute (codes "@main") ts) (word_attribute (codes "struct") (codes "@main") ts)

one_starts : (w : List ℕ) (ts rest : List Token) (x : Unit {0}) → One (a_word w) ts x rest → starts (a_word w) ts ≡ true
unfolding One starts
one_starts w ts rest x o = rw (o.1, o.2) refl

access_then_word : (w : List ℕ) (ts mid : List Token) (a : Access) → One an_access ts a mid → starts (a_word w) mid ≡ true → (starts an_access ts && word_next w ts) ≡ true
unfolding One starts
access_then_word w ts mid a o next = rw (o.1, o.2) next

access_word_next : (w : List ℕ) (ts mid rest : List Token) (a : Access) (x : Unit {0}) → One an_access ts a mid → One (a_word w) mid x rest → (starts an_access ts && word_next w ts) ≡ true
access_word_next w ts mid rest a x o q = access_then_word w ts mid a o (one_starts w mid rest x q)

-- an access word, if one stands there, and the word
abbrev word_front : List ℕ → List Token → Bool
word_front w ts = starts (a_word w) ts || (starts an_access ts && word_next w ts)

access_front : (w : List ℕ) (ts mid rest : List Token) (a : Option Access) (x : Unit {0}) → Perhaps (One an_access) ts a mid → One (a_word w) mid x rest → word_front w ts ≡ true
unfolding Perhaps
access_front w ts mid rest None x d q = or_left _ _ (subst (λ (v : List Token). starts (a_word w) v ≡ true) (sym d) (one_starts w mid rest x q))
access_front w ts mid rest (Some a) x d q = or_right _ _ (access_word_next w ts mid rest a x d q)

attribute_starts : (w : List ℕ) (ts rest : List Token) (x : Unit {0}) → One (an_attribute w) ts x rest → starts (an_attribute w) ts ≡ true
unfolding One starts
attribute_starts w ts rest x o = rw (o.1, o.2) refl

main_front : (ts mid mid2 rest : List Token) (m : Option (Unit {0})) (a : Option Access) (x : Unit {0}) → Perhaps (One (an_attribute (codes "@main"))) ts m mid → Perhaps (One an_access) mid a mid2 → One (a_word (codes "struct")) mid2 x rest
    → begins_struct ts ≡ true
unfolding Perhaps begins_struct
main_front ts mid mid2 rest None a x m d q = or_right _ _ (subst (λ (v : List Token). word_front (codes "struct") v ≡ true) (sym m) (access_front (codes "struct") mid mid2 rest a x d q))
main_front ts mid mid2 rest (Some u) a x m d q = or_left _ _ (attribute_starts (codes "@main") ts mid u m)

struct_front : (total : ℕ) (L : Languages) (ts : List Token) (x : PieceForm) (rest : List Token) → Struct total L ts x rest → anything rest ≡ true → begins_struct ts ≡ true
unfolding Struct Made Both
struct_front total L ts x rest d e = main_front ts d.1.0 d.1.2.0 d.1.2.2.0 d.0.0 d.0.1.0 d.0.1.1.0 d.1.1 d.1.2.1 d.1.2.2.1

enum_front : (total : ℕ) (L : Languages) (ts : List Token) (x : PieceForm) (rest : List Token) → Enum total L ts x rest → anything rest ≡ true → begins_enum ts ≡ true
unfolding Enum Made Both begins_enum
enum_front total L ts x rest d e = access_front (codes "enum") ts d.1.0 d.1.2.0 d.0.0 d.0.1.0 d.1.1 d.1.2.1

-- ---- the forms are told apart

word_no_front : (w v : List ℕ) (ts : List Token) → starts (a_word w) ts ≡ true → starts (a_word v) ts ≡ false → starts an_access ts ≡ false → word_front v ts ≡ false
word_no_front w v ts e a b = rw (a, b) refl

front_no_word : (w v : List ℕ) → ((ts : List Token) → starts (a_word v) ts ≡ true → starts (a_word w) ts ≡ false) → ((ts : List Token) → starts an_access ts ≡ true → starts (a_word w) ts ≡ false)
    → (ts : List Token) → word_front v ts ≡ true → starts (a_word w) ts ≡ false
front_no_word w v words access ts e = or_cases {P = starts (a_word w) ts ≡ false} _ _ e (words ts) (λ h. access ts (and_first (starts an_access ts) (word_next v ts) h))

false_or : (b : Bool) → (b ≡ true → ⊥) → b ≡ false
false_or true h = absurd (h refl)
false_or false h = refl

access_no_word : (w : List ℕ) → ((ts : List Token) → starts (a_word w) ts ≡ true → starts an_access ts ≡ false) → (ts : List Token) → starts an_access ts ≡ true → starts (a_word w) ts ≡ false
access_no_word w off ts e = false_or _ (λ on. let both : true ≡ false = sym e ∙ off ts on in cc)

import_access : (ts : List Token) → starts (a_word (codes "import")) ts ≡ true → starts an_access ts ≡ false
import_access = word_access (codes "import") refl

struct_access : (ts : List Token) → starts (a_word (codes "struct")) ts ≡ true → starts an_access ts ≡ false
struct_access = word_access (codes "struct") refl

enum_access : (ts : List Token) → starts (a_word (codes "enum")) ts ≡ true → starts an_access ts ≡ false
enum_access = word_access (codes "enum") refl

extension_access : (ts : List Token) → starts (a_word (codes "extension")) ts ≡ true → starts an_access ts ≡ false
extension_access = word_access (codes "extension") refl

struct_no_word : (w : List ℕ) → ((ts : List Token) → starts (a_word (codes "struct")) ts ≡ true → starts (a_word w) ts ≡ false) → ((ts : List Token) → starts (a_word w) ts ≡ true → starts an_access ts ≡ false)
    → (ts : List Token) → begins_struct ts ≡ true → starts (a_word w) ts ≡ false
unfolding begins_struct
struct_no_word w words off ts e = or_cases {P = starts (a_word w) ts ≡ false} _ _ e (attribute_word (codes "@main") w ts) (front_no_word w (codes "struct") words (access_no_word w off) ts)

enum_no_word : (w : List ℕ) → ((ts : List Token) → starts (a_word (codes "enum")) ts ≡ true → starts (a_word w) ts ≡ false) → ((ts : List Token) → starts (a_word w) ts ≡ true → starts an_access ts ≡ false)
    → (ts : List Token) → begins_enum ts ≡ true → starts (a_word w) ts ≡ false
unfolding begins_enum
enum_no_word w words off ts e = front_no_word w (codes "enum") words (access_no_word w off) ts e

-- the second words differ
next_differs : (ts : List Token) → word_next (codes "enum") ts ≡ true → word_next (codes "struct") ts ≡ false
next_differs [] e = absurd cc
next_differs (t ∷ ts) e = word_word (codes "enum") (codes "struct") refl ts e

enum_no_struct : (ts : List Token) → begins_enum ts ≡ true → begins_struct ts ≡ false
unfolding begins_enum begins_struct
enum_no_struct ts e = or_cases {P = begins_struct ts ≡ false} _ _ e
    (λ h. rw (word_attribute (codes "enum") (codes "@main") ts h, word_word (codes "enum") (codes "struct") refl ts h, enum_access ts h) refl)
    (λ h.
    let a : starts an_access ts ≡ true = and_first (starts an_access ts) (word_next (codes "enum") ts) h in
    let n : word_next (codes "struct") ts ≡ false = next_differs ts (and_second (starts an_access ts) (word_next (codes "enum") ts) h) in
    rw (access_attribute (codes "@main") ts a, access_no_word (codes "struct") struct_access ts a, a, n) refl)

extension_no_struct : (ts : List Token) → starts (a_word (codes "extension")) ts ≡ true → begins_struct ts ≡ false
unfolding begins_struct
extension_no_struct ts h = rw (word_attribute (codes "extension") (codes "@main") ts h, word_word (codes "extension") (codes "struct") refl ts h, extension_access ts h) refl

extension_no_enum : (ts : List Token) → starts (a_word (codes "extension")) ts ≡ true → begins_enum ts ≡ false
unfolding begins_enum
extension_no_enum ts h = rw (word_word (codes "extension") (codes "enum") refl ts h, extension_access ts h) refl

preview_no_word : (v : List ℕ) (ts : List Token) → starts (a_directive (codes "#Preview")) ts ≡ true → starts (a_word v) ts ≡ false
unfolding starts
preview_no_word v ts e = let s = sees_directive (codes "#Preview") ts e in rw (s.is, s.kind_is) refl

preview_no_struct : (ts : List Token) → starts (a_directive (codes "#Preview")) ts ≡ true → begins_struct ts ≡ false
unfolding begins_struct starts
preview_no_struct ts e = let s = sees_directive (codes "#Preview") ts e in rw (s.is, s.kind_is) refl

preview_no_enum : (ts : List Token) → starts (a_directive (codes "#Preview")) ts ≡ true → begins_enum ts ≡ false
unfolding begins_enum starts
preview_no_enum ts e = let s = sees_directive (codes "#Preview") ts e in rw (s.is, s.kind_is) refl

-- ---- each form

module _ {L : Languages} {p : Parsers} (K : Known L p) where
  struct_parts : (total n : ℕ) → Exact 1 n (struct_of total p) (Struct total L) (Struct total L) (λ ts. starts (an_attribute (codes "@main")) ts || access_or (codes "struct") ts) anything
  unfolding struct_of Struct
  struct_parts total n = fewer (omega arith) (made_exact _
      (both_exact (perhaps_exact (one_exact n (an_attribute (codes "@main"))) (record { begin = λ ts e. e; last = λ ts e. refl; stop = struct_no_main }))
      (both_exact (maybe_access_exact n (codes "struct") struct_access)
      (both_exact (one_exact n (a_word (codes "struct"))) (both_exact (one_exact n a_name) (then_exact (names_exact n) (body_exact K total n) (λ ts e. e)) (λ ts e. refl)) (λ ts e. refl))
      (λ ts e. e)) (λ ts e. e)))

  struct_exact : (total n : ℕ) → Exact 1 n (struct_of total p) (Struct total L) (Struct total L) begins_struct anything
  struct_exact total n = stronger begins_struct (struct_parts total n) (struct_front total L)

  enum_parts : (total n : ℕ) → Exact 1 n (enum_of total p) (Enum total L) (Enum total L) (access_or (codes "enum")) anything
  unfolding enum_of Enum
  enum_parts total n = fewer (omega arith) (made_exact _
      (both_exact (maybe_access_exact n (codes "enum") enum_access)
      (both_exact (one_exact n (a_word (codes "enum"))) (both_exact (one_exact n a_name)
      (both_exact (names_exact n) (both_exact (one_exact n (a_sign (codes "{"))) (both_exact (enum_lines_exact K total n) (one_exact n (a_sign (codes "}"))) (λ ts e. e)) (λ ts e. refl)) (λ ts e. e))
      (λ ts e. refl)) (λ ts e. refl)) (λ ts e. e)))

  enum_exact : (total n : ℕ) → Exact 1 n (enum_of total p) (Enum total L) (Enum total L) begins_enum anything
  enum_exact total n = stronger begins_enum (enum_parts total n) (enum_front total L)

  entries_exact : (total n : ℕ) → Exact 1 n (entries total p) (Entries total L) (Entries total L) (starts (a_word (codes "extension"))) anything
  unfolding entries Entries
  entries_exact total n = fewer (omega arith) (made_exact _ (both_exact (one_exact n (a_word (codes "extension"))) (both_exact (one_exact n (the_name (codes "EnvironmentValues")))
      (both_exact (one_exact n (a_sign (codes "{"))) (both_exact (entry_lines_exact K total n) (one_exact n (a_sign (codes "}"))) (λ ts e. e)) (λ ts e. refl)) (λ ts e. refl)) (λ ts e. refl)))

  title_exact : (n : ℕ) → Exact 1 n (title p) (Title L) (Title L) (starts (a_sign (codes "("))) anything
  unfolding title Title
  title_exact n = fewer (omega arith) (made_exact _ (both_exact (one_exact n (a_sign (codes "("))) (both_exact (K.strings n) (one_exact n (a_sign (codes ")"))) (λ ts e. e)) (λ ts e. refl)))

  preview_exact : (n : ℕ) → Exact 1 n (preview p) (Preview L) (Preview L) (starts (a_directive (codes "#Preview"))) anything
  unfolding preview Preview
  preview_exact n =
      let some = perhaps_exact (title_exact n) (record { begin = λ ts e. e; last = always (starts (a_sign (codes "{"))); stop = other_sign (codes "{") (codes "(") refl }) in
      fewer (omega arith) (made_exact _ (both_exact (one_exact n (a_directive (codes "#Preview"))) (both_exact some (both_exact (one_exact n (a_sign (codes "{"))) (both_exact (aside_exact n) (one_exact n (a_sign (codes "}"))) rbrace_stops) (λ ts e. refl)) (λ ts e. e)) (λ ts e. refl)))

  -- an extension or a preview
  abbrev late : List Token → Bool
  late ts = starts (a_word (codes "extension")) ts || starts (a_directive (codes "#Preview")) ts

  forms_exact : (total n : ℕ) → Exact 1 n (piece_form_of total p) (PieceForms total L) (PieceForms total L)
      (λ ts. starts (a_word (codes "import")) ts || (begins_struct ts || (begins_enum ts || late ts))) anything
  unfolding piece_form_of PieceForms
  forms_exact total n =
      choose_exact (import_exact n)
      (choose_exact (struct_exact total n)
      (choose_exact (enum_exact total n)
      (choose_exact (entries_exact total n) (preview_exact n) (λ ts e. e) (preview_no_word (codes "extension")))
      (λ ts e. e) (λ ts e. or_cases {P = begins_enum ts ≡ false} _ _ e (extension_no_enum ts) (preview_no_enum ts)))
      (λ ts e. e) (λ ts e. or_cases {P = begins_struct ts ≡ false} _ _ e (enum_no_struct ts) (λ h. or_cases {P = begins_struct ts ≡ false} _ _ h (extension_no_struct ts) (preview_no_struct ts))))
      (λ ts e. e)
      (λ ts e. or_cases {P = starts (a_word (codes "import")) ts ≡ false} _ _ e (struct_no_word (codes "import") (word_word (codes "struct") (codes "import") refl) import_access ts)
      (λ h. or_cases {P = starts (a_word (codes "import")) ts ≡ false} _ _ h (enum_no_word (codes "import") (word_word (codes "enum") (codes "import") refl) import_access ts)
      (λ g. or_cases {P = starts (a_word (codes "import")) ts ≡ false} _ _ g (word_word (codes "extension") (codes "import") refl ts) (preview_no_word (codes "import") ts))))

  pub piece_exact : (total n : ℕ) → Exact 1 n (piece_of total p) (PieceOf total L) (PieceOf total L) anything anything
  unfolding piece_of PieceOf
  piece_exact total n = weaker anything anything (spanned_exact total _ (forms_exact total n)) (λ ts e. refl) (λ ts e. e)
