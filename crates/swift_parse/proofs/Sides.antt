-- What stands behind the parts of members and pieces, and what the tests of it say.
use Rattle.std.proofs.Common.{◌≡◌, ℕ, Bool, true, false, not, ◌||◌, ◌&&◌, List, [], ◌∷◌, refl, sym, ap, subst, ◌∙◌, codes, inl, inr, ◌⊎◌}
use Rattle.std.specs.Prelude.{Option, Some, None, is_some}
use Rattle.std.specs.Str.{bytes_eq}
use Rattle.std.proofs.lemmas.Slice.Eq.{bytes_eq-Decides}
use Rattle.swift_lex.specs.declared.token.Token.{Token}
use Rattle.swift_lex.specs.declared.token.TokenKind.{TokenKind}
use Rattle.swift_lex.specs.declared.token.TokenKind.TheVariants as kind
use Rattle.parse_base.specs.Parser.{Terminal, starts, starts_by}
use Rattle.parse_base.specs.Terminals.{only_if, a_sign, a_word, an_attribute, a_directive, a_name, name_by, sign_next, word_next}
use Rattle.parse_base.specs.Tokens.{is_sign, sign_of}
use Rattle.parse_base.proofs.Laws.{Implies, or_left, or_right, or_cases}
use Rattle.parse_base.proofs.Seen.{sees, sees_word, sees_attribute, sees_directive, sees_name, not_true, and_first, and_second, and_both}
use Rattle.parse_terms.specs.Types.{begins_type, ends_type}
use Rattle.parse_terms.specs.Words.{a_binder, binder_by, binder_word}
use Rattle.swift_parse.specs.Words.{an_access, access_by, a_modifier, modifier_by}
use Rattle.swift_parse.specs.Parse.{name_next, pair_ahead, begins_mod, begins_form, begins_member, begins_enum_line, begins_struct, begins_enum}

-- ---- tests

-- behind a line of a body: another line, or its closing brace
unfoldable pub after_line : List Token → Bool
after_line ts = starts (a_sign (codes "}")) ts || (begins_enum_line ts || starts (an_attribute (codes "@Entry")) ts)

-- behind a member, a `case` or an entry
unfoldable pub line_follows : List Token → Bool
line_follows ts = starts (a_sign (codes ";")) ts || after_line ts

-- behind a type that is declared
unfoldable pub value_follows : List Token → Bool
value_follows ts = starts (a_sign (codes "=")) ts || line_follows ts

-- ---- the first token

pub record Front (P : TokenKind → Type 0) (ts : List Token) : Type 0 where
  pub token : Token
  pub rest : List Token
  pub is : ts ≡ token ∷ rest
  pub kind_is : P token.kind

abbrev pub WordKind : TokenKind → Type 0
WordKind k = ((w : List ℕ) × (k ≡ kind.Reserved w)) ⊎ ((w : List ℕ) × (k ≡ kind.AtName w))

abbrev pub FollowKind : TokenKind → Type 0
FollowKind k = (k ≡ kind.Sign (codes ";")) ⊎ ((k ≡ kind.Sign (codes "}")) ⊎ WordKind k)

pub starts_kind : {A : Type 0} (f : TokenKind → Option A) (ts : List Token) → starts (λ t rest. f t.kind) ts ≡ true → Front (λ k. is_some (f k) ≡ true) ts
unfolding starts
starts_kind f [] e = absurd cc
starts_kind f (t ∷ ts) e = record { token = t; rest = ts; is = refl; kind_is = e }

weaken_front : {P Q : TokenKind → Type 0} {ts : List Token} → Front P ts → ((k : TokenKind) → P k → Q k) → Front Q ts
weaken_front f h = record { token = f.token; rest = f.rest; is = f.is; kind_is = h f.token.kind f.kind_is }

modifier_kind : (k : TokenKind) → is_some (modifier_by k) ≡ true → WordKind k
modifier_kind (kind.Reserved w) e = inl (w, refl)
modifier_kind (kind.AtName w) e = inr (w, refl)
modifier_kind (kind.Name w) e = absurd cc
modifier_kind (kind.Dollar w) e = absurd cc
modifier_kind (kind.HashName w) e = absurd cc
modifier_kind (kind.Sign w) e = absurd cc
modifier_kind (kind.Int n) e = absurd cc
modifier_kind kind.StrOpen e = absurd cc
modifier_kind (kind.StrText w) e = absurd cc
modifier_kind kind.StrHole e = absurd cc
modifier_kind kind.StrClose e = absurd cc

access_kind : (k : TokenKind) → is_some (access_by k) ≡ true → (w : List ℕ) × (k ≡ kind.Reserved w)
access_kind (kind.Reserved w) e = (w, refl)
access_kind (kind.AtName w) e = absurd cc
access_kind (kind.Name w) e = absurd cc
access_kind (kind.Dollar w) e = absurd cc
access_kind (kind.HashName w) e = absurd cc
access_kind (kind.Sign w) e = absurd cc
access_kind (kind.Int n) e = absurd cc
access_kind kind.StrOpen e = absurd cc
access_kind (kind.StrText w) e = absurd cc
access_kind kind.StrHole e = absurd cc
access_kind kind.StrClose e = absurd cc

binder_kind : (k : TokenKind) → is_some (binder_by k) ≡ true → (w : List ℕ) × (k ≡ kind.Reserved w)
binder_kind (kind.Reserved w) e = (w, refl)
binder_kind (kind.AtName w) e = absurd cc
binder_kind (kind.Name w) e = absurd cc
binder_kind (kind.Dollar w) e = absurd cc
binder_kind (kind.HashName w) e = absurd cc
binder_kind (kind.Sign w) e = absurd cc
binder_kind (kind.Int n) e = absurd cc
binder_kind kind.StrOpen e = absurd cc
binder_kind (kind.StrText w) e = absurd cc
binder_kind kind.StrHole e = absurd cc
binder_kind kind.StrClose e = absurd cc

word_front : (w : List ℕ) (ts : List Token) → starts (a_word w) ts ≡ true → Front WordKind ts
word_front w ts e = let s = sees_word w ts e in record { token = s.token; rest = s.rest; is = s.is; kind_is = inl (w, s.kind_is) }

attribute_front : (w : List ℕ) (ts : List Token) → starts (an_attribute w) ts ≡ true → Front WordKind ts
attribute_front w ts e = let s = sees_attribute w ts e in record { token = s.token; rest = s.rest; is = s.is; kind_is = inr (w, s.kind_is) }

mod_front : (ts : List Token) → begins_mod ts ≡ true → Front WordKind ts
unfolding begins_mod
mod_front ts e = or_cases _ _ e (λ h. weaken_front (starts_kind modifier_by ts h) modifier_kind) (attribute_front (codes "@Environment") ts)

form_front : (ts : List Token) → begins_form ts ≡ true → Front (λ k. (w : List ℕ) × (k ≡ kind.Reserved w)) ts
unfolding begins_form
form_front ts e = or_cases _ _ e (λ h. weaken_front (starts_kind binder_by ts h) binder_kind)
    (λ h. let s = sees_word (codes "func") ts h in record { token = s.token; rest = s.rest; is = s.is; kind_is = (codes "func", s.kind_is) })

pub member_front : (ts : List Token) → begins_member ts ≡ true → Front WordKind ts
unfolding begins_member
member_front ts e = or_cases _ _ e (mod_front ts) (λ h. weaken_front (form_front ts h) (λ k r. inl r))

enum_line_front : (ts : List Token) → begins_enum_line ts ≡ true → Front WordKind ts
unfolding begins_enum_line
enum_line_front ts e = or_cases _ _ e (word_front (codes "case") ts) (member_front ts)

brace_front : (ts : List Token) → starts (a_sign (codes "}")) ts ≡ true → Front FollowKind ts
brace_front ts e = let s = sees (codes "}") ts e in record { token = s.token; rest = s.rest; is = s.is; kind_is = inr (inl s.kind_is) }

pub after_front : (ts : List Token) → after_line ts ≡ true → Front FollowKind ts
unfolding after_line
after_front ts e = or_cases _ _ e (brace_front ts) (λ h. weaken_front (or_cases {P = Front WordKind ts} _ _ h (enum_line_front ts) (attribute_front (codes "@Entry") ts)) (λ k r. inr (inr r)))

pub follow_front : (ts : List Token) → line_follows ts ≡ true → Front FollowKind ts
unfolding line_follows
follow_front ts e = or_cases _ _ e (λ h. let s = sees (codes ";") ts h in record { token = s.token; rest = s.rest; is = s.is; kind_is = inl s.kind_is }) (after_front ts)

-- ---- signs that do not stand there

word_no_sign : (v : List ℕ) (k : TokenKind) → WordKind k → sign_of v k ≡ false
word_no_sign v k (inl w) = rw w.1 refl
word_no_sign v k (inr w) = rw w.1 refl

follow_no_sign : (v : List ℕ) → bytes_eq (codes ";") v ≡ false → bytes_eq (codes "}") v ≡ false → (k : TokenKind) → FollowKind k → sign_of v k ≡ false
follow_no_sign v a b k (inl e) = rw e a
follow_no_sign v a b k (inr (inl e)) = rw e b
follow_no_sign v a b k (inr (inr w)) = word_no_sign v k w

sign_front : (v : List ℕ) (ts : List Token) (f : Front (λ k. sign_of v k ≡ false) ts) → starts (a_sign v) ts ≡ false
unfolding starts
sign_front v ts f = rw (f.is, f.kind_is) refl

pub follow_sign : (v : List ℕ) → bytes_eq (codes ";") v ≡ false → bytes_eq (codes "}") v ≡ false → (ts : List Token) → line_follows ts ≡ true → starts (a_sign v) ts ≡ false
follow_sign v a b ts e = sign_front v ts (weaken_front (follow_front ts e) (follow_no_sign v a b))

pub member_sign : (v : List ℕ) (ts : List Token) → begins_member ts ≡ true → starts (a_sign v) ts ≡ false
member_sign v ts e = sign_front v ts (weaken_front (member_front ts e) (word_no_sign v))

pub after_no_semicolon : (ts : List Token) → after_line ts ≡ true → starts (a_sign (codes ";")) ts ≡ false
unfolding after_line
after_no_semicolon ts e = or_cases {P = starts (a_sign (codes ";")) ts ≡ false} _ _ e
    (λ h. let s = sees (codes "}") ts h in sign_front (codes ";") ts (record { token = s.token; rest = s.rest; is = s.is; kind_is = rw s.kind_is refl }))
    (λ h. or_cases {P = starts (a_sign (codes ";")) ts ≡ false} _ _ h
    (λ g. sign_front (codes ";") ts (weaken_front (enum_line_front ts g) (word_no_sign (codes ";"))))
    (λ g. sign_front (codes ";") ts (weaken_front (attribute_front (codes "@Entry") ts g) (word_no_sign (codes ";")))))

-- a sign of one spelling is not one of another
pub other_sign : (w v : List ℕ) → bytes_eq w v ≡ false → (ts : List Token) → starts (a_sign w) ts ≡ true → starts (a_sign v) ts ≡ false
other_sign w v d ts e = let s = sees w ts e in sign_front v ts (record { token = s.token; rest = s.rest; is = s.is; kind_is = rw s.kind_is d })

-- ---- what ends a type

pub sign_ends_type : (w : List ℕ) → bytes_eq w (codes "?") ≡ false → Implies (starts (a_sign w)) ends_type
unfolding ends_type
sign_ends_type w d ts e = rw (other_sign w (codes "?") d ts e) refl

pub line_ends_type : Implies line_follows ends_type
unfolding ends_type
line_ends_type ts e = rw (follow_sign (codes "?") refl refl ts e) refl

pub value_ends_type : Implies value_follows ends_type
unfolding value_follows
value_ends_type ts e = or_cases {P = ends_type ts ≡ true} _ _ e (sign_ends_type (codes "=") refl ts) (line_ends_type ts)

pub value_no_colon : (ts : List Token) → value_follows ts ≡ true → starts (a_sign (codes ":")) ts ≡ false
unfolding value_follows
value_no_colon ts e = or_cases {P = starts (a_sign (codes ":")) ts ≡ false} _ _ e (other_sign (codes "=") (codes ":") refl ts) (follow_sign (codes ":") refl refl ts)

pub value_no_brace : (ts : List Token) → value_follows ts ≡ true → starts (a_sign (codes "{")) ts ≡ false
unfolding value_follows
value_no_brace ts e = or_cases {P = starts (a_sign (codes "{")) ts ≡ false} _ _ e (other_sign (codes "=") (codes "{") refl ts) (follow_sign (codes "{") refl refl ts)

-- ---- what begins a type

type_no_word : (v : List ℕ) (ts : List Token) → begins_type ts ≡ true → starts (a_word v) ts ≡ false
unfolding begins_type starts
type_no_word v ts e = or_cases {P = starts (a_word v) ts ≡ false} _ _ e
    (λ h. let s = sees_name ts h in rw (s.is, s.kind_is) refl)
    (λ h. or_cases {P = starts (a_word v) ts ≡ false} _ _ h
    (λ g. let s = sees (codes "[") ts g in rw (s.is, s.kind_is) refl)
    (λ g. let s = sees (codes "(") ts g in rw (s.is, s.kind_is) refl))

pub type_word : (v : List ℕ) (ts : List Token) → begins_type ts ≡ true → starts (a_word v) ts ≡ false
type_word v ts e = type_no_word v ts e

pub type_no_rparen : (ts : List Token) → begins_type ts ≡ true → starts (a_sign (codes ")")) ts ≡ false
unfolding begins_type starts
type_no_rparen ts e = or_cases {P = starts (a_sign (codes ")")) ts ≡ false} _ _ e
    (λ h. let s = sees_name ts h in rw (s.is, s.kind_is) refl)
    (λ h. or_cases {P = starts (a_sign (codes ")")) ts ≡ false} _ _ h
    (λ g. let s = sees (codes "[") ts g in rw (s.is, s.kind_is) refl)
    (λ g. let s = sees (codes "(") ts g in rw (s.is, s.kind_is) refl))

-- ---- words that are told apart

pub word_word : (w v : List ℕ) → bytes_eq w v ≡ false → (ts : List Token) → starts (a_word w) ts ≡ true → starts (a_word v) ts ≡ false
unfolding starts
word_word w v d ts e = let s = sees_word w ts e in rw (s.is, s.kind_is, d) refl

pub word_attribute : (w v : List ℕ) (ts : List Token) → starts (a_word w) ts ≡ true → starts (an_attribute v) ts ≡ false
unfolding starts
word_attribute w v ts e = let s = sees_word w ts e in rw (s.is, s.kind_is) refl

pub attribute_word : (w v : List ℕ) (ts : List Token) → starts (an_attribute w) ts ≡ true → starts (a_word v) ts ≡ false
unfolding starts
attribute_word w v ts e = let s = sees_attribute w ts e in rw (s.is, s.kind_is) refl

pub word_access : (w : List ℕ) → is_some (access_by (kind.Reserved w)) ≡ false → (ts : List Token) → starts (a_word w) ts ≡ true → starts an_access ts ≡ false
unfolding starts
word_access w d ts e = let s = sees_word w ts e in rw (s.is, s.kind_is) d

pub access_attribute : (v : List ℕ) (ts : List Token) → starts an_access ts ≡ true → starts (an_attribute v) ts ≡ false
unfolding starts
access_attribute v ts e = let f = weaken_front (starts_kind access_by ts e) access_kind in rw (f.is, f.kind_is.1) refl

pub environment_no_modifier : (ts : List Token) → starts (an_attribute (codes "@Environment")) ts ≡ true → starts a_modifier ts ≡ false
unfolding starts
environment_no_modifier ts e = let s = sees_attribute (codes "@Environment") ts e in rw (s.is, s.kind_is) refl

-- a word that introduces a form is no modifier
word_no_mod : (w : List ℕ) → is_some (modifier_by (kind.Reserved w)) ≡ false → (ts : List Token) → starts (a_word w) ts ≡ true → begins_mod ts ≡ false
unfolding begins_mod starts
word_no_mod w d ts e = let s = sees_word w ts e in rw (s.is, s.kind_is, d) refl

-- the three words that introduce a form
unfoldable pub form_words : List Token → Bool
form_words ts = starts (a_word (codes "func")) ts || (starts (a_word (codes "let")) ts || starts (a_word (codes "var")) ts)

pub form_no_mod : (ts : List Token) → form_words ts ≡ true → begins_mod ts ≡ false
unfolding form_words
form_no_mod ts e = or_cases {P = begins_mod ts ≡ false} _ _ e (word_no_mod (codes "func") refl ts)
    (λ h. or_cases {P = begins_mod ts ≡ false} _ _ h (word_no_mod (codes "let") refl ts) (word_no_mod (codes "var") refl ts))

pub form_begins : Implies form_words begins_form
unfolding form_words begins_form starts
form_begins ts e = or_cases {P = begins_form ts ≡ true} _ _ e (λ h. or_right _ _ h)
    (λ h. or_cases {P = begins_form ts ≡ true} _ _ h
    (λ g. let s = sees_word (codes "let") ts g in rw (s.is, s.kind_is) refl)
    (λ g. let s = sees_word (codes "var") ts g in rw (s.is, s.kind_is) refl))

-- ---- the closing brace

pub rbrace_no_member : (ts : List Token) → starts (a_sign (codes "}")) ts ≡ true → begins_member ts ≡ false
unfolding begins_member begins_mod begins_form starts
rbrace_no_member ts e = let s = sees (codes "}") ts e in rw (s.is, s.kind_is) refl

pub rbrace_no_enum_line : (ts : List Token) → starts (a_sign (codes "}")) ts ≡ true → begins_enum_line ts ≡ false
unfolding begins_enum_line begins_member begins_mod begins_form starts
rbrace_no_enum_line ts e = let s = sees (codes "}") ts e in rw (s.is, s.kind_is) refl

pub rbrace_no_entry : (ts : List Token) → starts (a_sign (codes "}")) ts ≡ true → starts (an_attribute (codes "@Entry")) ts ≡ false
unfolding starts
rbrace_no_entry ts e = let s = sees (codes "}") ts e in rw (s.is, s.kind_is) refl

pub rbrace_after : Implies (starts (a_sign (codes "}"))) after_line
unfolding after_line
rbrace_after ts e = or_left _ _ e

pub member_after : Implies begins_member after_line
unfolding after_line begins_enum_line
member_after ts e = or_right _ _ (or_left _ _ (or_right _ _ e))

pub enum_line_after : Implies begins_enum_line after_line
unfolding after_line
enum_line_after ts e = or_right _ _ (or_left _ _ e)

pub entry_after : Implies (starts (an_attribute (codes "@Entry"))) after_line
unfolding after_line
entry_after ts e = or_right _ _ (or_right _ _ e)

pub member_no_case : (ts : List Token) → begins_member ts ≡ true → starts (a_word (codes "case")) ts ≡ false
unfolding begins_member begins_mod begins_form
member_no_case ts e = or_cases {P = starts (a_word (codes "case")) ts ≡ false} _ _ e
    (λ h. or_cases {P = starts (a_word (codes "case")) ts ≡ false} _ _ h
    (λ g. no_case modifier_by refl (starts_kind modifier_by ts g)) (attribute_word (codes "@Environment") (codes "case") ts))
    (λ h. or_cases {P = starts (a_word (codes "case")) ts ≡ false} _ _ h
    (λ g. no_case binder_by refl (starts_kind binder_by ts g)) (word_word (codes "func") (codes "case") refl ts))
  where
    head_is : (a b : Token) (us vs : List Token) → a ∷ us ≡ b ∷ vs → a ≡ b
    head_is a b us vs e = cc

    clash : {A : Type 0} (f : TokenKind → Option A) → is_some (f (kind.Reserved (codes "case"))) ≡ false → Front (λ k. is_some (f k) ≡ true) ts → starts (a_word (codes "case")) ts ≡ true → ⊥
    clash f off front on =
        let s = sees_word (codes "case") ts on in
        let same : front.token ≡ s.token = head_is front.token s.token front.rest s.rest (sym front.is ∙ s.is) in
        let kinds : front.token.kind ≡ kind.Reserved (codes "case") = ap (λ (t : Token). t.kind) same ∙ s.kind_is in
        let both : true ≡ false = sym front.kind_is ∙ ap (λ k. is_some (f k)) kinds ∙ off in
        cc

    case_or : (b : Bool) → starts (a_word (codes "case")) ts ≡ b → (b ≡ true → ⊥) → starts (a_word (codes "case")) ts ≡ false
    case_or true is h = absurd (h refl)
    case_or false is h = is

    no_case : {A : Type 0} (f : TokenKind → Option A) → is_some (f (kind.Reserved (codes "case"))) ≡ false → Front (λ k. is_some (f k) ≡ true) ts → starts (a_word (codes "case")) ts ≡ false
    no_case f off front = case_or (starts (a_word (codes "case")) ts) refl (λ on. clash f off front on)
