-- What a test of the tokens ahead says of the first of them.
use Rattle.std.proofs.Common.{◌≡◌, ℕ, Bool, true, false, not, ◌&&◌, List, [], ◌∷◌, refl, ap, codes}
use Rattle.std.specs.Prelude.{Option, Some, None, is_some}
use Rattle.std.proofs.lemmas.Slice.Eq.{bytes_eq-Decides}
use Rattle.swift_lex.specs.declared.token.Token.{Token}
use Rattle.swift_lex.specs.declared.token.TokenKind.{TokenKind}
use Rattle.swift_lex.specs.declared.token.TokenKind.TheVariants as kind
use Rattle.swift_lex.specs.declared.token.Gap.{Gap}
use Rattle.swift_lex.specs.declared.token.Gap.TheVariants as gap
use Rattle.parse_base.specs.Tokens.{sign_of, is_sign, new_line_by, reserved_of, is_reserved, attribute_of, directive_of, opens_string, opens_hole, closes_string}
use Rattle.parse_base.specs.Parser.{starts}
use Rattle.parse_base.specs.Terminals.{only_if, when, a_sign, a_word, an_attribute, a_directive, name_by, a_name, text_by, a_text, string_open, hole_open, string_close, on_line, sign_next, word_next, label_ahead}

-- a token of this kind stands at the front
pub record Sees (k : TokenKind) (ts : List Token) : Type 0 where
  pub token : Token
  pub rest : List Token
  pub is : ts ≡ token ∷ rest
  pub kind_is : token.kind ≡ k

-- ---- truth values

pub only_some : {A : Type 0} (b : Bool) (x y : A) → only_if b x ≡ Some y → b ≡ true
only_some true x y e = refl
only_some false x y e = absurd cc

pub some_only : {A : Type 0} (b : Bool) (x : A) → is_some (only_if b x) ≡ true → b ≡ true
some_only true x e = refl
some_only false x e = e

pub not_true : (b : Bool) → not b ≡ true → b ≡ false
not_true true e = absurd cc
not_true false e = refl

pub no_true : false ≡ true → ⊥
no_true e = cc

pub and_first : (a b : Bool) → (a && b) ≡ true → a ≡ true
and_first true b e = refl
and_first false b e = absurd cc

pub and_second : (a b : Bool) → (a && b) ≡ true → b ≡ true
and_second true b e = e
and_second false b e = absurd cc

pub and_both : (a b : Bool) → a ≡ true → b ≡ true → (a && b) ≡ true
and_both a b e f = rw (e, f) refl

pub and_false : (a : Bool) → (a && false) ≡ false
and_false true = refl
and_false false = refl

pub when_some : {A : Type 0} (o : Option A) (b : Bool) → is_some (when o b) ≡ true → (is_some o ≡ true) × (b ≡ true)
when_some (Some x) b e = (refl, some_only b x e)
when_some None b e = absurd cc

-- ---- kinds

pub sign_is : (w : List ℕ) (k : TokenKind) → sign_of w k ≡ true → k ≡ kind.Sign w
sign_is w (kind.Sign v) e = ap (λ x. kind.Sign x) ((bytes_eq-Decides v w).0 e)
sign_is w (kind.Name v) e = absurd cc
sign_is w (kind.Dollar v) e = absurd cc
sign_is w (kind.AtName v) e = absurd cc
sign_is w (kind.HashName v) e = absurd cc
sign_is w (kind.Reserved v) e = absurd cc
sign_is w (kind.Int v) e = absurd cc
sign_is w kind.StrOpen e = absurd cc
sign_is w (kind.StrText v) e = absurd cc
sign_is w kind.StrHole e = absurd cc
sign_is w kind.StrClose e = absurd cc

pub word_is : (w : List ℕ) (k : TokenKind) → reserved_of w k ≡ true → k ≡ kind.Reserved w
word_is w (kind.Reserved v) e = ap (λ x. kind.Reserved x) ((bytes_eq-Decides v w).0 e)
word_is w (kind.Sign v) e = absurd cc
word_is w (kind.Name v) e = absurd cc
word_is w (kind.Dollar v) e = absurd cc
word_is w (kind.AtName v) e = absurd cc
word_is w (kind.HashName v) e = absurd cc
word_is w (kind.Int v) e = absurd cc
word_is w kind.StrOpen e = absurd cc
word_is w (kind.StrText v) e = absurd cc
word_is w kind.StrHole e = absurd cc
word_is w kind.StrClose e = absurd cc

pub attribute_is : (w : List ℕ) (k : TokenKind) → attribute_of w k ≡ true → k ≡ kind.AtName w
attribute_is w (kind.AtName v) e = ap (λ x. kind.AtName x) ((bytes_eq-Decides v w).0 e)
attribute_is w (kind.Reserved v) e = absurd cc
attribute_is w (kind.Sign v) e = absurd cc
attribute_is w (kind.Name v) e = absurd cc
attribute_is w (kind.Dollar v) e = absurd cc
attribute_is w (kind.HashName v) e = absurd cc
attribute_is w (kind.Int v) e = absurd cc
attribute_is w kind.StrOpen e = absurd cc
attribute_is w (kind.StrText v) e = absurd cc
attribute_is w kind.StrHole e = absurd cc
attribute_is w kind.StrClose e = absurd cc

pub directive_is : (w : List ℕ) (k : TokenKind) → directive_of w k ≡ true → k ≡ kind.HashName w
directive_is w (kind.HashName v) e = ap (λ x. kind.HashName x) ((bytes_eq-Decides v w).0 e)
directive_is w (kind.AtName v) e = absurd cc
directive_is w (kind.Reserved v) e = absurd cc
directive_is w (kind.Sign v) e = absurd cc
directive_is w (kind.Name v) e = absurd cc
directive_is w (kind.Dollar v) e = absurd cc
directive_is w (kind.Int v) e = absurd cc
directive_is w kind.StrOpen e = absurd cc
directive_is w (kind.StrText v) e = absurd cc
directive_is w kind.StrHole e = absurd cc
directive_is w kind.StrClose e = absurd cc

-- a kind that is a name, and its spelling
pub name_kind : (k : TokenKind) → is_some (name_by k) ≡ true → (w : List ℕ) × (k ≡ kind.Name w)
name_kind (kind.Name w) e = (w, refl)
name_kind (kind.Dollar v) e = absurd cc
name_kind (kind.AtName v) e = absurd cc
name_kind (kind.HashName v) e = absurd cc
name_kind (kind.Reserved v) e = absurd cc
name_kind (kind.Sign v) e = absurd cc
name_kind (kind.Int v) e = absurd cc
name_kind kind.StrOpen e = absurd cc
name_kind (kind.StrText v) e = absurd cc
name_kind kind.StrHole e = absurd cc
name_kind kind.StrClose e = absurd cc

text_kind : (k : TokenKind) → is_some (text_by k) ≡ true → (w : List ℕ) × (k ≡ kind.StrText w)
text_kind (kind.StrText w) e = (w, refl)
text_kind (kind.Name w) e = absurd cc
text_kind (kind.Dollar v) e = absurd cc
text_kind (kind.AtName v) e = absurd cc
text_kind (kind.HashName v) e = absurd cc
text_kind (kind.Reserved v) e = absurd cc
text_kind (kind.Sign v) e = absurd cc
text_kind (kind.Int v) e = absurd cc
text_kind kind.StrOpen e = absurd cc
text_kind kind.StrHole e = absurd cc
text_kind kind.StrClose e = absurd cc

opens_is : (k : TokenKind) → opens_string k ≡ true → k ≡ kind.StrOpen
opens_is kind.StrOpen e = refl
opens_is (kind.Name w) e = absurd cc
opens_is (kind.Dollar v) e = absurd cc
opens_is (kind.AtName v) e = absurd cc
opens_is (kind.HashName v) e = absurd cc
opens_is (kind.Reserved v) e = absurd cc
opens_is (kind.Sign v) e = absurd cc
opens_is (kind.Int v) e = absurd cc
opens_is (kind.StrText v) e = absurd cc
opens_is kind.StrHole e = absurd cc
opens_is kind.StrClose e = absurd cc

hole_is : (k : TokenKind) → opens_hole k ≡ true → k ≡ kind.StrHole
hole_is kind.StrHole e = refl
hole_is (kind.Name w) e = absurd cc
hole_is (kind.Dollar v) e = absurd cc
hole_is (kind.AtName v) e = absurd cc
hole_is (kind.HashName v) e = absurd cc
hole_is (kind.Reserved v) e = absurd cc
hole_is (kind.Sign v) e = absurd cc
hole_is (kind.Int v) e = absurd cc
hole_is (kind.StrText v) e = absurd cc
hole_is kind.StrOpen e = absurd cc
hole_is kind.StrClose e = absurd cc

closes_is : (k : TokenKind) → closes_string k ≡ true → k ≡ kind.StrClose
closes_is kind.StrClose e = refl
closes_is (kind.Name w) e = absurd cc
closes_is (kind.Dollar v) e = absurd cc
closes_is (kind.AtName v) e = absurd cc
closes_is (kind.HashName v) e = absurd cc
closes_is (kind.Reserved v) e = absurd cc
closes_is (kind.Sign v) e = absurd cc
closes_is (kind.Int v) e = absurd cc
closes_is (kind.StrText v) e = absurd cc
closes_is kind.StrOpen e = absurd cc
closes_is kind.StrHole e = absurd cc

pub gap_is : (g : Gap) → new_line_by g ≡ true → g ≡ gap.NewLine
gap_is gap.NewLine e = refl
gap_is gap.Joined e = absurd cc
gap_is gap.Spaced e = absurd cc

-- ---- the first token

pub sees : (w : List ℕ) (ts : List Token) → starts (a_sign w) ts ≡ true → Sees (kind.Sign w) ts
unfolding starts
sees w [] e = absurd cc
sees w (t ∷ ts) e = record { token = t; rest = ts; is = refl; kind_is = sign_is w t.kind (some_only (is_sign w t) tt e) }

pub sees_word : (w : List ℕ) (ts : List Token) → starts (a_word w) ts ≡ true → Sees (kind.Reserved w) ts
unfolding starts
sees_word w [] e = absurd cc
sees_word w (t ∷ ts) e = record { token = t; rest = ts; is = refl; kind_is = word_is w t.kind (some_only (is_reserved w t) tt e) }

pub sees_on_line : (w : List ℕ) (ts : List Token) → starts (on_line w) ts ≡ true → Sees (kind.Sign w) ts
unfolding starts
sees_on_line w [] e = absurd cc
sees_on_line w (t ∷ ts) e = record { token = t; rest = ts; is = refl; kind_is = sign_is w t.kind (and_first (is_sign w t) _ (some_only _ tt e)) }

pub sees_attribute : (w : List ℕ) (ts : List Token) → starts (an_attribute w) ts ≡ true → Sees (kind.AtName w) ts
unfolding starts
sees_attribute w [] e = absurd cc
sees_attribute w (t ∷ ts) e = record { token = t; rest = ts; is = refl; kind_is = attribute_is w t.kind (some_only _ tt e) }

pub sees_directive : (w : List ℕ) (ts : List Token) → starts (a_directive w) ts ≡ true → Sees (kind.HashName w) ts
unfolding starts
sees_directive w [] e = absurd cc
sees_directive w (t ∷ ts) e = record { token = t; rest = ts; is = refl; kind_is = directive_is w t.kind (some_only _ tt e) }

pub sees_open : (ts : List Token) → starts string_open ts ≡ true → Sees kind.StrOpen ts
unfolding starts
sees_open [] e = absurd cc
sees_open (t ∷ ts) e = record { token = t; rest = ts; is = refl; kind_is = opens_is t.kind (some_only _ tt e) }

pub sees_hole : (ts : List Token) → starts hole_open ts ≡ true → Sees kind.StrHole ts
unfolding starts
sees_hole [] e = absurd cc
sees_hole (t ∷ ts) e = record { token = t; rest = ts; is = refl; kind_is = hole_is t.kind (some_only _ tt e) }

pub sees_close : (ts : List Token) → starts string_close ts ≡ true → Sees kind.StrClose ts
unfolding starts
sees_close [] e = absurd cc
sees_close (t ∷ ts) e = record { token = t; rest = ts; is = refl; kind_is = closes_is t.kind (some_only _ tt e) }

-- a name stands at the front
pub record SeesName (ts : List Token) : Type 0 where
  pub word : List ℕ
  pub token : Token
  pub rest : List Token
  pub is : ts ≡ token ∷ rest
  pub kind_is : token.kind ≡ kind.Name word

pub sees_name : (ts : List Token) → starts a_name ts ≡ true → SeesName ts
unfolding starts
sees_name [] e = absurd cc
sees_name (t ∷ ts) e = let k = name_kind t.kind e in record { word = k.0; token = t; rest = ts; is = refl; kind_is = k.1 }

-- a run of text stands at the front
pub record SeesText (ts : List Token) : Type 0 where
  pub word : List ℕ
  pub token : Token
  pub rest : List Token
  pub is : ts ≡ token ∷ rest
  pub kind_is : token.kind ≡ kind.StrText word

pub sees_text : (ts : List Token) → starts a_text ts ≡ true → SeesText ts
unfolding starts
sees_text [] e = absurd cc
sees_text (t ∷ ts) e = let k = text_kind t.kind e in record { word = k.0; token = t; rest = ts; is = refl; kind_is = k.1 }

-- ---- the first two tokens

-- a name and ":"
pub record SeesLabel (ts : List Token) : Type 0 where
  pub token : Token
  pub colon : Token
  pub rest : List Token
  pub is : ts ≡ token ∷ colon ∷ rest
  pub name : List ℕ
  pub name_is : token.kind ≡ kind.Name name
  pub colon_is : colon.kind ≡ kind.Sign (codes ":")

pub sees_label : (ts : List Token) → label_ahead ts ≡ true → SeesLabel ts
unfolding label_ahead starts
sees_label [] e = absurd cc
sees_label (t ∷ []) e = absurd (no_true (and_second (is_some (name_by t.kind)) false e))
sees_label (t ∷ u ∷ us) e =
    let w = name_kind t.kind (and_first _ _ e) in
    let c = and_second (is_some (name_by t.kind)) (is_some (only_if (is_sign (codes ":") u) tt)) e in
    record { token = t; colon = u; rest = us; is = refl; name = w.0; name_is = w.1; colon_is = sign_is (codes ":") u.kind (some_only _ tt c) }

-- the second token is this sign
pub record SeesSecond (k : TokenKind) (ts : List Token) : Type 0 where
  pub token : Token
  pub second : Token
  pub rest : List Token
  pub is : ts ≡ token ∷ second ∷ rest
  pub kind_is : second.kind ≡ k

pub sees_sign_next : (w : List ℕ) (ts : List Token) → sign_next w ts ≡ true → SeesSecond (kind.Sign w) ts
unfolding starts
sees_sign_next w [] e = absurd cc
sees_sign_next w (t ∷ []) e = absurd cc
sees_sign_next w (t ∷ u ∷ us) e = record { token = t; second = u; rest = us; is = refl; kind_is = sign_is w u.kind (some_only _ tt e) }

pub sees_word_next : (w : List ℕ) (ts : List Token) → word_next w ts ≡ true → SeesSecond (kind.Reserved w) ts
unfolding starts
sees_word_next w [] e = absurd cc
sees_word_next w (t ∷ []) e = absurd cc
sees_word_next w (t ∷ u ∷ us) e = record { token = t; second = u; rest = us; is = refl; kind_is = word_is w u.kind (some_only _ tt e) }
