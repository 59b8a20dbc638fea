-- In what the grammar spells an optional type has one `?` at least.
use Rattle.std.specs.Prelude.{◌≡◌, ℕ, zero, suc, ◌+◌, ◌<◌, Bool, true, false, List, [], ◌∷◌, Option, Some, None, length, slice_get}
use Rattle.std.proofs.Common.{sym, ap, subst, ◌∙◌, arith, inl, inr}
use Rattle.swift_lex.specs.declared.token.Token.{Token}
use Rattle.swift_ast.specs.declared.span.Span.{Span}
use Rattle.swift_ast.specs.declared.piece.Member.{Member}
use Rattle.swift_ast.specs.declared.piece.MemberForm.{MemberForm}
use Rattle.swift_ast.specs.declared.piece.Piece.{Piece}
use Rattle.swift_ast.specs.declared.piece.PieceForm.{PieceForm}
use Rattle.swift_ast.specs.declared.piece.PieceForm.TheVariants as piece_form
use Rattle.swift_ast.specs.declared.piece.Source.{Source}
use Rattle.swift_ast.specs.declared.piece.StructBody.{StructBody}
use Rattle.swift_ast.specs.declared.piece.StructBody.TheVariants as struct_body
use Rattle.swift_ast.specs.declared.piece.StructPiece.{StructPiece}
use Rattle.swift_ast.specs.declared.type_name.TypeName.{TypeName, out-TypeName}
use Rattle.swift_ast.specs.declared.type_name.TypeName.TheOpen.{TypeName-F}
use Rattle.swift_ast.specs.declared.type_name.TypeName.TheVariants as type
use Rattle.swift_ast.specs.declared.type_name.TypeName.TheViews as type_view
use Rattle.parse_base.specs.Language.{Language, Both, Then, Made, Spanned, Either, Many, Perhaps}
use Rattle.parse_base.specs.Spans.{span_of}
use Rattle.parse_terms.specs.Trees.{optional_by}
use Rattle.parse_terms.specs.Types.{ListType, BracketedType, PlainType, TypeOf, NestedType, SpellsType}
use Rattle.swift_parse.specs.Words.{stored, member, piece, struct_piece, has_preview}
use Rattle.swift_parse.specs.Below.{Languages, languages}
use Rattle.swift_parse.specs.Grammar.{Declared, Import, LeftAside, Stored, Computed, Function, FormOf, Preview, MemberOf, MemberLine, Members, body_by, Body, Struct, Enum, Entries, PieceForms, PieceOf}
use Rattle.swift_parse.specs.File.{Spells, SpellsPiece, SpellsPieces}
use Rattle.table_places.specs.Members.{written_name}
use Rattle.table_fits.specs.Fitting.{Signed, TypesSigned}

-- ---- languages that spell only what passes

record Gives {A : Type 0} (P : A → Type 0) (R : Language A) : Type 0 where
  of : (ts : List Token) (x : A) (rest : List Token) → R ts x rest → P x

abbrev Anything : {A : Type 0} → A → Type 0
Anything x = Unit {0}

any_gives : {A : Type 0} {R : Language A} → Gives Anything R
any_gives = record { of = λ ts x rest w. tt }

made_gives : {A B : Type 0} {P : A → Type 0} {Q : B → Type 0} {R : Language A} (f : A → B) → Gives P R → ((x : A) → P x → Q (f x)) → Gives Q (Made f R)
unfolding Made
made_gives {Q = Q} f k h = record { of = λ ts y rest w. subst Q (sym w.2) (h w.0 (k.of ts w.0 rest w.1)) }

spanned_gives : {A B : Type 0} {P : A → Type 0} {Q : B → Type 0} {R : Language A} (total : ℕ) (f : Span → A → B) → Gives P R → ((s : Span) (x : A) → P x → Q (f s x)) → Gives Q (Spanned total f R)
unfolding Spanned
spanned_gives {Q = Q} total f k h = record { of = λ ts y rest w. subst Q (sym w.2) (h (span_of total ts rest) w.0 (k.of ts w.0 rest w.1)) }

both_gives : {A B : Type 0} {P : A → Type 0} {Q : B → Type 0} {R : Language A} {S : Language B} → Gives P R → Gives Q S → Gives (λ (x : A × B). P x.0 × Q x.1) (Both R S)
unfolding Both
both_gives h k = record { of = λ ts x rest w. (h.of ts x.0 w.0 w.1, k.of w.0 x.1 rest w.2) }

then_gives : {A B : Type 0} {P : A → Type 0} {Q : B → Type 0} {R : Language A} {S : A → Language B} → Gives P R → ((x : A) → Gives Q (S x)) → Gives (λ (x : A × B). P x.0 × Q x.1) (Then R S)
unfolding Then
then_gives h k = record { of = λ ts x rest w. (h.of ts x.0 w.0 w.1, (k x.0).of w.0 x.1 rest w.2) }

either_gives : {A : Type 0} {P : A → Type 0} {R S : Language A} → Gives P R → Gives P S → Gives P (Either R S)
unfolding Either
either_gives {P = P} {R = R} {S = S} h k = record { of = λ ts x rest w. elim w [ inl v ↦ h.of ts x rest v | inr v ↦ k.of ts x rest v ] }

abbrev EachSo : {A : Type 0} → (A → Type 0) → List A → Type 0
EachSo {A = A} P xs = (i : ℕ) (x : A) → slice_get xs i ≡ Some x → P x

many_give : {A : Type 0} {P : A → Type 0} {R : Language A} → Gives P R → (ts : List Token) (xs : List A) (rest : List Token) → Many R ts xs rest → EachSo P xs
unfolding Many
many_give k ts [] rest w i x e = cc
many_give {P = P} k ts (y ∷ ys) rest w zero x e = let h : y ≡ x = cc in subst P h (k.of ts y w.0 w.1)
many_give k ts (y ∷ ys) rest w (suc i) x e = many_give k w.0 ys rest w.2 i x e

many_gives : {A : Type 0} {P : A → Type 0} {R : Language A} → Gives P R → Gives (EachSo P) (Many R)
many_gives k = record { of = many_give k }

abbrev IfSo : {A : Type 0} → (A → Type 0) → Option A → Type 0
IfSo {A = A} P o = (x : A) → o ≡ Some x → P x

perhaps_give : {A : Type 0} {P : A → Type 0} {R : Language A} → Gives P R → (ts : List Token) (o : Option A) (rest : List Token) → Perhaps R ts o rest → IfSo P o
unfolding Perhaps
perhaps_give k ts None rest w x e = cc
perhaps_give {P = P} k ts (Some y) rest w x e = let h : y ≡ x = cc in subst P h (k.of ts y rest w)

perhaps_gives : {A : Type 0} {P : A → Type 0} {R : Language A} → Gives P R → Gives (IfSo P) (Perhaps R)
perhaps_gives k = record { of = perhaps_give k }

-- ---- types

abbrev SignedName : TypeName → Type 0
SignedName t = (inside : TypeName) (signs : ℕ) → out-TypeName t ≡ TypeName-F.Optional inside signs → 0 < signs

name_signed : (w : List ℕ) → SignedName (type.Name w)
name_signed w inside signs e = let k : ◌≡◌ {A = TypeName-F TypeName} (TypeName-F.Name w) (TypeName-F.Optional inside signs) = sym (type_view.outs-Name w) ∙ e in cc

list_signed : (t : TypeName) → SignedName (type.List t)
list_signed t inside signs e = let k : ◌≡◌ {A = TypeName-F TypeName} (TypeName-F.List t) (TypeName-F.Optional inside signs) = sym (type_view.outs-List t) ∙ e in cc

optional_signed : (t : TypeName) (n : ℕ) → SignedName t → SignedName (optional_by t n)
optional_signed t zero h inside signs e = h inside signs e
optional_signed t (suc n) h inside signs e =
    let k : ◌≡◌ {A = TypeName-F TypeName} (TypeName-F.Optional t (suc n)) (TypeName-F.Optional inside signs) = sym (type_view.outs-Optional t (suc n)) ∙ e in
    let s : suc n ≡ signs = cc in
    omega (arith, s)

nested_signed : (n : ℕ) → Gives SignedName (NestedType n)
unfolding NestedType TypeOf PlainType ListType BracketedType
nested_signed zero = record { of = λ ts x rest w. absurd w }
nested_signed (suc n) =
    made_gives (λ x. optional_by x.0 x.1)
    (both_gives (either_gives (made_gives type.Name any_gives (λ x u. name_signed x))
    (either_gives (made_gives (λ x. type.List x.1.0) any_gives (λ x u. list_signed x.1.0))
    (made_gives (λ x. x.1.0) (both_gives any_gives (both_gives (nested_signed n) any_gives)) (λ x h. h.1.0)))) any_gives)
    (λ x h. optional_signed x.0 x.1 h.0)

type_signed : Gives SignedName SpellsType
unfolding SpellsType
type_signed = record { of = λ ts x rest w. (nested_signed w.0).of ts x rest w.1 }

declared_signed : Gives (IfSo SignedName) Declared
unfolding Declared
declared_signed = perhaps_gives (made_gives (λ x. x.1) (both_gives any_gives type_signed) (λ x h. h.1))

-- ---- members

abbrev FormSigned : MemberForm → Type 0
FormSigned f = IfSo SignedName (written_name f)

abbrev MemberSigned : Member → Type 0
MemberSigned m = FormSigned m.form

abbrev BodySigned : StructBody → Type 0
BodySigned b = (ms : List Member) → b ≡ struct_body.Members ms → EachSo MemberSigned ms

members_signed : (ms : List Member) → EachSo MemberSigned ms → BodySigned (struct_body.Members ms)
members_signed ms h ns e = let k : ms ≡ ns = cc in subst (EachSo MemberSigned) k h

aside_signed : BodySigned struct_body.LeftAside
aside_signed ms e = cc

abbrev IsStruct : PieceForm → Type 0
IsStruct f = (p : StructPiece) × (f ≡ piece_form.Struct p)

no_struct : (f : PieceForm) → (IsStruct f → ⊥) → Signed f
no_struct f h struct ms at w name inside signs e b s n o = absurd (h (struct, e))

struct_signed : (p : StructPiece) → BodySigned p.body → Signed (piece_form.Struct p)
struct_signed p h struct ms at w name inside signs e b s n o =
    let k : p ≡ struct = cc in
    h ms (ap (λ (x : StructPiece). x.body) k ∙ b) at w s name n inside signs o

module _ (total : ℕ) where
  form_signed : (L : Languages) → Gives FormSigned (FormOf L)
  unfolding FormOf Stored Computed Function
  form_signed L =
      either_gives (made_gives stored (both_gives any_gives (both_gives any_gives (both_gives declared_signed any_gives))) (λ x h. h.1.1.0))
      (either_gives (made_gives _ any_gives (λ x u name e. cc)) (made_gives _ any_gives (λ x u name e. cc)))

  line_signed : (L : Languages) → Gives MemberSigned (MemberLine total L)
  unfolding MemberLine MemberOf
  line_signed L = made_gives (λ x. x.0) (both_gives (spanned_gives total member (both_gives any_gives (form_signed L)) (λ s x h. h.1)) any_gives) (λ x h. h.0)

  body_signed : (L : Languages) (b : Bool) → Gives BodySigned (body_by total L b)
  unfolding body_by LeftAside Members
  body_signed L true = made_gives (λ x. struct_body.LeftAside) any_gives (λ x u. aside_signed)
  body_signed L false = made_gives (λ x. struct_body.Members x.1.0) (both_gives any_gives (both_gives (many_gives (line_signed L)) any_gives)) (λ x h. members_signed x.1.0 h.1.0)

  structs_signed : (L : Languages) → Gives Signed (Struct total L)
  unfolding Struct Body
  structs_signed L =
      made_gives struct_piece (both_gives any_gives (both_gives any_gives (both_gives any_gives (both_gives any_gives (then_gives any_gives (λ names. body_signed L (has_preview names)))))))
      (λ x h. struct_signed _ h.1.1.1.1.1)

  import_signed : Gives Signed Import
  unfolding Import
  import_signed = made_gives (λ x. piece_form.Import x.1) any_gives (λ x u. no_struct (piece_form.Import x.1) (λ s. let e = s.1 in cc))

  enum_signed : (L : Languages) → Gives Signed (Enum total L)
  unfolding Enum
  enum_signed L = made_gives _ any_gives (λ x u. no_struct _ (λ s. let e = s.1 in cc))

  entries_signed : (L : Languages) → Gives Signed (Entries total L)
  unfolding Entries
  entries_signed L = made_gives _ any_gives (λ x u. no_struct _ (λ s. let e = s.1 in cc))

  preview_signed : (L : Languages) → Gives Signed (Preview L)
  unfolding Preview
  preview_signed L = made_gives _ any_gives (λ x u. no_struct _ (λ s. let e = s.1 in cc))

  piece_signed : (L : Languages) → Gives (λ p. Signed p.form) (PieceOf total L)
  unfolding PieceOf PieceForms
  piece_signed L =
      spanned_gives total piece (either_gives import_signed (either_gives (structs_signed L) (either_gives (enum_signed L) (either_gives (entries_signed L) (preview_signed L))))) (λ s f h. h)

-- ---- files

pieces_signed : (before : ℕ) (pss : List (List Token)) (ps : List Piece) → SpellsPieces before pss ps → (i : ℕ) (p : Piece) → slice_get ps i ≡ Some p → Signed p.form
unfolding SpellsPiece
pieces_signed before [] [] w i p e = cc
pieces_signed before [] (x ∷ xs) w i p e = absurd w
pieces_signed before (ts ∷ tss) [] w i p e = cc
pieces_signed before (ts ∷ tss) (x ∷ xs) w zero p e =
    let h : x ≡ p = cc in subst (λ (y : Piece). Signed y.form) h ((piece_signed (before + length ts) (languages (before + length ts))).of ts x [] w.0)
pieces_signed before (ts ∷ tss) (x ∷ xs) w (suc i) p e = pieces_signed (before + length ts) tss xs w.1 i p e

pub types_signed : (ts : List Token) (source : Source) → Spells ts source → TypesSigned source
types_signed ts source s = pieces_signed 0 s.pieces source.pieces s.spelled
