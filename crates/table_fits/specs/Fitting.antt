-- The completed table is one that fits: each case is one of its enum's by number, and nil is an initial value of optionals alone.
use Rattle.std.specs.Prelude.{◌≡◌, ℕ, ◌<◌, Bool, true, false, List, [], ◌∷◌, Some, None, length, slice_get}
use Rattle.std.proofs.Common.{refl, sym, ap, subst, ◌∙◌, arith}
use Rattle.std.proofs.lemmas.Option.{slice_get_within}
use Rattle.swift_ast.specs.declared.piece.Member.{Member}
use Rattle.swift_ast.specs.declared.piece.Piece.{Piece}
use Rattle.swift_ast.specs.declared.piece.PieceForm.{PieceForm}
use Rattle.swift_ast.specs.declared.piece.PieceForm.TheVariants as piece
use Rattle.swift_ast.specs.declared.piece.Source.{Source}
use Rattle.swift_ast.specs.declared.piece.StructBody.{StructBody}
use Rattle.swift_ast.specs.declared.piece.StructBody.TheVariants.{Members, LeftAside}
use Rattle.swift_ast.specs.declared.piece.StructPiece.{StructPiece}
use Rattle.swift_ast.specs.declared.type_name.TypeName.{TypeName, out-TypeName}
use Rattle.swift_ast.specs.declared.type_name.TypeName.TheOpen.{TypeName-F}
use Rattle.swift_core.specs.Programs.{InItsPlace, cases_in, cases_of}
use Rattle.swift_core.specs.Types.{inside_at}
use Rattle.swift_core.specs.declared.table.Declaration.{Declaration}
use Rattle.swift_core.specs.declared.table.Kind.{Kind}
use Rattle.swift_core.specs.declared.table.Kind.TheVariants as kind
use Rattle.swift_core.specs.declared.table.Signature.{Signature}
use Rattle.swift_core.specs.declared.table.SignatureForm.{SignatureForm}
use Rattle.swift_core.specs.declared.table.SignatureForm.TheVariants as form
use Rattle.swift_core.specs.declared.table.Table.{Table}
use Rattle.swift_core.specs.declared.ty.Ty.{Ty, out-Ty}
use Rattle.member_forms.specs.Roles.{role_of}
use Rattle.member_forms.specs.Whole.{sort_of}
use Rattle.type_table.specs.Heads.{heads_table, next_key}
use Rattle.type_table.specs.Tables.{first_code, struct_declaration, declarations_at, table_of}
use Rattle.known_rules.specs.Known.{completed}
use Rattle.expr_cores.specs.Contexts.{CasesFit, NilsFit, Fits}
use Rattle.table_names.specs.Lists.{get_middle}
use Rattle.table_names.specs.Pieces.{declared_by, made_struct, made_enum}
use Rattle.table_places.specs.Places.{input_number, slot_number, enum_has_none, places_stand, cases_counted}
use Rattle.table_places.specs.Members.{of_member, nil_form, form_type, written_name, member_signed, signed_optional, part_nil, false_true}
use Rattle.table_fits.specs.Nils.{KeepsNils, completed_keeps}
use Rattle.table_fits.specs.Fills.{completed_is}
use Rattle.table_names.specs.Tables.{IsTableOf, IsSmall}

-- ---- what is asked of the source file and its completed table

-- an optional type in a stored member of this piece is written with one `?` at least
abbrev pub Signed : PieceForm → Type 0
Signed f = (struct : StructPiece) (members : List Member) (at : ℕ) (written : Member) (name inside : TypeName) (signs : ℕ)
    → f ≡ piece.Struct struct → struct.body ≡ Members members → slice_get members at ≡ Some written → written_name written.form ≡ Some name
    → out-TypeName name ≡ TypeName-F.Optional inside signs → 0 < signs

-- an optional type is written with one `?` at least, as the grammar has it
abbrev pub TypesSigned : Source → Type 0
TypesSigned source = (i : ℕ) (p : Piece) → slice_get source.pieces i ≡ Some p → Signed p.form

-- each property that starts with nil has a type
abbrev pub NilsTyped : Table → Type 0
NilsTyped table = (d at : ℕ) (declaration : Declaration) (s : Signature) → slice_get table.declarations d ≡ Some declaration → slice_get declaration.members at ≡ Some s
    → nil_form s.form ≡ true → (t : Ty) × (form_type s.form ≡ Some t)

-- ---- cases

case_of_enum : (k : Kind) (place : ℕ) → place < cases_in k → (names_all : Bool) × ((cases : ℕ) × (k ≡ kind.Enum names_all cases) × (place < cases))
case_of_enum (kind.Enum names_all cases) place lt = (names_all, (cases, refl, lt))
case_of_enum (kind.Data b) place lt = absurd (omega arith)
case_of_enum kind.View place lt = absurd (omega arith)
case_of_enum kind.App place lt = absurd (omega arith)
case_of_enum (kind.Key k) place lt = absurd (omega arith)

pub cases_fit : (source : Source) (table : Table) → IsTableOf source table → IsSmall table → CasesFit table
cases_fit source table is small d at place declaration s e h f =
    let p = subst (InItsPlace declaration.members s.code s.name) f (places_stand source table is small d declaration at s e h) in
    let lt = slice_get_within (cases_of declaration.members) place s.name p in
    let c = cases_counted source table is small d declaration e in
    case_of_enum declaration.kind place (omega (arith, lt, c))

-- ---- nil

no_nil_none : (f : SignatureForm) → input_number f ≡ None → slot_number f ≡ None → nil_form f ≡ false
no_nil_none (form.Stored n b t a) e h = cc
no_nil_none (form.State n t a) e h = cc
no_nil_none (form.Binding n t) e h = refl
no_nil_none (form.Static t) e h = refl
no_nil_none (form.Environment n) e h = refl
no_nil_none (form.Case n) e h = refl
no_nil_none (form.Computed t) e h = refl
no_nil_none (form.Function ps t m) e h = refl
no_nil_none form.BuilderProperty e h = refl
no_nil_none (form.BuilderFunction ps) e h = refl
no_nil_none form.Reduce e h = refl
no_nil_none form.Unfit e h = refl

abbrev IsOptional : Ty → Type 0
IsOptional t = (u : Ty) × (inside_at (out-Ty t) ≡ Some u)

struct_optional : (heads : Table) (first key : ℕ) (p : StructPiece) (b : StructBody) (d : Declaration) (at : ℕ) (s : Signature) (t : Ty) → p.body ≡ b → Signed (piece.Struct p)
    → struct_declaration heads first key p b ≡ d ∷ [] → slice_get d.members at ≡ Some s → nil_form s.form ≡ true → form_type s.form ≡ Some t → IsOptional t
struct_optional heads first key p LeftAside d at s t body signed e h n f = cc
struct_optional heads first key p (Members ms) d at s t body signed e h n f =
    let k : made_struct heads first key p ms ≡ d = cc in
    let m = of_member heads first (sort_of p.names) ms at s (ap (λ (x : Declaration). slice_get x.members at) k ∙ h) in
    let w = member_signed heads m.inputs m.slots (role_of (sort_of p.names) m.written) m.written.modifiers m.written.form (ap nil_form (sym m.form_is) ∙ n) in
    signed_optional heads w.0 (form_type s.form) t
    (record { inside = w.2.inside; signs = w.2.signs; is = w.2.is; type_is = ap form_type m.form_is ∙ w.2.type_is })
    (signed p ms at m.written w.0 w.2.inside w.2.signs refl body m.stands w.1 w.2.is) f

piece_optional : (heads : Table) (first key : ℕ) (x : PieceForm) (d : Declaration) (at : ℕ) (s : Signature) (t : Ty) → Signed x
    → declarations_at heads first key x ≡ d ∷ [] → slice_get d.members at ≡ Some s → nil_form s.form ≡ true → form_type s.form ≡ Some t → IsOptional t
piece_optional heads first key (piece.Struct p) d at s t signed e h n f = struct_optional heads first key p p.body d at s t refl signed e h n f
piece_optional heads first key (piece.Enum p) d at s t signed e h n f =
    let k : made_enum heads first p ≡ d = cc in
    let m = enum_has_none heads first p.items at s (ap (λ (x : Declaration). slice_get x.members at) k ∙ h) in
    false_true (no_nil_none s.form m.0 m.1) n
piece_optional heads first key (piece.Import w) d at s t signed e h n f = cc
piece_optional heads first key (piece.Environment es) d at s t signed e h n f = cc
piece_optional heads first key (piece.Preview w) d at s t signed e h n f = cc

-- what starts with nil in the table of what is written has no type but an optional
written_optional : (source : Source) (d at : ℕ) (declaration : Declaration) (s : Signature) (t : Ty) → TypesSigned source → slice_get (table_of source).declarations d ≡ Some declaration
    → slice_get declaration.members at ≡ Some s → nil_form s.form ≡ true → form_type s.form ≡ Some t → IsOptional t
written_optional source d at declaration s t signed e h n f =
    let by = declared_by source d declaration e in
    let there : slice_get source.pieces (length by.before) ≡ Some by.one = ap (λ ps. slice_get ps (length by.before)) by.split ∙ get_middle by.before by.after by.one in
    piece_optional (heads_table source.pieces) (first_code by.before) (next_key by.before) by.one.form declaration at s t (signed (length by.before) by.one there) by.is h n f

pub nils_fit : (source : Source) (table : Table) → KeepsNils (table_of source) table → TypesSigned source → NilsTyped table
    → (d : ℕ) (declaration : Declaration) → slice_get table.declarations d ≡ Some declaration → NilsFit declaration.members
nils_fit source table keeps signed typed d declaration e at s p h part n =
    let q = part_nil s.code s.form p part n in
    let k = keeps d at declaration s e h q.0 in
    let t = typed d at declaration s e h q.0 in
    let o = written_optional source d at k.declaration k.signature t.0 signed k.declared k.stands (ap nil_form (sym k.is) ∙ q.0) (ap form_type (sym k.is) ∙ t.1) in
    (t.0, q.1 ∙ t.1, o)

-- The completed table fits, where declarations, members and keys are few, optionals are written with a `?`, and each property that
-- starts with nil has a type.
abbrev pub CompletedFits : Type 0
CompletedFits = (source : Source) → IsSmall (completed source (table_of source)) → TypesSigned source → NilsTyped (completed source (table_of source))
    → Fits (completed source (table_of source))

pub completed_fits : CompletedFits
completed_fits source small signed typed =
    let table = completed source (table_of source) in
    record { cases = cases_fit source table (completed_is source) small; nils = nils_fit source table (completed_keeps source) signed typed }
