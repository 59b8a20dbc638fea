-- Each declaration that fits its kind has a name.
use Rattle.std.specs.Prelude.{◌≡◌, ℕ, true, not, ◌&&◌, [], ◌∷◌, Some, length, codes, slice_get}
use Rattle.std.specs.Str.{bytes_eq}
use Rattle.std.proofs.Common.{refl, sym, ap, subst, ◌∙◌}
use Rattle.swift_ast.specs.declared.piece.EnumPiece.{EnumPiece}
use Rattle.swift_ast.specs.declared.piece.Piece.{Piece}
use Rattle.swift_ast.specs.declared.piece.PieceForm.{PieceForm}
use Rattle.swift_ast.specs.declared.piece.PieceForm.TheVariants as piece
use Rattle.swift_ast.specs.declared.piece.Source.{Source}
use Rattle.swift_ast.specs.declared.piece.StructBody.{StructBody}
use Rattle.swift_ast.specs.declared.piece.StructBody.TheVariants.{Members, LeftAside}
use Rattle.swift_ast.specs.declared.piece.StructPiece.{StructPiece}
use Rattle.swift_core.specs.declared.table.Declaration.{Declaration}
use Rattle.swift_core.specs.declared.table.Table.{Table}
use Rattle.member_forms.specs.declared.role.Sort.TheVariants as sort
use Rattle.member_forms.specs.Whole.{sort_of, main_fits, names_fit, members_fit, items_fit, head_fits, is_complete, struct_body_fits, enum_fits, declaration_fits_at, declaration_fits}
use Rattle.type_table.specs.Heads.{heads_table, next_key}
use Rattle.type_table.specs.Tables.{first_code, struct_declaration, declarations_at}
use Rattle.table_names.specs.Lists.{get_middle}
use Rattle.table_names.specs.Pieces.{declared_by, made_struct, made_enum}
use Rattle.table_names.specs.Names.{NamesSomething}
use Rattle.table_places.specs.Preferences.{AllFit, first_part, last_of}
use Rattle.table_names.specs.Tables.{IsTableOf, declaration_alike}

struct_named : (heads : Table) (first key : ℕ) (p : StructPiece) (b : StructBody) (d : Declaration) → struct_declaration heads first key p b ≡ d ∷ [] → struct_body_fits p b ≡ true → NamesSomething d.name
struct_named heads first key p LeftAside d e f = cc
struct_named heads first key p (Members ms) d e f =
    let h : made_struct heads first key p ms ≡ d = cc in
    let a = first_part (head_fits (sort_of p.names) p && members_fit (sort_of p.names) ms) (is_complete (sort_of p.names) p.names ms) f in
    let b = first_part (head_fits (sort_of p.names) p) (members_fit (sort_of p.names) ms) a in
    let c = first_part (main_fits (sort_of p.names) p.is_main && not (bytes_eq p.name (codes "_"))) (names_fit (sort_of p.names) p.names) b in
    subst (λ (x : Declaration). NamesSomething x.name) h (last_of (main_fits (sort_of p.names) p.is_main) (not (bytes_eq p.name (codes "_"))) c)

enum_named : (heads : Table) (first : ℕ) (p : EnumPiece) → enum_fits p ≡ true → NamesSomething (made_enum heads first p).name
enum_named heads first p f =
    first_part (not (bytes_eq p.name (codes "_"))) (names_fit sort.Enum p.names)
    (first_part (not (bytes_eq p.name (codes "_")) && names_fit sort.Enum p.names) (items_fit p.items) f)

piece_named : (heads : Table) (first key : ℕ) (x : Piece) (d : Declaration) (f : PieceForm) → x.form ≡ f → declarations_at heads first key f ≡ d ∷ [] → declaration_fits x ≡ true → NamesSomething d.name
piece_named heads first key x d (piece.Struct p) s e fits = struct_named heads first key p p.body d e (ap declaration_fits_at (sym s) ∙ fits)
piece_named heads first key x d (piece.Enum p) s e fits =
    let h : made_enum heads first p ≡ d = cc in subst (λ (y : Declaration). NamesSomething y.name) h (enum_named heads first p (ap declaration_fits_at (sym s) ∙ fits))
piece_named heads first key x d (piece.Import w) s e fits = cc
piece_named heads first key x d (piece.Environment es) s e fits = cc
piece_named heads first key x d (piece.Preview w) s e fits = cc

-- Each declaration has a name that is not `_`, where each declaration of the source file fits its kind.
abbrev pub DeclarationsNamed : Type 0
DeclarationsNamed = (source : Source) (table : Table) → IsTableOf source table → AllFit source
    → (d : ℕ) (declaration : Declaration) → slice_get table.declarations d ≡ Some declaration → NamesSomething declaration.name

pub declarations_named : DeclarationsNamed
declarations_named source table is fit d declaration e =
    let x = declaration_alike is d declaration e in
    let by = declared_by source d x.0 x.1 in
    let there : slice_get source.pieces (length by.before) ≡ Some by.one = ap (λ ps. slice_get ps (length by.before)) by.split ∙ get_middle by.before by.after by.one in
    let n = piece_named (heads_table source.pieces) (first_code by.before) (next_key by.before) by.one x.0 by.one.form refl by.is (fit (length by.before) by.one there) in
    subst NamesSomething (sym (ap (λ (y : Declaration). y.name) x.2)) n
