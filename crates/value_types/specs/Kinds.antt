-- The declarations of a source file have the same kinds in the table that written types are looked up in and in the table of the file.
use Rattle.std.specs.Prelude.{◌≡◌, ℕ, List, [], ◌∷◌, ◌++◌, map}
use Rattle.std.proofs.Common.{refl, sym, ◌∙◌}
use Rattle.std.proofs.lemmas.List.{map-append}
use Rattle.swift_ast.specs.declared.piece.PieceForm.{PieceForm}
use Rattle.swift_ast.specs.declared.piece.PieceForm.TheVariants as piece
use Rattle.swift_ast.specs.declared.piece.Source.{Source}
use Rattle.swift_ast.specs.declared.piece.StructBody.{StructBody}
use Rattle.swift_ast.specs.declared.piece.StructBody.TheVariants.{Members, LeftAside}
use Rattle.swift_ast.specs.declared.piece.StructPiece.{StructPiece}
use Rattle.swift_core.specs.declared.table.Declaration.{Declaration}
use Rattle.swift_core.specs.declared.table.Kind.{Kind}
use Rattle.swift_core.specs.declared.table.Table.{Table}
use Rattle.type_table.specs.Along.{along_from, along}
use Rattle.type_table.specs.Heads.{struct_head, heads_at, heads_of, heads, heads_table, next_key}
use Rattle.type_table.specs.Tables.{first_code, struct_declaration, declarations_at, declarations_of, declarations, table_of}

abbrev pub kind_of : Declaration → Kind
kind_of d = d.kind

abbrev pub kinds_of : Table → List Kind
kinds_of table = map kind_of table.declarations

map_two : {X Y Z W : Type 0} (f : List X → X → List Y) (g : List X → X → List Z) (h : Y → W) (k : Z → W) → ((before : List X) (x : X) → map h (f before x) ≡ map k (g before x))
    → (done xs : List X) → map h (along_from f done xs) ≡ map k (along_from g done xs)
map_two f g h k is done [] = refl
map_two f g h k is done (x ∷ xs) =
    map-append h (f done x) (along_from f (done ++ x ∷ []) xs)
    ∙ (λ i. is done x i ++ map_two f g h k is (done ++ x ∷ []) xs i)
    ∙ sym (map-append k (g done x) (along_from g (done ++ x ∷ []) xs))

struct_kinds : (heads : Table) (first key : ℕ) (p : StructPiece) (b : StructBody) → map kind_of (struct_declaration heads first key p b) ≡ map kind_of (struct_head key p b)
struct_kinds heads first key p LeftAside = refl
struct_kinds heads first key p (Members ms) = refl

piece_kinds : (heads : Table) (first key : ℕ) (f : PieceForm) → map kind_of (declarations_at heads first key f) ≡ map kind_of (heads_at key f)
piece_kinds heads first key (piece.Struct p) = struct_kinds heads first key p p.body
piece_kinds heads first key (piece.Enum p) = refl
piece_kinds heads first key (piece.Import w) = refl
piece_kinds heads first key (piece.Environment es) = refl
piece_kinds heads first key (piece.Preview s) = refl

pub heads_kinds : (source : Source) → kinds_of (heads_table source.pieces) ≡ kinds_of (table_of source)
unfolding table_of heads_table declarations heads along
heads_kinds source =
    sym (map_two (declarations_of (heads_table source.pieces)) heads_of kind_of kind_of (λ before p. piece_kinds (heads_table source.pieces) (first_code before) (next_key before) p.form) [] source.pieces)
