-- The declaration with `@main` is the one app.
use Rattle.std.specs.Prelude.{◌≡◌, ℕ, zero, suc, ◌<◌, Bool, true, false, not, ◌&&◌, ◌||◌, List, [], ◌∷◌, ◌++◌, Option, Some, None, length, codes, slice_get}
use Rattle.std.specs.List.{count_by, flat_map, list_any}
use Rattle.std.specs.Str.{bytes_eq}
use Rattle.std.proofs.Common.{refl, sym, ap, subst, ◌∙◌, inl, inr, arith}
use Rattle.std.proofs.lemmas.Bool.{cases_lt}
use Rattle.swift_ast.specs.declared.piece.EnumPiece.{EnumPiece}
use Rattle.swift_ast.specs.declared.piece.Piece.{Piece}
use Rattle.swift_ast.specs.declared.piece.PieceForm.{PieceForm}
use Rattle.swift_ast.specs.declared.piece.PieceForm.TheVariants as piece
use Rattle.swift_ast.specs.declared.piece.Source.{Source}
use Rattle.swift_ast.specs.declared.piece.StructBody.{StructBody}
use Rattle.swift_ast.specs.declared.piece.StructBody.TheVariants.{Members, LeftAside}
use Rattle.swift_ast.specs.declared.piece.StructPiece.{StructPiece}
use Rattle.swift_core.specs.Programs.{IsApp}
use Rattle.swift_core.specs.declared.table.Declaration.{Declaration}
use Rattle.swift_core.specs.declared.table.Kind.TheVariants as kind
use Rattle.swift_core.specs.declared.table.Table.{Table}
use Rattle.member_forms.specs.declared.role.Sort.{Sort}
use Rattle.member_forms.specs.declared.role.Sort.TheVariants as sort
use Rattle.member_forms.specs.Whole.{sort_of, main_fits, names_fit, members_fit, head_fits, is_complete, struct_body_fits, declaration_fits_at, declaration_fits}
use Rattle.type_table.specs.Heads.{declares, heads_table, next_key, struct_kind}
use Rattle.type_table.specs.Tables.{first_code, struct_declaration, declarations_at}
use Rattle.type_twice.specs.Twice as twice
use Rattle.type_twice.specs.Twice.{stands, heading, heading_at, struct_heading, main_in, declared_names, repeats_heading, is_main, is_built_in}
use Rattle.table_names.specs.Lists.{get_append, get_middle}
use Rattle.table_names.specs.Numbers.{or_none}
use Rattle.table_names.specs.Pieces.{declared_by, made_struct, made_enum}
use Rattle.table_names.specs.Names.{is_new}
use Rattle.table_places.specs.Members.{false_true}
use Rattle.table_places.specs.Preferences.{AllFit, first_part}
use Rattle.table_names.specs.Tables.{IsTableOf, declaration_alike}

-- ---- what a piece says of `@main`

struct_heading_is : (heads : Table) (first key : ℕ) (p : StructPiece) (b : StructBody) (d : Declaration) → struct_declaration heads first key p b ≡ d ∷ [] → struct_heading p b ≡ Some (d.name, d.is_main)
struct_heading_is heads first key p LeftAside d e = cc
struct_heading_is heads first key p (Members ms) d e = let h : made_struct heads first key p ms ≡ d = cc in ap (λ (x : Declaration). Some (x.name, x.is_main)) h

heading_is : (heads : Table) (first key : ℕ) (f : PieceForm) (d : Declaration) → declarations_at heads first key f ≡ d ∷ [] → heading_at f ≡ Some (d.name, d.is_main)
heading_is heads first key (piece.Struct p) d e = struct_heading_is heads first key p p.body d e
heading_is heads first key (piece.Enum p) d e = let h : made_enum heads first p ≡ d = cc in ap (λ (x : Declaration). Some (x.name, x.is_main)) h
heading_is heads first key (piece.Import w) d e = cc
heading_is heads first key (piece.Environment es) d e = cc
heading_is heads first key (piece.Preview s) d e = cc

-- an app has `@main`, and nothing else has
abbrev MainIsApp : Declaration → Type 0
MainIsApp d = (d.is_main ≡ true → d.kind ≡ kind.App) × (d.kind ≡ kind.App → d.is_main ≡ true)

main_sort : (key : ℕ) (names : List (List ℕ)) (main : Bool) (s : Sort) → main_fits s main ≡ true → (main ≡ true → struct_kind key names s ≡ kind.App) × (struct_kind key names s ≡ kind.App → main ≡ true)
main_sort key names main sort.App e = (λ h. refl, λ h. e)
main_sort key names true sort.Data e = cc
main_sort key names true sort.Enum e = cc
main_sort key names true sort.View e = cc
main_sort key names true sort.Key e = cc
main_sort key names false sort.Data e = (λ h. cc, λ h. cc)
main_sort key names false sort.Enum e = (λ h. cc, λ h. cc)
main_sort key names false sort.View e = (λ h. cc, λ h. cc)
main_sort key names false sort.Key e = (λ h. cc, λ h. cc)

struct_main : (heads : Table) (first key : ℕ) (p : StructPiece) (b : StructBody) (d : Declaration) → struct_declaration heads first key p b ≡ d ∷ [] → struct_body_fits p b ≡ true → MainIsApp d
struct_main heads first key p LeftAside d e f = cc
struct_main heads first key p (Members ms) d e f =
    let h : made_struct heads first key p ms ≡ d = cc in
    let a = first_part (head_fits (sort_of p.names) p && members_fit (sort_of p.names) ms) (is_complete (sort_of p.names) p.names ms) f in
    let b = first_part (head_fits (sort_of p.names) p) (members_fit (sort_of p.names) ms) a in
    let c = first_part (main_fits (sort_of p.names) p.is_main && not (bytes_eq p.name (codes "_"))) (names_fit (sort_of p.names) p.names) b in
    let m = first_part (main_fits (sort_of p.names) p.is_main) (not (bytes_eq p.name (codes "_"))) c in
    subst MainIsApp h (main_sort key p.names p.is_main (sort_of p.names) m)

enum_main : (heads : Table) (first : ℕ) (p : EnumPiece) → MainIsApp (made_enum heads first p)
enum_main heads first p = (λ h. cc, λ h. cc)

piece_main : (heads : Table) (first key : ℕ) (x : Piece) (d : Declaration) (f : PieceForm) → x.form ≡ f → declarations_at heads first key f ≡ d ∷ [] → declaration_fits x ≡ true → MainIsApp d
piece_main heads first key x d (piece.Struct p) s e fits = struct_main heads first key p p.body d e (ap declaration_fits_at (sym s) ∙ fits)
piece_main heads first key x d (piece.Enum p) s e fits = let h : made_enum heads first p ≡ d = cc in subst MainIsApp h (enum_main heads first p)
piece_main heads first key x d (piece.Import w) s e fits = cc
piece_main heads first key x d (piece.Environment es) s e fits = cc
piece_main heads first key x d (piece.Preview w) s e fits = cc

main_is_app : {source : Source} {table : Table} → IsTableOf source table → AllFit source → (d : ℕ) (declaration : Declaration) → slice_get table.declarations d ≡ Some declaration → MainIsApp declaration
main_is_app {source = source} {table = table} is fit d declaration e =
    let x = declaration_alike is d declaration e in
    let by = declared_by source d x.0 x.1 in
    let there : slice_get source.pieces (length by.before) ≡ Some by.one = ap (λ ps. slice_get ps (length by.before)) by.split ∙ get_middle by.before by.after by.one in
    let m = piece_main (heads_table source.pieces) (first_code by.before) (next_key by.before) by.one x.0 by.one.form refl by.is (fit (length by.before) by.one there) in
    let main : declaration.is_main ≡ x.0.is_main = ap (λ (y : Declaration). y.is_main) x.2 in
    let kind_is : declaration.kind ≡ x.0.kind = ap (λ (y : Declaration). y.kind) x.2 in
    (λ h. kind_is ∙ m.0 (sym main ∙ h), λ h. main ∙ m.1 (sym kind_is ∙ h))

-- ---- `@main` stands once

same_front : {X : Type 0} (xs ys us vs : List X) → xs ++ us ≡ ys ++ vs → length xs ≡ length ys → xs ≡ ys
same_front [] [] us vs e l = refl
same_front [] (y ∷ ys) us vs e l = cc
same_front (x ∷ xs) [] us vs e l = cc
same_front (x ∷ xs) (y ∷ ys) us vs e l =
    let h : x ≡ y = cc in let t : xs ++ us ≡ ys ++ vs = cc in let m : length xs ≡ length ys = omega (arith, l) in
    λ i. h i ∷ same_front xs ys us vs t m i

any_at : {X : Type 0} (test : X → Bool) (xs : List X) (i : ℕ) (x : X) → slice_get xs i ≡ Some x → test x ≡ true → list_any test xs ≡ true
any_at test [] i x e t = cc
any_at test (y ∷ ys) zero x e t = let h : y ≡ x = cc in ap (λ b. b || list_any test ys) (ap test h ∙ t)
any_at test (y ∷ ys) (suc i) x e t = by (test y) (any_at test ys i x e t)
  where
    by : (b : Bool) → list_any test ys ≡ true → (b || list_any test ys) ≡ true
    by true h = refl
    by false h = h

and_false : (a b : Bool) → (a && b) ≡ false → a ≡ true → b ≡ false
and_false true b e h = e
and_false false b e h = cc

-- a piece with `@main` has none before it
no_main_before : (before : List Piece) (w : List ℕ) (o : Option (List ℕ × Bool)) → o ≡ Some (w, true) → repeats_heading before o ≡ false → list_any is_main before ≡ false
no_main_before before w None e r = cc
no_main_before before w (Some h) e r =
    let a = or_none ((h.1 && list_any is_main before) || is_built_in h.0) (stands (flat_map declared_names before) h.0) r in
    let b = or_none (h.1 && list_any is_main before) (is_built_in h.0) a.0 in
    let n : h ≡ (w, true) = cc in
    and_false h.1 (list_any is_main before) b.0 (ap (λ (x : List ℕ × Bool). x.1) n)

record MainAt (source : Source) (d : ℕ) : Type 0 where
  before : List Piece
  one : Piece
  after : List Piece
  split : source.pieces ≡ before ++ one ∷ after
  place : d ≡ count_by declares before
  main : is_main one ≡ true
  first : list_any is_main before ≡ false

main_at : {source : Source} {table : Table} → IsTableOf source table → twice.twice source ≡ None → (d : ℕ) (declaration : Declaration) → slice_get table.declarations d ≡ Some declaration
    → declaration.is_main ≡ true → MainAt source d
main_at {source = source} {table = table} is once d declaration e main =
    let x = declaration_alike is d declaration e in
    let by = declared_by source d x.0 x.1 in
    let h = heading_is (heads_table source.pieces) (first_code by.before) (next_key by.before) by.one.form x.0 by.is in
    let same : x.0.is_main ≡ true = sym (ap (λ (y : Declaration). y.is_main) x.2) ∙ main in
    let new = is_new source by.before by.after by.one once by.split in
    record {
      before = by.before;
      one = by.one;
      after = by.after;
      split = by.split;
      place = by.place;
      main = ap main_in h ∙ same;
      first = no_main_before by.before x.0.name (heading by.one) (h ∙ ap (λ (b : Bool). Some (x.0.name, b)) same) new.heading_new;
    }

-- what stands before in the list stands in the longer front
earlier : (source : Source) (d e : ℕ) (x : MainAt source d) (y : MainAt source e) → length x.before < length y.before → ⊥
earlier source d e x y lt =
    let here : slice_get (y.before ++ y.one ∷ y.after) (length x.before) ≡ Some x.one =
    ap (λ ps. slice_get ps (length x.before)) (sym y.split ∙ x.split) ∙ get_middle x.before x.after x.one in
    elim (get_append y.before (y.one ∷ y.after) (length x.before) x.one here) [
      | inl h ↦ false_true y.first (any_at is_main y.before (length x.before) x.one h x.main)
      | inr w ↦ let p = w.1 in absurd (omega (arith, p, lt))
    ]

one_main : (source : Source) (d e : ℕ) → MainAt source d → MainAt source e → e ≡ d
one_main source d e x y = elim (cases_lt (length x.before) (length y.before)) [
  | inl lt ↦ absurd (earlier source d e x y lt)
  | inr le ↦ elim (cases_lt (length y.before) (length x.before)) [
    | inl lt ↦ absurd (earlier source e d y x lt)
    | inr ge ↦
        let same : length y.before ≡ length x.before = omega (arith, le, ge) in
        y.place ∙ ap (count_by declares) (same_front y.before x.before (y.one ∷ y.after) (x.one ∷ x.after) (sym y.split ∙ x.split) same) ∙ sym x.place
  ]
]

-- The declaration with `@main` is the app, and there is no other app and no other `@main`, where nothing is declared twice and each declaration fits its kind.
abbrev pub MainIsTheApp : Type 0
MainIsTheApp = (source : Source) (table : Table) → IsTableOf source table → twice.twice source ≡ None → AllFit source
    → (d : ℕ) (declaration : Declaration) → slice_get table.declarations d ≡ Some declaration → declaration.is_main ≡ true → IsApp table d

pub main_is_the_app : MainIsTheApp
main_is_the_app source table is once fit d declaration e main =
    let here = main_at is once d declaration e main in
    record {
      declaration = declaration;
      declared = e;
      is_main = main;
      is_app = (main_is_app is fit d declaration e).0 main;
      alone = λ o other h m. one_main source d o here (main_at is once o other h m);
      no_other_app = λ o other h k. one_main source d o here (main_at is once o other h ((main_is_app is fit o other h).1 k));
    }
