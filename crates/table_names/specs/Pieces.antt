-- Which piece of a source file declares what stands in its table.
use Rattle.std.specs.Prelude.{◌≡◌, ℕ, zero, suc, ◌+◌, ◌≤◌, Bool, true, false, List, [], ◌∷◌, ◌++◌, Some, length, map, sum, slice_get}
use Rattle.std.specs.List.{sum_by, count_by}
use Rattle.std.proofs.Common.{refl, sym, ap, ◌∙◌, cond, arith, append-nil, append_assoc, length-append}
use Rattle.std.proofs.lemmas.List.{length-map}
use Rattle.std.proofs.lemmas.List.Sums.{sum_by-append, sum_by-cons, sum-map}
use Rattle.swift_ast.specs.declared.piece.EnumItem.{EnumItem}
use Rattle.swift_ast.specs.declared.piece.EnumPiece.{EnumPiece}
use Rattle.swift_ast.specs.declared.piece.EnumItem.TheVariants as item
use Rattle.swift_ast.specs.declared.piece.Member.{Member}
use Rattle.swift_ast.specs.declared.piece.Piece.{Piece}
use Rattle.swift_ast.specs.declared.piece.PieceForm.{PieceForm}
use Rattle.swift_ast.specs.declared.piece.PieceForm.TheVariants as piece
use Rattle.swift_ast.specs.declared.piece.Source.{Source}
use Rattle.swift_ast.specs.declared.piece.StructBody.{StructBody}
use Rattle.swift_ast.specs.declared.piece.StructBody.TheVariants.{Members, LeftAside}
use Rattle.swift_ast.specs.declared.piece.StructPiece.{StructPiece}
use Rattle.swift_core.specs.declared.table.Declaration.{Declaration}
use Rattle.swift_core.specs.declared.table.Signature.{Signature}
use Rattle.swift_core.specs.declared.table.Table.{Table}
use Rattle.member_forms.specs.declared.role.Sort.{Sort}
use Rattle.member_forms.specs.Whole.{sort_of}
use Rattle.type_table.specs.Along.{along_from, along}
use Rattle.type_table.specs.Heads.{entries_at, entries_of, declares, declares_at, declares_struct, head, struct_kind, enum_kind, heads_table, next_declaration, next_key}
use Rattle.type_table.specs.Signatures.{Draft, signature_at, more_signatures, signatures, struct_draft, struct_drafts, item_drafts, case_draft, case_count, enum_drafts}
use Rattle.type_table.specs.Tables.{codes_in, piece_size, item_size, struct_size, member_start, case_start, member_place, entry_place, environment_key_of, first_code, with_members, struct_declaration, declarations_at, declarations_of, declarations, environment_of, environment, member_places, enum_starts, item_starts, struct_places, places_at, places_of, places, table_of, first_key}
use Rattle.table_names.specs.Lists.{given_by, length_along, length_each}

-- ---- the members of a declaration

abbrev signature_of : ℕ → List Draft → Draft → Signature
signature_of first before d = signature_at first (length before) d.name d.form

more_along : (first : ℕ) (done : List Signature) (before ds : List Draft) → length done ≡ length before
    → more_signatures first done ds ≡ done ++ along_from (λ b d. signature_of first b d ∷ []) before ds
more_along first done before [] e = sym (append-nil done)
more_along first done before (d ∷ ds) e =
    let s = signature_at first (length done) d.name d.form in
    let a = length-append done (s ∷ []) in let b = length-append before (d ∷ []) in
    more_along first (done ++ s ∷ []) (before ++ d ∷ []) ds (omega (arith, a, b, e))
    ∙ append_assoc done (s ∷ []) (along_from (λ b d. signature_of first b d ∷ []) (before ++ d ∷ []) ds)
    ∙ ap (λ n. done ++ signature_at first n d.name d.form ∷ along_from (λ b d. signature_of first b d ∷ []) (before ++ d ∷ []) ds) e

-- the members are the drafts, each with the number of its code
pub signatures_along : (first : ℕ) (ds : List Draft) → signatures first ds ≡ along (λ b d. signature_at first (length b) d.name d.form ∷ []) ds
unfolding signatures along
signatures_along first ds = more_along first [] [] ds refl

-- what a struct and an enum declare
abbrev pub made_struct : Table → ℕ → ℕ → StructPiece → List Member → Declaration
made_struct heads first key p ms = with_members (head p.name (struct_kind key p.names (sort_of p.names)) p.is_main) (signatures first (struct_drafts heads (sort_of p.names) ms))

abbrev pub made_enum : Table → ℕ → EnumPiece → Declaration
made_enum heads first p = with_members (head p.name (enum_kind p) false) (signatures first (enum_drafts heads p.items))

-- ---- the piece that declares

-- a declaration of the table is what the piece declares that stands behind as many declarations
pub record DeclaredBy (source : Source) (d : ℕ) (declaration : Declaration) : Type 0 where
  pub before : List Piece
  pub one : Piece
  pub after : List Piece
  pub split : source.pieces ≡ before ++ one ∷ after
  pub place : d ≡ count_by declares before
  pub is : declarations_of (heads_table source.pieces) before one ≡ declaration ∷ []

declarations_length : (heads : Table) (before : List Piece) (p : Piece) → length (declarations_of heads before p) ≡ cond (declares p) 1 0
declarations_length heads before p = by (first_code before) (next_key before) p.form
  where
    in_struct : (first key : ℕ) (p : StructPiece) (b : StructBody) → length (struct_declaration heads first key p b) ≡ cond (declares_struct b) 1 0
    in_struct first key p LeftAside = refl
    in_struct first key p (Members ms) = refl

    by : (first key : ℕ) (f : PieceForm) → length (declarations_at heads first key f) ≡ cond (declares_at f) 1 0
    by first key (piece.Struct p) = in_struct first key p p.body
    by first key (piece.Enum p) = refl
    by first key (piece.Import w) = refl
    by first key (piece.Environment es) = refl
    by first key (piece.Preview s) = refl

only : {X : Type 0} (xs : List X) (at : ℕ) (x : X) → slice_get xs at ≡ Some x → length xs ≤ 1 → (at ≡ 0) × (xs ≡ x ∷ [])
only [] at x e le = cc
only (y ∷ []) zero x e le = (refl, let h : y ≡ x = cc in ap (λ z. z ∷ []) h)
only (y ∷ []) (suc at) x e le = cc
only (y ∷ z ∷ zs) at x e le = absurd (omega arith)

one_at_most : (b : Bool) → cond b 1 0 ≤ 1
one_at_most true = omega arith
one_at_most false = omega arith

pub length_declarations : (heads : Table) (ps : List Piece) → length (along (declarations_of heads) ps) ≡ count_by declares ps
length_declarations heads ps = length_along (declarations_of heads) (λ p. cond (declares p) 1 0) (declarations_length heads) ps

pub declared_by : (source : Source) (d : ℕ) (declaration : Declaration) → slice_get (table_of source).declarations d ≡ Some declaration → DeclaredBy source d declaration
unfolding table_of declarations along
declared_by source d declaration e =
    let heads = heads_table source.pieces in
    let r = given_by (declarations_of heads) source.pieces d declaration e in
    let n = declarations_length heads r.before r.one in
    let m = one_at_most (declares r.one) in
    let o = only (declarations_of heads r.before r.one) r.at declaration r.stands (omega (arith, n, m)) in
    let l = length_along (declarations_of heads) (λ p. cond (declares p) 1 0) (declarations_length heads) r.before in
    record { before = r.before; one = r.one; after = r.after; split = r.split; place = omega (arith, r.place, o.0, l); is = o.1 }

-- ---- how many there are

sum_from : {X Y : Type 0} (f : List X → X → List Y) (h : Y → ℕ) (g : X → ℕ) → ((before : List X) (x : X) → sum_by h (f before x) ≡ g x) → (done xs : List X) → sum_by h (along_from f done xs) ≡ sum_by g xs
sum_from f h g is done [] = refl
sum_from f h g is done (x ∷ xs) =
    sum_by-append h (f done x) (along_from f (done ++ x ∷ []) xs)
    ∙ (λ i. is done x i + sum_from f h g is (done ++ x ∷ []) xs i)
    ∙ sym (sum_by-cons g x xs)

sum_along : {X Y : Type 0} (f : List X → X → List Y) (h : Y → ℕ) (g : X → ℕ) → ((before : List X) (x : X) → sum_by h (f before x) ≡ g x) → (xs : List X) → sum_by h (along f xs) ≡ sum_by g xs
unfolding along
sum_along f h g is xs = sum_from f h g is [] xs

sum_plus : {X : Type 0} (f g h : X → ℕ) → ((x : X) → f x ≡ g x + h x) → (xs : List X) → sum_by f xs ≡ sum_by g xs + sum_by h xs
sum_plus f g h is [] = refl
sum_plus f g h is (x ∷ xs) =
    let a = sum_by-cons f x xs in let b = sum_by-cons g x xs in let c = sum_by-cons h x xs in let r = sum_plus f g h is xs in let i = is x in
    omega (arith, a, b, c, r, i)

abbrev pub members_in : Declaration → ℕ
members_in d = length d.members

abbrev pub declared_size : PieceForm → ℕ
declared_size (piece.Struct p) = struct_size p.body
declared_size (piece.Enum p) = sum_by item_size p.items
declared_size _ = 0

pub length_signatures : (first : ℕ) (ds : List Draft) → length (signatures first ds) ≡ length ds
length_signatures first ds = ap length (signatures_along first ds) ∙ length_each (λ b d. signature_at first (length b) d.name d.form) ds

pub length_struct : (heads : Table) (s : Sort) (ms : List Member) → length (struct_drafts heads s ms) ≡ length ms
length_struct heads s ms = length_each (struct_draft heads s) ms

item_length : (heads : Table) (cases : ℕ) (i : EnumItem) → length (item_drafts heads cases i) ≡ item_size i
item_length heads cases (item.Cases cs) = length_each (case_draft cases) cs
item_length heads cases (item.Member m) = refl

pub length_enum : (heads : Table) (items : List EnumItem) → length (enum_drafts heads items) ≡ sum_by item_size items
length_enum heads items = length_along (λ before i. item_drafts heads (case_count before) i) item_size (λ before i. item_length heads (case_count before) i) items

starts_length : (i : EnumItem) → length (item_starts i) ≡ item_size i
starts_length (item.Cases cs) = length-map cs case_start
starts_length (item.Member m) = refl

pub length_starts : (items : List EnumItem) → length (enum_starts items) ≡ sum_by item_size items
length_starts items = length_along (λ before i. item_starts i) item_size (λ before i. starts_length i) items

pub length_member_places : (d : ℕ) (starts : List ℕ) → length (member_places d starts) ≡ length starts
unfolding member_places
length_member_places d starts = length_each (member_place d) starts

-- a piece has as many places as members and keys
pub places_length : (d key : ℕ) (f : PieceForm) → length (places_at d key f) ≡ piece_size f
places_length d key (piece.Struct p) = by p.body
  where
    by : (b : StructBody) → length (struct_places d b) ≡ struct_size b
    by LeftAside = refl
    by (Members ms) = length_member_places d (map member_start ms) ∙ length-map ms member_start
places_length d key (piece.Enum p) = length_member_places d (enum_starts p.items) ∙ length_starts p.items
places_length d key (piece.Environment es) = length_each (entry_place key) es
places_length d key (piece.Import w) = refl
places_length d key (piece.Preview s) = refl

pub length_places : (ps : List Piece) → length (along places_of ps) ≡ sum_by codes_in ps
length_places ps = length_along places_of codes_in (λ before p. places_length (next_declaration before) (first_key before) p.form) ps

one_sum : (d : Declaration) → sum_by members_in (d ∷ []) ≡ members_in d
one_sum d = sum_by-cons members_in d [] ∙ (let h : members_in d + 0 ≡ members_in d = omega arith in h)

declared_length : (heads : Table) (first key : ℕ) (f : PieceForm) → sum_by members_in (declarations_at heads first key f) ≡ declared_size f
declared_length heads first key (piece.Struct p) = by p.body
  where
    by : (b : StructBody) → sum_by members_in (struct_declaration heads first key p b) ≡ struct_size b
    by LeftAside = refl
    by (Members ms) = one_sum (made_struct heads first key p ms) ∙ length_signatures first (struct_drafts heads (sort_of p.names) ms) ∙ length_struct heads (sort_of p.names) ms
declared_length heads first key (piece.Enum p) = one_sum (made_enum heads first p) ∙ length_signatures first (enum_drafts heads p.items) ∙ length_enum heads p.items
declared_length heads first key (piece.Environment es) = refl
declared_length heads first key (piece.Import w) = refl
declared_length heads first key (piece.Preview s) = refl

pub keys_length : (heads : Table) (before : List Piece) (p : Piece) → length (environment_of heads before p) ≡ length (entries_of p)
keys_length heads before p = length_each (environment_key_of heads (first_code before)) (entries_of p)

size_at : (f : PieceForm) → piece_size f ≡ declared_size f + length (entries_at f)
size_at (piece.Struct p) = omega arith
size_at (piece.Enum p) = omega arith
size_at (piece.Environment es) = omega arith
size_at (piece.Import w) = refl
size_at (piece.Preview s) = refl

-- there are as many places as members of declarations and keys, but for `isEnabled`
pub places_counted : (source : Source) → suc (length (table_of source).members) ≡ sum (map members_in (table_of source).declarations) + length (table_of source).environment
unfolding table_of places declarations environment
places_counted source =
    let heads = heads_table source.pieces in
    let a = length_places source.pieces in
    let b = sum-map members_in (along (declarations_of heads) source.pieces) in
    let c = sum_along (declarations_of heads) members_in (λ p. declared_size p.form) (λ before p. declared_length heads (first_code before) (next_key before) p.form) source.pieces in
    let d = length_along (environment_of heads) (λ p. length (entries_of p)) (keys_length heads) source.pieces in
    let e = sum_plus codes_in (λ p. declared_size p.form) (λ p. length (entries_of p)) (λ p. size_at p.form) source.pieces in
    omega (arith, a, b, c, d, e)
