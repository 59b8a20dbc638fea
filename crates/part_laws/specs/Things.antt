-- The members, cases and environment keys of a source file, in text order.
use Rattle.std.specs.Prelude.{◌≡◌, ℕ, zero, suc, ◌+◌, true, List, [], ◌∷◌, ◌++◌, Some, length, slice_get}
use Rattle.std.specs.List.{sum_by, flat_map, filter_map}
use Rattle.std.proofs.Common.{inl, inr, refl, sym, ap, ◌∙◌, arith, length-append}
use Rattle.std.proofs.lemmas.Grind.{flat_map-append}
use Rattle.std.proofs.lemmas.List.Sums.{sum_by-cons}
use Rattle.swift_ast.specs.declared.piece.CaseName.{CaseName}
use Rattle.swift_ast.specs.declared.piece.Entry.{Entry}
use Rattle.swift_ast.specs.declared.piece.EnumItem.{EnumItem}
use Rattle.swift_ast.specs.declared.piece.EnumItem.TheVariants as item
use Rattle.swift_ast.specs.declared.piece.Member.{Member}
use Rattle.swift_ast.specs.declared.piece.Piece.{Piece}
use Rattle.swift_ast.specs.declared.piece.PieceForm.{PieceForm}
use Rattle.swift_ast.specs.declared.piece.PieceForm.TheVariants as piece
use Rattle.swift_ast.specs.declared.piece.Source.{Source}
use Rattle.swift_ast.specs.declared.piece.StructBody.{StructBody}
use Rattle.swift_ast.specs.declared.piece.StructBody.TheVariants.{Members, LeftAside}
use Rattle.type_table.specs.Tables.{codes_in, piece_size, item_size, struct_size}
use Rattle.source_parts.specs.Parts.{Part, member_part, case_part, entry_part, item_parts, body_parts, inner_parts, piece_parts, parts_of}
use Rattle.part_rules.specs.Typed.{fits}
use Rattle.part_rules.specs.Writers.{member_line, member_lines}
use Rattle.table_names.specs.Lists.{get_append, get_left, get_right}
use Rattle.table_places.specs.Preferences.{AllFit}
use Rattle.part_laws.specs.Parts.{inner_part, WholesFit, fit_behind}

-- ---- an element of what each element gives

-- it is given by one of the elements, and stands behind what those before it give
pub record FlatFrom {X Y : Type 0} (g : X → List Y) (size : X → ℕ) (xs : List X) (i : ℕ) (y : Y) : Type 0 where
  pub before : List X
  pub one : X
  pub after : List X
  pub split : xs ≡ before ++ one ∷ after
  pub at : ℕ
  pub place : i ≡ sum_by size before + at
  pub stands : slice_get (g one) at ≡ Some y

module _ {X Y : Type 0} (g : X → List Y) (size : X → ℕ) (sized : (x : X) → length (g x) ≡ size x) where
  pub flat_from : (xs : List X) (i : ℕ) (y : Y) → slice_get (flat_map g xs) i ≡ Some y → FlatFrom g size xs i y
  flat_from [] i y e = cc
  flat_from (x ∷ xs) i y e = elim (get_append (g x) (flat_map g xs) i y e) [
    | inl h ↦ record { before = []; one = x; after = xs; split = refl; at = i; place = omega arith; stands = h }
    | inr w ↦
        let r = flat_from xs w.0 y w.2 in
        let c = sum_by-cons size x r.before in let l = sized x in let p = r.place in let q = w.1 in
        record { before = x ∷ r.before; one = r.one; after = r.after; split = ap (λ zs. x ∷ zs) r.split; at = r.at; place = omega (arith, c, l, p, q); stands = r.stands }
  ]

  pub flat_at : (before after : List X) (one : X) (at : ℕ) (y : Y) → slice_get (g one) at ≡ Some y → slice_get (flat_map g (before ++ one ∷ after)) (sum_by size before + at) ≡ Some y
  flat_at [] after one at y e =
      let n : sum_by size [] + at ≡ at = omega arith in
      ap (slice_get (g one ++ flat_map g after)) n ∙ get_left (g one) (flat_map g after) at y e
  flat_at (x ∷ before) after one at y e =
      let c = sum_by-cons size x before in let l = sized x in
      let n : sum_by size (x ∷ before) + at ≡ length (g x) + (sum_by size before + at) = omega (arith, c, l) in
      ap (slice_get (g x ++ flat_map g (before ++ one ∷ after))) n ∙ get_right (g x) (flat_map g (before ++ one ∷ after)) (sum_by size before + at) ∙ flat_at before after one at y e

  pub flat_length : (xs : List X) → length (flat_map g xs) ≡ sum_by size xs
  flat_length [] = refl
  flat_length (x ∷ xs) =
      let a = length-append (g x) (flat_map g xs) in let r = flat_length xs in let c = sum_by-cons size x xs in let l = sized x in
      omega (arith, a, r, c, l)

-- where what each element gives in one list is met by what it gives in another, the same holds of all
pub flat_follows : {X A B : Type 0} (g : X → List A) (k : X → List B) (P : A → Type 0) (Q : B → Type 0)
    → ((x : X) → length (g x) ≡ length (k x)) → ((x : X) (j : ℕ) (a : A) → slice_get (g x) j ≡ Some a → P a → (b : B) × (slice_get (k x) j ≡ Some b) × Q b)
    → (xs : List X) (j : ℕ) (a : A) → slice_get (flat_map g xs) j ≡ Some a → P a → (b : B) × (slice_get (flat_map k xs) j ≡ Some b) × Q b
flat_follows g k P Q same one [] j a e p = cc
flat_follows g k P Q same one (x ∷ xs) j a e p = elim (get_append (g x) (flat_map g xs) j a e) [
  | inl h ↦ let r = one x j a h p in (r.0, get_left (k x) (flat_map k xs) j r.0 r.1, r.2)
  | inr w ↦
      let r = flat_follows g k P Q same one xs w.0 a w.2 p in
      let l = same x in let q = w.1 in
      let n : j ≡ length (k x) + w.0 = omega (arith, l, q) in
      (r.0, ap (slice_get (k x ++ flat_map k xs)) n ∙ get_right (k x) (flat_map k xs) w.0 ∙ r.1, r.2)
]

-- ---- how many things there are

members_length : (ms : List Member) → length (flat_map member_part ms) ≡ length ms
members_length [] = refl
members_length (m ∷ ms) = ap suc (members_length ms)

cases_length : (cs : List CaseName) → length (flat_map case_part cs) ≡ length cs
cases_length [] = refl
cases_length (c ∷ cs) = ap suc (cases_length cs)

entries_length : (es : List Entry) → length (flat_map entry_part es) ≡ length es
entries_length [] = refl
entries_length (e ∷ es) = ap suc (entries_length es)

pub item_length : (i : EnumItem) → length (item_parts i) ≡ item_size i
item_length (item.Cases cs) = cases_length cs
item_length (item.Member m) = refl

body_length : (b : StructBody) → length (body_parts b) ≡ struct_size b
body_length LeftAside = refl
body_length (Members ms) = members_length ms

pub inner_length : (f : PieceForm) → length (inner_parts f) ≡ piece_size f
inner_length (piece.Struct p) = body_length p.body
inner_length (piece.Enum p) = flat_length item_parts item_size item_length p.items
inner_length (piece.Environment es) = entries_length es
inner_length (piece.Import w) = refl
inner_length (piece.Preview s) = refl

-- what stands in a piece
abbrev pub things_in : Piece → List Part
things_in p = inner_parts p.form

abbrev pub things : List Piece → List Part
things = flat_map things_in

pub things_length : (ps : List Piece) → length (things ps) ≡ sum_by codes_in ps
things_length = flat_length things_in codes_in (λ p. inner_length p.form)

-- ---- they are the inner parts

members_same : (ms : List Member) → flat_map inner_part (flat_map member_part ms) ≡ flat_map member_part ms
members_same [] = refl
members_same (m ∷ ms) = ap (λ r. Part.a_member m ∷ r) (members_same ms)

cases_same : (cs : List CaseName) → flat_map inner_part (flat_map case_part cs) ≡ flat_map case_part cs
cases_same [] = refl
cases_same (c ∷ cs) = ap (λ r. Part.a_case c ∷ r) (cases_same cs)

entries_same : (es : List Entry) → flat_map inner_part (flat_map entry_part es) ≡ flat_map entry_part es
entries_same [] = refl
entries_same (e ∷ es) = ap (λ r. Part.an_entry e ∷ r) (entries_same es)

item_same : (i : EnumItem) → flat_map inner_part (item_parts i) ≡ item_parts i
item_same (item.Cases cs) = cases_same cs
item_same (item.Member m) = refl

flat_same : {X Y : Type 0} (h : Y → List Y) (g : X → List Y) → ((x : X) → flat_map h (g x) ≡ g x) → (xs : List X) → flat_map h (flat_map g xs) ≡ flat_map g xs
flat_same h g same [] = refl
flat_same h g same (x ∷ xs) = flat_map-append h (g x) (flat_map g xs) ∙ (let s = same x in let r = flat_same h g same xs in λ i. s i ++ r i)

body_same : (b : StructBody) → flat_map inner_part (body_parts b) ≡ body_parts b
body_same LeftAside = refl
body_same (Members ms) = members_same ms

inner_same : (f : PieceForm) → flat_map inner_part (inner_parts f) ≡ inner_parts f
inner_same (piece.Struct p) = body_same p.body
inner_same (piece.Enum p) = flat_same inner_part item_parts item_same p.items
inner_same (piece.Environment es) = entries_same es
inner_same (piece.Import w) = refl
inner_same (piece.Preview s) = refl

pieces_same : (ps : List Piece) → flat_map inner_part (flat_map piece_parts ps) ≡ things ps
pieces_same [] = refl
pieces_same (p ∷ ps) = flat_map-append inner_part (piece_parts p) (flat_map piece_parts ps) ∙ (let s = inner_same p.form in let r = pieces_same ps in λ i. s i ++ r i)

pub inner_things : (source : Source) → flat_map inner_part (parts_of source) ≡ things source.pieces
unfolding parts_of
inner_things source = pieces_same source.pieces

-- there are as many lines of members
lines_length : (parts : List Part) → length (filter_map member_line parts) ≡ length (flat_map inner_part parts)
lines_length [] = refl
lines_length (Part.a_declaration p ∷ ps) = lines_length ps
lines_length (Part.a_member m ∷ ps) = ap suc (lines_length ps)
lines_length (Part.a_case n ∷ ps) = ap suc (lines_length ps)
lines_length (Part.an_entry e ∷ ps) = ap suc (lines_length ps)

pub member_lines_length : (source : Source) → length (member_lines (parts_of source)) ≡ length (things source.pieces)
unfolding member_lines
member_lines_length source = lines_length (parts_of source) ∙ ap length (inner_things source)

-- ---- each declaration fits

pieces_fit : (ps : List Piece) → WholesFit (flat_map piece_parts ps) → (i : ℕ) (p : Piece) → slice_get ps i ≡ Some p → fits p ≡ true
pieces_fit [] h i p e = cc
pieces_fit (q ∷ ps) h zero p e = let k : q ≡ p = cc in ap fits (sym k) ∙ h.0
pieces_fit (q ∷ ps) h (suc i) p e = pieces_fit ps (fit_behind (inner_parts q.form) (flat_map piece_parts ps) h.1) i p e

pub all_fit : (source : Source) → WholesFit (parts_of source) → AllFit source
unfolding parts_of fits
all_fit source h i p e = pieces_fit source.pieces h i p e
