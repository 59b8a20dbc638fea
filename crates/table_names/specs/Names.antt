-- What is declared once is where the maps of names say.
use Rattle.std.specs.Prelude.{◌≡◌, ℕ, zero, suc, ◌+◌, ◌≤◌, Bool, true, false, not, ◌&&◌, ◌||◌, List, [], ◌∷◌, ◌++◌, Option, Some, None, length, map, codes, slice_get}
use Rattle.std.specs.FinMap as fin
use Rattle.std.specs.List.{count_by, flat_map, list_any, position_from}
use Rattle.std.specs.Option.{option_or}
use Rattle.std.specs.Str.{bytes_eq}
use Rattle.std.proofs.Common.{refl, sym, ap, subst, ◌∙◌, cond, arith, append_assoc, append-nil, length-append}
use Rattle.std.proofs.lemmas.List.{take_all, length-map, map-append}
use Rattle.std.proofs.lemmas.List.Concat.{flat_map_single}
use Rattle.std.proofs.lemmas.List.Sums.{sum_by-cons}
use Rattle.std.proofs.lemmas.List.Folds.{list_any-append}
use Rattle.std.proofs.lemmas.Grind.{flat_map-append}
use Rattle.swift_ast.specs.declared.piece.CaseName.{CaseName}
use Rattle.swift_ast.specs.declared.piece.EnumItem.{EnumItem}
use Rattle.swift_ast.specs.declared.piece.EnumItem.TheVariants as item
use Rattle.swift_ast.specs.declared.piece.Entry.{Entry}
use Rattle.swift_ast.specs.declared.piece.Member.{Member}
use Rattle.swift_ast.specs.declared.piece.Piece.{Piece}
use Rattle.swift_ast.specs.declared.piece.PieceForm.{PieceForm}
use Rattle.swift_ast.specs.declared.piece.PieceForm.TheVariants as piece
use Rattle.swift_ast.specs.declared.piece.Source.{Source}
use Rattle.swift_ast.specs.declared.piece.StructBody.{StructBody}
use Rattle.swift_ast.specs.declared.piece.StructBody.TheVariants.{Members, LeftAside}
use Rattle.swift_ast.specs.declared.piece.StructPiece.{StructPiece}
use Rattle.swift_core.specs.declared.table.Declaration.{Declaration}
use Rattle.swift_core.specs.declared.table.EnvironmentKey.{EnvironmentKey}
use Rattle.swift_core.specs.declared.table.Signature.{Signature}
use Rattle.swift_core.specs.declared.table.Table.{Table}
use Rattle.name_map.specs.Names.{no_names, with_new_names, same_name, same_name_refl, get-new_names}
use Rattle.member_forms.specs.declared.role.Sort.{Sort}
use Rattle.member_forms.specs.Whole.{member_name, sort_of}
use Rattle.type_table.specs.Along.{greatest, along_from, along, first_places}
use Rattle.type_table.specs.Heads.{entries_at, entries_of, entry_name, entry_names, declares, declares_at, declares_struct, declaration_name, struct_head, heads_at, heads_of, heads, heads_table, key_names, next_key}
use Rattle.type_table.specs.Signatures.{Draft, signature_at, signatures, struct_draft, struct_drafts, case_draft, item_drafts, case_count, enum_drafts}
use Rattle.type_table.specs.Tables.{first_code, signature_name, struct_declaration, declarations_at, declarations, environment_key_of, environment_keys, environment_of, environment, is_enabled, table_of}
use Rattle.type_twice.specs.declared.names.Named.{Named}
use Rattle.type_twice.specs.Twice as twice
use Rattle.type_twice.specs.Twice.{stands, first_repeat, line_if, heading, heading_at, struct_heading, name_in, declared_names, repeats_heading, named_member, named_case, named_entry, item_names, struct_names, member_names_at, given_at, key_names_at, keys_of, name_of_named, is_main, is_built_in, second, twice_from}
use Rattle.table_names.specs.Lists.{split_at, given_by, map_along}
use Rattle.table_names.specs.Numbers.{or_none, first_place, alike_length}
use Rattle.table_names.specs.Pieces.{declared_by, length_declarations, made_struct, made_enum, signatures_along}
use Rattle.table_names.specs.Codes.{members_few}
use Rattle.table_names.specs.Tables.{IsTableOf, IsSmall, bare_declaration, bare_signature, bare_key, same_declarations, same_environment, same_names, same_keys, declaration_alike, key_alike, signature_alike}

-- `_` names nothing
abbrev pub NamesSomething : List ℕ → Type 0
NamesSomething w = not (bytes_eq w (codes "_")) ≡ true

-- ---- the place of a name in a list

-- where a name stands in a list of names, and not before
pub record Once (names : List (List ℕ)) (i : ℕ) (w : List ℕ) : Type 0 where
  pub before : List (List ℕ)
  pub after : List (List ℕ)
  pub split : names ≡ before ++ w ∷ after
  pub place : length before ≡ i
  pub new : list_any (same_name w) before ≡ false

few_greatest : (n : ℕ) → n ≤ 1048576 → n ≤ suc greatest
unfolding greatest
few_greatest n le = omega arith

pub once_found : (names : List (List ℕ)) (i : ℕ) (w : List ℕ) → length names ≤ 1048576 → Once names i w → fin.get (first_places names) w ≡ Some i
unfolding first_places
once_found names i w le o =
    ap (λ ns. fin.get (with_new_names no_names 0 ns) w) (take_all (suc greatest) names (few_greatest (length names) le))
    ∙ get-new_names names w
    ∙ ap (position_from (same_name w) 0) o.split
    ∙ first_place (same_name w) 0 o.before o.after w (same_name_refl w) o.new
    ∙ (let p = o.place in let h : 0 + length o.before ≡ i = omega (arith, p) in ap Some h)

-- ---- what is declared once

-- nothing of a piece stands already
pub record IsNew (before : List Piece) (p : Piece) : Type 0 where
  pub heading_new : repeats_heading before (heading p) ≡ false
  pub members_new : first_repeat (given_at p.form) (twice.member_names p) ≡ None
  pub keys_new : first_repeat (codes "isEnabled" ∷ flat_map keys_of before) (twice.key_names p) ≡ None

or_left : (a b : Option ℕ) → option_or a b ≡ None → (a ≡ None) × (b ≡ None)
or_left None b e = (refl, e)
or_left (Some x) b e = cc

no_line : (b : Bool) (line : ℕ) → line_if b line ≡ None → b ≡ false
no_line true line e = cc
no_line false line e = refl

new_of : (before : List Piece) (p : Piece) → second before p ≡ None → IsNew before p
unfolding second
new_of before p e =
    let a = or_left (line_if (repeats_heading before (heading p)) p.span.line)
    (option_or (first_repeat (given_at p.form) (twice.member_names p)) (first_repeat (codes "isEnabled" ∷ flat_map keys_of before) (twice.key_names p))) e in
    let b = or_left (first_repeat (given_at p.form) (twice.member_names p)) (first_repeat (codes "isEnabled" ∷ flat_map keys_of before) (twice.key_names p)) a.1 in
    record { heading_new = no_line (repeats_heading before (heading p)) p.span.line a.0; members_new = b.0; keys_new = b.1 }

new_from : (done before after : List Piece) (p : Piece) → twice_from done (before ++ p ∷ after) ≡ None → IsNew (done ++ before) p
new_from done [] after p e = subst (λ b. IsNew b p) (sym (append-nil done)) (new_of done p (or_left (second done p) (twice_from (done ++ p ∷ []) after) e).0)
new_from done (q ∷ before) after p e =
    subst (λ b. IsNew b p) (append_assoc done (q ∷ []) before)
    (new_from (done ++ q ∷ []) before after p (or_left (second done q) (twice_from (done ++ q ∷ []) (before ++ p ∷ after)) e).1)

pub is_new : (source : Source) (before after : List Piece) (p : Piece) → twice.twice source ≡ None → source.pieces ≡ before ++ p ∷ after → IsNew before p
unfolding twice.twice
is_new source before after p e s = new_from [] before after p (ap (twice_from []) (sym s) ∙ e)

both : (a b : Bool) → (a && b) ≡ false → b ≡ true → a ≡ false
both true b e f = cc
both false b e f = refl

stood : (names : List (List ℕ)) (w : List ℕ) → stands names w ≡ false → NamesSomething w → list_any (same_name w) names ≡ false
stood names w e n = both (list_any (same_name w) names) (not (bytes_eq w (codes "_"))) e n

no_repeat : (done : List (List ℕ)) (before after : List Named) (n : Named) → first_repeat done (before ++ n ∷ after) ≡ None → stands (done ++ map name_of_named before) n.name ≡ false
no_repeat done [] after n e = ap (λ d. stands d n.name) (append-nil done) ∙ by (stands done n.name) e
  where
    by : (b : Bool) → cond b (Some n.line) (first_repeat (done ++ n.name ∷ []) after) ≡ None → b ≡ false
    by true e = cc
    by false e = refl
no_repeat done (m ∷ before) after n e =
    ap (λ d. stands d n.name) (sym (append_assoc done (m.name ∷ []) (map name_of_named before)))
    ∙ no_repeat (done ++ m.name ∷ []) before after n (by (stands done m.name) e)
  where
    by : (b : Bool) → cond b (Some m.line) (first_repeat (done ++ m.name ∷ []) (before ++ n ∷ after)) ≡ None → first_repeat (done ++ m.name ∷ []) (before ++ n ∷ after) ≡ None
    by true e = cc
    by false e = e

-- ---- declarations

head_names : (before : List Piece) (p : Piece) → map declaration_name (heads_of before p) ≡ declared_names p
head_names before p = by (next_key before) p.form
  where
    in_struct : (key : ℕ) (p : StructPiece) (b : StructBody) → map declaration_name (struct_head key p b) ≡ name_in (struct_heading p b)
    in_struct key p LeftAside = refl
    in_struct key p (Members ms) = refl

    by : (key : ℕ) (f : PieceForm) → map declaration_name (heads_at key f) ≡ name_in (heading_at f)
    by key (piece.Struct p) = in_struct key p p.body
    by key (piece.Enum p) = refl
    by key (piece.Import w) = refl
    by key (piece.Environment es) = refl
    by key (piece.Preview s) = refl

heads_names : (ps : List Piece) → map declaration_name (heads ps) ≡ flat_map declared_names ps
unfolding heads
heads_names ps = map_along heads_of declaration_name declared_names head_names ps

-- what a declaration is named, and that it has the piece's heading
named_struct : (heads : Table) (first key : ℕ) (p : StructPiece) (b : StructBody) (d : Declaration) → struct_declaration heads first key p b ≡ d ∷ [] → struct_heading p b ≡ Some (d.name, p.is_main)
named_struct heads first key p LeftAside d e = cc
named_struct heads first key p (Members ms) d e = let h : made_struct heads first key p ms ≡ d = cc in ap (λ (x : Declaration). Some (x.name, p.is_main)) h

-- a declaration's piece has its name in its heading
named_by : (heads : Table) (first key : ℕ) (f : PieceForm) (d : Declaration) → declarations_at heads first key f ≡ d ∷ [] → (main : Bool) × (heading_at f ≡ Some (d.name, main))
named_by heads first key (piece.Struct p) d e = (p.is_main, named_struct heads first key p p.body d e)
named_by heads first key (piece.Enum p) d e = let h : made_enum heads first p ≡ d = cc in (false, ap (λ (x : Declaration). Some (x.name, false)) h)
named_by heads first key (piece.Import w) d e = cc
named_by heads first key (piece.Environment es) d e = cc
named_by heads first key (piece.Preview s) d e = cc

declared_count : (ps : List Piece) → length (flat_map declared_names ps) ≡ count_by declares ps
declared_count [] = refl
declared_count (p ∷ ps) =
    length-append (declared_names p) (flat_map declared_names ps) ∙ (λ i. by p.form i + declared_count ps i) ∙ sym (sum_by-cons (λ q. cond (declares q) 1 0) p ps)
  where
    in_struct : (p : StructPiece) (b : StructBody) → length (name_in (struct_heading p b)) ≡ cond (declares_struct b) 1 0
    in_struct p LeftAside = refl
    in_struct p (Members ms) = refl

    by : (f : PieceForm) → length (name_in (heading_at f)) ≡ cond (declares_at f) 1 0
    by (piece.Struct p) = in_struct p p.body
    by (piece.Enum p) = refl
    by (piece.Import w) = refl
    by (piece.Environment es) = refl
    by (piece.Preview s) = refl

heading_stood : (before : List Piece) (w : List ℕ) (main : Bool) (o : Option (List ℕ × Bool)) → o ≡ Some (w, main) → repeats_heading before o ≡ false → stands (flat_map declared_names before) w ≡ false
heading_stood before w main None e r = cc
heading_stood before w main (Some h) e r =
    let b = or_none ((h.1 && list_any is_main before) || is_built_in h.0) (stands (flat_map declared_names before) h.0) r in
    let n : h ≡ (w, main) = cc in
    ap (λ (x : List ℕ × Bool). stands (flat_map declared_names before) x.0) (sym n) ∙ b.1

-- A declaration is found by its name, where nothing is declared twice.
abbrev pub DeclarationsFound : Type 0
DeclarationsFound = (source : Source) (table : Table) → IsTableOf source table → IsSmall table → twice.twice source ≡ None
    → (d : ℕ) (declaration : Declaration) → slice_get table.declarations d ≡ Some declaration → NamesSomething declaration.name
    → fin.get table.names declaration.name ≡ Some d

pub declarations_found : DeclarationsFound
unfolding table_of heads_table declarations
declarations_found source table is small once d declaration e named =
    let x = declaration_alike is d declaration e in
    let by = declared_by source d x.0 x.1 in
    let same : declaration.name ≡ x.0.name = ap (λ (y : Declaration). y.name) x.2 in
    let h = named_by (heads_table source.pieces) (first_code by.before) (next_key by.before) by.one.form x.0 by.is in
    let new = is_new source by.before by.after by.one once by.split in
    let s = heading_stood by.before x.0.name h.0 (heading by.one) h.1 new.heading_new in
    let lower = declared_count by.before in let w = by.place in
    let all = heads_names source.pieces in
    let here : map declaration_name (heads source.pieces) ≡ flat_map declared_names by.before ++ x.0.name ∷ flat_map declared_names by.after =
    all ∙ ap (flat_map declared_names) by.split ∙ flat_map-append declared_names by.before (by.one ∷ by.after)
    ∙ ap (λ (o : Option (List ℕ × Bool)). flat_map declared_names by.before ++ (name_in o ++ flat_map declared_names by.after)) h.1 in
    let n = alike_length bare_declaration table.declarations (table_of source).declarations (same_declarations is) in
    let fewer : length (map declaration_name (heads source.pieces)) ≡ length table.declarations =
    ap length all ∙ declared_count source.pieces ∙ sym (length_declarations (heads_table source.pieces) source.pieces) ∙ sym n in
    ap (λ ns. fin.get ns declaration.name) (same_names is)
    ∙ ap (fin.get (first_places (map declaration_name (heads source.pieces)))) same
    ∙ once_found (map declaration_name (heads source.pieces)) d x.0.name (omega (arith, fewer, small))
    (record { before = flat_map declared_names by.before; after = flat_map declared_names by.after; split = here; place = omega (arith, lower, w); new = stood (flat_map declared_names by.before) x.0.name s (subst NamesSomething same named) })

-- ---- members

abbrev pub one_name : Member → List (List ℕ)
one_name m = member_name m ∷ []

signature_names : (first : ℕ) (ds : List Draft) → map signature_name (signatures first ds) ≡ flat_map (λ (d : Draft). d.name ∷ []) ds
signature_names first ds =
    ap (map signature_name) (signatures_along first ds)
    ∙ map_along (λ b d. signature_at first (length b) d.name d.form ∷ []) signature_name (λ (d : Draft). d.name ∷ []) (λ b d. refl) ds

flat_along : {X Y Z : Type 0} (f : List X → X → List Y) (h : Y → List Z) (k : X → List Z) → ((before : List X) (x : X) → flat_map h (f before x) ≡ k x) → (done xs : List X) → flat_map h (along_from f done xs) ≡ flat_map k xs
flat_along f h k is done [] = refl
flat_along f h k is done (x ∷ xs) =
    flat_map-append h (f done x) (along_from f (done ++ x ∷ []) xs)
    ∙ ap (λ r. r ++ flat_map h (along_from f (done ++ x ∷ []) xs)) (is done x)
    ∙ ap (λ r. k x ++ r) (flat_along f h k is (done ++ x ∷ []) xs)

member_names_are : (ms : List Member) → flat_map one_name ms ≡ map name_of_named (map named_member ms)
member_names_are [] = refl
member_names_are (m ∷ ms) = ap (λ ns. member_name m ∷ ns) (member_names_are ms)

case_names_are : (cs : List CaseName) → flat_map (λ (c : CaseName). c.name ∷ []) cs ≡ map name_of_named (map named_case cs)
case_names_are [] = refl
case_names_are (c ∷ cs) = ap (λ ns. c.name ∷ ns) (case_names_are cs)

struct_drafts_names : (heads : Table) (s : Sort) (ms : List Member) → flat_map (λ (d : Draft). d.name ∷ []) (struct_drafts heads s ms) ≡ map name_of_named (map named_member ms)
unfolding along
struct_drafts_names heads s ms =
    flat_along (λ b m. struct_draft heads s b m ∷ []) (λ (d : Draft). d.name ∷ []) one_name (λ b m. refl) [] ms ∙ member_names_are ms

abbrev item_words : EnumItem → List (List ℕ)
item_words i = map name_of_named (item_names i)

item_drafts_names : (heads : Table) (cases : ℕ) (i : EnumItem) → flat_map (λ (d : Draft). d.name ∷ []) (item_drafts heads cases i) ≡ item_words i
unfolding along
item_drafts_names heads cases (item.Cases cs) =
    flat_along (λ b c. case_draft cases b c ∷ []) (λ (d : Draft). d.name ∷ []) (λ (c : CaseName). c.name ∷ []) (λ b c. refl) [] cs ∙ case_names_are cs
item_drafts_names heads cases (item.Member m) = refl

item_words_are : (items : List EnumItem) → flat_map item_words items ≡ map name_of_named (flat_map item_names items)
item_words_are [] = refl
item_words_are (i ∷ items) = ap (λ ns. item_words i ++ ns) (item_words_are items) ∙ sym (map-append name_of_named (item_names i) (flat_map item_names items))

enum_drafts_names : (heads : Table) (items : List EnumItem) → flat_map (λ (d : Draft). d.name ∷ []) (enum_drafts heads items) ≡ map name_of_named (flat_map item_names items)
unfolding along
enum_drafts_names heads items =
    flat_along (λ b i. item_drafts heads (case_count b) i) (λ (d : Draft). d.name ∷ []) item_words (λ b i. item_drafts_names heads (case_count b) i) [] items ∙ item_words_are items

-- a declaration has a map of the names of its members, which are those of its piece
pub record Mapped (declaration : Declaration) (f : PieceForm) : Type 0 where
  pub map_is : declaration.names ≡ first_places (map signature_name declaration.members)
  pub names_are : map signature_name declaration.members ≡ map name_of_named (member_names_at f)

mapped_struct : (heads : Table) (first key : ℕ) (p : StructPiece) (b : StructBody) (d : Declaration) → struct_declaration heads first key p b ≡ d ∷ []
    → (d.names ≡ first_places (map signature_name d.members)) × (map signature_name d.members ≡ map name_of_named (struct_names b))
mapped_struct heads first key p LeftAside d e = cc
mapped_struct heads first key p (Members ms) d e =
    let h : d ≡ made_struct heads first key p ms = cc in (
      subst (λ (x : Declaration). x.names ≡ first_places (map signature_name x.members)) (sym h) refl,
      ap (λ (x : Declaration). map signature_name x.members) h ∙ signature_names first (struct_drafts heads (sort_of p.names) ms) ∙ struct_drafts_names heads (sort_of p.names) ms,
    )

pub mapped : (heads : Table) (first key : ℕ) (f : PieceForm) (d : Declaration) → declarations_at heads first key f ≡ d ∷ [] → Mapped d f
mapped heads first key (piece.Struct p) d e = let m = mapped_struct heads first key p p.body d e in record { map_is = m.0; names_are = m.1 }
mapped heads first key (piece.Enum p) d e =
    let h : d ≡ made_enum heads first p = cc in
    record {
      map_is = subst (λ (x : Declaration). x.names ≡ first_places (map signature_name x.members)) (sym h) refl;
      names_are = ap (λ (x : Declaration). map signature_name x.members) h ∙ signature_names first (enum_drafts heads p.items) ∙ enum_drafts_names heads p.items;
    }
mapped heads first key (piece.Import w) d e = cc
mapped heads first key (piece.Environment es) d e = cc
mapped heads first key (piece.Preview s) d e = cc

pub read_at : {X Y : Type 0} (f : X → Y) (xs : List X) (i : ℕ) (y : Y) → slice_get (map f xs) i ≡ Some y → (x : X) × (slice_get xs i ≡ Some x) × (f x ≡ y)
read_at f [] i y e = cc
read_at f (x ∷ xs) zero y e = let h : f x ≡ y = cc in (x, refl, h)
read_at f (x ∷ xs) (suc i) y e = read_at f xs i y e

pub reads : {X Y : Type 0} (f : X → Y) (xs : List X) (i : ℕ) (x : X) → slice_get xs i ≡ Some x → slice_get (map f xs) i ≡ Some (f x)
reads f [] i x e = cc
reads f (y ∷ xs) zero x e = let h : y ≡ x = cc in ap (λ z. Some (f z)) h
reads f (y ∷ xs) (suc i) x e = reads f xs i x e

-- a name of a list without repeats stands in it once
once_in : (done : List (List ℕ)) (ns : List Named) (i : ℕ) (w : List ℕ) → first_repeat done ns ≡ None → slice_get (map name_of_named ns) i ≡ Some w → NamesSomething w
    → (s : Once (map name_of_named ns) i w) × (list_any (same_name w) done ≡ false)
once_in done ns i w none e named =
    let x = read_at name_of_named ns i w e in
    let s = split_at ns i x.0 x.1 in
    let r = no_repeat done s.before s.after x.0 (ap (first_repeat done) (sym s.split) ∙ none) in
    let n = stood (done ++ map name_of_named s.before) w (ap (stands (done ++ map name_of_named s.before)) (sym x.2) ∙ r) named in
    let o = or_none (list_any (same_name w) done) (list_any (same_name w) (map name_of_named s.before)) (sym (list_any-append (same_name w) done (map name_of_named s.before)) ∙ n) in (
      record {
        before = map name_of_named s.before;
        after = map name_of_named s.after;
        split = ap (map name_of_named) s.split ∙ map-append name_of_named s.before (x.0 ∷ s.after) ∙ ap (λ v. map name_of_named s.before ++ v ∷ map name_of_named s.after) x.2;
        place = length-map s.before name_of_named ∙ sym s.place;
        new = o.1;
      },
      o.0,
    )

-- A member is found by its name among those of its declaration, where nothing is declared twice.
abbrev pub MembersFound : Type 0
MembersFound = (source : Source) (table : Table) → IsTableOf source table → IsSmall table → twice.twice source ≡ None
    → (d : ℕ) (declaration : Declaration) (at : ℕ) (s : Signature) → slice_get table.declarations d ≡ Some declaration → slice_get declaration.members at ≡ Some s
    → NamesSomething s.name → fin.get declaration.names s.name ≡ Some at

pub members_found : MembersFound
members_found source table is small once d declaration at s e h named =
    let x = declaration_alike is d declaration e in
    let y = signature_alike declaration x.0 at s x.2 h in
    let by = declared_by source d x.0 x.1 in
    let m = mapped (heads_table source.pieces) (first_code by.before) (next_key by.before) by.one.form x.0 by.is in
    let new = is_new source by.before by.after by.one once by.split in
    let same : s.name ≡ y.0.name = ap (λ (z : Signature). z.name) y.2 in
    let here : slice_get (map name_of_named (member_names_at by.one.form)) at ≡ Some s.name =
    ap (λ ns. slice_get ns at) (sym m.names_are) ∙ reads signature_name x.0.members at y.0 y.1 ∙ ap Some (sym same) in
    let o = once_in (given_at by.one.form) (member_names_at by.one.form) at s.name new.members_new here named in
    let l = alike_length bare_signature declaration.members x.0.members (ap (λ (z : Declaration). z.members) x.2) in
    let k : length (map signature_name x.0.members) ≡ length x.0.members = length-map x.0.members signature_name in
    let j = ap length m.names_are in
    let f = members_few table.declarations d declaration e in
    ap (λ (z : Declaration). fin.get z.names s.name) x.2
    ∙ ap (λ ns. fin.get ns s.name) (m.map_is ∙ ap first_places m.names_are)
    ∙ once_found (map name_of_named (member_names_at by.one.form)) at s.name (omega (arith, l, k, j, f, small)) o.0

-- ---- environment keys

entry_words : (es : List Entry) → map entry_name es ≡ map name_of_named (map named_entry es)
entry_words [] = refl
entry_words (e ∷ es) = ap (λ ns. e.name ∷ ns) (entry_words es)

pub keys_words : (f : PieceForm) → map entry_name (entries_at f) ≡ map name_of_named (key_names_at f)
keys_words (piece.Environment es) = entry_words es
keys_words (piece.Struct p) = refl
keys_words (piece.Enum p) = refl
keys_words (piece.Import w) = refl
keys_words (piece.Preview s) = refl

-- the names of the keys are `isEnabled` and those of the pieces
key_words : (ps : List Piece) → key_names ps ≡ codes "isEnabled" ∷ flat_map keys_of ps
unfolding key_names along
key_words ps = ap (λ ns. codes "isEnabled" ∷ ns) (all [] ps)
  where
    all : (done ps : List Piece) → along_from entry_names done ps ≡ flat_map keys_of ps
    all done [] = refl
    all done (p ∷ ps) = λ i. keys_words p.form i ++ all (done ++ p ∷ []) ps i

abbrev pub key_word : EnvironmentKey → List ℕ
key_word k = k.name

pub made_words : (heads : Table) (first : ℕ) (es : List Entry) → map key_word (environment_keys heads first es) ≡ map entry_name es
made_words heads first es =
    map_along (λ b e. environment_key_of heads first b e ∷ []) key_word (λ (e : Entry). e.name ∷ []) (λ b e. refl) es ∙ flat_map_single entry_name es

environment_words : (heads : Table) (ps : List Piece) → map key_word (along (environment_of heads) ps) ≡ flat_map keys_of ps
environment_words heads ps =
    map_along (environment_of heads) key_word keys_of (λ before p. made_words heads (first_code before) (entries_of p) ∙ keys_words p.form) ps

words_length : (heads : Table) (ps : List Piece) → length (flat_map keys_of ps) ≡ length (along (environment_of heads) ps)
words_length heads ps = ap length (sym (environment_words heads ps)) ∙ length-map (along (environment_of heads) ps) key_word

few_keys : (source : Source) (table : Table) → IsTableOf source table → IsSmall table → length (key_names source.pieces) ≤ 1048576
unfolding table_of environment
few_keys source table is small =
    let a = ap length (key_words source.pieces) in let b = words_length (heads_table source.pieces) source.pieces in
    let c = alike_length bare_key table.environment (table_of source).environment (same_environment is) in
    omega (arith, a, b, c, small)

-- where a key stands among the names of all keys
key_once : (source : Source) → twice.twice source ≡ None → (k : ℕ) (key : EnvironmentKey) → slice_get (table_of source).environment k ≡ Some key → NamesSomething key.name
    → Once (key_names source.pieces) k key.name
unfolding table_of environment along
key_once source once zero key e named =
    let h : is_enabled ≡ key = cc in
    record { before = []; after = flat_map keys_of source.pieces; split = key_words source.pieces ∙ ap (λ (x : EnvironmentKey). x.name ∷ flat_map keys_of source.pieces) h; place = refl; new = refl }
key_once source once (suc j) key e named =
    let heads = heads_table source.pieces in
    let r = given_by (environment_of heads) source.pieces j key e in
    let w = keys_words r.one.form in
    let here : slice_get (map name_of_named (key_names_at r.one.form)) r.at ≡ Some key.name =
    ap (λ ns. slice_get ns r.at) (sym w ∙ sym (made_words heads (first_code r.before) (entries_of r.one))) ∙ reads key_word (environment_of heads r.before r.one) r.at key r.stands in
    let new = is_new source r.before r.after r.one once r.split in
    let o = once_in (codes "isEnabled" ∷ flat_map keys_of r.before) (key_names_at r.one.form) r.at key.name new.keys_new here named in
    let front = codes "isEnabled" ∷ flat_map keys_of r.before in
    let l = words_length heads r.before in let p = r.place in let q = o.0.place in let c = length-append front o.0.before in
    record {
      before = front ++ o.0.before;
      after = o.0.after ++ flat_map keys_of r.after;
      split = key_words source.pieces ∙ ap (λ ps. codes "isEnabled" ∷ flat_map keys_of ps) r.split
          ∙ ap (λ ns. codes "isEnabled" ∷ ns) (flat_map-append keys_of r.before (r.one ∷ r.after))
          ∙ ap (λ ns. front ++ (ns ++ flat_map keys_of r.after)) o.0.split
          ∙ ap (λ ns. front ++ ns) (append_assoc o.0.before (key.name ∷ o.0.after) (flat_map keys_of r.after))
          ∙ sym (append_assoc front o.0.before (key.name ∷ o.0.after ++ flat_map keys_of r.after));
      place = omega (arith, l, p, q, c);
      new = list_any-append (same_name key.name) front o.0.before ∙ (λ i. o.1 i || o.0.new i);
    }

-- An environment key is found by its name, where nothing is declared twice.
abbrev pub KeysFound : Type 0
KeysFound = (source : Source) (table : Table) → IsTableOf source table → IsSmall table → twice.twice source ≡ None
    → (k : ℕ) (key : EnvironmentKey) → slice_get table.environment k ≡ Some key → NamesSomething key.name → fin.get table.keys key.name ≡ Some k

pub keys_found : KeysFound
unfolding table_of heads_table
keys_found source table is small once k key e named =
    let x = key_alike is k key e in
    let same : key.name ≡ x.0.name = ap (λ (y : EnvironmentKey). y.name) x.2 in
    ap (λ ns. fin.get ns key.name) (same_keys is) ∙ ap (fin.get (first_places (key_names source.pieces))) same
    ∙ once_found (key_names source.pieces) k x.0.name (few_keys source table is small) (key_once source once k x.0 x.1 (subst NamesSomething same named))
