-- The signature of a property says that it begins with what is written exactly where something is written.
use Rattle.std.specs.Prelude.{◌≡◌, ℕ, ◌+◌, Bool, true, false, ◌||◌, List, [], ◌∷◌, ◌++◌, Option, Some, None, length, map, slice_get}
use Rattle.std.specs.FinMap as fin
use Rattle.std.specs.List.{count_by, sum_by, flat_map}
use Rattle.std.proofs.Common.{refl, sym, ap, subst, ◌∙◌, cond, arith, length-append}
use Rattle.std.proofs.lemmas.List.{length-map}
use Rattle.std.proofs.lemmas.List.Sums.{sum_by-append, sum_by-cons}
use Rattle.std.proofs.lemmas.Option.{slice_get_within}
use Rattle.swift_ast.specs.declared.piece.CaseName.{CaseName}
use Rattle.swift_ast.specs.declared.piece.EnumItem.{EnumItem}
use Rattle.swift_ast.specs.declared.piece.EnumItem.TheVariants as item
use Rattle.swift_ast.specs.declared.piece.EnumPiece.{EnumPiece}
use Rattle.swift_ast.specs.declared.piece.Entry.{Entry}
use Rattle.swift_ast.specs.declared.piece.Member.{Member}
use Rattle.swift_ast.specs.declared.piece.MemberForm.{MemberForm}
use Rattle.swift_ast.specs.declared.piece.MemberForm.TheVariants as member
use Rattle.swift_ast.specs.declared.piece.Modifier.{Modifier}
use Rattle.swift_ast.specs.declared.piece.Piece.{Piece}
use Rattle.swift_ast.specs.declared.piece.PieceForm.{PieceForm}
use Rattle.swift_ast.specs.declared.piece.PieceForm.TheVariants as piece
use Rattle.swift_ast.specs.declared.piece.Source.{Source}
use Rattle.swift_ast.specs.declared.piece.StructBody.{StructBody}
use Rattle.swift_ast.specs.declared.piece.StructBody.TheVariants.{Members, LeftAside}
use Rattle.swift_ast.specs.declared.piece.StructPiece.{StructPiece}
use Rattle.swift_ast.specs.declared.tree.Binder.{Binder}
use Rattle.swift_ast.specs.declared.tree.Binder.TheVariants.{Let, Var}
use Rattle.swift_ast.specs.declared.tree.Expr.{Expr}
use Rattle.swift_ast.specs.declared.type_name.TypeName.{TypeName, out-TypeName}
use Rattle.swift_ast.specs.declared.type_name.TypeName.TheOpen.{TypeName-F}
use Rattle.swift_core.specs.Context as cores
use Rattle.swift_core.specs.declared.table.Argument.{Argument}
use Rattle.swift_core.specs.declared.table.Declaration.{Declaration}
use Rattle.swift_core.specs.declared.table.Initial.{Initial}
use Rattle.swift_core.specs.declared.table.Initial.TheVariants as initial
use Rattle.swift_core.specs.declared.table.MemberPlace.{MemberPlace}
use Rattle.swift_core.specs.declared.table.Signature.{Signature}
use Rattle.swift_core.specs.declared.table.SignatureForm.{SignatureForm}
use Rattle.swift_core.specs.declared.table.SignatureForm.TheVariants as form
use Rattle.swift_core.specs.declared.table.Table.{Table}
use Rattle.type_base.specs.Claims.{some_is}
use Rattle.member_forms.specs.declared.role.Role.{Role}
use Rattle.member_forms.specs.declared.role.Role.TheVariants as role
use Rattle.member_forms.specs.Marks.{is_private, environment_key}
use Rattle.member_forms.specs.Roles.{role_of}
use Rattle.member_forms.specs.Whole.{sort_of}
use Rattle.type_table.specs.Along.{narrow, along}
use Rattle.type_table.specs.Heads.{declares, heads_table, next_declaration, next_key}
use Rattle.type_table.specs.Signatures.{nil_at, initial_of, is_let, argument_by, key_form, key_at, stored_form, computed_form, function_form, member_form}
use Rattle.type_table.specs.Tables.{codes_in, piece_size, item_size, struct_size, member_start, member_place, member_places, enum_starts, struct_places, first_key, first_code, places_at, places_of, places, declarations_at, declarations_of, declarations, table_of}
use Rattle.table_names.specs.Lists.{each_at, gives_at}
use Rattle.table_names.specs.Numbers.{some_at, alike_length}
use Rattle.table_names.specs.Names.{read_at}
use Rattle.table_names.specs.Pieces.{made_struct, made_enum, length_declarations, length_places, places_length}
use Rattle.table_names.specs.Codes.{narrow_small, places_few}
use Rattle.table_places.specs.Places.{input_number, slot_number, computed_none, function_none, enum_has_none}
use Rattle.table_places.specs.Members.{of_member}
use Rattle.table_fits.specs.Nils.{struct_at, same_one}
use Rattle.table_names.specs.Tables.{IsTableOf, IsSmall, bare_form, bare_declaration, same_declarations, same_members, declaration_alike, signature_alike}

-- the initial value of a property is the written one exactly where one is written
abbrev pub Starts : Argument → Option Expr → Type 0
Starts a (Some e) = cores.initial_of a ≡ Some initial.Written
Starts a None = cores.initial_of a ≡ Some initial.Written → ⊥

-- this is so of a stored property and a slot that are written like this
abbrev pub StartsAsWritten : SignatureForm → MemberForm → Type 0
StartsAsWritten (form.Stored at b t a) (member.Stored binder name declared value) = Starts a value
StartsAsWritten (form.State slot t a) (member.Stored binder name declared value) = Starts a value
StartsAsWritten s f = Unit {0}

-- ---- a member that is written

taken : (never : Bool) (o : Option Initial) → cores.initial_of (argument_by never o) ≡ o
taken true None = refl
taken false None = refl
taken true (Some i) = refl
taken false (Some i) = refl

nil_layer : (layer : TypeName-F TypeName) → nil_at layer ≡ Some initial.Written → ⊥
nil_layer (TypeName-F.Optional t n) e = cc
nil_layer (TypeName-F.Name w) e = cc
nil_layer (TypeName-F.List t) e = cc

not_written : (b : Binder) (t : Option TypeName) → initial_of b t None ≡ Some initial.Written → ⊥
not_written Var (Some t) e = nil_layer (out-TypeName t) e
not_written Var None e = cc
not_written Let t e = cc

starts_by : (never : Bool) (b : Binder) (t : Option TypeName) (v : Option Expr) → Starts (argument_by never (initial_of b t v)) v
starts_by never b t (Some e) = taken never (Some initial.Written)
starts_by never b t None = λ e. not_written b t (sym (taken never (initial_of b t None)) ∙ e)

key_starts : (o : Option ℕ) (f : MemberForm) → StartsAsWritten (key_form o) f
key_starts None f = tt
key_starts (Some k) f = tt

read_starts : (heads : Table) (o : Option (List ℕ)) (f : MemberForm) → StartsAsWritten (key_at heads o) f
read_starts heads None f = tt
read_starts heads (Some w) f = key_starts (fin.get heads.keys w) f

none_starts : (s : SignatureForm) (f : MemberForm) → input_number s ≡ None → slot_number s ≡ None → StartsAsWritten s f
none_starts (form.Stored n b t a) f e h = cc
none_starts (form.State n t a) f e h = cc
none_starts (form.Binding n t) f e h = tt
none_starts (form.Static t) f e h = tt
none_starts (form.Environment n) f e h = tt
none_starts (form.Case n) f e h = tt
none_starts (form.Computed t) f e h = tt
none_starts (form.Function ps t m) f e h = tt
none_starts form.BuilderProperty f e h = tt
none_starts (form.BuilderFunction ps) f e h = tt
none_starts form.Reduce f e h = tt
none_starts form.Unfit f e h = tt

stored_starts : (heads : Table) (i j : ℕ) (r : Role) (ms : List Modifier) (b : Binder) (w : List ℕ) (t : Option TypeName) (v : Option Expr)
    → StartsAsWritten (stored_form heads i j r ms b t v) (member.Stored b w t v)
stored_starts heads i j role.Stored ms b w t v = starts_by (is_private ms || is_let b) b t v
stored_starts heads i j role.State ms b w t v = starts_by (is_private ms || is_let b) b t v
stored_starts heads i j role.Environment ms b w t v = read_starts heads (environment_key ms) (member.Stored b w t v)
stored_starts heads i j role.Binding ms b w t v = tt
stored_starts heads i j role.Static ms b w t v = tt
stored_starts heads i j role.Computed ms b w t v = tt
stored_starts heads i j role.Function ms b w t v = tt
stored_starts heads i j role.Mutating ms b w t v = tt
stored_starts heads i j role.BuilderProperty ms b w t v = tt
stored_starts heads i j role.BuilderFunction ms b w t v = tt
stored_starts heads i j role.Reduce ms b w t v = tt
stored_starts heads i j role.Unfit ms b w t v = tt

member_starts : (heads : Table) (i j : ℕ) (r : Role) (ms : List Modifier) (f : MemberForm) → StartsAsWritten (member_form heads i j r ms f) f
member_starts heads i j r ms (member.Stored b w t v) = stored_starts heads i j r ms b w t v
member_starts heads i j r ms (member.Computed w t body) = let n = computed_none heads r t in none_starts (computed_form heads r t) (member.Computed w t body) n.0 n.1
member_starts heads i j r ms (member.Function w ps t body) = let n = function_none heads r ps t in none_starts (function_form heads r ps t) (member.Function w ps t body) n.0 n.1

-- it doesn't depend on types
to_bare : (s : SignatureForm) (f : MemberForm) → StartsAsWritten s f → StartsAsWritten (bare_form s) f
to_bare (form.Stored n b t a) (member.Stored c w u v) h = h
to_bare (form.Stored n b t a) (member.Computed w u body) h = tt
to_bare (form.Stored n b t a) (member.Function w ps u body) h = tt
to_bare (form.State n t a) (member.Stored c w u v) h = h
to_bare (form.State n t a) (member.Computed w u body) h = tt
to_bare (form.State n t a) (member.Function w ps u body) h = tt
to_bare (form.Binding n t) f h = tt
to_bare (form.Static t) f h = tt
to_bare (form.Environment n) f h = tt
to_bare (form.Case n) f h = tt
to_bare (form.Computed t) f h = tt
to_bare (form.Function ps t m) f h = tt
to_bare form.BuilderProperty f h = tt
to_bare (form.BuilderFunction ps) f h = tt
to_bare form.Reduce f h = tt
to_bare form.Unfit f h = tt

from_bare : (s : SignatureForm) (f : MemberForm) → StartsAsWritten (bare_form s) f → StartsAsWritten s f
from_bare (form.Stored n b t a) (member.Stored c w u v) h = h
from_bare (form.Stored n b t a) (member.Computed w u body) h = tt
from_bare (form.Stored n b t a) (member.Function w ps u body) h = tt
from_bare (form.State n t a) (member.Stored c w u v) h = h
from_bare (form.State n t a) (member.Computed w u body) h = tt
from_bare (form.State n t a) (member.Function w ps u body) h = tt
from_bare (form.Binding n t) f h = tt
from_bare (form.Static t) f h = tt
from_bare (form.Environment n) f h = tt
from_bare (form.Case n) f h = tt
from_bare (form.Computed t) f h = tt
from_bare (form.Function ps t m) f h = tt
from_bare form.BuilderProperty f h = tt
from_bare (form.BuilderFunction ps) f h = tt
from_bare form.Reduce f h = tt
from_bare form.Unfit f h = tt

-- ---- what is written at each place of a piece

abbrev pub form_of : Member → Option MemberForm
form_of m = Some m.form

abbrev pub no_form_case : CaseName → Option MemberForm
no_form_case c = None

abbrev pub no_form_entry : Entry → Option MemberForm
no_form_entry e = None

abbrev pub item_written : EnumItem → List (Option MemberForm)
item_written (item.Cases cs) = map no_form_case cs
item_written (item.Member m) = form_of m ∷ []

abbrev pub body_written : StructBody → List (Option MemberForm)
body_written LeftAside = []
body_written (Members ms) = map form_of ms

-- for each member, case and key of a piece the form of the member; a case and a key have none
abbrev pub written_in : PieceForm → List (Option MemberForm)
written_in (piece.Struct p) = body_written p.body
written_in (piece.Enum p) = flat_map item_written p.items
written_in (piece.Environment es) = map no_form_entry es
written_in _ = []

item_length : (i : EnumItem) → length (item_written i) ≡ item_size i
item_length (item.Cases cs) = length-map cs no_form_case
item_length (item.Member m) = refl

items_length : (is : List EnumItem) → length (flat_map item_written is) ≡ sum_by item_size is
items_length [] = refl
items_length (i ∷ is) = length-append (item_written i) (flat_map item_written is) ∙ (λ j. item_length i j + items_length is j) ∙ sym (sum_by-cons item_size i is)

body_length : (b : StructBody) → length (body_written b) ≡ struct_size b
body_length LeftAside = refl
body_length (Members ms) = length-map ms form_of

written_length : (f : PieceForm) → length (written_in f) ≡ piece_size f
written_length (piece.Struct p) = body_length p.body
written_length (piece.Enum p) = items_length p.items
written_length (piece.Environment es) = length-map es no_form_entry
written_length (piece.Import w) = refl
written_length (piece.Preview s) = refl

-- ---- in a table

-- The member that is written at this place of this piece starts as it is written, in its signature.
abbrev pub StartsLaw : Type 0
StartsLaw = (source : Source) (table : Table) → IsTableOf source table → IsSmall table
    → (before after : List Piece) (one : Piece) (at : ℕ) (f : MemberForm) (place : MemberPlace) → source.pieces ≡ before ++ one ∷ after
    → slice_get (written_in one.form) at ≡ Some (Some f) → slice_get table.members (sum_by codes_in before + at) ≡ Some place
    → (d : ℕ) (declaration : Declaration) (s : Signature) → place.declaration ≡ Some d → slice_get table.declarations d ≡ Some declaration
    → slice_get declaration.members place.at ≡ Some s → StartsAsWritten s.form f

-- what a place of a piece says, where a member is written there
record PlaceOf (d at : ℕ) (p : MemberPlace) : Type 0 where
  owner : p.declaration ≡ Some d
  at_is : p.at ≡ narrow at

place_in : (d : ℕ) (starts : List ℕ) (at : ℕ) (p : MemberPlace) → slice_get (member_places d starts) at ≡ Some p → PlaceOf d at p
unfolding member_places
place_in d starts at p e =
    let q = each_at (member_place d) starts at p e in
    record { owner = ap (λ (x : MemberPlace). x.declaration) q.is; at_is = ap (λ (x : MemberPlace). x.at) q.is ∙ ap narrow (sym q.stands.place) }

place_in_body : (d : ℕ) (b : StructBody) (at : ℕ) (p : MemberPlace) → slice_get (struct_places d b) at ≡ Some p → PlaceOf d at p
place_in_body d LeftAside at p e = cc
place_in_body d (Members ms) at p e = place_in d (map member_start ms) at p e

place_of : (d key : ℕ) (f : PieceForm) (at : ℕ) (g : MemberForm) (p : MemberPlace) → slice_get (written_in f) at ≡ Some (Some g) → slice_get (places_at d key f) at ≡ Some p → PlaceOf d at p
place_of d key (piece.Struct x) at g p w e = place_in_body d x.body at p e
place_of d key (piece.Enum x) at g p w e = place_in d (enum_starts x.items) at p e
place_of d key (piece.Environment es) at g p w e = let r = read_at no_form_entry es at (Some g) w in let h = r.2 in cc
place_of d key (piece.Import v) at g p w e = cc
place_of d key (piece.Preview v) at g p w e = cc

-- a member of a struct
struct_starts : (source : Source) (before after : List Piece) (one : Piece) (p : StructPiece) (b : StructBody) (at : ℕ) (f : MemberForm) (declaration : Declaration) (s : Signature)
    → source.pieces ≡ before ++ one ∷ after → one.form ≡ piece.Struct p → p.body ≡ b → slice_get (body_written b) at ≡ Some (Some f)
    → slice_get (along (declarations_of (heads_table source.pieces)) source.pieces) (count_by declares before) ≡ Some declaration → slice_get declaration.members at ≡ Some s → StartsAsWritten s.form f
struct_starts source before after one p LeftAside at f declaration s split is body w e h = cc
struct_starts source before after one p (Members ms) at f declaration s split is body w e h =
    let heads = heads_table source.pieces in
    let made = made_struct heads (first_code before) (next_key before) p ms in
    let there = ap (λ ps. slice_get (along (declarations_of heads) ps) (count_by declares before)) split ∙ struct_at heads before after one p ms is body in
    let same : declaration ≡ made = same_one (slice_get (along (declarations_of heads) source.pieces) (count_by declares before)) declaration made e there in
    let m = of_member heads (first_code before) (sort_of p.names) ms at s (ap (λ (x : Declaration). slice_get x.members at) (sym same) ∙ h) in
    let r = read_at form_of ms at (Some f) w in
    let it : m.written ≡ r.0 = same_one (slice_get ms at) m.written r.0 m.stands r.1 in
    let g : m.written.form ≡ f = ap (λ (x : Member). x.form) it ∙ some_is r.0.form f r.2 in
    subst (λ x. StartsAsWritten x f) (sym m.form_is)
    (subst (StartsAsWritten (member_form heads m.inputs m.slots (role_of (sort_of p.names) m.written) m.written.modifiers m.written.form)) g
    (member_starts heads m.inputs m.slots (role_of (sort_of p.names) m.written) m.written.modifiers m.written.form))

enum_starts_so : (source : Source) (before after : List Piece) (one : Piece) (p : EnumPiece) (at : ℕ) (f : MemberForm) (declaration : Declaration) (s : Signature)
    → source.pieces ≡ before ++ one ∷ after → one.form ≡ piece.Enum p
    → slice_get (along (declarations_of (heads_table source.pieces)) source.pieces) (count_by declares before) ≡ Some declaration → slice_get declaration.members at ≡ Some s → StartsAsWritten s.form f
enum_starts_so source before after one p at f declaration s split is e h =
    let heads = heads_table source.pieces in
    let made = made_enum heads (first_code before) p in
    let first : slice_get (declarations_of heads before one) 0 ≡ Some made = ap (λ x. slice_get (declarations_at heads (first_code before) (next_key before) x) 0) is in
    let l = length_declarations heads before in
    let z : count_by declares before ≡ length (along (declarations_of heads) before) + 0 = omega (arith, l) in
    let there : slice_get (along (declarations_of heads) source.pieces) (count_by declares before) ≡ Some made =
    (λ i. slice_get (along (declarations_of heads) (split i)) (z i)) ∙ gives_at (declarations_of heads) before after one 0 made first in
    let same : declaration ≡ made = same_one (slice_get (along (declarations_of heads) source.pieces) (count_by declares before)) declaration made e there in
    let n = enum_has_none heads (first_code before) p.items at s (ap (λ (x : Declaration). slice_get x.members at) (sym same) ∙ h) in
    none_starts s.form f n.0 n.1

piece_starts : (source : Source) (before after : List Piece) (one : Piece) (x : PieceForm) (at : ℕ) (f : MemberForm) (declaration : Declaration) (s : Signature)
    → source.pieces ≡ before ++ one ∷ after → one.form ≡ x → slice_get (written_in x) at ≡ Some (Some f)
    → slice_get (along (declarations_of (heads_table source.pieces)) source.pieces) (count_by declares before) ≡ Some declaration → slice_get declaration.members at ≡ Some s → StartsAsWritten s.form f
piece_starts source before after one (piece.Struct p) at f declaration s split is w e h = struct_starts source before after one p p.body at f declaration s split is refl w e h
piece_starts source before after one (piece.Enum p) at f declaration s split is w e h = enum_starts_so source before after one p at f declaration s split is e h
piece_starts source before after one (piece.Environment es) at f declaration s split is w e h = let r = read_at no_form_entry es at (Some f) w in let k = r.2 in cc
piece_starts source before after one (piece.Import v) at f declaration s split is w e h = cc
piece_starts source before after one (piece.Preview v) at f declaration s split is w e h = cc

pub starts_law : StartsLaw
unfolding table_of places declarations
starts_law source table is small before after one at f place split w e d declaration s owner se sh =
    let heads = heads_table source.pieces in
    let lw = slice_get_within (written_in one.form) at (Some f) w in
    let a = written_length one.form in let b = places_length (next_declaration before) (first_key before) one.form in
    let p = some_at (places_of before one) at (omega (arith, lw, a, b)) in
    let l = length_places before in
    let there : slice_get table.members (sum_by codes_in before + at) ≡ Some p.0 =
    ap (λ ms. slice_get ms (sum_by codes_in before + at)) (same_members is) ∙ (λ i. slice_get (along places_of (split i)) (sym l i + at)) ∙ gives_at places_of before after one at p.0 p.1 in
    let same : place ≡ p.0 = same_one (slice_get table.members (sum_by codes_in before + at)) place p.0 e there in
    let q = place_of (next_declaration before) (first_key before) one.form at f p.0 w p.1 in
    let lt = slice_get_within table.members (sum_by codes_in before + at) place e in let few = places_few is in
    let n = alike_length bare_declaration table.declarations (table_of source).declarations (same_declarations is) in
    let ld = length_declarations heads source.pieces in
    let c : count_by declares source.pieces ≡ count_by declares before + count_by declares (one ∷ after) =
    ap (count_by declares) split ∙ sum_by-append (λ x. cond (declares x) 1 0) before (one ∷ after) in
    let number : d ≡ count_by declares before =
    some_is d (count_by declares before) (sym owner ∙ ap (λ (x : MemberPlace). x.declaration) same ∙ q.owner ∙ ap Some (narrow_small (count_by declares before) (omega (arith, n, ld, c, small)))) in
    let at_is : place.at ≡ at = ap (λ (x : MemberPlace). x.at) same ∙ q.at_is ∙ narrow_small at (omega (arith, lt, few, small)) in
    let x = declaration_alike is d declaration se in
    let y = signature_alike declaration x.0 at s x.2 (ap (slice_get declaration.members) (sym at_is) ∙ sh) in
    let t = piece_starts source before after one one.form at f x.0 y.0 split refl w (ap (slice_get (along (declarations_of heads) source.pieces)) (sym number) ∙ x.1) y.1 in
    from_bare s.form f (subst (λ z. StartsAsWritten z f) (sym (ap (λ (z : Signature). z.form) y.2)) (to_bare y.0.form f t))
