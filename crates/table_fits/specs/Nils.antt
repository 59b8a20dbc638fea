-- Where nil is an initial value, the table knows the type that is written, and no other.
use Rattle.std.specs.Prelude.{◌≡◌, ℕ, zero, suc, ◌+◌, Bool, true, false, ◌||◌, List, [], ◌∷◌, ◌++◌, Option, Some, None, length, if◌then◌else◌, slice_get}
use Rattle.std.specs.List.{count_by}
use Rattle.std.proofs.Common.{refl, sym, ap, subst, ◌∙◌, inl, inr, cond, arith}
use Rattle.std.proofs.lemmas.List.Sums.{sum_by-cons}
use Rattle.swift_ast.specs.declared.piece.Entry.{Entry}
use Rattle.swift_ast.specs.declared.piece.Member.{Member}
use Rattle.swift_ast.specs.declared.piece.MemberForm.{MemberForm}
use Rattle.swift_ast.specs.declared.piece.MemberForm.TheVariants as member
use Rattle.swift_ast.specs.declared.piece.Modifier.{Modifier}
use Rattle.swift_ast.specs.declared.piece.Piece.{Piece}
use Rattle.swift_ast.specs.declared.piece.PieceForm.{PieceForm}
use Rattle.swift_ast.specs.declared.piece.PieceForm.TheVariants as piece
use Rattle.swift_ast.specs.declared.piece.Source.{Source}
use Rattle.swift_ast.specs.declared.piece.StructBody.{StructBody}
use Rattle.swift_ast.specs.declared.piece.StructBody.TheVariants.{Members, LeftAside}
use Rattle.swift_ast.specs.declared.piece.StructPiece.{StructPiece}
use Rattle.swift_ast.specs.declared.tree.Binder.{Binder}
use Rattle.swift_ast.specs.declared.tree.Expr.{Expr}
use Rattle.swift_ast.specs.declared.type_name.TypeName.{TypeName}
use Rattle.swift_core.specs.declared.table.Declaration.{Declaration}
use Rattle.swift_core.specs.declared.table.Initial.TheVariants as initial
use Rattle.swift_core.specs.declared.table.Signature.{Signature}
use Rattle.swift_core.specs.declared.table.SignatureForm.{SignatureForm}
use Rattle.swift_core.specs.declared.table.SignatureForm.TheVariants as form
use Rattle.swift_core.specs.declared.table.Table.{Table}
use Rattle.swift_core.specs.declared.ty.Ty.{Ty}
use Rattle.member_forms.specs.declared.role.Role.{Role}
use Rattle.member_forms.specs.declared.role.Role.TheVariants as role
use Rattle.member_forms.specs.Marks.{is_private, environment_key}
use Rattle.member_forms.specs.Roles.{role_of}
use Rattle.member_forms.specs.Whole.{sort_of}
use Rattle.type_base.specs.Claims.{some_is}
use Rattle.type_table.specs.Along.{narrow, along}
use Rattle.type_table.specs.Heads.{declares, entries_of, heads_table, next_key}
use Rattle.type_table.specs.Signatures.{is_let, argument_by, stored_form, member_form}
use Rattle.type_table.specs.Tables.{first_code, struct_declaration, declarations_at, declarations, declarations_of, table_of}
use Rattle.known_rules.specs.Known.{Open, opens, opens_from, piece_opens, struct_opens, member_opens, entry_opens, opens_if, member_value, member_value_at, entry_value, filled, filled_form, filled_declaration, typed_at, with_type, found, turn, completed}
use Rattle.table_names.specs.Lists.{get_append, gives_at}
use Rattle.table_names.specs.Pieces.{made_struct, length_declarations}
use Rattle.table_places.specs.Members.{of_member, nil_argument, nil_form, no_nil_read, false_true}
use Rattle.table_fits.specs.Fills.{rounds_stay, Changed, get_changed}

-- ---- which properties get a type

-- a stored member of a struct without a written type and with an initial value, by its place
pub record FromPiece (d : ℕ) (f : PieceForm) (o : Open) : Type 0 where
  pub owner : o.declaration ≡ Some d
  pub struct : StructPiece
  pub members : List Member
  pub is_struct : f ≡ piece.Struct struct
  pub body_is : struct.body ≡ Members members
  pub written : Member
  pub stands : slice_get members o.at ≡ Some written
  pub value : member_value written ≡ Some o.value

record FromMembers (d at : ℕ) (ms : List Member) (o : Open) : Type 0 where
  owner : o.declaration ≡ Some d
  behind : ℕ
  at_is : o.at ≡ at + behind
  written : Member
  stands : slice_get ms behind ≡ Some written
  value : member_value written ≡ Some o.value

opened : (d : Option ℕ) (at : ℕ) (v : Option Expr) (i : ℕ) (o : Open) → slice_get (opens_if d at v) i ≡ Some o → (o.declaration ≡ d) × (o.at ≡ at) × (v ≡ Some o.value)
opened d at None i o e = cc
opened d at (Some v) zero o e =
    let h : o ≡ record { declaration = d; at = at; value = v } = cc in (ap (λ (x : Open). x.declaration) h, ap (λ (x : Open). x.at) h, ap (λ (x : Open). Some x.value) (sym h))
opened d at (Some v) (suc i) o e = cc

from_members : (d at : ℕ) (ms : List Member) (i : ℕ) (o : Open) → slice_get (member_opens d at ms) i ≡ Some o → FromMembers d at ms o
from_members d at [] i o e = cc
from_members d at (m ∷ ms) i o e = elim (get_append (opens_if (Some d) at (member_value m)) (member_opens d (suc at) ms) i o e) [
  | inl h ↦
      let w = opened (Some d) at (member_value m) i o h in
      record { owner = w.0; behind = zero; at_is = w.1 ∙ (let z : at ≡ at + 0 = omega arith in z); written = m; stands = refl; value = w.2 }
  | inr h ↦
      let r = from_members d (suc at) ms h.0 o h.2 in let p = r.at_is in
      record { owner = r.owner; behind = suc r.behind; at_is = omega (arith, p); written = r.written; stands = r.stands; value = r.value }
]

from_entries : (at : ℕ) (es : List Entry) (i : ℕ) (o : Open) → slice_get (entry_opens at es) i ≡ Some o → o.declaration ≡ None
from_entries at [] i o e = cc
from_entries at (x ∷ es) i o e = elim (get_append (opens_if None at (entry_value x)) (entry_opens (narrow (suc at)) es) i o e) [
  | inl h ↦ (opened None at (entry_value x) i o h).0
  | inr h ↦ from_entries (narrow (suc at)) es h.0 o h.2
]

from_body : (d : ℕ) (p : StructPiece) (b : StructBody) (i c : ℕ) (o : Open) → p.body ≡ b → slice_get (struct_opens d b) i ≡ Some o → o.declaration ≡ Some c → FromPiece d (piece.Struct p) o
from_body d p LeftAside i c o s e f = cc
from_body d p (Members ms) i c o s e f =
    let r = from_members d 0 ms i o e in let q = r.at_is in
    let at_is : o.at ≡ r.behind = omega (arith, q) in
    record {
      owner = r.owner;
      struct = p;
      members = ms;
      is_struct = refl;
      body_is = s;
      written = r.written;
      stands = ap (slice_get ms) at_is ∙ r.stands;
      value = r.value;
    }

from_piece : (d key : ℕ) (f : PieceForm) (i c : ℕ) (o : Open) → slice_get (piece_opens d key f) i ≡ Some o → o.declaration ≡ Some c → FromPiece d f o
from_piece d key (piece.Struct p) i c o e h = from_body d p p.body i c o refl e h
from_piece d key (piece.Environment es) i c o e h = let n : None ≡ Some c = sym (from_entries key es i o e) ∙ h in cc
from_piece d key (piece.Enum p) i c o e h = cc
from_piece d key (piece.Import w) i c o e h = cc
from_piece d key (piece.Preview s) i c o e h = cc

pub record FromPieces (d : ℕ) (ps : List Piece) (o : Open) : Type 0 where
  pub before : List Piece
  pub one : Piece
  pub after : List Piece
  pub split : ps ≡ before ++ one ∷ after
  pub from : FromPiece (d + count_by declares before) one.form o

pub from_pieces : (d key : ℕ) (ps : List Piece) (i c : ℕ) (o : Open) → slice_get (opens_from d key ps) i ≡ Some o → o.declaration ≡ Some c → FromPieces d ps o
from_pieces d key [] i c o e h = cc
from_pieces d key (p ∷ ps) i c o e h =
    elim (get_append (piece_opens d key p.form) (opens_from (d + (if declares p then 1 else 0)) (narrow (key + length (entries_of p))) ps) i o e) [
      | inl w ↦
          let z : d + 0 ≡ d = omega arith in
          record { before = []; one = p; after = ps; split = refl; from = subst (λ n. FromPiece n p.form o) (sym z) (from_piece d key p.form i c o w h) }
      | inr w ↦
          let r = from_pieces (d + (if declares p then 1 else 0)) (narrow (key + length (entries_of p))) ps w.0 c o w.2 h in
          let s = sum_by-cons (λ q. cond (declares q) 1 0) p r.before in
          let z : d + (if declares p then 1 else 0) + count_by declares r.before ≡ d + count_by declares (p ∷ r.before) = omega (arith, s) in
          record { before = p ∷ r.before; one = r.one; after = r.after; split = ap (λ qs. p ∷ qs) r.split; from = subst (λ n. FromPiece n r.one.form o) z r.from }
    ]

-- ---- no such property starts with nil

written_by : (never : Bool) → nil_argument (argument_by never (Some initial.Written)) ≡ false
written_by true = refl
written_by false = refl

stored_written : (heads : Table) (i j : ℕ) (r : Role) (ms : List Modifier) (b : Binder) (t : Option TypeName) (v : Expr) → nil_form (stored_form heads i j r ms b t (Some v)) ≡ false
stored_written heads i j role.Stored ms b t v = written_by (is_private ms || is_let b)
stored_written heads i j role.State ms b t v = written_by (is_private ms || is_let b)
stored_written heads i j role.Environment ms b t v = no_nil_read heads (environment_key ms)
stored_written heads i j role.Binding ms b t v = refl
stored_written heads i j role.Static ms b t v = refl
stored_written heads i j role.Computed ms b t v = refl
stored_written heads i j role.Function ms b t v = refl
stored_written heads i j role.Mutating ms b t v = refl
stored_written heads i j role.BuilderProperty ms b t v = refl
stored_written heads i j role.BuilderFunction ms b t v = refl
stored_written heads i j role.Reduce ms b t v = refl
stored_written heads i j role.Unfit ms b t v = refl

value_written : (heads : Table) (i j : ℕ) (r : Role) (ms : List Modifier) (f : MemberForm) (v : Expr) → member_value_at f ≡ Some v → nil_form (member_form heads i j r ms f) ≡ false
value_written heads i j r ms (member.Stored b w (Some t) x) v e = cc
value_written heads i j r ms (member.Stored b w None None) v e = cc
value_written heads i j r ms (member.Stored b w None (Some x)) v e = stored_written heads i j r ms b None x
value_written heads i j r ms (member.Computed w t body) v e = cc
value_written heads i j r ms (member.Function w ps t body) v e = cc

-- a member that starts with nil, by its place
pub record NilAt (table : Table) (d at : ℕ) (f : SignatureForm) : Type 0 where
  pub declaration : Declaration
  pub declared : slice_get table.declarations d ≡ Some declaration
  pub signature : Signature
  pub stands : slice_get declaration.members at ≡ Some signature
  pub is : f ≡ signature.form

pub same_one : {X : Type 0} (o : Option X) (x y : X) → o ≡ Some x → o ≡ Some y → x ≡ y
same_one o x y e f = some_is x y (sym e ∙ f)

pub struct_at : (heads : Table) (before after : List Piece) (one : Piece) (p : StructPiece) (ms : List Member) → one.form ≡ piece.Struct p → p.body ≡ Members ms
    → slice_get (along (declarations_of heads) (before ++ one ∷ after)) (count_by declares before) ≡ Some (made_struct heads (first_code before) (next_key before) p ms)
struct_at heads before after one p ms e f =
    let first : slice_get (declarations_of heads before one) 0 ≡ Some (made_struct heads (first_code before) (next_key before) p ms) =
    ap (λ x. slice_get (declarations_at heads (first_code before) (next_key before) x) 0) e ∙ ap (λ b. slice_get (struct_declaration heads (first_code before) (next_key before) p b) 0) f in
    let l = length_declarations heads before in
    let z : count_by declares before ≡ length (along (declarations_of heads) before) + 0 = omega (arith, l) in
    ap (slice_get (along (declarations_of heads) (before ++ one ∷ after))) z ∙ gives_at (declarations_of heads) before after one 0 (made_struct heads (first_code before) (next_key before) p ms) first

open_not_nil : (source : Source) (i d : ℕ) (o : Open) (f : SignatureForm) → slice_get (opens source) i ≡ Some o → o.declaration ≡ Some d → NilAt (table_of source) d o.at f → nil_form f ≡ false
unfolding opens table_of declarations
open_not_nil source i d o f e h n =
    let heads = heads_table source.pieces in
    let r = from_pieces 0 1 source.pieces i d o e h in
    let g = r.from in
    let place : d ≡ count_by declares r.before = some_is d (count_by declares r.before) (sym h ∙ g.owner ∙ ap Some (let z : 0 + count_by declares r.before ≡ count_by declares r.before = omega arith in z)) in
    let made = made_struct heads (first_code r.before) (next_key r.before) g.struct g.members in
    let there : slice_get (along (declarations_of heads) source.pieces) d ≡ Some made =
    (λ j. slice_get (along (declarations_of heads) (r.split j)) (place j)) ∙ struct_at heads r.before r.after r.one g.struct g.members g.is_struct g.body_is in
    let same : n.declaration ≡ made = same_one (slice_get (along (declarations_of heads) source.pieces) d) n.declaration made n.declared there in
    let m = of_member heads (first_code r.before) (sort_of g.struct.names) g.members o.at n.signature (ap (λ (x : Declaration). slice_get x.members o.at) (sym same) ∙ n.stands) in
    let it : m.written ≡ g.written = same_one (slice_get g.members o.at) m.written g.written m.stands g.stands in
    ap nil_form (n.is ∙ m.form_is) ∙ value_written heads m.inputs m.slots (role_of (sort_of g.struct.names) m.written) m.written.modifiers m.written.form o.value (ap (λ (x : Member). member_value x) it ∙ g.value)

-- ---- what starts with nil keeps its type

-- a member of the second table that starts with nil has the same form in the first
abbrev pub KeepsNils : Table → Table → Type 0
KeepsNils first table = (d at : ℕ) (declaration : Declaration) (s : Signature) → slice_get table.declarations d ≡ Some declaration → slice_get declaration.members at ≡ Some s
    → nil_form s.form ≡ true → NilAt first d at s.form

nil_filled : (f : SignatureForm) (t : Ty) → nil_form (filled_form f t) ≡ nil_form f
nil_filled (form.Stored n b None a) t = refl
nil_filled (form.Stored n b (Some u) a) t = refl
nil_filled (form.State n None a) t = refl
nil_filled (form.State n (Some u) a) t = refl
nil_filled (form.Static None) t = refl
nil_filled (form.Static (Some u)) t = refl
nil_filled (form.Binding n o) t = refl
nil_filled (form.Environment n) t = refl
nil_filled (form.Case n) t = refl
nil_filled (form.Computed o) t = refl
nil_filled (form.Function ps o m) t = refl
nil_filled form.BuilderProperty t = refl
nil_filled (form.BuilderFunction ps) t = refl
nil_filled form.Reduce t = refl
nil_filled form.Unfit t = refl

-- a place is given a type only where nothing starts with nil
abbrev NotNil : Table → Option ℕ → ℕ → Type 0
NotNil first o at = (d : ℕ) (f : SignatureForm) → o ≡ Some d → NilAt first d at f → nil_form f ≡ false

module _ (first table : Table) (keeps : KeepsNils first table) (t : Ty) where
  keeps_filled : (d at i : ℕ) (x : Declaration) (s : Signature) → slice_get table.declarations d ≡ Some x → NotNil first (Some d) i → Changed (filled t) x.members i at s → nil_form s.form ≡ true → NilAt first d at s.form
  keeps_filled d at i x s e not (y, h, inl same) n =
      let k = keeps d at x y e h (ap (λ (z : Signature). nil_form z.form) (sym same) ∙ n) in subst (λ (z : Signature). NilAt first d at z.form) (sym same) k
  keeps_filled d at i x s e not (y, h, inr (place, made)) n =
      let m : nil_form y.form ≡ true = sym (nil_filled y.form t) ∙ ap (λ (z : Signature). nil_form z.form) (sym made) ∙ n in
      let k = keeps d at x y e h m in
      false_true (not d y.form refl (subst (λ j. NilAt first d j y.form) (sym place) k)) m

  keeps_declared : (d at j i : ℕ) (declaration : Declaration) (s : Signature) → NotNil first (Some j) i → Changed (filled_declaration i t) table.declarations j d declaration
      → slice_get declaration.members at ≡ Some s → nil_form s.form ≡ true → NilAt first d at s.form
  keeps_declared d at j i declaration s not (x, e, inl same) h n = keeps d at x s e (ap (λ (z : Declaration). slice_get z.members at) (sym same) ∙ h) n
  keeps_declared d at j i declaration s not (x, e, inr (place, made)) h n =
      keeps_filled d at i x s e (subst (λ k. NotNil first (Some k) i) place not) (get_changed (filled t) x.members i at s (ap (λ (z : Declaration). slice_get z.members at) (sym made) ∙ h)) n

  keeps_typed : (o : Option ℕ) (i : ℕ) → NotNil first o i → KeepsNils first (typed_at table o i t)
  keeps_typed None i not d at declaration s e h n = keeps d at declaration s e h n
  keeps_typed (Some j) i not d at declaration s e h n = keeps_declared d at j i declaration s not (get_changed (filled_declaration i t) table.declarations j d declaration e) h n

keeps_with : (first table : Table) → KeepsNils first table → (o : Open) → NotNil first o.declaration o.at → (t : Option Ty) → KeepsNils first (with_type table o t)
keeps_with first table keeps o not None = keeps
keeps_with first table keeps o not (Some t) = keeps_typed first table keeps t o.declaration o.at not

keeps_turn : (first table : Table) → KeepsNils first table → (o : Open) → NotNil first o.declaration o.at → KeepsNils first (turn table o)
unfolding turn
keeps_turn first table keeps o not = keeps_with first table keeps o not (found table o)

-- What starts with nil has the form in the completed table that it has in the table of what is written.
pub completed_keeps : (source : Source) → KeepsNils (table_of source) (completed source (table_of source))
unfolding completed
completed_keeps source =
    let os = opens source in
    rounds_stay (KeepsNils (table_of source)) os (λ i o table s keeps. keeps_turn (table_of source) table keeps o (λ d f e n. open_not_nil source i d o f s e n)) (length os) (table_of source)
    (λ d at declaration s e h n. record { declaration = declaration; declared = e; signature = s; stands = h; is = refl })
