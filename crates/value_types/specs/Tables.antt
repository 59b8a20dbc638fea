-- The types of the members of the completed table are types of values.
use Rattle.std.specs.Prelude.{◌≡◌, ◌⊎◌, ℕ, zero, suc, Bool, true, false, List, [], ◌∷◌, ◌++◌, Option, Some, None, length, map, slice_get, nat_le, ⊤}
use Rattle.std.specs.FinMap as fin
use Rattle.std.specs.Option.{option_map}
use Rattle.std.proofs.Common.{refl, sym, ap, subst, ◌∙◌, inl, inr}
use Rattle.std.proofs.lemmas.Option.{slice_get-map}
use Rattle.swift_ast.specs.declared.piece.EnumItem.{EnumItem}
use Rattle.swift_ast.specs.declared.piece.EnumItem.TheVariants as item
use Rattle.swift_ast.specs.declared.piece.CaseName.{CaseName}
use Rattle.swift_ast.specs.declared.piece.Member.{Member}
use Rattle.swift_ast.specs.declared.piece.MemberForm.{MemberForm}
use Rattle.swift_ast.specs.declared.piece.MemberForm.TheVariants as member
use Rattle.swift_ast.specs.declared.piece.Modifier.{Modifier}
use Rattle.swift_ast.specs.declared.piece.Param.{Param}
use Rattle.swift_ast.specs.declared.piece.PieceForm.{PieceForm}
use Rattle.swift_ast.specs.declared.piece.PieceForm.TheVariants as piece
use Rattle.swift_ast.specs.declared.piece.ResultName.{ResultName}
use Rattle.swift_ast.specs.declared.piece.ResultName.TheVariants.{Plain, Opaque}
use Rattle.swift_ast.specs.declared.piece.Source.{Source}
use Rattle.swift_ast.specs.declared.piece.StructBody.{StructBody}
use Rattle.swift_ast.specs.declared.piece.StructBody.TheVariants.{Members, LeftAside}
use Rattle.swift_ast.specs.declared.piece.StructPiece.{StructPiece}
use Rattle.swift_ast.specs.declared.tree.Binder.{Binder}
use Rattle.swift_ast.specs.declared.tree.Expr.{Expr}
use Rattle.swift_ast.specs.declared.type_name.TypeName.{TypeName}
use Rattle.swift_core.specs.declared.table.Declaration.{Declaration}
use Rattle.swift_core.specs.declared.table.Kind.{Kind}
use Rattle.swift_core.specs.declared.table.Kind.TheVariants as kind
use Rattle.swift_core.specs.declared.table.ParamSignature.{ParamSignature}
use Rattle.swift_core.specs.declared.table.Signature.{Signature}
use Rattle.swift_core.specs.declared.table.SignatureForm.{SignatureForm}
use Rattle.swift_core.specs.declared.table.SignatureForm.TheVariants as form
use Rattle.swift_core.specs.declared.table.Table.{Table}
use Rattle.swift_core.specs.declared.term.Core.{Core}
use Rattle.swift_core.specs.declared.ty.Ty.{Ty, out-Ty}
use Rattle.swift_core.specs.declared.ty.Ty.TheOpen.{Ty-F}
use Rattle.type_base.specs.Claims.{some_is, when}
use Rattle.type_base.specs.Depth.{deepest}
use Rattle.type_base.specs.Names.{is_data}
use Rattle.type_base.specs.TypeNames.{type_of, written_type, written_depth}
use Rattle.member_forms.specs.declared.role.Role.{Role}
use Rattle.member_forms.specs.declared.role.Role.TheVariants as role
use Rattle.member_forms.specs.declared.role.Sort.{Sort}
use Rattle.member_forms.specs.declared.role.Sort.TheVariants as sort
use Rattle.member_forms.specs.Marks.{environment_key}
use Rattle.member_forms.specs.Roles.{role_of}
use Rattle.member_forms.specs.Whole.{sort_of}
use Rattle.type_table.specs.Along.{narrow, along}
use Rattle.type_table.specs.Heads.{heads_table, next_key}
use Rattle.type_table.specs.Signatures.{Draft, signature_at, signatures, declared_type, key_form, key_at, stored_form, computed_form, result_form, valued_form, function_form, member_form, params_of, case_draft, case_drafts, enum_member, item_drafts, case_count, enum_drafts, struct_drafts}
use Rattle.type_table.specs.Tables.{first_code, struct_declaration, declarations_at, table_of}
use Rattle.type_twice.specs.Deep.{stored_type_at}
use Rattle.known_rules.specs.Known.{Open, opens, filled_form, filled, filled_declaration, typed_at, with_type, owner_of, stance_of, around, type_in, found, turn, rounds, completed}
use Rattle.value_rules.specs.Values.{infer}
use Rattle.table_names.specs.Lists.{Each, given_by, each_at}
use Rattle.table_names.specs.Pieces.{declared_by, signatures_along, made_struct, made_enum}
use Rattle.table_places.specs.Members.{OfMember, of_member, stands_there, when_some}
use Rattle.table_fits.specs.Fills.{map_changed, Changed, get_changed, rounds_stay}
use Rattle.table_depths.specs.Shallow.{IsOfValues, written_of_values, FoundOfValues}
use Rattle.value_types.specs.Kinds.{kind_of, kinds_of, heads_kinds}
use Rattle.value_types.specs.Types.{Of, OptionOf, FormOf, TypesOf}
use Rattle.value_types.specs.Exprs.{is_outer, Around}
use Rattle.value_types.specs.Levels.{infer_of_values}

-- ---- types of values are the same in tables with the same kinds of declarations

of_kind : (ds : List Declaration) (d : ℕ) (k : Kind) → slice_get (map kind_of ds) d ≡ Some k → (x : Declaration) × (slice_get ds d ≡ Some x) × (x.kind ≡ k)
of_kind [] d k e = cc
of_kind (x ∷ ds) zero k e = (x, refl, some_is x.kind k e)
of_kind (x ∷ ds) (suc d) k e = of_kind ds d k e

layer_moves : (x y : Table) → kinds_of x ≡ kinds_of y → (l : Ty-F Ty) → IsOfValues x l → IsOfValues y l
layer_moves x y e Ty-F.Int v = IsOfValues.of_int
layer_moves x y e Ty-F.Bool v = IsOfValues.of_bool
layer_moves x y e Ty-F.Text v = IsOfValues.of_text
layer_moves x y e (Ty-F.List t) (IsOfValues.of_list v) = IsOfValues.of_list (layer_moves x y e (out-Ty t) v)
layer_moves x y e (Ty-F.Optional t) (IsOfValues.of_optional v) = IsOfValues.of_optional (layer_moves x y e (out-Ty t) v)
layer_moves x y e (Ty-F.Named d) (IsOfValues.of_named {declaration = declaration} s k) =
    let h : slice_get (kinds_of y) d ≡ Some declaration.kind = ap (λ ks. slice_get ks d) (sym e) ∙ slice_get-map kind_of x.declarations d ∙ ap (option_map kind_of) s in
    let w = of_kind y.declarations d declaration.kind h in
    IsOfValues.of_named w.1 (ap is_data w.2 ∙ k)

of_moves : (x y : Table) → kinds_of x ≡ kinds_of y → (t : Ty) → Of x t → Of y t
of_moves x y e t v = layer_moves x y e (out-Ty t) v

option_moves : (x y : Table) → kinds_of x ≡ kinds_of y → (o : Option Ty) → OptionOf x o → OptionOf y o
option_moves x y e None v = tt
option_moves x y e (Some t) v = of_moves x y e t v

form_moves : (x y : Table) → kinds_of x ≡ kinds_of y → (k : Kind) (f : SignatureForm) → FormOf x k f → FormOf y k f
form_moves x y e k (form.Stored n b t a) v = option_moves x y e t v
form_moves x y e k (form.State n t a) v = option_moves x y e t v
form_moves x y e k (form.Static t) v = option_moves x y e t v
form_moves x y e k (form.Case n) v = v
form_moves x y e k (form.Computed t) v = option_moves x y e t v
form_moves x y e k (form.Function ps t m) v = option_moves x y e t v
form_moves x y e k (form.Binding n t) v = tt
form_moves x y e k (form.Environment n) v = tt
form_moves x y e k form.BuilderProperty v = tt
form_moves x y e k (form.BuilderFunction ps) v = tt
form_moves x y e k form.Reduce v = tt
form_moves x y e k form.Unfit v = tt

-- ---- the table of what is written

type_values : (heads : Table) (name : TypeName) (o : Option Ty) → type_of heads name ≡ o → OptionOf heads o
unfolding type_of
type_values heads name None e = tt
type_values heads name (Some t) e = written_of_values heads name t (when_some (nat_le (written_depth name) deepest) (written_type heads name) t e)

named_values : (heads : Table) (name : TypeName) → OptionOf heads (type_of heads name)
named_values heads name = type_values heads name (type_of heads name) refl

declared_values : (heads : Table) (o : Option TypeName) → OptionOf heads (declared_type heads o)
declared_values heads None = tt
declared_values heads (Some name) = named_values heads name

key_values : (heads : Table) (k : Kind) (o : Option ℕ) → FormOf heads k (key_form o)
key_values heads k None = tt
key_values heads k (Some n) = tt

key_at_values : (heads : Table) (k : Kind) (o : Option (List ℕ)) → FormOf heads k (key_at heads o)
key_at_values heads k None = tt
key_at_values heads k (Some w) = key_values heads k (fin.get heads.keys w)

stored_values : (heads : Table) (k : Kind) (i j : ℕ) (r : Role) (ms : List Modifier) (b : Binder) (t : Option TypeName) (v : Option Expr) → FormOf heads k (stored_form heads i j r ms b t v)
stored_values heads k i j role.Stored ms b t v = declared_values heads t
stored_values heads k i j role.State ms b t v = declared_values heads t
stored_values heads k i j role.Binding ms b t v = tt
stored_values heads k i j role.Environment ms b t v = key_at_values heads k (environment_key ms)
stored_values heads k i j role.Static ms b t v = declared_values heads t
stored_values heads k i j role.Computed ms b t v = tt
stored_values heads k i j role.BuilderProperty ms b t v = tt
stored_values heads k i j role.Function ms b t v = tt
stored_values heads k i j role.Mutating ms b t v = tt
stored_values heads k i j role.BuilderFunction ms b t v = tt
stored_values heads k i j role.Reduce ms b t v = tt
stored_values heads k i j role.Unfit ms b t v = tt

computed_values : (heads : Table) (k : Kind) (r : Role) (t : ResultName) → FormOf heads k (computed_form heads r t)
computed_values heads k role.Computed (Plain t) = named_values heads t
computed_values heads k role.Computed (Opaque w) = tt
computed_values heads k role.Static (Plain t) = named_values heads t
computed_values heads k role.Static (Opaque w) = tt
computed_values heads k role.BuilderProperty t = tt
computed_values heads k role.Stored t = tt
computed_values heads k role.State t = tt
computed_values heads k role.Binding t = tt
computed_values heads k role.Environment t = tt
computed_values heads k role.Function t = tt
computed_values heads k role.Mutating t = tt
computed_values heads k role.BuilderFunction t = tt
computed_values heads k role.Reduce t = tt
computed_values heads k role.Unfit t = tt

result_values : (heads : Table) (k : Kind) (ps : List ParamSignature) (m : Bool) (o : Option Ty) → OptionOf heads o → FormOf heads k (result_form ps m o)
result_values heads k ps m None v = tt
result_values heads k ps m (Some t) v = v

valued_values : (heads : Table) (k : Kind) (ps : List Param) (m : Bool) (r : Option ResultName) → FormOf heads k (valued_form heads ps m r)
valued_values heads k ps m None = tt
valued_values heads k ps m (Some (Plain t)) = result_values heads k (params_of heads ps) m (type_of heads t) (named_values heads t)
valued_values heads k ps m (Some (Opaque w)) = tt

function_values : (heads : Table) (k : Kind) (r : Role) (ps : List Param) (t : Option ResultName) → FormOf heads k (function_form heads r ps t)
function_values heads k role.Function ps t = valued_values heads k ps false t
function_values heads k role.Mutating ps t = valued_values heads k ps true t
function_values heads k role.BuilderFunction ps t = tt
function_values heads k role.Reduce ps t = tt
function_values heads k role.Stored ps t = tt
function_values heads k role.State ps t = tt
function_values heads k role.Binding ps t = tt
function_values heads k role.Environment ps t = tt
function_values heads k role.Static ps t = tt
function_values heads k role.Computed ps t = tt
function_values heads k role.BuilderProperty ps t = tt
function_values heads k role.Unfit ps t = tt

member_values : (heads : Table) (k : Kind) (i j : ℕ) (r : Role) (ms : List Modifier) (f : MemberForm) → FormOf heads k (member_form heads i j r ms f)
member_values heads k i j r ms (member.Stored b w t v) = stored_values heads k i j r ms b t v
member_values heads k i j r ms (member.Computed w t body) = computed_values heads k r t
member_values heads k i j r ms (member.Function w ps t body) = function_values heads k r ps t

-- a case stands in an enum, and else a member of an enum is as any
item_values : (heads : Table) (k : Kind) → is_data k ≡ true → (cases : ℕ) (i : EnumItem) (at : ℕ) (d : Draft) → slice_get (item_drafts heads cases i) at ≡ Some d → FormOf heads k d.form
item_values heads k e cases (item.Cases cs) at d h =
    let r = each_at (case_draft cases) cs at d h in
    subst (λ (x : Draft). FormOf heads k x.form) (sym r.is) e
item_values heads k e cases (item.Member m) zero d h =
    subst (λ (x : Draft). FormOf heads k x.form) (some_is (enum_member heads m) d h) (member_values heads k 0 0 (role_of sort.Enum m) m.modifiers m.form)
item_values heads k e cases (item.Member m) (suc at) d h = cc

made_values : (heads : Table) (k : Kind) → is_data k ≡ true → (first : ℕ) (items : List EnumItem) (at : ℕ) (s : Signature)
    → Each (λ b d. signature_at first (length b) d.name d.form) (enum_drafts heads items) at s → FormOf heads k s.form
made_values heads k e first items at s r =
    let q = given_by (λ before i. item_drafts heads (case_count before) i) items at r.one (stands_there (enum_drafts heads items) at r.one r.stands) in
    subst (λ (x : Signature). FormOf heads k x.form) (sym r.is) (item_values heads k e (case_count q.before) q.one q.at r.one q.stands)

enum_values : (heads : Table) (k : Kind) → is_data k ≡ true → (first : ℕ) (items : List EnumItem) (at : ℕ) (s : Signature) → slice_get (signatures first (enum_drafts heads items)) at ≡ Some s → FormOf heads k s.form
enum_values heads k e first items at s h =
    let ds = enum_drafts heads items in
    made_values heads k e first items at s
    (each_at (λ b d. signature_at first (length b) d.name d.form) ds at s (ap (λ xs. slice_get xs at) (sym (signatures_along first ds)) ∙ h))

of_member_values : (heads : Table) (k : Kind) (first : ℕ) (o : Sort) (ms : List Member) (at : ℕ) (s : Signature) → OfMember heads first o ms at s → FormOf heads k s.form
of_member_values heads k first o ms at s m = subst (FormOf heads k) (sym m.form_is) (member_values heads k m.inputs m.slots (role_of o m.written) m.written.modifiers m.written.form)

struct_values : (heads : Table) (first key : ℕ) (p : StructPiece) (b : StructBody) (d : Declaration) (at : ℕ) (s : Signature) → struct_declaration heads first key p b ≡ d ∷ [] → slice_get d.members at ≡ Some s
    → FormOf heads d.kind s.form
struct_values heads first key p LeftAside d at s e h = cc
struct_values heads first key p (Members ms) d at s e h =
    let k : made_struct heads first key p ms ≡ d = cc in
    of_member_values heads d.kind first (sort_of p.names) ms at s (of_member heads first (sort_of p.names) ms at s (ap (λ (x : Declaration). slice_get x.members at) k ∙ h))

piece_values : (heads : Table) (first key : ℕ) (x : PieceForm) (d : Declaration) (at : ℕ) (s : Signature) → declarations_at heads first key x ≡ d ∷ [] → slice_get d.members at ≡ Some s → FormOf heads d.kind s.form
piece_values heads first key (piece.Struct p) d at s e h = struct_values heads first key p p.body d at s e h
piece_values heads first key (piece.Enum p) d at s e h =
    let k : made_enum heads first p ≡ d = cc in
    enum_values heads d.kind (ap (λ (x : Declaration). is_data x.kind) (sym k)) first p.items at s (ap (λ (x : Declaration). slice_get x.members at) k ∙ h)
piece_values heads first key (piece.Import w) d at s e h = cc
piece_values heads first key (piece.Environment es) d at s e h = cc
piece_values heads first key (piece.Preview w) d at s e h = cc

written_values : (source : Source) → TypesOf (table_of source)
written_values source d at declaration s e h =
    let by = declared_by source d declaration e in
    form_moves (heads_table source.pieces) (table_of source) (heads_kinds source) declaration.kind s.form
    (piece_values (heads_table source.pieces) (first_code by.before) (next_key by.before) by.one.form declaration at s by.is h)

-- ---- rounds

around_outer : (o : Option ℕ) → is_outer (stance_of o) ≡ true
around_outer None = refl
around_outer (Some d) = refl

around_is : (table : Table) (o : Open) → TypesOf table → Around (around table o)
around_is table o values = record { types = values; locals = λ at l e. cc; outer = around_outer o.declaration }

map_found : (x : Option (Core × Ty)) (t : Ty) → option_map type_in x ≡ Some t → (r : Core × Ty) × (x ≡ Some r) × (r.1 ≡ t)
map_found None t e = cc
map_found (Some r) t e = (r, refl, some_is r.1 t e)

found_values : (table : Table) (o : Open) (t : Ty) → TypesOf table → found table o ≡ Some t → Of table t
unfolding found
found_values table o t values e =
    let r = map_found (infer o.value (around table o) None) t e in
    subst (Of table) r.2 (infer_of_values o.value (around table o) None r.0 (around_is table o values) tt r.1)

filled_values : (table : Table) (k : Kind) (f : SignatureForm) (t : Ty) → Of table t → FormOf table k f → FormOf table k (filled_form f t)
filled_values table k (form.Stored n b None a) t v w = v
filled_values table k (form.Stored n b (Some u) a) t v w = w
filled_values table k (form.State n None a) t v w = v
filled_values table k (form.State n (Some u) a) t v w = w
filled_values table k (form.Static None) t v w = v
filled_values table k (form.Static (Some u)) t v w = w
filled_values table k (form.Binding n o) t v w = tt
filled_values table k (form.Environment n) t v w = tt
filled_values table k (form.Case n) t v w = w
filled_values table k (form.Computed o) t v w = w
filled_values table k (form.Function ps o m) t v w = w
filled_values table k form.BuilderProperty t v w = tt
filled_values table k (form.BuilderFunction ps) t v w = tt
filled_values table k form.Reduce t v w = tt
filled_values table k form.Unfit t v w = tt

module _ (table : Table) (values : TypesOf table) (t : Ty) (v : Of table t) (place : ℕ) where
  signature_values : (d at : ℕ) (x : Declaration) (s : Signature) → slice_get table.declarations d ≡ Some x → Changed (filled t) x.members place at s → FormOf table x.kind s.form
  signature_values d at x s e (y, h, inl same) = subst (λ (z : Signature). FormOf table x.kind z.form) (sym same) (values d at x y e h)
  signature_values d at x s e (y, h, inr (p, made)) = subst (λ (z : Signature). FormOf table x.kind z.form) (sym made) (filled_values table x.kind y.form t v (values d at x y e h))

  declaration_values : (d at j : ℕ) (declaration : Declaration) (s : Signature) → Changed (filled_declaration place t) table.declarations j d declaration → slice_get declaration.members at ≡ Some s
      → FormOf table declaration.kind s.form
  declaration_values d at j declaration s (x, e, inl same) h = values d at declaration s (e ∙ ap Some (sym same)) h
  declaration_values d at j declaration s (x, e, inr (p, made)) h =
      subst (λ (z : Declaration). FormOf table z.kind s.form) (sym made)
      (signature_values d at x s e (get_changed (filled t) x.members place at s (ap (λ (z : Declaration). slice_get z.members at) (sym made) ∙ h)))

  same_kinds : (owner : Option ℕ) → kinds_of table ≡ kinds_of (typed_at table owner place t)
  same_kinds None = refl
  same_kinds (Some j) = sym (map_changed kind_of (filled_declaration place t) (λ x. refl) table.declarations j)

  typed_values : (owner : Option ℕ) → TypesOf (typed_at table owner place t)
  typed_values None d at declaration s e h = form_moves table (typed_at table None place t) refl declaration.kind s.form (values d at declaration s e h)
  typed_values (Some j) d at declaration s e h =
      form_moves table (typed_at table (Some j) place t) (same_kinds (Some j)) declaration.kind s.form
      (declaration_values d at j declaration s (get_changed (filled_declaration place t) table.declarations j d declaration e) h)

with_values : (table : Table) (o : Open) (t : Option Ty) → TypesOf table → ((u : Ty) → t ≡ Some u → Of table u) → TypesOf (with_type table o t)
with_values table o None values f = values
with_values table o (Some t) values f = typed_values table values t (f t refl) o.at o.declaration

turn_values : (table : Table) (o : Open) → TypesOf table → TypesOf (turn table o)
unfolding turn
turn_values table o values = with_values table o (found table o) values (λ t e. found_values table o t values e)

-- The types of the members of the completed table are types of values.
abbrev pub CompletedOfValues : Type 0
CompletedOfValues = (source : Source) → TypesOf (completed source (table_of source))

pub completed_of_values : CompletedOfValues
unfolding completed
completed_of_values source d at declaration s e h =
    let os = opens source in
    let last = rounds os (length os) (table_of source) in
    form_moves last (completed source (table_of source)) refl declaration.kind s.form
    (rounds_stay TypesOf os (λ i o table there values. turn_values table o values) (length os) (table_of source) (written_values source) d at declaration s e h)

-- ---- a type that is found of an initial value

stored_found : (table : Table) (k : Kind) (f : SignatureForm) (t : Ty) → FormOf table k f → stored_type_at f ≡ Some t → Of table t
stored_found table k (form.Stored n b o a) t v e = subst (OptionOf table) e v
stored_found table k (form.State n o a) t v e = cc
stored_found table k (form.Static o) t v e = cc
stored_found table k (form.Binding n o) t v e = cc
stored_found table k (form.Environment n) t v e = cc
stored_found table k (form.Case n) t v e = cc
stored_found table k (form.Computed o) t v e = cc
stored_found table k (form.Function ps o m) t v e = cc
stored_found table k form.BuilderProperty t v e = cc
stored_found table k (form.BuilderFunction ps) t v e = cc
stored_found table k form.Reduce t v e = cc
stored_found table k form.Unfit t v e = cc

-- A type that is found of an initial value names data structs and enums alone.
abbrev pub TypesFound : Type 0
TypesFound = (source : Source) → FoundOfValues source

pub types_found : TypesFound
types_found source i d o declaration s t there owner e h typed = stored_found (completed source (table_of source)) declaration.kind s.form t (completed_of_values source d o.at declaration s e h) typed
