-- What the signature of a member says of the member that is written.
use Rattle.std.specs.Prelude.{◌≡◌, ℕ, zero, suc, ◌<◌, Bool, true, false, List, Option, Some, None, length, nat_le, ◌||◌, slice_get}
use Rattle.std.specs.FinMap as fin
use Rattle.std.specs.List.{count_by}
use Rattle.std.proofs.Common.{refl, sym, ap, ◌∙◌, arith}
use Rattle.swift_ast.specs.declared.piece.Member.{Member}
use Rattle.swift_ast.specs.declared.piece.MemberForm.{MemberForm}
use Rattle.swift_ast.specs.declared.piece.MemberForm.TheVariants as member
use Rattle.swift_ast.specs.declared.piece.Modifier.{Modifier}
use Rattle.swift_ast.specs.declared.piece.Param.{Param}
use Rattle.swift_ast.specs.declared.piece.ResultName.{ResultName}
use Rattle.swift_ast.specs.declared.piece.ResultName.TheVariants.{Plain, Opaque}
use Rattle.swift_ast.specs.declared.tree.Binder.{Binder}
use Rattle.swift_ast.specs.declared.tree.Binder.TheVariants.{Let, Var}
use Rattle.swift_ast.specs.declared.tree.Expr.{Expr}
use Rattle.swift_ast.specs.declared.type_name.TypeName.{TypeName, out-TypeName}
use Rattle.swift_ast.specs.declared.type_name.TypeName.TheOpen.{TypeName-F}
use Rattle.swift_ast.specs.declared.type_name.TypeName.TheFolds.{map-TypeName, fold_out-TypeName}
use Rattle.swift_core.specs.declared.ids.CodeId.{CodeId}
use Rattle.swift_core.specs.declared.table.Argument.{Argument}
use Rattle.swift_core.specs.declared.table.Argument.TheVariants as argument
use Rattle.swift_core.specs.declared.table.Initial.{Initial}
use Rattle.swift_core.specs.declared.table.Initial.TheVariants as initial
use Rattle.swift_core.specs.declared.table.ParamSignature.{ParamSignature}
use Rattle.swift_core.specs.declared.table.Signature.{Signature}
use Rattle.swift_core.specs.declared.table.SignatureForm.{SignatureForm}
use Rattle.swift_core.specs.declared.table.SignatureForm.TheVariants as form
use Rattle.swift_core.specs.declared.table.Table.{Table}
use Rattle.swift_core.specs.declared.ty.Ty.{Ty, out-Ty}
use Rattle.swift_core.specs.declared.ty.Ty.TheVariants as ty
use Rattle.swift_core.specs.declared.ty.Ty.TheViews.{outs-Optional}
use Rattle.swift_core.specs.Context as cores
use Rattle.swift_core.specs.Context.{Part, part_at}
use Rattle.swift_core.specs.Types.{inside_at}
use Rattle.type_base.specs.Claims.{and_then, when, some_is}
use Rattle.type_base.specs.Depth.{optional, deepest}
use Rattle.type_base.specs.TypeNames.{type_of, written_type, written_at, written_depth}
use Rattle.member_forms.specs.declared.role.Role.{Role}
use Rattle.member_forms.specs.declared.role.Role.TheVariants as role
use Rattle.member_forms.specs.declared.role.Sort.{Sort}
use Rattle.member_forms.specs.Marks.{is_private, environment_key}
use Rattle.member_forms.specs.Roles.{role_of}
use Rattle.member_forms.specs.Whole.{member_name}
use Rattle.type_table.specs.Along.{narrow}
use Rattle.type_table.specs.Signatures.{Draft, signature_at, signatures, nil_at, initial_of, is_let, argument_by, argument_of, declared_type, key_form, key_at, stored_form, computed_form, result_form, valued_form, function_form, member_form, params_of, is_input, is_slot, struct_draft, struct_drafts}
use Rattle.table_names.specs.Lists.{Split, each_at, get_middle}
use Rattle.table_names.specs.Pieces.{signatures_along}

-- ---- the member that a signature is of

pub record OfMember (heads : Table) (first : ℕ) (s : Sort) (ms : List Member) (at : ℕ) (signature : Signature) : Type 0 where
  pub written : Member
  pub inputs : ℕ
  pub slots : ℕ
  pub stands : slice_get ms at ≡ Some written
  pub form_is : signature.form ≡ member_form heads inputs slots (role_of s written) written.modifiers written.form
  pub name_is : signature.name ≡ member_name written

pub stands_there : {X : Type 0} (xs : List X) (i : ℕ) (x : X) → Split xs i x → slice_get xs i ≡ Some x
stands_there xs i x s = (λ j. slice_get (s.split j) (s.place j)) ∙ get_middle s.before s.after x

pub of_member : (heads : Table) (first : ℕ) (s : Sort) (ms : List Member) (at : ℕ) (signature : Signature)
    → slice_get (signatures first (struct_drafts heads s ms)) at ≡ Some signature → OfMember heads first s ms at signature
of_member heads first s ms at signature e =
    let ds = struct_drafts heads s ms in
    let r = each_at (λ b d. signature_at first (length b) d.name d.form) ds at signature (ap (λ xs. slice_get xs at) (sym (signatures_along first ds)) ∙ e) in
    let q = each_at (struct_draft heads s) ms at r.one (stands_there ds at r.one r.stands) in
    record {
      written = q.one;
      inputs = narrow (count_by (is_input s) q.stands.before);
      slots = narrow (count_by (is_slot s) q.stands.before);
      stands = stands_there ms at q.one q.stands;
      form_is = ap (λ (x : Signature). x.form) r.is ∙ ap (λ (x : Draft). x.form) q.is;
      name_is = ap (λ (x : Signature). x.name) r.is ∙ ap (λ (x : Draft). x.name) q.is;
    }

-- ---- nil as an initial value

abbrev pub nil_argument : Argument → Bool
nil_argument argument.Required = false
nil_argument (argument.Optional initial.Written) = false
nil_argument (argument.Optional initial.Nil) = true
nil_argument (argument.Never initial.Written) = false
nil_argument (argument.Never initial.Nil) = true

-- a property whose initial value is nil
abbrev pub nil_form : SignatureForm → Bool
nil_form (form.Stored n b t a) = nil_argument a
nil_form (form.State n t a) = nil_argument a
nil_form _ = false

-- the type of a stored property or a slot
abbrev pub form_type : SignatureForm → Option Ty
form_type (form.Stored n b t a) = t
form_type (form.State n t a) = t
form_type _ = None

-- the type is written with a `?`
pub record WithSign (heads : Table) (t : TypeName) (found : Option Ty) : Type 0 where
  pub inside : TypeName
  pub signs : ℕ
  pub is : out-TypeName t ≡ TypeName-F.Optional inside signs
  pub type_is : found ≡ type_of heads t

nil_by : (never : Bool) (o : Option Initial) → nil_argument (argument_by never o) ≡ true → o ≡ Some initial.Nil
nil_by true None e = cc
nil_by false None e = cc
nil_by true (Some initial.Written) e = cc
nil_by false (Some initial.Written) e = cc
nil_by true (Some initial.Nil) e = refl
nil_by false (Some initial.Nil) e = refl

nil_sign : (heads : Table) (t : TypeName) (layer : TypeName-F TypeName) → out-TypeName t ≡ layer → nil_at layer ≡ Some initial.Nil → WithSign heads t (type_of heads t)
nil_sign heads t (TypeName-F.Optional u n) e h = record { inside = u; signs = n; is = e; type_is = refl }
nil_sign heads t (TypeName-F.Name w) e h = cc
nil_sign heads t (TypeName-F.List u) e h = cc

-- a property whose initial value is nil has a type that is written with a `?`
abbrev pub IsSigned : Table → Option TypeName → Option Ty → Type 0
IsSigned heads t found = (name : TypeName) × (t ≡ Some name) × WithSign heads name found

nil_initial : (heads : Table) (b : Binder) (t : Option TypeName) (v : Option Expr) → initial_of b t v ≡ Some initial.Nil → IsSigned heads t (declared_type heads t)
nil_initial heads b t (Some e) h = cc
nil_initial heads Var (Some t) None h = (t, refl, nil_sign heads t (out-TypeName t) refl h)
nil_initial heads Var None None h = cc
nil_initial heads Let t None h = cc

signed : (heads : Table) (private : Bool) (b : Binder) (t : Option TypeName) (v : Option Expr) → nil_argument (argument_of private b t v) ≡ true → IsSigned heads t (declared_type heads t)
signed heads private b t v e = nil_initial heads b t v (nil_by (private || is_let b) (initial_of b t v) e)

no_nil_key : (o : Option ℕ) → nil_form (key_form o) ≡ false
no_nil_key None = refl
no_nil_key (Some k) = refl

pub no_nil_read : (heads : Table) (o : Option (List ℕ)) → nil_form (key_at heads o) ≡ false
no_nil_read heads None = refl
no_nil_read heads (Some w) = no_nil_key (fin.get heads.keys w)

pub false_true : {b : Bool} {X : Type 0} → b ≡ false → b ≡ true → X
false_true {b = b} e f = let h : ◌≡◌ {A = Bool} false true = sym e ∙ f in cc

stored_signed : (heads : Table) (i j : ℕ) (r : Role) (ms : List Modifier) (b : Binder) (t : Option TypeName) (v : Option Expr)
    → nil_form (stored_form heads i j r ms b t v) ≡ true → IsSigned heads t (form_type (stored_form heads i j r ms b t v))
stored_signed heads i j role.Stored ms b t v e = signed heads (is_private ms) b t v e
stored_signed heads i j role.State ms b t v e = signed heads (is_private ms) b t v e
stored_signed heads i j role.Binding ms b t v e = cc
stored_signed heads i j role.Environment ms b t v e = false_true (no_nil_read heads (environment_key ms)) e
stored_signed heads i j role.Static ms b t v e = cc
stored_signed heads i j role.Computed ms b t v e = cc
stored_signed heads i j role.Function ms b t v e = cc
stored_signed heads i j role.Mutating ms b t v e = cc
stored_signed heads i j role.BuilderProperty ms b t v e = cc
stored_signed heads i j role.BuilderFunction ms b t v e = cc
stored_signed heads i j role.Reduce ms b t v e = cc
stored_signed heads i j role.Unfit ms b t v e = cc

-- what is written as a property with its type
abbrev pub written_name : MemberForm → Option TypeName
written_name (member.Stored b w t v) = t
written_name _ = None

computed_no_nil : (heads : Table) (r : Role) (t : ResultName) → nil_form (computed_form heads r t) ≡ false
computed_no_nil heads role.Computed (Plain t) = refl
computed_no_nil heads role.Computed (Opaque w) = refl
computed_no_nil heads role.Static (Plain t) = refl
computed_no_nil heads role.Static (Opaque w) = refl
computed_no_nil heads role.BuilderProperty t = refl
computed_no_nil heads role.Stored t = refl
computed_no_nil heads role.State t = refl
computed_no_nil heads role.Binding t = refl
computed_no_nil heads role.Environment t = refl
computed_no_nil heads role.Function t = refl
computed_no_nil heads role.Mutating t = refl
computed_no_nil heads role.BuilderFunction t = refl
computed_no_nil heads role.Reduce t = refl
computed_no_nil heads role.Unfit t = refl

result_no_nil : (ps : List ParamSignature) (m : Bool) (t : Option Ty) → nil_form (result_form ps m t) ≡ false
result_no_nil ps m None = refl
result_no_nil ps m (Some t) = refl

valued_no_nil : (heads : Table) (ps : List Param) (m : Bool) (r : Option ResultName) → nil_form (valued_form heads ps m r) ≡ false
valued_no_nil heads ps m None = refl
valued_no_nil heads ps m (Some (Plain t)) = result_no_nil (params_of heads ps) m (type_of heads t)
valued_no_nil heads ps m (Some (Opaque w)) = refl

function_no_nil : (heads : Table) (r : Role) (ps : List Param) (t : Option ResultName) → nil_form (function_form heads r ps t) ≡ false
function_no_nil heads role.Function ps t = valued_no_nil heads ps false t
function_no_nil heads role.Mutating ps t = valued_no_nil heads ps true t
function_no_nil heads role.BuilderFunction ps t = refl
function_no_nil heads role.Reduce ps t = refl
function_no_nil heads role.Stored ps t = refl
function_no_nil heads role.State ps t = refl
function_no_nil heads role.Binding ps t = refl
function_no_nil heads role.Environment ps t = refl
function_no_nil heads role.Static ps t = refl
function_no_nil heads role.Computed ps t = refl
function_no_nil heads role.BuilderProperty ps t = refl
function_no_nil heads role.Unfit ps t = refl

pub member_signed : (heads : Table) (i j : ℕ) (r : Role) (ms : List Modifier) (f : MemberForm) → nil_form (member_form heads i j r ms f) ≡ true
    → IsSigned heads (written_name f) (form_type (member_form heads i j r ms f))
member_signed heads i j r ms (member.Stored b w t v) e = stored_signed heads i j r ms b t v e
member_signed heads i j r ms (member.Computed w t body) e = false_true (computed_no_nil heads r t) e
member_signed heads i j r ms (member.Function w ps t body) e = false_true (function_no_nil heads r ps t) e

-- ---- a type that is written with a `?` is an optional

pub when_some : (b : Bool) (o : Option Ty) (t : Ty) → when b o ≡ Some t → o ≡ Some t
when_some true o t e = e
when_some false o t e = cc

optional_by : (n : ℕ) (o : Option Ty) (t : Ty) → 0 < n → and_then o (λ u. Some (optional n u)) ≡ Some t → (u : Ty) × (inside_at (out-Ty t) ≡ Some u)
unfolding and_then optional
optional_by zero o t lt e = absurd (omega arith)
optional_by (suc n) None t lt e = cc
optional_by (suc n) (Some u) t lt e = let h : ty.Optional (optional n u) ≡ t = cc in (optional n u, ap (λ x. inside_at (out-Ty x)) (sym h) ∙ ap inside_at (outs-Optional (optional n u)))

pub signed_optional : (heads : Table) (name : TypeName) (found : Option Ty) (t : Ty) → (s : WithSign heads name found) → 0 < s.signs → found ≡ Some t → (u : Ty) × (inside_at (out-Ty t) ≡ Some u)
unfolding type_of written_type
signed_optional heads name found t s lt e =
    let a : written_type heads name ≡ Some t = when_some (nat_le (written_depth name) deepest) (written_type heads name) t (sym s.type_is ∙ e) in
    let b : written_type heads name ≡ written_at heads (map-TypeName TypeName (Option Ty) (written_type heads) (out-TypeName name)) = fold_out-TypeName (Option Ty) (written_at heads) name in
    optional_by s.signs (written_type heads s.inside) t lt (ap (λ l. written_at heads (map-TypeName TypeName (Option Ty) (written_type heads) l)) (sym s.is) ∙ sym b ∙ a)

-- ---- parts

pub nil_of : (a : Argument) → cores.initial_of a ≡ Some initial.Nil → nil_argument a ≡ true
nil_of argument.Required e = cc
nil_of (argument.Optional initial.Written) e = cc
nil_of (argument.Optional initial.Nil) e = refl
nil_of (argument.Never initial.Written) e = cc
nil_of (argument.Never initial.Nil) e = refl

abbrev made_part : CodeId → Bool → Option Ty → Argument → Part
made_part code b t a = record { code = code; is_binding = b; ty = t; argument = a }

abbrev NilInitial : Part → Type 0
NilInitial p = cores.initial_of p.argument ≡ Some initial.Nil

nil_made : (code : CodeId) (b : Bool) (t : Option Ty) (a : Argument) (p : Part) → ◌≡◌ {A = Option Part} (Some (made_part code b t a)) (Some p) → NilInitial p → (nil_argument a ≡ true) × (p.ty ≡ t)
nil_made code b t a p e h =
    let k : made_part code b t a ≡ p = some_is (made_part code b t a) p e in
    (nil_of a (ap (λ (q : Part). cores.initial_of q.argument) k ∙ h), ap (λ (q : Part). q.ty) (sym k))

pub part_nil : (code : CodeId) (f : SignatureForm) (p : Part) → part_at code f ≡ Some p → NilInitial p → (nil_form f ≡ true) × (p.ty ≡ form_type f)
part_nil code (form.Stored n b t a) p e h = nil_made code false t a p e h
part_nil code (form.State n t a) p e h = nil_made code false t a p e h
part_nil code (form.Binding n t) p e h = let k = nil_made code true t argument.Required p e h in let l : ◌≡◌ {A = Bool} false true = k.0 in cc
part_nil code (form.Static t) p e h = cc
part_nil code (form.Environment n) p e h = cc
part_nil code (form.Case n) p e h = cc
part_nil code (form.Computed t) p e h = cc
part_nil code (form.Function ps t m) p e h = cc
part_nil code form.BuilderProperty p e h = cc
part_nil code (form.BuilderFunction ps) p e h = cc
part_nil code form.Reduce p e h = cc
part_nil code form.Unfit p e h = cc
