-- Each field, input, slot and case stands where its signature says.
use Rattle.std.specs.Prelude.{◌≡◌, ℕ, zero, suc, ◌+◌, ◌≤◌, Bool, true, false, ◌&&◌, ◌||◌, if◌then◌else◌, codes, List, [], ◌∷◌, ◌++◌, Option, Some, None, is_some, length, map, slice_get}
use Rattle.std.specs.FinMap as fin
use Rattle.std.specs.List.{count_by, sum_by, flat_map}
use Rattle.std.specs.Str.{bytes_eq}
use Rattle.std.proofs.Common.{refl, sym, ap, subst, ◌∙◌, cond, arith, length-append}
use Rattle.std.proofs.lemmas.List.Sums.{sum_by-append, sum_by-cons, count_by-le-length}
use Rattle.std.proofs.lemmas.Grind.{flat_map-append}
use Rattle.swift_ast.specs.declared.piece.CaseName.{CaseName}
use Rattle.swift_ast.specs.declared.piece.EnumItem.{EnumItem}
use Rattle.swift_ast.specs.declared.piece.EnumPiece.{EnumPiece}
use Rattle.swift_ast.specs.declared.piece.EnumItem.TheVariants as item
use Rattle.swift_ast.specs.declared.piece.Member.{Member}
use Rattle.swift_ast.specs.declared.piece.MemberForm.{MemberForm}
use Rattle.swift_ast.specs.declared.piece.MemberForm.TheVariants as member
use Rattle.swift_ast.specs.declared.piece.Modifier.{Modifier}
use Rattle.swift_ast.specs.declared.piece.Param.{Param}
use Rattle.swift_ast.specs.declared.piece.PieceForm.{PieceForm}
use Rattle.swift_ast.specs.declared.piece.PieceForm.TheVariants as piece
use Rattle.swift_ast.specs.declared.piece.ResultName.{ResultName}
use Rattle.swift_ast.specs.declared.piece.ResultName.TheVariants.{Plain, Opaque}
use Rattle.swift_ast.specs.declared.piece.Source.{Source}
use Rattle.swift_ast.specs.declared.piece.StructBody.{StructBody}
use Rattle.swift_ast.specs.declared.piece.StructBody.TheVariants.{Members, LeftAside}
use Rattle.swift_ast.specs.declared.piece.StructPiece.{StructPiece}
use Rattle.swift_ast.specs.declared.tree.Binder.{Binder}
use Rattle.swift_ast.specs.declared.tree.Expr.{Expr}
use Rattle.swift_ast.specs.declared.tree.Stmt.{Stmt}
use Rattle.swift_ast.specs.declared.type_name.TypeName.{TypeName}
use Rattle.swift_core.specs.declared.ids.CodeId.{CodeId}
use Rattle.swift_core.specs.declared.table.Declaration.{Declaration}
use Rattle.swift_core.specs.declared.table.ParamSignature.{ParamSignature}
use Rattle.swift_core.specs.declared.table.Signature.{Signature}
use Rattle.swift_core.specs.declared.table.SignatureForm.{SignatureForm}
use Rattle.swift_core.specs.declared.table.SignatureForm.TheVariants as form
use Rattle.swift_core.specs.declared.table.Table.{Table}
use Rattle.swift_core.specs.declared.ty.Ty.{Ty}
use Rattle.swift_core.specs.Context.{stored_at, slot_at}
use Rattle.swift_core.specs.Programs.{InItsPlace, case_at, cases_of, cases_in}
use Rattle.type_base.specs.TypeNames.{type_of}
use Rattle.member_forms.specs.declared.marks.Mark.TheVariants as mark
use Rattle.member_forms.specs.declared.role.Role.{Role}
use Rattle.member_forms.specs.declared.role.Role.TheVariants as role
use Rattle.member_forms.specs.declared.role.Sort.{Sort}
use Rattle.member_forms.specs.declared.role.Sort.TheVariants as sort
use Rattle.member_forms.specs.Roles.{when_fits, reduce_params, builder, function_in_data, in_view_at, in_data_at, in_enum_at, in_app_at, in_key_at, role_of}
use Rattle.member_forms.specs.Whole.{sort_of}
use Rattle.type_table.specs.Along.{narrow, along_from, along}
use Rattle.type_table.specs.Heads.{heads_table, next_key, struct_kind}
use Rattle.type_table.specs.Signatures.{Draft, signature_at, signatures, key_form, key_at, stored_form, computed_form, result_form, valued_form, function_form, member_form, params_of, is_input_role, is_slot_role, is_input, is_slot, struct_draft, struct_drafts, case_draft, enum_member, item_drafts, item_cases, case_count, enum_drafts}
use Rattle.type_table.specs.Tables.{first_code, item_size, struct_declaration, declarations_at}
use Rattle.member_forms.specs.Marks.{bare, marked, environment_key}
use Rattle.table_names.specs.Numbers.{Counted, numbers, NoNumber, counted_append, numbers_append, none_counted, none_numbers, in_place, taken_length, alike_length, alike_map}
use Rattle.table_names.specs.Pieces.{declared_by, made_struct, made_enum, members_in, signatures_along, length_signatures, length_struct, length_enum}
use Rattle.table_names.specs.Codes.{narrow_small, members_few}
use Rattle.table_names.specs.Lists.{map_along}
use Rattle.table_names.specs.Names.{reads}
use Rattle.table_names.specs.Tables.{IsTableOf, IsSmall, bare_form, bare_declaration, bare_signature, declaration_alike}

-- ---- the numbers of fields and inputs, of slots and of cases

abbrev pub input_number : SignatureForm → Option ℕ
input_number (form.Stored n b t a) = Some n
input_number (form.Binding n t) = Some n
input_number _ = None

abbrev pub slot_number : SignatureForm → Option ℕ
slot_number (form.State n t a) = Some n
slot_number _ = None

abbrev pub case_number : SignatureForm → Option ℕ
case_number (form.Case n) = Some n
case_number _ = None

-- they don't depend on types
input_bare : (f : SignatureForm) → input_number (bare_form f) ≡ input_number f
input_bare (form.Stored n b t a) = refl
input_bare (form.State n t a) = refl
input_bare (form.Static t) = refl
input_bare (form.Binding n t) = refl
input_bare (form.Environment n) = refl
input_bare (form.Case n) = refl
input_bare (form.Computed t) = refl
input_bare (form.Function ps t m) = refl
input_bare form.BuilderProperty = refl
input_bare (form.BuilderFunction ps) = refl
input_bare form.Reduce = refl
input_bare form.Unfit = refl

slot_bare : (f : SignatureForm) → slot_number (bare_form f) ≡ slot_number f
slot_bare (form.Stored n b t a) = refl
slot_bare (form.State n t a) = refl
slot_bare (form.Static t) = refl
slot_bare (form.Binding n t) = refl
slot_bare (form.Environment n) = refl
slot_bare (form.Case n) = refl
slot_bare (form.Computed t) = refl
slot_bare (form.Function ps t m) = refl
slot_bare form.BuilderProperty = refl
slot_bare (form.BuilderFunction ps) = refl
slot_bare form.Reduce = refl
slot_bare form.Unfit = refl

case_bare : (f : SignatureForm) → case_number (bare_form f) ≡ case_number f
case_bare (form.Stored n b t a) = refl
case_bare (form.State n t a) = refl
case_bare (form.Static t) = refl
case_bare (form.Binding n t) = refl
case_bare (form.Environment n) = refl
case_bare (form.Case n) = refl
case_bare (form.Computed t) = refl
case_bare (form.Function ps t m) = refl
case_bare form.BuilderProperty = refl
case_bare (form.BuilderFunction ps) = refl
case_bare form.Reduce = refl
case_bare form.Unfit = refl

abbrev input_of : Signature → Option ℕ
input_of s = input_number s.form

abbrev slot_of : Signature → Option ℕ
slot_of s = slot_number s.form

abbrev case_of : Signature → Option ℕ
case_of s = case_number s.form

-- ---- what each form of a member is

abbrev if_so : Bool → ℕ → Option ℕ
if_so b n = cond b (Some n) None

-- a member of this role has the next number of its kind, where it has one
abbrev HasNumbers : Role → ℕ → ℕ → SignatureForm → Type 0
HasNumbers r i j f = (input_number f ≡ if_so (is_input_role r) i) × (slot_number f ≡ if_so (is_slot_role r) j) × (case_number f ≡ None)

abbrev pub HasNone : SignatureForm → Type 0
HasNone f = (input_number f ≡ None) × (slot_number f ≡ None) × (case_number f ≡ None)

key_none : (o : Option ℕ) → HasNone (key_form o)
key_none None = (refl, refl, refl)
key_none (Some k) = (refl, refl, refl)

read_none : (heads : Table) (o : Option (List ℕ)) → HasNone (key_at heads o)
read_none heads None = (refl, refl, refl)
read_none heads (Some w) = key_none (fin.get heads.keys w)

stored_numbers : (heads : Table) (i j : ℕ) (r : Role) (ms : List Modifier) (b : Binder) (t : Option TypeName) (v : Option Expr) → HasNumbers r i j (stored_form heads i j r ms b t v)
stored_numbers heads i j role.Stored ms b t v = (refl, refl, refl)
stored_numbers heads i j role.State ms b t v = (refl, refl, refl)
stored_numbers heads i j role.Binding ms b t v = (refl, refl, refl)
stored_numbers heads i j role.Environment ms b t v = read_none heads (environment_key ms)
stored_numbers heads i j role.Static ms b t v = (refl, refl, refl)
stored_numbers heads i j role.Computed ms b t v = (refl, refl, refl)
stored_numbers heads i j role.Function ms b t v = (refl, refl, refl)
stored_numbers heads i j role.Mutating ms b t v = (refl, refl, refl)
stored_numbers heads i j role.BuilderProperty ms b t v = (refl, refl, refl)
stored_numbers heads i j role.BuilderFunction ms b t v = (refl, refl, refl)
stored_numbers heads i j role.Reduce ms b t v = (refl, refl, refl)
stored_numbers heads i j role.Unfit ms b t v = (refl, refl, refl)

pub computed_none : (heads : Table) (r : Role) (t : ResultName) → HasNone (computed_form heads r t)
computed_none heads role.Computed (Plain t) = (refl, refl, refl)
computed_none heads role.Computed (Opaque w) = (refl, refl, refl)
computed_none heads role.Static (Plain t) = (refl, refl, refl)
computed_none heads role.Static (Opaque w) = (refl, refl, refl)
computed_none heads role.BuilderProperty t = (refl, refl, refl)
computed_none heads role.Stored t = (refl, refl, refl)
computed_none heads role.State t = (refl, refl, refl)
computed_none heads role.Binding t = (refl, refl, refl)
computed_none heads role.Environment t = (refl, refl, refl)
computed_none heads role.Function t = (refl, refl, refl)
computed_none heads role.Mutating t = (refl, refl, refl)
computed_none heads role.BuilderFunction t = (refl, refl, refl)
computed_none heads role.Reduce t = (refl, refl, refl)
computed_none heads role.Unfit t = (refl, refl, refl)

result_none : (ps : List ParamSignature) (m : Bool) (t : Option Ty) → HasNone (result_form ps m t)
result_none ps m None = (refl, refl, refl)
result_none ps m (Some t) = (refl, refl, refl)

valued_none : (heads : Table) (ps : List Param) (m : Bool) (r : Option ResultName) → HasNone (valued_form heads ps m r)
valued_none heads ps m None = (refl, refl, refl)
valued_none heads ps m (Some (Plain t)) = result_none (params_of heads ps) m (type_of heads t)
valued_none heads ps m (Some (Opaque w)) = (refl, refl, refl)

pub function_none : (heads : Table) (r : Role) (ps : List Param) (t : Option ResultName) → HasNone (function_form heads r ps t)
function_none heads role.Function ps t = valued_none heads ps false t
function_none heads role.Mutating ps t = valued_none heads ps true t
function_none heads role.BuilderFunction ps t = (refl, refl, refl)
function_none heads role.Reduce ps t = (refl, refl, refl)
function_none heads role.Stored ps t = (refl, refl, refl)
function_none heads role.State ps t = (refl, refl, refl)
function_none heads role.Binding ps t = (refl, refl, refl)
function_none heads role.Environment ps t = (refl, refl, refl)
function_none heads role.Static ps t = (refl, refl, refl)
function_none heads role.Computed ps t = (refl, refl, refl)
function_none heads role.BuilderProperty ps t = (refl, refl, refl)
function_none heads role.Unfit ps t = (refl, refl, refl)

-- ---- which roles have a number

abbrev Unstored : Role → Type 0
Unstored r = (is_input_role r ≡ false) × (is_slot_role r ≡ false)

unstored_if : (b : Bool) (x y : Role) → Unstored x → Unstored y → Unstored (cond b x y)
unstored_if true x y u v = u
unstored_if false x y u v = v

-- a role by a member's form
abbrev pub role_at : Sort → List Modifier → MemberForm → Role
role_at sort.Data ms f = in_data_at ms f
role_at sort.Enum ms f = in_enum_at ms f
role_at sort.View ms f = in_view_at ms f
role_at sort.App ms f = in_app_at ms f
role_at sort.Key ms f = in_key_at ms f

pub role_is : (s : Sort) (m : Member) → role_of s m ≡ role_at s m.modifiers m.form
role_is sort.Data m = refl
role_is sort.Enum m = refl
role_is sort.View m = refl
role_is sort.App m = refl
role_is sort.Key m = refl

function_unstored : (ms : List Modifier) → Unstored (function_in_data ms)
function_unstored ms =
    unstored_if (bare ms) role.Function (when_fits (marked mark.Mutating ms) role.Mutating) (refl, refl) (unstored_if (marked mark.Mutating ms) role.Mutating role.Unfit (refl, refl) (refl, refl))

-- what gives views
views_unstored : (r : Role) (ms : List Modifier) (w : List ℕ) → Unstored r → Unstored (if bytes_eq w (codes "View") then builder ms r else role.Unfit)
views_unstored r ms w u =
    unstored_if (bytes_eq w (codes "View")) (builder ms r) role.Unfit (unstored_if (bare ms || marked mark.ViewBuilder ms) r role.Unfit u (refl, refl)) (refl, refl)

-- computed properties have no number, and neither have functions
computed_unstored : (s : Sort) (ms : List Modifier) (w : List ℕ) (t : ResultName) (body : List Stmt) → Unstored (role_at s ms (member.Computed w t body))
computed_unstored sort.Data ms w (Plain t) body = unstored_if (bare ms) role.Computed role.Unfit (refl, refl) (refl, refl)
computed_unstored sort.Data ms w (Opaque v) body = (refl, refl)
computed_unstored sort.Enum ms w (Plain t) body = unstored_if (bare ms) role.Computed role.Unfit (refl, refl) (refl, refl)
computed_unstored sort.Enum ms w (Opaque v) body = (refl, refl)
computed_unstored sort.View ms w (Plain t) body = unstored_if (bare ms) role.Computed role.Unfit (refl, refl) (refl, refl)
computed_unstored sort.View ms w (Opaque v) body = views_unstored role.BuilderProperty ms v (refl, refl)
computed_unstored sort.App ms w (Plain t) body = (refl, refl)
computed_unstored sort.App ms w (Opaque v) body =
    unstored_if (bytes_eq w (codes "body") && bytes_eq v (codes "Scene") && bare ms) role.BuilderProperty role.Unfit (refl, refl) (refl, refl)
computed_unstored sort.Key ms w (Plain t) body = unstored_if (marked mark.Static ms && bytes_eq w (codes "defaultValue")) role.Static role.Unfit (refl, refl) (refl, refl)
computed_unstored sort.Key ms w (Opaque v) body = (refl, refl)

function_is_unstored : (s : Sort) (ms : List Modifier) (w : List ℕ) (ps : List Param) (t : Option ResultName) (body : List Stmt) → Unstored (role_at s ms (member.Function w ps t body))
function_is_unstored sort.Data ms w ps None body = function_unstored ms
function_is_unstored sort.Data ms w ps (Some (Plain t)) body = function_unstored ms
function_is_unstored sort.Data ms w ps (Some (Opaque v)) body = (refl, refl)
function_is_unstored sort.Enum ms w ps None body = unstored_if (bare ms) role.Function role.Unfit (refl, refl) (refl, refl)
function_is_unstored sort.Enum ms w ps (Some (Plain t)) body = unstored_if (bare ms) role.Function role.Unfit (refl, refl) (refl, refl)
function_is_unstored sort.Enum ms w ps (Some (Opaque v)) body = (refl, refl)
function_is_unstored sort.View ms w ps None body = unstored_if (bare ms) role.Function role.Unfit (refl, refl) (refl, refl)
function_is_unstored sort.View ms w ps (Some (Plain t)) body = unstored_if (bare ms) role.Function role.Unfit (refl, refl) (refl, refl)
function_is_unstored sort.View ms w ps (Some (Opaque v)) body = views_unstored role.BuilderFunction ms v (refl, refl)
function_is_unstored sort.App ms w ps t body = (refl, refl)
function_is_unstored sort.Key ms w ps None body = unstored_if (marked mark.Static ms && bytes_eq w (codes "reduce") && reduce_params ps) role.Reduce role.Unfit (refl, refl) (refl, refl)
function_is_unstored sort.Key ms w ps (Some (Plain t)) body = (refl, refl)
function_is_unstored sort.Key ms w ps (Some (Opaque v)) body = (refl, refl)

numbered_none : (r : Role) (i j : ℕ) (f : SignatureForm) → HasNone f → Unstored r → HasNumbers r i j f
numbered_none r i j f n u = (n.0 ∙ sym (ap (λ b. if_so b i) u.0), n.1 ∙ sym (ap (λ b. if_so b j) u.1), n.2)

form_numbers : (heads : Table) (i j : ℕ) (s : Sort) (ms : List Modifier) (f : MemberForm) (r : Role) → role_at s ms f ≡ r → HasNumbers r i j (member_form heads i j r ms f)
form_numbers heads i j s ms (member.Stored b w t v) r e = stored_numbers heads i j r ms b t v
form_numbers heads i j s ms (member.Computed w t body) r e = numbered_none r i j (computed_form heads r t) (computed_none heads r t) (subst Unstored e (computed_unstored s ms w t body))
form_numbers heads i j s ms (member.Function w ps t body) r e = numbered_none r i j (function_form heads r ps t) (function_none heads r ps t) (subst Unstored e (function_is_unstored s ms w ps t body))

member_numbers : (heads : Table) (i j : ℕ) (s : Sort) (m : Member) → HasNumbers (role_of s m) i j (member_form heads i j (role_of s m) m.modifiers m.form)
member_numbers heads i j s m = form_numbers heads i j s m.modifiers m.form (role_of s m) (sym (role_is s m))

-- nothing in an enum is stored
enum_unstored : (ms : List Modifier) (f : MemberForm) → Unstored (in_enum_at ms f)
enum_unstored ms (member.Stored b w t v) = (refl, refl)
enum_unstored ms (member.Computed w t body) = computed_unstored sort.Enum ms w t body
enum_unstored ms (member.Function w ps t body) = function_is_unstored sort.Enum ms w ps t body

enum_none : (heads : Table) (m : Member) → HasNone (member_form heads 0 0 (role_of sort.Enum m) m.modifiers m.form)
enum_none heads m =
    let n = member_numbers heads 0 0 sort.Enum m in let u = enum_unstored m.modifiers m.form in
    (n.0 ∙ ap (λ b. if_so b 0) u.0, n.1 ∙ ap (λ b. if_so b 0) u.1, n.2)

-- ---- the numbers count up

abbrev Number : Type 0
Number = SignatureForm → Option ℕ

abbrev number_of : Number → Draft → List (Option ℕ)
number_of num d = num d.form ∷ []

abbrev numbers_of : Number → List Draft → List (Option ℕ)
numbers_of num ds = flat_map (number_of num) ds

signature_numbers : (num : Number) (first : ℕ) (ds : List Draft) → map (λ (s : Signature). num s.form) (signatures first ds) ≡ numbers_of num ds
signature_numbers num first ds =
    ap (map (λ (s : Signature). num s.form)) (signatures_along first ds)
    ∙ map_along (λ b d. signature_at first (length b) d.name d.form ∷ []) (λ (s : Signature). num s.form) (number_of num) (λ b d. refl) ds

count_more : {X : Type 0} (p : X → Bool) (xs : List X) (x : X) → count_by p (xs ++ x ∷ []) ≡ count_by p xs + cond (p x) 1 0
count_more p xs x =
    sum_by-append (λ y. cond (p y) 1 0) xs (x ∷ []) ∙ ap (λ n. count_by p xs + n) (sum_by-cons (λ y. cond (p y) 1 0) x [] ∙ (let h : cond {A = ℕ} (p x) 1 0 + 0 ≡ cond (p x) 1 0 = omega arith in h))

module _ (heads : Table) (s : Sort) (num : Number) (test : Member → Bool)
    (is : (before : List Member) (m : Member) → num (member_form heads (narrow (count_by (is_input s) before)) (narrow (count_by (is_slot s) before)) (role_of s m) m.modifiers m.form) ≡ if_so (test m) (narrow (count_by test before))) where
  counted_by : (before : List Member) (m : Member) (rest : List (Option ℕ)) (n : Option ℕ) (b : Bool) → count_by test before ≤ 1048576 → test m ≡ b → n ≡ if_so b (narrow (count_by test before))
      → Counted (count_by test (before ++ m ∷ [])) rest → Counted (count_by test before) (n ∷ rest)
  counted_by before m rest n true le t e c =
      let more : count_by test (before ++ m ∷ []) ≡ suc (count_by test before) =
      count_more test before m ∙ ap (λ b. count_by test before + cond b 1 0) t ∙ (let h : count_by test before + 1 ≡ suc (count_by test before) = omega arith in h) in
      subst (λ k. Counted (count_by test before) (k ∷ rest)) (sym e) (narrow_small (count_by test before) le, subst (λ k. Counted k rest) more c)
  counted_by before m rest n false le t e c =
      let more : count_by test (before ++ m ∷ []) ≡ count_by test before =
      count_more test before m ∙ ap (λ b. count_by test before + cond b 1 0) t ∙ (let h : count_by test before + 0 ≡ count_by test before = omega arith in h) in
      subst (λ k. Counted (count_by test before) (k ∷ rest)) (sym e) (subst (λ k. Counted k rest) more c)

  counted_members : (before ms : List Member) → length before + length ms ≤ 1048576
      → Counted (count_by test before) (numbers_of num (along_from (λ b m. struct_draft heads s b m ∷ []) before ms))
  counted_members before [] le = tt
  counted_members before (m ∷ ms) le =
      let l = length-append before (m ∷ []) in let c = count_by-le-length test before in
      counted_by before m (numbers_of num (along_from (λ b m. struct_draft heads s b m ∷ []) (before ++ m ∷ []) ms))
      (num (member_form heads (narrow (count_by (is_input s) before)) (narrow (count_by (is_slot s) before)) (role_of s m) m.modifiers m.form))
      (test m) (omega (arith, c, le)) refl (is before m) (counted_members (before ++ m ∷ []) ms (omega (arith, l, le)))

no_append : (ms ns : List (Option ℕ)) → NoNumber ms → NoNumber ns → NoNumber (ms ++ ns)
no_append [] ns a b = b
no_append (None ∷ ms) ns a b = no_append ms ns a b
no_append (Some n ∷ ms) ns a b = absurd a

none_of : (num : Number) (d : Draft) → num d.form ≡ None → NoNumber (number_of num d)
none_of num d e = subst (λ n. NoNumber (n ∷ [])) (sym e) tt

none_along : {X : Type 0} (num : Number) (f : List X → X → List Draft) → ((before : List X) (x : X) → NoNumber (numbers_of num (f before x))) → (done xs : List X) → NoNumber (numbers_of num (along_from f done xs))
none_along num f is done [] = tt
none_along num f is done (x ∷ xs) =
    subst NoNumber (sym (flat_map-append (number_of num) (f done x) (along_from f (done ++ x ∷ []) xs)))
    (no_append (numbers_of num (f done x)) (numbers_of num (along_from f (done ++ x ∷ []) xs)) (is done x) (none_along num f is (done ++ x ∷ []) xs))

-- ---- cases

module _ (cases : ℕ) where
  case_list : List CaseName → List CaseName → List (Option ℕ)
  case_list done cs = numbers_of case_number (along_from (λ b c. case_draft cases b c ∷ []) done cs)

  cases_count : (done cs : List CaseName) → cases + length done + length cs ≤ 1048576 → Counted (cases + length done) (case_list done cs)
  unfolding case_list
  cases_count done [] le = tt
  cases_count done (c ∷ cs) le =
      let l = length-append done (c ∷ []) in
      let more : cases + length (done ++ c ∷ []) ≡ suc (cases + length done) = omega (arith, l) in
      (narrow_small (cases + length done) (omega (arith, le)), subst (λ k. Counted k (numbers_of case_number (along_from (λ b c. case_draft cases b c ∷ []) (done ++ c ∷ []) cs))) more (cases_count (done ++ c ∷ []) cs (omega (arith, l, le))))

  cases_length : (done cs : List CaseName) → numbers (case_list done cs) ≡ length cs
  unfolding case_list
  cases_length done [] = refl
  cases_length done (c ∷ cs) = ap suc (cases_length (done ++ c ∷ []) cs)

item_count : (heads : Table) (cases k : ℕ) (i : EnumItem) → cases ≡ k → k + item_cases i ≤ 1048576 → Counted k (numbers_of case_number (item_drafts heads cases i))
unfolding along case_list
item_count heads cases k (item.Cases cs) e le =
    let h : cases + 0 ≡ k = omega (arith, e) in subst (λ j. Counted j (case_list cases [] cs)) h (cases_count cases [] cs (omega (arith, h, le)))
item_count heads cases k (item.Member m) e le = none_counted k (number_of case_number (enum_member heads m)) (none_of case_number (enum_member heads m) (enum_none heads m).2)

item_numbers : (heads : Table) (cases : ℕ) (i : EnumItem) → numbers (numbers_of case_number (item_drafts heads cases i)) ≡ item_cases i
unfolding along case_list
item_numbers heads cases (item.Cases cs) = cases_length cases [] cs
item_numbers heads cases (item.Member m) = none_numbers (number_of case_number (enum_member heads m)) (none_of case_number (enum_member heads m) (enum_none heads m).2)

item_list : Table → List EnumItem → List EnumItem → List Draft
item_list heads done items = along_from (λ b i. item_drafts heads (case_count b) i) done items

items_count : (heads : Table) (done items : List EnumItem) → sum_by item_cases done + sum_by item_cases items ≤ 1048576 → Counted (sum_by item_cases done) (numbers_of case_number (item_list heads done items))
unfolding item_list
items_count heads done [] le = tt
items_count heads done (i ∷ items) le =
    let xs = item_drafts heads (case_count done) i in let ys = item_list heads (done ++ i ∷ []) items in
    let a = sum_by-cons item_cases i items in
    let b : sum_by item_cases (done ++ i ∷ []) ≡ sum_by item_cases done + item_cases i =
    sum_by-append item_cases done (i ∷ []) ∙ ap (λ n. sum_by item_cases done + n) (sum_by-cons item_cases i [] ∙ (let h : item_cases i + 0 ≡ item_cases i = omega arith in h)) in
    let c = item_numbers heads (case_count done) i in
    subst (Counted (sum_by item_cases done)) (sym (flat_map-append (number_of case_number) xs ys))
    (counted_append (sum_by item_cases done) (numbers_of case_number xs) (numbers_of case_number ys)
    (item_count heads (case_count done) (sum_by item_cases done) i (narrow_small (sum_by item_cases done) (omega (arith, le))) (omega (arith, a, le)))
    (subst (λ k. Counted k (numbers_of case_number ys)) (b ∙ ap (λ n. sum_by item_cases done + n) (sym c)) (items_count heads (done ++ i ∷ []) items (omega (arith, a, b, le)))))

items_numbers : (heads : Table) (done items : List EnumItem) → numbers (numbers_of case_number (item_list heads done items)) ≡ sum_by item_cases items
unfolding item_list
items_numbers heads done [] = refl
items_numbers heads done (i ∷ items) =
    let xs = item_drafts heads (case_count done) i in let ys = item_list heads (done ++ i ∷ []) items in
    ap numbers (flat_map-append (number_of case_number) xs ys) ∙ numbers_append (numbers_of case_number xs) (numbers_of case_number ys)
    ∙ (λ j. item_numbers heads (case_count done) i j + items_numbers heads (done ++ i ∷ []) items j)
    ∙ sym (sum_by-cons item_cases i items)

cases_in_items : (items : List EnumItem) → sum_by item_cases items ≤ sum_by item_size items
cases_in_items [] = omega arith
cases_in_items (i ∷ items) = let a = sum_by-cons item_cases i items in let b = sum_by-cons item_size i items in let r = cases_in_items items in let h = by i in omega (arith, a, b, r, h)
  where
    by : (i : EnumItem) → item_cases i ≤ item_size i
    by (item.Cases cs) = omega arith
    by (item.Member m) = omega arith

-- ---- a declaration

-- its fields, inputs, slots and cases have the numbers of their places
record Ordered (declaration : Declaration) : Type 0 where
  inputs : Counted 0 (map input_of declaration.members)
  slots : Counted 0 (map slot_of declaration.members)
  cases : Counted 0 (map case_of declaration.members)
  count : cases_in declaration.kind ≡ numbers (map case_of declaration.members)

no_input_case : (heads : Table) (i : EnumItem) (cases : ℕ) → NoNumber (numbers_of input_number (item_drafts heads cases i)) × NoNumber (numbers_of slot_number (item_drafts heads cases i))
unfolding along
no_input_case heads (item.Cases cs) cases =
    (none_along input_number (λ b c. case_draft cases b c ∷ []) (λ b c. tt) [] cs, none_along slot_number (λ b c. case_draft cases b c ∷ []) (λ b c. tt) [] cs)
no_input_case heads (item.Member m) cases =
    (none_of input_number (enum_member heads m) (enum_none heads m).0, none_of slot_number (enum_member heads m) (enum_none heads m).1)

struct_cases : (key : ℕ) (names : List (List ℕ)) (s : Sort) → cases_in (struct_kind key names s) ≡ 0
struct_cases key names sort.Data = refl
struct_cases key names sort.Enum = refl
struct_cases key names sort.View = refl
struct_cases key names sort.App = refl
struct_cases key names sort.Key = refl

struct_ordered : (heads : Table) (first key : ℕ) (p : StructPiece) (ms : List Member) → length ms ≤ 1048576 → Ordered (made_struct heads first key p ms)
unfolding along
struct_ordered heads first key p ms le =
    let s = sort_of p.names in
    let ds = struct_drafts heads s ms in
    let none : NoNumber (numbers_of case_number ds) =
    none_along case_number (λ b m. struct_draft heads s b m ∷ []) (λ b m. none_of case_number (struct_draft heads s b m) (member_numbers heads (narrow (count_by (is_input s) b)) (narrow (count_by (is_slot s) b)) s m).2) [] ms in
    let none : NoNumber (map case_of (signatures first ds)) = subst NoNumber (sym (signature_numbers case_number first ds)) none in
    record {
      inputs = subst (Counted 0) (sym (signature_numbers input_number first ds))
          (counted_members heads s input_number (is_input s) (λ b m. (member_numbers heads (narrow (count_by (is_input s) b)) (narrow (count_by (is_slot s) b)) s m).0) [] ms (omega (arith, le)));
      slots = subst (Counted 0) (sym (signature_numbers slot_number first ds))
          (counted_members heads s slot_number (is_slot s) (λ b m. (member_numbers heads (narrow (count_by (is_input s) b)) (narrow (count_by (is_slot s) b)) s m).1) [] ms (omega (arith, le)));
      cases = none_counted 0 (map case_of (signatures first ds)) none;
      count = struct_cases key p.names s ∙ sym (none_numbers (map case_of (signatures first ds)) none);
    }

enum_ordered : (heads : Table) (first : ℕ) (p : EnumPiece) → sum_by item_size p.items ≤ 1048576 → Ordered (made_enum heads first p)
unfolding along item_list
enum_ordered heads first p le =
    let ds = enum_drafts heads p.items in
    let f = λ (b : List EnumItem) (i : EnumItem). item_drafts heads (case_count b) i in
    let few = cases_in_items p.items in
    record {
      inputs = none_counted 0 (map input_of (signatures first ds))
          (subst NoNumber (sym (signature_numbers input_number first ds)) (none_along input_number f (λ b i. (no_input_case heads i (case_count b)).0) [] p.items));
      slots = none_counted 0 (map slot_of (signatures first ds))
          (subst NoNumber (sym (signature_numbers slot_number first ds)) (none_along slot_number f (λ b i. (no_input_case heads i (case_count b)).1) [] p.items));
      cases = subst (Counted 0) (sym (signature_numbers case_number first ds)) (items_count heads [] p.items (omega (arith, few, le)));
      count = narrow_small (sum_by item_cases p.items) (omega (arith, few, le)) ∙ sym (items_numbers heads [] p.items) ∙ ap numbers (sym (signature_numbers case_number first ds));
    }

ordered_struct : (heads : Table) (first key : ℕ) (p : StructPiece) (b : StructBody) (d : Declaration) → struct_declaration heads first key p b ≡ d ∷ [] → length d.members ≤ 1048576 → Ordered d
ordered_struct heads first key p LeftAside d e le = cc
ordered_struct heads first key p (Members ms) d e le =
    let h : made_struct heads first key p ms ≡ d = cc in
    let l : length (signatures first (struct_drafts heads (sort_of p.names) ms)) ≡ length d.members = ap members_in h in
    let a = length_signatures first (struct_drafts heads (sort_of p.names) ms) in let b = length_struct heads (sort_of p.names) ms in
    subst Ordered h (struct_ordered heads first key p ms (omega (arith, l, a, b, le)))

ordered : (heads : Table) (first key : ℕ) (f : PieceForm) (d : Declaration) → declarations_at heads first key f ≡ d ∷ [] → length d.members ≤ 1048576 → Ordered d
ordered heads first key (piece.Struct p) d e le = ordered_struct heads first key p p.body d e le
ordered heads first key (piece.Enum p) d e le =
    let h : made_enum heads first p ≡ d = cc in
    let l : length (signatures first (enum_drafts heads p.items)) ≡ length d.members = ap members_in h in
    let a = length_signatures first (enum_drafts heads p.items) in let b = length_enum heads p.items in
    subst Ordered h (enum_ordered heads first p (omega (arith, l, a, b, le)))
ordered heads first key (piece.Import w) d e le = cc
ordered heads first key (piece.Environment es) d e le = cc
ordered heads first key (piece.Preview s) d e le = cc

alike_number : (num : Number) → ((f : SignatureForm) → num (bare_form f) ≡ num f) → (x y : Signature) → bare_signature x ≡ bare_signature y → num x.form ≡ num y.form
alike_number num bare x y e = sym (bare x.form) ∙ ap (λ (s : Signature). num s.form) e ∙ bare y.form

same_numbers : (num : Number) → ((f : SignatureForm) → num (bare_form f) ≡ num f) → (x y : Declaration) → bare_declaration x ≡ bare_declaration y
    → map (λ (s : Signature). num s.form) x.members ≡ map (λ (s : Signature). num s.form) y.members
same_numbers num bare x y e = alike_map bare_signature (λ (s : Signature). num s.form) (alike_number num bare) x.members y.members (ap (λ (d : Declaration). d.members) e)

ordered_alike : (x y : Declaration) → bare_declaration x ≡ bare_declaration y → Ordered y → Ordered x
ordered_alike x y e o = record {
  inputs = subst (Counted 0) (sym (same_numbers input_number input_bare x y e)) o.inputs;
  slots = subst (Counted 0) (sym (same_numbers slot_number slot_bare x y e)) o.slots;
  cases = subst (Counted 0) (sym (same_numbers case_number case_bare x y e)) o.cases;
  count = ap (λ (d : Declaration). cases_in d.kind) e ∙ o.count ∙ ap numbers (sym (same_numbers case_number case_bare x y e));
}

declaration_ordered : {source : Source} {table : Table} → IsTableOf source table → IsSmall table → (d : ℕ) (declaration : Declaration) → slice_get table.declarations d ≡ Some declaration → Ordered declaration
declaration_ordered {source = source} {table = table} is small d declaration e =
    let x = declaration_alike is d declaration e in
    let by = declared_by source d x.0 x.1 in
    let l = alike_length bare_signature declaration.members x.0.members (ap (λ (z : Declaration). z.members) x.2) in
    let f = members_few table.declarations d declaration e in
    ordered_alike declaration x.0 x.2 (ordered (heads_table source.pieces) (first_code by.before) (next_key by.before) by.one.form x.0 by.is (omega (arith, l, f, small)))

-- a member of an enum is no field, no input and no slot
none_there : (ns : List (Option ℕ)) (i : ℕ) (n : Option ℕ) → NoNumber ns → slice_get ns i ≡ Some n → n ≡ None
none_there [] i n h e = cc
none_there (None ∷ ns) zero n h e = let k : None ≡ n = cc in sym k
none_there (None ∷ ns) (suc i) n h e = none_there ns i n h e
none_there (Some m ∷ ns) i n h e = absurd h

pub enum_has_none : (heads : Table) (first : ℕ) (items : List EnumItem) (at : ℕ) (s : Signature) → slice_get (signatures first (enum_drafts heads items)) at ≡ Some s
    → (input_number s.form ≡ None) × (slot_number s.form ≡ None)
unfolding along
enum_has_none heads first items at s e =
    let ss = signatures first (enum_drafts heads items) in
    let f = λ (b : List EnumItem) (i : EnumItem). item_drafts heads (case_count b) i in (
      none_there (map input_of ss) at (input_of s)
          (subst NoNumber (sym (signature_numbers input_number first (enum_drafts heads items))) (none_along input_number f (λ b i. (no_input_case heads i (case_count b)).0) [] items))
          (reads input_of ss at s e),
      none_there (map slot_of ss) at (slot_of s)
          (subst NoNumber (sym (signature_numbers slot_number first (enum_drafts heads items))) (none_along slot_number f (λ b i. (no_input_case heads i (case_count b)).1) [] items))
          (reads slot_of ss at s e),
    )

-- ---- the laws

input_taken : (code : CodeId) (f : SignatureForm) → is_some (input_number f) ≡ is_some (stored_at code f)
input_taken code (form.Stored n b t a) = refl
input_taken code (form.Binding n t) = refl
input_taken code (form.State n t a) = refl
input_taken code (form.Static t) = refl
input_taken code (form.Environment n) = refl
input_taken code (form.Case n) = refl
input_taken code (form.Computed t) = refl
input_taken code (form.Function ps t m) = refl
input_taken code form.BuilderProperty = refl
input_taken code (form.BuilderFunction ps) = refl
input_taken code form.Reduce = refl
input_taken code form.Unfit = refl

slot_taken : (code : CodeId) (f : SignatureForm) → is_some (slot_number f) ≡ is_some (slot_at code f)
slot_taken code (form.Stored n b t a) = refl
slot_taken code (form.Binding n t) = refl
slot_taken code (form.State n t a) = refl
slot_taken code (form.Static t) = refl
slot_taken code (form.Environment n) = refl
slot_taken code (form.Case n) = refl
slot_taken code (form.Computed t) = refl
slot_taken code (form.Function ps t m) = refl
slot_taken code form.BuilderProperty = refl
slot_taken code (form.BuilderFunction ps) = refl
slot_taken code form.Reduce = refl
slot_taken code form.Unfit = refl

case_taken : (s : Signature) (f : SignatureForm) → is_some (case_number f) ≡ is_some (case_at s f)
case_taken s (form.Stored n b t a) = refl
case_taken s (form.Binding n t) = refl
case_taken s (form.State n t a) = refl
case_taken s (form.Static t) = refl
case_taken s (form.Environment n) = refl
case_taken s (form.Case n) = refl
case_taken s (form.Computed t) = refl
case_taken s (form.Function ps t m) = refl
case_taken s form.BuilderProperty = refl
case_taken s (form.BuilderFunction ps) = refl
case_taken s form.Reduce = refl
case_taken s form.Unfit = refl

placed : (declaration : Declaration) (at : ℕ) (s : Signature) → Ordered declaration → slice_get declaration.members at ≡ Some s → (f : SignatureForm) → s.form ≡ f → InItsPlace declaration.members s.code s.name f
placed declaration at s o h (form.Stored n b t a) e =
    in_place input_of (λ x. stored_at x.code x.form) (λ x. input_taken x.code x.form) declaration.members 0 at n n s o.inputs h (ap input_number e) (omega arith) ∙ ap (stored_at s.code) e
placed declaration at s o h (form.Binding n t) e =
    in_place input_of (λ x. stored_at x.code x.form) (λ x. input_taken x.code x.form) declaration.members 0 at n n s o.inputs h (ap input_number e) (omega arith) ∙ ap (stored_at s.code) e
placed declaration at s o h (form.State n t a) e =
    in_place slot_of (λ x. slot_at x.code x.form) (λ x. slot_taken x.code x.form) declaration.members 0 at n n s o.slots h (ap slot_number e) (omega arith) ∙ ap (slot_at s.code) e
placed declaration at s o h (form.Case n) e =
    in_place case_of (λ x. case_at x x.form) (λ x. case_taken x x.form) declaration.members 0 at n n s o.cases h (ap case_number e) (omega arith) ∙ ap (case_at s) e
placed declaration at s o h (form.Static t) e = tt
placed declaration at s o h (form.Environment n) e = tt
placed declaration at s o h (form.Computed t) e = tt
placed declaration at s o h (form.Function ps t m) e = tt
placed declaration at s o h form.BuilderProperty e = tt
placed declaration at s o h (form.BuilderFunction ps) e = tt
placed declaration at s o h form.Reduce e = tt
placed declaration at s o h form.Unfit e = tt

-- Each field, input, slot and case stands where its signature says.
abbrev pub PlacesStand : Type 0
PlacesStand = (source : Source) (table : Table) → IsTableOf source table → IsSmall table
    → (d : ℕ) (declaration : Declaration) (at : ℕ) (s : Signature) → slice_get table.declarations d ≡ Some declaration → slice_get declaration.members at ≡ Some s
    → InItsPlace declaration.members s.code s.name s.form

pub places_stand : PlacesStand
places_stand source table is small d declaration at s e h = placed declaration at s (declaration_ordered is small d declaration e) h s.form refl

-- An enum has as many cases as its kind says, and nothing else has cases.
abbrev pub CasesCounted : Type 0
CasesCounted = (source : Source) (table : Table) → IsTableOf source table → IsSmall table
    → (d : ℕ) (declaration : Declaration) → slice_get table.declarations d ≡ Some declaration → cases_in declaration.kind ≡ length (cases_of declaration.members)

pub cases_counted : CasesCounted
cases_counted source table is small d declaration e =
    (declaration_ordered is small d declaration e).count ∙ sym (taken_length case_of (λ x. case_at x x.form) (λ x. case_taken x x.form) declaration.members)
