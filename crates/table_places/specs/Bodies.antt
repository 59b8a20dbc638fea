-- A view and an app have a property `body` that gives views.
use Rattle.std.specs.Prelude.{◌≡◌, ℕ, Bool, true, false, ◌&&◌, ◌||◌, List, [], ◌∷◌, Option, Some, None, is_some, not, length, codes, slice_get, if◌then◌else◌}
use Rattle.std.specs.Str.{bytes_eq}
use Rattle.std.proofs.Common.{refl, sym, ap, subst, ◌∙◌, arith}
use Rattle.std.proofs.lemmas.Option.{slice_get_within}
use Rattle.std.proofs.lemmas.Slice.Eq.{bytes_eq-Decides}
use Rattle.swift_ast.specs.declared.piece.Member.{Member}
use Rattle.swift_ast.specs.declared.piece.MemberForm.{MemberForm}
use Rattle.swift_ast.specs.declared.piece.MemberForm.TheVariants as member
use Rattle.swift_ast.specs.declared.piece.Modifier.{Modifier}
use Rattle.swift_ast.specs.declared.piece.Piece.{Piece}
use Rattle.swift_ast.specs.declared.piece.PieceForm.{PieceForm}
use Rattle.swift_ast.specs.declared.piece.PieceForm.TheVariants as piece
use Rattle.swift_ast.specs.declared.piece.ResultName.TheVariants.{Plain, Opaque}
use Rattle.swift_ast.specs.declared.piece.Source.{Source}
use Rattle.swift_ast.specs.declared.piece.StructBody.{StructBody}
use Rattle.swift_ast.specs.declared.piece.StructBody.TheVariants.{Members, LeftAside}
use Rattle.swift_ast.specs.declared.piece.StructPiece.{StructPiece}
use Rattle.swift_ast.specs.declared.tree.Binder.{Binder}
use Rattle.swift_ast.specs.declared.tree.Expr.{Expr}
use Rattle.swift_ast.specs.declared.type_name.TypeName.{TypeName}
use Rattle.swift_core.specs.Programs.{has_body, HasBody}
use Rattle.swift_core.specs.declared.table.Declaration.{Declaration}
use Rattle.swift_core.specs.declared.table.Signature.{Signature}
use Rattle.swift_core.specs.declared.table.SignatureForm.{SignatureForm}
use Rattle.swift_core.specs.declared.table.SignatureForm.TheVariants as form
use Rattle.swift_core.specs.declared.table.Table.{Table}
use Rattle.type_base.specs.Claims.{some_is}
use Rattle.member_forms.specs.declared.marks.Mark.TheVariants as mark
use Rattle.member_forms.specs.declared.role.Role.{Role}
use Rattle.member_forms.specs.declared.role.Role.TheVariants as role
use Rattle.member_forms.specs.declared.role.Sort.{Sort}
use Rattle.member_forms.specs.declared.role.Sort.TheVariants as sort
use Rattle.member_forms.specs.Marks.{bare, marked, is_private}
use Rattle.member_forms.specs.Roles.{role_of, when_fits, is_var, may_start, stored_in_view, in_view_at, in_app_at}
use Rattle.member_forms.specs.Whole as whole
use Rattle.member_forms.specs.Whole.{sort_of, is_builder_role, is_body, member_name, is_complete, members_fit, head_fits, struct_body_fits, declaration_fits_at, declaration_fits}
use Rattle.type_table.specs.Heads.{heads_table, next_key, struct_kind}
use Rattle.type_table.specs.Signatures.{computed_form, member_form, signatures, struct_drafts}
use Rattle.type_table.specs.Tables.{first_code, struct_declaration, declarations_at}
use Rattle.table_names.specs.Lists.{get_middle}
use Rattle.table_names.specs.Numbers.{some_at}
use Rattle.table_names.specs.Pieces.{declared_by, made_struct, made_enum, length_signatures, length_struct}
use Rattle.table_names.specs.Tables.{IsTableOf, bare_form, declaration_alike, signature_alike}
use Rattle.table_places.specs.Members.{of_member, false_true}
use Rattle.table_places.specs.Preferences.{AllFit, has_any, first_part, last_of}

-- ---- the form of what gives views by its role

never : (r : Role) → is_builder_role r ≡ false → (b : Bool) → is_builder_role (when_fits b r) ≡ false
never r e true = e
never r e false = refl

neither : (b : Bool) (r s : Role) → is_builder_role r ≡ false → is_builder_role s ≡ false → is_builder_role (if b then r else s) ≡ false
neither true r s e h = e
neither false r s e h = h

stored_never : (ms : List Modifier) (b : Binder) (t : Option TypeName) (v : Option Expr) → is_builder_role (stored_in_view ms b t v) ≡ false
stored_never ms b t v =
    neither (bare ms) _ _ (never role.Stored refl (may_start ms b t v))
    (neither (marked mark.State ms) _ _ (never role.State refl (is_var b && may_start ms b t v))
    (neither (marked mark.Binding ms) _ _ (never role.Binding refl (is_var b && not (is_some v) && not (is_private ms)))
    (neither (marked mark.Environment ms) _ _ (never role.Environment refl (is_var b && not (is_some v)))
    (neither (marked mark.Static ms) _ _ (never role.Static refl (not (is_var b) && is_some v)) refl))))

opaque_form : (heads : Table) (name : List ℕ) (a b : Bool) → is_builder_role (if a then when_fits b role.BuilderProperty else role.Unfit) ≡ true
    → computed_form heads (if a then when_fits b role.BuilderProperty else role.Unfit) (Opaque name) ≡ form.BuilderProperty
opaque_form heads name true true e = refl
opaque_form heads name true false e = cc
opaque_form heads name false b e = cc

view_form : (heads : Table) (i j : ℕ) (ms : List Modifier) (f : MemberForm) → is_builder_role (in_view_at ms f) ≡ true → member_form heads i j (in_view_at ms f) ms f ≡ form.BuilderProperty
view_form heads i j ms (member.Stored b w t v) e = false_true (stored_never ms b t v) e
view_form heads i j ms (member.Computed w (Plain t) body) e = false_true (never role.Computed refl (bare ms)) e
view_form heads i j ms (member.Computed w (Opaque name) body) e = opaque_form heads name (bytes_eq name (codes "View")) (bare ms || marked mark.ViewBuilder ms) e
view_form heads i j ms (member.Function w ps (Some (Opaque name)) body) e =
    false_true (neither (bytes_eq name (codes "View")) _ _ (never role.BuilderFunction refl (bare ms || marked mark.ViewBuilder ms)) refl) e
view_form heads i j ms (member.Function w ps (Some (Plain t)) body) e = false_true (never role.Function refl (bare ms)) e
view_form heads i j ms (member.Function w ps None body) e = false_true (never role.Function refl (bare ms)) e

app_form : (heads : Table) (i j : ℕ) (ms : List Modifier) (f : MemberForm) → is_builder_role (in_app_at ms f) ≡ true → member_form heads i j (in_app_at ms f) ms f ≡ form.BuilderProperty
app_form heads i j ms (member.Stored b w t v) e = cc
app_form heads i j ms (member.Computed w (Plain t) body) e = cc
app_form heads i j ms (member.Computed w (Opaque name) body) e = opaque_form heads name true (bytes_eq w (codes "body") && bytes_eq name (codes "Scene") && bare ms) e
app_form heads i j ms (member.Function w ps r body) e = cc

-- ---- the body of a declaration that is complete

abbrev BodyAmong : List Signature → Type 0
BodyAmong ss = (i : ℕ) × ((x : Signature) × (slice_get ss i ≡ Some x) × (x.name ≡ codes "body") × (x.form ≡ form.BuilderProperty))

body_among : (heads : Table) (first : ℕ) (s : Sort) (ms : List Member)
    → ((i j : ℕ) (m : Member) → is_builder_role (role_of s m) ≡ true → member_form heads i j (role_of s m) m.modifiers m.form ≡ form.BuilderProperty)
    → whole.has_body s ms ≡ true → BodyAmong (signatures first (struct_drafts heads s ms))
body_among heads first s ms is h =
    let w = has_any (is_body s) ms h in
    let lt = slice_get_within ms w.0 w.1.0 w.1.1 in
    let a = length_signatures first (struct_drafts heads s ms) in let b = length_struct heads s ms in
    let x = some_at (signatures first (struct_drafts heads s ms)) w.0 (omega (arith, lt, a, b)) in
    let o = of_member heads first s ms w.0 x.0 x.1 in
    let same : o.written ≡ w.1.0 = some_is o.written w.1.0 (sym o.stands ∙ w.1.1) in
    let passes : is_body s o.written ≡ true = ap (is_body s) same ∙ w.1.2 in
    let gives = first_part (is_builder_role (role_of s o.written)) (bytes_eq (member_name o.written) (codes "body")) passes in
    let named = last_of (is_builder_role (role_of s o.written)) (bytes_eq (member_name o.written) (codes "body")) passes in
    (w.0, (x.0, x.1, o.name_is ∙ (bytes_eq-Decides (member_name o.written) (codes "body")).0 named, o.form_is ∙ is o.inputs o.slots o.written gives))

sort_bodied : (heads : Table) (first key : ℕ) (names : List (List ℕ)) (s : Sort) (ms : List Member) → has_body (struct_kind key names s) ≡ true → is_complete s names ms ≡ true
    → BodyAmong (signatures first (struct_drafts heads s ms))
sort_bodied heads first key names sort.View ms k c = body_among heads first sort.View ms (λ i j m. view_form heads i j m.modifiers m.form) c
sort_bodied heads first key names sort.App ms k c = body_among heads first sort.App ms (λ i j m. app_form heads i j m.modifiers m.form) c
sort_bodied heads first key names sort.Data ms k c = cc
sort_bodied heads first key names sort.Enum ms k c = cc
sort_bodied heads first key names sort.Key ms k c = cc

struct_bodied : (heads : Table) (first key : ℕ) (p : StructPiece) (b : StructBody) (d : Declaration) → struct_declaration heads first key p b ≡ d ∷ [] → struct_body_fits p b ≡ true → has_body d.kind ≡ true → BodyAmong d.members
struct_bodied heads first key p LeftAside d e f k = cc
struct_bodied heads first key p (Members ms) d e f k =
    let made : made_struct heads first key p ms ≡ d = cc in
    let c = last_of (head_fits (sort_of p.names) p && members_fit (sort_of p.names) ms) (is_complete (sort_of p.names) p.names ms) f in
    subst BodyAmong (ap (λ (x : Declaration). x.members) made) (sort_bodied heads first key p.names (sort_of p.names) ms (ap (λ (x : Declaration). has_body x.kind) made ∙ k) c)

piece_bodied : (heads : Table) (first key : ℕ) (x : Piece) (d : Declaration) (f : PieceForm) → x.form ≡ f → declarations_at heads first key f ≡ d ∷ [] → declaration_fits x ≡ true → has_body d.kind ≡ true → BodyAmong d.members
piece_bodied heads first key x d (piece.Struct p) s e fits k = struct_bodied heads first key p p.body d e (ap declaration_fits_at (sym s) ∙ fits) k
piece_bodied heads first key x d (piece.Enum p) s e fits k = let made : made_enum heads first p ≡ d = cc in let no : has_body (made_enum heads first p).kind ≡ true = ap (λ (y : Declaration). has_body y.kind) made ∙ k in cc
piece_bodied heads first key x d (piece.Import w) s e fits k = cc
piece_bodied heads first key x d (piece.Environment es) s e fits k = cc
piece_bodied heads first key x d (piece.Preview w) s e fits k = cc

bare_builder : (f : SignatureForm) → bare_form f ≡ form.BuilderProperty → f ≡ form.BuilderProperty
bare_builder (form.Stored n b t a) e = cc
bare_builder (form.State n t a) e = cc
bare_builder (form.Static t) e = cc
bare_builder (form.Binding n t) e = cc
bare_builder (form.Environment n) e = cc
bare_builder (form.Case n) e = cc
bare_builder (form.Computed t) e = cc
bare_builder (form.Function ps t m) e = cc
bare_builder form.BuilderProperty e = refl
bare_builder (form.BuilderFunction ps) e = cc
bare_builder form.Reduce e = cc
bare_builder form.Unfit e = cc

-- Each view and each app has its body, where each declaration fits its kind.
abbrev pub BodiesStand : Type 0
BodiesStand = (source : Source) (table : Table) → IsTableOf source table → AllFit source
    → (d : ℕ) (declaration : Declaration) → slice_get table.declarations d ≡ Some declaration → has_body declaration.kind ≡ true → HasBody declaration

pub bodies_stand : BodiesStand
bodies_stand source table is fit d declaration e k =
    let x = declaration_alike is d declaration e in
    let by = declared_by source d x.0 x.1 in
    let there : slice_get source.pieces (length by.before) ≡ Some by.one = ap (λ ps. slice_get ps (length by.before)) by.split ∙ get_middle by.before by.after by.one in
    let b = piece_bodied (heads_table source.pieces) (first_code by.before) (next_key by.before) by.one x.0 by.one.form refl by.is (fit (length by.before) by.one there)
    (ap (λ (y : Declaration). has_body y.kind) (sym x.2) ∙ k) in
    let r = signature_alike x.0 declaration b.0 b.1.0 (sym x.2) b.1.1 in
    record {
      at = b.0;
      sign = r.0;
      stands = r.1;
      name = ap (λ (z : Signature). z.name) (sym r.2) ∙ b.1.2;
      gives_views = bare_builder r.0.form (ap (λ (z : Signature). z.form) (sym r.2) ∙ ap bare_form b.1.3);
    }
