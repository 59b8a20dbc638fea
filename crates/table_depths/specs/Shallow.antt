-- No data struct is deeper than a type may be, where none is found that holds itself.
use Rattle.std.specs.Prelude.{◌≡◌, ◌⊎◌, ℕ, zero, suc, ◌+◌, Bool, true, false, not, ◌&&◌, List, [], ◌∷◌, ◌++◌, Option, Some, None, codes, length, map, if◌then◌else◌, nat_le, slice_get}
use Rattle.std.specs.FinMap as fin
use Rattle.std.specs.List.{count_by, cons_option, list_all}
use Rattle.std.specs.Option.{option_to_list}
use Rattle.std.specs.Str.{bytes_eq}
use Rattle.std.proofs.Common.{refl, sym, ap, subst, ◌∙◌, inl, inr, cond, arith}
use Rattle.std.proofs.lemmas.List.{map-append}
use Rattle.std.proofs.lemmas.List.Sums.{sum_by-cons}
use Rattle.swift_ast.specs.declared.piece.Member.{Member}
use Rattle.swift_ast.specs.declared.piece.MemberForm.{MemberForm}
use Rattle.swift_ast.specs.declared.piece.MemberForm.TheVariants as member
use Rattle.swift_ast.specs.declared.piece.Modifier.{Modifier}
use Rattle.swift_ast.specs.declared.piece.Modifier.TheVariants as word
use Rattle.swift_ast.specs.declared.piece.Piece.{Piece}
use Rattle.swift_ast.specs.declared.piece.PieceForm.{PieceForm}
use Rattle.swift_ast.specs.declared.piece.PieceForm.TheVariants as piece
use Rattle.swift_ast.specs.declared.piece.Source.{Source}
use Rattle.swift_ast.specs.declared.piece.StructBody.{StructBody}
use Rattle.swift_ast.specs.declared.piece.StructBody.TheVariants.{Members, LeftAside}
use Rattle.swift_ast.specs.declared.piece.StructPiece.{StructPiece}
use Rattle.swift_ast.specs.declared.tree.Binder.{Binder}
use Rattle.swift_ast.specs.declared.tree.Expr.{Expr}
use Rattle.swift_ast.specs.declared.type_name.TypeName.{TypeName, fold-TypeName, roll-TypeName}
use Rattle.swift_ast.specs.declared.type_name.TypeName.TheFolds.{map-TypeName, fold-roll-TypeName, ind-TypeName}
use Rattle.swift_ast.specs.declared.type_name.TypeName.TheOpen.{TypeName-F}
use Rattle.swift_core.specs.declared.ids.CodeId.{CodeId}
use Rattle.swift_core.specs.declared.table.Declaration.{Declaration}
use Rattle.swift_core.specs.declared.table.Kind.{Kind}
use Rattle.swift_core.specs.declared.table.Kind.TheVariants as kind
use Rattle.swift_core.specs.declared.table.Signature.{Signature}
use Rattle.swift_core.specs.declared.table.SignatureForm.{SignatureForm}
use Rattle.swift_core.specs.declared.table.SignatureForm.TheVariants as form
use Rattle.swift_core.specs.declared.table.Table.{Table}
use Rattle.swift_core.specs.declared.ty.Ty.{Ty, out-Ty}
use Rattle.swift_core.specs.declared.ty.Ty.TheOpen.{Ty-F}
use Rattle.swift_core.specs.declared.ty.Ty.TheVariants as ty
use Rattle.swift_core.specs.declared.ty.Ty.TheViews.{outs-Int, outs-Bool, outs-Text, outs-List, outs-Optional, outs-Named}
use Rattle.swift_core.specs.Context.{Part, stored_at, inputs_of}
use Rattle.swift_core.specs.Programs.{Declared, IsWithin}
use Rattle.swift_core.specs.Typing.{stands_in}
use Rattle.type_base.specs.Claims.{and_then, when, some_is}
use Rattle.type_base.specs.Depth.{optional, deepest}
use Rattle.type_base.specs.Names.{is_data, declaration_of}
use Rattle.type_base.specs.TypeNames.{named_type, type_of, written_type, written_at, written_depth}
use Rattle.member_forms.specs.declared.role.Role.TheVariants as role
use Rattle.member_forms.specs.declared.role.Sort.{Sort}
use Rattle.member_forms.specs.declared.role.Sort.TheVariants as sort
use Rattle.member_forms.specs.Marks.{bare}
use Rattle.member_forms.specs.Roles.{may_start, in_data_at, role_of}
use Rattle.member_forms.specs.Whole as whole
use Rattle.member_forms.specs.Whole.{sort_of}
use Rattle.type_table.specs.Along.{along_from, along}
use Rattle.type_table.specs.Heads.{declares, declares_at, declares_struct, struct_head, heads_at, heads_of, heads, heads_table, next_key, struct_kind}
use Rattle.type_table.specs.Signatures.{declared_type, stored_form, computed_form, function_form, member_form}
use Rattle.type_table.specs.Tables.{first_code, struct_declaration, declarations_at, declarations_of, declarations, table_of}
use Rattle.type_twice.specs.Deep as deep
use Rattle.type_twice.specs.Deep.{stored_type_at, is_static, held_at, held_by, held_from, piece_held, holds_from, holds, all_held, layer_fits, fits, declaration_fits, is_data_sort, is_data_at, first_deep, recursive}
use Rattle.known_rules.specs.Known.{Open, opens, member_value, member_value_at, filled, filled_declaration, typed_at, with_type, found, turn, completed}
use Rattle.table_names.specs.Pieces.{declared_by, made_struct, made_enum}
use Rattle.table_names.specs.Numbers.{alike_map}
use Rattle.table_places.specs.Members.{OfMember, of_member, when_some, false_true}
use Rattle.table_places.specs.Places.{input_number, computed_none, function_none}
use Rattle.table_places.specs.Preferences.{first_part, last_of}
use Rattle.table_fits.specs.Fills.{rounds_stay, Changed, get_changed, completed_is}
use Rattle.table_fits.specs.Nils.{NilAt, from_pieces, same_one}
use Rattle.table_fits.specs.Forms.{forms_stand}
use Rattle.table_names.specs.Tables.{IsTableOf, IsSmall, bare_form, bare_declaration, same_declarations, same_names, declaration_alike, signature_alike}

-- ---- which members keep their forms

-- one of these is at this place
abbrev OpenAt : List Open → ℕ → ℕ → Type 0
OpenAt os d at = (i : ℕ) × ((o : Open) × (slice_get os i ≡ Some o) × (o.declaration ≡ Some d) × (o.at ≡ at))

-- a member has the form that it has in the first table, or it is one of these
abbrev KeepsForms : Table → List Open → Table → Type 0
KeepsForms first os table = (d at : ℕ) (declaration : Declaration) (s : Signature) → slice_get table.declarations d ≡ Some declaration → slice_get declaration.members at ≡ Some s
    → NilAt first d at s.form ⊎ OpenAt os d at

module _ (first : Table) (os : List Open) (table : Table) (keeps : KeepsForms first os table) (i : ℕ) (o : Open) (there : slice_get os i ≡ Some o) (t : Ty) where
  kept : (d at : ℕ) (x y : Signature) → x ≡ y → NilAt first d at y.form ⊎ OpenAt os d at → NilAt first d at x.form ⊎ OpenAt os d at
  kept d at x y e w = subst (λ (z : Signature). NilAt first d at z.form ⊎ OpenAt os d at) (sym e) w

  forms_filled : (d at : ℕ) (x : Declaration) (s : Signature) → slice_get table.declarations d ≡ Some x → o.declaration ≡ Some d → Changed (filled t) x.members o.at at s → NilAt first d at s.form ⊎ OpenAt os d at
  forms_filled d at x s e own (y, h, inl same) = kept d at s y same (keeps d at x y e h)
  forms_filled d at x s e own (y, h, inr (place, made)) = inr (i, (o, there, own, place))

  forms_declared : (d at j : ℕ) (declaration : Declaration) (s : Signature) → o.declaration ≡ Some j → Changed (filled_declaration o.at t) table.declarations j d declaration
      → slice_get declaration.members at ≡ Some s → NilAt first d at s.form ⊎ OpenAt os d at
  forms_declared d at j declaration s own (x, e, inl same) h = keeps d at x s e (ap (λ (z : Declaration). slice_get z.members at) (sym same) ∙ h)
  forms_declared d at j declaration s own (x, e, inr (place, made)) h =
      forms_filled d at x s e (own ∙ ap Some place) (get_changed (filled t) x.members o.at at s (ap (λ (z : Declaration). slice_get z.members at) (sym made) ∙ h))

  forms_typed : (owner : Option ℕ) → o.declaration ≡ owner → KeepsForms first os (typed_at table owner o.at t)
  forms_typed None own d at declaration s e h = keeps d at declaration s e h
  forms_typed (Some j) own d at declaration s e h = forms_declared d at j declaration s own (get_changed (filled_declaration o.at t) table.declarations j d declaration e) h

forms_with : (first : Table) (os : List Open) (table : Table) → KeepsForms first os table → (i : ℕ) (o : Open) → slice_get os i ≡ Some o → (t : Option Ty) → KeepsForms first os (with_type table o t)
forms_with first os table keeps i o there None = keeps
forms_with first os table keeps i o there (Some t) = forms_typed first os table keeps i o there t o.declaration refl

forms_turn : (first : Table) (os : List Open) (table : Table) → KeepsForms first os table → (i : ℕ) (o : Open) → slice_get os i ≡ Some o → KeepsForms first os (turn table o)
unfolding turn
forms_turn first os table keeps i o there = forms_with first os table keeps i o there (found table o)

completed_forms : (source : Source) → KeepsForms (table_of source) (opens source) (completed source (table_of source))
unfolding completed
completed_forms source =
    let os = opens source in
    rounds_stay (KeepsForms (table_of source) os) os (λ i o table s keeps. forms_turn (table_of source) os table keeps i o s) (length os) (table_of source)
    (λ d at declaration s e h. inl (record { declaration = declaration; declared = e; signature = s; stands = h; is = refl }))

-- ---- a written type is the same in each table of the source file

abbrev kind_of : Declaration → Kind
kind_of d = d.kind

map_two : {X Y Z W : Type 0} (f : List X → X → List Y) (g : List X → X → List Z) (h : Y → W) (k : Z → W) → ((before : List X) (x : X) → map h (f before x) ≡ map k (g before x))
    → (done xs : List X) → map h (along_from f done xs) ≡ map k (along_from g done xs)
map_two f g h k is done [] = refl
map_two f g h k is done (x ∷ xs) =
    map-append h (f done x) (along_from f (done ++ x ∷ []) xs)
    ∙ (λ i. is done x i ++ map_two f g h k is (done ++ x ∷ []) xs i)
    ∙ sym (map-append k (g done x) (along_from g (done ++ x ∷ []) xs))

struct_kinds : (heads : Table) (first key : ℕ) (p : StructPiece) (b : StructBody) → map kind_of (struct_declaration heads first key p b) ≡ map kind_of (struct_head key p b)
struct_kinds heads first key p LeftAside = refl
struct_kinds heads first key p (Members ms) = refl

piece_kinds : (heads : Table) (first key : ℕ) (f : PieceForm) → map kind_of (declarations_at heads first key f) ≡ map kind_of (heads_at key f)
piece_kinds heads first key (piece.Struct p) = struct_kinds heads first key p p.body
piece_kinds heads first key (piece.Enum p) = refl
piece_kinds heads first key (piece.Import w) = refl
piece_kinds heads first key (piece.Environment es) = refl
piece_kinds heads first key (piece.Preview s) = refl

kinds_same : {source : Source} {table : Table} → IsTableOf source table → map kind_of table.declarations ≡ map kind_of (heads source.pieces)
unfolding table_of declarations heads along
kinds_same {source = source} {table = table} is =
    alike_map bare_declaration kind_of (λ x y e. ap kind_of e) table.declarations (table_of source).declarations (same_declarations is)
    ∙ map_two (declarations_of (heads_table source.pieces)) heads_of kind_of kind_of (λ before p. piece_kinds (heads_table source.pieces) (first_code before) (next_key before) p.form) [] source.pieces

-- the type of a declaration of a kind
abbrev of_kind : ℕ → Option Kind → Option Ty
of_kind d k = and_then k (λ x. when (is_data x) (Some (ty.Named d)))

named_by_kind : (w : List ℕ) (table : Table)
    → and_then (declaration_of w table) (λ d. when (is_data d.1.kind) (Some (ty.Named d.0))) ≡ and_then (fin.get table.names w) (λ d. of_kind d (slice_get (map kind_of table.declarations) d))
unfolding declaration_of and_then
named_by_kind w table = by (fin.get table.names w)
  where
    at : (d : ℕ) (ds : List Declaration) (i : ℕ)
        → and_then (and_then {B = ℕ × Declaration} (slice_get ds i) (λ x. Some (d, x))) (λ e. when (is_data e.1.kind) (Some (ty.Named e.0))) ≡ of_kind d (slice_get (map kind_of ds) i)
    at d [] i = refl
    at d (x ∷ ds) zero = refl
    at d (x ∷ ds) (suc i) = at d ds i

    by : (o : Option ℕ) → and_then (and_then o (λ d. and_then {B = ℕ × Declaration} (slice_get table.declarations d) (λ x. Some (d, x)))) (λ e. when (is_data e.1.kind) (Some (ty.Named e.0)))
        ≡ and_then o (λ d. of_kind d (slice_get (map kind_of table.declarations) d))
    by None = refl
    by (Some d) = at d table.declarations d

named_same : (x y : Table) → x.names ≡ y.names → map kind_of x.declarations ≡ map kind_of y.declarations → (w : List ℕ) → named_type x w ≡ named_type y w
unfolding named_type
named_same x y names kinds w = λ i.
    if bytes_eq w (codes "Int") then Some ty.Int else
    if bytes_eq w (codes "Bool") then Some ty.Bool else
    if bytes_eq w (codes "String") then Some ty.Text else
    (named_by_kind w x ∙ (λ j. and_then (fin.get (names j) w) (λ d. of_kind d (slice_get (kinds j) d))) ∙ sym (named_by_kind w y)) i

written_layer : (x y : Table) → ((w : List ℕ) → named_type x w ≡ named_type y w) → (l : TypeName-F (Option Ty)) → written_at x l ≡ written_at y l
written_layer x y same (TypeName-F.Name w) = same w
written_layer x y same (TypeName-F.List t) = refl
written_layer x y same (TypeName-F.Optional t n) = refl

written_same : {source : Source} {table : Table} → IsTableOf source table → (name : TypeName) → written_type table name ≡ written_type (heads_table source.pieces) name
unfolding written_type table_of heads_table
written_same {source = source} {table = table} is name =
    let layers = written_layer table (heads_table source.pieces) (named_same table (heads_table source.pieces) (same_names is) (kinds_same is)) in
    λ i. fold-TypeName (Option Ty) (λ l. layers l i) name

-- ---- what is held

both_true : (a b : Bool) → a ≡ true → b ≡ true → (a && b) ≡ true
both_true true b e f = f
both_true false b e f = cc

all_append : {X : Type 0} (test : X → Bool) (xs ys : List X) → list_all test (xs ++ ys) ≡ true → (list_all test xs ≡ true) × (list_all test ys ≡ true)
all_append test [] ys e = (refl, e)
all_append test (x ∷ xs) ys e =
    let r = all_append test xs ys (last_of (test x) (list_all test (xs ++ ys)) e) in
    (both_true (test x) (list_all test xs) (first_part (test x) (list_all test (xs ++ ys)) e) r.0, r.1)

-- a test that all types pass that are held is passed by the type of each property
held_passes : (table : Table) (ss : List Signature) (at : ℕ) (ms : List Member) (k : ℕ) (m : Member) (test : Ty → Bool) (t : Ty) → list_all test (held_from table ss at ms) ≡ true
    → slice_get ms k ≡ Some m → held_at table (slice_get ss (at + k)) m.modifiers m.form ≡ Some t → test t ≡ true
held_passes table ss at [] k m test t a e h = cc
held_passes table ss at (x ∷ ms) zero m test t a e h =
    let n : x ≡ m = cc in let z : at ≡ at + 0 = omega arith in
    let o : held_at table (slice_get ss at) x.modifiers x.form ≡ Some t =
    ap (λ j. held_at table (slice_get ss j) x.modifiers x.form) z ∙ ap (λ (y : Member). held_at table (slice_get ss (at + 0)) y.modifiers y.form) n ∙ h in
    let b = (all_append test (option_to_list (held_at table (slice_get ss at) x.modifiers x.form)) (held_from table ss (suc at) ms) a).0 in
    first_part (test t) true (ap (λ (q : Option Ty). list_all test (option_to_list q)) (sym o) ∙ b)
held_passes table ss at (x ∷ ms) (suc k) m test t a e h =
    let z : suc at + k ≡ at + suc k = omega arith in
    held_passes table ss (suc at) ms k m test t (all_append test (option_to_list (held_at table (slice_get ss at) x.modifiers x.form)) (held_from table ss (suc at) ms) a).1 e
    (ap (λ j. held_at table (slice_get ss j) m.modifiers m.form) z ∙ h)

count_cons : (p : Piece) (ps : List Piece) → count_by declares (p ∷ ps) ≡ cond (declares p) 1 0 + count_by declares ps
count_cons p ps = sum_by-cons (λ x. cond (declares x) 1 0) p ps

count_yes : (p : Piece) (ps : List Piece) → declares p ≡ true → count_by declares (p ∷ ps) ≡ suc (count_by declares ps)
count_yes p ps e = count_cons p ps ∙ ap (λ b. cond b 1 0 + count_by declares ps) e ∙ (let h : 1 + count_by declares ps ≡ suc (count_by declares ps) = omega arith in h)

count_no : (p : Piece) (ps : List Piece) → declares p ≡ false → count_by declares (p ∷ ps) ≡ count_by declares ps
count_no p ps e = count_cons p ps ∙ ap (λ b. cond b 1 0 + count_by declares ps) e ∙ (let h : 0 + count_by declares ps ≡ count_by declares ps = omega arith in h)

either : {A : Type 0} (b : Bool) → (b ≡ true → A) → (b ≡ false → A) → A
either true f g = f refl
either false f g = g refl

-- what the declaration of a piece holds, by its number
holds_at : (table : Table) (at : ℕ) (before after : List Piece) (one : Piece) → declares one ≡ true
    → slice_get (holds_from table at (before ++ one ∷ after)) (count_by declares before) ≡ Some (piece_held table (slice_get table.declarations (at + count_by declares before)) one.form)
holds_at table at [] after one d =
    let z : at ≡ at + 0 = omega arith in
    ap (λ b. slice_get (if b then piece_held table (slice_get table.declarations at) one.form ∷ holds_from table (suc at) after else holds_from table at after) 0) d
    ∙ ap (λ n. Some (piece_held table (slice_get table.declarations n) one.form)) z
holds_at table at (p ∷ before) after one d =
    let rest = before ++ one ∷ after in let n = count_by declares before in
    let told = λ (j : ℕ). Some (piece_held table (slice_get table.declarations j) one.form) in
    let list = λ (b : Bool). if b then piece_held table (slice_get table.declarations at) p.form ∷ holds_from table (suc at) rest else holds_from table at rest in
    let more = holds_at table (suc at) before after one d in let same = holds_at table at before after one d in
    either (declares p)
    (λ e. let c = count_yes p before e in let z : suc at + n ≡ at + count_by declares (p ∷ before) = omega (arith, c) in
    ap (λ b. slice_get (list b) (count_by declares (p ∷ before))) e ∙ ap (slice_get (list true)) c ∙ more ∙ ap told z)
    (λ e. let c = count_no p before e in let z : at + n ≡ at + count_by declares (p ∷ before) = omega (arith, c) in
    ap (λ b. slice_get (list b) (count_by declares (p ∷ before))) e ∙ ap (slice_get (list false)) c ∙ same ∙ ap told z)

-- ---- a struct that is found to be no deeper

first_by : (a b c : Bool) (line : ℕ) (x y : Option ℕ) → cond a (cond (b && c) (Some line) x) y ≡ None → a ≡ true → b ≡ true → c ≡ false
first_by true true true line x y e f g = cc
first_by true true false line x y e f g = refl
first_by true false c line x y e f g = cc
first_by false b c line x y e f g = cc

rest_by : (a c : Bool) (line : ℕ) (x y : Option ℕ) → cond a (cond c (Some line) x) y ≡ None → (a ≡ true → x ≡ None) × (a ≡ false → y ≡ None)
rest_by true true line x y e = cc
rest_by true false line x y e = (λ h. e, λ h. cc)
rest_by false c line x y e = (λ h. cc, λ h. e)

none_deep : (test : ℕ → Bool) (at : ℕ) (before after : List Piece) (one : Piece) → first_deep test at (before ++ one ∷ after) ≡ None → declares one ≡ true → is_data_at one.form ≡ true
    → test (at + count_by declares before) ≡ false
none_deep test at [] after one e d k =
    let z : at + 0 ≡ at = omega arith in
    ap test z ∙ first_by (declares one) (is_data_at one.form) (test at) one.span.line (first_deep test (suc at) after) (first_deep test at after) e d k
none_deep test at (p ∷ before) after one e d k =
    let rest = before ++ one ∷ after in
    let r = rest_by (declares p) (is_data_at p.form && test at) p.span.line (first_deep test (suc at) rest) (first_deep test at rest) e in
    either (declares p)
    (λ h. let c = count_yes p before h in let z : at + count_by declares (p ∷ before) ≡ suc at + count_by declares before = omega (arith, c) in
    ap test z ∙ none_deep test (suc at) before after one (r.0 h) d k)
    (λ h. let c = count_no p before h in let z : at + count_by declares (p ∷ before) ≡ at + count_by declares before = omega (arith, c) in
    ap test z ∙ none_deep test at before after one (r.1 h) d k)

-- ---- types of values

-- each declaration that a type names is a data struct or an enum
pub data IsOfValues (table : Table) : Ty-F Ty → Type 0 where
  of_int : IsOfValues table Ty-F.Int
  of_bool : IsOfValues table Ty-F.Bool
  of_text : IsOfValues table Ty-F.Text
  of_list : {t : Ty} → IsOfValues table (out-Ty t) → IsOfValues table (Ty-F.List t)
  of_optional : {t : Ty} → IsOfValues table (out-Ty t) → IsOfValues table (Ty-F.Optional t)
  of_named : {d : ℕ} {declaration : Declaration} → slice_get table.declarations d ≡ Some declaration → is_data declaration.kind ≡ true → IsOfValues table (Ty-F.Named d)

-- the types of the properties of data structs are types of values
abbrev pub PropertiesOfValues : Table → Type 0
PropertiesOfValues table = (d i : ℕ) (declaration : Declaration) (b : Bool) (p : Part) (t : Ty) → slice_get table.declarations d ≡ Some declaration → declaration.kind ≡ kind.Data b
    → slice_get (inputs_of declaration.members) i ≡ Some p → p.ty ≡ Some t → IsOfValues table (out-Ty t)

optional_of : (table : Table) (n : ℕ) (t : Ty) → IsOfValues table (out-Ty t) → IsOfValues table (out-Ty (optional n t))
unfolding optional
optional_of table zero t v = v
optional_of table (suc n) t v = subst (IsOfValues table) (sym (outs-Optional (optional n t))) (IsOfValues.of_optional (optional_of table n t v))

named_of : (table : Table) (d : ℕ) (o : Option Declaration) (t : Ty) → slice_get table.declarations d ≡ o
    → and_then (and_then {B = ℕ × Declaration} o (λ x. Some (d, x))) (λ e. when (is_data e.1.kind) (Some (ty.Named e.0))) ≡ Some t → IsOfValues table (out-Ty t)
unfolding and_then
named_of table d None t e h = cc
named_of table d (Some x) t e h = by (is_data x.kind) refl h
  where
    by : (b : Bool) → is_data x.kind ≡ b → when b (Some (ty.Named d)) ≡ Some t → IsOfValues table (out-Ty t)
    by true k h = subst (λ (u : Ty). IsOfValues table (out-Ty u)) (some_is (ty.Named d) t h) (subst (IsOfValues table) (sym (outs-Named d)) (IsOfValues.of_named e k))
    by false k h = cc

found_of : (table : Table) (o : Option ℕ) (t : Ty)
    → and_then (and_then o (λ d. and_then {B = ℕ × Declaration} (slice_get table.declarations d) (λ x. Some (d, x)))) (λ e. when (is_data e.1.kind) (Some (ty.Named e.0))) ≡ Some t → IsOfValues table (out-Ty t)
unfolding and_then
found_of table None t h = cc
found_of table (Some d) t h = named_of table d (slice_get table.declarations d) t refl h

word_of : (table : Table) (w : List ℕ) (a b c : Bool) (t : Ty)
    → (if a then Some ty.Int else if b then Some ty.Bool else if c then Some ty.Text else and_then (declaration_of w table) (λ d. when (is_data d.1.kind) (Some (ty.Named d.0)))) ≡ Some t
    → IsOfValues table (out-Ty t)
unfolding declaration_of
word_of table w true b c t h = subst (λ (u : Ty). IsOfValues table (out-Ty u)) (some_is ty.Int t h) (subst (IsOfValues table) (sym outs-Int) IsOfValues.of_int)
word_of table w false true c t h = subst (λ (u : Ty). IsOfValues table (out-Ty u)) (some_is ty.Bool t h) (subst (IsOfValues table) (sym outs-Bool) IsOfValues.of_bool)
word_of table w false false true t h = subst (λ (u : Ty). IsOfValues table (out-Ty u)) (some_is ty.Text t h) (subst (IsOfValues table) (sym outs-Text) IsOfValues.of_text)
word_of table w false false false t h = found_of table (fin.get table.names w) t h

named_type_of : (table : Table) (w : List ℕ) (t : Ty) → named_type table w ≡ Some t → IsOfValues table (out-Ty t)
unfolding named_type
named_type_of table w t h = word_of table w (bytes_eq w (codes "Int")) (bytes_eq w (codes "Bool")) (bytes_eq w (codes "String")) t h

abbrev WrittenWell : Table → TypeName → Type 0
WrittenWell table name = (t : Ty) → written_type table name ≡ Some t → IsOfValues table (out-Ty t)

list_of : (table : Table) (o : Option Ty) (t : Ty) → ((u : Ty) → o ≡ Some u → IsOfValues table (out-Ty u)) → and_then o (λ u. Some (ty.List u)) ≡ Some t → IsOfValues table (out-Ty t)
unfolding and_then
list_of table None t f h = cc
list_of table (Some u) t f h = subst (λ (x : Ty). IsOfValues table (out-Ty x)) (some_is (ty.List u) t h) (subst (IsOfValues table) (sym (outs-List u)) (IsOfValues.of_list (f u refl)))

signed_of : (table : Table) (n : ℕ) (o : Option Ty) (t : Ty) → ((u : Ty) → o ≡ Some u → IsOfValues table (out-Ty u)) → and_then o (λ u. Some (optional n u)) ≡ Some t → IsOfValues table (out-Ty t)
unfolding and_then
signed_of table n None t f h = cc
signed_of table n (Some u) t f h = subst (λ (x : Ty). IsOfValues table (out-Ty x)) (some_is (optional n u) t h) (optional_of table n u (f u refl))

layer_of : (table : Table) (y : TypeName-F ((name : TypeName) × WrittenWell table name)) (t : Ty)
    → written_at table (map-TypeName TypeName (Option Ty) (written_type table) (map-TypeName ((name : TypeName) × WrittenWell table name) TypeName (λ e. e.0) y)) ≡ Some t → IsOfValues table (out-Ty t)
layer_of table (TypeName-F.Name w) t h = named_type_of table w t h
layer_of table (TypeName-F.List e) t h = list_of table (written_type table e.0) t e.1 h
layer_of table (TypeName-F.Optional e n) t h = signed_of table n (written_type table e.0) t e.1 h

roll_of : (table : Table) (x : TypeName-F TypeName) → written_type table (roll-TypeName x) ≡ written_at table (map-TypeName TypeName (Option Ty) (written_type table) x)
unfolding written_type
roll_of table x = fold-roll-TypeName (Option Ty) (written_at table) x

-- A written type is a type of values.
pub written_of_values : (table : Table) (name : TypeName) → WrittenWell table name
written_of_values table = ind-TypeName (WrittenWell table) (λ x y is t h.
    layer_of table y t (ap (λ z. written_at table (map-TypeName TypeName (Option Ty) (written_type table) z)) is ∙ sym (roll_of table x) ∙ h))

-- a test that all types pass that a data struct holds is passed by the types of its properties
abbrev Holds : Table → List (List Ty) → Type 0
Holds table hs = (d i : ℕ) (declaration : Declaration) (b : Bool) (p : Part) (t : Ty) (test : Ty → Bool) → slice_get table.declarations d ≡ Some declaration → declaration.kind ≡ kind.Data b
    → slice_get (inputs_of declaration.members) i ≡ Some p → p.ty ≡ Some t → all_held test (slice_get hs d) ≡ true → test t ≡ true

module _ (table : Table) (hs : List (List Ty)) (values : PropertiesOfValues table) (holds : Holds table hs) where
  abbrev Within : ℕ → Type 0
  Within n = (t : Ty) → IsOfValues table (out-Ty t) → fits hs n t ≡ true → IsWithin table n (out-Ty t)

  within_named : (n d : ℕ) (declaration : Declaration) (k : Kind) → Within n → slice_get table.declarations d ≡ Some declaration → declaration.kind ≡ k → is_data k ≡ true
      → all_held (fits hs n) (slice_get hs d) ≡ true → IsWithin table (suc n) (Ty-F.Named d)
  within_named n d declaration (kind.Data b) rest e k is f =
      IsWithin.struct_within (Declared.declared e) k (λ i p t s y. rest t (values d i declaration b p t e k s y) (holds d i declaration b p t (fits hs n) e k s y f))
  within_named n d declaration (kind.Enum b m) rest e k is f = IsWithin.enum_within (Declared.declared e) k
  within_named n d declaration kind.View rest e k is f = cc
  within_named n d declaration kind.App rest e k is f = cc
  within_named n d declaration (kind.Key m) rest e k is f = cc

  within_layer : (n : ℕ) → Within n → (l : Ty-F Ty) → IsOfValues table l → layer_fits hs (fits hs n) l ≡ true → IsWithin table (suc n) l
  within_layer n rest Ty-F.Int v f = IsWithin.int_within
  within_layer n rest Ty-F.Bool v f = IsWithin.bool_within
  within_layer n rest Ty-F.Text v f = IsWithin.text_within
  within_layer n rest (Ty-F.List t) (IsOfValues.of_list v) f = IsWithin.list_within (rest t v f)
  within_layer n rest (Ty-F.Optional t) (IsOfValues.of_optional v) f = IsWithin.optional_within (rest t v f)
  within_layer n rest (Ty-F.Named d) (IsOfValues.of_named {declaration = declaration} e is) f = within_named n d declaration declaration.kind rest e refl is f

  within : (n : ℕ) → Within n
  within zero t v f = cc
  within (suc n) t v f = within_layer n (within n) (out-Ty t) v f

  struct_shallow : (n d : ℕ) (declaration : Declaration) (b : Bool) → slice_get table.declarations d ≡ Some declaration → declaration.kind ≡ kind.Data b → declaration_fits hs (suc n) d ≡ true
      → IsWithin table (suc n) (Ty-F.Named d)
  struct_shallow n d declaration b e k f = within_named n d declaration (kind.Data b) (within n) e k refl f

-- ---- each property of a data struct is held

-- what an input is read of
input_at : (ms : List Signature) (i : ℕ) (p : Part) → slice_get (inputs_of ms) i ≡ Some p → (at : ℕ) × ((s : Signature) × (slice_get ms at ≡ Some s) × (stored_at s.code s.form ≡ Some p))
input_at [] i p e = cc
input_at (s ∷ ms) i p e = by (stored_at s.code s.form) refl i e (λ j h. input_at ms j p h)
  where
    by : (o : Option Part) → stored_at s.code s.form ≡ o → (i : ℕ) → slice_get (cons_option o (inputs_of ms)) i ≡ Some p
        → ((j : ℕ) → slice_get (inputs_of ms) j ≡ Some p → (at : ℕ) × ((x : Signature) × (slice_get ms at ≡ Some x) × (stored_at x.code x.form ≡ Some p)))
        → (at : ℕ) × ((x : Signature) × (slice_get (s ∷ ms) at ≡ Some x) × (stored_at x.code x.form ≡ Some p))
    by None h i e r = let w = r i e in (suc w.0, (w.1.0, w.1.1, w.1.2))
    by (Some q) h zero e r = (zero, (s, refl, h ∙ e))
    by (Some q) h (suc i) e r = let w = r i e in (suc w.0, (w.1.0, w.1.1, w.1.2))

abbrev is_stored : SignatureForm → Bool
is_stored (form.Stored n b t a) = true
is_stored _ = false

stored_is_bare : (f : SignatureForm) → is_stored (bare_form f) ≡ is_stored f
stored_is_bare (form.Stored n b t a) = refl
stored_is_bare (form.State n t a) = refl
stored_is_bare (form.Static t) = refl
stored_is_bare (form.Binding n t) = refl
stored_is_bare (form.Environment n) = refl
stored_is_bare (form.Case n) = refl
stored_is_bare (form.Computed t) = refl
stored_is_bare (form.Function ps t m) = refl
stored_is_bare form.BuilderProperty = refl
stored_is_bare (form.BuilderFunction ps) = refl
stored_is_bare form.Reduce = refl
stored_is_bare form.Unfit = refl

abbrev part_type : Option Part → Option Ty
part_type None = None
part_type (Some q) = q.ty

-- an input of a data struct is a stored property
stored_input : (b : Bool) (code : CodeId) (f : SignatureForm) (p : Part) → stands_in (kind.Data b) f ≡ true → stored_at code f ≡ Some p → (is_stored f ≡ true) × (p.ty ≡ stored_type_at f)
stored_input b code (form.Stored n c t a) p s e = (refl, ap part_type (sym e))
stored_input b code (form.Binding n t) p s e = cc
stored_input b code (form.State n t a) p s e = cc
stored_input b code (form.Static t) p s e = cc
stored_input b code (form.Environment n) p s e = cc
stored_input b code (form.Case n) p s e = cc
stored_input b code (form.Computed t) p s e = cc
stored_input b code (form.Function ps t m) p s e = cc
stored_input b code form.BuilderProperty p s e = cc
stored_input b code (form.BuilderFunction ps) p s e = cc
stored_input b code form.Reduce p s e = cc
stored_input b code form.Unfit p s e = cc

bare_no_static : (ms : List Modifier) → bare ms ≡ true → is_static ms ≡ false
bare_no_static [] e = refl
bare_no_static (word.Access a ∷ []) e = refl
bare_no_static (word.Static ∷ []) e = cc
bare_no_static (word.Mutating ∷ []) e = cc
bare_no_static (word.Attribute a ∷ []) e = cc
bare_no_static (m ∷ n ∷ ms) e = cc

-- a member of a data struct that is a stored property
record StoredAs (heads : Table) (ms : List Modifier) (f : MemberForm) (s : SignatureForm) : Type 0 where
  binder : Binder
  name : List ℕ
  declared : Option TypeName
  value : Option Expr
  is : f ≡ member.Stored binder name declared value
  plain : is_static ms ≡ false
  type_is : stored_type_at s ≡ declared_type heads declared

data_by : (heads : Table) (i j : ℕ) (ms : List Modifier) (b : Binder) (t : Option TypeName) (v : Option Expr) (c : Bool) → (bare ms && may_start ms b t v) ≡ c
    → is_stored (stored_form heads i j (cond c role.Stored role.Unfit) ms b t v) ≡ true
    → (is_static ms ≡ false) × (stored_type_at (stored_form heads i j (cond c role.Stored role.Unfit) ms b t v) ≡ declared_type heads t)
data_by heads i j ms b t v true e h = (bare_no_static ms (first_part (bare ms) (may_start ms b t v) e), refl)
data_by heads i j ms b t v false e h = cc

none_stored : (s : SignatureForm) → input_number s ≡ None → is_stored s ≡ false
none_stored (form.Stored n b t a) e = cc
none_stored (form.State n t a) e = refl
none_stored (form.Static t) e = refl
none_stored (form.Binding n t) e = refl
none_stored (form.Environment n) e = refl
none_stored (form.Case n) e = refl
none_stored (form.Computed t) e = refl
none_stored (form.Function ps t m) e = refl
none_stored form.BuilderProperty e = refl
none_stored (form.BuilderFunction ps) e = refl
none_stored form.Reduce e = refl
none_stored form.Unfit e = refl

data_member : (heads : Table) (i j : ℕ) (ms : List Modifier) (f : MemberForm) → is_stored (member_form heads i j (in_data_at ms f) ms f) ≡ true → StoredAs heads ms f (member_form heads i j (in_data_at ms f) ms f)
data_member heads i j ms (member.Stored b w t v) e =
    let r = data_by heads i j ms b t v (bare ms && may_start ms b t v) refl e in
    record { binder = b; name = w; declared = t; value = v; is = refl; plain = r.0; type_is = r.1 }
data_member heads i j ms (member.Computed w t body) e =
    false_true (none_stored (computed_form heads (in_data_at ms (member.Computed w t body)) t) (computed_none heads (in_data_at ms (member.Computed w t body)) t).0) e
data_member heads i j ms (member.Function w ps t body) e =
    false_true (none_stored (function_form heads (in_data_at ms (member.Function w ps t body)) ps t) (function_none heads (in_data_at ms (member.Function w ps t body)) ps t).0) e

-- its type is held, where it is the written one, and where none is written
type_written : (heads : Table) (name : TypeName) (t : Ty) → type_of heads name ≡ Some t → written_type heads name ≡ Some t
unfolding type_of
type_written heads name t e = when_some (nat_le (written_depth name) deepest) (written_type heads name) t e

held_written : {source : Source} {table : Table} → IsTableOf source table → (s : Signature) (name : Option TypeName) (t : Ty) → declared_type (heads_table source.pieces) name ≡ Some t → held_by table (Some s) name ≡ Some t
held_written is s None t e = cc
held_written {source = source} {table = table} is s (Some name) t e = written_same is name ∙ type_written (heads_table source.pieces) name t e

held_open : (table : Table) (s : Signature) (b : Binder) (w : List ℕ) (name : Option TypeName) (v : Option Expr) (e : Expr) (t : Ty) → member_value_at (member.Stored b w name v) ≡ Some e
    → stored_type_at s.form ≡ Some t → held_by table (Some s) name ≡ Some t
held_open table s b w None v e t h k = k
held_open table s b w (Some name) v e t h k = cc

held_stored : (table heads : Table) (s : Signature) (m : Member) (f : SignatureForm) (t : Ty) → (st : StoredAs heads m.modifiers m.form f) → held_by table (Some s) st.declared ≡ Some t
    → held_at table (Some s) m.modifiers m.form ≡ Some t
held_stored table heads s m f t st h =
    ap (held_at table (Some s) m.modifiers) st.is ∙ ap (λ b. if b then None else held_by table (Some s) st.declared) st.plain ∙ h

-- ---- one piece for each declaration

once_declared : (before after front back : List Piece) (one other : Piece) → before ++ one ∷ after ≡ front ++ other ∷ back → declares one ≡ true → declares other ≡ true
    → count_by declares before ≡ count_by declares front → one ≡ other
once_declared [] after [] back one other e d k c = cc
once_declared [] after (q ∷ front) back one other e d k c =
    let h : one ≡ q = cc in let n = count_yes q front (ap declares (sym h) ∙ d) in absurd (omega (arith, n, c))
once_declared (p ∷ before) after [] back one other e d k c =
    let h : p ≡ other = cc in let n = count_yes p before (ap declares h ∙ k) in absurd (omega (arith, n, c))
once_declared (p ∷ before) after (q ∷ front) back one other e d k c =
    let h : p ≡ q = cc in let t : before ++ one ∷ after ≡ front ++ other ∷ back = cc in
    let a = count_cons p before in let b = count_cons q front in let same : cond {A = ℕ} (declares p) 1 0 ≡ cond (declares q) 1 0 = ap (λ x. cond {A = ℕ} (declares x) 1 0) h in
    once_declared before after front back one other t d k (omega (arith, a, b, same, c))

struct_is : (p q : StructPiece) → piece.Struct p ≡ piece.Struct q → p ≡ q
struct_is p q e = cc

members_is : (ms ns : List Member) → Members ms ≡ Members ns → ms ≡ ns
members_is ms ns e = cc

-- ---- the sort of a data struct

sorted_not_enum : (a b c : Bool) → cond a sort.View (cond b sort.App (cond c sort.Key sort.Data)) ≡ sort.Enum → ⊥
sorted_not_enum true b c e = cc
sorted_not_enum false true c e = cc
sorted_not_enum false false true e = cc
sorted_not_enum false false false e = cc

not_enum : (names : List (List ℕ)) → sort_of names ≡ sort.Enum → ⊥
not_enum names e = sorted_not_enum (whole.is_named names (codes "View")) (whole.is_named names (codes "App")) (whole.is_named names (codes "PreferenceKey")) e

data_sort : (key : ℕ) (names : List (List ℕ)) (b : Bool) (s : Sort) → (s ≡ sort.Enum → ⊥) → struct_kind key names s ≡ kind.Data b → s ≡ sort.Data
data_sort key names b sort.Data not e = refl
data_sort key names b sort.Enum not e = absurd (not refl)
data_sort key names b sort.View not e = cc
data_sort key names b sort.App not e = cc
data_sort key names b sort.Key not e = cc

-- ---- in the completed table

module _ (source : Source) (d at : ℕ) (declaration written : Declaration) (s w : Signature) (b : Bool) (t : Ty)
    (here : slice_get (completed source (table_of source)).declarations d ≡ Some declaration) (stands : slice_get declaration.members at ≡ Some s)
    (there : slice_get (table_of source).declarations d ≡ Some written) (stood : slice_get written.members at ≡ Some w)
    (stored : is_stored w.form ≡ true) (typed : stored_type_at s.form ≡ Some t) (data_kind : written.kind ≡ kind.Data b)
    (before after : List Piece) (one : Piece) (split : source.pieces ≡ before ++ one ∷ after) (place : d ≡ count_by declares before)
    (p : StructPiece) (ms : List Member) (is_struct : one.form ≡ piece.Struct p) (body : p.body ≡ Members ms)
    (made : made_struct (heads_table source.pieces) (first_code before) (next_key before) p ms ≡ written) where
  abbrev FoundIn : Type 0
  FoundIn = (i d : ℕ) (o : Open) (declaration : Declaration) (s : Signature) (t : Ty) → slice_get (opens source) i ≡ Some o → o.declaration ≡ Some d
      → slice_get (completed source (table_of source)).declarations d ≡ Some declaration → slice_get declaration.members o.at ≡ Some s → stored_type_at s.form ≡ Some t
      → IsOfValues (completed source (table_of source)) (out-Ty t)

  sort_is : sort_of p.names ≡ sort.Data
  sort_is = data_sort (next_key before) p.names b (sort_of p.names) (not_enum p.names) (ap kind_of made ∙ data_kind)

  one_declares : declares one ≡ true
  one_declares = ap declares_at is_struct ∙ ap declares_struct body

  held_list : slice_get (holds source (completed source (table_of source))) d ≡ Some (held_from (completed source (table_of source)) declaration.members 0 ms)
  unfolding holds
  held_list =
      let table = completed source (table_of source) in
      let z : 0 + count_by declares before ≡ d = omega (arith, place) in
      (λ i. slice_get (holds_from table 0 (split i)) (place i)) ∙ holds_at table 0 before after one one_declares
      ∙ ap (λ n. Some (piece_held table (slice_get table.declarations n) one.form)) z
      ∙ ap (λ o. Some (piece_held table o one.form)) here
      ∙ ap (λ f. Some (piece_held table (Some declaration) f)) is_struct
      ∙ ap (λ x. Some (deep.struct_held table (Some declaration) p.names x)) body
      ∙ ap (λ x. Some (if is_data_sort x then held_from table declaration.members 0 ms else [])) sort_is

  of_written : OfMember (heads_table source.pieces) (first_code before) (sort_of p.names) ms at w
  of_written = of_member (heads_table source.pieces) (first_code before) (sort_of p.names) ms at w (ap (λ (x : Declaration). slice_get x.members at) made ∙ stood)

  as_data : w.form ≡ member_form (heads_table source.pieces) of_written.inputs of_written.slots (in_data_at of_written.written.modifiers of_written.written.form) of_written.written.modifiers of_written.written.form
  as_data =
      of_written.form_is
      ∙ ap (λ x. member_form (heads_table source.pieces) of_written.inputs of_written.slots (role_of x of_written.written) of_written.written.modifiers of_written.written.form) sort_is

  stored_as : StoredAs (heads_table source.pieces) of_written.written.modifiers of_written.written.form
      (member_form (heads_table source.pieces) of_written.inputs of_written.slots (in_data_at of_written.written.modifiers of_written.written.form) of_written.written.modifiers of_written.written.form)
  stored_as = data_member (heads_table source.pieces) of_written.inputs of_written.slots of_written.written.modifiers of_written.written.form (ap is_stored (sym as_data) ∙ stored)

  -- it has the form that it has where only what is written is known
  held_same : NilAt (table_of source) d at s.form → held_by (completed source (table_of source)) (Some s) stored_as.declared ≡ Some t
  held_same n =
      let x : n.declaration ≡ written = same_one (slice_get (table_of source).declarations d) n.declaration written n.declared there in
      let y : n.signature ≡ w = same_one (slice_get written.members at) n.signature w (ap (λ (z : Declaration). slice_get z.members at) (sym x) ∙ n.stands) stood in
      let f : s.form ≡ w.form = n.is ∙ ap (λ (z : Signature). z.form) y in
      held_written (completed_is source) s stored_as.declared t (sym stored_as.type_is ∙ ap stored_type_at (sym as_data ∙ sym f) ∙ typed)

  -- it has no written type
  held_opened : OpenAt (opens source) d at → held_by (completed source (table_of source)) (Some s) stored_as.declared ≡ Some t
  unfolding opens
  held_opened (i, (o, e, owner, at_is)) =
      let r = from_pieces 0 1 source.pieces i d o e owner in
      let g = r.from in
      let z : 0 + count_by declares r.before ≡ count_by declares r.before = omega arith in
      let number : d ≡ count_by declares r.before = some_is d (count_by declares r.before) (sym owner ∙ g.owner ∙ ap Some z) in
      let other : declares r.one ≡ true = ap declares_at g.is_struct ∙ ap declares_struct g.body_is in
      let same : one ≡ r.one = once_declared before after r.before r.after one r.one (sym split ∙ r.split) one_declares other (sym place ∙ number) in
      let struct : p ≡ g.struct = struct_is p g.struct (sym is_struct ∙ ap (λ (x : Piece). x.form) same ∙ g.is_struct) in
      let members : ms ≡ g.members = members_is ms g.members (sym body ∙ ap (λ (x : StructPiece). x.body) struct ∙ g.body_is) in
      let m : of_written.written ≡ g.written = same_one (slice_get ms at) of_written.written g.written of_written.stands ((λ j. slice_get (members j) (sym at_is j)) ∙ g.stands) in
      held_open (completed source (table_of source)) s stored_as.binder stored_as.name stored_as.declared stored_as.value o.value t
      (ap member_value_at (sym stored_as.is) ∙ ap (λ (x : Member). member_value x) m ∙ g.value) typed

  held_by_either : NilAt (table_of source) d at s.form ⊎ OpenAt (opens source) d at → held_by (completed source (table_of source)) (Some s) stored_as.declared ≡ Some t
  held_by_either (inl n) = held_same n
  held_by_either (inr o) = held_opened o

  of_named_type : (name : Option TypeName) → held_by (completed source (table_of source)) (Some s) name ≡ Some t
      → (name ≡ None → IsOfValues (completed source (table_of source)) (out-Ty t)) → IsOfValues (completed source (table_of source)) (out-Ty t)
  of_named_type None h f = f refl
  of_named_type (Some name) h f = written_of_values (completed source (table_of source)) name t h

  of_unnamed : FoundIn → NilAt (table_of source) d at s.form ⊎ OpenAt (opens source) d at → stored_as.declared ≡ None → IsOfValues (completed source (table_of source)) (out-Ty t)
  of_unnamed found (inl n) e =
      let x : n.declaration ≡ written = same_one (slice_get (table_of source).declarations d) n.declaration written n.declared there in
      let y : n.signature ≡ w = same_one (slice_get written.members at) n.signature w (ap (λ (z : Declaration). slice_get z.members at) (sym x) ∙ n.stands) stood in
      let f : s.form ≡ w.form = n.is ∙ ap (λ (z : Signature). z.form) y in
      let g : declared_type (heads_table source.pieces) None ≡ Some t =
      ap (declared_type (heads_table source.pieces)) (sym e) ∙ sym stored_as.type_is ∙ ap stored_type_at (sym as_data ∙ sym f) ∙ typed in
      cc
  of_unnamed found (inr (i, (o, e, owner, at_is))) n = found i d o declaration s t e owner here (ap (slice_get declaration.members) at_is ∙ stands) typed

  of_values : FoundIn → IsOfValues (completed source (table_of source)) (out-Ty t)
  of_values found =
      let c = completed_forms source d at declaration s here stands in
      of_named_type stored_as.declared (held_by_either c) (of_unnamed found c)

  passes : (test : Ty → Bool) → all_held test (slice_get (holds source (completed source (table_of source))) d) ≡ true → test t ≡ true
  passes test f =
      let table = completed source (table_of source) in
      let h = held_by_either (completed_forms source d at declaration s here stands) in
      let z : 0 + at ≡ at = omega arith in
      held_passes table declaration.members 0 ms at of_written.written test t (ap (all_held test) (sym held_list) ∙ f) of_written.stands
      (ap (λ n. held_at table (slice_get declaration.members n) of_written.written.modifiers of_written.written.form) z
      ∙ ap (λ o. held_at table o of_written.written.modifiers of_written.written.form) stands
      ∙ held_stored table (heads_table source.pieces) s of_written.written
      (member_form (heads_table source.pieces) of_written.inputs of_written.slots (in_data_at of_written.written.modifiers of_written.written.form) of_written.written.modifiers of_written.written.form) t stored_as h)

-- what writes a data struct
record DataSource (source : Source) (d : ℕ) (written : Declaration) : Type 0 where
  before : List Piece
  one : Piece
  after : List Piece
  split : source.pieces ≡ before ++ one ∷ after
  place : d ≡ count_by declares before
  struct : StructPiece
  members : List Member
  is_struct : one.form ≡ piece.Struct struct
  body : struct.body ≡ Members members
  made : made_struct (heads_table source.pieces) (first_code before) (next_key before) struct members ≡ written

module _ (source : Source) (d : ℕ) (written : Declaration) (b : Bool) (data_kind : written.kind ≡ kind.Data b)
    (before after : List Piece) (one : Piece) (split : source.pieces ≡ before ++ one ∷ after) (place : d ≡ count_by declares before) where
  body_source : (p : StructPiece) (x : StructBody) → one.form ≡ piece.Struct p → p.body ≡ x → struct_declaration (heads_table source.pieces) (first_code before) (next_key before) p x ≡ written ∷ [] → DataSource source d written
  body_source p LeftAside e x m = cc
  body_source p (Members ms) e x m =
      let made : made_struct (heads_table source.pieces) (first_code before) (next_key before) p ms ≡ written = cc in
      record { before = before; one = one; after = after; split = split; place = place; struct = p; members = ms; is_struct = e; body = x; made = made }

  form_source : (x : PieceForm) → one.form ≡ x → declarations_at (heads_table source.pieces) (first_code before) (next_key before) x ≡ written ∷ [] → DataSource source d written
  form_source (piece.Struct p) e m = body_source p p.body e refl m
  form_source (piece.Enum p) e m =
      let made : made_enum (heads_table source.pieces) (first_code before) p ≡ written = cc in
      let no : (made_enum (heads_table source.pieces) (first_code before) p).kind ≡ kind.Data b = ap kind_of made ∙ data_kind in cc
  form_source (piece.Import v) e m = cc
  form_source (piece.Environment es) e m = cc
  form_source (piece.Preview v) e m = cc

no_part : {p : Part} {X : Type 0} → ◌≡◌ {A = Option Part} None (Some p) → X
no_part e = cc

-- a property of a data struct of the completed table, with the signature of what is written
record Property (source : Source) (d : ℕ) (declaration : Declaration) (b : Bool) (t : Ty) : Type 0 where
  at : ℕ
  signature : Signature
  stands : slice_get declaration.members at ≡ Some signature
  written : Declaration
  there : slice_get (table_of source).declarations d ≡ Some written
  shown : Signature
  stood : slice_get written.members at ≡ Some shown
  stored : is_stored shown.form ≡ true
  typed : stored_type_at signature.form ≡ Some t
  data_kind : written.kind ≡ kind.Data b
  from : DataSource source d written

property : (source : Source) → IsSmall (completed source (table_of source)) → (d i : ℕ) (declaration : Declaration) (b : Bool) (p : Part) (t : Ty)
    → slice_get (completed source (table_of source)).declarations d ≡ Some declaration → declaration.kind ≡ kind.Data b
    → slice_get (inputs_of declaration.members) i ≡ Some p → p.ty ≡ Some t → Property source d declaration b t
property source small d i declaration b p t e k si pt =
    let table = completed source (table_of source) in
    let is = completed_is source in
    let x = declaration_alike is d declaration e in
    let by = declared_by source d x.0 x.1 in
    let q = input_at declaration.members i p si in
    let s = q.1.0 in
    let fit : s.form ≡ form.Unfit → ⊥ = λ u. no_part (ap (stored_at s.code) (sym u) ∙ q.1.2) in
    let stood = forms_stand source table is small d q.0 declaration s e q.1.1 fit in
    let r = stored_input b s.code s.form p (ap (λ z. stands_in z s.form) (sym k) ∙ stood) q.1.2 in
    let y = signature_alike declaration x.0 q.0 s x.2 q.1.1 in
    let kind_is : x.0.kind ≡ kind.Data b = ap kind_of (sym x.2) ∙ k in
    record {
      at = q.0;
      signature = s;
      stands = q.1.1;
      written = x.0;
      there = x.1;
      shown = y.0;
      stood = y.1;
      stored = sym (stored_is_bare y.0.form) ∙ ap (λ (z : Signature). is_stored z.form) (sym y.2) ∙ stored_is_bare s.form ∙ r.0;
      typed = sym r.1 ∙ pt;
      data_kind = kind_is;
      from = form_source source d x.0 b kind_is by.before by.after by.one by.split by.place by.one.form refl by.is;
    }

holds_all : (source : Source) → IsSmall (completed source (table_of source)) → Holds (completed source (table_of source)) (holds source (completed source (table_of source)))
holds_all source small d i declaration b p t test e k si pt f =
    let q = property source small d i declaration b p t e k si pt in let g = q.from in
    passes source d q.at declaration q.written q.signature q.shown b t e q.stands q.there q.stood q.stored q.typed q.data_kind
    g.before g.after g.one g.split g.place g.struct g.members g.is_struct g.body g.made test f

-- a type that is found of an initial value is a type of values
abbrev pub FoundOfValues : Source → Type 0
FoundOfValues source = (i d : ℕ) (o : Open) (declaration : Declaration) (s : Signature) (t : Ty) → slice_get (opens source) i ≡ Some o → o.declaration ≡ Some d
    → slice_get (completed source (table_of source)).declarations d ≡ Some declaration → slice_get declaration.members o.at ≡ Some s → stored_type_at s.form ≡ Some t
    → IsOfValues (completed source (table_of source)) (out-Ty t)

properties_of_values : (source : Source) → IsSmall (completed source (table_of source)) → FoundOfValues source → PropertiesOfValues (completed source (table_of source))
properties_of_values source small found d i declaration b p t e k si pt =
    let q = property source small d i declaration b p t e k si pt in let g = q.from in
    of_values source d q.at declaration q.written q.signature q.shown b t e q.stands q.there q.stood q.stored q.typed q.data_kind
    g.before g.after g.one g.split g.place g.struct g.members g.is_struct g.body g.made found

-- ---- the law

data_piece : (heads : Table) (first key : ℕ) (f : PieceForm) (d : Declaration) (b : Bool) → declarations_at heads first key f ≡ d ∷ [] → d.kind ≡ kind.Data b → (declares_at f ≡ true) × (is_data_at f ≡ true)
data_piece heads first key (piece.Struct p) d b e k = by p.body e
  where
    by : (x : StructBody) → struct_declaration heads first key p x ≡ d ∷ [] → (declares_struct x ≡ true) × (deep.is_data_struct x p.names ≡ true)
    by LeftAside e = cc
    by (Members ms) e =
        let made : made_struct heads first key p ms ≡ d = cc in
        (refl, ap is_data_sort (data_sort key p.names b (sort_of p.names) (not_enum p.names) (ap kind_of made ∙ k)))
data_piece heads first key (piece.Enum p) d b e k =
    let made : made_enum heads first p ≡ d = cc in
    let no : (made_enum heads first p).kind ≡ kind.Data b = ap kind_of made ∙ k in cc
data_piece heads first key (piece.Import w) d b e k = cc
data_piece heads first key (piece.Environment es) d b e k = cc
data_piece heads first key (piece.Preview w) d b e k = cc

is_not : (b : Bool) → not b ≡ false → b ≡ true
is_not true e = refl
is_not false e = cc

-- No data struct of the completed table is deeper than 64, where none is found that is, declarations, members and keys are few, and
-- the types that are found of initial values are types of values.
abbrev pub StructsShallow : Type 0
StructsShallow = (source : Source) → IsSmall (completed source (table_of source)) → FoundOfValues source
    → recursive source (completed source (table_of source)) ≡ None
    → (d : ℕ) (declaration : Declaration) (b : Bool) → slice_get (completed source (table_of source)).declarations d ≡ Some declaration → declaration.kind ≡ kind.Data b
    → IsWithin (completed source (table_of source)) 64 (Ty-F.Named d)

pub structs_shallow : StructsShallow
unfolding recursive deepest
structs_shallow source small found none d declaration b e k =
    let table = completed source (table_of source) in
    let x = declaration_alike (completed_is source) d declaration e in
    let by = declared_by source d x.0 x.1 in
    let o = data_piece (heads_table source.pieces) (first_code by.before) (next_key by.before) by.one.form x.0 b by.is (ap kind_of (sym x.2) ∙ k) in
    let test = λ (n : ℕ). not (declaration_fits (holds source table) 64 n) in
    let n = none_deep test 0 by.before by.after by.one (ap (first_deep test 0) (sym by.split) ∙ none) o.0 o.1 in
    let q = by.place in
    let z : d ≡ 0 + count_by declares by.before = omega (arith, q) in
    struct_shallow table (holds source table) (properties_of_values source small found) (holds_all source small) 63 d declaration b e k (is_not (declaration_fits (holds source table) 64 d) (ap test z ∙ n))
