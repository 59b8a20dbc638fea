-- Each preference key is a declaration, with its default and `reduce`, and the other way round.
use Rattle.std.specs.Prelude.{◌≡◌, ℕ, zero, suc, ◌+◌, ◌≤◌, Bool, true, false, ◌&&◌, ◌||◌, List, [], ◌∷◌, ◌++◌, Option, Some, None, is_some, length, map, codes, slice_get}
use Rattle.std.specs.List.{count_by, sum_by, list_any, find}
use Rattle.std.specs.Str.{bytes_eq}
use Rattle.std.proofs.Common.{refl, sym, ap, subst, ◌∙◌, cond, arith}
use Rattle.std.proofs.lemmas.List.{map-append}
use Rattle.std.proofs.lemmas.List.Sums.{sum_by-append, sum_by-cons}
use Rattle.std.proofs.lemmas.Option.{slice_get_within}
use Rattle.swift_ast.specs.declared.piece.Member.{Member}
use Rattle.swift_ast.specs.declared.piece.MemberForm.{MemberForm}
use Rattle.swift_ast.specs.declared.piece.MemberForm.TheVariants as member
use Rattle.swift_ast.specs.declared.piece.Modifier.{Modifier}
use Rattle.swift_ast.specs.declared.piece.Param.{Param}
use Rattle.swift_ast.specs.declared.piece.Piece.{Piece}
use Rattle.swift_ast.specs.declared.piece.PieceForm.{PieceForm}
use Rattle.swift_ast.specs.declared.piece.PieceForm.TheVariants as piece
use Rattle.swift_ast.specs.declared.piece.ResultName.{ResultName}
use Rattle.swift_ast.specs.declared.piece.ResultName.TheVariants.{Plain, Opaque}
use Rattle.swift_ast.specs.declared.piece.Source.{Source}
use Rattle.swift_ast.specs.declared.piece.StructBody.{StructBody}
use Rattle.swift_ast.specs.declared.piece.StructBody.TheVariants.{Members, LeftAside}
use Rattle.swift_ast.specs.declared.piece.StructPiece.{StructPiece}
use Rattle.swift_ast.specs.declared.tree.Binder.{Binder}
use Rattle.swift_ast.specs.declared.tree.Expr.{Expr}
use Rattle.swift_ast.specs.declared.type_name.TypeName.{TypeName}
use Rattle.swift_core.specs.Context.{HasMember}
use Rattle.swift_core.specs.Programs.{IsPreference}
use Rattle.swift_core.specs.declared.table.Declaration.{Declaration}
use Rattle.swift_core.specs.declared.table.Kind.{Kind}
use Rattle.swift_core.specs.declared.table.Kind.TheVariants as kind
use Rattle.swift_core.specs.declared.table.PreferenceKey.{PreferenceKey}
use Rattle.swift_core.specs.declared.table.Signature.{Signature}
use Rattle.swift_core.specs.declared.table.SignatureForm.{SignatureForm}
use Rattle.swift_core.specs.declared.table.SignatureForm.TheVariants as form
use Rattle.swift_core.specs.declared.table.Table.{Table}
use Rattle.type_base.specs.Claims.{some_is}
use Rattle.member_forms.specs.declared.marks.Mark.TheVariants as mark
use Rattle.member_forms.specs.declared.role.Role.TheVariants as role
use Rattle.member_forms.specs.declared.role.Sort.{Sort}
use Rattle.member_forms.specs.declared.role.Sort.TheVariants as sort
use Rattle.member_forms.specs.Marks.{marked}
use Rattle.member_forms.specs.Roles.{role_of, in_key_at, reduce_params}
use Rattle.member_forms.specs.Whole as whole
use Rattle.member_forms.specs.Whole.{sort_of, is_static_role, is_reduce_role, is_default, has_default, has_reduce, is_complete, members_fit, head_fits, struct_body_fits, declaration_fits_at, declaration_fits}
use Rattle.type_table.specs.Along.{narrow, along_from, along}
use Rattle.type_table.specs.Heads.{declares, declares_at, declares_struct, heads_table, is_key, is_key_at, is_key_struct, is_key_sort, next_key, struct_kind}
use Rattle.type_table.specs.Signatures.{stored_form, computed_form, function_form, member_form, signatures, struct_drafts}
use Rattle.type_table.specs.Tables.{first_code, struct_declaration, declarations_at, declarations_of, declarations, is_static_form, is_static, is_reduce_form, is_reduce, static_type_at, type_or_none, code_or_first, preference_at, preference_of, preferences, table_of}
use Rattle.table_names.specs.Lists.{split_at, given_by, gives_at, get_middle, length_along}
use Rattle.table_names.specs.Numbers.{Counted, numbers, numbers_append, alike_length, alike_map, some_at}
use Rattle.table_names.specs.Pieces.{declared_by, made_struct, made_enum, length_declarations, length_signatures, length_struct}
use Rattle.table_names.specs.Codes.{narrow_small}
use Rattle.table_places.specs.Members.{of_member, false_true}
use Rattle.table_names.specs.Tables.{IsTableOf, IsSmall, bare_form, bare_declaration, same_declarations, declaration_alike, signature_alike}

-- ---- the numbers of the keys

abbrev pub key_number : Kind → Option ℕ
key_number (kind.Key k) = Some k
key_number _ = None

abbrev pub key_of : Declaration → Option ℕ
key_of d = key_number d.kind

-- the numbers of a list that counts up are those of the numbers before
counted_here : (k : ℕ) (ms ns : List (Option ℕ)) (n : ℕ) → Counted k (ms ++ Some n ∷ ns) → n ≡ k + numbers ms
counted_here k [] ns n c = c.0 ∙ (let h : k ≡ k + 0 = omega arith in h)
counted_here k (None ∷ ms) ns n c = counted_here k ms ns n c
counted_here k (Some m ∷ ms) ns n c = counted_here (suc k) ms ns n c.1 ∙ (let h : suc k + numbers ms ≡ k + suc (numbers ms) = omega arith in h)

key_kind : (key : ℕ) (names : List (List ℕ)) (s : Sort) → key_number (struct_kind key names s) ≡ cond (is_key_sort s) (Some key) None
key_kind key names sort.Data = refl
key_kind key names sort.Enum = refl
key_kind key names sort.View = refl
key_kind key names sort.App = refl
key_kind key names sort.Key = refl

step_count : (before : List Piece) (p : Piece) → count_by is_key (before ++ p ∷ []) ≡ count_by is_key before + cond (is_key p) 1 0
step_count before p =
    sum_by-append (λ y. cond (is_key y) 1 0) before (p ∷ [])
    ∙ ap (λ n. count_by is_key before + n) (sum_by-cons (λ y. cond (is_key y) 1 0) p [] ∙ (let h : cond {A = ℕ} (is_key p) 1 0 + 0 ≡ cond (is_key p) 1 0 = omega arith in h))

-- the keys that a piece declares
abbrev keys_in : List Declaration → List (Option ℕ)
keys_in ds = map key_of ds

one_key : (k count : ℕ) (b : Bool) (rest : List (Option ℕ)) → k ≡ count → Counted (count + cond b 1 0) rest → Counted count (cond b (Some k) None ∷ rest)
one_key k count true rest e c = (e, subst (λ n. Counted n rest) (let h : count + 1 ≡ suc count = omega arith in h) c)
one_key k count false rest e c = subst (λ n. Counted n rest) (let h : count + 0 ≡ count = omega arith in h) c

no_key : (count : ℕ) (rest : List (Option ℕ)) → Counted (count + 0) rest → Counted count rest
no_key count rest c = subst (λ n. Counted n rest) (let h : count + 0 ≡ count = omega arith in h) c

struct_keys : (heads : Table) (first key count : ℕ) (p : StructPiece) (b : StructBody) (rest : List (Option ℕ)) → key ≡ count
    → Counted (count + cond (is_key_struct b p.names) 1 0) rest → Counted count (keys_in (struct_declaration heads first key p b) ++ rest)
struct_keys heads first key count p LeftAside rest e c = no_key count rest c
struct_keys heads first key count p (Members ms) rest e c =
    subst (λ o. Counted count (o ∷ rest)) (sym (key_kind key p.names (sort_of p.names))) (one_key key count (is_key_sort (sort_of p.names)) rest e c)

piece_keys : (heads : Table) (first key count : ℕ) (f : PieceForm) (rest : List (Option ℕ)) → key ≡ count
    → Counted (count + cond (is_key_at f) 1 0) rest → Counted count (keys_in (declarations_at heads first key f) ++ rest)
piece_keys heads first key count (piece.Struct p) rest e c = struct_keys heads first key count p p.body rest e c
piece_keys heads first key count (piece.Enum p) rest e c = no_key count rest c
piece_keys heads first key count (piece.Import w) rest e c = no_key count rest c
piece_keys heads first key count (piece.Environment es) rest e c = no_key count rest c
piece_keys heads first key count (piece.Preview s) rest e c = no_key count rest c

counted_keys : (heads : Table) (done ps : List Piece) → count_by is_key done + count_by is_key ps ≤ 1048576 → Counted (count_by is_key done) (keys_in (along_from (declarations_of heads) done ps))
counted_keys heads done [] le = tt
counted_keys heads done (p ∷ ps) le =
    let xs = declarations_of heads done p in let ys = along_from (declarations_of heads) (done ++ p ∷ []) ps in
    let s = step_count done p in let c = sum_by-cons (λ y. cond (is_key y) 1 0) p ps in
    subst (Counted (count_by is_key done)) (sym (map-append key_of xs ys))
    (piece_keys heads (first_code done) (next_key done) (count_by is_key done) p.form (keys_in ys) (narrow_small (count_by is_key done) (omega (arith, le)))
    (subst (λ n. Counted n (keys_in ys)) s (counted_keys heads (done ++ p ∷ []) ps (omega (arith, s, c, le)))))

one_at_most : (b : Bool) → cond {A = ℕ} b 1 0 ≤ 1
one_at_most true = omega arith
one_at_most false = omega arith

struct_few : (b : StructBody) (names : List (List ℕ)) → cond {A = ℕ} (is_key_struct b names) 1 0 ≤ cond (declares_struct b) 1 0
struct_few LeftAside names = omega arith
struct_few (Members ms) names = one_at_most (is_key_sort (sort_of names))

piece_few : (f : PieceForm) → cond {A = ℕ} (is_key_at f) 1 0 ≤ cond (declares_at f) 1 0
piece_few (piece.Struct p) = struct_few p.body p.names
piece_few (piece.Enum p) = omega arith
piece_few (piece.Import w) = omega arith
piece_few (piece.Environment es) = omega arith
piece_few (piece.Preview s) = omega arith

keys_few : (ps : List Piece) → count_by is_key ps ≤ count_by declares ps
keys_few [] = omega arith
keys_few (p ∷ ps) =
    let a = sum_by-cons (λ y. cond (is_key y) 1 0) p ps in let b = sum_by-cons (λ y. cond (declares y) 1 0) p ps in let r = keys_few ps in let h = piece_few p.form in
    omega (arith, a, b, r, h)

kinds_alike : (x y : Declaration) → bare_declaration x ≡ bare_declaration y → key_of x ≡ key_of y
kinds_alike x y e = ap (λ (d : Declaration). key_number d.kind) e

-- the keys of a table count up
pub table_keys : {source : Source} {table : Table} → IsTableOf source table → IsSmall table → Counted 0 (keys_in table.declarations)
unfolding table_of declarations along
table_keys {source = source} {table = table} is small =
    let heads = heads_table source.pieces in
    let few = keys_few source.pieces in let l = length_declarations heads source.pieces in
    let n = alike_length bare_declaration table.declarations (table_of source).declarations (same_declarations is) in
    subst (Counted 0) (sym (alike_map bare_declaration key_of kinds_alike table.declarations (table_of source).declarations (same_declarations is)))
    (counted_keys heads [] source.pieces (omega (arith, few, l, n, small)))

-- ---- the preference keys

preference_count : (before : List Declaration) (d : Declaration) → length (preference_of before d) ≡ numbers (key_of d ∷ [])
preference_count before d = by d.kind
  where
    by : (k : Kind) → length (preference_at (length before) d k) ≡ numbers (key_number k ∷ [])
    by (kind.Key k) = refl
    by (kind.Data b) = refl
    by (kind.Enum b n) = refl
    by kind.View = refl
    by kind.App = refl

numbers_sum : (ds : List Declaration) → sum_by (λ (d : Declaration). numbers (key_of d ∷ [])) ds ≡ numbers (keys_in ds)
numbers_sum [] = refl
numbers_sum (d ∷ ds) =
    sum_by-cons (λ (x : Declaration). numbers (key_of x ∷ [])) d ds ∙ ap (λ n. numbers (key_of d ∷ []) + n) (numbers_sum ds) ∙ sym (numbers_append (key_of d ∷ []) (keys_in ds))

pub preferences_length : (ds : List Declaration) → length (along preference_of ds) ≡ numbers (keys_in ds)
preferences_length ds = length_along preference_of (λ (d : Declaration). numbers (key_of d ∷ [])) preference_count ds ∙ numbers_sum ds

-- what a preference key is by its declaration
abbrev pub key_made : ℕ → Declaration → PreferenceKey
key_made at d = record {
  declaration = narrow at;
  ty = type_or_none (find is_static d.members);
  default = code_or_first (find is_static d.members);
  reduce = code_or_first (find is_reduce d.members);
}

record IsKeyAt (at : ℕ) (d : Declaration) (i : ℕ) (p : PreferenceKey) : Type 0 where
  number : ℕ
  kind_is : d.kind ≡ kind.Key number
  first : i ≡ 0
  made : p ≡ key_made at d

key_at : (at : ℕ) (d : Declaration) (k : Kind) (i : ℕ) (p : PreferenceKey) → d.kind ≡ k → slice_get (preference_at at d k) i ≡ Some p → IsKeyAt at d i p
key_at at d (kind.Key k) zero p e h = let m : key_made at d ≡ p = cc in record { number = k; kind_is = e; first = refl; made = sym m }
key_at at d (kind.Key k) (suc i) p e h = cc
key_at at d (kind.Data b) i p e h = cc
key_at at d (kind.Enum b n) i p e h = cc
key_at at d kind.View i p e h = cc
key_at at d kind.App i p e h = cc

number_at : (before after : List Declaration) (one : Declaration) (k : ℕ) → Counted 0 (keys_in (before ++ one ∷ after)) → one.kind ≡ kind.Key k → k ≡ length (along preference_of before)
number_at before after one k c e =
    let d = subst (Counted 0) (map-append key_of before (one ∷ after) ∙ ap (λ x. keys_in before ++ key_number x ∷ keys_in after) e) c in
    counted_here 0 (keys_in before) (keys_in after) k d ∙ (let h : 0 + numbers (keys_in before) ≡ numbers (keys_in before) = omega arith in h) ∙ sym (preferences_length before)

-- Each preference key of a kind has its place among the preference keys.
abbrev pub KeysPlaced : Type 0
KeysPlaced = (source : Source) (table : Table) → IsTableOf source table → IsSmall table
    → (d : ℕ) (declaration : Declaration) (k : ℕ) → slice_get table.declarations d ≡ Some declaration → declaration.kind ≡ kind.Key k
    → (p : PreferenceKey) × (slice_get table.preferences k ≡ Some p) × (p.declaration ≡ d)

pub keys_placed : KeysPlaced
unfolding preferences
keys_placed source table is small d declaration k e h =
    let s = split_at table.declarations d declaration e in
    let c = subst (λ ds. Counted 0 (keys_in ds)) s.split (table_keys is small) in
    let n = number_at s.before s.after declaration k c h in
    let p = key_made (length s.before) declaration in
    let first : slice_get (preference_of s.before declaration) 0 ≡ Some p = ap (λ x. slice_get (preference_at (length s.before) declaration x) 0) h in
    let g = gives_at preference_of s.before s.after declaration 0 p first in
    let z : k ≡ length (along preference_of s.before) + 0 = omega (arith, n) in
    let lt = slice_get_within table.declarations d declaration e in let q = s.place in (
      p,
      ap (λ ps. slice_get ps k) is.preferred ∙ (λ i. slice_get (along preference_of (s.split i)) (z i)) ∙ g,
      narrow_small (length s.before) (omega (arith, lt, q, small)) ∙ sym q,
    )

-- ---- the default and `reduce` of a key

-- the members of a list that pass a test
abbrev pub Has : {X : Type 0} → (X → Bool) → List X → Type 0
Has {X = X} test xs = (i : ℕ) × ((x : X) × (slice_get xs i ≡ Some x) × (test x ≡ true))

pub has_any : {X : Type 0} (test : X → Bool) (xs : List X) → list_any test xs ≡ true → Has test xs
has_any test [] e = cc
has_any test (x ∷ xs) e = by (test x) refl e (has_any test xs)
  where
    by : (b : Bool) → test x ≡ b → (b || list_any test xs) ≡ true → (list_any test xs ≡ true → Has test xs) → Has test (x ∷ xs)
    by true t e r = (zero, (x, refl, t))
    by false t e r = let w = r e in (suc w.0, (w.1.0, w.1.1, w.1.2))

-- the first that passes
abbrev pub FirstOf : {X : Type 0} → (X → Bool) → List X → Type 0
FirstOf {X = X} test xs = (x : X) × (find test xs ≡ Some x) × ((i : ℕ) × (slice_get xs i ≡ Some x)) × (test x ≡ true)

first_of_all : {X : Type 0} (test : X → Bool) (xs : List X) → Has test xs → FirstOf test xs
first_of_all test [] (i, (x, e, t)) = cc
first_of_all {X = X} test (y ∷ ys) (i, (x, e, t)) = by (test y) refl i e (first_of_all test ys)
  where
    by : (b : Bool) → test y ≡ b → (i : ℕ) → slice_get (y ∷ ys) i ≡ Some x → (Has test ys → FirstOf test ys) → (z : X) × (cond b (Some y) (find test ys) ≡ Some z) × ((i : ℕ) × (slice_get (y ∷ ys) i ≡ Some z)) × (test z ≡ true)
    by true s i e r = (y, refl, (zero, refl), s)
    by false s zero e r = let h : y ≡ x = cc in false_true (sym (ap test h) ∙ s) t
    by false s (suc i) e r = let w = r (i, (x, e, t)) in (w.0, w.1, (suc w.2.0, w.2.1), w.3)

-- the form of a member that is a key's default, and of one that is `reduce`
static_stored : (heads : Table) (i j : ℕ) (ms : List Modifier) (b : Binder) (t : Option TypeName) (v : Option Expr) (fits : Bool)
    → is_static_role (cond fits role.Static role.Unfit) ≡ true → is_static_form (stored_form heads i j (cond fits role.Static role.Unfit) ms b t v) ≡ true
static_stored heads i j ms b t v true e = refl
static_stored heads i j ms b t v false e = cc

static_computed : (heads : Table) (t : TypeName) (fits : Bool) → is_static_role (cond fits role.Static role.Unfit) ≡ true → is_static_form (computed_form heads (cond fits role.Static role.Unfit) (Plain t)) ≡ true
static_computed heads t true e = refl
static_computed heads t false e = cc

no_static : (fits : Bool) → is_static_role (cond fits role.Reduce role.Unfit) ≡ false
no_static true = refl
no_static false = refl

no_reduce : (fits : Bool) → is_reduce_role (cond fits role.Static role.Unfit) ≡ false
no_reduce true = refl
no_reduce false = refl

reduce_function : (heads : Table) (ps : List Param) (r : Option ResultName) (fits : Bool) → is_reduce_role (cond fits role.Reduce role.Unfit) ≡ true → is_reduce_form (function_form heads (cond fits role.Reduce role.Unfit) ps r) ≡ true
reduce_function heads ps r true e = refl
reduce_function heads ps r false e = cc

default_form : (heads : Table) (i j : ℕ) (ms : List Modifier) (f : MemberForm) → is_static_role (in_key_at ms f) ≡ true → is_static_form (member_form heads i j (in_key_at ms f) ms f) ≡ true
default_form heads i j ms (member.Stored b w t v) e = static_stored heads i j ms b t v (marked mark.Static ms && bytes_eq w (codes "defaultValue") && is_some v) e
default_form heads i j ms (member.Computed w (Plain t) body) e = static_computed heads t (marked mark.Static ms && bytes_eq w (codes "defaultValue")) e
default_form heads i j ms (member.Computed w (Opaque v) body) e = cc
default_form heads i j ms (member.Function w ps None body) e = false_true (no_static (marked mark.Static ms && bytes_eq w (codes "reduce") && reduce_params ps)) e
default_form heads i j ms (member.Function w ps (Some r) body) e = cc

reduce_form : (heads : Table) (i j : ℕ) (ms : List Modifier) (f : MemberForm) → is_reduce_role (in_key_at ms f) ≡ true → is_reduce_form (member_form heads i j (in_key_at ms f) ms f) ≡ true
reduce_form heads i j ms (member.Stored b w t v) e = false_true (no_reduce (marked mark.Static ms && bytes_eq w (codes "defaultValue") && is_some v)) e
reduce_form heads i j ms (member.Computed w (Plain t) body) e = false_true (no_reduce (marked mark.Static ms && bytes_eq w (codes "defaultValue"))) e
reduce_form heads i j ms (member.Computed w (Opaque v) body) e = cc
reduce_form heads i j ms (member.Function w ps None body) e = reduce_function heads ps None (marked mark.Static ms && bytes_eq w (codes "reduce") && reduce_params ps) e
reduce_form heads i j ms (member.Function w ps (Some r) body) e = cc

abbrev FormTest : Type 0
FormTest = SignatureForm → Bool

-- the signature of a member of a key that passes a test passes the test of its form
signature_has : (heads : Table) (first : ℕ) (ms : List Member) (role_test : Member → Bool) (test : FormTest)
    → ((i j : ℕ) (m : Member) → role_test m ≡ true → test (member_form heads i j (role_of sort.Key m) m.modifiers m.form) ≡ true)
    → Has role_test ms → Has (λ (s : Signature). test s.form) (signatures first (struct_drafts heads sort.Key ms))
signature_has heads first ms role_test test is (i, (m, e, t)) =
    let lt = slice_get_within ms i m e in
    let a = length_signatures first (struct_drafts heads sort.Key ms) in let b = length_struct heads sort.Key ms in
    let s = some_at (signatures first (struct_drafts heads sort.Key ms)) i (omega (arith, lt, a, b)) in
    let o = of_member heads first sort.Key ms i s.0 s.1 in
    let same : o.written ≡ m = some_is o.written m (sym o.stands ∙ e) in
    (i, (s.0, s.1, ap test o.form_is ∙ is o.inputs o.slots o.written (ap role_test same ∙ t)))

-- a test of forms that doesn't look at types passes alike in alike lists
alike_has : (test : FormTest) → ((f : SignatureForm) → test (bare_form f) ≡ test f) → (x y : Declaration) → bare_declaration x ≡ bare_declaration y
    → Has (λ (s : Signature). test s.form) x.members → Has (λ (s : Signature). test s.form) y.members
alike_has test bare x y e (i, (s, h, t)) =
    let r = signature_alike x y i s e h in
    (i, (r.0, r.1, sym (bare r.0.form) ∙ ap (λ (z : Signature). test z.form) (sym r.2) ∙ bare s.form ∙ t))

static_bare : (f : SignatureForm) → is_static_form (bare_form f) ≡ is_static_form f
static_bare (form.Stored n b t a) = refl
static_bare (form.State n t a) = refl
static_bare (form.Static t) = refl
static_bare (form.Binding n t) = refl
static_bare (form.Environment n) = refl
static_bare (form.Case n) = refl
static_bare (form.Computed t) = refl
static_bare (form.Function ps t m) = refl
static_bare form.BuilderProperty = refl
static_bare (form.BuilderFunction ps) = refl
static_bare form.Reduce = refl
static_bare form.Unfit = refl

reduce_bare : (f : SignatureForm) → is_reduce_form (bare_form f) ≡ is_reduce_form f
reduce_bare (form.Stored n b t a) = refl
reduce_bare (form.State n t a) = refl
reduce_bare (form.Static t) = refl
reduce_bare (form.Binding n t) = refl
reduce_bare (form.Environment n) = refl
reduce_bare (form.Case n) = refl
reduce_bare (form.Computed t) = refl
reduce_bare (form.Function ps t m) = refl
reduce_bare form.BuilderProperty = refl
reduce_bare (form.BuilderFunction ps) = refl
reduce_bare form.Reduce = refl
reduce_bare form.Unfit = refl

-- ---- a key that fits is complete

pub last_of : (a b : Bool) → (a && b) ≡ true → b ≡ true
last_of true b e = e
last_of false b e = cc

pub first_part : (a b : Bool) → (a && b) ≡ true → a ≡ true
first_part true b e = refl
first_part false b e = cc

key_sort : (key n : ℕ) (names : List (List ℕ)) (s : Sort) → struct_kind key names s ≡ kind.Key n → s ≡ sort.Key
key_sort key n names sort.Data e = cc
key_sort key n names sort.Enum e = cc
key_sort key n names sort.View e = cc
key_sort key n names sort.App e = cc
key_sort key n names sort.Key e = refl

-- the declaration has its default and `reduce`
abbrev Complete : Declaration → Type 0
Complete d = Has is_static d.members × Has is_reduce d.members

struct_complete : (heads : Table) (first key n : ℕ) (p : StructPiece) (b : StructBody) (d : Declaration) → struct_declaration heads first key p b ≡ d ∷ [] → struct_body_fits p b ≡ true → d.kind ≡ kind.Key n → Complete d
struct_complete heads first key n p LeftAside d e f k = cc
struct_complete heads first key n p (Members ms) d e f k =
    let made : made_struct heads first key p ms ≡ d = cc in
    let s : sort_of p.names ≡ sort.Key = key_sort key n p.names (sort_of p.names) (ap (λ (x : Declaration). x.kind) made ∙ k) in
    let c : is_complete sort.Key p.names ms ≡ true =
    ap (λ z. is_complete z p.names ms) (sym s) ∙ last_of (head_fits (sort_of p.names) p && members_fit (sort_of p.names) ms) (is_complete (sort_of p.names) p.names ms) f in
    let static = signature_has heads first ms is_default is_static_form (λ i j m. default_form heads i j m.modifiers m.form) (has_any is_default ms (first_part (has_default ms) (has_reduce ms) c)) in
    let reduce = signature_has heads first ms whole.is_reduce is_reduce_form (λ i j m. reduce_form heads i j m.modifiers m.form) (has_any whole.is_reduce ms (last_of (has_default ms) (has_reduce ms) c)) in
    let members : signatures first (struct_drafts heads sort.Key ms) ≡ d.members = ap (λ z. signatures first (struct_drafts heads z ms)) (sym s) ∙ ap (λ (x : Declaration). x.members) made in
    (subst (Has is_static) members static, subst (Has is_reduce) members reduce)

piece_complete : (heads : Table) (first key n : ℕ) (x : Piece) (d : Declaration) (f : PieceForm) → x.form ≡ f → declarations_at heads first key f ≡ d ∷ [] → declaration_fits x ≡ true → d.kind ≡ kind.Key n → Complete d
piece_complete heads first key n x d (piece.Struct p) s e fits k = struct_complete heads first key n p p.body d e (ap declaration_fits_at (sym s) ∙ fits) k
piece_complete heads first key n x d (piece.Enum p) s e fits k = let made : made_enum heads first p ≡ d = cc in let no : (made_enum heads first p).kind ≡ kind.Key n = ap (λ (y : Declaration). y.kind) made ∙ k in cc
piece_complete heads first key n x d (piece.Import w) s e fits k = cc
piece_complete heads first key n x d (piece.Environment es) s e fits k = cc
piece_complete heads first key n x d (piece.Preview w) s e fits k = cc

-- each declaration of the source file fits its kind
abbrev pub AllFit : Source → Type 0
AllFit source = (i : ℕ) (p : Piece) → slice_get source.pieces i ≡ Some p → declaration_fits p ≡ true

complete : {source : Source} {table : Table} → IsTableOf source table → AllFit source → (d n : ℕ) (declaration : Declaration) → slice_get table.declarations d ≡ Some declaration
    → declaration.kind ≡ kind.Key n → Complete declaration
complete {source = source} {table = table} is fit d n declaration e k =
    let x = declaration_alike is d declaration e in
    let by = declared_by source d x.0 x.1 in
    let there : slice_get source.pieces (length by.before) ≡ Some by.one = ap (λ ps. slice_get ps (length by.before)) by.split ∙ get_middle by.before by.after by.one in
    let c = piece_complete (heads_table source.pieces) (first_code by.before) (next_key by.before) n by.one x.0 by.one.form refl by.is (fit (length by.before) by.one there)
    (ap (λ (y : Declaration). y.kind) (sym x.2) ∙ k) in
    (alike_has is_static_form static_bare x.0 declaration (sym x.2) c.0, alike_has is_reduce_form reduce_bare x.0 declaration (sym x.2) c.1)

static_is : (f : SignatureForm) → is_static_form f ≡ true → f ≡ form.Static (static_type_at f)
static_is (form.Static t) e = refl
static_is (form.Stored n b t a) e = cc
static_is (form.State n t a) e = cc
static_is (form.Binding n t) e = cc
static_is (form.Environment n) e = cc
static_is (form.Case n) e = cc
static_is (form.Computed t) e = cc
static_is (form.Function ps t m) e = cc
static_is form.BuilderProperty e = cc
static_is (form.BuilderFunction ps) e = cc
static_is form.Reduce e = cc
static_is form.Unfit e = cc

reduce_is : (f : SignatureForm) → is_reduce_form f ≡ true → f ≡ form.Reduce
reduce_is form.Reduce e = refl
reduce_is (form.Static t) e = cc
reduce_is (form.Stored n b t a) e = cc
reduce_is (form.State n t a) e = cc
reduce_is (form.Binding n t) e = cc
reduce_is (form.Environment n) e = cc
reduce_is (form.Case n) e = cc
reduce_is (form.Computed t) e = cc
reduce_is (form.Function ps t m) e = cc
reduce_is form.BuilderProperty e = cc
reduce_is (form.BuilderFunction ps) e = cc
reduce_is form.Unfit e = cc

-- Each preference key is that of its declaration, where each declaration fits its kind.
abbrev pub PreferencesStand : Type 0
PreferencesStand = (source : Source) (table : Table) → IsTableOf source table → IsSmall table → AllFit source
    → (k : ℕ) (p : PreferenceKey) → slice_get table.preferences k ≡ Some p → IsPreference table k p

pub preferences_stand : PreferencesStand
unfolding preferences along
preferences_stand source table is small fit k p e =
    let r = given_by preference_of table.declarations k p (ap (λ ps. slice_get ps k) (sym is.preferred) ∙ e) in
    let y = key_at (length r.before) r.one r.one.kind r.at p refl r.stands in
    let c = subst (λ ds. Counted 0 (keys_in ds)) r.split (table_keys is small) in
    let n = number_at r.before r.after r.one y.number c y.kind_is in
    let place = r.place in let first = y.first in
    let number : y.number ≡ k = omega (arith, n, place, first) in
    let here : slice_get table.declarations (length r.before) ≡ Some r.one = ap (λ ds. slice_get ds (length r.before)) r.split ∙ get_middle r.before r.after r.one in
    let lt = slice_get_within table.declarations (length r.before) r.one here in
    let narrow_is : narrow (length r.before) ≡ length r.before = narrow_small (length r.before) (omega (arith, lt, small)) in
    let declared : slice_get table.declarations p.declaration ≡ Some r.one = ap (λ (q : PreferenceKey). slice_get table.declarations q.declaration) y.made ∙ ap (slice_get table.declarations) narrow_is ∙ here in
    let full = complete is fit (length r.before) y.number r.one here y.kind_is in
    let static = first_of_all is_static r.one.members full.0 in
    let reduce = first_of_all is_reduce r.one.members full.1 in
    record {
      declaration = r.one;
      declared = declared;
      is_key = y.kind_is ∙ ap kind.Key number;
      default = static.0;
      default_stands = HasMember.member static.2.0 declared static.2.1;
      default_code = sym (ap (λ (q : PreferenceKey). q.default) y.made ∙ ap code_or_first static.1);
      default_form = static_is static.0.form static.3 ∙ ap form.Static (sym (ap (λ (q : PreferenceKey). q.ty) y.made ∙ ap type_or_none static.1));
      reduce = reduce.0;
      reduce_stands = HasMember.member reduce.2.0 declared reduce.2.1;
      reduce_code = sym (ap (λ (q : PreferenceKey). q.reduce) y.made ∙ ap code_or_first reduce.1);
      reduce_form = reduce_is reduce.0.form reduce.3;
    }
