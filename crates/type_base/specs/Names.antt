-- What a name stands for: a local, a declaration, a member of a declaration.
-- After The Swift Programming Language, 'Identifiers' and 'Scope of a Declaration'.
use Rattle.std.specs.Prelude.{◌≡◌, ◌≢◌, ℕ, ◌≤◌, Bool, true, false, not, ◌||◌, List, Option, Some, None, slice_get, codes, ◌⊎◌, ◌↔◌, nat_lt}
use Rattle.std.specs.FinMap as fin
use Rattle.std.specs.Str.{bytes_eq}
use Rattle.std.proofs.Common.{refl, arith}
use Rattle.std.proofs.lemmas.Slice.Eq.{bytes_eq-Decides}
use Rattle.swift_core.specs.declared.table.Table.{Table}
use Rattle.swift_core.specs.declared.table.Declaration.{Declaration}
use Rattle.swift_core.specs.declared.table.Signature.{Signature}
use Rattle.swift_core.specs.declared.table.Kind.{Kind}
use Rattle.swift_core.specs.declared.table.Kind.TheVariants as kind
use Rattle.type_base.specs.declared.scope.Local.{Local}
use Rattle.type_base.specs.Context.{Context, Innermost, last_at}
use Rattle.type_base.specs.Claims.{Reads, and_then, Then, when, reads_then, reads_when, reads_is, reads_pair, not_decides, or_decides}
use Rattle.type_base.specs.Innermosts.{reads_last, none_so, last_sound}
use Rattle.std.proofs.lemmas.Bool.{ltb-true, ltb-false}
use denote.Ref.{Bor}

-- the name that names nothing
unfoldable pub underscore : List ℕ
underscore = codes "_"

-- whether a local has the name
abbrev pub is_named : List ℕ → Local → Bool
is_named w l = bytes_eq l.name w

-- the innermost local of the name, and its place
unfoldable pub IsLocal : List ℕ → Context → ℕ × Local → Type 0
IsLocal w cx found = (w ≢ underscore) × Innermost (λ (l : Local). l.name ≡ w) cx.locals found.0 found.1

unfoldable pub local_of : List ℕ → Context → Option (ℕ × Local)
local_of w cx = when (not (bytes_eq w underscore)) (last_at (is_named w) cx.locals)

-- the declaration of the name, and its number
unfoldable pub IsDeclaration : List ℕ → Table → ℕ × Declaration → Type 0
IsDeclaration w table found = (fin.get table.names w ≡ Some found.0) × (slice_get table.declarations found.0 ≡ Some found.1)

unfoldable pub declaration_of : List ℕ → Table → Option (ℕ × Declaration)
declaration_of w table = and_then (fin.get table.names w) (λ d. and_then {B = ℕ × Declaration} (slice_get table.declarations d) (λ declaration. Some (d, declaration)))

-- the member of the name in a declaration, and its place
unfoldable pub IsMember : List ℕ → Declaration → ℕ × Signature → Type 0
IsMember w declaration found = (fin.get declaration.names w ≡ Some found.0) × (slice_get declaration.members found.0 ≡ Some found.1)

unfoldable pub member_of : List ℕ → Declaration → Option (ℕ × Signature)
member_of w declaration = and_then (fin.get declaration.names w) (λ m. and_then {B = ℕ × Signature} (slice_get declaration.members m) (λ member. Some (m, member)))

-- the declaration whose member the code belongs to, and its number
unfoldable pub IsOwner : Context → ℕ × Declaration → Type 0
IsOwner cx found = (cx.owner ≡ Some found.0) × (slice_get cx.table.declarations found.0 ≡ Some found.1)

unfoldable pub owner_of : Context → Option (ℕ × Declaration)
owner_of cx = and_then cx.owner (λ d. and_then {B = ℕ × Declaration} (slice_get cx.table.declarations d) (λ declaration. Some (d, declaration)))

-- the member of `self` of the name, and its place
unfoldable pub IsOwn : List ℕ → Context → ℕ × Signature → Type 0
IsOwn w cx = Then (IsOwner cx) (λ owner. IsMember w owner.1)

unfoldable pub own_of : List ℕ → Context → Option (ℕ × Signature)
own_of w cx = and_then (owner_of cx) (λ owner. member_of w owner.1)

-- a data struct or an enum, whose values are data
abbrev pub is_data : Kind → Bool
is_data (kind.Data identifiable) = true
is_data (kind.Enum iterable cases) = true
is_data _ = false

-- no local of the innermost scope has the name; `_` may stand again
unfoldable pub IsNew : List ℕ → Context → Type 0
IsNew w cx = (w ≡ underscore) ⊎ ((j : ℕ) (l : Local) → cx.floor ≤ j → slice_get cx.locals j ≡ Some l → l.name ≡ w → ⊥)

-- it stands below the floor, if it stands at all
abbrev pub is_below : ℕ → Option (ℕ × Local) → Bool
is_below floor None = true
is_below floor (Some found) = nat_lt found.0 floor

unfoldable pub is_new : List ℕ → Context → Bool
is_new w cx = bytes_eq w underscore || is_below cx.floor (last_at (is_named w) cx.locals)

-- a reference to what was found, with its place
abbrev pub Found : {A : Type 0} → Option (ℕ × Bor A) → Option (ℕ × A) → Type 0
Found None found = found ≡ None
Found (Some r) found = found ≡ Some (r.0, r.1.now)

-- ---- laws

pub local_exact : (w : List ℕ) (cx : Context) → Reads (local_of w cx) (IsLocal w cx)
unfolding local_of IsLocal
local_exact w cx = reads_when (not_decides (bytes_eq-Decides w underscore)) (reads_last _ _ (λ l. bytes_eq-Decides l.name w) cx.locals)

pub declaration_exact : (w : List ℕ) (table : Table) → Reads (declaration_of w table) (IsDeclaration w table)
unfolding declaration_of IsDeclaration
declaration_exact w table = reads_pair (reads_is _) (λ d. reads_is _)

pub member_exact : (w : List ℕ) (declaration : Declaration) → Reads (member_of w declaration) (IsMember w declaration)
unfolding member_of IsMember
member_exact w declaration = reads_pair (reads_is _) (λ m. reads_is _)

pub owner_exact : (cx : Context) → Reads (owner_of cx) (IsOwner cx)
unfolding owner_of IsOwner
owner_exact cx = reads_pair (reads_is _) (λ d. reads_is _)

pub own_exact : (w : List ℕ) (cx : Context) → Reads (own_of w cx) (IsOwn w cx)
unfolding own_of IsOwn
own_exact w cx = reads_then (owner_exact cx) (λ owner. member_exact w owner.1)

not_at_least_at : (a b : ℕ) (c : Bool) → nat_lt a b ≡ c → (b ≤ a → ⊥) → nat_lt a b ≡ true
not_at_least_at a b true e h = e
not_at_least_at a b false e h = absurd (h (ltb-false a b e))

not_at_least : (a b : ℕ) → (b ≤ a → ⊥) → nat_lt a b ≡ true
not_at_least a b h = not_at_least_at a b (nat_lt a b) refl h

below_of : (w : List ℕ) (cx : Context) (o : Option (ℕ × Local)) → last_at (is_named w) cx.locals ≡ o
    → (is_below cx.floor o ≡ true) ↔ ((j : ℕ) (l : Local) → cx.floor ≤ j → slice_get cx.locals j ≡ Some l → l.name ≡ w → ⊥)
below_of w cx None e = (λ t j l le s n. none_so (is_named w) (λ (l : Local). l.name ≡ w) (λ l. bytes_eq-Decides l.name w) cx.locals e j l s n, λ h. refl)
below_of w cx (Some r) e =
    let found = last_sound (is_named w) (λ (l : Local). l.name ≡ w) (λ l. bytes_eq-Decides l.name w) cx.locals r.0 r.1 e in
    (λ t j l le s n. let lt = ltb-true r.0 cx.floor t in found.none_after j l (omega arith) s n, λ h. not_at_least r.0 cx.floor (λ le. h r.0 r.1 le found.stands found.is_so))

pub new_decides : (w : List ℕ) (cx : Context) → (is_new w cx ≡ true) ↔ IsNew w cx
unfolding is_new IsNew
new_decides w cx = or_decides (bytes_eq-Decides w underscore) (below_of w cx (last_at (is_named w) cx.locals) refl)
