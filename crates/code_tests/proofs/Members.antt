-- What stands in the table of a program, by the number of its code.
use Rattle.std.specs.Prelude.{◌==◌}
use Rattle.std.proofs.Common.{◌≡◌, ℕ, zero, suc, ◌<◌, Bool, true, false, cond, List, [], ◌∷◌, length, Option, Some, None, slice_get, refl, sym, ap, subst, ◌∙◌, arith}
use Rattle.std.proofs.lemmas.Bool.Decides.{Decides-eqb}
use Rattle.swift_core.specs.Context.{HasMember}
use Rattle.swift_core.specs.Programs.{IsProgram, StandsAt, DefaultStands}
use Rattle.swift_core.specs.Typing.{FitsSignature, stands_in}
use Rattle.swift_core.specs.declared.code.CoreMember.{CoreMember}
use Rattle.swift_core.specs.declared.table.Declaration.{Declaration}
use Rattle.swift_core.specs.declared.table.EnvironmentKey.{EnvironmentKey}
use Rattle.swift_core.specs.declared.table.MemberPlace.{MemberPlace}
use Rattle.swift_core.specs.declared.table.Signature.{Signature}
use Rattle.swift_core.specs.declared.table.Table.{Table}
use Rattle.world_fits.specs.Codes.{member_of}
use Rattle.world_fits.specs.Lists.{some_same}
use Rattle.code_tests.specs.Homes.{Owned, place_at, own_sign, sign_in, sign_of, sign_there, sign_at, key_number, key_of, key_there, is_default}

pub at_there : {X : Type 0} (xs : List X) (i : ℕ) → i < length xs → (x : X) × (slice_get xs i ≡ Some x)
at_there [] i h = absurd (omega (arith, h))
at_there (x ∷ xs) zero h = (x, refl)
at_there (x ∷ xs) (suc i) h = at_there xs i (omega (arith, h))

-- ---- what is found is a member

pub record Stands (table : Table) (n : ℕ) (x : Owned) : Type 0 where
  pub declared : slice_get table.declarations x.owner ≡ Some x.declaration
  pub has : HasMember table x.owner x.sign
  pub number : x.sign.code.number ≡ n

by_number : (table : Table) (n at d : ℕ) (y : Declaration) (s : Signature) (x : Owned) → slice_get table.declarations d ≡ Some y → slice_get y.members at ≡ Some s → (b : Bool) → (s.code.number == n) ≡ b
    → cond b (Some (record { owner = d; declaration = y; sign = s })) None ≡ Some x → Stands table n x
by_number table n at d y s x there stands true is e =
    let own : Owned = record { owner = d; declaration = y; sign = s } in
    subst (Stands table n) (some_same own x e) (record { declared = there; has = HasMember.member at there stands; number = (Decides-eqb s.code.number n).0 is })
by_number table n at d y s x there stands false is e = absurd (cc e)

by_sign : (table : Table) (n at d : ℕ) (y : Declaration) (x : Owned) → slice_get table.declarations d ≡ Some y → (o : Option Signature) → slice_get y.members at ≡ o → own_sign n d y o ≡ Some x → Stands table n x
by_sign table n at d y x there None stands e = absurd (cc e)
by_sign table n at d y x there (Some s) stands e = by_number table n at d y s x there stands (s.code.number == n) refl e

by_declaration : (table : Table) (n at d : ℕ) (x : Owned) (o : Option Declaration) → slice_get table.declarations d ≡ o → sign_in n at d o ≡ Some x → Stands table n x
by_declaration table n at d x None there e = absurd (cc e)
by_declaration table n at d x (Some y) there e = by_sign table n at d y x there (slice_get y.members at) refl e

by_owner : (table : Table) (n at : ℕ) (x : Owned) (o : Option ℕ) → sign_of table n at o ≡ Some x → Stands table n x
by_owner table n at x None e = absurd (cc e)
by_owner table n at x (Some d) e = by_declaration table n at d x (slice_get table.declarations d) refl e

by_place : (table : Table) (n : ℕ) (x : Owned) (o : Option MemberPlace) → sign_there table n o ≡ Some x → Stands table n x
by_place table n x None e = absurd (cc e)
by_place table n x (Some place) e = by_owner table n place.at x place.declaration e

pub sign_is : (table : Table) (n : ℕ) (x : Owned) → sign_at table n ≡ Some x → Stands table n x
unfolding sign_at
sign_is table n x e = by_place table n x (place_at table n) e

-- ---- a member is found

decided : (n m : ℕ) (x : Owned) → m ≡ n → cond (m == n) (Some x) None ≡ Some x
decided n m x e = ap (λ (b : Bool). cond b (Some x) None) ((Decides-eqb m n).1 e)

found_at : (table : Table) (d at : ℕ) (declaration : Declaration) (s : Signature) (n k : ℕ) (o : Option ℕ) (i : ℕ) → slice_get table.declarations d ≡ Some declaration → slice_get declaration.members at ≡ Some s
    → StandsAt table k o i → s.code.number ≡ n → k ≡ n → o ≡ Some d → i ≡ at → sign_at table n ≡ Some (record { owner = d; declaration = declaration; sign = s })
unfolding sign_at
found_at table d at declaration s n k o i declared there (StandsAt.stands_at {i = j} {place = place} e) number is of same =
    ap (sign_at table) (sym is) ∙ ap (sign_there table (suc j)) e ∙ ap (sign_of table (suc j) place.at) of ∙ ap (sign_in (suc j) place.at d) declared
    ∙ ap (λ (m : ℕ). own_sign (suc j) d declaration (slice_get declaration.members m)) same ∙ ap (own_sign (suc j) d declaration) there
    ∙ decided (suc j) s.code.number (record { owner = d; declaration = declaration; sign = s }) (number ∙ sym is)

pub sign_found : (table : Table) (members : List CoreMember) → IsProgram table members → (d : ℕ) (declaration : Declaration) (s : Signature) (n : ℕ) → slice_get table.declarations d ≡ Some declaration → HasMember table d s
    → s.code.number ≡ n → sign_at table n ≡ Some (record { owner = d; declaration = declaration; sign = s })
sign_found table members program d declaration s n declared (HasMember.member {declaration = other} at there stands) number =
    let same : other ≡ declaration = some_same other declaration (sym there ∙ declared) in
    found_at table d at declaration s n s.code.number (Some d) at declared (subst (λ (x : Declaration). slice_get x.members at ≡ Some s) same stands)
    (program.codes d other at s there stands) number number refl refl

-- ---- the defaults of keys

pub record Default (table : Table) (n : ℕ) : Type 0 where
  pub key : ℕ
  pub declared : EnvironmentKey
  pub there : slice_get table.environment key ≡ Some declared
  pub number : declared.default.number ≡ n

found_key : (table : Table) (k : ℕ) (o : Option ℕ) (i : ℕ) → StandsAt table k o i → (key : EnvironmentKey) (n : ℕ) → slice_get table.environment i ≡ Some key → key.default.number ≡ n → k ≡ n → o ≡ None
    → is_default table n ≡ true
unfolding is_default
found_key table k o i (StandsAt.stands_at {i = j} {place = place} e) key n there number is none =
    ap (is_default table) (sym is) ∙ ap (key_there table (suc j)) e ∙ ap (key_of table (suc j) place.at) none ∙ ap (key_number (suc j)) there
    ∙ (Decides-eqb key.default.number (suc j)).1 (number ∙ sym is)

found_default : (table : Table) (m k : ℕ) → DefaultStands table m k → (key : EnvironmentKey) (n : ℕ) → slice_get table.environment k ≡ Some key → key.default.number ≡ n → m ≡ n → is_default table n ≡ true
unfolding is_default
found_default table m k DefaultStands.built_in_default key n there number is = ap (is_default table) (sym is)
found_default table m k (DefaultStands.own_default {k = i} at) key n there number is = found_key table m None (suc i) at key n there number is refl

pub default_found : (table : Table) (members : List CoreMember) → IsProgram table members → (k : ℕ) (key : EnvironmentKey) (n : ℕ) → slice_get table.environment k ≡ Some key → key.default.number ≡ n → is_default table n ≡ true
default_found table members program k key n there number = found_default table key.default.number k (program.key_codes k key there) key n there number number

-- a member's number is none
other_place : (table : Table) (k : ℕ) (o : Option ℕ) (i : ℕ) → StandsAt table k o i → (d n : ℕ) → k ≡ n → o ≡ Some d → is_default table n ≡ false
unfolding is_default
other_place table k o i (StandsAt.stands_at {i = j} {place = place} e) d n is of =
    ap (is_default table) (sym is) ∙ ap (key_there table (suc j)) e ∙ ap (key_of table (suc j) place.at) of

pub no_default : (table : Table) (members : List CoreMember) → IsProgram table members → (d : ℕ) (s : Signature) (n : ℕ) → HasMember table d s → s.code.number ≡ n → is_default table n ≡ false
no_default table members program d s n (HasMember.member {declaration = declaration} at there stands) number = other_place table s.code.number (Some d) at (program.codes d declaration at s there stands) d n number refl

built_in : (table : Table) (m k : ℕ) → DefaultStands table m k → k ≡ 0 → m ≡ 0
built_in table m k DefaultStands.built_in_default e = refl
built_in table m k (DefaultStands.own_default {k = i} at) e = absurd (omega (arith, e))

key_default : (table : Table) (n at : ℕ) (o : Option EnvironmentKey) → slice_get table.environment at ≡ o → key_number n o ≡ true → Default table n
key_default table n at None there e = absurd (cc e)
key_default table n at (Some key) there e = record { key = at; declared = key; there = there; number = (Decides-eqb key.default.number n).0 e }

owned_default : (table : Table) (n at : ℕ) (o : Option ℕ) → key_of table n at o ≡ true → Default table n
owned_default table n at None e = key_default table n at (slice_get table.environment at) refl e
owned_default table n at (Some d) e = absurd (cc e)

placed_default : (table : Table) (members : List CoreMember) → IsProgram table members → (n : ℕ) (o : Option MemberPlace) → key_there table n o ≡ true → Default table n
placed_default table members program n None e =
    let zeroth = program.enabled in
    let number : zeroth.0.default.number ≡ 0 = built_in table zeroth.0.default.number 0 (program.key_codes 0 zeroth.0 zeroth.1) refl in
    record { key = 0; declared = zeroth.0; there = zeroth.1; number = number ∙ sym ((Decides-eqb n 0).0 e) }
placed_default table members program n (Some place) e = owned_default table n place.at place.declaration e

pub default_is : (table : Table) (members : List CoreMember) → IsProgram table members → (n : ℕ) → is_default table n ≡ true → Default table n
unfolding is_default
default_is table members program n e = placed_default table members program n (place_at table n) e

-- ---- with its code

pub record Typed (table : Table) (members : List CoreMember) (d : ℕ) (declaration : Declaration) (s : Signature) : Type 0 where
  pub member : CoreMember
  pub there : slice_get members s.code.number ≡ Some member
  pub stands : stands_in declaration.kind s.form ≡ true
  pub fits : FitsSignature table d declaration.kind member s.form

pub typed : (table : Table) (members : List CoreMember) → IsProgram table members → (d : ℕ) (declaration : Declaration) (s : Signature) → slice_get table.declarations d ≡ Some declaration → HasMember table d s
    → Typed table members d declaration s
typed table members program d declaration s declared has =
    let m = member_of table members program d s has in
    let same : m.declaration ≡ declaration = some_same m.declaration declaration (sym m.declared ∙ declared) in
    record {
      member = m.member;
      there = m.there;
      stands = subst (λ (x : Declaration). stands_in x.kind s.form ≡ true) same m.stands;
      fits = subst (λ (x : Declaration). FitsSignature table d x.kind m.member s.form) same m.fits;
    }
