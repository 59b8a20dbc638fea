-- Where a number of code leads in the table, and whose frame the code there may use.
use Rattle.std.specs.Prelude.{ℕ, zero, suc, ◌==◌, Bool, true, false, cond, Option, Some, None, slice_get, option_and_then}
use Rattle.swift_core.specs.Context.{Itself}
use Rattle.swift_core.specs.Typing.{itself_in, itself_in_function}
use Rattle.swift_core.specs.declared.code.CodeForm.{CodeForm}
use Rattle.swift_core.specs.declared.code.CodeForm.TheVariants as code
use Rattle.swift_core.specs.declared.table.Declaration.{Declaration}
use Rattle.swift_core.specs.declared.table.EnvironmentKey.{EnvironmentKey}
use Rattle.swift_core.specs.declared.table.Kind.{Kind}
use Rattle.swift_core.specs.declared.table.MemberPlace.{MemberPlace}
use Rattle.swift_core.specs.declared.table.Signature.{Signature}
use Rattle.swift_core.specs.declared.table.SignatureForm.{SignatureForm}
use Rattle.swift_core.specs.declared.table.SignatureForm.TheVariants as form
use Rattle.swift_core.specs.declared.table.Table.{Table}
use Rattle.code_tests.specs.declared.codes.Found.{Found}
use Rattle.code_tests.specs.declared.codes.Home.{Home}
use Rattle.code_tests.specs.declared.codes.Home.TheVariants as home

-- ---- the table

-- A member, with the declaration that has it.
pub record Owned : Type 0 where
  pub owner : ℕ
  pub declaration : Declaration
  pub sign : Signature

-- the place of the table for this number: number 0 is that of the built-in key
abbrev pub place_at : Table → ℕ → Option MemberPlace
place_at table zero = None
place_at table (suc i) = slice_get table.members i

-- a signature of the number
abbrev pub own_sign : ℕ → ℕ → Declaration → Option Signature → Option Owned
own_sign n d x None = None
own_sign n d x (Some s) = cond (s.code.number == n) (Some (record { owner = d; declaration = x; sign = s })) None

abbrev pub sign_in : ℕ → ℕ → ℕ → Option Declaration → Option Owned
sign_in n at d None = None
sign_in n at d (Some x) = own_sign n d x (slice_get x.members at)

abbrev pub sign_of : Table → ℕ → ℕ → Option ℕ → Option Owned
sign_of table n at None = None
sign_of table n at (Some d) = sign_in n at d (slice_get table.declarations d)

abbrev pub sign_there : Table → ℕ → Option MemberPlace → Option Owned
sign_there table n None = None
sign_there table n (Some place) = sign_of table n place.at place.declaration

-- the member whose code has this number
unfoldable pub sign_at : Table → ℕ → Option Owned
sign_at table n = sign_there table n (place_at table n)

-- it, as it is lent
abbrev pub owned : Option Found → Option Owned
owned None = None
owned (Some f) = Some (record { owner = f.owner; declaration = f.declaration.now; sign = f.sign.now })

abbrev pub key_number : ℕ → Option EnvironmentKey → Bool
key_number n None = false
key_number n (Some key) = key.default.number == n

abbrev pub key_of : Table → ℕ → ℕ → Option ℕ → Bool
key_of table n at None = key_number n (slice_get table.environment at)
key_of table n at (Some d) = false

abbrev pub key_there : Table → ℕ → Option MemberPlace → Bool
key_there table n None = n == 0
key_there table n (Some place) = key_of table n place.at place.declaration

-- the number is that of the default of an environment key
unfoldable pub is_default : Table → ℕ → Bool
is_default table n = key_there table n (place_at table n)

-- ---- whose frame

-- that of a view, or none
abbrev pub view_in : Home → Option ℕ
view_in (home.View d) = Some d
view_in home.Nowhere = None

abbrev pub views_of : Option Home → Option (Option ℕ)
views_of None = None
views_of (Some h) = Some (view_in h)

-- by what `self` is in a member of this declaration, where it is no value
abbrev pub view_where : ℕ → Itself → Option (Option ℕ)
view_where d Itself.no_self = Some None
view_where d Itself.a_view = Some (Some d)
view_where d Itself.a_value = None
view_where d Itself.a_changed_value = None

-- what `self` is in a member that gives a value
abbrev pub itself_of : Kind → SignatureForm → Option Itself
itself_of k (form.Stored n b t a) = Some Itself.no_self
itself_of k (form.State n t a) = Some Itself.no_self
itself_of k (form.Static t) = Some Itself.no_self
itself_of k (form.Computed t) = Some (itself_in k)
itself_of k (form.Function ps (Some t) mutating) = Some (itself_in_function mutating k)
itself_of k form.Reduce = Some Itself.no_self
itself_of k other = None

-- in a property that gives views
abbrev pub itself_of_property : Kind → SignatureForm → Option Itself
itself_of_property k form.BuilderProperty = Some (itself_in k)
itself_of_property k other = None

-- in a member that gives views
abbrev pub itself_of_views : Kind → SignatureForm → Option Itself
itself_of_views k form.BuilderProperty = Some (itself_in k)
itself_of_views k (form.BuilderFunction ps) = Some (itself_in k)
itself_of_views k other = None

abbrev pub value_in : Option Owned → Option (Option ℕ)
value_in None = None
value_in (Some x) = option_and_then (view_where x.owner) (itself_of x.declaration.kind x.sign.form)

-- the default of a key has none
abbrev pub or_nowhere : Bool → Option (Option ℕ) → Option (Option ℕ)
or_nowhere true o = Some None
or_nowhere false o = o

-- the code of this number, if it gives a value
unfoldable pub value_view : Table → ℕ → Option (Option ℕ)
value_view table n = or_nowhere (is_default table n) (value_in (sign_at table n))

abbrev pub property_in : Option Owned → Option (Option ℕ)
property_in None = None
property_in (Some x) = option_and_then (view_where x.owner) (itself_of_property x.declaration.kind x.sign.form)

-- the code of this number, if it is that of a property that gives views
unfoldable pub property_view : Table → ℕ → Option (Option ℕ)
property_view table n = property_in (sign_at table n)

abbrev pub views_in : Option Owned → Option (Option ℕ)
views_in None = None
views_in (Some x) = option_and_then (view_where x.owner) (itself_of_views x.declaration.kind x.sign.form)

-- the blocks of the member of this number, if it gives views
unfoldable pub views_view : Table → ℕ → Option (Option ℕ)
views_view table n = views_in (sign_at table n)

-- ---- blocks

abbrev pub is_statements : CodeForm → Bool
is_statements (code.Statements ss) = true
is_statements other = false

abbrev pub is_builder : CodeForm → Bool
is_builder (code.Builder is) = true
is_builder other = false
