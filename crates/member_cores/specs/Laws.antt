-- What holds of all members and defaults of environment keys.
use Rattle.std.specs.Prelude.{◌≡◌, [], Some, None}
use Rattle.std.proofs.Common.{refl, ap, subst, ◌∙◌}
use Rattle.swift_ast.specs.declared.piece.Entry.{Entry}
use Rattle.swift_ast.specs.declared.piece.MemberForm.{MemberForm}
use Rattle.swift_core.specs.Typing.{FitsKey, IsMain, IsTypedAt}
use Rattle.swift_core.specs.declared.code.CodeForm.TheVariants as code
use Rattle.swift_core.specs.declared.code.CoreMember.{CoreMember}
use Rattle.swift_core.specs.declared.table.EnvironmentKey.{EnvironmentKey}
use Rattle.swift_core.specs.declared.table.MemberPlace.{MemberPlace}
use Rattle.swift_core.specs.declared.table.SignatureForm.{SignatureForm}
use Rattle.swift_core.specs.declared.table.Table.{Table}
use Rattle.type_base.specs.declared.scope.Stance.TheVariants as stance
use Rattle.member_rules.specs.Shapes.{code_of, inside}
use Rattle.member_rules.specs.Members.{MemberOf, TypedAt, TypedEntry}
use Rattle.expr_cores.specs.Contexts.{Fits}
use Rattle.post_cores.specs.Members.{found_so}
use Rattle.value_cores.specs.Values.{wanted_good}
use Rattle.member_cores.specs.Asked.{FormsStand, StartsAt}
use Rattle.member_cores.specs.Members.{member_good, fits_form}

-- a member of a declaration
abbrev pub MembersTyped : Type 0
MembersTyped = (table : Table) (place : MemberPlace) (f : MemberForm) (m : CoreMember) → Fits table → FormsStand table → StartsAt table place f
    → TypedAt table place f m → IsTypedAt table m place

-- the default of an environment key
abbrev pub DefaultsTyped : Type 0
DefaultsTyped = (table : Table) (place : MemberPlace) (x : Entry) (m : CoreMember) → Fits table → place.declaration ≡ None → TypedEntry table place x m → IsTypedAt table m place

pub members_typed : MembersTyped
unfolding TypedAt
members_typed table place f m fit stand starts (n, (d, pd, (owner, so, (s, ss, h)))) =
    IsTypedAt.typed_member pd so ss
    (stand d place.at owner s so ss (λ e. fits_form table (Some d) owner.kind f m (subst (λ (F : SignatureForm). MemberOf table (Some d) owner.kind F f m) e h)))
    (member_good table fit d owner so s place.at ss f m (starts d owner s pd so ss) h)

pub defaults_typed : DefaultsTyped
unfolding TypedEntry
defaults_typed table place x m fit none (n, (t, e, (c, w, q))) =
    IsTypedAt.typed_key none (found_so (FitsKey table place.at m) e (λ (key : EnvironmentKey) sk ty_is.
    FitsKey.default_value sk ty_is (IsMain.main {c = code_of [] (code.Value c)} (ap (λ (y : CoreMember). y.code) q) refl refl refl refl) (wanted_good x.value t m.blocks (inside table None stance.Outside) c fit w)))
