-- Which properties and keys have no type in a table.
use Rattle.std.specs.Prelude.{ℕ, Bool, true, false, Option, Some, None, slice_get}
use Rattle.swift_core.specs.declared.ty.Ty.{Ty}
use Rattle.swift_core.specs.declared.table.Table.{Table}
use Rattle.swift_core.specs.declared.table.Declaration.{Declaration}
use Rattle.swift_core.specs.declared.table.Signature.{Signature}
use Rattle.swift_core.specs.declared.table.SignatureForm.{SignatureForm}
use Rattle.swift_core.specs.declared.table.SignatureForm.TheVariants as form
use Rattle.swift_core.specs.declared.table.EnvironmentKey.{EnvironmentKey}
use Rattle.known_rules.specs.Known.{Open}

abbrev pub blank_form : SignatureForm → Bool
blank_form (form.Stored n b None a) = true
blank_form (form.State n None a) = true
blank_form (form.Static None) = true
blank_form _ = false

abbrev pub blank_type : Option Ty → Bool
blank_type None = true
blank_type (Some t) = false

abbrev pub blank_signature : Signature → Bool
blank_signature s = blank_form s.form

abbrev pub blank_key : EnvironmentKey → Bool
blank_key k = blank_type k.ty

abbrev pub if_some : {X : Type 0} → (X → Bool) → Option X → Bool
if_some p None = false
if_some p (Some x) = p x

abbrev pub blank_member : ℕ → Declaration → Bool
blank_member at d = if_some blank_signature (slice_get d.members at)

abbrev pub blank_at : Table → Option ℕ → ℕ → Bool
blank_at table None at = if_some blank_key (slice_get table.environment at)
blank_at table (Some d) at = if_some (blank_member at) (slice_get table.declarations d)

-- the property or the key has no type
abbrev pub is_blank : Table → Open → Bool
is_blank table o = blank_at table o.declaration o.at
