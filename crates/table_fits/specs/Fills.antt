-- The table in which the types of properties and keys without a written type are found is a table of the source file.
use Rattle.std.specs.Prelude.{◌≡◌, ◌⊎◌, ℕ, zero, suc, List, [], ◌∷◌, Option, Some, None, length, map, slice_get}
use Rattle.std.proofs.Common.{refl, ap, ◌∙◌, inl, inr}
use Rattle.swift_ast.specs.declared.piece.Source.{Source}
use Rattle.swift_core.specs.declared.table.Declaration.{Declaration}
use Rattle.swift_core.specs.declared.table.EnvironmentKey.{EnvironmentKey}
use Rattle.swift_core.specs.declared.table.Signature.{Signature}
use Rattle.swift_core.specs.declared.table.SignatureForm.{SignatureForm}
use Rattle.swift_core.specs.declared.table.SignatureForm.TheVariants as form
use Rattle.swift_core.specs.declared.table.Table.{Table}
use Rattle.swift_core.specs.declared.ty.Ty.{Ty}
use Rattle.type_table.specs.Tables.{is_enabled, environment, preferences, table_of}
use Rattle.known_rules.specs.Known.{Open, opens, changed_at, filled_form, filled, filled_declaration, filled_key, typed_at, with_type, found, turn, forwards, backwards, next, rounds, completed}
use Rattle.table_names.specs.Tables.{IsTableOf, bare_form, bare_signature, bare_declaration, bare_key, bare_table, written_is}

-- ---- a change at one place of a list

pub map_changed : {X Z : Type 0} (b : X → Z) (f : X → X) → ((x : X) → b (f x) ≡ b x) → (xs : List X) (i : ℕ) → map b (changed_at f xs i) ≡ map b xs
map_changed b f is [] i = refl
map_changed b f is (x ∷ xs) zero = ap (λ y. y ∷ map b xs) (is x)
map_changed b f is (x ∷ xs) (suc i) = ap (λ ys. b x ∷ ys) (map_changed b f is xs i)

-- what stands in the changed list: what stood there, or what the change makes of it
abbrev pub Changed : {X : Type 0} → (X → X) → List X → ℕ → ℕ → X → Type 0
Changed {X = X} f xs i j y = (x : X) × (slice_get xs j ≡ Some x) × ((y ≡ x) ⊎ ((i ≡ j) × (y ≡ f x)))

pub get_changed : {X : Type 0} (f : X → X) (xs : List X) (i j : ℕ) (y : X) → slice_get (changed_at f xs i) j ≡ Some y → Changed f xs i j y
get_changed f [] i j y e = cc
get_changed f (x ∷ xs) zero zero y e = let h : y ≡ f x = cc in (x, refl, inr (refl, h))
get_changed f (x ∷ xs) zero (suc j) y e = (y, e, inl refl)
get_changed f (x ∷ xs) (suc i) zero y e = let h : y ≡ x = cc in (x, refl, inl h)
get_changed f (x ∷ xs) (suc i) (suc j) y e =
    let r = get_changed f xs i j y e in
    (r.0, r.1, elim r.2 [ inl h ↦ inl h | inr h ↦ inr (ap suc h.0, h.1) ])

-- ---- nothing changes but types

form_bare : (f : SignatureForm) (t : Ty) → bare_form (filled_form f t) ≡ bare_form f
form_bare (form.Stored n b None a) t = refl
form_bare (form.Stored n b (Some u) a) t = refl
form_bare (form.State n None a) t = refl
form_bare (form.State n (Some u) a) t = refl
form_bare (form.Static None) t = refl
form_bare (form.Static (Some u)) t = refl
form_bare (form.Binding n o) t = refl
form_bare (form.Environment n) t = refl
form_bare (form.Case n) t = refl
form_bare (form.Computed o) t = refl
form_bare (form.Function ps o m) t = refl
form_bare form.BuilderProperty t = refl
form_bare (form.BuilderFunction ps) t = refl
form_bare form.Reduce t = refl
form_bare form.Unfit t = refl

signature_bare : (t : Ty) (s : Signature) → bare_signature (filled t s) ≡ bare_signature s
signature_bare t s = λ i. record { name = s.name; code = s.code; form = form_bare s.form t i }

declaration_bare : (at : ℕ) (t : Ty) (d : Declaration) → bare_declaration (filled_declaration at t d) ≡ bare_declaration d
declaration_bare at t d = λ i. record { name = d.name; kind = d.kind; is_main = d.is_main; members = map_changed bare_signature (filled t) (signature_bare t) d.members at i; names = d.names }

typed_bare : (table : Table) (d : Option ℕ) (at : ℕ) (t : Ty) → bare_table (typed_at table d at t) ≡ bare_table table
typed_bare table None at t = λ i. record {
  declarations = map bare_declaration table.declarations;
  environment = map_changed bare_key (filled_key t) (λ k. refl) table.environment at i;
  preferences = [];
  members = table.members;
  names = table.names;
  keys = table.keys;
}
typed_bare table (Some d) at t = λ i. record {
  declarations = map_changed bare_declaration (filled_declaration at t) (declaration_bare at t) table.declarations d i;
  environment = map bare_key table.environment;
  preferences = [];
  members = table.members;
  names = table.names;
  keys = table.keys;
}

with_bare : (table : Table) (o : Open) (t : Option Ty) → bare_table (with_type table o t) ≡ bare_table table
with_bare table o None = refl
with_bare table o (Some t) = typed_bare table o.declaration o.at t

turn_bare : (table : Table) (o : Open) → bare_table (turn table o) ≡ bare_table table
unfolding turn
turn_bare table o = with_bare table o (found table o)

forwards_bare : (table : Table) (os : List Open) → bare_table (forwards table os) ≡ bare_table table
forwards_bare table [] = refl
forwards_bare table (o ∷ os) = forwards_bare (turn table o) os ∙ turn_bare table o

backwards_bare : (table : Table) (os : List Open) → bare_table (backwards table os) ≡ bare_table table
backwards_bare table [] = refl
backwards_bare table (o ∷ os) = turn_bare (backwards table os) o ∙ backwards_bare table os

next_bare : (os : List Open) (table : Table) → bare_table (next os table) ≡ bare_table table
unfolding next
next_bare os table = backwards_bare (forwards table os) os ∙ forwards_bare table os

rounds_bare : (os : List Open) (n : ℕ) (table : Table) → bare_table (rounds os n table) ≡ bare_table table
rounds_bare os zero table = refl
rounds_bare os (suc n) table = next_bare os (rounds os n table) ∙ rounds_bare os n table

-- ---- what stays through a round, stays

-- a property of tables that stays when one of these gets a type
abbrev pub Stays : (Table → Type 0) → List Open → Type 0
Stays P os = (i : ℕ) (o : Open) (table : Table) → slice_get os i ≡ Some o → P table → P (turn table o)

module _ (P : Table → Type 0) where
  forwards_stays : (os : List Open) → Stays P os → (table : Table) → P table → P (forwards table os)
  forwards_stays [] h table p = p
  forwards_stays (o ∷ os) h table p = forwards_stays os (λ i. h (suc i)) (turn table o) (h zero o table refl p)

  backwards_stays : (os : List Open) → Stays P os → (table : Table) → P table → P (backwards table os)
  backwards_stays [] h table p = p
  backwards_stays (o ∷ os) h table p = h zero o (backwards table os) refl (backwards_stays os (λ i. h (suc i)) table p)

  next_stays : (os : List Open) → Stays P os → (table : Table) → P table → P (next os table)
  unfolding next
  next_stays os h table p = backwards_stays os h (forwards table os) (forwards_stays os h table p)

  pub rounds_stay : (os : List Open) → Stays P os → (n : ℕ) (table : Table) → P table → P (rounds os n table)
  rounds_stay os h zero table p = p
  rounds_stay os h (suc n) table p = next_stays os h (rounds os n table) (rounds_stay os h n table p)

-- ---- key 0

abbrev HasEnabled : Table → Type 0
HasEnabled table = slice_get table.environment 0 ≡ Some is_enabled

enabled_at : (ks : List EnvironmentKey) (at : ℕ) (t : Ty) → slice_get ks 0 ≡ Some is_enabled → slice_get (changed_at (filled_key t) ks at) 0 ≡ Some is_enabled
enabled_at [] at t e = cc
enabled_at (k ∷ ks) zero t e = let h : k ≡ is_enabled = cc in ap (λ x. Some (filled_key t x)) h
enabled_at (k ∷ ks) (suc at) t e = e

enabled_typed : (table : Table) (d : Option ℕ) (at : ℕ) (t : Ty) → HasEnabled table → HasEnabled (typed_at table d at t)
enabled_typed table None at t e = enabled_at table.environment at t e
enabled_typed table (Some d) at t e = e

enabled_with : (table : Table) (o : Open) (t : Option Ty) → HasEnabled table → HasEnabled (with_type table o t)
enabled_with table o None e = e
enabled_with table o (Some t) e = enabled_typed table o.declaration o.at t e

enabled_turn : (table : Table) (o : Open) → HasEnabled table → HasEnabled (turn table o)
unfolding turn
enabled_turn table o e = enabled_with table o (found table o) e

-- The table with the types of all initial values is a table of the source file.
abbrev pub CompletedIs : Type 0
CompletedIs = (source : Source) → IsTableOf source (completed source (table_of source))

pub completed_is : CompletedIs
unfolding completed
completed_is source =
    let os = opens source in let w = written_is source in
    record {
      bare = rounds_bare os (length os) (table_of source);
      preferred = refl;
      enabled = rounds_stay HasEnabled os (λ i o table s e. enabled_turn table o e) (length os) (table_of source) w.enabled;
    }
