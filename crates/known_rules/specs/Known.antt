-- The types of properties and environment keys without a written type: each has the type of its initial value.
-- After The Swift Programming Language, 'Type Annotations' and 'Type Inference'.
use Rattle.std.specs.Prelude.{◌≡◌, ℕ, zero, suc, ◌+◌, List, [], ◌∷◌, ◌++◌, Option, Some, None, length, if◌then◌else◌}
use Rattle.std.specs.Option.{option_map}
use Rattle.swift_ast.specs.declared.tree.Expr.{Expr}
use Rattle.swift_ast.specs.declared.type_name.TypeName.{TypeName}
use Rattle.swift_ast.specs.declared.piece.Source.{Source}
use Rattle.swift_ast.specs.declared.piece.Piece.{Piece}
use Rattle.swift_ast.specs.declared.piece.PieceForm.{PieceForm}
use Rattle.swift_ast.specs.declared.piece.PieceForm.TheVariants as piece
use Rattle.swift_ast.specs.declared.piece.StructBody.{StructBody}
use Rattle.swift_ast.specs.declared.piece.StructBody.TheVariants.{Members, LeftAside}
use Rattle.swift_ast.specs.declared.piece.Member.{Member}
use Rattle.swift_ast.specs.declared.piece.MemberForm.{MemberForm}
use Rattle.swift_ast.specs.declared.piece.MemberForm.TheVariants as member
use Rattle.swift_ast.specs.declared.piece.Entry.{Entry}
use Rattle.swift_core.specs.declared.ty.Ty.{Ty}
use Rattle.swift_core.specs.declared.term.Core.{Core}
use Rattle.swift_core.specs.declared.table.Table.{Table}
use Rattle.swift_core.specs.declared.table.Declaration.{Declaration}
use Rattle.swift_core.specs.declared.table.Signature.{Signature}
use Rattle.swift_core.specs.declared.table.SignatureForm.{SignatureForm}
use Rattle.swift_core.specs.declared.table.SignatureForm.TheVariants as form
use Rattle.swift_core.specs.declared.table.EnvironmentKey.{EnvironmentKey}
use Rattle.type_base.specs.Context.{Context}
use Rattle.type_base.specs.declared.scope.Stance.{Stance}
use Rattle.type_base.specs.declared.scope.Stance.TheVariants as stance
use Rattle.value_rules.specs.Values.{infer}
use Rattle.type_table.specs.Along.{narrow}
use Rattle.type_table.specs.Heads.{declares, entries_of}
use Rattle.type_table.specs.Tables.{preferences}

-- ---- what has no written type

-- a property or an environment key (without a declaration) by its place, and its initial value
pub record Open : Type 0 where
  pub declaration : Option ℕ
  pub at : ℕ
  pub value : Expr

abbrev pub untyped : Option TypeName → Option Expr → Option Expr
untyped (Some t) v = None
untyped None v = v

abbrev pub member_value_at : MemberForm → Option Expr
member_value_at (member.Stored b w t v) = untyped t v
member_value_at _ = None

-- the initial value of a property without a written type
abbrev pub member_value : Member → Option Expr
member_value m = member_value_at m.form

abbrev pub opens_if : Option ℕ → ℕ → Option Expr → List Open
opens_if d at None = []
opens_if d at (Some e) = record { declaration = d; at = at; value = e } ∷ []

abbrev pub member_opens : ℕ → ℕ → List Member → List Open
member_opens d at [] = []
member_opens d at (m ∷ ms) = opens_if (Some d) at (member_value m) ++ member_opens d (suc at) ms

-- the default of a key without a written type
abbrev pub entry_value : Entry → Option Expr
entry_value e = untyped e.declared (Some e.value)

abbrev pub entry_opens : ℕ → List Entry → List Open
entry_opens at [] = []
entry_opens at (e ∷ es) = opens_if None at (entry_value e) ++ entry_opens (narrow (suc at)) es

abbrev pub struct_opens : ℕ → StructBody → List Open
struct_opens d LeftAside = []
struct_opens d (Members ms) = member_opens d 0 ms

abbrev pub piece_opens : ℕ → ℕ → PieceForm → List Open
piece_opens d key (piece.Struct p) = struct_opens d p.body
piece_opens d key (piece.Environment es) = entry_opens key es
piece_opens d key _ = []

-- the pieces, of which the next declaration has the number d and the next key the number `key`
abbrev pub opens_from : ℕ → ℕ → List Piece → List Open
opens_from d key [] = []
opens_from d key (p ∷ ps) = piece_opens d key p.form ++ opens_from (d + (if declares p then 1 else 0)) (narrow (key + length (entries_of p))) ps

-- the properties and keys without a written type, in text order
unfoldable pub opens : Source → List Open
opens source = opens_from 0 1 source.pieces

-- ---- a type that is found

-- the element at a place is changed, if there is one
abbrev pub changed_at : {X : Type 0} → (X → X) → List X → ℕ → List X
changed_at f [] i = []
changed_at f (x ∷ xs) zero = f x ∷ xs
changed_at f (x ∷ xs) (suc i) = x ∷ changed_at f xs i

-- a property that has no type has this one
abbrev pub filled_form : SignatureForm → Ty → SignatureForm
filled_form (form.Stored n b None a) t = form.Stored n b (Some t) a
filled_form (form.State n None a) t = form.State n (Some t) a
filled_form (form.Static None) t = form.Static (Some t)
filled_form f t = f

abbrev pub filled : Ty → Signature → Signature
filled t s = record { name = s.name; code = s.code; form = filled_form s.form t }

abbrev pub filled_declaration : ℕ → Ty → Declaration → Declaration
filled_declaration at t d = record { name = d.name; kind = d.kind; is_main = d.is_main; members = changed_at (filled t) d.members at; names = d.names }

abbrev pub first_type : Option Ty → Ty → Option Ty
first_type (Some u) t = Some u
first_type None t = Some t

abbrev pub filled_key : Ty → EnvironmentKey → EnvironmentKey
filled_key t k = record { name = k.name; ty = first_type k.ty t; default = k.default }

abbrev pub with_declarations : Table → List Declaration → Table
with_declarations table ds = record { declarations = ds; environment = table.environment; preferences = table.preferences; members = table.members; names = table.names; keys = table.keys }

abbrev pub with_environment : Table → List EnvironmentKey → Table
with_environment table ks = record { declarations = table.declarations; environment = ks; preferences = table.preferences; members = table.members; names = table.names; keys = table.keys }

abbrev pub typed_at : Table → Option ℕ → ℕ → Ty → Table
typed_at table None at t = with_environment table (changed_at (filled_key t) table.environment at)
typed_at table (Some d) at t = with_declarations table (changed_at (filled_declaration at t) table.declarations d)

abbrev pub with_type : Table → Open → Option Ty → Table
with_type table o None = table
with_type table o (Some t) = typed_at table o.declaration o.at t

-- ---- rounds

abbrev pub owner_of : Option ℕ → Option ℕ
owner_of None = None
owner_of (Some d) = Some (narrow d)

abbrev pub stance_of : Option ℕ → Stance
stance_of None = stance.Outside
stance_of (Some d) = stance.Initial

-- an initial value names no member and no `self`
abbrev pub around : Table → Open → Context
around table o = record { table = table; owner = owner_of o.declaration; stance = stance_of o.declaration; locals = []; floor = 0 }

abbrev pub type_in : Core × Ty → Ty
type_in r = r.1

-- the type that the initial value has under the types that are known
unfoldable pub found : Table → Open → Option Ty
found table o = option_map type_in (infer o.value (around table o) None)

-- one that has no type gets the type that its initial value has so far
unfoldable pub turn : Table → Open → Table
turn table o = with_type table o (found table o)

-- each in turn from the first to the last
abbrev pub forwards : Table → List Open → Table
forwards table [] = table
forwards table (o ∷ os) = forwards (turn table o) os

-- each in turn from the last to the first
abbrev pub backwards : Table → List Open → Table
backwards table [] = table
backwards table (o ∷ os) = turn (backwards table os) o

-- a round goes there and back, so that a long chain of initial values, each of which names the next or the one before, takes one round
unfoldable pub next : List Open → Table → Table
next os table = backwards (forwards table os) os

abbrev pub rounds : List Open → ℕ → Table → Table
rounds os zero table = table
rounds os (suc n) table = next os (rounds os n table)

abbrev pub with_preferences : Table → Table
with_preferences table = record { declarations = table.declarations; environment = table.environment; preferences = preferences table.declarations; members = table.members; names = table.names; keys = table.keys }

-- The table with the types of all initial values. Each round that changes anything finds a type more, so there are as many
-- rounds as properties without a written type. On a circle no round finds a type.
unfoldable pub completed : Source → Table → Table
completed source table = with_preferences (rounds (opens source) (length (opens source)) table)

-- after that many rounds a round changes nothing, so they find every type that any number of rounds finds
abbrev pub Settles : Type 0
Settles = (source : Source) (table : Table) → next (opens source) (rounds (opens source) (length (opens source)) table) ≡ rounds (opens source) (length (opens source)) table
