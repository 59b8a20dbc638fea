-- Which piece of code a number names: first the code of each member, by its place, and then the blocks of all members, in order.
use Rattle.std.specs.Prelude.{ℕ, zero, suc, ◌+◌, ◌-◌, List, [], ◌∷◌, ◌++◌, length, take, Option, Some, None, nat_lt, slice_get, refl, if◌then◌else◌}
use Rattle.std.specs.Coded.{Coded, code_by, coded×, coded_list}
use Rattle.std.specs.List.{flat_map}
use Rattle.std.proofs.Math.ListN.{replicate}
use Rattle.swift_core.specs.contracts.code.CoreMember as member_row
use Rattle.swift_core.specs.contracts.table.Table as table_row
use Rattle.swift_core.specs.declared.code.Code.{Code}
use Rattle.swift_core.specs.declared.code.CoreMember.{CoreMember}
use Rattle.swift_core.specs.declared.table.MemberPlace.{MemberPlace}
use Rattle.swift_core.specs.declared.table.Table.{Table}

-- What a program is: its declarations, and the code of the built-in environment key and of each member.
pub record Parts : Type 0 where
  pub table : Table
  pub members : List CoreMember

-- it is stored as the pair of its fields
abbrev pub parts_code : Coded Parts
parts_code =
    code_by (Table × List CoreMember) (coded× table_row.the_row.coded (coded_list member_row.the_row.coded)) (λ p. (p.table, p.members))
    (λ p. record { table = p.0; members = p.1 }) (λ _. refl)

-- the blocks of all members, in order
abbrev pub blocks_of : List CoreMember → List Code
blocks_of = flat_map (λ (m : CoreMember). m.blocks)

abbrev pub main_of : Option CoreMember → Option Code
main_of None = None
main_of (Some m) = m.code

abbrev pub code_in : List CoreMember → ℕ → Option Code
code_in members n = if nat_lt n (length members) then main_of (slice_get members n) else slice_get (blocks_of members) (n - length members)

-- the piece of code with this number, if there is one
abbrev pub code_at : Parts → ℕ → Option Code
code_at p = code_in p.members

-- for each block of the members, of which the first has this number, the number of its member
unfoldable pub homes_from : ℕ → List CoreMember → List ℕ
homes_from first [] = []
homes_from first (m ∷ ms) = replicate (length m.blocks) first ++ homes_from (first + 1) ms

abbrev pub member_in : List CoreMember → ℕ → Option ℕ
member_in members n = if nat_lt n (length members) then Some n else slice_get (homes_from 0 members) (n - length members)

-- the number of the member that a piece of code is of
abbrev pub member_at : Parts → ℕ → Option ℕ
member_at p = member_in p.members

-- the number of the first block of a member
abbrev pub first_block : List CoreMember → ℕ → ℕ
first_block members i = length members + length (blocks_of (take i members))

abbrev pub numbered : ℕ → ℕ → Option CoreMember → Option ℕ
numbered first block None = None
numbered first block (Some m) = if nat_lt block (length m.blocks) then Some (first + block) else None

abbrev pub block_in : List CoreMember → ℕ → Option ℕ → Option ℕ
block_in members block None = None
block_in members block (Some i) = numbered (first_block members i) block (slice_get members i)

-- the number of a block of the member that a piece of code is of
abbrev pub block_id : Parts → ℕ → ℕ → Option ℕ
block_id p code block = block_in p.members block (member_at p code)

abbrev pub declaration_of : Option MemberPlace → Option ℕ
declaration_of None = None
declaration_of (Some place) = place.declaration

-- the declaration of a member by its number: number 0 is the default of the built-in key
abbrev pub owner_of : Table → Option ℕ → Option ℕ
owner_of table None = None
owner_of table (Some zero) = None
owner_of table (Some (suc i)) = declaration_of (slice_get table.members i)

-- the declaration whose member a piece of code is of
abbrev pub owner_at : Parts → ℕ → Option ℕ
owner_at p n = owner_of p.table (member_at p n)
