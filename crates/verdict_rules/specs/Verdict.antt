-- Which program the bytes of a file spell, or why they spell none: nine questions, each about the whole file, and each asked only
-- where the ones before it have found nothing.
use Rattle.std.specs.Prelude.{◌≡◌, ◌⊎◌, ℕ, Bool, true, false, List, ◌∷◌, Option, Some, None, Result, Ok, Err, ⊤}
use Rattle.std.specs.List.{list_any}
use Rattle.sv_value.specs.declared.value.Value.TheVariants as value
use Rattle.swift_lex.specs.declared.fault.LexFault.TheVariants as lex
use Rattle.swift_lex.specs.Tokens.{Lexed, tokens}
use Rattle.swift_ast.specs.declared.piece.Source.{Source}
use Rattle.swift_parse.specs.declared.faults.ParseFault.{ParseFault}
use Rattle.swift_parse.specs.declared.faults.ParseFault.TheVariants as parse
use Rattle.swift_parse.specs.File.{IsAnswer}
use Rattle.swift_core.specs.declared.table.Table.{Table}
use Rattle.swift_core.specs.declared.table.Declaration.{Declaration}
use Rattle.swift_core.specs.declared.code.CoreMember.{CoreMember}
use Rattle.swift_core.specs.declared.term.Core.TheVariants as core
use Rattle.type_table.specs.Tables.{table_of}
use Rattle.known_rules.specs.Known.{completed}
use Rattle.type_twice.specs.Twice.{twice}
use Rattle.type_twice.specs.Deep.{recursive}
use Rattle.member_rules.specs.Shapes.{of_value}
use Rattle.source_parts.specs.Parts.{Part, parts_of}
use Rattle.part_rules.specs.Typed.{Typed, FirstUntyped}
use Rattle.part_rules.specs.Writers.{IsFirstWriter, member_lines}
use Rattle.verdict_rules.specs.declared.program.Program.{Program}
use Rattle.verdict_rules.specs.declared.refusal.Refusal.{Refusal}
use Rattle.verdict_rules.specs.declared.refusal.Refusal.TheVariants as refusal

abbrev pub Answer : Type 0
Answer = Result Program Refusal

-- ---- what a program is made of

-- the declarations of a source file, with the types that are written and those that are found
abbrev pub table_for : Source → Table
table_for source = completed source (table_of source)

-- the default of the environment key that is built in
abbrev pub built_in : CoreMember
built_in = of_value (core.Literal (value.Bool true))

-- the members of a program
abbrev pub members_of : List CoreMember → List CoreMember
members_of cores = built_in ∷ cores

abbrev pub program_of : Table → List CoreMember → Program
program_of table cores = record { table = table; members = members_of cores }

abbrev pub carries_main : Declaration → Bool
carries_main d = d.is_main

abbrev pub has_main : Table → Bool
has_main table = list_any carries_main table.declarations

-- ---- the questions, from the last one

-- does a declaration carry `@main`?
abbrev pub ByMain : Bool → Program → Answer → Type 0
ByMain true program a = a ≡ Ok program
ByMain false program a = a ≡ Err refusal.NoMain

-- which builder or computed property is the first that writes in its body?
abbrev pub ByWriter : Option ℕ → Program → Answer → Type 0
ByWriter (Some line) program a = a ≡ Err (refusal.WritesInBody line)
ByWriter None program a = ByMain (has_main program.table) program a

-- the cores of all parts, or the line of the first part that the typing rules refuse
abbrev pub IsChecked : Table → List Part → Result (List CoreMember) ℕ → Type 0
IsChecked table parts (Ok cores) = Typed table 0 parts cores
IsChecked table parts (Err line) = FirstUntyped table 0 parts line

-- what is the first that is not typed?
abbrev pub ByCores : Table → List Part → Result (List CoreMember) ℕ → Answer → Type 0
ByCores table parts (Err line) a = a ≡ Err (refusal.NotTyped line)
ByCores table parts (Ok cores) a = (found : Option ℕ) × IsFirstWriter found table (members_of cores) (member_lines parts) × ByWriter found (program_of table cores) a

abbrev pub ByTable : Table → List Part → Answer → Type 0
ByTable table parts a = (checked : Result (List CoreMember) ℕ) × IsChecked table parts checked × ByCores table parts checked a

-- which data struct is the first that holds itself?
abbrev pub ByRecursive : Option ℕ → Table → List Part → Answer → Type 0
ByRecursive (Some line) table parts a = a ≡ Err (refusal.Recursive line)
ByRecursive None table parts a = ByTable table parts a

-- what is the first that is declared twice?
abbrev pub ByTwice : Option ℕ → Source → Answer → Type 0
ByTwice (Some line) source a = a ≡ Err (refusal.Twice line)
ByTwice None source a = ByRecursive (recursive source (table_for source)) (table_for source) (parts_of source) a

-- what is the first fault of the grammar?
abbrev pub BySource : Result Source ParseFault → Answer → Type 0
BySource (Ok source) a = ByTwice (twice source) source a
BySource (Err (parse.Unbalanced line)) a = a ≡ Err (refusal.Unbalanced line)
BySource (Err (parse.TooNested line)) a = a ≡ Err (refusal.TooNested line)
BySource (Err (parse.NotADeclaration line)) a = a ≡ Err (refusal.NotADeclaration line)
BySource (Err parse.OutOfMemory) a = ⊥

-- where does no token begin?
abbrev pub ByTokens : Lexed → Answer → Type 0
ByTokens (Err (lex.At line col)) a = a ≡ Err (refusal.Lex line col)
ByTokens (Err lex.OutOfMemory) a = ⊥
ByTokens (Ok ts) a = (spelt : Result Source ParseFault) × IsAnswer ts spelt × BySource spelt a

unfoldable pub Judged : List ℕ → Answer → Type 0
Judged bytes a = ByTokens (tokens bytes) a

-- ---- the verdict

-- the bytes spell this program
abbrev pub SpellsProgram : List ℕ → Program → Type 0
SpellsProgram bytes program = Judged bytes (Ok program)

-- the bytes spell no program, and this is why
abbrev pub RefusedFor : List ℕ → Refusal → Type 0
RefusedFor bytes why = Judged bytes (Err why)

-- what is answered for a refusal; want of memory is left open
abbrev pub IsRefusal : List ℕ → Refusal → Type 0
IsRefusal bytes refusal.OutOfMemory = Unit {0}
IsRefusal bytes why = RefusedFor bytes why

-- the verdict on the bytes
abbrev pub IsVerdict : List ℕ → Answer → Type 0
IsVerdict bytes (Ok program) = SpellsProgram bytes program
IsVerdict bytes (Err why) = IsRefusal bytes why

-- the bytes spell a program
abbrev pub Accepted : List ℕ → Type 0
Accepted bytes = (program : Program) × SpellsProgram bytes program

-- memory ran out
abbrev pub IsMemory : Answer → Type 0
IsMemory (Err refusal.OutOfMemory) = Unit {0}
IsMemory _ = ⊥

-- the two answers are one, unless memory ran out
abbrev pub Agrees : Answer → Answer → Type 0
Agrees a b = (a ≡ b) ⊎ (IsMemory a ⊎ IsMemory b)

-- the answer is so, unless memory ran out
abbrev pub Unless : Answer → (Answer → Type 0) → Type 0
Unless (Err refusal.OutOfMemory) P = ⊤
Unless a P = P a
