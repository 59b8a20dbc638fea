-- What is so where the bytes of a file spell a program: each question about the file has found nothing.
use Rattle.std.specs.Prelude.{◌≡◌, ℕ, true, false, Bool, List, Option, Some, None, Result, Ok, Err}
use Rattle.std.proofs.Common.{refl, subst}
use Rattle.swift_lex.specs.declared.token.Token.{Token}
use Rattle.swift_lex.specs.declared.fault.LexFault.TheVariants as lex
use Rattle.swift_lex.specs.Tokens.{Lexed, tokens}
use Rattle.swift_ast.specs.declared.piece.Source.{Source}
use Rattle.swift_parse.specs.declared.faults.ParseFault.{ParseFault}
use Rattle.swift_parse.specs.declared.faults.ParseFault.TheVariants as parse
use Rattle.swift_parse.specs.File.{IsAnswer}
use Rattle.swift_core.specs.declared.table.Table.{Table}
use Rattle.swift_core.specs.declared.code.CoreMember.{CoreMember}
use Rattle.type_twice.specs.Twice.{twice}
use Rattle.type_twice.specs.Deep.{recursive}
use Rattle.source_parts.specs.Parts.{Part, parts_of}
use Rattle.part_rules.specs.Typed.{Typed}
use Rattle.part_rules.specs.Writers.{IsFirstWriter, NoWriter, member_lines}
use Rattle.verdict_rules.specs.declared.program.Program.{Program}
use Rattle.verdict_rules.specs.Verdict.{table_for, members_of, program_of, has_main, ByMain, ByWriter, IsChecked, ByCores, ByTable, ByRecursive, ByTwice, BySource, ByTokens, Judged, SpellsProgram}

-- the parts are typed, none writes in its body, and there is a main program
pub record Checked (table : Table) (parts : List Part) (p : Program) : Type 0 where
  pub cores : List CoreMember
  pub typed : Typed table 0 parts cores
  pub no_writer : NoWriter table (members_of cores) (member_lines parts)
  pub main : has_main table ≡ true
  pub is : p ≡ program_of table cores

-- and this is so of the source file, in which nothing is declared twice and no data struct holds itself
pub record Spelt (bytes : List ℕ) (p : Program) : Type 0 where
  pub ts : List Token
  pub lexed : tokens bytes ≡ Ok ts
  pub source : Source
  pub spelled : IsAnswer ts (Ok source)
  pub once : twice source ≡ None
  pub shallow : recursive source (table_for source) ≡ None
  pub checked : Checked (table_for source) (parts_of source) p

-- ---- from the last question to the first

by_main : (b : Bool) (q p : Program) → ByMain b q (Ok p) → (b ≡ true) × (p ≡ q)
by_main true q p e = let h : p ≡ q = cc in (refl, h)
by_main false q p e = cc

by_writer : (o : Option ℕ) (q p : Program) → ByWriter o q (Ok p) → (o ≡ None) × (has_main q.table ≡ true) × (p ≡ q)
by_writer (Some line) q p e = cc
by_writer None q p e = let r = by_main (has_main q.table) q p e in (refl, r.0, r.1)

by_cores : (table : Table) (parts : List Part) (p : Program) (found : Result (List CoreMember) ℕ) → IsChecked table parts found → ByCores table parts found (Ok p) → Checked table parts p
by_cores table parts p (Err line) c e = cc
by_cores table parts p (Ok cores) c (found, w, e) =
    let r = by_writer found (program_of table cores) p e in
    record {
      cores = cores;
      typed = c;
      no_writer = subst (λ (o : Option ℕ). IsFirstWriter o table (members_of cores) (member_lines parts)) r.0 w;
      main = r.1;
      is = r.2;
    }

by_table : (table : Table) (parts : List Part) (p : Program) → ByTable table parts (Ok p) → Checked table parts p
by_table table parts p (found, c, e) = by_cores table parts p found c e

by_recursive : (o : Option ℕ) (table : Table) (parts : List Part) (p : Program) → ByRecursive o table parts (Ok p) → (o ≡ None) × Checked table parts p
by_recursive (Some line) table parts p e = cc
by_recursive None table parts p e = (refl, by_table table parts p e)

by_twice : (o : Option ℕ) (source : Source) (p : Program) → ByTwice o source (Ok p) → (o ≡ None) × (recursive source (table_for source) ≡ None) × Checked (table_for source) (parts_of source) p
by_twice (Some line) source p e = cc
by_twice None source p e = let r = by_recursive (recursive source (table_for source)) (table_for source) (parts_of source) p e in (refl, r.0, r.1)

by_source : (bytes : List ℕ) (ts : List Token) (p : Program) (spelt : Result Source ParseFault) → tokens bytes ≡ Ok ts → IsAnswer ts spelt → BySource spelt (Ok p) → Spelt bytes p
by_source bytes ts p (Ok source) lexed s e =
    let r = by_twice (twice source) source p e in
    record { ts = ts; lexed = lexed; source = source; spelled = s; once = r.0; shallow = r.1; checked = r.2 }
by_source bytes ts p (Err (parse.Unbalanced line)) lexed s e = cc
by_source bytes ts p (Err (parse.TooNested line)) lexed s e = cc
by_source bytes ts p (Err (parse.NotADeclaration line)) lexed s e = cc
by_source bytes ts p (Err parse.OutOfMemory) lexed s e = absurd e

by_tokens : (bytes : List ℕ) (p : Program) (l : Lexed) → tokens bytes ≡ l → ByTokens l (Ok p) → Spelt bytes p
by_tokens bytes p (Err (lex.At line col)) lexed e = cc
by_tokens bytes p (Err lex.OutOfMemory) lexed e = absurd e
by_tokens bytes p (Ok ts) lexed (spelt, s, e) = by_source bytes ts p spelt lexed s e

pub spelt_by : (bytes : List ℕ) (p : Program) → SpellsProgram bytes p → Spelt bytes p
unfolding Judged
spelt_by bytes p e = by_tokens bytes p (tokens bytes) refl e
