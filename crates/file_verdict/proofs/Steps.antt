-- From one question to the next.
use Rattle.std.proofs.Common.{◌≡◌, ℕ, List, Option, Some, None, Ok, Err, refl, sym, ap, subst, ◌∙◌}
use Rattle.swift_lex.specs.declared.token.Token.{Token}
use Rattle.swift_lex.specs.declared.fault.LexFault.TheVariants as lex
use Rattle.swift_lex.specs.Tokens.{Lexed, tokens}
use Rattle.swift_ast.specs.declared.piece.Source.{Source}
use Rattle.swift_parse.specs.declared.faults.ParseFault.TheVariants as parse
use Rattle.swift_parse.specs.File.{IsAnswer}
use Rattle.swift_core.specs.declared.table.Table.{Table}
use Rattle.swift_core.specs.declared.code.CoreMember.{CoreMember}
use Rattle.type_twice.specs.Twice.{twice}
use Rattle.type_twice.specs.Deep.{recursive}
use Rattle.source_parts.specs.declared.part_ref.PartRef.{PartRef}
use Rattle.source_parts.specs.Parts.{Part, parts_of, parts_at}
use Rattle.part_rules.specs.Typed.{Typed, FirstUntyped}
use Rattle.part_rules.specs.Writers.{IsFirstWriter, member_lines}
use Rattle.verdict_rules.specs.declared.refusal.Refusal.TheVariants as refusal
use Rattle.verdict_rules.specs.Verdict.{Answer, Unless, members_of, table_for, ByWriter, ByCores, ByTable, ByRecursive, ByTwice, ByTokens, Judged, IsVerdict}

pub unless_is : (a : Answer) (P : Answer → Type 0) → P a → Unless a P
unless_is (Ok program) P h = h
unless_is (Err refusal.OutOfMemory) P h = tt
unless_is (Err (refusal.Lex line col)) P h = h
unless_is (Err (refusal.Unbalanced line)) P h = h
unless_is (Err (refusal.TooNested line)) P h = h
unless_is (Err (refusal.NotADeclaration line)) P h = h
unless_is (Err (refusal.Twice line)) P h = h
unless_is (Err (refusal.Recursive line)) P h = h
unless_is (Err (refusal.NotTyped line)) P h = h
unless_is (Err (refusal.WritesInBody line)) P h = h
unless_is (Err refusal.NoMain) P h = h

pub unless_map : (a : Answer) (P Q : Answer → Type 0) → ((v : Answer) → P v → Q v) → Unless a P → Unless a Q
unless_map (Ok program) P Q f h = f _ h
unless_map (Err refusal.OutOfMemory) P Q f h = tt
unless_map (Err (refusal.Lex line col)) P Q f h = f _ h
unless_map (Err (refusal.Unbalanced line)) P Q f h = f _ h
unless_map (Err (refusal.TooNested line)) P Q f h = f _ h
unless_map (Err (refusal.NotADeclaration line)) P Q f h = f _ h
unless_map (Err (refusal.Twice line)) P Q f h = f _ h
unless_map (Err (refusal.Recursive line)) P Q f h = f _ h
unless_map (Err (refusal.NotTyped line)) P Q f h = f _ h
unless_map (Err (refusal.WritesInBody line)) P Q f h = f _ h
unless_map (Err refusal.NoMain) P Q f h = f _ h

-- who writes in a body is known
pub writer_known : (found : Option ℕ) (table : Table) (cores members slice : List CoreMember) (parts : List Part) (a : Answer)
    → members ≡ members_of cores → slice ≡ members → IsFirstWriter found table slice (member_lines parts)
    → ByWriter found (record { table = table; members = members }) a → Unless a (ByCores table parts (Ok cores))
writer_known found table cores members slice parts a e d f h =
    unless_is a (ByCores table parts (Ok cores)) (
      found,
      subst (λ (ms : List CoreMember). IsFirstWriter found table ms (member_lines parts)) (d ∙ e) f,
      subst (λ (ms : List CoreMember). ByWriter found (record { table = table; members = ms }) a) e h,
    )

-- all parts are typed
pub cores_known : (table : Table) (parts : List Part) (cores : List CoreMember) (a : Answer)
    → Typed table 0 parts cores → Unless a (ByCores table parts (Ok cores)) → Unless a (ByTable table parts)
cores_known table parts cores a t h = unless_map a (ByCores table parts (Ok cores)) (ByTable table parts) (λ v p. (Ok cores, t, p)) h

-- a part is not typed
pub line_known : (table : Table) (parts : List Part) (line : ℕ) → FirstUntyped table 0 parts line → ByTable table parts (Err (refusal.NotTyped line))
line_known table parts line f = (Err line, f, refl)

-- a data struct holds itself
pub recursive_known : (source : Source) (table : Table) (line : ℕ) → table ≡ table_for source → Some line ≡ recursive source table → ByTwice None source (Err (refusal.Recursive line))
recursive_known source table line t r =
    let e : recursive source (table_for source) ≡ Some line = ap (λ (v : Table). recursive source v) (sym t) ∙ sym r in
    subst (λ (o : Option ℕ). ByRecursive o (table_for source) (parts_of source) (Err (refusal.Recursive line))) (sym e) refl

-- none holds itself
pub table_known : (source : Source) (table : Table) (refs slice : List PartRef) (a : Answer) → table ≡ table_for source → None ≡ recursive source table
    → parts_at refs ≡ parts_of source → slice ≡ refs → Unless a (ByTable table (parts_at slice)) → Unless a (ByTwice None source)
table_known source table refs slice a t r p d h = unless_map a (ByTable table (parts_at slice)) (ByTwice None source) by h
  where
    none : recursive source (table_for source) ≡ None
    none = ap (λ (v : Table). recursive source v) (sym t) ∙ sym r

    same : parts_at slice ≡ parts_of source
    same = ap (λ (v : List PartRef). parts_at v) d ∙ p

    by : (v : Answer) → ByTable table (parts_at slice) v → ByRecursive (recursive source (table_for source)) (table_for source) (parts_of source) v
    by v q =
        subst (λ (o : Option ℕ). ByRecursive o (table_for source) (parts_of source) v) (sym none)
        (subst (λ (x : Table). ByTable x (parts_of source) v) t (subst (λ (ps : List Part). ByTable table ps v) same q))

-- something is declared twice
pub twice_known : (source : Source) (line : ℕ) → Some line ≡ twice source → ByTwice (twice source) source (Err (refusal.Twice line))
twice_known source line e = subst (λ (o : Option ℕ). ByTwice o source (Err (refusal.Twice line))) e refl

-- nothing is declared twice
pub once_known : (source : Source) (a : Answer) → None ≡ twice source → Unless a (ByTwice None source) → Unless a (ByTwice (twice source) source)
once_known source a e h = unless_map a (ByTwice None source) (ByTwice (twice source) source) (λ v p. subst (λ (o : Option ℕ). ByTwice o source v) e p) h

-- the tokens spell a source
pub source_known : (ts : List Token) (source : Source) (a : Answer) → IsAnswer ts (Ok source) → Unless a (ByTwice (twice source) source) → Unless a (ByTokens (Ok ts))
source_known ts source a x h = unless_map a (ByTwice (twice source) source) (ByTokens (Ok ts)) (λ v p. (Ok source, x, p)) h

pub unbalanced_known : (ts : List Token) (line : ℕ) → IsAnswer ts (Err (parse.Unbalanced line)) → ByTokens (Ok ts) (Err (refusal.Unbalanced line))
unbalanced_known ts line x = (Err (parse.Unbalanced line), x, refl)

pub nested_known : (ts : List Token) (line : ℕ) → IsAnswer ts (Err (parse.TooNested line)) → ByTokens (Ok ts) (Err (refusal.TooNested line))
nested_known ts line x = (Err (parse.TooNested line), x, refl)

pub no_declaration_known : (ts : List Token) (line : ℕ) → IsAnswer ts (Err (parse.NotADeclaration line)) → ByTokens (Ok ts) (Err (refusal.NotADeclaration line))
no_declaration_known ts line x = (Err (parse.NotADeclaration line), x, refl)

judged_by : (bytes : List ℕ) (t : Lexed) (a : Answer) → tokens bytes ≡ t → ByTokens t a → Judged bytes a
unfolding Judged
judged_by bytes t a e h = subst (λ (v : Lexed). ByTokens v a) (sym e) h

-- no token begins there
pub lex_known : (bytes : List ℕ) (line col : ℕ) → tokens bytes ≡ Err (lex.At line col) → Judged bytes (Err (refusal.Lex line col))
lex_known bytes line col e = judged_by bytes (Err (lex.At line col)) (Err (refusal.Lex line col)) e refl

-- the tokens are known
pub tokens_known : (bytes : List ℕ) (t : Lexed) (a : Answer) → tokens bytes ≡ t → Unless a (ByTokens t) → IsVerdict bytes a
tokens_known bytes t (Ok program) e h = judged_by bytes t _ e h
tokens_known bytes t (Err refusal.OutOfMemory) e h = tt
tokens_known bytes t (Err (refusal.Lex line col)) e h = judged_by bytes t _ e h
tokens_known bytes t (Err (refusal.Unbalanced line)) e h = judged_by bytes t _ e h
tokens_known bytes t (Err (refusal.TooNested line)) e h = judged_by bytes t _ e h
tokens_known bytes t (Err (refusal.NotADeclaration line)) e h = judged_by bytes t _ e h
tokens_known bytes t (Err (refusal.Twice line)) e h = judged_by bytes t _ e h
tokens_known bytes t (Err (refusal.Recursive line)) e h = judged_by bytes t _ e h
tokens_known bytes t (Err (refusal.NotTyped line)) e h = judged_by bytes t _ e h
tokens_known bytes t (Err (refusal.WritesInBody line)) e h = judged_by bytes t _ e h
tokens_known bytes t (Err refusal.NoMain) e h = judged_by bytes t _ e h
