-- There is one verdict.
use Rattle.std.proofs.Common.{◌≡◌, ◌⊎◌, ℕ, ◌<◌, Bool, true, false, List, [], Option, Some, None, Result, Ok, Err, slice_get, refl, sym, ap, subst, ◌∙◌, inl, inr}
use Rattle.std.proofs.lemmas.Option.{slice_get_within}
use Rattle.std.proofs.lemmas.Bool.{cases_order}
use Rattle.swift_lex.specs.declared.fault.LexFault.TheVariants as lex
use Rattle.swift_lex.specs.Tokens.{Lexed, tokens}
use Rattle.swift_ast.specs.declared.piece.Source.{Source}
use Rattle.swift_parse.specs.declared.faults.ParseFault.{ParseFault}
use Rattle.swift_parse.specs.declared.faults.ParseFault.TheVariants as parse
use Rattle.swift_parse.specs.File.{Agrees as SameSource, IsMemory as NoSource}
use Rattle.swift_parse.proofs.Files.{one_answer}
use Rattle.swift_core.specs.declared.table.Table.{Table}
use Rattle.swift_core.specs.declared.code.CoreMember.{CoreMember}
use Rattle.type_twice.specs.Twice.{twice}
use Rattle.type_twice.specs.Deep.{recursive}
use Rattle.source_parts.specs.Parts.{Part, parts_of}
use Rattle.part_rules.specs.Writers.{WritesInBody, FirstWriter, IsFirstWriter, member_lines}
use Rattle.part_rules.specs.Founds.{typed_to, untyped_to}
use Rattle.verdict_rules.specs.declared.program.Program.{Program}
use Rattle.verdict_rules.specs.declared.refusal.Refusal.TheVariants as refusal
use Rattle.verdict_rules.specs.Verdict.{Answer, table_for, members_of, program_of, has_main, ByMain, ByWriter, IsChecked, ByCores, ByTable, ByRecursive, ByTwice, BySource, ByTokens, Judged, IsVerdict, IsMemory, Agrees}

both : (a b c : Answer) → a ≡ c → b ≡ c → a ≡ b
both a b c h k = h ∙ sym k

by_main : (m : Bool) (program : Program) (a b : Answer) → ByMain m program a → ByMain m program b → a ≡ b
by_main true program a b h k = both a b _ h k
by_main false program a b h k = both a b _ h k

by_writer : (o : Option ℕ) (program : Program) (a b : Answer) → ByWriter o program a → ByWriter o program b → a ≡ b
by_writer (Some line) program a b h k = both a b _ h k
by_writer None program a b h k = by_main (has_main program.table) program a b h k

-- the first writer is one
first_before : (table : Table) (members : List CoreMember) (lines : List ℕ) (l m : ℕ) (f : FirstWriter table members lines l) (g : FirstWriter table members lines m) → (f.at ≡ g.at) ⊎ ((f.at < g.at) ⊎ (g.at < f.at)) → l ≡ m
first_before table members lines l m f g (inr (inl h)) = absurd (g.none_before f.at h f.writes)
first_before table members lines l m f g (inl e) =
    let s : slice_get lines f.at ≡ Some l = f.stands in
    let t : slice_get lines g.at ≡ Some m = g.stands in
    cc
first_before table members lines l m f g (inr (inr h)) = absurd (f.none_before g.at h g.writes)

one_writer : (table : Table) (members : List CoreMember) (lines : List ℕ) (o p : Option ℕ) → IsFirstWriter o table members lines → IsFirstWriter p table members lines → o ≡ p
one_writer table members lines None None f g = refl
one_writer table members lines None (Some m) f g = absurd (f g.at (slice_get_within lines g.at m g.stands) g.writes)
one_writer table members lines (Some l) None f g = absurd (g f.at (slice_get_within lines f.at l f.stands) f.writes)
one_writer table members lines (Some l) (Some m) f g = ap (λ (n : ℕ). Some n) (first_before table members lines l m f g (cases_order f.at g.at))

-- the checks of all parts have one outcome
one_check : (table : Table) (parts : List Part) (o p : Result (List CoreMember) ℕ) → IsChecked table parts o → IsChecked table parts p → o ≡ p
one_check table parts (Ok xs) (Ok ys) h k = sym (typed_to table parts [] xs h) ∙ typed_to table parts [] ys k
one_check table parts (Ok xs) (Err m) h k = sym (typed_to table parts [] xs h) ∙ untyped_to table parts [] m k
one_check table parts (Err l) (Ok ys) h k = sym (untyped_to table parts [] l h) ∙ typed_to table parts [] ys k
one_check table parts (Err l) (Err m) h k = sym (untyped_to table parts [] l h) ∙ untyped_to table parts [] m k

by_cores : (table : Table) (parts : List Part) (o : Result (List CoreMember) ℕ) (a b : Answer) → ByCores table parts o a → ByCores table parts o b → a ≡ b
by_cores table parts (Err line) a b h k = both a b _ h k
by_cores table parts (Ok cores) a b (f, w, x) (g, v, y) =
    let e : g ≡ f = one_writer table (members_of cores) (member_lines parts) g f v w in
    by_writer f (program_of table cores) a b x (subst (λ (o : Option ℕ). ByWriter o (program_of table cores) b) e y)

by_table : (table : Table) (parts : List Part) (a b : Answer) → ByTable table parts a → ByTable table parts b → a ≡ b
by_table table parts a b (f, w, x) (g, v, y) =
    let e : g ≡ f = one_check table parts g f v w in
    by_cores table parts f a b x (subst (λ (o : Result (List CoreMember) ℕ). ByCores table parts o b) e y)

by_recursive : (o : Option ℕ) (table : Table) (parts : List Part) (a b : Answer) → ByRecursive o table parts a → ByRecursive o table parts b → a ≡ b
by_recursive (Some line) table parts a b h k = both a b _ h k
by_recursive None table parts a b h k = by_table table parts a b h k

by_twice : (o : Option ℕ) (source : Source) (a b : Answer) → ByTwice o source a → ByTwice o source b → a ≡ b
by_twice (Some line) source a b h k = both a b _ h k
by_twice None source a b h k = by_recursive (recursive source (table_for source)) (table_for source) (parts_of source) a b h k

by_source : (r : Result Source ParseFault) (a b : Answer) → BySource r a → BySource r b → a ≡ b
by_source (Ok source) a b h k = by_twice (twice source) source a b h k
by_source (Err (parse.Unbalanced line)) a b h k = both a b _ h k
by_source (Err (parse.TooNested line)) a b h k = both a b _ h k
by_source (Err (parse.NotADeclaration line)) a b h k = both a b _ h k
by_source (Err parse.OutOfMemory) a b h k = absurd h

no_memory : (r : Result Source ParseFault) (a : Answer) → NoSource r → BySource r a → ⊥
no_memory (Ok source) a m h = m
no_memory (Err (parse.Unbalanced line)) a m h = m
no_memory (Err (parse.TooNested line)) a m h = m
no_memory (Err (parse.NotADeclaration line)) a m h = m
no_memory (Err parse.OutOfMemory) a m h = h

by_answers : (r s : Result Source ParseFault) (a b : Answer) → SameSource s r → BySource r a → BySource s b → a ≡ b
by_answers r s a b (inl e) h k = by_source r a b h (subst (λ (v : Result Source ParseFault). BySource v b) e k)
by_answers r s a b (inr (inl m)) h k = absurd (no_memory s b m k)
by_answers r s a b (inr (inr m)) h k = absurd (no_memory r a m h)

by_tokens : (t : Lexed) (a b : Answer) → ByTokens t a → ByTokens t b → a ≡ b
by_tokens (Err (lex.At line col)) a b h k = both a b _ h k
by_tokens (Err lex.OutOfMemory) a b h k = absurd h
by_tokens (Ok ts) a b (r, x, h) (s, y, k) = by_answers r s a b (one_answer ts s r y x) h k

-- the bytes are judged in one way
pub one_judgement : (bytes : List ℕ) (a b : Answer) → Judged bytes a → Judged bytes b → a ≡ b
unfolding Judged
one_judgement bytes a b h k = by_tokens (tokens bytes) a b h k

-- memory ran out, or the bytes are judged so
judged : (bytes : List ℕ) (a : Answer) → IsVerdict bytes a → IsMemory a ⊎ Judged bytes a
judged bytes (Ok program) h = inr h
judged bytes (Err refusal.OutOfMemory) h = inl tt
judged bytes (Err (refusal.Lex line col)) h = inr h
judged bytes (Err (refusal.Unbalanced line)) h = inr h
judged bytes (Err (refusal.TooNested line)) h = inr h
judged bytes (Err (refusal.NotADeclaration line)) h = inr h
judged bytes (Err (refusal.Twice line)) h = inr h
judged bytes (Err (refusal.Recursive line)) h = inr h
judged bytes (Err (refusal.NotTyped line)) h = inr h
judged bytes (Err (refusal.WritesInBody line)) h = inr h
judged bytes (Err refusal.NoMain) h = inr h

agree : (bytes : List ℕ) (a b : Answer) → IsMemory a ⊎ Judged bytes a → IsMemory b ⊎ Judged bytes b → Agrees a b
agree bytes a b (inl m) k = inr (inl m)
agree bytes a b (inr h) (inl m) = inr (inr m)
agree bytes a b (inr h) (inr k) = inl (one_judgement bytes a b h k)

-- any two verdicts on the bytes are one, unless memory ran out
pub one_verdict : (bytes : List ℕ) (a b : Answer) → IsVerdict bytes a → IsVerdict bytes b → Agrees a b
one_verdict bytes a b h k = agree bytes a b (judged bytes a h) (judged bytes b k)
